use Rattle.std.proofs.Common.{◌∙◌, ap, ℕ}
use Rattle.std.specs.List.{list_any}
use Rattle.thr_parts.specs.declared.row.Seat.{Seat}
use Rattle.thr_parts.specs.Rows.{Rows}
use Rattle.thr_parts.specs.Dispatch.{can_run, some_can_run}
use Rattle.thr_rows.proofs.AbleLaws.{any_able}
use Rattle.thr_rows.proofs.rows.Rows.some_can_run.Goals as goal

pub returns : goal.returns
returns c =
    c.any_can_run.ensures ∙ ap (list_any (λ (e : ℕ × Seat). can_run e.1.place)) c.able.ensures.entries ∙ any_able c.self.inside.seats ∙ ap (λ (r : Rows). some_can_run r) c.self.view_is

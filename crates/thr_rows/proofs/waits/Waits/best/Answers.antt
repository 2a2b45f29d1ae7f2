use Rattle.std.proofs.Common.{◌∙◌, ap, ℕ}
use Rattle.std.specs.List.{filter}
use Rattle.thr_parts.specs.declared.row.Seat.{Seat}
use Rattle.thr_parts.specs.Tables.{Table}
use Rattle.thr_parts.specs.Rows.{place_in, best_of}
use Rattle.thr_rows.proofs.WaitLaws.{first_is_best}
use Rattle.thr_rows.proofs.waits.Waits.best.Goals as goal

pub returns : goal.returns
returns c =
    c.first_in.ensures ∙ first_is_best (λ (e : ℕ × Seat). place_in c.args.row e.1.place) c.self.inside.queue.items c.self.invariant.0
    ∙ ap (λ (m : Table Seat). best_of (filter (λ (e : ℕ × Seat). place_in c.args.row e.1.place) m)) c.self.view_is

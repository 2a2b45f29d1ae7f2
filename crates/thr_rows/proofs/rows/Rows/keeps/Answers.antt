use Rattle.std.proofs.Common.{◌∙◌, ap, sym, subst}
use Rattle.thr_parts.specs.declared.row.Seat.{Seat}
use Rattle.thr_parts.specs.Tables.{Table, IsCanonical}
use Rattle.thr_parts.specs.Rows.{Rows}
use Rattle.thr_rows.proofs.BestLaws.{standing_kept}
use Rattle.thr_rows.proofs.rows.Rows.keeps.Goals as goal

pub returns-then-not-is_running : goal.returns-then-not-is_running
returns-then-not-is_running c =
    standing_kept c.args.self.now c.args.t c.args.fifo c.in-Some.seat
    (subst (λ (m : Table Seat). IsCanonical m) (ap (λ (r : Rows). r.seats) c.self.view_is) c.len-rises.ensures.rises)
    c.in-Some.ensures.seat (sym c.is_running.ensures ∙ c.if-not-is_running.true)

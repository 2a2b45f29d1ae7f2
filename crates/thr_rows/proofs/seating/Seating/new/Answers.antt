use Rattle.std.proofs.Common.{◌∙◌, ap, sym}
use Rattle.thr_parts.specs.declared.row.Seat.{Seat}
use Rattle.thr_parts.specs.Tables.{Table}
use Rattle.thr_rows.specs.Able.{able_of}
use Rattle.thr_rows.specs.Waits.{waiting_of}
use Rattle.thr_rows.proofs.AbleLaws.{able_none, waiting_none}
use Rattle.thr_rows.proofs.seating.Seating.new.Goals as goal

pub invariant_of-result : goal.invariant_of-result
invariant_of-result c = (
  c.in_ok-able.ensures ∙ able_none ∙ sym (ap able_of c.in_ok-all.ensures),
  c.in_ok-waits.ensures ∙ waiting_none ∙ sym (ap (λ (m : Table Seat). waiting_of m) c.in_ok-all.ensures),
)

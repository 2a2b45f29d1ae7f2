use Rattle.std.proofs.Common.{◌∙◌, ap, sym, subst}
use Rattle.thr_parts.specs.declared.row.Seat.{Seat}
use Rattle.thr_parts.specs.Tables.{Table, has, cut, IsCanonical}
use Rattle.thr_rows.specs.Able.{able_of}
use Rattle.thr_rows.specs.Waits.{is_waiting, waiting_of}
use Rattle.thr_rows.proofs.AbleLaws.{able_cut, waiting_known, canonical_waiting, waiting_cut}
use Rattle.thr_rows.proofs.seating.Seating.cut.Goals as goal

pub leave_wait-requires-clause-known : goal.leave_wait-requires-clause-known
leave_wait-requires-clause-known c =
    ap (λ (m : Table Seat). has m c.args.t.0) c.self.invariant.1 ∙ waiting_known c.self.inside.all c.args.t.0 c.len-rises.ensures.rises ∙ ap is_waiting (sym c.cut-old.ensures.had)

pub leave_wait-requires-clause-rises : goal.leave_wait-requires-clause-rises
leave_wait-requires-clause-rises c =
    subst (λ (m : Table Seat). IsCanonical m) (sym c.self.invariant.1) (canonical_waiting c.self.inside.all c.len-rises.ensures.rises)

pub invariant_of-self : goal.invariant_of-self
invariant_of-self c = (
  c.cut.ensures.value ∙ ap (λ (m : Table Seat). cut m c.args.t.0) c.self.invariant.0 ∙ able_cut c.self.inside.all c.args.t.0 ∙ sym (ap able_of c.cut-old.ensures.value),
  c.leave_wait.ensures ∙ ap (λ (m : Table Seat). cut m c.args.t.0) c.self.invariant.1 ∙ waiting_cut c.self.inside.all c.args.t.0
      ∙ sym (ap (λ (m : Table Seat). waiting_of m) c.cut-old.ensures.value),
)

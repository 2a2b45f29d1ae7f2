use Rattle.std.proofs.Common.{◌≡◌, ◌<◌, ◌∙◌, ap, sym, subst, arith, length, true}
use Rattle.thr_parts.specs.declared.row.Seat.{Seat}
use Rattle.thr_parts.specs.Tables.{Table, has, put, cut, IsCanonical}
use Rattle.thr_parts.specs.Rows.{most}
use Rattle.thr_tables.specs.Places.{has_place}
use Rattle.thr_rows.specs.Able.{able_of}
use Rattle.thr_rows.specs.Waits.{is_waiting, waiting_of}
use Rattle.thr_rows.proofs.AbleLaws.{able_place, able_put, able_put_waiting, waiting_known, canonical_waiting, waiting_put_able, waiting_put, waiting_room}
use Rattle.thr_rows.proofs.RememberedLaws.{has_cut}
use Rattle.thr_rows.proofs.seating.Seating.put.Goals as goal

pub leave_wait-requires-clause-known : goal.leave_wait-requires-clause-known
leave_wait-requires-clause-known c =
    ap (λ (m : Table Seat). has m c.args.t.0) c.self.invariant.1 ∙ waiting_known c.self.inside.all c.args.t.0 c.len-rises.ensures.rises ∙ ap is_waiting (sym c.put-old.ensures.had)

pub leave_wait-requires-clause-rises : goal.leave_wait-requires-clause-rises
leave_wait-requires-clause-rises c =
    subst (λ (m : Table Seat). IsCanonical m) (sym c.self.invariant.1) (canonical_waiting c.self.inside.all c.len-rises.ensures.rises)

pub put-requires : goal.put-requires
put-requires c = (
  omega arith,
  ap (λ (m : Table Seat). has_place m c.args.t.0 most) c.self.invariant.0
      ∙ able_place c.self.inside.all c.args.t.0 most c.len-rises.ensures.rises c.len-rises.ensures.within (subst (λ (m : Table Seat). has_place m c.args.t.0 most ≡ true) (sym c.self.view_is) c.requires.room),
)

pub invariant_of-self : goal.invariant_of-self
invariant_of-self c = (
  c.put.ensures ∙ ap (λ (m : Table Seat). put m c.args.t.0 c.args.seat) c.self.invariant.0
      ∙ able_put c.self.inside.all c.args.t.0 c.args.seat c.len-rises.ensures.rises (sym c.can_run.ensures ∙ c.if-can_run.true) ∙ sym (ap able_of c.put-old.ensures.value),
  c.leave_wait.ensures ∙ ap (λ (m : Table Seat). cut m c.args.t.0) c.self.invariant.1
      ∙ waiting_put_able c.self.inside.all c.args.t.0 c.args.seat c.len-rises.ensures.rises (sym c.can_run.ensures ∙ c.if-can_run.true)
      ∙ sym (ap (λ (m : Table Seat). waiting_of m) c.put-old.ensures.value),
)

pub add-requires-clause-fresh : goal.add-requires-clause-fresh
add-requires-clause-fresh c = ap (λ (m : Table Seat). has m c.args.t.0) c.leave_wait.ensures ∙ has_cut c.self.inside.waits c.args.t.0

pub add-requires-clause-room : goal.add-requires-clause-room
add-requires-clause-room c =
    subst (λ (m : Table Seat). length m < most) (sym (c.leave_wait.ensures ∙ ap (λ (m : Table Seat). cut m c.args.t.0) c.self.invariant.1))
    (waiting_room c.self.inside.all c.args.t.0 most c.len-rises.ensures.rises c.len-rises.ensures.within (subst (λ (m : Table Seat). has_place m c.args.t.0 most ≡ true) (sym c.self.view_is) c.requires.room))

pub invariant_of-self-2 : goal.invariant_of-self-2
invariant_of-self-2 c = (
  c.cut.ensures.value ∙ ap (λ (m : Table Seat). cut m c.args.t.0) c.self.invariant.0
      ∙ able_put_waiting c.self.inside.all c.args.t.0 c.args.seat c.len-rises.ensures.rises (sym c.can_run.ensures ∙ c.if-can_run.false) ∙ sym (ap able_of c.put-old.ensures.value),
  c.add.ensures ∙ ap (λ (m : Table Seat). put m c.args.t.0 c.args.seat) (c.leave_wait.ensures ∙ ap (λ (m : Table Seat). cut m c.args.t.0) c.self.invariant.1)
      ∙ waiting_put c.self.inside.all c.args.t.0 c.args.seat c.len-rises.ensures.rises (sym c.can_run.ensures ∙ c.if-can_run.false)
      ∙ sym (ap (λ (m : Table Seat). waiting_of m) c.put-old.ensures.value),
)

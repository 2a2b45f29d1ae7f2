use Rattle.std.proofs.Common.{◌≡◌, ◌<◌, ◌∙◌, sym, subst, arith, length, true, false}
use Rattle.thr_parts.specs.declared.row.Seat.{Seat}
use Rattle.thr_parts.specs.Tables.{Table, has}
use Rattle.thr_parts.specs.Rows.{most}
use Rattle.thr_tables.specs.Places.{has_place}
use Rattle.thr_rows.specs.Remembered.{seated}
use Rattle.thr_rows.proofs.RememberedLaws.{count_known, count_new, free_place}
use Rattle.thr_rows.proofs.remembered.Remembered.put.Goals as goal

pub invariant_of-self : goal.invariant_of-self
invariant_of-self c = (
  count_known c.self.inside.count c.args.t.0 c.args.seat (seated c.self.inside.entries) (seated c.store.new.entries) c.find-old.ensures.rises c.self.invariant.0
      (sym c.find-old.ensures.known ∙ sym c.is_some.ensures ∙ c.if-is_some.true) c.store.ensures,
  c.self.invariant.1,
)

pub invariant_of-self-2 : goal.invariant_of-self-2
invariant_of-self-2 c =
    let m : Table Seat = seated c.self.inside.entries in
    let missed : has m c.args.t.0 ≡ false = sym c.find-old.ensures.known ∙ sym c.is_some.ensures ∙ c.if-is_some.false in
    let room : has_place m c.args.t.0 most ≡ true = subst (λ (n : Table Seat). has_place n c.args.t.0 most ≡ true) (sym c.self.view_is) c.requires.room in
    let fewer : length m < most = free_place m c.args.t.0 most missed room in (
      count_new c.self.inside.count c.args.t.0 c.args.seat m (seated c.store.new.entries) c.find-old.ensures.rises c.self.invariant.0 missed c.store.ensures,
      omega (arith, fewer, c.self.invariant.0),
    )

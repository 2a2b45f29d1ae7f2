use Rattle.std.proofs.Common.{◌≡◌, ◌+◌, ◌∙◌, ap, sym, subst, arith, length}
use Rattle.thr_parts.specs.declared.row.Seat.{Seat}
use Rattle.thr_parts.specs.Tables.{Table, cut}
use Rattle.thr_rows.specs.Remembered.{seated}
use Rattle.thr_rows.proofs.RememberedLaws.{count_cut, cut_missed}
use Rattle.thr_rows.proofs.remembered.Remembered.cut.Goals as goal

pub overflow_sub-self : goal.overflow_sub-self
overflow_sub-self c =
    let less : length (seated c.empty.new.entries) + 1 ≡ c.self.inside.count =
    count_cut c.self.inside.count c.args.t.0 (seated c.self.inside.entries) (seated c.empty.new.entries) c.find.ensures.rises c.self.invariant.0
    (sym c.in-Some.ensures.known) c.empty.ensures in
    omega (arith, less)

pub invariant_of-self : goal.invariant_of-self
invariant_of-self c =
    let less : length (seated c.empty.new.entries) + 1 ≡ c.self.inside.count =
    count_cut c.self.inside.count c.args.t.0 (seated c.self.inside.entries) (seated c.empty.new.entries) c.find.ensures.rises c.self.invariant.0
    (sym c.in-Some.ensures.known) c.empty.ensures in
    (omega (arith, less), omega (arith, c.self.invariant.1))

pub returns-in-Some-clause-one_fewer : goal.returns-in-Some-clause-one_fewer
returns-in-Some-clause-one_fewer c = λ h.
    count_cut c.self.inside.count c.args.t.0 (seated c.self.inside.entries) (seated c.empty.new.entries) c.find.ensures.rises c.self.invariant.0
    (sym c.in-Some.ensures.known) c.empty.ensures
    ∙ c.self.invariant.0 ∙ ap (λ (m : Table Seat). length m) c.self.view_is

pub returns-in-None-clause-value : goal.returns-in-None-clause-value
returns-in-None-clause-value c =
    subst (λ (m : Table Seat). m ≡ cut m c.args.t.0) c.self.view_is
    (cut_missed (seated c.self.inside.entries) c.args.t.0 c.find.ensures.rises (sym c.in-None.ensures.known))

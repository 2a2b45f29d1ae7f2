use Rattle.std.proofs.Common.{◌≡◌, ℕ, ◌+◌, ◌∙◌, ap, sym, subst, arith, length, true, Some}
use Rattle.std.specs.Option.{is_some}
use Rattle.thr_parts.specs.Tables.{Table, get, has, cut}
use Rattle.thr_parts.proofs.TableLaws.{has_get}
use Rattle.thr_stacks.specs.Keys.{IsKept, values_by}
use Rattle.thr_stacks.proofs.KeyLaws.{canonical_values, cut_same, cut_values, kept_cut, lent, missed}
use Rattle.thr_stacks.proofs.stacks.Stacks.take.Goals as goal

pub remove-stack-requires : goal.remove-stack-requires
remove-stack-requires c = c.self.invariant.stored c.args.t.0 c.in-Some.key (sym c.in-Some.ensures.value)

pub invariant_of-self : goal.invariant_of-self
invariant_of-self c =
    let stood : get c.self.inside.keys c.args.t.0 ≡ Some c.in-Some.key = sym c.in-Some.ensures.value in
    let known : has c.self.inside.keys c.args.t.0 ≡ true = has_get c.self.inside.keys c.args.t.0 ∙ ap is_some stood in
    let count : length c.cut.new.self + 1 ≡ length c.self.inside.keys = c.cut.ensures.one_fewer known in
    subst (λ (keys : Table ℕ). IsKept keys c.remove-stack.new.self) (sym c.cut.ensures.value)
    (kept_cut c.self.inside.keys c.self.inside.slab c.remove-stack.new.self c.args.t.0 c.in-Some.key c.self.invariant c.remove-stack.ensures.updates
    (λ q e. c.self.invariant.alone c.args.t.0 q c.in-Some.key stood e)
    (omega (arith, c.remove-stack.ensures.len, c.self.invariant.as_many, count) ∙ ap length c.cut.ensures.value) c.remove-stack.ensures.capacity)

pub returns-in-None-clause-value : goal.returns-in-None-clause-value
returns-in-None-clause-value c =
    sym (ap (λ m. get m c.args.t.0) (sym c.self.view_is) ∙ missed c.self.inside.keys c.self.inside.slab c.args.t.0 c.self.invariant (sym c.in-None.ensures.value))

pub returns-in-None-clause-known : goal.returns-in-None-clause-known
returns-in-None-clause-known c = ap is_some (returns-in-None-clause-value c) ∙ sym (has_get c.args.self.now c.args.t.0)

pub returns-in-None-clause-table : goal.returns-in-None-clause-table
returns-in-None-clause-table c =
    let missing = missed c.self.inside.keys c.self.inside.slab c.args.t.0 c.self.invariant (sym c.in-None.ensures.value) in
    rw (← c.self.view_is) (cut_same (values_by c.self.inside.keys c.self.inside.slab) c.args.t.0 (canonical_values c.self.inside.keys c.self.inside.slab c.self.invariant.rises) missing)

pub returns-in-Some-clause-value : goal.returns-in-Some-clause-value
returns-in-Some-clause-value c =
    sym c.remove-stack.ensures.value ∙ lent c.self.inside.keys c.self.inside.slab c.args.t.0 c.in-Some.key c.self.invariant (sym c.in-Some.ensures.value)
    ∙ ap (λ m. get m c.args.t.0) c.self.view_is

pub returns-in-Some-clause-known : goal.returns-in-Some-clause-known
returns-in-Some-clause-known c = ap is_some (returns-in-Some-clause-value c) ∙ sym (has_get c.args.self.now c.args.t.0)

pub returns-in-Some-clause-table : goal.returns-in-Some-clause-table
returns-in-Some-clause-table c =
    ap (λ (keys : Table ℕ). values_by keys c.remove-stack.new.self) c.cut.ensures.value
    ∙ cut_values c.self.inside.keys c.self.inside.slab c.remove-stack.new.self c.args.t.0 c.in-Some.key c.self.invariant c.remove-stack.ensures.updates
    (λ q e. c.self.invariant.alone c.args.t.0 q c.in-Some.key (sym c.in-Some.ensures.value) e)
    ∙ ap (λ m. cut m c.args.t.0) c.self.view_is

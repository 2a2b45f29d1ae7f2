use Rattle.std.proofs.Common.{◌∙◌, ap, sym}
use Rattle.std.specs.Option.{is_some}
use Rattle.thr_parts.specs.Tables.{get}
use Rattle.thr_parts.proofs.TableLaws.{has_get}
use Rattle.thr_stacks.proofs.KeyLaws.{lent, missed, lent_some}
use Rattle.thr_stacks.proofs.stacks.Stacks.lend.Goals as goal

pub returns-in-None-clause-value : goal.returns-in-None-clause-value
returns-in-None-clause-value c =
    sym (ap (λ m. get m c.args.t.0) (sym c.self.view_is) ∙ missed c.self.inside.keys c.self.inside.slab c.args.t.0 c.self.invariant (sym c.in-None.ensures.value))

pub returns-in-None-clause-known : goal.returns-in-None-clause-known
returns-in-None-clause-known c = ap is_some (returns-in-None-clause-value c) ∙ sym (has_get c.args.self.now c.args.t.0)

pub returns-in-Some-clause-value : goal.returns-in-Some-clause-value
returns-in-Some-clause-value c =
    c.get-in-Some.ensures ∙ lent c.self.inside.keys c.self.inside.slab c.args.t.0 c.in-Some.key c.self.invariant (sym c.in-Some.ensures.value)
    ∙ ap (λ m. get m c.args.t.0) c.self.view_is

pub returns-in-Some-clause-known : goal.returns-in-Some-clause-known
returns-in-Some-clause-known c = lent_some c.get-in-Some.result _ (returns-in-Some-clause-value c) ∙ sym (has_get c.args.self.now c.args.t.0)

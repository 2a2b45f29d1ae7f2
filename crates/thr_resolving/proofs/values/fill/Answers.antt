use Rattle.std.proofs.Common.{List, refl, ap, ◌∙◌, reverse}
use Rattle.std.proofs.lemmas.List.{reverse-reverse}
use Rattle.thr_resolving.specs.declared.value.Value.{Value}
use Rattle.thr_resolving.specs.Seen.{scope_seen}
use Rattle.thr_resolving.proofs.Walks.{slot_more, slots_end}
use Rattle.thr_resolving.proofs.values.fill.Goals as goal

pub loop-slot-preserved : goal.loop-slot-preserved
loop-slot-preserved c =
    let step = slot_more (scope_seen c.args.names.now) c.loop-slot.values.items _ c.args.slots.now c.loop-slot.slot-index _ _ _ c.in_ok-value_in.field-0 c.loop-slot.pieces c.pop.new.self c.loop-slot-test.true refl c.pop.ensures.first c.pop.ensures.rest c.in_ok-value_in.ensures.ok c.loop-slot.invariant in
    rw c.in_ok-push.ensures.items step

pub returns-clause-ok : goal.returns-clause-ok
returns-clause-ok c =
    ap (λ (vs : List Value). reverse vs) c.reverse.ensures.items
    ∙ reverse-reverse c.loop-slot.values.items
    ∙ slots_end (scope_seen c.args.names.now) c.loop-slot.values.items _ c.args.slots.now c.loop-slot.slot-index c.loop-slot.pieces c.loop-slot-test.false c.loop-slot.invariant

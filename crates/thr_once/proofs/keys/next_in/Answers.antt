use Rattle.std.proofs.Common.{◌∙◌, sym}
use Rattle.thr_once.proofs.OrderLaws.{nothing, named_at}
use Rattle.thr_once.proofs.CallLaws.{none_passed, one_passed, found_call, no_value_left, no_value_here}
use Rattle.thr_once.proofs.keys.next_in.Goals as goal

pub loop-i-init : goal.loop-i-init
loop-i-init c = none_passed c.args.made.now c.args.values.now c.args.t c.place_of-i.result c.place_of-i.ensures

pub returns-then-value-t-clause-call : goal.returns-then-value-t-clause-call
returns-then-value-t-clause-call c =
    no_value_here c.args.made.now c.args.values.now c.args.t c.loop-i.i nothing c.requires.kept c.loop-i-test.true c.if-value-t.true c.loop-i.invariant

pub call_of-call-requires : goal.call_of-call-requires
call_of-call-requires c = record { known = named_at c.args.values.now c.loop-i.i nothing c.requires.kept.ordered.named c.loop-i-test.true }

pub returns-then-is_some-clause-call : goal.returns-then-is_some-clause-call
returns-then-is_some-clause-call c =
    found_call c.args.made.now c.args.values.now c.args.t c.loop-i.i nothing c.call_of-call.result c.requires.kept c.loop-i-test.true c.if-value-t.false c.loop-i.invariant
    (sym c.is_some.ensures ∙ c.if-is_some.true) c.call_of-call.ensures.call

pub loop-i-preserved : goal.loop-i-preserved
loop-i-preserved c =
    one_passed c.args.made.now c.args.values.now c.args.t c.loop-i.i nothing c.call_of-call.result c.requires.kept.ordered c.loop-i-test.true c.if-value-t.false c.loop-i.invariant
    (sym c.is_some.ensures ∙ c.if-is_some.false) c.call_of-call.ensures.call

pub returns-clause-call : goal.returns-clause-call
returns-clause-call c = no_value_left c.args.made.now c.args.values.now c.args.t c.loop-i.i c.requires.kept c.loop-i-test.false c.loop-i.invariant

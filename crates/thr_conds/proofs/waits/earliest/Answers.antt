use Rattle.std.proofs.Common.{◌∙◌, ap, arith}
use Rattle.thr_parts.specs.Expiry.{sooner}
use Rattle.thr_conds.proofs.EarliestLaws.{earliest_whole, earliest_more}
use Rattle.thr_conds.proofs.waits.earliest.Goals as goal

pub loop-i-init : goal.loop-i-init
loop-i-init c = record { within = omega arith; earliest = earliest_whole c.args.waits.now _ (omega arith) }

pub loop-i-preserved : goal.loop-i-preserved
loop-i-preserved c = record {
  within = omega arith;
  earliest = earliest_more c.args.waits.now c.loop-i.i _ c.loop-i.found c.sooner-found.result c.loop-i-test.true c.loop-i.invariant.within c.loop-i.invariant.earliest
      (c.sooner-found.ensures ∙ ap (λ o. sooner o c.loop-i.found) c.time_of.ensures);
}

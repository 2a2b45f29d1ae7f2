use Rattle.std.proofs.Common.{refl, arith}
use Rattle.thr_limits.proofs.DigitLaws.{digits-step, digits-one, digits-few}
use Rattle.thr_limits.proofs.width.digit_count.Goals as goal

pub loop-left-init : goal.loop-left-init
loop-left-init c = (refl, digits-few c.args.n (omega (arith, c.ranges.n.fits)))

pub loop-left-preserved : goal.loop-left-preserved
loop-left-preserved c =
    let step = digits-step c.loop-left.left c.loop-left-test.true (omega (arith, c.loop-left.auto.left-fits.fits)) in
    (omega (arith, step, c.loop-left.invariant.0), c.loop-left.invariant.1)

pub returns-clause-text : goal.returns-clause-text
returns-clause-text c = omega (arith, digits-one c.loop-left.left c.loop-left-test.false, c.loop-left.invariant.0)

pub returns-clause-few : goal.returns-clause-few
returns-clause-few c = omega (arith, digits-one c.loop-left.left c.loop-left-test.false, c.loop-left.invariant.0, c.loop-left.invariant.1)

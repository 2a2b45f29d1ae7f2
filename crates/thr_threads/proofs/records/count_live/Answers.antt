use Rattle.std.proofs.Common.{◌∙◌, sym, arith}
use Rattle.thr_threads.proofs.LivingLaws.{none_counted, lives, has_ended}
use Rattle.thr_threads.proofs.records.count_live.Goals as goal

pub loop-i-init : goal.loop-i-init
loop-i-init c = record { within = omega arith; fits = omega arith; found = none_counted c.args.keys.now c.args.slab.now _ (omega arith) }

pub loop-i-preserved-then-is_live : goal.loop-i-preserved-then-is_live
loop-i-preserved-then-is_live c =
    let i = c.loop-i.invariant in record {
      within = omega (arith, i.within);
      fits = omega (arith, i.fits, c.loop-i-test.true);
      found = lives c.args.keys.now c.args.slab.now c.loop-i.i c.loop-i.count (0, 0) c.loop-i.first c.loop-i-test.true i.within (sym c.is_live.ensures ∙ c.if-is_live.true) i.found;
    }

pub loop-i-preserved : goal.loop-i-preserved
loop-i-preserved c =
    let i = c.loop-i.invariant in record {
      within = omega (arith, i.within);
      fits = omega (arith, i.fits);
      found = has_ended c.args.keys.now c.args.slab.now c.loop-i.i c.loop-i.count (0, 0) c.loop-i.first c.loop-i-test.true i.within (sym c.is_live.ensures ∙ c.if-is_live.false) i.found;
    }

use Rattle.std.proofs.Common.{◌∙◌, refl, arith}
use Rattle.thr_report.proofs.Gains.{room, inside, times_more, join_counts}
use Rattle.thr_report.proofs.counting.gains.Goals as goal

pub gain-requires : goal.gain-requires
gain-requires c = λ k low.
    room c.loop-entry.table.items c.loop-entry.table.items c.args.entries.now c.loop-entry.entry-index c.args.count k refl c.loop-entry.invariant.len c.loop-entry.invariant.each c.loop-entry-test.true (omega arith) low

pub loop-entry-preserved : goal.loop-entry-preserved
loop-entry-preserved c = record {
  len = c.gain.ensures.len ∙ c.loop-entry.invariant.len;
  each = λ k low.
      join_counts _ _ _ _ _ (c.gain.ensures.each k (inside c.args.count _ k c.loop-entry.invariant.len low)) (c.loop-entry.invariant.each k low)
      (times_more c.args.entries.now c.loop-entry.entry-index k _ c.loop-entry-test.true);
}

use Rattle.std.proofs.Common.{arith, ◌∙◌}
use Rattle.thr_resolving.specs.Seen.{scope_seen}
use Rattle.thr_resolving.proofs.Walks.{no_words, word_more}
use Rattle.thr_resolving.proofs.pieces.read_pieces.Goals as goal

pub loop-left-init : goal.loop-left-init
loop-left-init c = record {
  taken = c.clear.ensures ∙ no_words (scope_seen c.args.names.now) c.args.words.now;
  within = omega arith;
}

pub loop-left-preserved : goal.loop-left-preserved
loop-left-preserved c = record {
  taken = c.in_ok-put_word.ensures.ok ∙ word_more (scope_seen c.args.names.now) c.args.words.now c.loop-left.left _ c.loop-left.pieces c.loop-left-test.true c.loop-left.invariant.within c.index-words-left.is c.loop-left.invariant.taken;
  within = omega (arith, c.loop-left.invariant.within);
}

use Rattle.std.proofs.Common.{refl, arith}
use Rattle.thr_examples.specs.Words.{example_words}
use Rattle.thr_examples.specs.Scripts as scripts
use Rattle.thr_examples.proofs.Readings.{source_reads}
use Rattle.thr_examples.proofs.scripts.recursive_mutex_twice.Goals as goal

pub returns : goal.returns
unfolding example_words
returns c = source_reads scripts.recursive_mutex_twice (record {
  canonical = refl;
  same = refl;
  plain = refl;
  words = refl;
  numbers = refl;
  forms = refl;
  blocks = refl;
  limits = refl;
  short = omega arith;
})

use Rattle.thr_blocks.proofs.Determined.{determined}
use Rattle.thr_blocks.proofs.build.lines_determine_items.Goals as goal

pub returns : goal.returns
returns c = determined

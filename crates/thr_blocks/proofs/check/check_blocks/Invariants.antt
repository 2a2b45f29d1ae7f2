use Rattle.std.proofs.Common.{◌≡◌, drop, []}
use Rattle.thr_text.specs.Blocks.{block_faults}
use Rattle.thr_blocks.proofs.check.check_blocks.Given as goal

abbrev pub invariant-loop-line : goal.invariant-loop-line
invariant-loop-line l = block_faults l.end l.blocks (drop l.line-index l.lines) ≡ block_faults l.end [] l.lines

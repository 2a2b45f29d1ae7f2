use Rattle.std.specs.Prelude.{[]}
use Rattle.thr_blocks.proofs.FaultlessLaws.{faultless, keep_below, faultless_below}
use Rattle.thr_blocks.proofs.laws.lines_without_fault_nest.Goals as goal

pub returns : goal.returns
returns c = record {
  nest = faultless;
  keep = λ end lines. keep_below end [] lines;
  faultless = λ end lines. faultless_below end [] lines;
}

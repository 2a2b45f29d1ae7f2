use Rattle.std.specs.Prelude.{[]}
use Rattle.thr_blocks.proofs.PlacementLaws.{fault_told, first_misplaced_comes, left_open_comes}
use Rattle.thr_blocks.proofs.laws.first_misplaced_lines_are_told.Goals as goal

pub returns : goal.returns
returns c = record {
  says = λ end lines fault. fault_told end [] lines fault;
  comes = λ end lines fault. first_misplaced_comes end [] lines fault;
  comes_at_the_end = λ end lines fault. left_open_comes end [] lines fault;
}

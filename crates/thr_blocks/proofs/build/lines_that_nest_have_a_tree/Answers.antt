use Rattle.std.proofs.Common.{◌∙◌}
use Rattle.thr_blocks.specs.Build.{built}
use Rattle.thr_blocks.proofs.BuildLaws.{kept_lines, all_own}
use Rattle.thr_blocks.proofs.build.lines_that_nest_have_a_tree.Goals as goal

pub returns : goal.returns
returns c = λ forms nest own. ((built forms).0, kept_lines forms nest ∙ all_own forms own)

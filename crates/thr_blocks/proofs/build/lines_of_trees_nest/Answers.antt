use Rattle.thr_blocks.proofs.NestLaws.{lines_nest}
use Rattle.thr_blocks.proofs.TreesNest.{trees_nest}
use Rattle.thr_blocks.proofs.build.lines_of_trees_nest.Goals as goal

pub returns : goal.returns
returns c = record {
  nest = lines_nest;
  trees = trees_nest;
}

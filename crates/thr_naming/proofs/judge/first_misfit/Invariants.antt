use Rattle.std.proofs.Common.{◌≡◌, ◌≤◌, drop}
use Rattle.thr_naming.specs.Judging.{start, first_misfit}
use Rattle.thr_naming.proofs.judge.first_misfit.Given as goal

abbrev pub invariant-loop-line : goal.invariant-loop-line
invariant-loop-line l = record {
  walked : first_misfit l.whole l.context (drop l.line-index l.lines) ≡ first_misfit l.whole start l.lines;
  depth : l.context.depth ≤ l.line-index;
  count : l.context.count ≤ l.line-index;
}

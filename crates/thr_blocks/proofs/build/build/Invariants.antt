use Rattle.std.proofs.Common.{◌≡◌}
use Rattle.thr_blocks.specs.Build.{reversed, built}
use Rattle.thr_blocks.proofs.build.build.Given as goal

abbrev pub invariant-loop-form : goal.invariant-loop-form
invariant-loop-form l = (l.items, reversed l.routine) ≡ built l.yielded

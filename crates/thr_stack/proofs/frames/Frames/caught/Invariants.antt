use Rattle.std.proofs.Common.{◌≡◌, ◌≤◌, length, take, reverse}
use Rattle.thr_stack.specs.FrameLists.{caught_among}
use Rattle.thr_stack.proofs.frames.Frames.caught.Given as goal

abbrev pub invariant-loop-i : goal.invariant-loop-i
invariant-loop-i l =
    (l.i ≤ length l.self-inside.frames.items) × (caught_among (reverse l.self-inside.frames.items) ≡ caught_among (reverse (take l.i l.self-inside.frames.items)))

abbrev pub decreases-loop-i : goal.decreases-loop-i
decreases-loop-i l = l.i

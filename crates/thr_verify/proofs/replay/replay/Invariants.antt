use Rattle.std.proofs.Common.{◌-◌, length}
use Rattle.thr_verify.specs.Replays.{IsReplayed, IsLeft}
use Rattle.thr_verify.proofs.replay.replay.Given as goal

abbrev pub invariant-loop-wrong : goal.invariant-loop-wrong
invariant-loop-wrong l = record {
  at : IsReplayed l.j l.book;
  left : IsLeft l.j l.book;
}

abbrev pub decreases-loop-wrong : goal.decreases-loop-wrong
decreases-loop-wrong l = length l.j.entries - length l.book.entries

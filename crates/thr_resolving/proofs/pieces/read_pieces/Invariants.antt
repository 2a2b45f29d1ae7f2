use Rattle.std.proofs.Common.{◌≡◌, ◌≤◌, drop, length}
use Rattle.thr_resolving.specs.Resolving.{pieces_of}
use Rattle.thr_resolving.specs.Seen.{scope_seen}
use Rattle.thr_resolving.proofs.pieces.read_pieces.Given as goal

abbrev pub invariant-loop-left : goal.invariant-loop-left
invariant-loop-left l = record {
  taken : l.pieces ≡ pieces_of (scope_seen l.names) (drop l.left l.words);
  within : l.left ≤ length l.words;
}

abbrev pub decreases-loop-left : goal.decreases-loop-left
decreases-loop-left l = l.left

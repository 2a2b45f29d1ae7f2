-- Moves of threads, one after the other.
use Rattle.std.proofs.Common.{◌≡◌, List}
use Rattle.thr_values.specs.declared.number.Tid.{Tid}
use Rattle.thr_values.specs.declared.history.Entry.{Entry}
use Rattle.thr_syntax.specs.declared.tree.Script.{Script}
use Rattle.thr_remainder.specs.Remainders.{Move}
use Rattle.thr_frames.specs.Stacks.{StackView}
use Rattle.thr_turns.specs.Steps.{HasMoved}

-- The same move under another name.
pub as-move : (s : Script) (t : Tid) (move other : Move) (k k' : StackView) (before after : List Entry) → other ≡ move → HasMoved s t move k k' before after → HasMoved s t other k k' before after
as-move s t move other k k' before after e h = rw e h

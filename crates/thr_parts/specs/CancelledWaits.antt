-- Waits at points that a cancel ends (docs/machine.md, "Cancels").
use Rattle.std.specs.Prelude.{ℕ, List}
use Rattle.thr_values.specs.declared.number.Tid.{Tid}
use Rattle.thr_values.specs.declared.number.NameId.{NameId}
use Rattle.thr_parts.specs.Rows.{Rows}
use Rattle.thr_parts.specs.Moves.{take_out}
use Rattle.thr_parts.specs.Mutexes.{Locks}
use Rattle.thr_parts.specs.Locking.{Regained}
use Rattle.thr_parts.specs.Conditions.{Conds}
use Rattle.thr_parts.specs.Waking.{mutex_with, resume, gift_of}
use Rattle.thr_parts.specs.Waking as waking
use Rattle.thr_parts.specs.Pipes.{Pipes}
use Rattle.thr_parts.specs.Closing as closing

-- What there is after a cancel has woken a thread, and whether it got its mutex at once (docs/machine.md, "Cancels").
pub record Cancelled : Type 0 where
  pub conds : Conds
  pub pipes : Pipes
  pub locks : Locks
  pub rows : Rows
  pub gifts : List (Tid × NameId)

-- The thread leaves its wait at a point and is ready; one that waited on a condition gets its mutex first or waits for it.
-- The item of a writer is dropped (docs/machine.md, "Cancels").
abbrev pub cancel_wait : (Tid → ℕ) → Conds → Pipes → Locks → Rows → Tid → Cancelled
cancel_wait rank cs ps ls rs t =
    let o : Regained = resume rank ls (take_out rs t).rows t (mutex_with cs t) in record {
      conds = (waking.pull_out cs rs t).conds;
      pipes = (closing.pull_out ps rs t).pipes;
      locks = o.locks;
      rows = o.rows;
      gifts = gift_of t (mutex_with cs t) o.gets;
    }

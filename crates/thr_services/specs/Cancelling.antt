-- Cancels that end waits, and threads whose rank changes (docs/machine.md, "Cancels").
use Rattle.std.specs.Prelude.{◌≡◌, ◌<◌, ℕ, Bool, true, false, Option, Some, None, IfSome}
use Rattle.thr_values.specs.declared.number.Tid.{Tid}
use Rattle.thr_values.specs.declared.reply.Effect.TheVariants as effect
use Rattle.thr_values.specs.declared.reply.Reply.{Reply}
use Rattle.thr_values.specs.declared.reply.Reply.TheVariants as reply
use Rattle.thr_parts.specs.Tables.{names, has}
use Rattle.thr_parts.specs.Rows.{Rows}
use Rattle.thr_parts.specs.Threads.{Threads}
use Rattle.thr_parts.specs.Conditions.{Conds}
use Rattle.thr_parts.specs.Waking.{mutex_with}
use Rattle.thr_model.specs.Calls.{rank_if}

-- The reply is that a cancel ends the thread's wait (docs/machine.md, "Cancels").
abbrev pub is_wakes : Reply → Bool
is_wakes (reply.Effect effect.Wakes) = true
is_wakes _ = false

-- The rows where the thread that is there has its new rank, or where they stay as they are (docs/machine.md, "Ranks and
-- arrivals").
abbrev pub reranked : Option Tid → Bool → Threads → Rows → Rows
reranked None changes ths rs = rs
reranked (Some t) changes ths rs = rank_if changes ths rs t

-- Each thread that stands in a row or runs has a record (docs/machine.md, "Thread records").
pub record SeatsHaveRecords (ths : Threads) (rs : Rows) : Type 0 where
  pub recorded : (t : ℕ) → has rs.seats t ≡ true → has ths.records t ≡ true

-- The mutexes with which threads wait on conditions fit tables by names (docs/machine.md, "Tables").
pub record MutexesFit (cs : Conds) : Type 0 where
  pub fits : (t : Tid) → IfSome (mutex_with cs t) (λ m. m.0 < names)

-- What a turn asks of the state in which a thread makes it (docs/machine.md, "Turns").
use Rattle.std.specs.Prelude.{◌≡◌, ◌+◌, ◌<◌, ◌≤◌, ◌^◌, ℤ, true, length, Option, Some, IfSome}
use Rattle.thr_values.specs.declared.number.Tid.{Tid}
use Rattle.thr_values.specs.declared.number.NameId.{NameId}
use Rattle.thr_syntax.specs.declared.tree.Script.{Script}
use Rattle.thr_remainder.specs.Remainders.{Remainder, has_room}
use Rattle.thr_remainder.specs.Runs.{Halt, run_of, most_steps}
use Rattle.thr_parts.specs.Tables.{Table, none, names}
use Rattle.thr_parts.specs.Rows.{most, seat_of, is_running}
use Rattle.thr_parts.specs.Mutexes.{owner}
use Rattle.thr_parts.specs.Cancels.{mode_at}
use Rattle.thr_parts.specs.Keys.{next_destructor}
use Rattle.thr_conds.specs.Agreement.{WaitsAgree}
use Rattle.thr_pipes.specs.Agreement.{WritersAgree}
use Rattle.thr_model.specs.States.{Debt, Running, debt_of}
use Rattle.thr_model.specs.Turns.{turn_by}
use Rattle.thr_services.specs.Views.{ServicesView, state_with}
use Rattle.thr_services.specs.Ready.{OwersStand}
use Rattle.thr_services.specs.Cancelling.{SeatsHaveRecords, MutexesFit}
use Rattle.thr_frames.specs.declared.stopped.Stopped.{Stopped}
use Rattle.thr_frames.specs.Runs.{IsHalt}
use Rattle.thr_open_onces.specs.Blocks.{block_of}
use Rattle.thr_frames.specs.Stacks.{StackView, remainder_of, setting_of, IsRoutine, CanNumber}

-- What ends the quiet part can be made: where that is a once block, its name fits tables by names (docs/machine.md, "Turns").
pub record CanHalt (s : Script) (k : StackView) (x : Stopped) : Type 0 where
  pub halt : Halt
  pub is : IsHalt (setting_of s k) (remainder_of s k) x halt
  pub block : IfSome (block_of halt) (λ o. o.0 < names)

-- The thread runs, the parts agree, each count has room for the turn, and what begins in it can begin (docs/machine.md,
-- "Turns").
pub record IsReady (s : Script) (v : ServicesView) (k : StackView) (t : Tid) : Type 0 where
  pub runs : is_running (seat_of v.rows t) ≡ true
  pub seats : length v.rows.seats ≤ most
  pub waits : WaitsAgree v.conds v.rows
  pub writers : WritersAgree v.pipes v.rows
  pub owers : OwersStand v.debts v.rows
  pub recorded : SeatsHaveRecords v.threads v.rows
  pub fit : MutexesFit v.conds
  pub arrival : v.rows.next_arrival + 2 ^ 13 < 2 ^ 64
  pub number : v.threads.next + 1 < 2 ^ 32
  pub depths : (m : Option NameId) → IfSome (owner v.locks m) (λ h. h.depth + 1 < 2 ^ 64)
  pub values : 1 ≤ v.onces.room
  pub numbers : CanNumber (remainder_of s k) 200
  pub destructors : IfSome (next_destructor v.onces.state t).call (λ c. IsRoutine s c.1)
  pub frames : 2 ≤ (setting_of s k).size
  pub running : debt_of (state_with v none none) t ≡ Some Running → has_room (setting_of s k) (remainder_of s k) 2 ≡ true
  pub blocks : IfSome (block_of (run_of most_steps (setting_of s k) (mode_at v.threads t) (remainder_of s k)).halt) (λ o. o.0 < names)
  pub later : (remainders : Table Remainder) (shared : Table ℤ) (d : Option Debt) → (turn_by s (state_with v remainders shared) t d).state.rows.next_arrival + 1 < 2 ^ 64

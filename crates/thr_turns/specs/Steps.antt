-- What a turn of one thread makes, and what each of its steps makes (docs/machine.md, "Turns").
use Rattle.std.specs.Prelude.{◌≡◌, ℕ, ◌+◌, ◌≤◌, ℤ, List, ◌++◌, length, map, Some, vec_len, vec_capacity}
use Rattle.thr_values.specs.declared.number.Tid.{Tid}
use Rattle.thr_values.specs.declared.history.What.{What}
use Rattle.thr_values.specs.declared.history.Entry.{Entry}
use Rattle.thr_values.specs.declared.scheduling.Mode.{Mode}
use Rattle.thr_syntax.specs.declared.tree.Script.{Script}
use Rattle.thr_remainder.specs.Remainders.{Remainder, Move}
use Rattle.thr_remainder.specs.Starts.{fresh}
use Rattle.thr_parts.specs.Tables.{Table, get, put, cut}
use Rattle.thr_model.specs.States.{State}
use Rattle.thr_model.specs.Turns.{Made, thread_line, turn_of}
use Rattle.thr_services.specs.Views.{ServicesView, state_with}
use Rattle.thr_frames.specs.Stacks.{StackView, remainder_of, setting_of, IsStack, IsRoutine, HasNoFrame}
use Rattle.thr_frames.specs.declared.stopped.Stopped.{Stopped}
use Rattle.thr_frames.specs.Runs.{Ran}
use Rattle.thr_turns.specs.declared.workings.Workings.{Workings}
use Rattle.thr_turns.specs.declared.workings.Left.{Left}
use Rattle.thr_turns.specs.declared.workings.Left.TheVariants.{Goes, Begins, Ended}

-- How many lines a turn writes at most: those of its quiet part, of a call and of the threads that the call gave a mutex, and of
-- the reply (docs/machine.md, "Turns").
abbrev pub most_lines : ℕ
most_lines = 1160

-- ---- what is left

-- What is left to do in threads, where this is left in one that goes on, has made a thread, or has ended (docs/machine.md, "What
-- is left to do").
abbrev pub left_in : Script → Table Remainder → Tid → Remainder → Left → Table Remainder
left_in s remainders t r Goes = put remainders t.0 r
left_in s remainders t r (Begins u routine n) = put (put remainders u.0 (fresh s routine n)) t.0 r
left_in s remainders t r Ended = cut remainders t.0

-- A thread that was made has the next number, and begins at a routine that can be called (docs/machine.md, "Thread records").
abbrev pub IsBegun : Script → ServicesView → Left → Type 0
IsBegun s v (Begins u routine n) = (u.0 ≡ v.threads.next) × IsRoutine s routine
IsBegun s v _ = Unit {0}

-- The stack of a thread that has ended is empty (docs/machine.md, "Frames").
abbrev pub IsOver : StackView → Left → Type 0
IsOver k Ended = HasNoFrame k
IsOver k _ = Unit {0}

-- ---- steps

-- A thread has made this move, and its lines are written (docs/machine.md, "Turns").
pub record HasMoved (s : Script) (t : Tid) (move : Move) (k k' : StackView) (before after : List Entry) : Type 0 where
  pub to : remainder_of s k' ≡ move.to
  pub written : after ≡ before ++ map (thread_line t) move.lines
  pub setting : setting_of s k' ≡ setting_of s k
  pub stack : IsStack s k'

-- A thread has run the quiet part of its turn, and its lines are written (docs/machine.md, "Turns").
pub record HasRun (s : Script) (mode : Mode) (t : Tid) (k k' : StackView) (before after : List Entry) (x : Stopped) : Type 0 where
  pub lines : List What
  pub ran : Ran s mode k k' lines x
  pub written : after ≡ before ++ map (thread_line t) lines

-- A step of a turn made what the machine makes by this word, whatever is left to do in other threads, and wrote its lines
-- (docs/machine.md, "Turns").
pub record StepsTo (s : Script) (t : Tid) (v v' : ServicesView) (shared shared' : Table ℤ) (k k' : StackView) (before after : List Entry) (left : Left) (word : State → Made) : Type 0 where
  pub lines : List Entry
  pub written : after ≡ before ++ lines
  pub made : (remainders : Table Remainder)
      → word (state_with v remainders shared) ≡ record { state = state_with v' (left_in s remainders t (remainder_of s k') left) shared'; lines = lines }
  pub setting : setting_of s k' ≡ setting_of s k
  pub stack : IsStack s k'
  pub begun : IsBegun s v left
  pub over : IsOver k' left

-- The same of what a turn works on (docs/machine.md, "Turns").
abbrev pub Steps : Script → Tid → (old new : Workings) → (k k' : StackView) → Left → (State → Made) → Type 0
Steps s t old new k k' left word = StepsTo s t old.services new.services old.shared new.shared k k' old.entries.items new.entries.items left word

-- At most so many lines more are written, in the memory that there was, and the interface is the same (docs/machine.md,
-- "Turns").
pub record Keeps (old new : Workings) (most : ℕ) : Type 0 where
  pub few : vec_len new.entries ≤ vec_len old.entries + most
  pub capacity : vec_capacity new.entries ≡ vec_capacity old.entries
  pub interface : new.interface ≡ old.interface

-- ---- turns

-- The turn of a thread made what the machine makes by this word of a state where this is left to do in the thread
-- (docs/machine.md, "Turns").
pub record IsTurnBy (s : Script) (t : Tid) (old new : Workings) (k k' : StackView) (left : Left) (word : State → Made) : Type 0 where
  pub lines : List Entry
  pub written : new.entries.items ≡ old.entries.items ++ lines
  pub few : length lines ≤ most_lines
  pub capacity : vec_capacity new.entries ≡ vec_capacity old.entries
  pub interface : new.interface ≡ old.interface
  pub made : (remainders : Table Remainder) → get remainders t.0 ≡ Some (remainder_of s k)
      → word (state_with old.services remainders old.shared)
      ≡ record { state = state_with new.services (left_in s remainders t (remainder_of s k') left) new.shared; lines = lines }
  pub setting : setting_of s k' ≡ setting_of s k
  pub stack : IsStack s k'
  pub begun : IsBegun s old.services left
  pub over : IsOver k' left

-- The turn of a thread (docs/machine.md, "Turns").
abbrev pub IsTurn : Script → Tid → (old new : Workings) → (k k' : StackView) → Left → Type 0
IsTurn s t old new k k' left = IsTurnBy s t old new k k' left (λ st. turn_of s st t)

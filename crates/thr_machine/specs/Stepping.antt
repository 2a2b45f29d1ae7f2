-- Parts of a turn in a book (docs/machine.md, "Turns").
use Rattle.std.specs.Prelude.{◌≡◌, ℕ, ℤ, pos, ◌+◌, ◌<◌, ◌≤◌, ◌^◌, true, List, [], ◌++◌, length, Option, Some, is_some, vec_len, ⊤}
use Rattle.thr_values.specs.declared.number.NameId.{NameId}
use Rattle.thr_values.specs.declared.number.Tid.{Tid}
use Rattle.thr_values.specs.declared.history.Entry.{Entry}
use Rattle.thr_syntax.specs.declared.tree.Script.{Script}
use Rattle.thr_remainder.specs.Remainders.{Remainder}
use Rattle.thr_remainder.specs.Declarations.{interface_of}
use Rattle.thr_remainder.specs.Starts.{fresh}
use Rattle.thr_parts.specs.Tables.{Table, none, get, has, put, cut, IsCanonical}
use Rattle.thr_parts.specs.Rows.{thread, most}
use Rattle.thr_parts.specs.Threads.{Threads, record_at}
use Rattle.thr_tables.specs.Places.{has_place}
use Rattle.thr_model.specs.States.{State, frames_in, main_of, declared_values}
use Rattle.thr_model.specs.Events.{clock_to}
use Rattle.thr_frames.specs.Stacks.{StackView, remainder_of, setting_of, IsStack, IsRoutine}
use Rattle.thr_conds.specs.Agreement.{WaitsAgree}
use Rattle.thr_services.specs.Views.{ServicesView, state_with, opened}
use Rattle.thr_services.specs.Ready.{OwersStand}
use Rattle.thr_services.specs.Cancelling.{MutexesFit}
use Rattle.thr_stacks.specs.Stacks.{remainders_of}
use Rattle.thr_turns.specs.declared.workings.Workings.{Workings}
use Rattle.thr_turns.specs.declared.workings.Left.{Left}
use Rattle.thr_turns.specs.declared.workings.Left.TheVariants as left
use Rattle.thr_turns.specs.Ready.{IsReady}
use Rattle.thr_turns.specs.Steps.{IsTurn}
use Rattle.thr_machine.specs.Books.{most_size, most_lines, settings_in}

-- The stack stands for what is left to do in the thread (docs/machine.md, "What is left to do").
pub record IsOwn (s : Script) (st : State) (t : Tid) (k : StackView) : Type 0 where
  pub left : get st.remainders t.0 ≡ Some (remainder_of s k)
  pub setting : setting_of s k ≡ settings_in s st t.0

-- The stacks are those of threads in which something is left to do in this state (docs/machine.md, "What is left to do").
pub record StandsIn (s : Script) (st : State) (stacks : Table StackView) : Type 0 where
  pub rises : IsCanonical (remainders_of s stacks)
  pub among : (t : ℕ) → has stacks t ≡ true → has st.remainders t ≡ true

-- The thread has a stack, with which it can make its turn (docs/machine.md, "Turns").
pub record CanTurn (s : Script) (v : ServicesView) (stacks : Table StackView) (t : Tid) : Type 0 where
  pub own : StackView
  pub is : get stacks t.0 ≡ Some own
  pub stack : IsStack s own
  pub setting : setting_of s own ≡ record { script = s; me = t.0; size = frames_in (record_at v.threads t) }
  pub ready : IsReady s v own t

-- The thread made its turn on its stack, which stands in the table (docs/machine.md, "Turns").
pub record TurnsInPlace (s : Script) (t : Tid) (old new : Workings) (stacks stacks' : Table StackView) (left : Left) : Type 0 where
  pub own : StackView
  pub after : StackView
  pub is : get stacks t.0 ≡ Some own
  pub turn : IsTurn s t old new own after left
  pub puts : stacks' ≡ put stacks t.0 after

-- The stack is that of a thread which holds so many frames and begins at this routine with this argument (docs/machine.md, "What
-- is left to do").
pub record HasBegun (s : Script) (u : Tid) (size : ℕ) (routine : NameId) (n : ℤ) (k : StackView) : Type 0 where
  pub stack : IsStack s k
  pub begins : remainder_of s k ≡ fresh s routine n
  pub setting : setting_of s k ≡ record { script = s; me = u.0; size = size }

-- What turns work on at the opening on this script: the service has asked nothing, shared variables have their declared values,
-- and no line is written (docs/machine.md, "The opening").
pub record OpensOn (s : Script) (w : Workings) : Type 0 where
  pub services : (remainders : Table Remainder) (shared : Table ℤ) → state_with w.services remainders shared ≡ opened s.items remainders shared
  pub shared : w.shared ≡ declared_values s.items
  pub no_lines : w.entries.items ≡ []
  pub interface : w.interface ≡ interface_of s

-- The table has the stack of thread 1 alone, which begins at the routine `main` (docs/machine.md, "The opening").
pub record HasFirst (s : Script) (stacks : Table StackView) : Type 0 where
  pub first : StackView
  pub alone : stacks ≡ put none 1 first
  pub begun : HasBegun s (thread 1) 256 (main_of s) (pos 0) first

-- The thread begins at this routine with this argument, and has its stack in the table (docs/machine.md, "Turns").
pub record Begins (s : Script) (ths : Threads) (u : Tid) (routine : NameId) (n : ℤ) (stacks stacks' : Table StackView) : Type 0 where
  pub its : StackView
  pub begun : HasBegun s u (frames_in (record_at ths u)) routine n its
  pub puts : stacks' ≡ put stacks u.0 its

-- The table of stacks after a turn that leaves this of its thread: as it was, with the stack of the thread that begins, or
-- without the stack of the one that has ended (docs/machine.md, "Turns").
abbrev pub StacksAfter : Script → Threads → Tid → (stacks stacks' : Table StackView) → Left → Type 0
StacksAfter s ths t stacks stacks' left.Goes = stacks' ≡ stacks
StacksAfter s ths t stacks stacks' (left.Begins u routine n) = Begins s ths u routine n stacks stacks'
StacksAfter s ths t stacks stacks' left.Ended = stacks' ≡ cut stacks t.0

-- What is left of a thread can be settled in the table: the thread that begins has a routine and frames, and a place in the
-- table, and there is a stack for it (docs/machine.md, "Turns").
abbrev pub CanSettle : Script → Threads → Tid → Table StackView → Option StackView → Left → Type 0
CanSettle s ths t stacks spare left.Goes = ⊤
CanSettle s ths t stacks spare (left.Begins u routine n) =
    IsRoutine s routine × (1 ≤ frames_in (record_at ths u)) × (frames_in (record_at ths u) ≤ most_size) × (has_place stacks u.0 most ≡ true) × (is_some spare ≡ true)
CanSettle s ths t stacks spare left.Ended = ⊤

-- ---- the clock

-- The objects agree with the rows, and counts are below their tops, so that the clock can move (docs/machine.md, "Times").
pub record CanMove (v : ServicesView) : Type 0 where
  pub waits : WaitsAgree v.conds v.rows
  pub fit : MutexesFit v.conds
  pub owers : OwersStand v.debts v.rows
  pub arrival : v.rows.next_arrival + length v.conds.waits < 2 ^ 64
  pub few : length v.conds.waits ≤ most
  pub seats : length v.rows.seats ≤ most

-- The clock moved to this time (docs/machine.md, "Times").
pub record MovesTo (now : ℤ) (old new : Workings) : Type 0 where
  pub lines : List Entry
  pub written : new.entries.items ≡ old.entries.items ++ lines
  pub few : length lines ≤ most_lines
  pub len : vec_len new.entries ≡ vec_len old.entries + length lines
  pub shared : new.shared ≡ old.shared
  pub interface : new.interface ≡ old.interface
  pub made : (remainders : Table Remainder) (shared : Table ℤ)
      → clock_to (state_with old.services remainders shared) now ≡ record { state = state_with new.services remainders shared; lines = lines }

-- The state of the machine (docs/machine.md, "The state").
use Rattle.std.specs.Prelude.{ℕ, ℤ, pos, List, [], ◌∷◌, codes, position, unwrap_or, Option, Some, None}
use Rattle.std.specs.Str.{bytes_eq}
use Rattle.thr_values.specs.declared.number.NameId.{NameId}
use Rattle.thr_values.specs.declared.number.Tid.{Tid}
use Rattle.thr_values.specs.declared.reply.Reply.{Reply}
use Rattle.thr_syntax.specs.declared.tree.Item.{Item}
use Rattle.thr_syntax.specs.declared.tree.Item.TheVariants as item
use Rattle.thr_syntax.specs.declared.tree.Script.{Script}
use Rattle.thr_remainder.specs.Remainders.{Remainder, Setting}
use Rattle.thr_remainder.specs.Expressions.{SharedValues}
use Rattle.thr_remainder.specs.Starts.{fresh}
use Rattle.thr_parts.specs.declared.row.RowId.TheVariants as row
use Rattle.thr_parts.specs.declared.thread.Thread.{Thread}
use Rattle.thr_parts.specs.Tables.{Table, none, get, at, put}
use Rattle.thr_parts.specs.Rows.{Rows, no_rows, thread}
use Rattle.thr_parts.specs.Moves.{put_in_row}
use Rattle.thr_parts.specs.Threads.{Threads, first_threads, record_at, rank_at}
use Rattle.thr_parts.specs.Mutexes.{Locks, no_locks}
use Rattle.thr_parts.specs.Conditions.{Conds, no_conds}
use Rattle.thr_parts.specs.Keys.{Onces, no_onces}
use Rattle.thr_parts.specs.Pipes.{Pipes, first_pipes}

-- What a thread owes, which it makes before everything else: the return of the call that blocked it, the delivery of a cancel,
-- or the running of the once block for which it waited (docs/machine.md, "What threads owe").
pub data Debt : Type 0 where
  Return : (reply : Reply) → Debt
  Delivery : Debt
  Running : Debt

-- The state of the machine: what each part keeps, what is left to do in each thread that has not ended, what threads owe, the
-- values of shared variables, and the clock (docs/machine.md, "The state").
pub record State : Type 0 where
  pub threads : Threads
  pub remainders : Table Remainder
  pub debts : Table Debt
  pub rows : Rows
  pub locks : Locks
  pub conds : Conds
  pub onces : Onces
  pub pipes : Pipes
  pub shared : Table ℤ
  pub clock : ℤ

-- ---- threads

-- The remainder with nothing left, as a thread has it that isn't there.
abbrev pub nothing_left : Remainder
nothing_left = record { items = []; under_way = None; value = pos 0; err = pos 0; scopes = 0; unwindings = 0 }

-- What is left to do in a thread (docs/machine.md, "What is left to do").
abbrev pub remainder_of : State → Tid → Remainder
remainder_of st t = at st.remainders t.0 nothing_left

-- The state where this is left to do in a thread.
abbrev pub with_remainder : State → Tid → Remainder → State
with_remainder st t r = record st { remainders = put st.remainders t.0 r }

-- How many frames the stack of a thread with this record holds, 0 without a record (docs/machine.md, "Frames").
abbrev pub frames_in : Option Thread → ℕ
frames_in None = 0
frames_in (Some th) = th.frames

-- The script, the thread's number and how many frames its stack holds (docs/machine.md, "Frames").
abbrev pub setting_of : Script → State → Tid → Setting
setting_of s st t = record { script = s; me = t.0; size = frames_in (record_at st.threads t) }

-- The rank of a thread (docs/machine.md, "Ranks and arrivals").
abbrev pub rank_of : State → Tid → ℕ
rank_of st t = rank_at st.threads t

-- ---- what threads owe

-- What a thread owes.
abbrev pub debt_of : State → Tid → Option Debt
debt_of st t = get st.debts t.0

-- The thread owes this from now on.
abbrev pub owes : Table Debt → Debt → Tid → Table Debt
owes debts d t = put debts t.0 d

-- What threads owe once this thread owes this, unless it owes something earlier (docs/machine.md, "Mutexes").
abbrev pub owes_more : Table Debt → Option Debt → Debt → Tid → Table Debt
owes_more debts None d t = put debts t.0 d
owes_more debts (Some earlier) d t = debts

-- The thread owes this, unless it owes something already: a thread that waited for its mutex after a condition keeps its reply
-- or its delivery (docs/machine.md, "Mutexes").
abbrev pub owes_or_keeps : Table Debt → Debt → Tid → Table Debt
owes_or_keeps debts d t = owes_more debts (get debts t.0) d t

-- Each of these threads owes this.
abbrev pub all_owe : Table Debt → Debt → List Tid → Table Debt
all_owe debts d [] = debts
all_owe debts d (t ∷ ts) = all_owe (owes debts d t) d ts

-- ---- shared variables

-- The values of shared variables.
abbrev pub shared_values : State → SharedValues
shared_values st name = at st.shared name.0 (pos 0)

-- Shared variables with these values, in their order.
abbrev pub with_writes : Table ℤ → List (NameId × ℤ) → Table ℤ
with_writes shared [] = shared
with_writes shared (w ∷ ws) = with_writes (put shared w.0.0 w.1) ws

-- Shared variables with their declared values.
unfoldable pub declared_values : List Item → Table ℤ
declared_values [] = none
declared_values (item.Shared name n ∷ items) = put (declared_values items) name.0 n
declared_values (_ ∷ items) = declared_values items

-- ---- the opening

-- The name `main` (docs/script.md, "Lines").
unfoldable pub main_of : Script → NameId
main_of s = record { 0 = unwrap_or (position (λ name. bytes_eq name (codes "main")) s.names) 0 }

-- The machine opened on a script: thread 1 is ready at the routine `main` with argument 0, and the clock stands at 0
-- (docs/machine.md, "The opening").
abbrev pub opening : Script → State
opening s = record {
  threads = first_threads;
  remainders = put none 1 (fresh s (main_of s) (pos 0));
  debts = none;
  rows = put_in_row no_rows row.Ready (thread 1) (rank_at first_threads (thread 1));
  locks = no_locks;
  conds = no_conds;
  onces = no_onces;
  pipes = first_pipes s.items;
  shared = declared_values s.items;
  clock = pos 0;
}

-- Threads that become ready and owe something (docs/machine.md, "What threads owe").
use Rattle.std.specs.Prelude.{◌≡◌, ◌+◌, ◌<◌, ◌^◌, ℕ, true, length, List, [], ◌∷◌, Option, Some, None}
use Rattle.thr_values.specs.declared.number.Tid.{Tid}
use Rattle.thr_values.specs.declared.number.NameId.{NameId}
use Rattle.thr_values.specs.declared.reply.Reply.TheVariants as reply
use Rattle.thr_parts.specs.Tables.{Table, get, has, put}
use Rattle.thr_parts.specs.Rows.{Rows, most}
use Rattle.thr_parts.specs.Moves.{make_ready}
use Rattle.thr_tables.specs.Places.{has_place}
use Rattle.thr_services.specs.declared.debt.Debt.{Debt}
use Rattle.thr_services.specs.declared.debt.Debt.TheVariants as debt

-- What threads owe once this thread owes this, unless it owes something earlier (docs/machine.md, "Mutexes").
abbrev pub owing : Table Debt → Option Debt → Debt → Tid → Table Debt
owing debts None d t = put debts t.0 d
owing debts (Some earlier) d t = debts

-- The rows where the thread that is there is ready (docs/machine.md, "Mutexes").
abbrev pub rows_given : (Tid → ℕ) → Rows → Option Tid → Rows
rows_given rank rs None = rs
rows_given rank rs (Some t) = make_ready rank rs t

-- What threads owe where the thread that is there was given a mutex: `ok`, unless it owes something earlier (docs/machine.md,
-- "Mutexes").
abbrev pub debts_given : Table Debt → Option Tid → Table Debt
debts_given debts None = debts
debts_given debts (Some t) = owing debts (get debts t.0) (debt.Return reply.Done) t

-- What threads owe where the thread that is there owes this from now on.
abbrev pub debts_woken : Table Debt → Debt → Option Tid → Table Debt
debts_woken debts d None = debts
debts_woken debts d (Some t) = put debts t.0 d

-- There is room for the thread in the rows and among those that owe something, and for one arrival more.
pub record CanBeReady (rs : Rows) (debts : Table Debt) (t : Tid) : Type 0 where
  pub seat : length rs.seats < most
  pub arrival : rs.next_arrival + 1 < 2 ^ 64
  pub place : has_place debts t.0 most ≡ true

-- Each thread that owes something stands in a row or runs (docs/machine.md, "What threads owe").
pub record OwersStand (debts : Table Debt) (rs : Rows) : Type 0 where
  pub stands : (t : ℕ) → has debts t ≡ true → has rs.seats t ≡ true

-- What threads owe where each of these owes this from now on.
abbrev pub debts_all : Table Debt → Debt → List Tid → Table Debt
debts_all debts d [] = debts
debts_all debts d (t ∷ ts) = debts_all (put debts t.0 d) d ts

-- What a thread owes whose time has come: a delay owes `ok`, and a timed wait, which has a mutex, EAGAIN (docs/machine.md,
-- "Times").
abbrev pub due_as : Option NameId → Debt
due_as None = debt.Return reply.Done
due_as (Some m) = debt.Return reply.Eagain

-- What threads owe once these have stopped waiting for a time (docs/machine.md, "Times").
abbrev pub due_all : Table Debt → List (Tid × Option NameId) → Table Debt
due_all debts [] = debts
due_all debts (w ∷ ws) = due_all (put debts w.0.0 (due_as w.1)) ws

-- The events of the machine (docs/machine.md, "Events").
use Rattle.std.specs.Prelude.{ℕ, nat_lt, ℤ, List, [], ◌∷◌, if◌then◌else◌, Bool, true, false, Option, Some, None}
use Rattle.std.specs.Option.{option_map}
use Rattle.thr_values.specs.declared.number.NameId.{NameId}
use Rattle.thr_values.specs.declared.number.Tid.{Tid}
use Rattle.thr_values.specs.declared.event.Event.{Event}
use Rattle.thr_values.specs.declared.event.Event.TheVariants as event
use Rattle.thr_values.specs.declared.reply.Reply.TheVariants as reply
use Rattle.thr_values.specs.declared.history.Who.TheVariants as who
use Rattle.thr_values.specs.declared.history.What.TheVariants as what
use Rattle.thr_values.specs.declared.history.Entry.{Entry}
use Rattle.thr_syntax.specs.declared.tree.Script.{Script}
use Rattle.thr_parts.specs.Tables.{Table}
use Rattle.thr_parts.specs.Dispatch.{Dispatched, dispatch, running, some_can_run}
use Rattle.thr_parts.specs.Waking.{Woken}
use Rattle.thr_parts.specs.Expiry.{earliest, expire_all}
use Rattle.thr_model.specs.States.{State, Debt, Return, rank_of, owes}
use Rattle.thr_model.specs.Calls.{Gifts}
use Rattle.thr_model.specs.Turns.{Made, gift_lines, turn_of}

-- ---- dispatch

-- The line of a dispatch (docs/journal.md, "The lines").
abbrev pub run_line : ℕ → Tid → Entry
run_line p t = record { who = who.Proc p; what = what.Run t }

-- The state and the line of a dispatch, where the processor took a thread (docs/machine.md, "Events").
abbrev pub dispatch_made : State → ℕ → Dispatched → Option Tid → Option Made
dispatch_made st p o None = None
dispatch_made st p o (Some t) = Some (record { state = record st { rows = o.rows }; lines = run_line p t ∷ [] })

-- Processor p takes the best ready thread, where it has none (docs/machine.md, "Dispatch and slices").
abbrev pub dispatch_of : State → ℕ → Option Made
dispatch_of st p = let o : Dispatched = dispatch st.rows p in dispatch_made st p o o.taken

-- ---- the clock

-- The line of a move of the clock (docs/journal.md, "The lines").
abbrev pub clock_line : ℤ → Entry
clock_line n = record { who = who.Clock; what = what.Clock n }

-- A delay owes `ok`, and a timed wait, which has a mutex, EAGAIN (docs/machine.md, "Times").
abbrev pub due_debt : Option NameId → Debt
due_debt None = Return reply.Done
due_debt (Some m) = Return reply.Eagain

-- What threads owe once these have stopped waiting for a time (docs/machine.md, "Times").
abbrev pub due_owe : Table Debt → List (Tid × Option NameId) → Table Debt
due_owe debts [] = debts
due_owe debts (w ∷ ws) = due_owe (owes debts (due_debt w.1) w.0) ws

-- The state and the lines of a move of the clock: its own line, and then the gifts (docs/machine.md, "Events").
abbrev pub clock_made : State → ℤ → Woken → Made
clock_made st now o = record {
  state = record st { conds = o.conds; locks = o.locks; rows = o.rows; debts = due_owe st.debts o.woken; clock = now };
  lines = clock_line now ∷ gift_lines (mutex_gifts o.gifts);
}
  where
    mutex_gifts : List (Tid × NameId) → Gifts
    mutex_gifts [] = []
    mutex_gifts (g ∷ gs) = (g.0, Some g.1) ∷ mutex_gifts gs

-- The clock moves to the earliest time for which a thread waits, and each that waits for it stops waiting (docs/machine.md,
-- "Times").
abbrev pub clock_to : State → ℤ → Made
clock_to st now = clock_made st now (expire_all (rank_of st) st.conds st.locks st.rows now)

-- ---- events

-- The move of the clock, where no thread is ready or runs and one waits for a time (docs/machine.md, "Events").
abbrev pub clock_of : Bool → State → Option Made
clock_of true st = None
clock_of false st = option_map (clock_to st) (earliest st.conds)

-- What an event makes of a state of n processors, and nothing where it isn't legal there (docs/machine.md, "Events").
unfoldable pub made_by : Script → ℕ → State → Event → Option Made
made_by s n st (event.Dispatch p) = if nat_lt p n then dispatch_of st p else None
made_by s n st (event.Turn p) = option_map (turn_of s st) (running st.rows p)
made_by s n st event.Clock = clock_of (some_can_run st.rows) st

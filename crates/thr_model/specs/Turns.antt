-- Turns of threads (docs/machine.md, "Turns").
use Rattle.std.specs.Prelude.{ℤ, List, [], ◌∷◌, ◌++◌, map, Bool, true, false, Option, Some, None, Ok, Err}
use Rattle.thr_values.specs.declared.number.NameId.{NameId}
use Rattle.thr_values.specs.declared.number.Tid.{Tid}
use Rattle.thr_values.specs.declared.scheduling.Policy.{Policy}
use Rattle.thr_values.specs.declared.scheduling.Policy.TheVariants as policy
use Rattle.thr_values.specs.declared.reply.Reply.{Reply}
use Rattle.thr_values.specs.declared.reply.Reply.TheVariants as reply
use Rattle.thr_values.specs.declared.history.Who.TheVariants as who
use Rattle.thr_values.specs.declared.history.What.{What}
use Rattle.thr_values.specs.declared.history.What.TheVariants as what
use Rattle.thr_values.specs.declared.history.Entry.{Entry}
use Rattle.thr_syntax.specs.declared.dce.DceCall.{DceCall}
use Rattle.thr_syntax.specs.declared.dce.DceCall.TheVariants as dce
use Rattle.thr_syntax.specs.declared.tree.Script.{Script}
use Rattle.thr_remainder.specs.Acts.{Act, Asks}
use Rattle.thr_remainder.specs.Remainders.{Setting, Remainder, Move, Place, At, place_in, act_at}
use Rattle.thr_remainder.specs.Starts.{still, raised, delivered, begins_once, begins_destructor}
use Rattle.thr_remainder.specs.Steps.{shared_step, written}
use Rattle.thr_remainder.specs.Calls.{shape_of, arguments}
use Rattle.thr_remainder.specs.Replies.{Values, asked, replied}
use Rattle.thr_remainder.specs.Replies as replies
use Rattle.thr_remainder.specs.Runs.{Halt, Delivers, Shares, Undoes, Completes, Ends, Pauses, Run, run_of, most_steps}
use Rattle.thr_parts.specs.declared.row.RowId.TheVariants as row
use Rattle.thr_parts.specs.declared.thread.Thread.{Thread}
use Rattle.thr_parts.specs.Tables.{cut}
use Rattle.thr_parts.specs.Moves.{make_ready, leave, Freed, free_row}
use Rattle.thr_parts.specs.Dispatch.{keeps}
use Rattle.thr_parts.specs.Threads.{record_at, set_ended}
use Rattle.thr_parts.specs.Cancels.{mode_at, deliver}
use Rattle.thr_parts.specs.Keys.{DestructorCall, NextDestructor, next_destructor}
use Rattle.thr_parts.specs.OnceBlocks as once
use Rattle.thr_model.specs.States.{State, Debt, Return, Delivery, Running, remainder_of, with_remainder, setting_of, rank_of, debt_of, owes, all_owe, shared_values, with_writes}
use Rattle.thr_model.specs.Calls.{Gifts, Answered, answered}

-- What an event makes: the state after it, and its lines (docs/machine.md, "Events").
pub record Made : Type 0 where
  pub state : State
  pub lines : List Entry

-- A line of a thread.
abbrev pub thread_line : Tid → What → Entry
thread_line t w = record { who = who.Thread t; what = w }

-- The lines of threads that were given a mutex.
abbrev pub gift_lines : Gifts → List Entry
gift_lines gs = map (λ g. thread_line g.0 (what.Gift g.1)) gs

-- A thread has this left, after these lines of its own.
abbrev pub moved : State → Tid → Move → Made
moved st t m = record { state = with_remainder st t m.to; lines = map (thread_line t) m.lines }

-- The same after the state's own lines.
abbrev pub after_entries : List Entry → Made → Made
after_entries entries made = record { state = made.state; lines = entries ++ made.lines }

-- ---- calls

-- One step after another: what is left after both, and the lines of both (docs/machine.md, "Turns").
abbrev pub then_move : Move → Move → Move
then_move m n = record { to = n.to; lines = m.lines ++ n.lines }

-- The caller of this call begins the routine of its once block.
abbrev pub runs_routine : Setting → DceCall → Move → Move
runs_routine g (dce.Once block routine) m = then_move m (begins_once g block routine m.to)
runs_routine g _ m = m

-- The caller of this call begins the routine of its once block, or doesn't (docs/machine.md, "Once blocks").
abbrev pub runs_if : Bool → Setting → DceCall → Move → Move
runs_if true g call m = runs_routine g call m
runs_if false g call m = m

-- What is left after a call that has this reply: where it blocks, the call is still the next step (docs/machine.md,
-- "Replies").
abbrev pub after_reply : Setting → DceCall → Bool → Remainder → Reply → Move
after_reply g call runs r reply.Blocks = still r
after_reply g call runs r y = runs_if runs g call (replied g y r)

-- Shared variables after the reply.
abbrev pub stores_of : Remainder → Reply → List (NameId × ℤ)
stores_of r reply.Blocks = []
stores_of r y = replies.writes r y

-- The state with what the reply stores in shared variables (docs/machine.md, "Replies").
abbrev pub with_stores : State → Remainder → Reply → State
with_stores st r y = record st { shared = with_writes st.shared (stores_of r y) }

-- The line of the call comes first, and after it the gifts that it made (docs/journal.md, "The lines").
abbrev pub call_made : Tid → Setting → DceCall → List ℤ → Remainder → Answered → Made
call_made t g call ns r o =
    after_entries (thread_line t (what.Call (shape_of call).word (arguments call ns) o.reply) ∷ gift_lines o.gifts)
    (moved (with_stores o.state r o.reply) t (after_reply g call o.runs r o.reply))

-- A call whose expressions have these values, or what is raised in its place (docs/machine.md, "Calls").
abbrev pub called : Script → State → Tid → Setting → DceCall → Remainder → Values → Made
called s st t g call r (Ok ns) = call_made t g call ns r (answered s st t call ns)
called s st t g call r (Err x) = moved st t (raised x r)

-- ---- shared steps

-- The state where a shared variable has this new value, or none has (docs/machine.md, "Shared statements").
abbrev pub written_to : State → Option (NameId × ℤ) → State
written_to st None = st
written_to st (Some w) = record st { shared = with_writes st.shared (w ∷ []) }

-- A shared statement is made (docs/machine.md, "Shared statements").
abbrev pub shared_made : Script → State → Tid → Setting → Remainder → Act → Made
shared_made s st t g r (Asks call) = called s st t g call r (asked g (shared_values st) call r)
shared_made s st t g r _ = moved (written_to st (written g (shared_values st) r)) t (shared_step g (shared_values st) r)

-- A cancel is delivered (docs/machine.md, "Cancels").
abbrev pub delivery_made : State → Tid → Remainder → Made
delivery_made st t r = moved (record st { threads = deliver st.threads t }) t (delivered r)

-- A once block is undone: the best that waits for it is ready, holds it and owes its running (docs/machine.md, "Once blocks").
abbrev pub handed_on : State → once.Undone → Option Tid → State
handed_on st o None = record st { onces = o.onces; rows = o.rows }
handed_on st o (Some t) = record st { onces = o.onces; rows = make_ready (rank_of st) o.rows t; debts = owes st.debts Running t }

-- A once block is undone by the unwinding under way (docs/machine.md, "Once blocks").
abbrev pub undoing_made : State → Tid → NameId → Move → Made
undoing_made st t block m = let o : once.Undone = once.undone st.onces st.rows block in moved (handed_on st o o.runner) t m

-- The threads that were freed from their row owe this return.
abbrev pub freed : State → Reply → Freed → State
freed st y f = record st { rows = f.rows; debts = all_owe st.debts (Return y) f.woken }

-- A once block is done, and those that wait for it owe `ok` (docs/machine.md, "Once blocks").
abbrev pub completion_made : State → Tid → NameId → Move → Made
completion_made st t block m =
    moved (freed (record st { onces = once.done st.onces block }) reply.Done (free_row (rank_of st) st.rows (row.Once block))) t m

-- ---- the end step

-- The thread ends, and those that wait for its end owe its value (docs/machine.md, "Thread records").
abbrev pub thread_ended : State → Tid → ℤ → Freed → State
thread_ended st t v f = record st {
  threads = set_ended st.threads t v;
  remainders = cut st.remainders t.0;
  debts = all_owe st.debts (Return (reply.Value v)) f.woken;
  rows = leave f.rows t;
}

-- The end step: the next destructor is called, or the thread ends (docs/machine.md, "Keys").
abbrev pub end_made : State → Tid → Setting → Remainder → NextDestructor → Option DestructorCall → Made
end_made st t g r o (Some c) = moved (record st { onces = o.onces }) t (begins_destructor g c.0 c.1 c.2 r)
end_made st t g r o None = record {
  state = thread_ended st t r.value (free_row (rank_of st) st.rows (row.Join t));
  lines = thread_line t (what.End r.value) ∷ [];
}

-- The end step of a thread, which asks for the next destructor (docs/machine.md, "Turns").
abbrev pub ending_made : State → Tid → Setting → Remainder → Made
ending_made st t g r = let o : NextDestructor = next_destructor st.onces t in end_made st t g r o o.call

-- ---- what a thread owes

-- The line of a return, and then what the reply does (docs/machine.md, "What threads owe").
abbrev pub returned : Tid → Reply → Made → Made
returned t y made = after_entries (thread_line t (what.Ret y) ∷ []) made

-- The caller of the once block that is its next call begins the routine that it named.
abbrev pub begun_by : Setting → Act → Move → Move
begun_by g (Asks call) m = runs_routine g call m
begun_by g _ m = m

-- The same of the call at this place, if one is next (docs/machine.md, "What threads owe").
abbrev pub begun_at : Setting → Place → Move → Move
begun_at g (At h) m = begun_by g (act_at h) m
begun_at g _ m = m

-- A thread makes what it owes (docs/machine.md, "What threads owe").
abbrev pub debt_made : State → Tid → Setting → Remainder → Debt → Made
debt_made st t g r (Return y) = returned t y (moved (with_stores st r y) t (replied g y r))
debt_made st t g r Delivery = delivery_made st t r
debt_made st t g r Running = returned t reply.Done (moved st t (begun_at g (place_in r.items) (replied g reply.Done r)))

-- ---- turns

-- What ends the quiet part is made, with what is left after that part (docs/machine.md, "Turns").
abbrev pub halt_made : Script → State → Tid → Setting → Remainder → Halt → Made
halt_made s st t g r Delivers = delivery_made st t r
halt_made s st t g r (Shares h) = shared_made s st t g r (act_at h)
halt_made s st t g r (Undoes block m) = undoing_made st t block m
halt_made s st t g r (Completes block m) = completion_made st t block m
halt_made s st t g r Ends = ending_made st t g r
halt_made s st t g r Pauses = moved st t (still r)

-- The lines of the quiet part, and then what ends it is made (docs/machine.md, "Turns").
abbrev pub run_made : Script → State → Tid → Setting → Run → Made
run_made s st t g run = after_entries (map (thread_line t) run.lines) (halt_made s st t g run.to run.halt)

-- The turn of a thread that owes this, or nothing (docs/machine.md, "Turns").
abbrev pub turn_by : Script → State → Tid → Option Debt → Made
turn_by s st t (Some d) = debt_made (record st { debts = cut st.debts t.0 }) t (setting_of s st t) (remainder_of st t) d
turn_by s st t None =
    run_made s st t (setting_of s st t) (run_of most_steps (setting_of s st t) (mode_at st.threads t) (remainder_of st t))

-- The policy is SCHED_FIFO (docs/machine.md, "Dispatch and slices").
abbrev pub is_fifo : Policy → Bool
is_fifo policy.Fifo = true
is_fifo _ = false

-- The policy in this record is SCHED_FIFO (docs/machine.md, "Dispatch and slices").
abbrev pub is_fifo_in : Option Thread → Bool
is_fifo_in None = false
is_fifo_in (Some th) = is_fifo th.policy

-- After its turn the thread keeps its processor or gives it up (docs/machine.md, "Dispatch and slices").
abbrev pub kept : Tid → Made → Made
kept t made = record {
  state = record made.state { rows = (keeps made.state.rows t (is_fifo_in (record_at made.state.threads t))).rows };
  lines = made.lines;
}

-- The turn of a thread that runs (docs/machine.md, "Turns").
unfoldable pub turn_of : Script → State → Tid → Made
turn_of s st t = kept t (turn_by s st t (debt_of st t))

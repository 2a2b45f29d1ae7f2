-- A thread by itself, for worked examples: its calls are answered as the example says (docs/machine.md, "The next step").
use Rattle.std.specs.Prelude.{ℕ, zero, suc, ℤ, List, [], ◌∷◌, ◌++◌, if◌then◌else◌, Option, Some, None, Ok, Err}
use Rattle.thr_values.specs.declared.number.NameId.{NameId}
use Rattle.thr_values.specs.declared.reply.Reply.{Reply}
use Rattle.thr_values.specs.declared.reply.Reply.TheVariants as reply
use Rattle.thr_values.specs.declared.history.What.{What}
use Rattle.thr_values.specs.declared.history.What.TheVariants as what
use Rattle.thr_syntax.specs.declared.dce.DceCall.{DceCall}
use Rattle.thr_remainder.specs.Acts.{Act, Asks}
use Rattle.thr_remainder.specs.Declarations.{is_same_name}
use Rattle.thr_remainder.specs.Remainders.{Setting, Remainder, Move, act_at}
use Rattle.thr_remainder.specs.Expressions.{SharedValues}
use Rattle.thr_remainder.specs.Starts.{raised, delivered, begins_once, begins_destructor}
use Rattle.thr_remainder.specs.Steps.{shared_step, written}
use Rattle.thr_remainder.specs.Calls.{shape_of, arguments}
use Rattle.thr_remainder.specs.Replies.{Values, asked, replied, writes}
use Rattle.thr_remainder.specs.Next.{Next, GoesOutward, UndoesOnce, EndsThread, EndsOnce, Shares, IsAtPoint, StepsQuietly, next}

-- What comes of the next call: a reply; `ok`, and its caller runs the routine of a once block; or a cancel is delivered. After
-- `blocks` the call is still the next one, and gets its reply as a return. At the thread's end a destructor is called.
pub data Answer : Type 0 where
  Replies : (reply : Reply) → Answer
  Runs : (block routine : NameId) → Answer
  Delivers : Answer
  Returns : (reply : Reply) → Answer
  ReturnsAndRuns : (block routine : NameId) → Answer
  Destroys : (key routine : NameId) (value : ℤ) → Answer

-- Where an example stands: what is left, the values of shared variables, and the answers to come.
pub record Example : Type 0 where
  pub to : Remainder
  pub shared : SharedValues
  pub answers : List Answer

-- The lines of an example from here on, and where it ends.
pub record Tale : Type 0 where
  pub lines : List What
  pub example : Example

-- These lines, and then the rest of the example.
abbrev pub led_by : List What → Tale → Tale
led_by lines tale = record { lines = lines ++ tale.lines; example = tale.example }

-- The values of shared variables where this one has this value (docs/machine.md, "Shared statements").
abbrev pub with_write : NameId → ℤ → SharedValues → SharedValues
with_write name n shared other = if is_same_name name other then n else shared other

-- The values of shared variables after several are written, in this order (docs/machine.md, "Replies").
abbrev pub with_writes : List (NameId × ℤ) → SharedValues → SharedValues
with_writes [] shared = shared
with_writes (w ∷ ws) shared = with_writes ws (with_write w.0 w.1 shared)

-- The values of shared variables after one is written, or none (docs/machine.md, "Shared statements").
abbrev pub with_one : Option (NameId × ℤ) → SharedValues → SharedValues
with_one None shared = shared
with_one (Some w) shared = with_write w.0 w.1 shared

-- This step, and then more of the example, with these answers to come.
abbrev pub at_move : Move → Example → List Answer → (Example → Tale) → Tale
at_move m st answers more = led_by m.lines (more (record { to = m.to; shared = st.shared; answers = answers }))

-- The example ends where it stands.
abbrev pub stops : Example → Tale
stops st = record { lines = []; example = st }

-- ---- calls

-- The call's line, and then this move where it doesn't block.
abbrev pub called : DceCall → List ℤ → Reply → Move → Move
called call ns reply m = record { to = m.to; lines = what.Call (shape_of call).word (arguments call ns) reply ∷ m.lines }

-- What a call does with this reply: where it blocks, it is still the next step (docs/machine.md, "Replies").
abbrev pub move_after : Reply → Setting → Remainder → Move
move_after reply.Blocks g r = record { to = r; lines = [] }
move_after y g r = replied g y r

-- The shared variables that this reply writes: `blocks` writes none (docs/machine.md, "Replies").
abbrev pub writes_after : Reply → Remainder → List (NameId × ℤ)
writes_after reply.Blocks r = []
writes_after y r = writes r y

-- A call whose expressions have these values has this reply; a fault is raised in its place (docs/machine.md, "Calls").
abbrev pub replies : Setting → DceCall → Values → Reply → Example → List Answer → (Example → Tale) → Tale
replies g call (Err x) y st answers more = at_move (raised x st.to) st answers more
replies g call (Ok ns) y st answers more =
    at_move (called call ns y (move_after y g st.to)) (record st { shared = with_writes (writes_after y st.to) st.shared }) answers more

-- One step after another: what is left after both, and the lines of both.
abbrev pub then_move : Move → Move → Move
then_move m n = record { to = n.to; lines = m.lines ++ n.lines }

-- A call replies `ok` and its caller runs a once routine; a fault is raised in its place (docs/machine.md, "Once blocks").
abbrev pub runs : Setting → DceCall → Values → NameId → NameId → Example → List Answer → (Example → Tale) → Tale
runs g call (Err x) block routine st answers more = at_move (raised x st.to) st answers more
runs g call (Ok ns) block routine st answers more =
    let m = called call ns reply.Done (replied g reply.Done st.to) in at_move (then_move m (begins_once g block routine m.to)) st answers more

-- The line of a return, and then the rest.
abbrev pub returning : Reply → Move → Move
returning y m = record { to = m.to; lines = what.Ret y ∷ m.lines }

-- The call that waits returns with this reply (docs/machine.md, "What threads owe").
abbrev pub returned_by : Setting → Reply → Example → List Answer → (Example → Tale) → Tale
returned_by g y st answers more =
    at_move (returning y (replied g y st.to)) (record st { shared = with_writes (writes st.to y) st.shared }) answers more

-- The call that waits returns with `ok`, and its caller runs the routine of a once block (docs/machine.md, "What threads owe").
abbrev pub runs_later : Setting → NameId → NameId → Example → List Answer → (Example → Tale) → Tale
runs_later g block routine st answers more =
    let m = returning reply.Done (replied g reply.Done st.to) in at_move (then_move m (begins_once g block routine m.to)) st answers more

-- The next call is answered by the first of these answers; where that is none of a call the example ends.
abbrev pub answers_call : Setting → DceCall → List Answer → Example → (Example → Tale) → Tale
answers_call g call [] st more = stops st
answers_call g call (Replies y ∷ answers) st more = replies g call (asked g st.shared call st.to) y st answers more
answers_call g call (Runs block routine ∷ answers) st more = runs g call (asked g st.shared call st.to) block routine st answers more
answers_call g call (Delivers ∷ answers) st more = at_move (delivered st.to) st answers more
answers_call g call (Returns y ∷ answers) st more = returned_by g y st answers more
answers_call g call (ReturnsAndRuns block routine ∷ answers) st more = runs_later g block routine st answers more
answers_call g call (Destroys key routine n ∷ answers) st more = stops st

-- A call gets its answer, and any other shared statement is made (docs/machine.md, "Shared statements").
abbrev pub at_shared : Setting → Act → Example → (Example → Tale) → Tale
at_shared g (Asks call) st more = answers_call g call st.answers st more
at_shared g _ st more =
    at_move (shared_step g st.shared st.to) (record st { shared = with_one (written g st.shared st.to) st.shared }) st.answers more

-- ---- the thread's end

-- The thread calls a destructor where the next answer says so, and else ends (docs/machine.md, "Turns").
abbrev pub at_end : Setting → List Answer → Example → (Example → Tale) → Tale
at_end g (Destroys key routine n ∷ answers) st more = at_move (begins_destructor g key routine n st.to) st answers more
at_end g _ st more = record { lines = what.End st.to.value ∷ []; example = st }

-- ---- the whole

-- The next step is made, and then more of the example (docs/machine.md, "The next step").
abbrev pub goes : Setting → Next → Example → (Example → Tale) → Tale
goes g (GoesOutward m) st more = at_move m st st.answers more
goes g (UndoesOnce block m) st more = at_move m st st.answers more
goes g EndsThread st more = at_end g st.answers st more
goes g (EndsOnce block m) st more = at_move m st st.answers more
goes g (Shares h) st more = at_shared g (act_at h) st more
goes g (IsAtPoint h) st more = at_shared g (act_at h) st more
goes g (StepsQuietly m) st more = at_move m st st.answers more

-- At most so many steps, until the thread has ended or a call has no answer.
unfoldable pub tale : ℕ → Setting → Example → Tale
tale zero g st = stops st
tale (suc n) g st = goes g (next g st.to) st (tale n g)

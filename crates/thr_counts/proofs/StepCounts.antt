-- A step that opens a scope or begins an unwinding has a line for it.
use Rattle.std.proofs.Common.{ℕ, zero, suc, ◌+◌, ◌≤◌, ℤ, Bool, true, false, List, [], ◌∷◌, length, length-append, Option, Some, None, Ok, Err, arith}
use Rattle.std.specs.Prelude.{if◌then◌else◌}
use Rattle.thr_values.specs.declared.exception.Exc.{Exc}
use Rattle.thr_values.specs.declared.history.What.{What}
use Rattle.thr_values.specs.declared.reply.Reply.{Reply}
use Rattle.thr_values.specs.declared.scheduling.Mode.{Mode}
use Rattle.thr_syntax.specs.Shared.{is_shared}
use Rattle.thr_syntax.specs.declared.tree.Script.{Script}
use Rattle.thr_remainder.specs.declared.unwinding.Cause.{Cause}
use Rattle.thr_remainder.specs.declared.unwinding.Unwinding.{Unwinding}
use Rattle.thr_remainder.specs.Acts.{Act, Sets, Says, Chooses, Repeats, Tries, Raises, RaisesAgain, Calls, Returns, Exits, Asks}
use Rattle.thr_remainder.specs.Remainders.{Item, Role, Calling, Trying, Catching, Finishing, Doing, Barrier, Setting, Remainder, Move, Spot, Place, Nowhere, AtEnd, At, place_in, act_at, has_room}
use Rattle.thr_remainder.specs.Expressions.{Value, SharedValues, none_shared, value_of}
use Rattle.thr_remainder.specs.Calls.{is_point, shape_of}
use Rattle.thr_remainder.specs.Starts.{sets_out}
use Rattle.thr_remainder.specs.Steps.{or_raised, valued, made, ended, step_at, quiet, shared_step}
use Rattle.thr_remainder.specs.Outward.{Meeting, Drops, Begins, Undoes, Loses, meeting, met, outward_from, outward}
use Rattle.thr_remainder.specs.Replies.{raised_if, raised_by, replied_by, replied_at, replied}
use Rattle.thr_remainder.specs.Next.{Next, next, next_by, next_outward, next_end, next_shared, next_at}
use Rattle.thr_remainder.specs.Next as step
use Rattle.thr_remainder.specs.Runs.{is_deliverable, Halt, Delivers, Shares, Completes, Ends, Run, or_delivers, goes_on, quiet_or_delivers, is_asynchronous, at_next, outward_move, run_of}
use Rattle.thr_remainder.specs.Runs as runs

-- How many scopes and unwindings a thread has had.
abbrev pub given : Remainder → ℕ
given r = r.scopes + r.unwindings

-- The move has a line for each that it adds.
abbrev pub Counts : Remainder → Move → Type 0
Counts r m = given m.to ≤ given r + length m.lines

-- ---- steps at the innermost place

set_out : (cause : Cause) (line : ℕ → What) (r : Remainder) → Counts r (sets_out cause line r)
set_out cause line r = omega arith

either_counts : (b : Bool) (r : Remainder) (m n : Move) → Counts r m → Counts r n → Counts r (if b then m else n)
either_counts true r m n h i = h
either_counts false r m n h i = i

valued_counts : (value : Value) (f : ℤ → Move) (r : Remainder) → ((n : ℤ) → Counts r (f n)) → Counts r (or_raised value f r)
valued_counts (Ok n) f r h = h n
valued_counts (Err x) f r h = omega arith

-- As many as before, and no matter which lines.
no_fewer : (n k : ℕ) → n ≤ n + k
no_fewer n k = omega arith

made_counts : (g : Setting) (tells : Bool) (shared : SharedValues) (act : Act) (h : Spot) (r : Remainder) → Counts r (made g tells shared act h r)
made_counts g tells shared (Sets v e) h r = valued_counts (value_of g shared r e) _ r (λ n. no_fewer (given r) _)
made_counts g tells shared (Says e) h r = valued_counts (value_of g shared r e) _ r (λ n. no_fewer (given r) _)
made_counts g tells shared (Chooses e body other) h r = valued_counts (value_of g shared r e) _ r (λ n. no_fewer (given r) _)
made_counts g tells shared (Repeats e again) h r = valued_counts (value_of g shared r e) _ r (λ n. no_fewer (given r) _)
made_counts g tells shared (Tries body ways) h r = either_counts (has_room g r 1) r _ _ (omega arith) (omega arith)
made_counts g tells shared (Raises name) h r = omega arith
made_counts g tells shared RaisesAgain h r = omega arith
made_counts g tells shared (Calls routine e place) h r =
    either_counts (has_room g r 1) r _ _ (valued_counts (value_of g shared r e) (valued g tells (Calls routine e place) h r) r (λ n. no_fewer (given r) _)) (omega arith)
made_counts g tells shared (Returns e) h r = valued_counts (value_of g shared r e) _ r (λ n. no_fewer (given r) _)
made_counts g tells shared (Exits e) h r = valued_counts (value_of g shared r e) _ r (λ n. omega arith)
made_counts g tells shared (Asks call) h r = omega arith

ended_counts : (role : Role) (outer : List Item) (r : Remainder) → Counts r (ended role outer r)
ended_counts (Calling locals place) outer r = omega arith
ended_counts (Trying scope ways) outer r = omega arith
ended_counts (Catching scope caught) outer r = omega arith
ended_counts (Finishing scope pending) outer r = omega arith
ended_counts (Doing scope block routine) outer r = omega arith
ended_counts (Barrier scope key routine) outer r = omega arith

step_counts : (g : Setting) (tells : Bool) (shared : SharedValues) (place : Place) (r : Remainder) → Counts r (step_at g tells shared place r)
step_counts g tells shared Nowhere r = omega arith
step_counts g tells shared (AtEnd close role outer) r = ended_counts role outer r
step_counts g tells shared (At h) r = made_counts g tells shared (act_at h) h r

pub quiet_counts : (g : Setting) (r : Remainder) → Counts r (quiet g r)
unfolding quiet
quiet_counts g r = step_counts g false none_shared (place_in r.items) r

pub shared_counts : (g : Setting) (shared : SharedValues) (r : Remainder) → Counts r (shared_step g shared r)
unfolding shared_step
shared_counts g shared r = step_counts g true shared (place_in r.items) r

-- ---- unwindings

met_counts : (meets : Meeting) (i : Item) (outer : List Item) (r : Remainder) (further : Move) → Counts r further → Counts r (met meets i outer r further)
met_counts Drops i outer r further h = h
met_counts (Begins role body line) i outer r further h = omega arith
met_counts Undoes i outer r further h = omega arith
met_counts (Loses line) i outer r further h = omega arith

outward_from_counts : (s : Script) (u : Unwinding) (items : List Item) (r : Remainder) → Counts r (outward_from s u items r)
outward_from_counts s u [] r = omega arith
outward_from_counts s u (i ∷ outer) r = met_counts (meeting s i.role u) i outer r (outward_from s u outer r) (outward_from_counts s u outer r)

outward_counts : (g : Setting) (u : Unwinding) (r : Remainder) → Counts r (outward g u r)
unfolding outward
outward_counts g u r = outward_from_counts g.script u r.items r

-- ---- replies

raised_if_counts : (x : Option Exc) (r : Remainder) → Counts r (raised_if x r)
raised_if_counts None r = omega arith
raised_if_counts (Some x) r = omega arith

replied_by_counts : (g : Setting) (act : Act) (h : Spot) (r : Remainder) (y : Reply) → Counts r (replied_by g act h r y)
replied_by_counts g (Asks call) h r y = raised_if_counts (raised_by _ call y) _
replied_by_counts g (Sets v e) h r y = omega arith
replied_by_counts g (Says e) h r y = omega arith
replied_by_counts g (Chooses e body other) h r y = omega arith
replied_by_counts g (Repeats e again) h r y = omega arith
replied_by_counts g (Tries body ways) h r y = omega arith
replied_by_counts g (Raises name) h r y = omega arith
replied_by_counts g RaisesAgain h r y = omega arith
replied_by_counts g (Calls routine e place) h r y = omega arith
replied_by_counts g (Returns e) h r y = omega arith
replied_by_counts g (Exits e) h r y = omega arith

replied_at_counts : (g : Setting) (place : Place) (r : Remainder) (y : Reply) → Counts r (replied_at g place r y)
replied_at_counts g Nowhere r y = omega arith
replied_at_counts g (AtEnd close role outer) r y = omega arith
replied_at_counts g (At h) r y = replied_by_counts g (act_at h) h r y

pub replied_counts : (g : Setting) (y : Reply) (r : Remainder) → Counts r (replied g y r)
unfolding replied
replied_counts g y r = replied_at_counts g (place_in r.items) r y

-- ---- the next step

-- A step that isn't shared has such lines.
abbrev Moves : Remainder → Next → Type 0
Moves r (step.GoesOutward m) = Counts r m
Moves r (step.UndoesOnce block m) = Counts r m
Moves r (step.EndsOnce block m) = Counts r m
Moves r (step.StepsQuietly m) = Counts r m
Moves r _ = Unit {0}

role_moves : (role : Role) (u : Unwinding) (outer : List Item) (r : Remainder) (m : Move) → Counts r m → Moves r (step.outward_or_undone role u outer r m)
role_moves (Doing scope block routine) u outer r m h = omega arith
role_moves _ u outer r m h = h

unwinding_moves : (u : Unwinding) (items : List Item) (r : Remainder) (m : Move) → Counts r m → Moves r (next_outward u items r m)
unwinding_moves u [] r m h = h
unwinding_moves u (i ∷ outer) r m h = role_moves i.role u outer r m h

end_moves : (role : Role) (outer : List Item) (r : Remainder) (m : Move) → Counts r m → Moves r (next_end role outer r m)
end_moves (Doing scope block routine) outer r m h = h
end_moves _ outer r m h = h

point_moves : (b : Bool) (h : Spot) (r : Remainder) → Moves r (if b then step.IsAtPoint h else step.Shares h)
point_moves true h r = tt
point_moves false h r = tt

act_moves : (act : Act) (h : Spot) (r : Remainder) → Moves r (next_shared act h)
act_moves (Asks call) h r = point_moves (is_point (shape_of call).word) h r
act_moves _ h r = tt

spot_moves : (b : Bool) (h : Spot) (r : Remainder) (m : Move) → Counts r m → Moves r (if b then next_shared (act_at h) h else step.StepsQuietly m)
spot_moves true h r m i = act_moves (act_at h) h r
spot_moves false h r m i = i

place_moves : (p : Place) (r : Remainder) (m : Move) → Counts r m → Moves r (next_at p r m)
place_moves Nowhere r m i = tt
place_moves (AtEnd close role outer) r m i = end_moves role outer r m i
place_moves (At h) r m i = spot_moves (is_shared h.stmt) h r m i

by_moves : (g : Setting) (u : Option Unwinding) (r : Remainder) → Moves r (next_by g u r)
by_moves g None r = place_moves (place_in r.items) r (quiet g r) (quiet_counts g r)
by_moves g (Some u) r = unwinding_moves u r.items r (outward g u r) (outward_counts g u r)

next_moves : (g : Setting) (r : Remainder) → Moves r (next g r)
unfolding next
next_moves g r = by_moves g r.under_way r

-- ---- the quiet part of a turn

-- So has what ends the quiet part, where that is a move of the thread's own.
abbrev pub HaltCounts : Remainder → Halt → Type 0
HaltCounts r (runs.Undoes block m) = Counts r m
HaltCounts r (runs.Completes block m) = Counts r m
HaltCounts r _ = Unit {0}

-- The quiet part has a line for each scope and unwinding that it adds, and what ends it has them for its own.
pub record RunCounts (r : Remainder) (run : Run) : Type 0 where
  pub to : given run.to ≤ given r + length run.lines
  pub halt : HaltCounts run.to run.halt

after_counts : (r : Remainder) (m : Move) (run : Run) → Counts r m → RunCounts m.to run → RunCounts r (runs.after_lines m.lines run)
after_counts r m run h i = let far = i.to in record { to = omega (arith, h, far, length-append m.lines run.lines); halt = i.halt }

here_counts : (r : Remainder) (halt : Halt) → HaltCounts r halt → RunCounts r (runs.halts r halt)
here_counts r halt h = record { to = omega arith; halt = h }

pauses_counts : (r : Remainder) → RunCounts r (runs.pauses r)
pauses_counts r = record { to = omega arith; halt = tt }

delivers_counts : (b : Bool) (r : Remainder) (halt : Halt) → HaltCounts r halt → HaltCounts r (or_delivers b halt)
delivers_counts true r halt h = tt
delivers_counts false r halt h = h

-- So has what comes after any quiet step.
abbrev AllCount : (Remainder → Run) → Type 0
AllCount more = (r : Remainder) → RunCounts r (more r)

goes_counts : (b : Bool) (more : Remainder → Run) (r : Remainder) (m : Move) → AllCount more → Counts r m → RunCounts r (goes_on b more m)
goes_counts true more r m all h = after_counts r m (runs.pauses m.to) h (pauses_counts m.to)
goes_counts false more r m all h = after_counts r m (more m.to) h (all m.to)

quietly_counts : (b : Bool) (mode : Mode) (more : Remainder → Run) (r : Remainder) (m : Move) → AllCount more → Counts r m → RunCounts r (quiet_or_delivers b mode more r m)
quietly_counts true mode more r m all h = here_counts r Delivers tt
quietly_counts false mode more r m all h = goes_counts (is_asynchronous mode) more r m all h

at_counts : (mode : Mode) (more : Remainder → Run) (r : Remainder) (x : Next) → AllCount more → Moves r x → RunCounts r (at_next mode more r x)
at_counts mode more r (step.GoesOutward m) all h = pauses_counts r
at_counts mode more r (step.UndoesOnce block m) all h = here_counts r (runs.Undoes block m) h
at_counts mode more r step.EndsThread all h = here_counts r Ends tt
at_counts mode more r (step.EndsOnce block m) all h = here_counts r _ (delivers_counts (is_deliverable mode false) r (Completes block m) h)
at_counts mode more r (step.Shares spot) all h = here_counts r _ (delivers_counts (is_deliverable mode false) r (Shares spot) tt)
at_counts mode more r (step.IsAtPoint spot) all h = here_counts r _ (delivers_counts (is_deliverable mode true) r (Shares spot) tt)
at_counts mode more r (step.StepsQuietly m) all h = quietly_counts (is_deliverable mode false) mode more r m all h

out_counts : (x : Next) (r : Remainder) → Moves r x → Counts r (outward_move x r)
out_counts (step.GoesOutward m) r h = h
out_counts (step.UndoesOnce block m) r h = omega arith
out_counts step.EndsThread r h = omega arith
out_counts (step.EndsOnce block m) r h = omega arith
out_counts (step.Shares spot) r h = omega arith
out_counts (step.IsAtPoint spot) r h = omega arith
out_counts (step.StepsQuietly m) r h = omega arith

pub run_counts : (n : ℕ) (g : Setting) (mode : Mode) (r : Remainder) → RunCounts r (run_of n g mode r)
unfolding run_of
run_counts zero g mode r = pauses_counts r
run_counts (suc n) g mode r =
    let out : Move = outward_move (next g r) r in
    after_counts r out (at_next mode (run_of n g mode) out.to (next g out.to)) (out_counts (next g r) r (next_moves g r))
    (at_counts mode (run_of n g mode) out.to (next g out.to) (run_counts n g mode) (next_moves g out.to))

-- The lines that a thread has of itself do nothing with locks.
use Rattle.std.proofs.Common.{ℕ, zero, suc, ℤ, Bool, true, false, List, [], ◌∷◌, ◌++◌, Option, Some, None, Ok, Err}
use Rattle.std.specs.Prelude.{if◌then◌else◌, ⊤}
use Rattle.thr_values.specs.declared.exception.Exc.{Exc}
use Rattle.thr_values.specs.declared.history.What.{What}
use Rattle.thr_values.specs.declared.reply.Reply.{Reply}
use Rattle.thr_values.specs.declared.reply.Reply.TheVariants as reply
use Rattle.thr_values.specs.declared.scheduling.Mode.{Mode}
use Rattle.thr_syntax.specs.Shared.{is_shared}
use Rattle.thr_syntax.specs.declared.dce.DceCall.{DceCall}
use Rattle.thr_syntax.specs.declared.dce.DceCall.TheVariants as dce
use Rattle.thr_syntax.specs.declared.tree.Script.{Script}
use Rattle.thr_remainder.specs.declared.unwinding.Cause.{Cause}
use Rattle.thr_remainder.specs.declared.unwinding.Cause.TheVariants.{Raised, Exit}
use Rattle.thr_remainder.specs.declared.unwinding.Unwinding.{Unwinding}
use Rattle.thr_remainder.specs.Places.{Handler, Ways, Catches, Finally}
use Rattle.thr_remainder.specs.Acts.{Act, Sets, Says, Chooses, Repeats, Tries, Raises, RaisesAgain, Calls, Returns, Exits, Asks}
use Rattle.thr_remainder.specs.Remainders.{Item, Role, Calling, Trying, Catching, Finishing, Doing, Barrier, Setting, Remainder, Move, Spot, Place, Nowhere, AtEnd, At, place_in, act_at, has_room}
use Rattle.thr_remainder.specs.Calls.{is_point, shape_of}
use Rattle.thr_remainder.specs.Expressions.{Value, SharedValues, none_shared, value_of}
use Rattle.thr_remainder.specs.Steps.{or_raised, valued, made, ended, step_at, quiet, shared_step}
use Rattle.thr_remainder.specs.Outward.{Meeting, Drops, Begins, Undoes, Loses, meeting, at_try, caught_by, first_catch, met, outward_from, outward}
use Rattle.thr_remainder.specs.Outward as unwinding
use Rattle.thr_remainder.specs.Replies.{raised_if, raised_by, replied_by, replied_at, replied}
use Rattle.thr_remainder.specs.Next.{Next, next, next_by, next_outward, next_end, next_shared, next_at}
use Rattle.thr_remainder.specs.Next as step
use Rattle.thr_remainder.specs.Runs.{is_deliverable, Halt, Delivers, Shares, Completes, Ends, Pauses, Run, pauses, or_delivers, goes_on, quiet_or_delivers, is_asynchronous, at_next, outward_move, run_of}
use Rattle.thr_remainder.specs.Runs as runs
use Rattle.thr_model.specs.Turns.{runs_routine, runs_if, after_reply, begun_by, begun_at}
use Rattle.thr_owners.proofs.Carrying.{IsAside, AreAside}

-- The lines of a move do nothing with locks.
abbrev pub MovesAside : Move → Type 0
MovesAside m = AreAside m.lines

pub aside_append : (xs ys : List What) → AreAside xs → AreAside ys → AreAside (xs ++ ys)
aside_append [] ys h i = i
aside_append (x ∷ xs) ys h i = (h.0, aside_append xs ys h.1 i)

-- ---- steps

either : (b : Bool) (m n : Move) → MovesAside m → MovesAside n → MovesAside (if b then m else n)
either true m n h i = h
either false m n h i = i

valued_aside : (value : Value) (f : ℤ → Move) (r : Remainder) → ((n : ℤ) → MovesAside (f n)) → MovesAside (or_raised value f r)
valued_aside (Ok n) f r h = h n
valued_aside (Err x) f r h = (tt, tt)

told_if : (b : Bool) (lines : List What) → AreAside lines → AreAside (if b then lines else [])
told_if true lines h = h
told_if false lines h = tt

module _ (g : Setting) (tells : Bool) (shared : SharedValues) (h : Spot) (r : Remainder) where
  made_aside : (act : Act) → MovesAside (made g tells shared act h r)
  made_aside (Sets v e) = valued_aside (value_of g shared r e) _ r (λ n. told_if tells _ (tt, tt))
  made_aside (Says e) = valued_aside (value_of g shared r e) _ r (λ n. told_if tells _ (tt, tt))
  made_aside (Chooses e body other) = valued_aside (value_of g shared r e) _ r (λ n. told_if tells _ (tt, tt))
  made_aside (Repeats e again) = valued_aside (value_of g shared r e) _ r (λ n. told_if tells _ (tt, tt))
  made_aside (Tries body ways) = either (has_room g r 1) _ _ (tt, tt) (tt, tt)
  made_aside (Raises name) = (tt, tt)
  made_aside RaisesAgain = (tt, tt)
  made_aside (Calls routine e place) =
      either (has_room g r 1) _ _ (valued_aside (value_of g shared r e) (valued g tells (Calls routine e place) h r) r (λ n. told_if tells _ (tt, tt))) (tt, tt)
  made_aside (Returns e) = valued_aside (value_of g shared r e) _ r (λ n. told_if tells _ (tt, tt))
  made_aside (Exits e) = valued_aside (value_of g shared r e) _ r (λ n. (tt, tt))
  made_aside (Asks call) = tt

ended_aside : (role : Role) (outer : List Item) (r : Remainder) → MovesAside (ended role outer r)
ended_aside (Calling locals place) outer r = tt
ended_aside (Trying scope (Catches handlers)) outer r = (tt, tt)
ended_aside (Trying scope (Finally body)) outer r = (tt, tt)
ended_aside (Catching scope caught) outer r = (tt, tt)
ended_aside (Finishing scope pending) outer r = (tt, tt)
ended_aside (Doing scope block routine) outer r = (tt, tt)
ended_aside (Barrier scope key routine) outer r = (tt, tt)

step_aside : (g : Setting) (tells : Bool) (shared : SharedValues) (place : Place) (r : Remainder) → MovesAside (step_at g tells shared place r)
step_aside g tells shared Nowhere r = tt
step_aside g tells shared (AtEnd close role outer) r = ended_aside role outer r
step_aside g tells shared (At h) r = made_aside g tells shared h r (act_at h)

quiet_aside : (g : Setting) (r : Remainder) → MovesAside (quiet g r)
unfolding quiet
quiet_aside g r = step_aside g false none_shared (place_in r.items) r

pub shared_aside : (g : Setting) (shared : SharedValues) (r : Remainder) → MovesAside (shared_step g shared r)
unfolding shared_step
shared_aside g shared r = step_aside g true shared (place_in r.items) r

-- ---- unwindings

-- The line of what an unwinding meets does nothing with locks.
abbrev MeetsAside : Meeting → Type 0
MeetsAside Drops = ⊤
MeetsAside (Begins role body line) = IsAside line
MeetsAside unwinding.Undoes = ⊤
MeetsAside (Loses line) = IsAside line

caught_aside : (scope n : ℕ) (x : Exc) (c : Option Handler) → MeetsAside (caught_by scope n x c)
caught_aside scope n x None = tt
caught_aside scope n x (Some c) = tt

try_aside : (s : Script) (scope : ℕ) (ways : Ways) (u : Unwinding) (cause : Cause) → MeetsAside (at_try s scope ways u cause)
try_aside s scope (Finally body) u cause = tt
try_aside s scope (Catches clauses) u (Raised x) = caught_aside scope u.number x (first_catch s x clauses)
try_aside s scope (Catches clauses) u (Exit v) = tt

meeting_aside : (s : Script) (role : Role) (u : Unwinding) → MeetsAside (meeting s role u)
meeting_aside s (Calling locals place) u = tt
meeting_aside s (Trying scope ways) u = try_aside s scope ways u u.cause
meeting_aside s (Catching scope caught) u = tt
meeting_aside s (Finishing scope pending) u = tt
meeting_aside s (Doing scope block routine) u = tt
meeting_aside s (Barrier scope key routine) u = tt

met_aside : (meets : Meeting) (i : Item) (outer : List Item) (r : Remainder) (further : Move) → MeetsAside meets → MovesAside further → MovesAside (met meets i outer r further)
met_aside Drops i outer r further h k = k
met_aside (Begins role body line) i outer r further h k = (h, tt)
met_aside unwinding.Undoes i outer r further h k = tt
met_aside (Loses line) i outer r further h k = (h, tt)

outward_from_aside : (s : Script) (u : Unwinding) (items : List Item) (r : Remainder) → MovesAside (outward_from s u items r)
outward_from_aside s u [] r = (tt, tt)
outward_from_aside s u (i ∷ outer) r = met_aside (meeting s i.role u) i outer r (outward_from s u outer r) (meeting_aside s i.role u) (outward_from_aside s u outer r)

outward_aside : (g : Setting) (u : Unwinding) (r : Remainder) → MovesAside (outward g u r)
unfolding outward
outward_aside g u r = outward_from_aside g.script u r.items r

-- ---- replies

raised_if_aside : (x : Option Exc) (r : Remainder) → MovesAside (raised_if x r)
raised_if_aside None r = tt
raised_if_aside (Some x) r = (tt, tt)

by_aside : (g : Setting) (act : Act) (h : Spot) (r : Remainder) (y : Reply) → MovesAside (replied_by g act h r y)
by_aside g (Asks call) h r y = raised_if_aside (raised_by _ call y) _
by_aside g _ h r y = tt

at_aside : (g : Setting) (place : Place) (r : Remainder) (y : Reply) → MovesAside (replied_at g place r y)
at_aside g (At h) r y = by_aside g (act_at h) h r y
at_aside g _ r y = tt

pub replied_aside : (g : Setting) (y : Reply) (r : Remainder) → MovesAside (replied g y r)
unfolding replied
replied_aside g y r = at_aside g (place_in r.items) r y

routine_aside : (g : Setting) (call : DceCall) (m : Move) → MovesAside m → MovesAside (runs_routine g call m)
routine_aside g (dce.Once block routine) m h = aside_append m.lines _ h (tt, tt)
routine_aside g _ m h = h

runs_aside : (b : Bool) (g : Setting) (call : DceCall) (m : Move) → MovesAside m → MovesAside (runs_if b g call m)
runs_aside true g call m h = routine_aside g call m h
runs_aside false g call m h = h

pub after_aside : (g : Setting) (call : DceCall) (runs : Bool) (r : Remainder) (y : Reply) → MovesAside (after_reply g call runs r y)
after_aside g call runs r reply.Blocks = tt
after_aside g call runs r y = runs_aside runs g call (replied g y r) (replied_aside g y r)

begun_by_aside : (g : Setting) (act : Act) (m : Move) → MovesAside m → MovesAside (begun_by g act m)
begun_by_aside g (Asks call) m h = routine_aside g call m h
begun_by_aside g _ m h = h

pub begun_aside : (g : Setting) (p : Place) (m : Move) → MovesAside m → MovesAside (begun_at g p m)
begun_aside g (At h) m i = begun_by_aside g (act_at h) m i
begun_aside g _ m i = i

-- ---- the next step

-- The lines of the step do nothing with locks.
abbrev StepsAside : Next → Type 0
StepsAside (step.GoesOutward m) = MovesAside m
StepsAside (step.UndoesOnce block m) = MovesAside m
StepsAside (step.EndsOnce block m) = MovesAside m
StepsAside (step.StepsQuietly m) = MovesAside m
StepsAside _ = ⊤

role_aside : (role : Role) (u : Unwinding) (outer : List Item) (r : Remainder) (m : Move) → MovesAside m → StepsAside (step.outward_or_undone role u outer r m)
role_aside (Doing scope block routine) u outer r m h = (tt, tt)
role_aside _ u outer r m h = h

unwinding_aside : (u : Unwinding) (items : List Item) (r : Remainder) (m : Move) → MovesAside m → StepsAside (next_outward u items r m)
unwinding_aside u [] r m h = h
unwinding_aside u (i ∷ outer) r m h = role_aside i.role u outer r m h

end_aside : (role : Role) (outer : List Item) (r : Remainder) (m : Move) → MovesAside m → StepsAside (next_end role outer r m)
end_aside (Doing scope block routine) outer r m h = h
end_aside _ outer r m h = h

point_aside : (b : Bool) (h : Spot) → StepsAside (if b then step.IsAtPoint h else step.Shares h)
point_aside true h = tt
point_aside false h = tt

act_aside : (act : Act) (h : Spot) → StepsAside (next_shared act h)
act_aside (Asks call) h = point_aside (is_point (shape_of call).word) h
act_aside _ h = tt

spot_aside : (b : Bool) (h : Spot) (m : Move) → MovesAside m → StepsAside (if b then next_shared (act_at h) h else step.StepsQuietly m)
spot_aside true h m i = act_aside (act_at h) h
spot_aside false h m i = i

place_aside : (p : Place) (r : Remainder) (m : Move) → MovesAside m → StepsAside (next_at p r m)
place_aside Nowhere r m h = tt
place_aside (AtEnd close role outer) r m h = end_aside role outer r m h
place_aside (At x) r m h = spot_aside (is_shared x.stmt) x m h

next_by_aside : (g : Setting) (u : Option Unwinding) (r : Remainder) → StepsAside (next_by g u r)
next_by_aside g None r = place_aside (place_in r.items) r (quiet g r) (quiet_aside g r)
next_by_aside g (Some u) r = unwinding_aside u r.items r (outward g u r) (outward_aside g u r)

next_aside : (g : Setting) (r : Remainder) → StepsAside (next g r)
unfolding next
next_aside g r = next_by_aside g r.under_way r

-- ---- the quiet part of a turn

-- The lines of what ends the quiet part of itself do nothing with locks.
abbrev pub HaltsAside : Halt → Type 0
HaltsAside (runs.Undoes block m) = MovesAside m
HaltsAside (Completes block m) = MovesAside m
HaltsAside _ = ⊤

-- Nor do those of the quiet part.
pub record RunsAside (run : Run) : Type 0 where
  pub lines : AreAside run.lines
  pub halt : HaltsAside run.halt

-- Whatever comes after a quiet step.
abbrev AllAside : (Remainder → Run) → Type 0
AllAside more = (r : Remainder) → RunsAside (more r)

delivers_aside : (b : Bool) (halt : Halt) → HaltsAside halt → HaltsAside (or_delivers b halt)
delivers_aside true halt h = tt
delivers_aside false halt h = h

after_run : (lines : List What) (run : Run) → AreAside lines → RunsAside run → RunsAside (runs.after_lines lines run)
after_run lines run h i = record { lines = aside_append lines run.lines h i.lines; halt = i.halt }

goes_aside : (b : Bool) (more : Remainder → Run) (m : Move) → AllAside more → MovesAside m → RunsAside (goes_on b more m)
goes_aside true more m all h = after_run m.lines (pauses m.to) h (record { lines = (tt, tt); halt = tt })
goes_aside false more m all h = after_run m.lines (more m.to) h (all m.to)

quietly_aside : (b : Bool) (mode : Mode) (more : Remainder → Run) (r : Remainder) (m : Move) → AllAside more → MovesAside m → RunsAside (quiet_or_delivers b mode more r m)
quietly_aside true mode more r m all h = record { lines = tt; halt = tt }
quietly_aside false mode more r m all h = goes_aside (is_asynchronous mode) more m all h

at_next_aside : (mode : Mode) (more : Remainder → Run) (r : Remainder) (x : Next) → AllAside more → StepsAside x → RunsAside (at_next mode more r x)
at_next_aside mode more r (step.GoesOutward m) all h = record { lines = (tt, tt); halt = tt }
at_next_aside mode more r (step.UndoesOnce block m) all h = record { lines = tt; halt = h }
at_next_aside mode more r step.EndsThread all h = record { lines = tt; halt = tt }
at_next_aside mode more r (step.EndsOnce block m) all h = record { lines = tt; halt = delivers_aside (is_deliverable mode false) (Completes block m) h }
at_next_aside mode more r (step.Shares spot) all h = record { lines = tt; halt = delivers_aside (is_deliverable mode false) (Shares spot) tt }
at_next_aside mode more r (step.IsAtPoint spot) all h = record { lines = tt; halt = delivers_aside (is_deliverable mode true) (Shares spot) tt }
at_next_aside mode more r (step.StepsQuietly m) all h = quietly_aside (is_deliverable mode false) mode more r m all h

outward_moves_aside : (x : Next) (r : Remainder) → StepsAside x → MovesAside (outward_move x r)
outward_moves_aside (step.GoesOutward m) r h = h
outward_moves_aside _ r h = tt

pub run_aside : (n : ℕ) (g : Setting) (mode : Mode) (r : Remainder) → RunsAside (run_of n g mode r)
unfolding run_of
run_aside zero g mode r = record { lines = (tt, tt); halt = tt }
run_aside (suc n) g mode r =
    let out : Move = outward_move (next g r) r in
    after_run out.lines (at_next mode (run_of n g mode) out.to (next g out.to)) (outward_moves_aside (next g r) r (next_aside g r))
    (at_next_aside mode (run_of n g mode) out.to (next g out.to) (run_aside n g mode) (next_aside g out.to))

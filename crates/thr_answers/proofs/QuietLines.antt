-- The lines of a thread's steps but those of its calls and returns: none of them is a call that waits or a return.
use Rattle.std.proofs.Common.{◌≡◌, ℕ, zero, suc, ℤ, Bool, true, false, List, [], ◌∷◌, ◌++◌, Option, Some, None, Ok, Err, refl, if◌then◌else◌}
use Rattle.thr_values.specs.declared.exception.Exc.{Exc}
use Rattle.thr_values.specs.declared.history.What.{What}
use Rattle.thr_values.specs.declared.reply.Reply.{Reply}
use Rattle.thr_values.specs.declared.scheduling.Mode.{Mode}
use Rattle.thr_syntax.specs.Shared.{is_shared}
use Rattle.thr_syntax.specs.declared.tree.Script.{Script}
use Rattle.thr_remainder.specs.declared.unwinding.Cause.{Cause}
use Rattle.thr_remainder.specs.declared.unwinding.Cause.TheVariants.{Raised, Exit}
use Rattle.thr_remainder.specs.declared.unwinding.Unwinding.{Unwinding}
use Rattle.thr_remainder.specs.Places.{Handler, Ways, Catches, Finally}
use Rattle.thr_remainder.specs.Acts.{Act, Sets, Says, Chooses, Repeats, Tries, Raises, RaisesAgain, Calls, Returns, Exits, Asks}
use Rattle.thr_remainder.specs.Remainders.{Item, Role, Calling, Trying, Catching, Finishing, Doing, Barrier, Setting, Remainder, Move, Spot, Place, Nowhere, AtEnd, At, place_in, act_at, has_room}
use Rattle.thr_remainder.specs.Expressions.{Value, SharedValues, none_shared, value_of}
use Rattle.thr_remainder.specs.Steps.{told, or_raised, valued, made, ended, step_at, quiet, shared_step}
use Rattle.thr_remainder.specs.Outward.{Meeting, Drops, Begins, Undoes, Loses, meeting, at_try, caught_by, first_catch, met, outward_from, outward}
use Rattle.thr_remainder.specs.Replies.{raised_if, replied_by, replied_at, replied, raised_by}
use Rattle.thr_remainder.specs.Calls.{is_point, shape_of}
use Rattle.thr_remainder.specs.Next.{Next, next, next_by, next_outward, next_end, next_shared, next_at}
use Rattle.thr_remainder.specs.Next as step
use Rattle.thr_remainder.specs.Runs.{is_deliverable, Halt, Delivers, Shares, Undoes, Completes, Ends, Pauses, Run, or_delivers, goes_on, quiet_or_delivers, is_asynchronous, at_next, outward_move, run_of}
use Rattle.thr_remainder.specs.Runs as runs
use Rattle.thr_laws.specs.Lines.{is_waiting_call, is_return}
use Rattle.thr_laws.proofs.ReadingLaws.{AllLines}

-- The line is neither a call that waits nor a return.
pub record IsQuiet (w : What) : Type 0 where
  pub waiting : is_waiting_call w ≡ false
  pub returning : is_return w ≡ false

-- So are these lines.
abbrev pub AreQuiet : List What → Type 0
AreQuiet ws = AllLines IsQuiet ws

plainly : (w : What) → is_waiting_call w ≡ false → is_return w ≡ false → AreQuiet (w ∷ [])
plainly w e f = (record { waiting = e; returning = f }, tt)

pub quiet_append : (xs ys : List What) → AreQuiet xs → AreQuiet ys → AreQuiet (xs ++ ys)
quiet_append [] ys h k = k
quiet_append (x ∷ xs) ys h k = (h.0, quiet_append xs ys h.1 k)

-- ---- steps

either_quiet : (b : Bool) (m o : Move) → AreQuiet m.lines → AreQuiet o.lines → AreQuiet (if b then m else o).lines
either_quiet true m o h k = h
either_quiet false m o h k = k

either_lines : (b : Bool) (xs ys : List What) → AreQuiet xs → AreQuiet ys → AreQuiet (if b then xs else ys)
either_lines true xs ys h k = h
either_lines false xs ys h k = k

valued_quiet : (value : Value) (f : ℤ → Move) (r : Remainder) → ((n : ℤ) → AreQuiet (f n).lines) → AreQuiet (or_raised value f r).lines
valued_quiet (Ok n) f r h = h n
valued_quiet (Err x) f r h = plainly _ refl refl

told_quiet : (act : Act) (line : ℕ) (n : ℤ) → AreQuiet (told act line n)
told_quiet (Sets v e) line n = plainly _ refl refl
told_quiet (Says e) line n = plainly _ refl refl
told_quiet (Chooses e body other) line n = plainly _ refl refl
told_quiet (Repeats e again) line n = plainly _ refl refl
told_quiet (Calls routine e place) line n = plainly _ refl refl
told_quiet (Returns e) line n = plainly _ refl refl
told_quiet _ line n = tt

module _ (g : Setting) (tells : Bool) (shared : SharedValues) (h : Spot) (r : Remainder) where
  tell_quiet : (act : Act) (n : ℤ) → AreQuiet (if tells then told act h.line n else [])
  tell_quiet act n = either_lines tells (told act h.line n) [] (told_quiet act h.line n) tt

  made_quiet : (act : Act) → AreQuiet (made g tells shared act h r).lines
  made_quiet (Sets v e) = valued_quiet (value_of g shared r e) _ r (λ n. tell_quiet (Sets v e) n)
  made_quiet (Says e) = valued_quiet (value_of g shared r e) _ r (λ n. tell_quiet (Says e) n)
  made_quiet (Chooses e body other) = valued_quiet (value_of g shared r e) _ r (λ n. tell_quiet (Chooses e body other) n)
  made_quiet (Repeats e again) = valued_quiet (value_of g shared r e) _ r (λ n. tell_quiet (Repeats e again) n)
  made_quiet (Tries body ways) = either_quiet (has_room g r 1) _ _ (plainly _ refl refl) (plainly _ refl refl)
  made_quiet (Raises name) = plainly _ refl refl
  made_quiet RaisesAgain = plainly _ refl refl
  made_quiet (Calls routine e place) = either_quiet (has_room g r 1) _ _ (valued_quiet (value_of g shared r e) (valued g tells (Calls routine e place) h r) r (λ n. tell_quiet (Calls routine e place) n)) (plainly _ refl refl)
  made_quiet (Returns e) = valued_quiet (value_of g shared r e) _ r (λ n. tell_quiet (Returns e) n)
  made_quiet (Exits e) = valued_quiet (value_of g shared r e) _ r (λ n. plainly _ refl refl)
  made_quiet (Asks call) = tt

ended_quiet : (role : Role) (outer : List Item) (r : Remainder) → AreQuiet (ended role outer r).lines
ended_quiet (Calling locals place) outer r = tt
ended_quiet (Trying scope (Catches handlers)) outer r = plainly _ refl refl
ended_quiet (Trying scope (Finally body)) outer r = plainly _ refl refl
ended_quiet (Catching scope caught) outer r = plainly _ refl refl
ended_quiet (Finishing scope pending) outer r = plainly _ refl refl
ended_quiet (Doing scope block routine) outer r = plainly _ refl refl
ended_quiet (Barrier scope key routine) outer r = plainly _ refl refl

step_quiet : (g : Setting) (tells : Bool) (shared : SharedValues) (place : Place) (r : Remainder) → AreQuiet (step_at g tells shared place r).lines
step_quiet g tells shared Nowhere r = tt
step_quiet g tells shared (AtEnd close role outer) r = ended_quiet role outer r
step_quiet g tells shared (At h) r = made_quiet g tells shared h r (act_at h)

pub quiet_is_quiet : (g : Setting) (r : Remainder) → AreQuiet (quiet g r).lines
unfolding quiet
quiet_is_quiet g r = step_quiet g false none_shared (place_in r.items) r

pub shared_is_quiet : (g : Setting) (shared : SharedValues) (r : Remainder) → AreQuiet (shared_step g shared r).lines
unfolding shared_step
shared_is_quiet g shared r = step_quiet g true shared (place_in r.items) r

raised_if_quiet : (x : Option Exc) (r : Remainder) → AreQuiet (raised_if x r).lines
raised_if_quiet None r = tt
raised_if_quiet (Some x) r = plainly _ refl refl

replied_by_quiet : (g : Setting) (act : Act) (h : Spot) (r : Remainder) (y : Reply) → AreQuiet (replied_by g act h r y).lines
replied_by_quiet g (Asks call) h r y = raised_if_quiet (raised_by _ call y) _
replied_by_quiet g _ h r y = tt

replied_at_quiet : (g : Setting) (place : Place) (r : Remainder) (y : Reply) → AreQuiet (replied_at g place r y).lines
replied_at_quiet g (At h) r y = replied_by_quiet g (act_at h) h r y
replied_at_quiet g _ r y = tt

pub replied_is_quiet : (g : Setting) (y : Reply) (r : Remainder) → AreQuiet (replied g y r).lines
unfolding replied
replied_is_quiet g y r = replied_at_quiet g (place_in r.items) r y

-- ---- unwindings

abbrev IsMeetingQuiet : Meeting → Type 0
IsMeetingQuiet (Begins role body line) = IsQuiet line
IsMeetingQuiet (Loses line) = IsQuiet line
IsMeetingQuiet _ = Unit {0}

caught_quiet : (scope n : ℕ) (x : Exc) (c : Option Handler) → IsMeetingQuiet (caught_by scope n x c)
caught_quiet scope n x None = tt
caught_quiet scope n x (Some c) = record { waiting = refl; returning = refl }

try_quiet : (s : Script) (scope : ℕ) (ways : Ways) (u : Unwinding) (cause : Cause) → IsMeetingQuiet (at_try s scope ways u cause)
try_quiet s scope (Finally body) u cause = record { waiting = refl; returning = refl }
try_quiet s scope (Catches clauses) u (Raised x) = caught_quiet scope u.number x (first_catch s x clauses)
try_quiet s scope (Catches clauses) u (Exit v) = tt

meeting_quiet : (s : Script) (role : Role) (u : Unwinding) → IsMeetingQuiet (meeting s role u)
meeting_quiet s (Calling locals place) u = tt
meeting_quiet s (Trying scope ways) u = try_quiet s scope ways u u.cause
meeting_quiet s (Catching scope caught) u = tt
meeting_quiet s (Finishing scope pending) u = tt
meeting_quiet s (Doing scope block routine) u = tt
meeting_quiet s (Barrier scope key routine) u = record { waiting = refl; returning = refl }

met_quiet : (meets : Meeting) (i : Item) (outer : List Item) (r : Remainder) (further : Move) → IsMeetingQuiet meets → AreQuiet further.lines → AreQuiet (met meets i outer r further).lines
met_quiet Drops i outer r further m k = k
met_quiet (Begins role body line) i outer r further m k = (m, tt)
met_quiet Undoes i outer r further m k = tt
met_quiet (Loses line) i outer r further m k = (m, tt)

outward_from_quiet : (s : Script) (u : Unwinding) (items : List Item) (r : Remainder) → AreQuiet (outward_from s u items r).lines
outward_from_quiet s u [] r = plainly _ refl refl
outward_from_quiet s u (i ∷ outer) r = met_quiet (meeting s i.role u) i outer r (outward_from s u outer r) (meeting_quiet s i.role u) (outward_from_quiet s u outer r)

outward_is_quiet : (g : Setting) (u : Unwinding) (r : Remainder) → AreQuiet (outward g u r).lines
unfolding outward
outward_is_quiet g u r = outward_from_quiet g.script u r.items r

-- ---- the next step

-- Where the step has lines they are quiet; where it is a shared statement, that is the next one.
abbrev Fits : Remainder → Next → Type 0
Fits r (step.GoesOutward m) = AreQuiet m.lines
Fits r (step.UndoesOnce block m) = AreQuiet m.lines
Fits r step.EndsThread = Unit {0}
Fits r (step.EndsOnce block m) = AreQuiet m.lines
Fits r (step.Shares h) = place_in r.items ≡ At h
Fits r (step.IsAtPoint h) = place_in r.items ≡ At h
Fits r (step.StepsQuietly m) = AreQuiet m.lines

outward_fits : (u : Unwinding) (role : Role) (outer : List Item) (r to : Remainder) (m : Move) → AreQuiet m.lines → Fits to (step.outward_or_undone role u outer r m)
outward_fits u (Doing scope block routine) outer r to m h = plainly _ refl refl
outward_fits u _ outer r to m h = h

unwinding_fits : (u : Unwinding) (items : List Item) (r to : Remainder) (m : Move) → AreQuiet m.lines → Fits to (next_outward u items r m)
unwinding_fits u [] r to m h = h
unwinding_fits u (i ∷ outer) r to m h = outward_fits u i.role outer r to m h

end_fits : (role : Role) (outer : List Item) (r to : Remainder) (m : Move) → AreQuiet m.lines → Fits to (next_end role outer r m)
end_fits (Doing scope block routine) outer r to m h = h
end_fits _ outer r to m h = h

point_fits : (b : Bool) (h : Spot) (r : Remainder) → place_in r.items ≡ At h → Fits r (if b then step.IsAtPoint h else step.Shares h)
point_fits true h r e = e
point_fits false h r e = e

act_fits : (act : Act) (h : Spot) (r : Remainder) → place_in r.items ≡ At h → Fits r (next_shared act h)
act_fits (Asks call) h r e = point_fits (is_point (shape_of call).word) h r e
act_fits _ h r e = e

spot_fits : (b : Bool) (h : Spot) (r : Remainder) (m : Move) → place_in r.items ≡ At h → AreQuiet m.lines → Fits r (if b then next_shared (act_at h) h else step.StepsQuietly m)
spot_fits true h r m e k = act_fits (act_at h) h r e
spot_fits false h r m e k = k

place_fits : (g : Setting) (p : Place) (r : Remainder) → place_in r.items ≡ p → Fits r (next_at p r (quiet g r))
place_fits g Nowhere r e = tt
place_fits g (AtEnd close role outer) r e = end_fits role outer r r (quiet g r) (quiet_is_quiet g r)
place_fits g (At h) r e = spot_fits (is_shared h.stmt) h r (quiet g r) e (quiet_is_quiet g r)

by_fits : (g : Setting) (u : Option Unwinding) (r : Remainder) → Fits r (next_by g u r)
by_fits g None r = place_fits g (place_in r.items) r refl
by_fits g (Some u) r = unwinding_fits u r.items r r (outward g u r) (outward_is_quiet g u r)

next_fits : (g : Setting) (r : Remainder) → Fits r (next g r)
unfolding next
next_fits g r = by_fits g r.under_way r

-- ---- the quiet part of a turn

-- The lines of what ends the quiet part are quiet, and a shared statement is the next step.
abbrev pub HaltFits : Remainder → Halt → Type 0
HaltFits r (Shares h) = place_in r.items ≡ At h
HaltFits r (Undoes block m) = AreQuiet m.lines
HaltFits r (Completes block m) = AreQuiet m.lines
HaltFits r Delivers = Unit {0}
HaltFits r Ends = Unit {0}
HaltFits r Pauses = Unit {0}

pub record RunFits (run : Run) : Type 0 where
  pub lines : AreQuiet run.lines
  pub halt : HaltFits run.to run.halt

abbrev AllFit : (Remainder → Run) → Type 0
AllFit more = (r : Remainder) → RunFits (more r)

after_fits : (ws : List What) (run : Run) → AreQuiet ws → RunFits run → RunFits (runs.after_lines ws run)
after_fits ws run h k = record { lines = quiet_append ws run.lines h k.lines; halt = k.halt }

pauses_fits : (r : Remainder) → RunFits (runs.pauses r)
pauses_fits r = record { lines = plainly _ refl refl; halt = tt }

delivers_fits : (b : Bool) (r : Remainder) (halt : Halt) → HaltFits r halt → HaltFits r (or_delivers b halt)
delivers_fits true r halt h = tt
delivers_fits false r halt h = h

goes_fits : (b : Bool) (more : Remainder → Run) (m : Move) → AllFit more → AreQuiet m.lines → RunFits (goes_on b more m)
goes_fits true more m all h = after_fits m.lines (runs.pauses m.to) h (pauses_fits m.to)
goes_fits false more m all h = after_fits m.lines (more m.to) h (all m.to)

quiet_fits : (b : Bool) (mode : Mode) (more : Remainder → Run) (r : Remainder) (m : Move) → AllFit more → AreQuiet m.lines → RunFits (quiet_or_delivers b mode more r m)
quiet_fits true mode more r m all h = record { lines = tt; halt = tt }
quiet_fits false mode more r m all h = goes_fits (is_asynchronous mode) more m all h

at_fits : (mode : Mode) (more : Remainder → Run) (r : Remainder) (x : Next) → AllFit more → Fits r x → RunFits (at_next mode more r x)
at_fits mode more r (step.GoesOutward m) all f = pauses_fits r
at_fits mode more r (step.UndoesOnce block m) all f = record { lines = tt; halt = f }
at_fits mode more r step.EndsThread all f = record { lines = tt; halt = tt }
at_fits mode more r (step.EndsOnce block m) all f = record { lines = tt; halt = delivers_fits (is_deliverable mode false) r (Completes block m) f }
at_fits mode more r (step.Shares h) all f = record { lines = tt; halt = delivers_fits (is_deliverable mode false) r (Shares h) f }
at_fits mode more r (step.IsAtPoint h) all f = record { lines = tt; halt = delivers_fits (is_deliverable mode true) r (Shares h) f }
at_fits mode more r (step.StepsQuietly m) all f = quiet_fits (is_deliverable mode false) mode more r m all f

outward_move_quiet : (x : Next) (r : Remainder) → Fits r x → AreQuiet (outward_move x r).lines
outward_move_quiet (step.GoesOutward m) r f = f
outward_move_quiet _ r f = tt

pub run_fits : (n : ℕ) (g : Setting) (mode : Mode) (r : Remainder) → RunFits (run_of n g mode r)
unfolding run_of
run_fits zero g mode r = pauses_fits r
run_fits (suc n) g mode r =
    let out : Move = outward_move (next g r) r in
    after_fits out.lines (at_next mode (run_of n g mode) out.to (next g out.to)) (outward_move_quiet (next g r) r (next_fits g r)) (at_fits mode (run_of n g mode) out.to (next g out.to) (run_fits n g mode) (next_fits g out.to))

-- The lines of a thread's own steps, and what ends the quiet part of a turn.
use Rattle.std.proofs.Common.{◌≡◌, ℕ, zero, suc, ℤ, Bool, true, false, ◌&&◌, ◌||◌, List, [], ◌∷◌, ◌++◌, Option, Some, None, Ok, Err, refl, sym, ◌∙◌, ap, subst}
use Rattle.std.proofs.lemmas.Bool.{false≢true}
use Rattle.std.specs.Prelude.{if◌then◌else◌}
use Rattle.std.specs.List.{list_all}
use Rattle.thr_values.specs.declared.exception.Exc.{Exc}
use Rattle.thr_values.specs.declared.scheduling.Mode.{Mode}
use Rattle.thr_values.specs.declared.history.What.{What}
use Rattle.thr_values.specs.declared.history.What.TheVariants as what
use Rattle.thr_values.specs.declared.reply.Reply.{Reply}
use Rattle.thr_syntax.specs.declared.dce.DceCall.{DceCall}
use Rattle.thr_syntax.specs.declared.dce.DceCall.TheVariants as dce
use Rattle.thr_syntax.specs.declared.tree.Script.{Script}
use Rattle.thr_syntax.specs.Shared.{is_shared}
use Rattle.thr_remainder.specs.declared.unwinding.Cause.TheVariants.{Raised, Exit}
use Rattle.thr_remainder.specs.declared.unwinding.Unwinding.{Unwinding}
use Rattle.thr_remainder.specs.Acts.{Act, Sets, Says, Chooses, Repeats, Tries, Raises, RaisesAgain, Calls, Returns, Exits, Asks}
use Rattle.thr_remainder.specs.Places.{Catches, Finally, Handler}
use Rattle.thr_remainder.specs.Remainders.{Item, Role, Calling, Trying, Catching, Finishing, Doing, Barrier, Setting, Remainder, Move, Spot, Place, Nowhere, AtEnd, At, place_in, act_at, has_room}
use Rattle.thr_remainder.specs.Expressions.{Value, SharedValues, none_shared, value_of}
use Rattle.thr_remainder.specs.Calls.{is_point, shape_of}
use Rattle.thr_remainder.specs.Declarations.{interface_of}
use Rattle.thr_remainder.specs.Starts.{begins_once}
use Rattle.thr_remainder.specs.Steps.{told, valued, or_raised, made, ended, step_at, quiet, shared_step}
use Rattle.thr_remainder.specs.Outward.{Meeting, Drops, Begins, Undoes, Loses, caught_by, at_try, first_catch, meeting, met, outward_from, outward}
use Rattle.thr_remainder.specs.Next.{Next, GoesOutward, UndoesOnce, EndsThread, EndsOnce, StepsQuietly, next_outward, outward_or_undone, next_end, next_shared, next_at, next_by, next}
use Rattle.thr_remainder.specs.Next as step
use Rattle.thr_remainder.specs.Replies.{raised_by, raised_if, replied_by, replied_at, replied}
use Rattle.thr_remainder.specs.Runs.{is_deliverable, Halt, Delivers, Shares, Completes, Ends, Pauses, Run, or_delivers, goes_on, is_asynchronous, quiet_or_delivers, at_next, outward_move, run_of}
use Rattle.thr_remainder.specs.Runs as runs
use Rattle.thr_model.specs.Turns.{runs_routine, begun_by, begun_at}

-- The line is one of a thread's own steps: no call, no delivery, no end and no gift.
abbrev pub is_inner : What → Bool
is_inner (what.Call word args r) = false
is_inner (what.Deliver n line) = false
is_inner (what.End v) = false
is_inner (what.Gift m) = false
is_inner _ = true

abbrev pub AreInner : List What → Type 0
AreInner lines = list_all is_inner lines ≡ true

head_inner : (b : Bool) (ws vs : List What) → (AreInner ws → AreInner (ws ++ vs)) → (b && list_all is_inner ws) ≡ true → (b && list_all is_inner (ws ++ vs)) ≡ true
head_inner true ws vs k e = k e
head_inner false ws vs k e = e

pub append_inner : (ws vs : List What) → AreInner ws → AreInner vs → AreInner (ws ++ vs)
append_inner [] vs e f = f
append_inner (w ∷ ws) vs e f = head_inner (is_inner w) ws vs (λ g. append_inner ws vs g f) e

-- ---- statements

told_inner : (act : Act) (line : ℕ) (n : ℤ) → AreInner (told act line n)
told_inner (Sets v e) line n = refl
told_inner (Says e) line n = refl
told_inner (Chooses e body other) line n = refl
told_inner (Repeats e again) line n = refl
told_inner (Calls routine e place) line n = refl
told_inner (Returns e) line n = refl
told_inner (Tries body ways) line n = refl
told_inner (Raises name) line n = refl
told_inner RaisesAgain line n = refl
told_inner (Exits e) line n = refl
told_inner (Asks call) line n = refl

told_if : (tells : Bool) (act : Act) (line : ℕ) (n : ℤ) → AreInner (if tells then told act line n else [])
told_if true act line n = told_inner act line n
told_if false act line n = refl

valued_inner : (g : Setting) (tells : Bool) (act : Act) (h : Spot) (r : Remainder) (n : ℤ) → AreInner (valued g tells act h r n).lines
valued_inner g tells (Exits e) h r n = refl
valued_inner g tells (Sets v e) h r n = told_if tells (Sets v e) h.line n
valued_inner g tells (Says e) h r n = told_if tells (Says e) h.line n
valued_inner g tells (Chooses e body other) h r n = told_if tells (Chooses e body other) h.line n
valued_inner g tells (Repeats e again) h r n = told_if tells (Repeats e again) h.line n
valued_inner g tells (Calls routine e place) h r n = told_if tells (Calls routine e place) h.line n
valued_inner g tells (Returns e) h r n = told_if tells (Returns e) h.line n
valued_inner g tells (Tries body ways) h r n = told_if tells (Tries body ways) h.line n
valued_inner g tells (Raises name) h r n = told_if tells (Raises name) h.line n
valued_inner g tells RaisesAgain h r n = told_if tells RaisesAgain h.line n
valued_inner g tells (Asks call) h r n = told_if tells (Asks call) h.line n

or_raised_inner : (v : Value) (step : ℤ → Move) (r : Remainder) → ((n : ℤ) → AreInner (step n).lines) → AreInner (or_raised v step r).lines
or_raised_inner (Ok n) step r h = h n
or_raised_inner (Err x) step r h = refl

room_inner : (b : Bool) (r : Remainder) (m n : Move) → AreInner m.lines → AreInner n.lines → AreInner (let x : Move = if b then m else n in x).lines
room_inner true r m n h i = h
room_inner false r m n h i = i

made_inner : (g : Setting) (tells : Bool) (shared : SharedValues) (act : Act) (h : Spot) (r : Remainder) → AreInner (made g tells shared act h r).lines
made_inner g tells shared (Sets v e) h r = or_raised_inner (value_of g shared r e) _ r (valued_inner g tells (Sets v e) h r)
made_inner g tells shared (Says e) h r = or_raised_inner (value_of g shared r e) _ r (valued_inner g tells (Says e) h r)
made_inner g tells shared (Chooses e body other) h r = or_raised_inner (value_of g shared r e) _ r (valued_inner g tells (Chooses e body other) h r)
made_inner g tells shared (Repeats e again) h r = or_raised_inner (value_of g shared r e) _ r (valued_inner g tells (Repeats e again) h r)
made_inner g tells shared (Tries body ways) h r = room_inner (has_room g r 1) r _ _ refl refl
made_inner g tells shared (Raises name) h r = refl
made_inner g tells shared RaisesAgain h r = refl
made_inner g tells shared (Calls routine e place) h r =
    room_inner (has_room g r 1) r _ _ (or_raised_inner (value_of g shared r e) _ r (valued_inner g tells (Calls routine e place) h r)) refl
made_inner g tells shared (Returns e) h r = or_raised_inner (value_of g shared r e) _ r (valued_inner g tells (Returns e) h r)
made_inner g tells shared (Exits e) h r = or_raised_inner (value_of g shared r e) _ r (valued_inner g tells (Exits e) h r)
made_inner g tells shared (Asks call) h r = refl

ended_inner : (role : Role) (outer : List Item) (r : Remainder) → AreInner (ended role outer r).lines
ended_inner (Calling locals place) outer r = refl
ended_inner (Trying scope (Catches handlers)) outer r = refl
ended_inner (Trying scope (Finally body)) outer r = refl
ended_inner (Catching scope caught) outer r = refl
ended_inner (Finishing scope pending) outer r = refl
ended_inner (Doing scope block routine) outer r = refl
ended_inner (Barrier scope key routine) outer r = refl

step_inner : (g : Setting) (tells : Bool) (shared : SharedValues) (p : Place) (r : Remainder) → AreInner (step_at g tells shared p r).lines
step_inner g tells shared Nowhere r = refl
step_inner g tells shared (AtEnd close role outer) r = ended_inner role outer r
step_inner g tells shared (At h) r = made_inner g tells shared (act_at h) h r

pub quiet_inner : (g : Setting) (r : Remainder) → AreInner (quiet g r).lines
unfolding quiet
quiet_inner g r = step_inner g false none_shared (place_in r.items) r

pub shared_inner : (g : Setting) (shared : SharedValues) (r : Remainder) → AreInner (shared_step g shared r).lines
unfolding shared_step
shared_inner g shared r = step_inner g true shared (place_in r.items) r

-- ---- replies

raised_if_inner : (o : Option Exc) (r : Remainder) → AreInner (raised_if o r).lines
raised_if_inner None r = refl
raised_if_inner (Some x) r = refl

replied_by_inner : (g : Setting) (act : Act) (h : Spot) (r : Remainder) (y : Reply) → AreInner (replied_by g act h r y).lines
replied_by_inner g (Asks call) h r y = raised_if_inner (raised_by (interface_of g.script) call y) _
replied_by_inner g _ h r y = refl

replied_at_inner : (g : Setting) (p : Place) (r : Remainder) (y : Reply) → AreInner (replied_at g p r y).lines
replied_at_inner g (At h) r y = replied_by_inner g (act_at h) h r y
replied_at_inner g _ r y = refl

pub replied_inner : (g : Setting) (y : Reply) (r : Remainder) → AreInner (replied g y r).lines
unfolding replied
replied_inner g y r = replied_at_inner g (place_in r.items) r y

pub routine_inner : (g : Setting) (call : DceCall) (m : Move) → AreInner m.lines → AreInner (runs_routine g call m).lines
routine_inner g (dce.Once block routine) m h = append_inner m.lines (begins_once g block routine m.to).lines h refl
routine_inner g _ m h = h

begun_by_inner : (g : Setting) (act : Act) (m : Move) → AreInner m.lines → AreInner (begun_by g act m).lines
begun_by_inner g (Asks call) m h = routine_inner g call m h
begun_by_inner g _ m h = h

pub begun_inner : (g : Setting) (p : Place) (m : Move) → AreInner m.lines → AreInner (begun_at g p m).lines
begun_inner g (At h) m i = begun_by_inner g (act_at h) m i
begun_inner g _ m i = i

-- ---- unwindings

-- A line of an unwinding's way.
abbrev MeetsInner : Meeting → Type 0
MeetsInner Drops = Unit {0}
MeetsInner (Begins role body line) = is_inner line ≡ true
MeetsInner Undoes = Unit {0}
MeetsInner (Loses line) = is_inner line ≡ true

caught_inner : (scope n : ℕ) (x : Exc) (o : Option Handler) → MeetsInner (caught_by scope n x o)
caught_inner scope n x None = tt
caught_inner scope n x (Some c) = refl

meeting_inner : (s : Script) (role : Role) (u : Unwinding) → MeetsInner (meeting s role u)
meeting_inner s (Calling locals place) u = tt
meeting_inner s (Trying scope (Finally body)) u = refl
meeting_inner s (Trying scope (Catches clauses)) u = by_cause u.cause
  where
    by_cause : (c : _) → MeetsInner (at_try s scope (Catches clauses) u c)
    by_cause (Raised x) = caught_inner scope u.number x (first_catch s x clauses)
    by_cause (Exit v) = tt
meeting_inner s (Catching scope caught) u = tt
meeting_inner s (Finishing scope pending) u = tt
meeting_inner s (Doing scope block routine) u = tt
meeting_inner s (Barrier scope key routine) u = refl

one_inner : (w : What) → is_inner w ≡ true → AreInner (w ∷ [])
one_inner w e = ap (λ b. b && true) e

met_inner : (m : Meeting) (i : Item) (outer : List Item) (r : Remainder) (further : Move) → MeetsInner m → AreInner further.lines → AreInner (met m i outer r further).lines
met_inner Drops i outer r further e f = f
met_inner (Begins role body line) i outer r further e f = one_inner line e
met_inner Undoes i outer r further e f = refl
met_inner (Loses line) i outer r further e f = one_inner line e

from_inner : (s : Script) (u : Unwinding) (items : List Item) (r : Remainder) → AreInner (outward_from s u items r).lines
from_inner s u [] r = refl
from_inner s u (i ∷ outer) r = met_inner (meeting s i.role u) i outer r (outward_from s u outer r) (meeting_inner s i.role u) (from_inner s u outer r)

outward_inner : (g : Setting) (u : Unwinding) (r : Remainder) → AreInner (outward g u r).lines
unfolding outward
outward_inner g u r = from_inner g.script u r.items r

-- ---- the next step

abbrev IsFitting : Next → Type 0
IsFitting (GoesOutward m) = AreInner m.lines
IsFitting (UndoesOnce block m) = AreInner m.lines
IsFitting EndsThread = Unit {0}
IsFitting (EndsOnce block m) = AreInner m.lines
IsFitting (step.Shares h) = (call : DceCall) → act_at h ≡ Asks call → is_point (shape_of call).word ≡ false
IsFitting (step.IsAtPoint h) = Unit {0}
IsFitting (StepsQuietly m) = AreInner m.lines

role_fits : (role : Role) (u : Unwinding) (outer : List Item) (r : Remainder) (m : Move) → AreInner m.lines → IsFitting (outward_or_undone role u outer r m)
role_fits (Doing scope block routine) u outer r m h = refl
role_fits (Calling locals place) u outer r m h = h
role_fits (Trying scope ways) u outer r m h = h
role_fits (Catching scope caught) u outer r m h = h
role_fits (Finishing scope pending) u outer r m h = h
role_fits (Barrier scope key routine) u outer r m h = h

outward_fits : (u : Unwinding) (items : List Item) (r : Remainder) (m : Move) → AreInner m.lines → IsFitting (next_outward u items r m)
outward_fits u [] r m h = h
outward_fits u (i ∷ outer) r m h = role_fits i.role u outer r m h

end_fits : (role : Role) (outer : List Item) (r : Remainder) (m : Move) → AreInner m.lines → IsFitting (next_end role outer r m)
end_fits (Doing scope block routine) outer r m h = h
end_fits (Calling locals place) outer r m h = h
end_fits (Trying scope ways) outer r m h = h
end_fits (Catching scope caught) outer r m h = h
end_fits (Finishing scope pending) outer r m h = h
end_fits (Barrier scope key routine) outer r m h = h

asked_call : (a b : DceCall) → Asks a ≡ Asks b → a ≡ b
asked_call a b e = ap (λ (act : Act). call_in act) e
  where
    call_in : Act → DceCall
    call_in (Asks c) = c
    call_in _ = a

point_fits : (a : DceCall) (h : Spot) (b : Bool) → act_at h ≡ Asks a → is_point (shape_of a).word ≡ b → IsFitting (let x : Next = if b then step.IsAtPoint h else step.Shares h in x)
point_fits a h true e f = tt
point_fits a h false e f = λ call g. subst (λ (c : DceCall). is_point (shape_of c).word ≡ false) (asked_call a call (sym e ∙ g)) f

shared_fits : (act : Act) (h : Spot) → act_at h ≡ act → IsFitting (next_shared act h)
shared_fits (Asks call) h e = point_fits call h (is_point (shape_of call).word) e refl
shared_fits (Sets v x) h e = λ call f. absurd (cc)
shared_fits (Says x) h e = λ call f. absurd (cc)
shared_fits (Chooses x body other) h e = λ call f. absurd (cc)
shared_fits (Repeats x again) h e = λ call f. absurd (cc)
shared_fits (Calls routine x place) h e = λ call f. absurd (cc)
shared_fits (Returns x) h e = λ call f. absurd (cc)
shared_fits (Tries body ways) h e = λ call f. absurd (cc)
shared_fits (Raises name) h e = λ call f. absurd (cc)
shared_fits RaisesAgain h e = λ call f. absurd (cc)
shared_fits (Exits x) h e = λ call f. absurd (cc)

spot_fits : (b : Bool) (h : Spot) (m : Move) → AreInner m.lines → IsFitting (let x : Next = if b then next_shared (act_at h) h else StepsQuietly m in x)
spot_fits true h m i = shared_fits (act_at h) h refl
spot_fits false h m i = i

place_fits : (p : Place) (r : Remainder) (m : Move) → AreInner m.lines → IsFitting (next_at p r m)
place_fits Nowhere r m h = tt
place_fits (AtEnd close role outer) r m h = end_fits role outer r m h
place_fits (At x) r m h = spot_fits (is_shared x.stmt) x m h

by_fits : (g : Setting) (u : Option Unwinding) (r : Remainder) → IsFitting (next_by g u r)
by_fits g None r = place_fits (place_in r.items) r (quiet g r) (quiet_inner g r)
by_fits g (Some u) r = outward_fits u r.items r (outward g u r) (outward_inner g u r)

next_fits : (g : Setting) (r : Remainder) → IsFitting (next g r)
unfolding next
next_fits g r = by_fits g r.under_way r

-- ---- the quiet part of a turn

-- What ends the quiet part fits the cancelabilities.
abbrev pub HaltFits : Mode → Halt → Type 0
HaltFits mode Delivers = (mode.pending && mode.general) ≡ true
HaltFits mode (Shares h) = (call : DceCall) → act_at h ≡ Asks call → is_point (shape_of call).word ≡ true → (mode.pending && mode.general) ≡ false
HaltFits mode (runs.Undoes block m) = AreInner m.lines
HaltFits mode (Completes block m) = AreInner m.lines
HaltFits mode Ends = Unit {0}
HaltFits mode Pauses = Unit {0}

pub record RunFits (mode : Mode) (run : Run) : Type 0 where
  pub lines : AreInner run.lines
  pub halt : HaltFits mode run.halt

deliverable_is : (m : Mode) (b : Bool) → is_deliverable m b ≡ true → (m.pending && m.general) ≡ true
deliverable_is m b e = by_cases m.pending m.general (b || m.asynchronous) e
  where
    by_cases : (p g x : Bool) → (p && g && x) ≡ true → (p && g) ≡ true
    by_cases true true x f = refl
    by_cases true false x f = f
    by_cases false g x f = f

point_isnt : (m : Mode) → is_deliverable m true ≡ false → (m.pending && m.general) ≡ false
point_isnt m e = by_cases m.pending m.general e
  where
    by_cases : (p g : Bool) → (p && g && true) ≡ false → (p && g) ≡ false
    by_cases true true f = f
    by_cases true false f = refl
    by_cases false g f = refl

or_fits : (mode : Mode) (point b : Bool) (halt : Halt) → is_deliverable mode point ≡ b → (b ≡ false → HaltFits mode halt) → HaltFits mode (or_delivers b halt)
or_fits mode point true halt e k = deliverable_is mode point e
or_fits mode point false halt e k = k refl

goes_fits : (mode : Mode) (b : Bool) (more : Remainder → Run) (m : Move) → ((r : Remainder) → RunFits mode (more r)) → AreInner m.lines → RunFits mode (goes_on b more m)
goes_fits mode true more m all h = record { lines = append_inner m.lines _ h refl; halt = tt }
goes_fits mode false more m all h = let x : RunFits mode (more m.to) = all m.to in record { lines = append_inner m.lines (more m.to).lines h x.lines; halt = x.halt }

quiet_fits : (mode : Mode) (b : Bool) (more : Remainder → Run) (r : Remainder) (m : Move) → is_deliverable mode false ≡ b → ((r : Remainder) → RunFits mode (more r)) → AreInner m.lines
    → RunFits mode (quiet_or_delivers b mode more r m)
quiet_fits mode true more r m e all h = record { lines = refl; halt = deliverable_is mode false e }
quiet_fits mode false more r m e all h = goes_fits mode (is_asynchronous mode) more m all h

at_fits : (mode : Mode) (more : Remainder → Run) (r : Remainder) (x : Next) → ((r : Remainder) → RunFits mode (more r)) → IsFitting x → RunFits mode (at_next mode more r x)
at_fits mode more r (GoesOutward m) all h = record { lines = refl; halt = tt }
at_fits mode more r (UndoesOnce block m) all h = record { lines = refl; halt = h }
at_fits mode more r EndsThread all h = record { lines = refl; halt = tt }
at_fits mode more r (EndsOnce block m) all h = record { lines = refl; halt = or_fits mode false (is_deliverable mode false) (Completes block m) refl (λ _. h) }
at_fits mode more r (step.Shares spot) all h =
    record { lines = refl; halt = or_fits mode false (is_deliverable mode false) (Shares spot) refl (λ _ call e f. absurd (false≢true (sym (h call e) ∙ f))) }
at_fits mode more r (step.IsAtPoint spot) all h = record { lines = refl; halt = or_fits mode true (is_deliverable mode true) (Shares spot) refl (λ off call e f. point_isnt mode off) }
at_fits mode more r (StepsQuietly m) all h = quiet_fits mode (is_deliverable mode false) more r m refl all h

out_inner : (x : Next) (r : Remainder) → IsFitting x → AreInner (outward_move x r).lines
out_inner (GoesOutward m) r h = h
out_inner (UndoesOnce block m) r h = refl
out_inner EndsThread r h = refl
out_inner (EndsOnce block m) r h = refl
out_inner (step.Shares spot) r h = refl
out_inner (step.IsAtPoint spot) r h = refl
out_inner (StepsQuietly m) r h = refl

pub run_fits : (n : ℕ) (g : Setting) (mode : Mode) (r : Remainder) → RunFits mode (run_of n g mode r)
unfolding run_of
run_fits zero g mode r = record { lines = refl; halt = tt }
run_fits (suc n) g mode r =
    let out : Move = outward_move (next g r) r in
    let x : RunFits mode (at_next mode (run_of n g mode) out.to (next g out.to)) = at_fits mode (run_of n g mode) out.to (next g out.to) (run_fits n g mode) (next_fits g out.to) in
    record { lines = append_inner out.lines _ (out_inner (next g r) r (next_fits g r)) x.lines; halt = x.halt }

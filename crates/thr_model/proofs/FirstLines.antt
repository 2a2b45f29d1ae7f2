-- Each event makes a line, and the first one tells the event by whose line it is.
use Rattle.std.proofs.Common.{◌≡◌, ℕ, zero, suc, ℤ, Bool, true, false, List, [], ◌∷◌, ◌++◌, map, Option, Some, None, Ok, Err, refl, sym, ap, subst}
use Rattle.std.specs.Prelude.{if◌then◌else◌, nat_lt}
use Rattle.std.specs.Option.{option_map, unwrap_or}
use Rattle.thr_values.specs.declared.number.NameId.{NameId}
use Rattle.thr_values.specs.declared.number.Tid.{Tid}
use Rattle.thr_values.specs.declared.event.Event.{Event}
use Rattle.thr_values.specs.declared.event.Event.TheVariants as event
use Rattle.thr_values.specs.declared.history.Who.{Who}
use Rattle.thr_values.specs.declared.history.Who.TheVariants as who
use Rattle.thr_values.specs.declared.history.What.{What}
use Rattle.thr_values.specs.declared.history.Entry.{Entry}
use Rattle.thr_syntax.specs.Shared.{is_shared}
use Rattle.thr_syntax.specs.declared.dce.DceCall.{DceCall}
use Rattle.thr_syntax.specs.declared.tree.Script.{Script}
use Rattle.thr_remainder.specs.declared.unwinding.Unwinding.{Unwinding}
use Rattle.thr_remainder.specs.Acts.{Act, Sets, Says, Chooses, Repeats, Tries, Raises, RaisesAgain, Calls, Returns, Exits, Asks}
use Rattle.thr_remainder.specs.Remainders.{Role, Doing, Item, Setting, Remainder, Move, Spot, Place, Nowhere, AtEnd, At, place_in, act_at, has_room}
use Rattle.thr_remainder.specs.Expressions.{Value, SharedValues, none_shared, value_of}
use Rattle.thr_remainder.specs.Steps.{or_raised, valued, made, step_at, quiet, shared_step}
use Rattle.thr_remainder.specs.Outward.{outward}
use Rattle.thr_remainder.specs.Calls.{is_point, shape_of}
use Rattle.thr_remainder.specs.Replies.{Values, asked}
use Rattle.thr_remainder.specs.Next.{Next, next, next_by, next_outward, next_end, next_shared, next_at}
use Rattle.thr_remainder.specs.Next as step
use Rattle.thr_remainder.specs.Runs.{is_deliverable, Halt, Delivers, Shares, Undoes, Completes, Ends, Pauses, Run, pauses, or_delivers, goes_on, quiet_or_delivers, is_asynchronous, at_next, outward_move, run_of, most_steps}
use Rattle.thr_values.specs.declared.scheduling.Mode.{Mode}
use Rattle.thr_parts.specs.Rows.{Rows}
use Rattle.thr_parts.specs.Dispatch.{running, some_can_run, Dispatched, dispatch}
use Rattle.thr_parts.specs.Cancels.{mode_at}
use Rattle.thr_parts.specs.Expiry.{earliest}
use Rattle.thr_parts.specs.Keys.{DestructorCall, NextDestructor, next_destructor}
use Rattle.thr_model.specs.States.{State, Debt, Return, Delivery, Running, remainder_of, setting_of, debt_of, shared_values}
use Rattle.thr_model.specs.Turns.{Made, thread_line, called, shared_made, end_made, debt_made, halt_made, turn_by, turn_of}
use Rattle.thr_model.specs.Events.{dispatch_made, clock_to, clock_of, made_by}

-- ---- steps that have a line

-- There is a line.
abbrev HasLine : List What → Type 0
HasLine [] = ⊥
HasLine (l ∷ ls) = Unit {0}

either_line : (b : Bool) (m n : Move) → HasLine m.lines → HasLine n.lines → HasLine (if b then m else n).lines
either_line true m n h i = h
either_line false m n h i = i

valued_line : (value : Value) (f : ℤ → Move) (r : Remainder) → ((n : ℤ) → HasLine (f n).lines) → HasLine (or_raised value f r).lines
valued_line (Ok n) f r h = h n
valued_line (Err x) f r h = tt

-- The act is no call of the thread service.
abbrev IsOwn : Act → Type 0
IsOwn (Asks call) = ⊥
IsOwn _ = Unit {0}

-- A shared statement tells its value, or has a line of its own.
shared_line : (g : Setting) (shared : SharedValues) (act : Act) (h : Spot) (r : Remainder) → IsOwn act → HasLine (made g true shared act h r).lines
shared_line g shared (Sets v e) h r own = valued_line (value_of g shared r e) _ r (λ n. tt)
shared_line g shared (Says e) h r own = valued_line (value_of g shared r e) _ r (λ n. tt)
shared_line g shared (Chooses e body other) h r own = valued_line (value_of g shared r e) _ r (λ n. tt)
shared_line g shared (Repeats e again) h r own = valued_line (value_of g shared r e) _ r (λ n. tt)
shared_line g shared (Tries body ways) h r own = either_line (has_room g r 1) _ _ tt tt
shared_line g shared (Raises name) h r own = tt
shared_line g shared RaisesAgain h r own = tt
shared_line g shared (Calls routine e place) h r own = either_line (has_room g r 1) _ _ (valued_line (value_of g shared r e) (valued g true (Calls routine e place) h r) r (λ n. tt)) tt
shared_line g shared (Returns e) h r own = valued_line (value_of g shared r e) _ r (λ n. tt)
shared_line g shared (Exits e) h r own = valued_line (value_of g shared r e) _ r (λ n. tt)
shared_line g shared (Asks call) h r own = absurd own

step_line : (g : Setting) (shared : SharedValues) (h : Spot) (r : Remainder) → IsOwn (act_at h) → place_in r.items ≡ At h → HasLine (shared_step g shared r).lines
unfolding shared_step
step_line g shared h r own e = subst (λ (p : Place). HasLine (step_at g true shared p r).lines) (sym e) (shared_line g shared (act_at h) h r own)

-- ---- the next step

-- Where the step has lines it has one; where it is a shared statement, that is the next one.
abbrev Fits : Remainder → Next → Type 0
Fits r (step.UndoesOnce block m) = HasLine m.lines
Fits r (step.EndsOnce block m) = HasLine m.lines
Fits r (step.Shares h) = place_in r.items ≡ At h
Fits r (step.IsAtPoint h) = place_in r.items ≡ At h
Fits r _ = Unit {0}

outward_fits : (u : Unwinding) (role : Role) (outer : List Item) (r to : Remainder) (m : Move) → Fits to (step.outward_or_undone role u outer r m)
outward_fits u (Doing scope block routine) outer r to m = tt
outward_fits u _ outer r to m = tt

unwinding_fits : (u : Unwinding) (items : List Item) (r to : Remainder) (m : Move) → Fits to (next_outward u items r m)
unwinding_fits u [] r to m = tt
unwinding_fits u (i ∷ outer) r to m = outward_fits u i.role outer r to m

end_line : (g : Setting) (close scope : ℕ) (block routine : NameId) (outer : List Item) (r : Remainder) → place_in r.items ≡ AtEnd close (Doing scope block routine) outer → HasLine (quiet g r).lines
unfolding quiet
end_line g close scope block routine outer r e = subst (λ (p : Place). HasLine (step_at g false none_shared p r).lines) (sym e) tt

end_fits : (g : Setting) (close : ℕ) (role : Role) (outer : List Item) (r : Remainder) → place_in r.items ≡ AtEnd close role outer → Fits r (next_end role outer r (quiet g r))
end_fits g close (Doing scope block routine) outer r e = end_line g close scope block routine outer r e
end_fits g close _ outer r e = tt

point_fits : (b : Bool) (h : Spot) (r : Remainder) → place_in r.items ≡ At h → Fits r (if b then step.IsAtPoint h else step.Shares h)
point_fits true h r e = e
point_fits false h r e = e

act_fits : (act : Act) (h : Spot) (r : Remainder) → place_in r.items ≡ At h → Fits r (next_shared act h)
act_fits (Asks call) h r e = point_fits (is_point (shape_of call).word) h r e
act_fits _ h r e = e

spot_fits : (b : Bool) (h : Spot) (r : Remainder) (m : Move) → place_in r.items ≡ At h → Fits r (if b then next_shared (act_at h) h else step.StepsQuietly m)
spot_fits true h r m e = act_fits (act_at h) h r e
spot_fits false h r m e = tt

place_fits : (g : Setting) (p : Place) (r : Remainder) → place_in r.items ≡ p → Fits r (next_at p r (quiet g r))
place_fits g Nowhere r e = tt
place_fits g (AtEnd close role outer) r e = end_fits g close role outer r e
place_fits g (At h) r e = spot_fits (is_shared h.stmt) h r (quiet g r) e

by_fits : (g : Setting) (u : Option Unwinding) (r : Remainder) → Fits r (next_by g u r)
by_fits g None r = place_fits g (place_in r.items) r refl
by_fits g (Some u) r = unwinding_fits u r.items r r (outward g u r)

next_fits : (g : Setting) (r : Remainder) → Fits r (next g r)
unfolding next
next_fits g r = by_fits g r.under_way r

-- ---- the quiet part of a turn

-- What ends the quiet part has a line.
abbrev Halts : Remainder → Halt → Type 0
Halts r (Shares h) = place_in r.items ≡ At h
Halts r (Undoes block m) = HasLine m.lines
Halts r (Completes block m) = HasLine m.lines
Halts r Pauses = ⊥
Halts r _ = Unit {0}

-- The quiet part has a line, or what ends it has.
abbrev Tells : List What → Remainder → Halt → Type 0
Tells [] r halt = Halts r halt
Tells (l ∷ ls) r halt = Unit {0}

tells_after : (lines more : List What) (r : Remainder) (halt : Halt) → Tells more r halt → Tells (lines ++ more) r halt
tells_after [] more r halt h = h
tells_after (l ∷ ls) more r halt h = tt

delivers_tells : (b : Bool) (r : Remainder) (halt : Halt) → Halts r halt → Halts r (or_delivers b halt)
delivers_tells true r halt h = tt
delivers_tells false r halt h = h

-- What comes after any quiet step tells.
abbrev AllTell : (Remainder → Run) → Type 0
AllTell more = (r : Remainder) → Tells (more r).lines (more r).to (more r).halt

goes_tells : (b : Bool) (more : Remainder → Run) (m : Move) → AllTell more → (let run : Run = goes_on b more m in Tells run.lines run.to run.halt)
goes_tells true more m h = tells_after m.lines (pauses m.to).lines m.to Pauses tt
goes_tells false more m h = tells_after m.lines (more m.to).lines (more m.to).to (more m.to).halt (h m.to)

quiet_tells : (b : Bool) (mode : Mode) (more : Remainder → Run) (r : Remainder) (m : Move) → AllTell more → (let run : Run = quiet_or_delivers b mode more r m in Tells run.lines run.to run.halt)
quiet_tells true mode more r m h = tt
quiet_tells false mode more r m h = goes_tells (is_asynchronous mode) more m h

at_tells : (mode : Mode) (more : Remainder → Run) (r : Remainder) (x : Next) → Fits r x → AllTell more → (let run : Run = at_next mode more r x in Tells run.lines run.to run.halt)
at_tells mode more r (step.GoesOutward m) f h = tt
at_tells mode more r (step.UndoesOnce block m) f h = f
at_tells mode more r step.EndsThread f h = tt
at_tells mode more r (step.EndsOnce block m) f h = delivers_tells (is_deliverable mode false) r (Completes block m) f
at_tells mode more r (step.Shares spot) f h = delivers_tells (is_deliverable mode false) r (Shares spot) f
at_tells mode more r (step.IsAtPoint spot) f h = delivers_tells (is_deliverable mode true) r (Shares spot) f
at_tells mode more r (step.StepsQuietly m) f h = quiet_tells (is_deliverable mode false) mode more r m h

run_tells : (n : ℕ) (g : Setting) (mode : Mode) (r : Remainder) → (let run : Run = run_of n g mode r in Tells run.lines run.to run.halt)
unfolding run_of
run_tells zero g mode r = tt
run_tells (suc n) g mode r =
    let out : Move = outward_move (next g r) r in
    let run : Run = at_next mode (run_of n g mode) out.to (next g out.to) in
    tells_after out.lines run.lines run.to run.halt (at_tells mode (run_of n g mode) out.to (next g out.to) (next_fits g out.to) (run_tells n g mode))

-- ---- turns

-- The first line is theirs.
abbrev pub IsOf : Who → List Entry → Type 0
IsOf w [] = ⊥
IsOf w (e ∷ es) = e.who ≡ w

lines_of : (t : Tid) (lines : List What) → HasLine lines → IsOf (who.Thread t) (map (thread_line t) lines)
lines_of t [] h = absurd h
lines_of t (l ∷ ls) h = refl

end_of : (st : State) (t : Tid) (g : Setting) (r : Remainder) (o : NextDestructor) (c : Option DestructorCall) → IsOf (who.Thread t) (end_made st t g r o c).lines
end_of st t g r o None = refl
end_of st t g r o (Some c) = refl

called_of : (s : Script) (st : State) (t : Tid) (g : Setting) (call : DceCall) (r : Remainder) (values : Values) → IsOf (who.Thread t) (called s st t g call r values).lines
called_of s st t g call r (Ok ns) = refl
called_of s st t g call r (Err x) = refl

shared_of : (s : Script) (st : State) (t : Tid) (g : Setting) (r : Remainder) (act : Act) → (IsOwn act → HasLine (shared_step g (shared_values st) r).lines) → IsOf (who.Thread t) (shared_made s st t g r act).lines
shared_of s st t g r (Asks call) h = called_of s st t g call r (asked g (shared_values st) call r)
shared_of s st t g r _ h = lines_of t (shared_step g (shared_values st) r).lines (h tt)

halt_of : (s : Script) (st : State) (t : Tid) (g : Setting) (r : Remainder) (halt : Halt) → Halts r halt → IsOf (who.Thread t) (halt_made s st t g r halt).lines
halt_of s st t g r Delivers h = refl
halt_of s st t g r (Shares spot) h = shared_of s st t g r (act_at spot) (λ own. step_line g (shared_values st) spot r own h)
halt_of s st t g r (Undoes block m) h = lines_of t m.lines h
halt_of s st t g r (Completes block m) h = lines_of t m.lines h
halt_of s st t g r Ends h = let o : NextDestructor = next_destructor st.onces t in end_of st t g r o o.call
halt_of s st t g r Pauses h = absurd h

run_then : (t : Tid) (lines : List What) (r : Remainder) (halt : Halt) (entries : List Entry) → Tells lines r halt → (Halts r halt → IsOf (who.Thread t) entries) → IsOf (who.Thread t) (map (thread_line t) lines ++ entries)
run_then t [] r halt entries h rest = rest h
run_then t (l ∷ ls) r halt entries h rest = refl

debt_line : (st : State) (t : Tid) (g : Setting) (r : Remainder) (d : Debt) → IsOf (who.Thread t) (debt_made st t g r d).lines
debt_line st t g r (Return y) = refl
debt_line st t g r Delivery = refl
debt_line st t g r Running = refl

by_line : (s : Script) (st : State) (t : Tid) (d : Option Debt) → IsOf (who.Thread t) (turn_by s st t d).lines
by_line s st t (Some d) = debt_line _ t (setting_of s st t) (remainder_of st t) d
by_line s st t None =
    let g : Setting = setting_of s st t in
    let run : Run = run_of most_steps g (mode_at st.threads t) (remainder_of st t) in
    run_then t run.lines run.to run.halt (halt_made s st t g run.to run.halt).lines (run_tells most_steps g (mode_at st.threads t) (remainder_of st t)) (halt_of s st t g run.to run.halt)

-- The first line of a turn is the thread's.
pub turn_line : (s : Script) (st : State) (t : Tid) → IsOf (who.Thread t) (turn_of s st t).lines
unfolding turn_of
turn_line s st t = by_line s st t (debt_of st t)

-- ---- events

-- Whose line the first one of an event is.
abbrev pub Names : Rows → Event → List Entry → Type 0
Names rs (event.Dispatch p) lines = IsOf (who.Proc p) lines
Names rs (event.Turn p) lines = (t : Tid) × (running rs p ≡ Some t) × IsOf (who.Thread t) lines
Names rs event.Clock lines = IsOf who.Clock lines

dispatch_line : (st : State) (p : ℕ) (d : Dispatched) (o : Option Tid) (made : Made) → dispatch_made st p d o ≡ Some made → IsOf (who.Proc p) made.lines
dispatch_line st p d None made e = absurd (cc)
dispatch_line st p d (Some t) made e = subst (λ (m : Made). IsOf (who.Proc p) m.lines) (ap (λ o. unwrap_or o made) e) refl

dispatch_if_line : (b : Bool) (st : State) (p : ℕ) (made : Made) → (if b then dispatch_made st p (dispatch st.rows p) (dispatch st.rows p).taken else None) ≡ Some made → IsOf (who.Proc p) made.lines
dispatch_if_line true st p made e = dispatch_line st p (dispatch st.rows p) (dispatch st.rows p).taken made e
dispatch_if_line false st p made e = absurd (cc)

turn_names : (s : Script) (st : State) (p : ℕ) (o : Option Tid) (made : Made) → running st.rows p ≡ o → option_map (turn_of s st) o ≡ Some made → Names st.rows (event.Turn p) made.lines
turn_names s st p None made is e = absurd (cc)
turn_names s st p (Some t) made is e = (t, is, subst (λ (m : Made). IsOf (who.Thread t) m.lines) (ap (λ o. unwrap_or o made) e) (turn_line s st t))

clock_at_line : (st : State) (o : Option ℤ) (made : Made) → option_map (clock_to st) o ≡ Some made → IsOf who.Clock made.lines
clock_at_line st None made e = absurd (cc)
clock_at_line st (Some now) made e = subst (λ (m : Made). IsOf who.Clock m.lines) (ap (λ o. unwrap_or o made) e) refl

clock_line : (st : State) (b : Bool) (made : Made) → clock_of b st ≡ Some made → IsOf who.Clock made.lines
clock_line st true made e = absurd (cc)
clock_line st false made e = clock_at_line st (earliest st.conds) made e

-- The first line of an event names it.
pub made_names : (s : Script) (n : ℕ) (st : State) (e : Event) (made : Made) → made_by s n st e ≡ Some made → Names st.rows e made.lines
unfolding made_by
made_names s n st (event.Dispatch p) made e = dispatch_if_line (nat_lt p n) st p made e
made_names s n st (event.Turn p) made e = turn_names s st p (running st.rows p) made refl e
made_names s n st event.Clock made e = clock_line st (some_can_run st.rows) made e

-- The arguments of the calls that an event makes stand in front.
use Rattle.std.proofs.Common.{◌≡◌, ℕ, ℤ, suc, ◌+◌, Bool, true, false, List, [], ◌∷◌, ◌++◌, map, take, length, zero, length-append, length-take-le, replicate, Option, Some, None, Ok, Err, refl, ◌∙◌, ap, subst, arith}
use Rattle.std.specs.Prelude.{◌==◌, ◌&&◌, nat_lt, if◌then◌else◌}
use Rattle.std.specs.List.{list_all}
use Rattle.std.specs.Option.{option_map, unwrap_or}
use Rattle.std.proofs.lemmas.Bool.{and_parts, false≢true}
use Rattle.std.proofs.lemmas.Bool.Decides.{nat_tests}
use Rattle.thr_values.specs.declared.number.Tid.{Tid}
use Rattle.thr_values.specs.Exceptions.{stackovf_e}
use Rattle.thr_values.specs.declared.exception.Exc.{Exc}
use Rattle.thr_values.specs.declared.scheduling.Mode.{Mode}
use Rattle.thr_values.specs.declared.call.Arg.{Arg}
use Rattle.thr_values.specs.declared.call.Arg.TheVariants as arg
use Rattle.thr_values.specs.declared.event.Event.{Event}
use Rattle.thr_values.specs.declared.event.Event.TheVariants as event
use Rattle.thr_values.specs.declared.history.What.{What}
use Rattle.thr_values.specs.declared.history.What.TheVariants as what
use Rattle.thr_values.specs.declared.history.Entry.{Entry}
use Rattle.thr_values.specs.declared.reply.Reply.{Reply}
use Rattle.thr_values.specs.declared.reply.Reply.TheVariants as reply
use Rattle.thr_syntax.specs.declared.expr.Expr.{Expr}
use Rattle.thr_syntax.specs.declared.dce.DceCall.{DceCall}
use Rattle.thr_syntax.specs.declared.tree.Script.{Script}
use Rattle.thr_remainder.specs.Acts.{Act, Asks}
use Rattle.thr_remainder.specs.Remainders.{Setting, Remainder, Move, place_in, act_at, has_room}
use Rattle.thr_remainder.specs.Expressions.{Value, SharedValues, value_of}
use Rattle.thr_remainder.specs.Calls.{Part, shape_of, expressions_in, expressions_of, filled, arguments}
use Rattle.thr_remainder.specs.Calls as parts
use Rattle.thr_remainder.specs.Replies.{Values, value_then, values_of, needs_two_frames, asked, replied}
use Rattle.thr_remainder.specs.Runs.{Halt, Delivers, Shares, Undoes, Completes, Ends, Pauses, Run, run_of, most_steps}
use Rattle.thr_remainder.specs.Steps.{shared_step}
use Rattle.thr_parts.specs.Cancels as cancels
use Rattle.thr_parts.specs.Dispatch.{Dispatched, running, some_can_run, dispatch}
use Rattle.thr_parts.specs.Expiry.{earliest}
use Rattle.thr_parts.specs.Keys.{DestructorCall, NextDestructor, next_destructor}
use Rattle.thr_model.specs.States.{State, Debt, Return, Delivery, Running, remainder_of, setting_of, debt_of, shared_values}
use Rattle.thr_model.specs.Calls.{Gifts, Answered, answered}
use Rattle.thr_model.specs.Turns.{Made, thread_line, gift_lines, runs_if, after_reply, begun_at, call_made, called, shared_made, end_made, debt_made, halt_made, turn_by, turn_of}
use Rattle.thr_model.specs.Events.{dispatch_made, clock_to, clock_of, made_by}
use Rattle.thr_verdict.specs.Places.{is_absent}
use Rattle.thr_cancels.proofs.InnerLines.{is_inner, AreInner, shared_inner, replied_inner, routine_inner, begun_inner, HaltFits, RunFits, run_fits}
use Rattle.thr_exactness.specs.Arguments.{stand_in_front, has_arguments_in_front}

-- The arguments of these lines stand in front.
abbrev pub AllInFront : List Entry → Type 0
AllInFront [] = Unit {0}
AllInFront (e ∷ es) = (has_arguments_in_front e.what ≡ true) × AllInFront es

join_in_front : (es fs : List Entry) → AllInFront es → AllInFront fs → AllInFront (es ++ fs)
join_in_front [] fs h k = k
join_in_front (e ∷ es) fs h k = (h.0, join_in_front es fs h.1 k)

-- ---- lines that are no calls

inner_in_front : (w : What) → is_inner w ≡ true → has_arguments_in_front w ≡ true
inner_in_front (what.Call c args r) h = absurd (false≢true h)
inner_in_front _ h = refl

inner_lines : (t : Tid) (ws : List What) → AreInner ws → AllInFront (map (thread_line t) ws)
inner_lines t [] h = tt
inner_lines t (w ∷ ws) h = let x = and_parts (is_inner w) (list_all is_inner ws) h in (inner_in_front w x.0, inner_lines t ws x.1)

gifts_in_front : (gs : Gifts) → AllInFront (gift_lines gs)
gifts_in_front [] = tt
gifts_in_front (g ∷ gs) = (refl, gifts_in_front gs)

-- ---- the arguments of a call

ok_nothing : (ns : List ℤ) → (let v : Values = Ok [] in v) ≡ Ok ns → ns ≡ []
ok_nothing ns e = cc

ok_more : (n : ℤ) (ms ns : List ℤ) → (let v : Values = Ok (n ∷ ms) in v) ≡ Ok ns → ns ≡ n ∷ ms
ok_more n ms ns e = cc

more_fit : (v : Value) (vs : Values) (ns : List ℤ) (k : ℕ) → ((ms : List ℤ) → vs ≡ Ok ms → length ms ≡ k) → value_then v vs ≡ Ok ns → length ns ≡ suc k
more_fit (Err y) vs ns k fits e = absurd (cc)
more_fit (Ok n) (Err y) ns k fits e = absurd (cc)
more_fit (Ok n) (Ok ms) ns k fits e = ap length (ok_more n ms ns e) ∙ ap suc (fits ms refl)

-- There are as many values as expressions.
values_fit : (g : Setting) (shared : SharedValues) (r : Remainder) (es : List Expr) (ns : List ℤ) → values_of g shared r es ≡ Ok ns → length ns ≡ length es
values_fit g shared r [] ns e = ap length (ok_nothing ns e)
values_fit g shared r (x ∷ es) ns e = more_fit (value_of g shared r x) (values_of g shared r es) ns (length es) (λ ms is. values_fit g shared r es ms is) e

two_frames : (b c : Bool) (vs : Values) (x : Exc) (ns : List ℤ) → (let v : Values = if b then (if c then vs else Err x) else vs in v) ≡ Ok ns → vs ≡ Ok ns
two_frames true true vs x ns e = e
two_frames true false vs x ns e = absurd (cc)
two_frames false c vs x ns e = e

asked_fit : (g : Setting) (shared : SharedValues) (call : DceCall) (r : Remainder) (ns : List ℤ) → asked g shared call r ≡ Ok ns → length ns ≡ length (expressions_of call)
unfolding asked
asked_fit g shared call r ns e =
    values_fit g shared r (expressions_of call) ns (two_frames (needs_two_frames call) (has_room g r 2) (values_of g shared r (expressions_of call)) stackovf_e ns e)

filled_in_front : (ps : List Part) (ns : List ℤ) (rest : List Arg) → length ns ≡ length (expressions_in ps) → stand_in_front rest ≡ true → stand_in_front (filled ps ns ++ rest) ≡ true
filled_in_front [] ns rest e h = h
filled_in_front (parts.Name n ∷ ps) ns rest e h = filled_in_front ps ns rest e h
filled_in_front (parts.Word k ∷ ps) ns rest e h = filled_in_front ps ns rest e h
filled_in_front (parts.Value x ∷ ps) (n ∷ ns) rest e h = filled_in_front ps ns rest (omega (arith, e)) h
filled_in_front (parts.Value x ∷ ps) [] rest e h = absurd (omega (arith, e))

absent_taken : (k : ℕ) (xs : List Arg) → list_all is_absent xs ≡ true → list_all is_absent (take k xs) ≡ true
absent_taken zero xs h = refl
absent_taken (suc k) [] h = refl
absent_taken (suc k) (arg.Nothing ∷ xs) h = absent_taken k xs h
absent_taken (suc k) (arg.Name n ∷ xs) h = absurd (cc)
absent_taken (suc k) (arg.Num n ∷ xs) h = absurd (cc)
absent_taken (suc k) (arg.Word n ∷ xs) h = absurd (cc)

taken_in_front : (k : ℕ) (xs : List Arg) → stand_in_front xs ≡ true → stand_in_front (take k xs) ≡ true
taken_in_front zero xs h = refl
taken_in_front (suc k) [] h = refl
taken_in_front (suc k) (arg.Nothing ∷ xs) h = absent_taken k xs h
taken_in_front (suc k) (arg.Name n ∷ xs) h = taken_in_front k xs h
taken_in_front (suc k) (arg.Num n ∷ xs) h = taken_in_front k xs h
taken_in_front (suc k) (arg.Word n ∷ xs) h = taken_in_front k xs h

four_taken : (xs : List Arg) → length (take 4 (xs ++ replicate 4 arg.Nothing)) ≡ 4
four_taken xs =
    let all : length (xs ++ replicate 4 arg.Nothing) ≡ length xs + 4 = length-append xs (replicate 4 arg.Nothing) in
    length-take-le 4 (xs ++ replicate 4 arg.Nothing) (omega (arith, all))

both_hold : (a b : Bool) → a ≡ true → b ≡ true → (a && b) ≡ true
both_hold true b h k = k
both_hold false b h k = absurd (cc)

is_four : (n : ℕ) → n ≡ 4 → (n == 4) ≡ true
is_four n e = grind (arith, nat_tests)

call_in_front : (call : DceCall) (ns : List ℤ) (y : Reply) → length ns ≡ length (expressions_of call) → has_arguments_in_front (what.Call (shape_of call).word (arguments call ns) y) ≡ true
call_in_front call ns y e =
    let xs : List Arg = filled (shape_of call).parts ns in
    both_hold (length (arguments call ns) == 4) (stand_in_front (arguments call ns)) (is_four (length (arguments call ns)) (four_taken xs))
    (taken_in_front 4 (xs ++ replicate 4 arg.Nothing) (filled_in_front (shape_of call).parts ns (replicate 4 arg.Nothing) e refl))

-- ---- turns

runs_inner : (b : Bool) (g : Setting) (call : DceCall) (m : Move) → AreInner m.lines → AreInner (runs_if b g call m).lines
runs_inner true g call m h = routine_inner g call m h
runs_inner false g call m h = h

reply_inner : (g : Setting) (call : DceCall) (runs : Bool) (r : Remainder) (y : Reply) → AreInner (after_reply g call runs r y).lines
reply_inner g call runs r reply.Blocks = refl
reply_inner g call runs r y = runs_inner runs g call (replied g y r) (replied_inner g y r)

call_made_in_front : (t : Tid) (g : Setting) (call : DceCall) (ns : List ℤ) (r : Remainder) (o : Answered) → length ns ≡ length (expressions_of call) → AllInFront (call_made t g call ns r o).lines
call_made_in_front t g call ns r o e =
    (call_in_front call ns o.reply e, join_in_front (gift_lines o.gifts) (map (thread_line t) (after_reply g call o.runs r o.reply).lines) (gifts_in_front o.gifts) (inner_lines t (after_reply g call o.runs r o.reply).lines (reply_inner g call o.runs r o.reply)))

called_in_front : (s : Script) (st : State) (t : Tid) (g : Setting) (call : DceCall) (r : Remainder) (vs : Values) → asked g (shared_values st) call r ≡ vs → AllInFront (called s st t g call r vs).lines
called_in_front s st t g call r (Ok ns) e = call_made_in_front t g call ns r (answered s st t call ns) (asked_fit g (shared_values st) call r ns e)
called_in_front s st t g call r (Err x) e = (refl, tt)

shared_in_front : (s : Script) (st : State) (t : Tid) (g : Setting) (r : Remainder) (act : Act) → AllInFront (shared_made s st t g r act).lines
shared_in_front s st t g r (Asks call) = called_in_front s st t g call r (asked g (shared_values st) call r) refl
shared_in_front s st t g r _ = inner_lines t (shared_step g (shared_values st) r).lines (shared_inner g (shared_values st) r)

end_in_front : (st : State) (t : Tid) (g : Setting) (r : Remainder) (o : NextDestructor) (c : Option DestructorCall) → AllInFront (end_made st t g r o c).lines
end_in_front st t g r o None = (refl, tt)
end_in_front st t g r o (Some c) = (refl, tt)

debt_in_front : (st : State) (t : Tid) (g : Setting) (r : Remainder) (d : Debt) → AllInFront (debt_made st t g r d).lines
debt_in_front st t g r (Return y) = (refl, inner_lines t (replied g y r).lines (replied_inner g y r))
debt_in_front st t g r Delivery = (refl, tt)
debt_in_front st t g r Running =
    (refl, inner_lines t (begun_at g (place_in r.items) (replied g reply.Done r)).lines (begun_inner g (place_in r.items) (replied g reply.Done r) (replied_inner g reply.Done r)))

halt_in_front : (s : Script) (st : State) (t : Tid) (g : Setting) (r : Remainder) (mode : Mode) (halt : Halt) → HaltFits mode halt → AllInFront (halt_made s st t g r halt).lines
halt_in_front s st t g r mode Delivers h = (refl, tt)
halt_in_front s st t g r mode (Shares spot) h = shared_in_front s st t g r (act_at spot)
halt_in_front s st t g r mode (Undoes block m) h = inner_lines t m.lines h
halt_in_front s st t g r mode (Completes block m) h = inner_lines t m.lines h
halt_in_front s st t g r mode Ends h = let o : NextDestructor = next_destructor st.onces t in end_in_front st t g r o o.call
halt_in_front s st t g r mode Pauses h = tt

turn_by_in_front : (s : Script) (st : State) (t : Tid) (d : Option Debt) → AllInFront (turn_by s st t d).lines
turn_by_in_front s st t (Some d) = debt_in_front _ t (setting_of s st t) (remainder_of st t) d
turn_by_in_front s st t None =
    let mode : Mode = cancels.mode_at st.threads t in
    let run : Run = run_of most_steps (setting_of s st t) mode (remainder_of st t) in
    let fits : RunFits mode run = run_fits most_steps (setting_of s st t) mode (remainder_of st t) in
    join_in_front (map (thread_line t) run.lines) (halt_made s st t (setting_of s st t) run.to run.halt).lines (inner_lines t run.lines fits.lines) (halt_in_front s st t (setting_of s st t) run.to mode run.halt fits.halt)

turn_in_front : (s : Script) (st : State) (t : Tid) → AllInFront (turn_of s st t).lines
unfolding turn_of
turn_in_front s st t = turn_by_in_front s st t (debt_of st t)

-- ---- events

abbrev MadeInFront : Made → Type 0
MadeInFront made = AllInFront made.lines

made_is : (m made : Made) → (let o : Option Made = Some m in o) ≡ Some made → m ≡ made
made_is m made e = ap (λ o. unwrap_or o m) e

dispatch_at : (st : State) (p : ℕ) (o : Dispatched) (t : Option Tid) (made : Made) → dispatch_made st p o t ≡ Some made → MadeInFront made
dispatch_at st p o None made e = absurd (cc)
dispatch_at st p o (Some t) made e = subst MadeInFront (made_is _ made e) (refl, tt)

dispatch_in_front : (st : State) (p : ℕ) (b : Bool) (made : Made) → (let o : Option Made = if b then dispatch_made st p (dispatch st.rows p) (dispatch st.rows p).taken else None in o) ≡ Some made → MadeInFront made
dispatch_in_front st p true made e = dispatch_at st p (dispatch st.rows p) (dispatch st.rows p).taken made e
dispatch_in_front st p false made e = absurd (cc)

turn_made : (s : Script) (st : State) (o : Option Tid) (made : Made) → option_map (turn_of s st) o ≡ Some made → MadeInFront made
turn_made s st None made e = absurd (cc)
turn_made s st (Some t) made e = subst MadeInFront (made_is (turn_of s st t) made e) (turn_in_front s st t)

clock_at : (st : State) (o : Option ℤ) (made : Made) → option_map (clock_to st) o ≡ Some made → MadeInFront made
clock_at st None made e = absurd (cc)
clock_at st (Some now) made e = subst MadeInFront (made_is (clock_to st now) made e) (refl, gifts_in_front _)

clock_in_front : (st : State) (b : Bool) (made : Made) → clock_of b st ≡ Some made → MadeInFront made
clock_in_front st true made e = absurd (cc)
clock_in_front st false made e = clock_at st (earliest st.conds) made e

pub event_in_front : (s : Script) (n : ℕ) (st : State) (e : Event) (made : Made) → made_by s n st e ≡ Some made → AllInFront made.lines
unfolding made_by
event_in_front s n st (event.Dispatch p) made e = dispatch_in_front st p (nat_lt p n) made e
event_in_front s n st (event.Turn p) made e = turn_made s st (running st.rows p) made e
event_in_front s n st event.Clock made e = clock_in_front st (some_can_run st.rows) made e

as_test : (es : List Entry) → AllInFront es → list_all (λ (l : Entry). has_arguments_in_front l.what) es ≡ true
as_test [] h = refl
as_test (e ∷ es) h = both_hold (has_arguments_in_front e.what) (list_all (λ (l : Entry). has_arguments_in_front l.what) es) h.0 (as_test es h.1)

pub event_all_in_front : (s : Script) (n : ℕ) (st : State) (e : Event) (made : Made) → made_by s n st e ≡ Some made → list_all (λ (l : Entry). has_arguments_in_front l.what) made.lines ≡ true
event_all_in_front s n st e made is = as_test made.lines (event_in_front s n st e made is)

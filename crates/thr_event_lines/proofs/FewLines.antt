-- In every history an event writes few lines.
use Rattle.std.proofs.Common.{◌≡◌, ℕ, suc, ◌+◌, ◌≤◌, ℤ, Bool, true, false, List, [], ◌∷◌, ◌++◌, map, length, length-append, Option, Some, None, Ok, Err, refl, arith, ap, subst}
use Rattle.std.proofs.lemmas.List.{length-map}
use Rattle.std.specs.Prelude.{if◌then◌else◌, nat_lt}
use Rattle.std.specs.Option.{option_map, unwrap_or}
use Rattle.thr_values.specs.declared.number.NameId.{NameId}
use Rattle.thr_values.specs.declared.number.Tid.{Tid}
use Rattle.thr_values.specs.declared.event.Event.{Event}
use Rattle.thr_values.specs.declared.event.Event.TheVariants as event
use Rattle.thr_values.specs.declared.history.What.TheVariants as what
use Rattle.thr_values.specs.declared.history.Entry.{Entry}
use Rattle.thr_values.specs.declared.reply.Reply.{Reply}
use Rattle.thr_values.specs.declared.reply.Reply.TheVariants as reply
use Rattle.thr_syntax.specs.declared.dce.DceCall.{DceCall}
use Rattle.thr_syntax.specs.declared.dce.DceCall.TheVariants as dce
use Rattle.thr_syntax.specs.declared.tree.Script.{Script}
use Rattle.thr_remainder.specs.Acts.{Act, Asks}
use Rattle.thr_remainder.specs.Remainders.{Setting, Remainder, Move, Place, At, place_in, act_at}
use Rattle.thr_remainder.specs.Calls.{shape_of, arguments}
use Rattle.thr_remainder.specs.Starts.{begins_once}
use Rattle.thr_remainder.specs.Steps.{shared_step}
use Rattle.thr_remainder.specs.Replies.{Values, asked, replied}
use Rattle.thr_remainder.specs.Runs.{Halt, Delivers, Shares, Undoes, Completes, Ends, Pauses, Run, run_of, most_steps}
use Rattle.thr_parts.specs.Tables.{cut}
use Rattle.thr_parts.specs.Rows.{most}
use Rattle.thr_parts.specs.Dispatch.{Dispatched, running, some_can_run, dispatch}
use Rattle.thr_parts.specs.Cancels.{mode_at}
use Rattle.thr_parts.specs.Expiry.{earliest, expire_all}
use Rattle.thr_parts.specs.Keys.{DestructorCall, NextDestructor, next_destructor}
use Rattle.thr_parts.specs.Waking.{Woken}
use Rattle.thr_model.specs.States.{State, Debt, Return, Delivery, Running, rank_of, remainder_of, setting_of, debt_of, shared_values}
use Rattle.thr_model.specs.Calls.{Gifts, Answered, answered}
use Rattle.thr_model.specs.Turns.{Made, thread_line, gift_lines, moved, runs_routine, runs_if, after_reply, called, shared_made, end_made, begun_by, begun_at, debt_made, halt_made, turn_by, turn_of}
use Rattle.thr_model.specs.Events.{dispatch_made, clock_made, clock_to, clock_of, made_by}
use Rattle.thr_model.specs.Histories.{Execution, History}
use Rattle.thr_model.specs.Canonical.{IsCanonicalState}
use Rattle.thr_model.proofs.StateTables.{canonical-state}
use Rattle.thr_waiting.proofs.Living.{few_seats}
use Rattle.thr_waiting.proofs.WaitsKept.{history_waits}
use Rattle.thr_event_lines.proofs.OneMutex.{history_agrees}
use Rattle.thr_event_lines.proofs.ShortSteps.{IsShort, shared_short, replied_short}
use Rattle.thr_event_lines.proofs.ShortRuns.{HaltShort, RunShort, run_short}
use Rattle.thr_event_lines.proofs.FewGifts.{IsOrderly, answered_gives, expired_few}

-- What was made has no more than so many lines.
abbrev Few : ℕ → Made → Type 0
Few n made = length made.lines ≤ n

-- ---- what a thread does with a reply

routine_few : (g : Setting) (call : DceCall) (m : Move) → IsShort m → length (runs_routine g call m).lines ≤ 2
routine_few g (dce.Once block routine) m h =
    let begun : Move = begins_once g block routine m.to in
    let one : length begun.lines ≤ 1 = omega arith in omega (arith, h, one, length-append m.lines begun.lines)
routine_few g _ m h = omega (arith, h)

runs_few : (b : Bool) (g : Setting) (call : DceCall) (m : Move) → IsShort m → length (runs_if b g call m).lines ≤ 2
runs_few true g call m h = routine_few g call m h
runs_few false g call m h = omega (arith, h)

reply_few : (g : Setting) (call : DceCall) (runs : Bool) (r : Remainder) (y : Reply) → length (after_reply g call runs r y).lines ≤ 2
reply_few g call runs r reply.Blocks = omega arith
reply_few g call runs r y = runs_few runs g call (replied g y r) (replied_short g y r)

begun_few : (g : Setting) (act : Act) (m : Move) → IsShort m → length (begun_by g act m).lines ≤ 2
begun_few g (Asks call) m h = routine_few g call m h
begun_few g _ m h = omega (arith, h)

begun_at_few : (g : Setting) (place : Place) (m : Move) → IsShort m → length (begun_at g place m).lines ≤ 2
begun_at_few g (At h) m k = begun_few g (act_at h) m k
begun_at_few g _ m k = omega (arith, k)

-- ---- turns

moved_few : (n : ℕ) (st : State) (t : Tid) (m : Move) → length m.lines ≤ n → Few n (moved st t m)
moved_few n st t m h = omega (arith, h, length-map m.lines (thread_line t))

after_few : (n k : ℕ) (first rest : List Entry) → length first ≤ n → length rest ≤ k → length (first ++ rest) ≤ n + k
after_few n k first rest h i = omega (arith, h, i, length-append first rest)

more_few : (n k : ℕ) (made : Made) → n ≤ k → Few n made → Few k made
more_few n k made h i = omega (arith, h, i)

call_few : (line : Entry) (gifts : Gifts) → length gifts ≤ 1 → length (line ∷ gift_lines gifts) ≤ 2
call_few line gifts h = omega (arith, h, length-map gifts (λ g. thread_line g.0 (what.Gift g.1)))

called_few : (s : Script) (st : State) (t : Tid) (g : Setting) (call : DceCall) (r : Remainder) (v : Values) → IsOrderly st → Few 4 (called s st t g call r v)
called_few s st t g call r (Ok ns) h =
    let o : Answered = answered s st t call ns in
    let line : Entry = thread_line t (what.Call (shape_of call).word (arguments call ns) o.reply) in
    let m : Move = after_reply g call o.runs r o.reply in
    after_few 2 2 (line ∷ gift_lines o.gifts) (map (thread_line t) m.lines) (call_few line o.gifts (answered_gives s st t call ns h)) (moved_few 2 st t m (reply_few g call o.runs r o.reply))
called_few s st t g call r (Err x) h = omega arith

shared_few : (s : Script) (st : State) (t : Tid) (g : Setting) (r : Remainder) (act : Act) → IsOrderly st → Few 4 (shared_made s st t g r act)
shared_few s st t g r (Asks call) h = called_few s st t g call r (asked g (shared_values st) call r) h
shared_few s st t g r _ h =
    let m : Move = shared_step g (shared_values st) r in
    let short : length m.lines ≤ 1 = shared_short g (shared_values st) r in moved_few 4 st t m (omega (arith, short))

short_few : (st : State) (t : Tid) (m : Move) → IsShort m → Few 4 (moved st t m)
short_few st t m h = moved_few 4 st t m (omega (arith, h))

end_few : (st : State) (t : Tid) (g : Setting) (r : Remainder) (o : NextDestructor) (c : Option DestructorCall) → Few 4 (end_made st t g r o c)
end_few st t g r o None = omega arith
end_few st t g r o (Some c) = omega arith

halt_few : (s : Script) (st : State) (t : Tid) (g : Setting) (r : Remainder) (halt : Halt) → HaltShort halt → IsOrderly st → Few 4 (halt_made s st t g r halt)
halt_few s st t g r Delivers short h = omega arith
halt_few s st t g r (Shares spot) short h = shared_few s st t g r (act_at spot) h
halt_few s st t g r (Undoes block m) short h = short_few st t m short
halt_few s st t g r (Completes block m) short h = short_few st t m short
halt_few s st t g r Ends short h = let o : NextDestructor = next_destructor st.onces t in end_few st t g r o o.call
halt_few s st t g r Pauses short h = omega arith

debt_few : (st : State) (t : Tid) (g : Setting) (r : Remainder) (d : Debt) → Few 4 (debt_made st t g r d)
debt_few st t g r (Return y) =
    let m : Move = replied g y r in
    let short : length m.lines ≤ 1 = replied_short g y r in omega (arith, short, length-map m.lines (thread_line t))
debt_few st t g r Delivery = omega arith
debt_few st t g r Running =
    let m : Move = begun_at g (place_in r.items) (replied g reply.Done r) in
    let short : length m.lines ≤ 2 = begun_at_few g (place_in r.items) (replied g reply.Done r) (replied_short g reply.Done r) in omega (arith, short, length-map m.lines (thread_line t))

by_few : (s : Script) (st : State) (t : Tid) (d : Option Debt) → IsOrderly st → Few 136 (turn_by s st t d)
by_few s st t (Some d) h =
    let now : State = record st { debts = cut st.debts t.0 } in
    more_few 4 136 (debt_made now t (setting_of s st t) (remainder_of st t) d) (omega arith) (debt_few now t (setting_of s st t) (remainder_of st t) d)
by_few s st t None h =
    let g : Setting = setting_of s st t in
    let o : Run = run_of most_steps g (mode_at st.threads t) (remainder_of st t) in
    let x : RunShort 129 o = run_short most_steps g (mode_at st.threads t) (remainder_of st t) in
    let first : length (map (thread_line t) o.lines) ≤ 129 = omega (arith, x.lines, length-map o.lines (thread_line t)) in
    let last : Made = halt_made s st t g o.to o.halt in
    let few : length last.lines ≤ 4 = halt_few s st t g o.to o.halt x.halt h in
    omega (arith, after_few 129 4 (map (thread_line t) o.lines) last.lines first few)

turn_of_few : (s : Script) (st : State) (t : Tid) → IsOrderly st → Few 136 (turn_of s st t)
unfolding turn_of
turn_of_few s st t h = by_few s st t (debt_of st t) h

-- ---- events

the_made : (n : ℕ) (o made : Made) → Some o ≡ Some made → Few n o → Few n made
the_made n o made e h = subst (λ (m : Made). Few n m) (ap (λ x. unwrap_or x made) e) h

turn_if_few : (s : Script) (st : State) (o : Option Tid) (made : Made) → IsOrderly st → option_map (turn_of s st) o ≡ Some made → Few 136 made
turn_if_few s st None made h e = absurd (cc)
turn_if_few s st (Some t) made h e = the_made 136 (turn_of s st t) made e (turn_of_few s st t h)

dispatch_few : (st : State) (p : ℕ) (d : Dispatched) (o : Option Tid) (made : Made) → dispatch_made st p d o ≡ Some made → Few 1 made
dispatch_few st p d None made e = absurd (cc)
dispatch_few st p d (Some t) made e = the_made 1 _ made e (omega arith)

dispatch_if_few : (st : State) (p : ℕ) (b : Bool) (made : Made) → (if b then dispatch_made st p (dispatch st.rows p) (dispatch st.rows p).taken else None) ≡ Some made → Few 1 made
dispatch_if_few st p true made e = dispatch_few st p (dispatch st.rows p) (dispatch st.rows p).taken made e
dispatch_if_few st p false made e = absurd (cc)

-- The clock writes its own line, and one for each gift.
clock_long : (st : State) (now : ℤ) (o : Woken) (gs : List (Tid × NameId))
    → (let w : Woken = record { conds = o.conds; locks = o.locks; rows = o.rows; woken = o.woken; gifts = gs } in length (clock_made st now w).lines ≡ suc (length gs))
clock_long st now o [] = refl
clock_long st now o (g ∷ gs) = ap suc (clock_long st now o gs)

clock_few : (st : State) (now : ℤ) → length st.rows.seats ≤ most → Few 1025 (clock_to st now)
clock_few st now few =
    let o : Woken = expire_all (rank_of st) st.conds st.locks st.rows now in
    let made : Made = clock_to st now in
    let long : length made.lines ≡ suc (length o.gifts) = clock_long st now o o.gifts in
    let gives : length o.gifts ≤ length st.rows.seats = expired_few st now in
    omega (arith, long, gives, few)

clock_at_few : (st : State) (o : Option ℤ) (made : Made) → length st.rows.seats ≤ most → option_map (clock_to st) o ≡ Some made → Few 1025 made
clock_at_few st None made few e = absurd (cc)
clock_at_few st (Some now) made few e = the_made 1025 (clock_to st now) made e (clock_few st now few)

clock_if_few : (st : State) (b : Bool) (made : Made) → length st.rows.seats ≤ most → clock_of b st ≡ Some made → Few 1025 made
clock_if_few st true made few e = absurd (cc)
clock_if_few st false made few e = clock_at_few st (earliest st.conds) made few e

made_few : (s : Script) (n : ℕ) (st : State) (e : Event) (made : Made) → IsOrderly st → length st.rows.seats ≤ most → made_by s n st e ≡ Some made → Few 1100 made
unfolding made_by
made_few s n st (event.Dispatch p) made h few m = more_few 1 1100 made (omega arith) (dispatch_if_few st p (nat_lt p n) made m)
made_few s n st (event.Turn p) made h few m = more_few 136 1100 made (omega arith) (turn_if_few s st (running st.rows p) made h m)
made_few s n st event.Clock made h few m = more_few 1025 1100 made (omega arith) (clock_if_few st (some_can_run st.rows) made few m)

turn_made_few : (s : Script) (n : ℕ) (st : State) (p : ℕ) (made : Made) → IsOrderly st → made_by s n st (event.Turn p) ≡ Some made → Few 136 made
unfolding made_by
turn_made_few s n st p made h m = turn_if_few s st (running st.rows p) made h m

-- ---- histories

history_orderly : {s : Script} {n : ℕ} {x : Execution} → History s n x → IsOrderly x.state
history_orderly {x = x} h = let tables : IsCanonicalState x.state = canonical-state h in record { seats = tables.seats; waits = history_waits h; one = history_agrees h }

pub turn_few : (s : Script) (n : ℕ) (x : Execution) → History s n x → (p : ℕ) (made : Made) → made_by s n x.state (event.Turn p) ≡ Some made → length made.lines ≤ 136
turn_few s n x h p made m = turn_made_few s n x.state p made (history_orderly h) m

pub event_few : (s : Script) (n : ℕ) (x : Execution) → History s n x → (e : Event) (made : Made) → made_by s n x.state e ≡ Some made → length made.lines ≤ 1100
event_few s n x h e made m = made_few s n x.state e made (history_orderly h) (few_seats h) m

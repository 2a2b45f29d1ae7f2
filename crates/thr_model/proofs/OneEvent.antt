-- One processor leaves no choice: at most one event is legal in a state.
use Rattle.std.proofs.Common.{◌≡◌, ℕ, Bool, true, false, Option, Some, None, refl, arith, ap}
use Rattle.std.proofs.lemmas.Bool.Decides.{nat_tests}
use Rattle.std.specs.Prelude.{if◌then◌else◌, nat_lt}
use Rattle.std.specs.Option.{option_map}
use Rattle.thr_values.specs.declared.number.Tid.{Tid}
use Rattle.thr_values.specs.declared.event.Event.{Event}
use Rattle.thr_values.specs.declared.event.Event.TheVariants as event
use Rattle.thr_syntax.specs.declared.tree.Script.{Script}
use Rattle.thr_parts.specs.Rows.{Rows}
use Rattle.thr_parts.specs.Dispatch.{running, some_can_run, dispatch}
use Rattle.thr_parts.proofs.RunningLaws.{running_can, taken_could, taken_free}
use Rattle.thr_parts.proofs.KeptLaws.{running_below}
use Rattle.thr_model.specs.States.{State}
use Rattle.thr_model.specs.Turns.{Made, turn_of}
use Rattle.thr_model.specs.Events.{dispatch_made, clock_of, made_by}
use Rattle.thr_model.specs.Histories.{Execution, History}
use Rattle.thr_model.proofs.RowsKept.{history_canonical, history_below}

-- What a legal event tells of the rows.
abbrev Asks : ℕ → Rows → Event → Type 0
Asks n rs (event.Dispatch p) = (nat_lt p n ≡ true) × (running rs p ≡ None) × (some_can_run rs ≡ true)
Asks n rs (event.Turn p) = (t : Tid) × (running rs p ≡ Some t)
Asks n rs event.Clock = some_can_run rs ≡ false

taken_of : (st : State) (p : ℕ) (o : Option Tid) (made : Made) → dispatch_made st p (dispatch st.rows p) o ≡ Some made → (t : Tid) × (o ≡ Some t)
taken_of st p None made e = absurd (cc)
taken_of st p (Some t) made e = (t, refl)

dispatch_asks : (n : ℕ) (st : State) (p : ℕ) (b : Bool) (made : Made) → nat_lt p n ≡ b
    → (if b then dispatch_made st p (dispatch st.rows p) (dispatch st.rows p).taken else None) ≡ Some made → Asks n st.rows (event.Dispatch p)
dispatch_asks n st p true made is e =
    let t : (u : Tid) × ((dispatch st.rows p).taken ≡ Some u) = taken_of st p (dispatch st.rows p).taken made e in (is, taken_free st.rows p t.0 t.1, taken_could st.rows p t.0 t.1)
dispatch_asks n st p false made is e = absurd (cc)

turn_asks : (s : Script) (n : ℕ) (st : State) (p : ℕ) (o : Option Tid) (made : Made) → running st.rows p ≡ o → option_map (turn_of s st) o ≡ Some made → Asks n st.rows (event.Turn p)
turn_asks s n st p None made is e = absurd (cc)
turn_asks s n st p (Some t) made is e = (t, is)

clock_asks : (n : ℕ) (st : State) (b : Bool) (made : Made) → some_can_run st.rows ≡ b → clock_of b st ≡ Some made → Asks n st.rows event.Clock
clock_asks n st true made is e = absurd (cc)
clock_asks n st false made is e = is

made_asks : (s : Script) (n : ℕ) (st : State) (e : Event) (made : Made) → made_by s n st e ≡ Some made → Asks n st.rows e
unfolding made_by
made_asks s n st (event.Dispatch p) made e = dispatch_asks n st p (nat_lt p n) made refl e
made_asks s n st (event.Turn p) made e = turn_asks s n st p (running st.rows p) made refl e
made_asks s n st event.Clock made e = clock_asks n st (some_can_run st.rows) made refl e

-- ---- one processor

one : (p q : ℕ) → nat_lt p 1 ≡ true → nat_lt q 1 ≡ true → p ≡ q
one p q e f = grind (arith, nat_tests)

not_both : (b : Bool) → b ≡ true → b ≡ false → ⊥
not_both true e f = absurd (cc)
not_both false e f = absurd (cc)

busy : (rs : Rows) (p q : ℕ) (t : Tid) → p ≡ q → running rs p ≡ None → running rs q ≡ Some t → ⊥
busy rs p q t same e f = absurd (cc)

one_event : (rs : Rows) (e f : Event) → ((p : ℕ) (t : Tid) → running rs p ≡ Some t → nat_lt p 1 ≡ true) → Asks 1 rs e → Asks 1 rs f → e ≡ f
one_event rs (event.Dispatch p) (event.Dispatch q) below a b = ap event.Dispatch (one p q a.0 b.0)
one_event rs (event.Dispatch p) (event.Turn q) below a b = absurd (busy rs p q b.0 (one p q a.0 (below q b.0 b.1)) a.1 b.1)
one_event rs (event.Dispatch p) event.Clock below a b = absurd (not_both (some_can_run rs) a.2 b)
one_event rs (event.Turn p) (event.Dispatch q) below a b = absurd (busy rs q p a.0 (one q p b.0 (below p a.0 a.1)) b.1 a.1)
one_event rs (event.Turn p) (event.Turn q) below a b = ap event.Turn (one p q (below p a.0 a.1) (below q b.0 b.1))
one_event rs (event.Turn p) event.Clock below a b = absurd (not_both (some_can_run rs) (running_can rs p a.0 a.1) b)
one_event rs event.Clock (event.Dispatch q) below a b = absurd (not_both (some_can_run rs) b.2 a)
one_event rs event.Clock (event.Turn q) below a b = absurd (not_both (some_can_run rs) (running_can rs q b.0 b.1) a)
one_event rs event.Clock event.Clock below a b = refl

-- A history of one processor has one event that is legal after it, at most.
pub one-event : {s : Script} {x : Execution} → History s 1 x → (e f : Event) (a b : Made) → made_by s 1 x.state e ≡ Some a → made_by s 1 x.state f ≡ Some b → e ≡ f
one-event {s} {x} h e f a b m o =
    one_event x.state.rows e f (λ p t r. running_below 1 x.state.rows p t (history_canonical h) (history_below h) r) (made_asks s 1 x.state e a m) (made_asks s 1 x.state f b o)

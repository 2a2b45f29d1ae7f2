-- In every history no two threads have their seats on one processor.
use Rattle.std.proofs.Common.{◌≡◌, ℕ, ◌<◌, Bool, true, false, nat_lt, Option, Some, None, refl, ap, subst, arith}
use Rattle.std.proofs.lemmas.Bool.Decides.{nat_tests}
use Rattle.std.specs.Prelude.{if◌then◌else◌, is_none}
use Rattle.std.specs.Option.{unwrap_or}
use Rattle.thr_values.specs.declared.number.Tid.{Tid}
use Rattle.thr_values.specs.declared.event.Event.{Event}
use Rattle.thr_values.specs.declared.event.Event.TheVariants as event
use Rattle.thr_syntax.specs.declared.tree.Script.{Script}
use Rattle.thr_parts.specs.declared.row.RowId.TheVariants as row
use Rattle.thr_parts.specs.declared.row.Place.TheVariants.{Runs}
use Rattle.thr_parts.specs.declared.row.Seat.{Seat}
use Rattle.thr_parts.specs.Tables.{Table, none, IsCanonical}
use Rattle.thr_parts.specs.Rows.{Rows, seat_of, best_of, standing}
use Rattle.thr_parts.specs.Dispatch.{whole_slice, runs_on, running, with_processor, dispatch}
use Rattle.thr_parts.proofs.KeptLaws.{running_below}
use Rattle.thr_model.specs.States.{State}
use Rattle.thr_model.specs.Turns.{Made}
use Rattle.thr_model.specs.Events.{dispatch_made, made_by}
use Rattle.thr_model.specs.Histories.{Execution, History, opened, then_event}
use Rattle.thr_model.proofs.ArrivalsKept.{IsKeptWithArrivals, with_arrivals}
use Rattle.thr_model.proofs.RowsKept.{made_keeps, history_canonical, history_below}
use Rattle.thr_processors.proofs.Alone.{AreAlone, none_alone, put_alone, alone_is_kept, nobody, runs_there}

abbrev SeatsAlone : ℕ → Table Seat → Type 0
SeatsAlone n m = AreAlone m

seats_alone : IsKeptWithArrivals SeatsAlone
seats_alone = with_arrivals AreAlone alone_is_kept

-- ---- dispatch

same_processor : (p q slice : ℕ) → runs_on q (Runs p slice) ≡ true → q ≡ p
same_processor p q slice e = grind (arith, nat_tests)

-- A processor without a thread takes one.
takes_alone : (rs : Rows) (p : ℕ) → IsCanonical rs.seats → running rs p ≡ None → (o : Option (ℕ × Seat)) → AreAlone rs.seats → AreAlone (with_processor o rs.seats p)
takes_alone rs p c free None h = h
takes_alone rs p c free (Some e) h =
    put_alone rs.seats e.0 (record { rank = e.1.rank; place = Runs p whole_slice })
    (λ q u b at on there. absurd (nobody rs p u b c free at (subst (λ (r : ℕ). runs_on r b.place ≡ true) (same_processor p q whole_slice on) there))) h

dispatch_by : (rs : Rows) (p : ℕ) → IsCanonical rs.seats → (o : Option Tid) → running rs p ≡ o → AreAlone rs.seats
    → AreAlone (with_processor (if is_none o then best_of (standing rs row.Ready) else None) rs.seats p)
dispatch_by rs p c None is h = takes_alone rs p c is (best_of (standing rs row.Ready)) h
dispatch_by rs p c (Some t) is h = h

dispatch_alone : (rs : Rows) (p : ℕ) → IsCanonical rs.seats → AreAlone rs.seats → AreAlone (dispatch rs p).rows.seats
dispatch_alone rs p c h = dispatch_by rs p c (running rs p) refl h

dispatch_has : (st : State) (p : ℕ) (o : Option Tid) (made : Made) → AreAlone (dispatch st.rows p).rows.seats → dispatch_made st p (dispatch st.rows p) o ≡ Some made → AreAlone made.state.rows.seats
dispatch_has st p None made h e = absurd (cc)
dispatch_has st p (Some t) made h e = subst (λ (m : Made). AreAlone m.state.rows.seats) (ap (λ o. unwrap_or o made) e) h

dispatch_if : (st : State) (p : ℕ) (b : Bool) (made : Made) → AreAlone (dispatch st.rows p).rows.seats
    → (if b then dispatch_made st p (dispatch st.rows p) (dispatch st.rows p).taken else None) ≡ Some made → AreAlone made.state.rows.seats
dispatch_if st p true made h e = dispatch_has st p (dispatch st.rows p).taken made h e
dispatch_if st p false made h e = absurd (cc)

-- ---- events

below_none : (p : ℕ) → nat_lt p 0 ≡ true → ⊥
below_none p e = let less : p < 0 = grind (arith, nat_tests) in omega arith

-- Where no processor is there a turn and a move of the clock are the same.
other_keeps : (s : Script) (st : State) (e : Event) (made : Made) → AreAlone st.rows.seats → made_by s 0 st e ≡ Some made → AreAlone made.state.rows.seats
other_keeps s st e made h is = made_keeps SeatsAlone seats_alone s 0 (λ p low. absurd (below_none p low)) st e made h is

event_alone : (s : Script) (n : ℕ) (st : State) (e : Event) (made : Made) → IsCanonical st.rows.seats → AreAlone st.rows.seats → made_by s n st e ≡ Some made → AreAlone made.state.rows.seats
unfolding made_by
event_alone s n st (event.Dispatch p) made c h is = dispatch_if st p (nat_lt p n) made (dispatch_alone st.rows p c h) is
event_alone s n st (event.Turn p) made c h is = other_keeps s st (event.Turn p) made h is
event_alone s n st event.Clock made c h is = other_keeps s st event.Clock made h is

history_alone : {s : Script} {n : ℕ} {x : Execution} → History s n x → AreAlone x.state.rows.seats
history_alone opened = seats_alone.stands 0 none 1 _ row.Ready none_alone
history_alone {s} {n} (then_event {x} h open_ e made is) = event_alone s n x.state e made (history_canonical h) (history_alone h) is

is_below : (p n : ℕ) → nat_lt p n ≡ true → p < n
is_below p n e = grind (arith, nat_tests)

pub one_thread : (s : Script) (n : ℕ) (x : Execution) → History s n x → (p : ℕ) (t : Tid) (seat : Seat) → seat_of x.state.rows t ≡ Some seat → runs_on p seat.place ≡ true → (running x.state.rows p ≡ Some t) × (p < n)
one_thread s n x h p t seat at on =
    let c : IsCanonical x.state.rows.seats = history_canonical h in
    let runs : running x.state.rows p ≡ Some t = runs_there x.state.rows p t seat c (history_alone h) at on in
    (runs, is_below p n (running_below n x.state.rows p t c (history_below h) runs))

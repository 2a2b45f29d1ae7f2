-- Dispatches.
use Rattle.std.proofs.Common.{◌≡◌, ℕ, ◌+◌, ◌<◌, ◌≤◌, List, [], ◌∷◌, refl, sym, ◌∙◌, ap, subst, None, Some, Bool, true, false, cond, eqb, arith}
use Rattle.std.specs.Prelude.{Option, IsSome, is_some, is_none, nat_lt, if◌then◌else◌, ◌||◌}
use Rattle.std.specs.List.{filter, list_any}
use Rattle.std.specs.Option.{option_map}
use Rattle.std.proofs.lemmas.Bool.Decides.{nat_tests}
use Rattle.thr_values.specs.declared.event.Event.TheVariants as event
use Rattle.thr_values.specs.declared.number.Tid.{Tid}
use Rattle.thr_syntax.specs.declared.tree.Script.{Script}
use Rattle.thr_parts.specs.declared.row.RowId.TheVariants as row
use Rattle.thr_parts.specs.declared.row.Place.{Place}
use Rattle.thr_parts.specs.declared.row.Place.TheVariants.{Runs, Stands}
use Rattle.thr_parts.specs.declared.row.Seat.{Seat}
use Rattle.thr_parts.specs.Tables.{Table, get, put, IsCanonical}
use Rattle.thr_parts.specs.Rows.{Rows, Seated, thread, best, best_of, standing, number_in}
use Rattle.thr_parts.specs.Dispatch.{runs_on, first, running, dispatch, next_for, with_processor, whole_slice}
use Rattle.thr_parts.proofs.TableLaws.{get_put, canonical_put}
use Rattle.thr_parts.proofs.EntryLaws.{pass, pass_some, get_filter, get_empty}
use Rattle.thr_parts.proofs.RunningLaws.{HasProcessor, running_seat, taken_free}
use Rattle.thr_model.specs.States.{State}
use Rattle.thr_model.specs.Turns.{Made}
use Rattle.thr_model.specs.Events.{made_by, run_line, dispatch_made, dispatch_of}
use Rattle.thr_machine.proofs.Tables.{get-here}

-- ---- what is made

in-range : (p n : ℕ) → p < n → nat_lt p n ≡ true
in-range p n h = grind (arith, nat_tests)

out-of-range : (p n : ℕ) → n ≤ p → nat_lt p n ≡ false
out-of-range p n h = grind (arith, nat_tests)

pub dispatch-taken : (s : Script) (n p : ℕ) (st new : State) (t : Tid) → p < n → Some t ≡ (dispatch st.rows p).taken → (let st' : State = record st { rows = (dispatch st.rows p).rows } in st') ≡ new
    → made_by s n st (event.Dispatch p) ≡ Some (record { state = new; lines = run_line p t ∷ [] })
unfolding made_by
dispatch-taken s n p st new t less taken is =
    ap (λ (b : Bool). if b then dispatch_of st p else None) (in-range p n less)
    ∙ ap (dispatch_made st p (dispatch st.rows p)) (sym taken)
    ∙ ap (λ (x : State). let o : Option Made = Some (record { state = x; lines = run_line p t ∷ [] }) in o) is

pub dispatch-outside : (s : Script) (n p : ℕ) (st : State) → n ≤ p → made_by s n st (event.Dispatch p) ≡ None
unfolding made_by
dispatch-outside s n p st past = ap (λ (b : Bool). if b then dispatch_of st p else None) (out-of-range p n past)

pub dispatch-not : (s : Script) (n p : ℕ) (st : State) → p < n → None ≡ (dispatch st.rows p).taken → made_by s n st (event.Dispatch p) ≡ None
unfolding made_by
dispatch-not s n p st less none = ap (λ (b : Bool). if b then dispatch_of st p else None) (in-range p n less) ∙ ap (dispatch_made st p (dispatch st.rows p)) (sym none)

-- ---- who is taken

taken-best : (o : Option Tid) (rs : Rows) → o ≡ None → number_in (if is_none o then best_of (standing rs row.Ready) else None) ≡ best rs row.Ready
taken-best o rs e = rw e refl

-- A processor without a thread takes one where one is ready.
pub takes-best : (rs : Rows) (p : ℕ) → running rs p ≡ None → (dispatch rs p).taken ≡ best rs row.Ready
takes-best rs p e = taken-best (running rs p) rs e

-- ---- who runs then

abbrev is-on : ℕ → ℕ × Seat → Bool
is-on p e = runs_on p e.1.place

none-first : (es : Seated) → number_in (first es) ≡ None → es ≡ []
none-first [] e = refl
none-first (x ∷ xs) e = absurd (cc)

passes : (p q : ℕ) (s : Seat) → runs_on p s.place ≡ true → pass (is-on p) q (Some s) ≡ Some s
passes p q s h = pass_some (is-on p) q s ∙ ap (λ (b : Bool). cond b (Some s) None) h

-- Where a processor has no thread, no seat is on it.
pub nobody-runs : (rs : Rows) (p q : ℕ) (s : Seat) → IsCanonical rs.seats → running rs p ≡ None → get rs.seats q ≡ Some s → runs_on p s.place ≡ true → ⊥
unfolding running
nobody-runs rs p q s rises none at runs =
    let gone : filter (is-on p) rs.seats ≡ [] = none-first (filter (is-on p) rs.seats) none in
    let there : get (filter (is-on p) rs.seats) q ≡ Some s = get_filter (is-on p) q rs.seats rises ∙ ap (pass (is-on p) q) at ∙ passes p q s runs in
    absurd (cc (sym there ∙ ap (λ (es : Table Seat). get es q) gone ∙ get_empty q))

runs-some : (o : Option Tid) → (o ≡ None → ⊥) → (t : Tid) × (o ≡ Some t)
runs-some None h = absurd (h refl)
runs-some (Some t) h = (t, refl)

same-p : (p : ℕ) → eqb p p ≡ true
same-p p = grind (arith, nat_tests)

same-number : (k q : ℕ) → eqb k q ≡ true → k ≡ q
same-number k q e = grind (arith, nat_tests)

-- the one who runs is the one that was put there
who-runs : (rs : Rows) (p t u : ℕ) (s x : Seat) (b : Bool) → IsCanonical rs.seats → running rs p ≡ None → eqb t u ≡ b → cond b (Some s) (get rs.seats u) ≡ Some x → runs_on p x.place ≡ true → t ≡ u
who-runs rs p t u s x true rises none is at runs = same-number t u is
who-runs rs p t u s x false rises none is at runs = absurd (nobody-runs rs p u x rises none at runs)

pub put-runs : (rs : Rows) (p t rank : ℕ) (arrival : ℕ) → IsCanonical rs.seats → running rs p ≡ None
    → running (record { seats = put rs.seats t (record { rank = rank; place = Runs p whole_slice }); next_arrival = arrival }) p ≡ Some (thread t)
put-runs rs p t rank arrival rises none =
    let seat : Seat = record { rank = rank; place = Runs p whole_slice } in
    let new : Rows = record { seats = put rs.seats t seat; next_arrival = arrival } in
    let rises' : IsCanonical new.seats = canonical_put rs.seats t seat rises in
    let some : (u : Tid) × (running new p ≡ Some u) = runs-some (running new p) (λ e. nobody-runs new p t seat rises' e (get-here rs.seats t seat) (same-p p)) in
    let x : (y : Seat) × HasProcessor new p some.0.0 y = running_seat new p some.0 rises' some.1 in
    some.1 ∙ ap (λ (k : ℕ). Some (thread k)) (sym (who-runs rs p t some.0.0 seat x.0 (eqb t some.0.0) rises none refl (sym (get_put rs.seats t some.0.0 seat) ∙ x.1.at) x.1.runs))

taken-runs : (rs : Rows) (p : ℕ) (t : Tid) (o : Option (ℕ × Seat)) → IsCanonical rs.seats → running rs p ≡ None → number_in o ≡ Some t
    → running (record { seats = with_processor o rs.seats p; next_arrival = rs.next_arrival }) p ≡ Some t
taken-runs rs p t None rises none e = absurd (cc)
taken-runs rs p t (Some x) rises none e = put-runs rs p x.0 x.1.rank rs.next_arrival rises none ∙ e

-- The thread that a processor takes runs on it.
pub dispatched-runs : (rs : Rows) (p : ℕ) (t : Tid) → IsCanonical rs.seats → (dispatch rs p).taken ≡ Some t → running (dispatch rs p).rows p ≡ Some t
dispatched-runs rs p t rises taken = taken-runs rs p t (next_for rs p) rises (taken_free rs p t taken) taken

-- The threads of processors: each runs on one, and where one runs or is ready some thread can run.
use Rattle.std.proofs.Common.{◌≡◌, ℕ, Bool, true, false, ◌||◌, cond, [], ◌∷◌, Option, Some, None, refl, sym, arith, ◌∙◌, ap, subst}
use Rattle.std.proofs.lemmas.Bool.Decides.{nat_tests}
use Rattle.std.specs.List.{filter, list_any}
use Rattle.std.specs.Option.{unwrap_or}
use Rattle.std.specs.Prelude.{is_none}
use Rattle.thr_values.specs.declared.number.Tid.{Tid}
use Rattle.thr_parts.specs.declared.row.RowId.TheVariants as row
use Rattle.thr_parts.specs.declared.row.Place.{Place}
use Rattle.thr_parts.specs.declared.row.Place.TheVariants.{Runs, Stands}
use Rattle.thr_parts.specs.declared.row.Seat.{Seat}
use Rattle.thr_parts.specs.Tables.{get, IsCanonical}
use Rattle.thr_parts.specs.Rows.{Rows, Seated, thread, place_in, best_of, standing, number_in}
use Rattle.thr_parts.specs.Dispatch.{runs_on, first, running, can_run, some_can_run, dispatch}
use Rattle.thr_parts.proofs.EntryLaws.{pass, get_filter, get_first}
use Rattle.thr_parts.proofs.BestLaws.{best_empty}

-- The thread is that of the first entry.
first_entry : (es : Seated) (t : Tid) → number_in (first es) ≡ Some t → (e : ℕ × Seat) × (get es e.0 ≡ Some e.1) × (thread e.0 ≡ t)
first_entry [] t h = absurd (cc)
first_entry (e ∷ es) t h = (e, get_first e es, ap (λ o. unwrap_or o (thread e.0)) h)

abbrev is_on : ℕ → ℕ × Seat → Bool
is_on p e = runs_on p e.1.place

passed : (p q : ℕ) (s v : Seat) (b : Bool) → is_on p (q, v) ≡ b → cond b (Some v) None ≡ Some s → (Some v ≡ Some s) × (runs_on p s.place ≡ true)
passed p q s v true is e = (e, ap (λ (x : Seat). runs_on p x.place) (sym (ap (λ o. unwrap_or o v) e)) ∙ is)
passed p q s v false is e = absurd (cc)

-- The thread of this number has this seat on the processor.
pub record HasProcessor (rs : Rows) (p t : ℕ) (s : Seat) : Type 0 where
  pub at : get rs.seats t ≡ Some s
  pub runs : runs_on p s.place ≡ true

seat_from : (rs : Rows) (p q : ℕ) (s : Seat) (o : Option Seat) → get rs.seats q ≡ o → pass (is_on p) q o ≡ Some s → HasProcessor rs p q s
unfolding pass
seat_from rs p q s None at e = absurd (cc)
seat_from rs p q s (Some v) at e =
    let x : (Some v ≡ Some s) × (runs_on p s.place ≡ true) = passed p q s v (is_on p (q, v)) refl e in record { at = at ∙ x.0; runs = x.1 }

-- The thread of a processor has its seat there.
pub running_seat : (rs : Rows) (p : ℕ) (t : Tid) → IsCanonical rs.seats → running rs p ≡ Some t → (s : Seat) × HasProcessor rs p t.0 s
unfolding running
running_seat rs p t h e =
    let x : (y : ℕ × Seat) × (get (filter (is_on p) rs.seats) y.0 ≡ Some y.1) × (thread y.0 ≡ t) = first_entry (filter (is_on p) rs.seats) t e in (
      x.0.1,
      subst (λ (u : Tid). HasProcessor rs p u.0 x.0.1) x.2
          (seat_from rs p x.0.0 x.0.1 (get rs.seats x.0.0) refl (sym (get_filter (is_on p) x.0.0 rs.seats h) ∙ x.1)),
    )

one_place : (p q : ℕ) (l : Place) → runs_on p l ≡ true → runs_on q l ≡ true → p ≡ q
one_place p q (Runs r slice) e f = grind (arith, nat_tests)
one_place p q (Stands r arrival) e f = absurd (cc)

-- A thread runs on one processor at most.
pub one_processor : (rs : Rows) (p q : ℕ) (t : Tid) → IsCanonical rs.seats → running rs p ≡ Some t → running rs q ≡ Some t → p ≡ q
one_processor rs p q t h e f =
    let x : (s : Seat) × HasProcessor rs p t.0 s = running_seat rs p t h e in
    let y : (s : Seat) × HasProcessor rs q t.0 s = running_seat rs q t h f in
    one_place p q x.0.place x.1.runs (ap (λ o. runs_on q (unwrap_or o y.0).place) (sym x.1.at ∙ y.1.at) ∙ y.1.runs)

-- ---- who can run

either : (a b : Bool) → b ≡ true → (a || b) ≡ true
either true b e = refl
either false b e = e

first_of_two : (a b : Bool) → a ≡ true → (a || b) ≡ true
first_of_two true b e = refl
first_of_two false b e = absurd (cc)

abbrev can : ℕ × Seat → Bool
can e = can_run e.1.place

some_head : (p : ℕ × Seat → Bool) (e : ℕ × Seat) (es : Seated) (x : ℕ × Seat) (b : Bool) → p e ≡ b → (p e ≡ true → can e ≡ true)
    → (first (filter p es) ≡ Some x → list_any can es ≡ true) → first (cond b (e ∷ filter p es) (filter p es)) ≡ Some x → (can e || list_any can es) ≡ true
some_head p e es x true is fits rest h = first_of_two (can e) (list_any can es) (fits is)
some_head p e es x false is fits rest h = either (can e) (list_any can es) (rest h)

some_of : (p : ℕ × Seat → Bool) → ((e : ℕ × Seat) → p e ≡ true → can e ≡ true) → (es : Seated) (x : ℕ × Seat) → first (filter p es) ≡ Some x → list_any can es ≡ true
some_of p fits [] x h = absurd (cc)
some_of p fits (e ∷ es) x h = some_head p e es x (p e) refl (fits e) (some_of p fits es x) h

runs_can : (p : ℕ) (l : Place) → runs_on p l ≡ true → can_run l ≡ true
runs_can p (Runs q slice) e = refl
runs_can p (Stands r arrival) e = absurd (cc)

number_of : (o : Option (ℕ × Seat)) (t : Tid) → number_in o ≡ Some t → (x : ℕ × Seat) × (o ≡ Some x)
number_of None t e = absurd (cc)
number_of (Some x) t e = (x, refl)

-- Where a processor has a thread some thread can run.
pub running_can : (rs : Rows) (p : ℕ) (t : Tid) → running rs p ≡ Some t → some_can_run rs ≡ true
unfolding running
running_can rs p t e =
    let x : (y : ℕ × Seat) × (first (filter (is_on p) rs.seats) ≡ Some y) = number_of (first (filter (is_on p) rs.seats)) t e in
    some_of (is_on p) (λ f h. runs_can p f.1.place h) rs.seats x.0 x.1

ready_can : (l : Place) → place_in row.Ready l ≡ true → can_run l ≡ true
ready_can (Runs q slice) e = refl
ready_can (Stands row.Ready arrival) e = refl
ready_can (Stands _ arrival) e = absurd (cc)

first_where_best : (es : Seated) (x : ℕ × Seat) → best_of es ≡ Some x → (y : ℕ × Seat) × (first es ≡ Some y)
first_where_best [] x e = absurd (cc best_empty)
first_where_best (y ∷ es) x e = (y, refl)

best_can : (rs : Rows) (x : ℕ × Seat) → best_of (standing rs row.Ready) ≡ Some x → some_can_run rs ≡ true
unfolding standing
best_can rs x e =
    let y : (z : ℕ × Seat) × (first (filter (λ (f : ℕ × Seat). place_in row.Ready f.1.place) rs.seats) ≡ Some z) = first_where_best (standing rs row.Ready) x e in
    some_of (λ (f : ℕ × Seat). place_in row.Ready f.1.place) (λ f h. ready_can f.1.place h) rs.seats y.0 y.1

could_by : (rs : Rows) (t : Tid) (b : Bool) → number_in (cond b (best_of (standing rs row.Ready)) None) ≡ Some t → some_can_run rs ≡ true
could_by rs t true e =
    let x : (y : ℕ × Seat) × (best_of (standing rs row.Ready) ≡ Some y) = number_of (best_of (standing rs row.Ready)) t e in best_can rs x.0 x.1
could_by rs t false e = absurd (cc)

-- Where a processor takes a thread some thread can run.
pub taken_could : (rs : Rows) (p : ℕ) (t : Tid) → (dispatch rs p).taken ≡ Some t → some_can_run rs ≡ true
taken_could rs p t e = could_by rs t (is_none (running rs p)) e

free_by : (o : Option Tid) (x : Option (ℕ × Seat)) (t : Tid) → number_in (cond (is_none o) x None) ≡ Some t → o ≡ None
free_by None x t e = refl
free_by (Some u) x t e = absurd (cc)

-- And that processor has none.
pub taken_free : (rs : Rows) (p : ℕ) (t : Tid) → (dispatch rs p).taken ≡ Some t → running rs p ≡ None
taken_free rs p t e = free_by (running rs p) (best_of (standing rs row.Ready)) t e

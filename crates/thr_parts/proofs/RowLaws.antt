-- Rows: who stands in one, who is its best, and what changes in it.
use Rattle.std.proofs.Common.{◌≡◌, ℕ, Bool, true, false, cond, eqb, Option, Some, None, refl, sym, arith, ◌∙◌, ap, subst}
use Rattle.std.proofs.lemmas.Bool.Decides.{nat_tests}
use Rattle.std.specs.List.{filter}
use Rattle.std.specs.Option.{unwrap_or}
use Rattle.thr_values.specs.declared.number.Tid.{Tid}
use Rattle.thr_values.specs.declared.number.NameId.{NameId}
use Rattle.thr_parts.specs.declared.row.RowId.{RowId}
use Rattle.thr_parts.specs.declared.row.RowId.TheVariants as row
use Rattle.thr_parts.specs.declared.row.Place.{Place}
use Rattle.thr_parts.specs.declared.row.Place.TheVariants.{Runs, Stands}
use Rattle.thr_parts.specs.declared.row.Seat.{Seat}
use Rattle.thr_parts.specs.Tables.{get, IsCanonical}
use Rattle.thr_parts.specs.Rows.{Rows, thread, seat_of, is_same_row, place_in, row_in, row_at, row_of, is_seat_before, before, best_of, standing, number_in, best}
use Rattle.thr_parts.proofs.EntryLaws.{itself, pass, pass_some, canonical_filter, get_filter}
use Rattle.thr_parts.proofs.BestLaws.{found, none_before, nobody}

-- ---- rows are told apart

same_number : (x y : ℕ) → eqb x y ≡ true → x ≡ y
same_number x y e = grind (arith, nat_tests)

same_name : (a b : NameId) → eqb a.0 b.0 ≡ true → a ≡ b
same_name a b e = ap (λ (n : ℕ). let m : NameId = record { 0 = n } in m) (same_number a.0 b.0 e)

same_thread : (a b : Tid) → eqb a.0 b.0 ≡ true → a ≡ b
same_thread a b e = ap thread (same_number a.0 b.0 e)

pub same_row : (a b : RowId) → is_same_row a b ≡ true → a ≡ b
same_row row.Ready row.Ready e = refl
same_row (row.Mutex a) (row.Mutex b) e = ap row.Mutex (same_name a b e)
same_row row.Global row.Global e = refl
same_row (row.Cond a) (row.Cond b) e = ap row.Cond (same_name a b e)
same_row (row.Join a) (row.Join b) e = ap row.Join (same_thread a b e)
same_row (row.Once a) (row.Once b) e = ap row.Once (same_name a b e)
same_row (row.Reader a) (row.Reader b) e = ap row.Reader (same_name a b e)
same_row (row.Writer a) (row.Writer b) e = ap row.Writer (same_name a b e)
same_row row.Time row.Time e = refl
same_row _ _ e = absurd (cc)

pub row_itself : (a : RowId) → is_same_row a a ≡ true
row_itself row.Ready = refl
row_itself (row.Mutex a) = itself a.0
row_itself row.Global = refl
row_itself (row.Cond a) = itself a.0
row_itself (row.Join a) = itself a.0
row_itself (row.Once a) = itself a.0
row_itself (row.Reader a) = itself a.0
row_itself (row.Writer a) = itself a.0
row_itself row.Time = refl

same_some : {A : Type 0} (x y : A) → Some x ≡ Some y → x ≡ y
same_some x y e = ap (λ o. unwrap_or o x) e

row_placed : (r : RowId) (p : Place) → row_in p ≡ Some r → place_in r p ≡ true
row_placed r (Runs p slice) e = absurd (cc)
row_placed r (Stands s arrival) e = ap (is_same_row r) (same_some s r e) ∙ row_itself r

placed_row : (r : RowId) (p : Place) → place_in r p ≡ true → row_in p ≡ Some r
placed_row r (Runs p slice) e = absurd (cc)
placed_row r (Stands s arrival) e = ap Some (sym (same_row r s e))

-- ---- who stands in a row

abbrev pub is_in : RowId → ℕ × Seat → Bool
is_in r e = place_in r e.1.place

pub standing_is : (rs : Rows) (r : RowId) → standing rs r ≡ filter (is_in r) rs.seats
unfolding standing
standing_is rs r = refl

pub canonical_standing : (rs : Rows) (r : RowId) → IsCanonical rs.seats → IsCanonical (standing rs r)
unfolding standing
canonical_standing rs r h = canonical_filter (is_in r) rs.seats h

get_standing : (rs : Rows) (r : RowId) (q : ℕ) → IsCanonical rs.seats → get (standing rs r) q ≡ pass (is_in r) q (get rs.seats q)
unfolding standing
get_standing rs r q h = get_filter (is_in r) q rs.seats h

-- The thread of this number stands in the row, with this seat.
pub record HasSeat (rs : Rows) (t : ℕ) (r : RowId) (s : Seat) : Type 0 where
  pub at : get rs.seats t ≡ Some s
  pub placed : place_in r s.place ≡ true

seat_in : (rs : Rows) (t : ℕ) (r : RowId) (o : Option Seat) → get rs.seats t ≡ o → row_at o ≡ Some r → (s : Seat) × HasSeat rs t r s
seat_in rs t r None at e = absurd (cc)
seat_in rs t r (Some s) at e = (s, record { at = at; placed = row_placed r s.place e })

pub seat_of_row : (rs : Rows) (t : Tid) (r : RowId) → row_of rs t ≡ Some r → (s : Seat) × HasSeat rs t.0 r s
seat_of_row rs t r e = seat_in rs t.0 r (get rs.seats t.0) refl e

pub row_of_seat : (rs : Rows) (t : Tid) (r : RowId) (s : Seat) → HasSeat rs t.0 r s → row_of rs t ≡ Some r
row_of_seat rs t r s h = ap row_at h.at ∙ placed_row r s.place h.placed

pub stands : (rs : Rows) (q : ℕ) (r : RowId) (s : Seat) → HasSeat rs q r s → IsCanonical rs.seats → get (standing rs r) q ≡ Some s
stands rs q r s h sorted = get_standing rs r q sorted ∙ ap (pass (is_in r) q) h.at ∙ pass_some (is_in r) q s ∙ ap (λ b. cond b (Some s) None) h.placed

passed : (r : RowId) (q : ℕ) (s v : Seat) (b : Bool) → is_in r (q, v) ≡ b → cond b (Some v) None ≡ Some s → (Some v ≡ Some s) × (place_in r s.place ≡ true)
passed r q s v true is e = (e, ap (λ (x : Seat). place_in r x.place) (sym (same_some v s e)) ∙ is)
passed r q s v false is e = absurd (cc)

seat_from : (rs : Rows) (r : RowId) (q : ℕ) (s : Seat) (o : Option Seat) → get rs.seats q ≡ o → pass (is_in r) q o ≡ Some s → HasSeat rs q r s
unfolding pass
seat_from rs r q s None at e = absurd (cc)
seat_from rs r q s (Some v) at e =
    let p : (Some v ≡ Some s) × (place_in r s.place ≡ true) = passed r q s v (is_in r (q, v)) refl e in record { at = at ∙ p.0; placed = p.1 }

pub has_seat : (rs : Rows) (r : RowId) (q : ℕ) (s : Seat) → IsCanonical rs.seats → get (standing rs r) q ≡ Some s → HasSeat rs q r s
has_seat rs r q s h e = seat_from rs r q s (get rs.seats q) refl (sym (get_standing rs r q h) ∙ e)

-- ---- the best

-- The thread is that of the best entry.
pub record IsBest (rs : Rows) (r : RowId) (w : Tid) (e : ℕ × Seat) : Type 0 where
  pub best : best_of (standing rs r) ≡ Some e
  pub same : thread e.0 ≡ w

entry_of : (rs : Rows) (r : RowId) (w : Tid) (o : Option (ℕ × Seat)) → best_of (standing rs r) ≡ o → number_in o ≡ Some w → (e : ℕ × Seat) × IsBest rs r w e
entry_of rs r w None is e = absurd (cc)
entry_of rs r w (Some x) is e = (x, record { best = is; same = same_some (thread x.0) w e })

pub is_best : (rs : Rows) (r : RowId) (w : Tid) → best rs r ≡ Some w → (e : ℕ × Seat) × IsBest rs r w e
is_best rs r w e = entry_of rs r w (best_of (standing rs r)) refl e

pub seat_of_best : (rs : Rows) (r : RowId) (w : Tid) (e : ℕ × Seat) → IsCanonical rs.seats → IsBest rs r w e → HasSeat rs w.0 r e.1
seat_of_best rs r w e h b =
    subst (λ (x : Tid). HasSeat rs x.0 r e.1) b.same (has_seat rs r e.0 e.1 h (found (standing rs r) e (canonical_standing rs r h) b.best))

-- The best thread of a row stands in it.
pub best_stands : (rs : Rows) (r : RowId) (w : Tid) → IsCanonical rs.seats → best rs r ≡ Some w → row_of rs w ≡ Some r
best_stands rs r w h e =
    let b : (x : ℕ × Seat) × IsBest rs r w x = is_best rs r w e in
    row_of_seat rs w r b.0.1 (seat_of_best rs r w b.0 h b.1)

-- No thread of the row comes before it.
pub none_comes_before : (rs : Rows) (r : RowId) (w t : Tid) → IsCanonical rs.seats → best rs r ≡ Some w → row_of rs t ≡ Some r → before rs t w ≡ false
none_comes_before rs r w t h e at =
    let b : (x : ℕ × Seat) × IsBest rs r w x = is_best rs r w e in
    let s : (x : Seat) × HasSeat rs t.0 r x = seat_of_row rs t r at in
    ap (λ o. is_seat_before o (seat_of rs w)) s.1.at ∙ ap (is_seat_before (Some s.0)) (seat_of_best rs r w b.0 h b.1).at
    ∙ none_before (standing rs r) b.0 t.0 s.0 b.1.best (stands rs t.0 r s.0 s.1 h)

pub no_number : (o : Option (ℕ × Seat)) → number_in o ≡ None → o ≡ None
no_number None e = refl
no_number (Some x) e = absurd (cc)

never : {A : Type 0} (x : A) → Some x ≡ None → ⊥
never x e = absurd (cc)

-- Where a row has no best thread nobody stands in it.
pub nobody_stands : (rs : Rows) (r : RowId) (t : Tid) → IsCanonical rs.seats → best rs r ≡ None → row_of rs t ≡ Some r → ⊥
nobody_stands rs r t h e at =
    let s : (x : Seat) × HasSeat rs t.0 r x = seat_of_row rs t r at in
    never s.0 (sym (stands rs t.0 r s.0 s.1 h) ∙ nobody (standing rs r) t.0 (no_number _ e))

nothing_best : (rs : Rows) (r : RowId) (o : Option Tid) → best rs r ≡ o → ((w : Tid) → o ≡ Some w → ⊥) → o ≡ None
nothing_best rs r None e h = refl
nothing_best rs r (Some w) e h = absurd (h w refl)

-- And where nobody stands in it, it has none.
pub no_best : (rs : Rows) (r : RowId) → IsCanonical rs.seats → ((t : Tid) → row_of rs t ≡ Some r → ⊥) → best rs r ≡ None
no_best rs r h alone = nothing_best rs r (best rs r) refl (λ w e. alone w (best_stands rs r w h e))

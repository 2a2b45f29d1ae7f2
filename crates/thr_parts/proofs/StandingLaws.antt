-- Who stands in a row, and what the best ready thread tells of the others.
use Rattle.std.proofs.Common.{◌≡◌, ◌↔◌, ℕ, Bool, true, false, ◌||◌, ◌==◌, nat_lt, cond, eqb, [], ◌∷◌, Option, Some, None, refl, sym, ◌∙◌, ap, arith}
use Rattle.std.proofs.lemmas.Bool.Decides.{nat_tests}
use Rattle.std.specs.List.{list_any}
use Rattle.std.specs.Option.{is_some, unwrap_or}
use Rattle.thr_values.specs.declared.number.Tid.{Tid}
use Rattle.thr_parts.specs.declared.row.RowId.{RowId}
use Rattle.thr_parts.specs.declared.row.RowId.TheVariants as row
use Rattle.thr_parts.specs.declared.row.Seat.{Seat}
use Rattle.thr_parts.specs.Tables.{get, IsCanonical}
use Rattle.thr_parts.specs.Rows.{Rows, Seated, seat_of, row_of, is_before, better, best_of, placed, in_order, standing, numbers_of, best, best_first, is_among}
use Rattle.thr_parts.specs.Dispatch.{is_outranked, is_matched, outranks, matches_rank}
use Rattle.thr_parts.proofs.EntryLaws.{get_cons, get_empty}
use Rattle.thr_parts.proofs.RowLaws.{HasSeat, has_seat, seat_of_row, row_of_seat, stands, IsBest, is_best, seat_of_best, no_number}

-- ---- the order leaves nobody out

either_first : (a b c : Bool) → (a || (b || c)) ≡ (b || (a || c))
either_first true true c = refl
either_first true false c = refl
either_first false true c = refl
either_first false false c = refl

placed_cons : (e f : ℕ × Seat) (fs : Seated) → placed e (f ∷ fs) ≡ cond (is_before e.1 f.1) (e ∷ f ∷ fs) (f ∷ placed e fs)
unfolding placed
placed_cons e f fs = refl

placed_empty : (e : ℕ × Seat) → placed e [] ≡ e ∷ []
unfolding placed
placed_empty e = refl

any_chosen : (p : ℕ × Seat → Bool) (e f : ℕ × Seat) (fs : Seated) (b : Bool) → list_any p (placed e fs) ≡ (p e || list_any p fs)
    → list_any p (cond b (e ∷ f ∷ fs) (f ∷ placed e fs)) ≡ (p e || (p f || list_any p fs))
any_chosen p e f fs true rest = refl
any_chosen p e f fs false rest = ap (λ b. p f || b) rest ∙ either_first (p f) (p e) (list_any p fs)

any_placed : (p : ℕ × Seat → Bool) (e : ℕ × Seat) (fs : Seated) → list_any p (placed e fs) ≡ (p e || list_any p fs)
any_placed p e [] = ap (list_any p) (placed_empty e)
any_placed p e (f ∷ fs) = ap (list_any p) (placed_cons e f fs) ∙ any_chosen p e f fs (is_before e.1 f.1) (any_placed p e fs)

order_cons : (e : ℕ × Seat) (es : Seated) → in_order (e ∷ es) ≡ placed e (in_order es)
unfolding in_order
order_cons e es = refl

order_empty : in_order [] ≡ []
unfolding in_order
order_empty = refl

any_order : (p : ℕ × Seat → Bool) (es : Seated) → list_any p (in_order es) ≡ list_any p es
any_order p [] = ap (list_any p) order_empty
any_order p (e ∷ es) = ap (list_any p) (order_cons e es) ∙ any_placed p e (in_order es) ∙ ap (λ b. p e || b) (any_order p es)

any_number : (n : ℕ) (es : Seated) → list_any (λ (u : Tid). u.0 == n) (numbers_of es) ≡ list_any (λ (e : ℕ × Seat). eqb e.0 n) es
any_number n [] = refl
any_number n (e ∷ es) = ap (λ b. eqb e.0 n || b) (any_number n es)

some_cond : {A : Type 0} (b : Bool) (v : A) (o : Option A) → is_some (cond b (Some v) o) ≡ (b || is_some o)
some_cond true v o = refl
some_cond false v o = refl

any_get : (n : ℕ) (es : Seated) → list_any (λ (e : ℕ × Seat). eqb e.0 n) es ≡ is_some (get es n)
any_get n [] = sym (ap is_some (get_empty n))
any_get n (e ∷ es) = ap (λ b. eqb e.0 n || b) (any_get n es) ∙ sym (ap is_some (get_cons e es n) ∙ some_cond (eqb e.0 n) e.1 (get es n))

among_standing : (rs : Rows) (r : RowId) (t : Tid) → is_among t (best_first rs r) ≡ is_some (get (standing rs r) t.0)
among_standing rs r t = any_number t.0 (in_order (standing rs r)) ∙ any_order (λ (e : ℕ × Seat). eqb e.0 t.0) (standing rs r) ∙ any_get t.0 (standing rs r)

some_of : {A : Type 0} (o : Option A) → is_some o ≡ true → (v : A) × (o ≡ Some v)
some_of None e = absurd (cc)
some_of (Some v) e = (v, refl)

-- All threads of a row, and no others, are those in its order.
pub among_is : (rs : Rows) (r : RowId) (t : Tid) → IsCanonical rs.seats → (is_among t (best_first rs r) ≡ true) ↔ (row_of rs t ≡ Some r)
among_is rs r t h = (there, back)
  where
    there : is_among t (best_first rs r) ≡ true → row_of rs t ≡ Some r
    there e =
        let s : (v : Seat) × (get (standing rs r) t.0 ≡ Some v) = some_of (get (standing rs r) t.0) (sym (among_standing rs r t) ∙ e) in
        row_of_seat rs t r s.0 (has_seat rs r t.0 s.0 h s.1)

    back : row_of rs t ≡ Some r → is_among t (best_first rs r) ≡ true
    back e =
        let s : (v : Seat) × HasSeat rs t.0 r v = seat_of_row rs t r e in
        among_standing rs r t ∙ ap is_some (stands rs t.0 r s.0 s.1 h)

same_some : {A : Type 0} (x y : A) → Some x ≡ Some y → x ≡ y
same_some x y e = ap (λ o. unwrap_or o x) e

-- A thread stands in one row at most.
pub one_row : (rs : Rows) (t : Tid) (a b : RowId) → IsCanonical rs.seats → is_among t (best_first rs a) ≡ true → is_among t (best_first rs b) ≡ true → a ≡ b
one_row rs t a b h in_a in_b = same_some a b (sym ((among_is rs a t h).0 in_a) ∙ (among_is rs b t h).0 in_b)

-- ---- the best tells of the others

greatest_better : (rank : ℕ) (e f : ℕ × Seat) (b : Bool) → is_before e.1 f.1 ≡ b → nat_lt rank (cond b e f).1.rank ≡ (nat_lt rank e.1.rank || nat_lt rank f.1.rank)
greatest_better rank e f true h = grind (arith, nat_tests)
greatest_better rank e f false h = grind (arith, nat_tests)

or_nothing : (b : Bool) → b ≡ (b || false)
or_nothing true = refl
or_nothing false = refl

greatest_of : (rank : ℕ) (e : ℕ × Seat) (o : Option (ℕ × Seat)) → nat_lt rank (better e o).1.rank ≡ (nat_lt rank e.1.rank || outranks rank o)
greatest_of rank e None = or_nothing (nat_lt rank e.1.rank)
greatest_of rank e (Some f) = greatest_better rank e f (is_before e.1 f.1) refl

best_cons : (e : ℕ × Seat) (es : Seated) → best_of (e ∷ es) ≡ Some (better e (best_of es))
unfolding best_of
best_cons e es = refl

best_empty : best_of [] ≡ None
unfolding best_of
best_empty = refl

-- One of several has greater rank than this where the best has.
pub any_greater : (rank : ℕ) (es : Seated) → list_any (λ (e : ℕ × Seat). nat_lt rank e.1.rank) es ≡ outranks rank (best_of es)
any_greater rank [] = sym (ap (outranks rank) best_empty)
any_greater rank (e ∷ es) = ap (λ b. nat_lt rank e.1.rank || b) (any_greater rank es) ∙ sym (ap (outranks rank) (best_cons e es) ∙ greatest_of rank e (best_of es))

equal_better : (rank : ℕ) (e f : ℕ × Seat) (b : Bool) → is_before e.1 f.1 ≡ b → nat_lt rank e.1.rank ≡ false → nat_lt rank f.1.rank ≡ false
    → ((cond b e f).1.rank == rank) ≡ ((e.1.rank == rank) || (f.1.rank == rank))
equal_better rank e f true h le lf = grind (arith, nat_tests)
equal_better rank e f false h le lf = grind (arith, nat_tests)

equal_of : (rank : ℕ) (e : ℕ × Seat) (o : Option (ℕ × Seat)) → nat_lt rank e.1.rank ≡ false → outranks rank o ≡ false
    → ((better e o).1.rank == rank) ≡ ((e.1.rank == rank) || matches_rank rank o)
equal_of rank e None le lo = or_nothing (e.1.rank == rank)
equal_of rank e (Some f) le lo = equal_better rank e f (is_before e.1 f.1) refl le lo

neither : (a b : Bool) → (a || b) ≡ false → (a ≡ false) × (b ≡ false)
neither true b e = absurd (cc)
neither false b e = (refl, e)

-- Where none has, one has equal rank where the best has.
pub any_equal : (rank : ℕ) (es : Seated) → list_any (λ (e : ℕ × Seat). nat_lt rank e.1.rank) es ≡ false
    → list_any (λ (e : ℕ × Seat). e.1.rank == rank) es ≡ matches_rank rank (best_of es)
any_equal rank [] h = sym (ap (matches_rank rank) best_empty)
any_equal rank (e ∷ es) h =
    let parts : (nat_lt rank e.1.rank ≡ false) × (list_any (λ (f : ℕ × Seat). nat_lt rank f.1.rank) es ≡ false) = neither _ _ h in
    ap (λ b. (e.1.rank == rank) || b) (any_equal rank es parts.1)
    ∙ sym (ap (matches_rank rank) (best_cons e es) ∙ equal_of rank e (best_of es) parts.0 (sym (any_greater rank es) ∙ parts.1))

seat_rank : (rs : Rows) (w : Tid) (s : Seat) (e : ℕ × Seat) → HasSeat rs w.0 row.Ready e.1 → seat_of rs w ≡ Some s → e.1 ≡ s
seat_rank rs w s e h is = same_some e.1 s (sym h.at ∙ is)

-- A thread is outranked where the best ready thread has greater rank.
pub outranked_by_best : (rs : Rows) (rank : ℕ) (w : Tid) (s : Seat) → IsCanonical rs.seats → best rs row.Ready ≡ Some w → seat_of rs w ≡ Some s
    → is_outranked rs rank ≡ nat_lt rank s.rank
outranked_by_best rs rank w s h e is =
    let b : (x : ℕ × Seat) × IsBest rs row.Ready w x = is_best rs row.Ready w e in
    any_greater rank (standing rs row.Ready) ∙ ap (outranks rank) b.1.best ∙ ap (λ (x : Seat). nat_lt rank x.rank) (seat_rank rs w s b.0 (seat_of_best rs row.Ready w b.0 h b.1) is)

pub outranked_by_nobody : (rs : Rows) (rank : ℕ) → best rs row.Ready ≡ None → is_outranked rs rank ≡ false
outranked_by_nobody rs rank e = any_greater rank (standing rs row.Ready) ∙ ap (outranks rank) (no_number _ e)

-- Where it isn't, a ready thread has this rank exactly where the best has.
pub matched_by_best : (rs : Rows) (rank : ℕ) (w : Tid) (s : Seat) → IsCanonical rs.seats → best rs row.Ready ≡ Some w → seat_of rs w ≡ Some s
    → is_outranked rs rank ≡ false → is_matched rs rank ≡ (s.rank == rank)
matched_by_best rs rank w s h e is out =
    let b : (x : ℕ × Seat) × IsBest rs row.Ready w x = is_best rs row.Ready w e in
    any_equal rank (standing rs row.Ready) out ∙ ap (matches_rank rank) b.1.best ∙ ap (λ (x : Seat). x.rank == rank) (seat_rank rs w s b.0 (seat_of_best rs row.Ready w b.0 h b.1) is)

pub matched_by_nobody : (rs : Rows) (rank : ℕ) → best rs row.Ready ≡ None → is_matched rs rank ≡ false
matched_by_nobody rs rank e = any_equal rank (standing rs row.Ready) (outranked_by_nobody rs rank e) ∙ ap (matches_rank rank) (no_number _ e)

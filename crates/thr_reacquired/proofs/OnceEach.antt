-- The threads of a row, and those whose time has come, are each named once.
use Rattle.std.proofs.Common.{◌≡◌, ℕ, Bool, true, false, eqb, List, [], ◌∷◌, Some, None, sym, ap, ◌∙◌}
use Rattle.std.proofs.lemmas.Bool.{eqb-true}
use Rattle.std.specs.Ordering.{nat_cmp}
use Rattle.std.specs.FinMap.Entries as entries
use Rattle.std.specs.Prelude.{if◌then◌else◌, ℤ}
use Rattle.thr_values.specs.declared.number.Tid.{Tid}
use Rattle.thr_parts.specs.declared.row.RowId.{RowId}
use Rattle.thr_parts.specs.declared.row.Seat.{Seat}
use Rattle.thr_parts.specs.Tables.{get, IsCanonical}
use Rattle.thr_parts.specs.Rows.{Rows, Seated, is_before, placed, in_order, standing, numbers_of, best_first}
use Rattle.thr_parts.specs.Conditions.{Conds}
use Rattle.thr_parts.specs.Expiry.{due, due_first, is_due}
use Rattle.thr_parts.proofs.EntryLaws.{both_true, nothing_at, canonical_filter}
use Rattle.thr_parts.proofs.RowLaws.{canonical_standing}
use Rattle.thr_laws.proofs.ReadingLaws.{AllLines}
use Rattle.thr_answers.proofs.StatusRows.{all_map, all_found, all_in_order, all_numbers}

-- None of these is the thread.
abbrev pub NoneIs : ℕ → List Tid → Type 0
NoneIs u ts = AllLines (λ (w : Tid). eqb w.0 u ≡ true → ⊥) ts

-- The thread is named at most once.
abbrev pub OnceIn : ℕ → List Tid → Type 0
OnceIn u [] = Unit {0}
OnceIn u (t ∷ ts) = (eqb t.0 u ≡ true → NoneIs u ts) × OnceIn u ts

-- The same of threads with their seats.
abbrev NoneAt : ℕ → Seated → Type 0
NoneAt u es = AllLines (λ (e : ℕ × Seat). eqb e.0 u ≡ true → ⊥) es

abbrev OnceAt : ℕ → Seated → Type 0
OnceAt u [] = Unit {0}
OnceAt u (e ∷ es) = (eqb e.0 u ≡ true → NoneAt u es) × OnceAt u es

once_numbers : (u : ℕ) (es : Seated) → OnceAt u es → OnceIn u (numbers_of es)
once_numbers u [] h = tt
once_numbers u (e ∷ es) h = (λ i. all_numbers (λ (w : Tid). eqb w.0 u ≡ true → ⊥) es (h.0 i), once_numbers u es h.1)

-- ---- the order names nobody twice

none_by : (u : ℕ) (e f : ℕ × Seat) (fs gs : Seated) (b : Bool) → (eqb e.0 u ≡ true → ⊥) → NoneAt u (f ∷ fs) → NoneAt u gs → NoneAt u (if b then e ∷ f ∷ fs else f ∷ gs)
none_by u e f fs gs true h k i = (h, k)
none_by u e f fs gs false h k i = (k.0, i)

none_placed : (u : ℕ) (e : ℕ × Seat) (es : Seated) → (eqb e.0 u ≡ true → ⊥) → NoneAt u es → NoneAt u (placed e es)
unfolding placed
none_placed u e [] h k = (h, tt)
none_placed u e (f ∷ fs) h k = none_by u e f fs (placed e fs) (is_before e.1 f.1) h k (none_placed u e fs h k.1)

placed_by : (u : ℕ) (e f : ℕ × Seat) (fs gs : Seated) (b : Bool) → (eqb e.0 u ≡ true → NoneAt u (f ∷ fs)) → OnceAt u (f ∷ fs) → (eqb f.0 u ≡ true → NoneAt u gs) → OnceAt u gs
    → OnceAt u (if b then e ∷ f ∷ fs else f ∷ gs)
placed_by u e f fs gs true h k i j = (h, k)
placed_by u e f fs gs false h k i j = (i, j)

once_placed : (u : ℕ) (e : ℕ × Seat) (es : Seated) → (eqb e.0 u ≡ true → NoneAt u es) → OnceAt u es → OnceAt u (placed e es)
unfolding placed
once_placed u e [] h k = (λ i. tt, tt)
once_placed u e (f ∷ fs) h k =
    placed_by u e f fs (placed e fs) (is_before e.1 f.1) h k
    (λ i. none_placed u e fs (λ j. (h j).0 i) (k.0 i))
    (once_placed u e fs (λ i. (h i).1) k.1)

once_order : (u : ℕ) (es : Seated) → OnceAt u es → OnceAt u (in_order es)
unfolding in_order
once_order u [] h = tt
once_order u (e ∷ es) h = once_placed u e (in_order es) (λ i. all_in_order (λ (g : ℕ × Seat). eqb g.0 u ≡ true → ⊥) es (h.0 i)) (once_order u es h.1)

-- ---- numbers that rise

never_found : (es : Seated) (e f : ℕ × Seat) (u : ℕ) → get es e.0 ≡ None → get es f.0 ≡ Some f.1 → eqb e.0 u ≡ true → eqb f.0 u ≡ true → ⊥
never_found es e f u n s i j =
    let same : f.0 ≡ e.0 = eqb-true f.0 u j ∙ sym (eqb-true e.0 u i) in
    let both : None ≡ Some f.1 = sym n ∙ ap (get es) (sym same) ∙ s in
    absurd (cc)

once_sorted : (u : ℕ) (es : Seated) → IsCanonical es → OnceAt u es
once_sorted u [] h = tt
once_sorted u (e ∷ es) h =
    let parts : (entries.below_all nat_cmp e.0 es ≡ true) × (entries.is_sorted nat_cmp es ≡ true) = both_true _ _ h in
    (λ i. all_map (λ (f : ℕ × Seat). get es f.0 ≡ Some f.1) (λ (f : ℕ × Seat). eqb f.0 u ≡ true → ⊥) (λ f k j. never_found es e f u (nothing_at e.0 es parts.0) k i j) es (all_found es parts.1), once_sorted u es parts.1)

-- ---- rows, and times

pub once_in_row : (u : ℕ) (rs : Rows) (r : RowId) → IsCanonical rs.seats → OnceIn u (best_first rs r)
once_in_row u rs r h = once_numbers u (in_order (standing rs r)) (once_order u (standing rs r) (once_sorted u (standing rs r) (canonical_standing rs r h)))

pub once_if : (b : Bool) (u : ℕ) (ts : List Tid) → OnceIn u ts → OnceIn u (if b then ts else [])
once_if true u ts h = h
once_if false u ts h = tt

once_due_at : (u : ℕ) (cs : Conds) (rs : Rows) (now : ℤ) → IsCanonical rs.seats → OnceAt u (due cs rs now)
unfolding due
once_due_at u cs rs now h = once_sorted u _ (canonical_filter (λ e. is_due cs now e.0) rs.seats h)

pub once_due : (u : ℕ) (cs : Conds) (rs : Rows) (now : ℤ) → IsCanonical rs.seats → OnceIn u (due_first cs rs now)
once_due u cs rs now h = once_numbers u (in_order (due cs rs now)) (once_order u (due cs rs now) (once_due_at u cs rs now h))

-- No two threads have their seats on one processor, so a processor has the thread whose seat is there.
use Rattle.std.proofs.Common.{◌≡◌, ℕ, eqb, Bool, true, false, ◌⊎◌, inl, inr, [], ◌∷◌, cond, Option, Some, None, refl, sym, ◌∙◌, ap, subst, arith}
use Rattle.std.proofs.lemmas.Bool.Decides.{nat_tests}
use Rattle.std.specs.List.{filter}
use Rattle.thr_values.specs.declared.number.Tid.{Tid}
use Rattle.thr_parts.specs.declared.row.Place.{Place}
use Rattle.thr_parts.specs.declared.row.Place.TheVariants.{Runs, Stands}
use Rattle.thr_parts.specs.declared.row.Seat.{Seat}
use Rattle.thr_parts.specs.Tables.{Table, none, get, put, cut, IsCanonical}
use Rattle.thr_parts.specs.Rows.{Rows, Seated, number_in}
use Rattle.thr_parts.specs.Moves.{as_ranked}
use Rattle.thr_parts.specs.Dispatch.{runs_on, first, running, a_turn_later}
use Rattle.thr_parts.proofs.EntryLaws.{get_filter, get_empty, pass, pass_some}
use Rattle.thr_parts.proofs.TableLaws.{get_none, get_put, get_cut}
use Rattle.thr_parts.proofs.KeptLaws.{IsKept}
use Rattle.thr_parts.proofs.RunningLaws.{HasProcessor, running_seat}

-- No two threads have their seats on one processor.
abbrev pub AreAlone : Table Seat → Type 0
AreAlone m = (p t u : ℕ) (a b : Seat) → get m t ≡ Some a → get m u ≡ Some b → runs_on p a.place ≡ true → runs_on p b.place ≡ true → t ≡ u

pub none_alone : AreAlone none
none_alone p t u a b e f x y = absurd (cc (get_none {A = Seat} t))

-- ---- a seat that is put

-- The thread has this seat, or its earlier one.
abbrev NewOrOld : Table Seat → ℕ → Seat → ℕ → Seat → Type 0
NewOrOld m k v t a = ((k ≡ t) × (v ≡ a)) ⊎ (get m t ≡ Some a)

some_same : (v a : Seat) → (let o : Option Seat = Some v in o) ≡ Some a → v ≡ a
some_same v a e = cc

new_or_old_by : (m : Table Seat) (k t : ℕ) (v a : Seat) (b : Bool) → eqb k t ≡ b → cond b (Some v) (get m t) ≡ Some a → NewOrOld m k v t a
new_or_old_by m k t v a true is e = inl (grind (arith, nat_tests), some_same v a e)
new_or_old_by m k t v a false is e = inr e

new_or_old : (m : Table Seat) (k t : ℕ) (v a : Seat) → get (put m k v) t ≡ Some a → NewOrOld m k v t a
new_or_old m k t v a e = new_or_old_by m k t v a (eqb k t) refl (sym (get_put m k t v) ∙ e)

-- Whoever else has a seat on a processor of this seat is the thread itself.
abbrev IsFree : Table Seat → ℕ → Seat → Type 0
IsFree m k v = (p u : ℕ) (b : Seat) → get m u ≡ Some b → runs_on p v.place ≡ true → runs_on p b.place ≡ true → k ≡ u

put_by : (m : Table Seat) (k : ℕ) (v : Seat) → IsFree m k v → AreAlone m → (p t u : ℕ) (a b : Seat) → NewOrOld m k v t a → NewOrOld m k v u b → runs_on p a.place ≡ true → runs_on p b.place ≡ true → t ≡ u
put_by m k v free h p t u a b (inl e) (inl f) x y = sym e.0 ∙ f.0
put_by m k v free h p t u a b (inl e) (inr f) x y = sym e.0 ∙ free p u b f (subst (λ (s : Seat). runs_on p s.place ≡ true) (sym e.1) x) y
put_by m k v free h p t u a b (inr e) (inl f) x y = sym (free p t a e (subst (λ (s : Seat). runs_on p s.place ≡ true) (sym f.1) y) x) ∙ f.0
put_by m k v free h p t u a b (inr e) (inr f) x y = h p t u a b e f x y

pub put_alone : (m : Table Seat) (k : ℕ) (v : Seat) → IsFree m k v → AreAlone m → AreAlone (put m k v)
put_alone m k v free h p t u a b e f x y = put_by m k v free h p t u a b (new_or_old m k t v a e) (new_or_old m k u v b f) x y

-- ---- whatever becomes of a thread

stands_alone : (m : Table Seat) (t rank arrival : ℕ) (r : _) → AreAlone m → AreAlone (put m t (record { rank = rank; place = Stands r arrival }))
stands_alone m t rank arrival r h = put_alone m t (record { rank = rank; place = Stands r arrival }) (λ p u b e x y. absurd (cc)) h

old_by : (m : Table Seat) (k u : ℕ) (a : Seat) (b : Bool) → eqb k u ≡ b → cond b None (get m u) ≡ Some a → get m u ≡ Some a
old_by m k u a true is e = absurd (cc)
old_by m k u a false is e = e

old : (m : Table Seat) (k u : ℕ) (a : Seat) → get (cut m k) u ≡ Some a → get m u ≡ Some a
old m k u a e = old_by m k u a (eqb k u) refl (sym (get_cut m k u) ∙ e)

cut_alone : (m : Table Seat) (k : ℕ) → AreAlone m → AreAlone (cut m k)
cut_alone m k h p t u a b e f x y = h p t u a b (old m k t a e) (old m k u b f) x y

ranked_alone : (m : Table Seat) (k rank : ℕ) (s : Seat) → get m k ≡ Some s → AreAlone m → AreAlone (put m k (as_ranked rank s))
ranked_alone m k rank s at h = put_alone m k (as_ranked rank s) (λ p u b e x y. h p k u s b at e x y) h

earlier : (p : ℕ) (fifo : Bool) (l : Place) → runs_on p (a_turn_later fifo l) ≡ true → runs_on p l ≡ true
earlier p true (Runs q slice) e = e
earlier p false (Runs q slice) e = e
earlier p fifo (Stands r arrival) e = absurd (cc)

later_alone : (m : Table Seat) (k : ℕ) (fifo : Bool) (s : Seat) → get m k ≡ Some s → AreAlone m → AreAlone (put m k (record { rank = s.rank; place = a_turn_later fifo s.place }))
later_alone m k fifo s at h =
    put_alone m k (record { rank = s.rank; place = a_turn_later fifo s.place }) (λ p u b e x y. h p k u s b at e (earlier p fifo s.place x) y) h

pub alone_is_kept : IsKept AreAlone
alone_is_kept = record { stands = stands_alone; goes = cut_alone; ranked = ranked_alone; later = later_alone }

-- ---- the thread of a processor

abbrev is_on : ℕ → ℕ × Seat → Bool
is_on p e = runs_on p e.1.place

none_first : (es : Seated) → number_in (first es) ≡ None → es ≡ []
none_first [] e = refl
none_first (x ∷ xs) e = absurd (cc)

if_true : (v : Seat) (b : Bool) → b ≡ true → cond b (Some v) None ≡ Some v
if_true v true e = refl
if_true v false e = absurd (cc)

-- A thread whose seat is on a processor is among those there.
there : (rs : Rows) (p t : ℕ) (a : Seat) → IsCanonical rs.seats → get rs.seats t ≡ Some a → runs_on p a.place ≡ true → get (filter (is_on p) rs.seats) t ≡ Some a
there rs p t a c at on = get_filter (is_on p) t rs.seats c ∙ ap (pass (is_on p) t) at ∙ pass_some (is_on p) t a ∙ if_true a (runs_on p a.place) on

-- So the processor has a thread.
pub nobody : (rs : Rows) (p t : ℕ) (a : Seat) → IsCanonical rs.seats → running rs p ≡ None → get rs.seats t ≡ Some a → runs_on p a.place ≡ true → ⊥
unfolding running
nobody rs p t a c none at on =
    let found : get (filter (is_on p) rs.seats) t ≡ Some a = there rs p t a c at on in
    let empty : filter (is_on p) rs.seats ≡ [] = none_first (filter (is_on p) rs.seats) none in
    absurd (cc (ap (λ (es : Seated). get es t) empty, get_empty {A = Seat} t))

same_thread : (t u : Tid) → u.0 ≡ t.0 → u ≡ t
same_thread t u e = λ i. record { 0 = e i }

runs_there_by : (rs : Rows) (p : ℕ) (t : Tid) (a : Seat) → IsCanonical rs.seats → AreAlone rs.seats → get rs.seats t.0 ≡ Some a → runs_on p a.place ≡ true → (o : Option Tid) → running rs p ≡ o → o ≡ Some t
runs_there_by rs p t a c h at on None is = absurd (nobody rs p t.0 a c is at on)
runs_there_by rs p t a c h at on (Some u) is =
    let x : (s : Seat) × HasProcessor rs p u.0 s = running_seat rs p u c is in ap Some (same_thread t u (h p u.0 t.0 x.0 a x.1.at at x.1.runs on))

-- It is this one, since no other has its seat there.
pub runs_there : (rs : Rows) (p : ℕ) (t : Tid) (a : Seat) → IsCanonical rs.seats → AreAlone rs.seats → get rs.seats t.0 ≡ Some a → runs_on p a.place ≡ true → running rs p ≡ Some t
runs_there rs p t a c h at on = runs_there_by rs p t a c h at on (running rs p) refl

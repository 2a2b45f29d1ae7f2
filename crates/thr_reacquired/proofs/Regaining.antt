-- What a thread has of the mutex of its wait on a condition: the wait, a place in the mutex's row, or the mutex.
use Rattle.std.proofs.Common.{◌≡◌, ℕ, Bool, true, false, ◌&&◌, eqb, cond, Option, Some, None, refl, sym, ap, ◌∙◌, subst}
use Rattle.std.proofs.lemmas.Bool.{eqb-true, eq-eqb, false≢true}
use Rattle.std.specs.Prelude.{if◌then◌else◌, is_none, is_some}
use Rattle.std.specs.Option.{option_map}
use Rattle.thr_values.specs.declared.number.Tid.{Tid}
use Rattle.thr_values.specs.declared.number.NameId.{NameId}
use Rattle.thr_parts.specs.declared.mutex.Held.{Held}
use Rattle.thr_parts.specs.declared.mutex.Mutex.{Mutex}
use Rattle.thr_parts.specs.declared.row.RowId.TheVariants as row
use Rattle.thr_parts.specs.declared.row.Place.TheVariants.{Stands}
use Rattle.thr_parts.specs.Tables.{Table, get, put, cut, cut_if, keep_if}
use Rattle.thr_parts.specs.Rows.{Rows, thread, row_at}
use Rattle.thr_parts.specs.Moves.{put_in_row}
use Rattle.thr_parts.specs.Mutexes.{Locks, mutex_at, with_mutex, owner_in, owner}
use Rattle.thr_parts.specs.Locking.{taken, as_taken, is_held_by, is_free, is_last, one_less, held_after, as_unlocked, owned_by}
use Rattle.thr_parts.specs.Conditions.{Conds}
use Rattle.thr_laws.specs.Owners.{Lock, is_same_lock}
use Rattle.thr_laws.proofs.ReadingLaws.{both}
use Rattle.thr_owners.proofs.Using.{same_lock, changed, changed_at}
use Rattle.thr_answers.proofs.StatusMoves.{IsWith, with_put, with_cut}
use Rattle.thr_reacquired.specs.Waiters.{Has, stands, owns}

-- ---- tables at another number

pub not_true : (b : Bool) → (b ≡ true → ⊥) → b ≡ false
not_true true h = absurd (h refl)
not_true false h = refl

pub elsewhere : {A : Type 0} (m after : Table A) (w u : ℕ) (o : Option A) → IsWith m after w o → eqb w u ≡ false → get after u ≡ get m u
elsewhere m after w u o i e = i u ∙ ap (λ b. cond b o (get m u)) e

pub there : {A : Type 0} (m after : Table A) (w u : ℕ) (o : Option A) → IsWith m after w o → eqb w u ≡ true → get after u ≡ o
there m after w u o i e = i u ∙ ap (λ b. cond b o (get m u)) e

pub cut_elsewhere : {A : Type 0} (b : Bool) (m : Table A) (w u : ℕ) → eqb w u ≡ false → get (cut_if b m w) u ≡ get m u
cut_elsewhere true m w u e = elsewhere m (cut m w) w u None (with_cut m w) e
cut_elsewhere false m w u e = refl

pub same_thread : (w : Tid) (u : ℕ) → eqb w.0 u ≡ true → thread u ≡ w
same_thread w u e = ap thread (sym (eqb-true w.0 u e))

-- ---- owners

taken_by : (h : Option Held) (t : Tid) → is_held_by (Some (taken h t)) t ≡ true
taken_by None t = eq-eqb t.0 t.0 refl
taken_by (Some h) t = eq-eqb t.0 t.0 refl

-- What is taken belongs to whoever took it.
gains : (c : Bool) (x : Option Mutex) (t : Tid) → c ≡ true → is_free x ≡ true → is_held_by (owner_in (changed c (λ h. Some (taken h t)) x)) t ≡ true
gains false x t e f = absurd (false≢true e)
gains true None t e f = absurd (false≢true f)
gains true (Some x) t e f = taken_by x.held t

-- What is given belongs to whom it is given.
hands : (c : Bool) (x : Option Mutex) (t : Tid) → c ≡ true → is_some x ≡ true → is_last (owner_in x) ≡ true → is_held_by (owner_in (changed c (held_after (Some t)) x)) t ≡ true
hands false x t e s l = absurd (false≢true e)
hands true None t e s l = absurd (false≢true s)
hands true (Some x) t e s l = ap (λ b. is_held_by (if b then Some (owned_by t) else option_map one_less x.held) t) l ∙ eq-eqb t.0 t.0 refl

free_not_held : (o : Option Held) (t : Tid) → is_none o ≡ true → is_held_by o t ≡ true → ⊥
free_not_held None t e h = false≢true h
free_not_held (Some x) t e h = false≢true e

-- Nobody is deprived of a mutex by one that takes it where it is free.
still_held : (c : Bool) (f : Option Held → Option Held) (x : Option Mutex) (t : Tid) → (c ≡ true → is_free x ≡ true) → is_held_by (owner_in x) t ≡ true → is_held_by (owner_in (changed c f x)) t ≡ true
still_held false f x t h e = e
still_held true f None t h e = absurd (false≢true e)
still_held true f (Some x) t h e = absurd (free_not_held x.held t (h refl) e)

same_itself : (m : NameId) → is_same_lock (Some m) (Some m) ≡ true
same_itself m = eq-eqb m.0 m.0 refl

-- The locks after a thread was to get this mutex, which is free or isn't.
abbrev pub regained : Locks → NameId → Tid → Bool → Locks
regained ls n t b = with_mutex ls (Some n) (keep_if b (option_map (as_taken t) (mutex_at ls (Some n))))

pub regain_keeps : (ls : Locks) (n m : NameId) (t v : Tid) (b : Bool) → is_free (mutex_at ls (Some n)) ≡ b → is_held_by (owner ls (Some m)) v ≡ true → is_held_by (owner (regained ls n t b) (Some m)) v ≡ true
regain_keeps ls n m t v b is e =
    ap (λ x. is_held_by (owner_in x) v) (changed_at ls (Some m) (Some n) b (λ h. Some (taken h t)))
    ∙ still_held (b && is_same_lock (Some n) (Some m)) (λ h. Some (taken h t)) (mutex_at ls (Some m)) v
    (λ c. let p : (b ≡ true) × (is_same_lock (Some n) (Some m) ≡ true) = both b (is_same_lock (Some n) (Some m)) c in
    subst (λ (k : Lock). is_free (mutex_at ls k) ≡ true) (same_lock (Some n) (Some m) p.1) (is ∙ p.0)) e

regain_gains : (ls : Locks) (m : NameId) (t : Tid) → is_free (mutex_at ls (Some m)) ≡ true → is_held_by (owner (regained ls m t true) (Some m)) t ≡ true
regain_gains ls m t is =
    ap (λ x. is_held_by (owner_in x) t) (changed_at ls (Some m) (Some m) true (λ h. Some (taken h t)))
    ∙ gains (true && is_same_lock (Some m) (Some m)) (mutex_at ls (Some m)) t (same_itself m) is

-- The locks after this mutex was given to a thread.
abbrev pub handed : Locks → NameId → Tid → Locks
handed ls m t = with_mutex ls (Some m) (option_map (as_unlocked (Some t)) (mutex_at ls (Some m)))

pub hand_gains : (ls : Locks) (m : NameId) (t : Tid) → is_some (mutex_at ls (Some m)) ≡ true → is_last (owner ls (Some m)) ≡ true → is_held_by (owner (handed ls m t) (Some m)) t ≡ true
hand_gains ls m t s l =
    ap (λ x. is_held_by (owner_in x) t) (changed_at ls (Some m) (Some m) true (held_after (Some t)))
    ∙ hands (true && is_same_lock (Some m) (Some m)) (mutex_at ls (Some m)) t (same_itself m) s l

-- ---- a thread that is to have its mutex again

-- It has it, or waits for it.
pub resumed : (u : ℕ) (m : NameId) (t : Tid) (rank : ℕ) (cs : Conds) (ls : Locks) (rs : Rows) (b : Bool) → is_free (mutex_at ls (Some m)) ≡ b → t ≡ thread u
    → Has u m cs (regained ls m t b) (put_in_row rs (if b then row.Ready else row.Mutex m) t rank)
resumed u m t rank cs ls rs true is e = owns (subst (λ (v : Tid). is_held_by (owner (regained ls m t true) (Some m)) v ≡ true) e (regain_gains ls m t is))
resumed u m t rank cs ls rs false is e =
    stands (ap row_at (there rs.seats (put rs.seats t.0 (record { rank = rank; place = Stands (row.Mutex m) rs.next_arrival })) t.0 u (Some (record { rank = rank; place = Stands (row.Mutex m) rs.next_arrival })) (with_put rs.seats t.0 _) (eq-eqb t.0 u (ap (λ (v : Tid). v.0) e))))

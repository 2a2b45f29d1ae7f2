-- Locks with which lines do nothing fit of themselves.
use Rattle.std.proofs.Common.{◌≡◌, ℕ, Bool, true, false, not, ◌&&◌, ◌||◌, is_none, List, [], ◌∷◌, Option, Some, None, refl, sym, ap, ◌∙◌, subst}
use Rattle.std.proofs.lemmas.Bool.{eqb-true, false≢true}
use Rattle.std.specs.List.{list_all}
use Rattle.std.specs.Option.{option_or}
use Rattle.thr_values.specs.declared.number.NameId.{NameId}
use Rattle.thr_values.specs.declared.history.Who.{Who}
use Rattle.thr_values.specs.declared.history.Who.TheVariants as who
use Rattle.thr_values.specs.declared.history.What.{What}
use Rattle.thr_values.specs.declared.history.What.TheVariants as what
use Rattle.thr_values.specs.declared.history.Entry.{Entry}
use Rattle.thr_values.specs.declared.reply.Kind.{Kind}
use Rattle.thr_laws.specs.Lines.{implies, is_by, line_but_gift, own_line, is_return, is_delivery, is_some_line}
use Rattle.thr_laws.specs.Owners.{Lock, is_same_lock, Use, Locks, Gives, Unlocks, GivesUp, Nothing, use_of, Owner, Held, at_first, held_after, may_use, may_use_by, is_recursive, is_owner, has_one_owner}
use Rattle.thr_laws.specs.Known.{Known, known_at_first}
use Rattle.thr_laws.specs.CancelLaw.{Both, both_after, gives_up, is_wait_with, has_its_mutex, waits_end_with_the_mutex}
use Rattle.thr_laws.specs.Passing.{lock_of, is_lock_of, lock_added_if, with_lock, locks_in, each_lock}
use Rattle.thr_laws.proofs.ReadingLaws.{both, neither, implied_by_false, AllLines, fits_always, fits_keeping}
use Rattle.thr_laws.proofs.NamedThreads.{IsForeign, own_none}

-- The lock isn't this one.
abbrev pub IsNot : Lock → Option Lock → Type 0
IsNot lock None = Unit {0}
IsNot lock (Some m) = is_same_lock m lock ≡ false

-- The line does nothing with the lock.
abbrev pub IsAway : Lock → Entry → Type 0
IsAway lock e = IsNot lock (lock_of (use_of e.what))

-- ---- locks that are left out

same_lock : (m n : Lock) → is_same_lock m n ≡ true → m ≡ n
same_lock None None e = refl
same_lock None (Some n) e = absurd (false≢true e)
same_lock (Some m) None e = absurd (false≢true e)
same_lock (Some m) (Some n) e = ap (λ (i : ℕ). let name : NameId = record { 0 = i } in let lock : Lock = Some name in lock) (eqb-true m.0 n.0 e)

lock_added : (lock m : Lock) (locks : List Lock) (b : Bool) → is_lock_of m locks ≡ b → is_lock_of lock (lock_added_if b m locks) ≡ false
    → (is_same_lock m lock ≡ false) × (is_lock_of lock locks ≡ false)
lock_added lock m locks false e h = neither (is_same_lock m lock) (is_lock_of lock locks) h
lock_added lock m locks true e h =
    elim (is_same_lock m lock) as (λ b. is_same_lock m lock ≡ b → (b ≡ false) × (is_lock_of lock locks ≡ false)) [
      | true ↦ λ s. absurd (false≢true (sym h ∙ subst (λ v. is_lock_of v locks ≡ true) (same_lock m lock s) e))
      | false ↦ λ s. (refl, h)
    ] refl

lock_left_out : (lock : Lock) (o : Option Lock) (locks : List Lock) → is_lock_of lock (with_lock o locks) ≡ false → IsNot lock o × (is_lock_of lock locks ≡ false)
lock_left_out lock None locks h = (tt, h)
lock_left_out lock (Some m) locks h = lock_added lock m locks (is_lock_of m locks) refl h

pub away : (lock : Lock) (entries : List Entry) → is_lock_of lock (locks_in entries) ≡ false → AllLines (IsAway lock) entries
away lock [] h = tt
away lock (e ∷ entries) h =
    let l = lock_left_out lock (lock_of (use_of e.what)) (locks_in entries) h in (l.0, away lock entries l.1)

-- ---- one owner

not_same : (a b : Bool) → a ≡ false → (not a || b) ≡ true
not_same true b e = absurd (false≢true (sym e))
not_same false b e = refl

away_may : (lock : Lock) (kind : Kind) (owner : Option Owner) (t : ℕ) (u : Use) → IsNot lock (lock_of u) → may_use lock kind owner t u ≡ true
away_may lock kind owner t (Locks m) h = not_same (is_same_lock m lock) (is_none owner || (is_recursive kind && is_owner t owner)) h
away_may lock kind owner t (Gives m) h = not_same (is_same_lock m lock) (is_none owner) h
away_may lock kind owner t (Unlocks m) h = not_same (is_same_lock m lock) (is_owner t owner) h
away_may lock kind owner t (GivesUp m) h = not_same (is_same_lock m lock) (is_owner t owner) h
away_may lock kind owner t Nothing h = refl

away_by : (lock : Lock) (h : Held) (w : Who) (said : What) → IsNot lock (lock_of (use_of said)) → may_use_by lock h w said ≡ true
away_by lock h (who.Thread t) said a = away_may lock h.kind h.owner t.0 (use_of said) a
away_by lock h (who.Proc p) said a = refl
away_by lock h who.Clock said a = refl

pub away_has_one : (lock : Lock) (entries : List Entry) → AllLines (IsAway lock) entries → has_one_owner lock entries ≡ true
away_has_one lock entries h =
    fits_always (held_after lock) (λ h e. may_use_by lock h e.who e.what) (IsAway lock) (λ h e a. away_by lock h e.who e.what a) (at_first lock) entries h

-- ---- waits

-- The last line is no wait with this lock.
abbrev NoWait : Lock → Both → Type 0
NoWait lock b = is_some_line (is_wait_with lock) b.thread.last ≡ false

away_waits_not : (lock : Lock) (u : Use) → IsNot lock (lock_of u) → gives_up lock u ≡ false
away_waits_not lock (Locks m) h = refl
away_waits_not lock (Gives m) h = refl
away_waits_not lock (Unlocks m) h = refl
away_waits_not lock (GivesUp m) h = h
away_waits_not lock Nothing h = refl

own_waits_not : (lock : Lock) (b : Bool) (w : What) (last : Option What) → is_wait_with lock w ≡ false → is_some_line (is_wait_with lock) last ≡ false
    → is_some_line (is_wait_with lock) (option_or (line_but_gift b w) last) ≡ false
own_waits_not lock false w last h e = e
own_waits_not lock true (what.Gift m) last h e = e
own_waits_not lock true w last h e = h

keeps_no_wait : (t : ℕ) (lock : Lock) (b : Both) (e : Entry) → NoWait lock b → IsAway lock e → NoWait lock (both_after t lock b e)
keeps_no_wait t lock b e h a = own_waits_not lock (is_by t e.who) e.what b.thread.last (away_waits_not lock (use_of e.what) a) h

has_mutex : (t : ℕ) (lock : Lock) (k : Known) (h : Held) (own : Option What) → is_some_line (is_wait_with lock) k.last ≡ false → has_its_mutex t lock k h own ≡ true
has_mutex t lock k h None e = refl
has_mutex t lock k h (Some w) e =
    ap (λ b. implies ((is_return w || is_delivery w) && b) (is_owner t h.owner)) e ∙ implied_by_false (is_return w || is_delivery w) (is_owner t h.owner)

-- A lock with which lines do nothing.
pub away_ends : (t : ℕ) (lock : Lock) (entries : List Entry) → AllLines (IsAway lock) entries → waits_end_with_the_mutex t lock entries ≡ true
away_ends t lock entries h =
    fits_keeping (both_after t lock) (λ b e. has_its_mutex t lock b.thread b.lock (own_line t e)) (NoWait lock) (IsAway lock)
    (keeps_no_wait t lock) (λ b e i a. has_mutex t lock b.thread b.lock (own_line t e) i)
    (record { thread = known_at_first; lock = at_first lock }) entries refl h

-- A thread that the lines don't name.
pub foreign_waits : (t : ℕ) (lock : Lock) (entries : List Entry) → AllLines (IsForeign t) entries → waits_end_with_the_mutex t lock entries ≡ true
foreign_waits t lock entries h =
    fits_always (both_after t lock) (λ b e. has_its_mutex t lock b.thread b.lock (own_line t e)) (IsForeign t)
    (λ b e f. ap (has_its_mutex t lock b.thread b.lock) (own_none t e f))
    (record { thread = known_at_first; lock = at_first lock }) entries h

-- ---- all locks

lock_among : (p : Lock → Bool) (lock : Lock) (locks : List Lock) → list_all p locks ≡ true → is_lock_of lock locks ≡ true → p lock ≡ true
lock_among p lock [] h i = absurd (false≢true i)
lock_among p lock (m ∷ locks) h i =
    let b = both (p m) (list_all p locks) h in
    elim (is_same_lock m lock) as (λ x. is_same_lock m lock ≡ x → (x || is_lock_of lock locks) ≡ true → p lock ≡ true) [
      | true ↦ λ e j. subst (λ v. p v ≡ true) (same_lock m lock e) b.0
      | false ↦ λ e j. lock_among p lock locks b.1 j
    ] refl i

-- A test that the used locks pass and the others pass of themselves.
pub all_locks : (p : Lock → Bool) (entries : List Entry) → ((lock : Lock) → AllLines (IsAway lock) entries → p lock ≡ true) → each_lock entries p ≡ true
    → (lock : Lock) → p lock ≡ true
all_locks p entries others h lock =
    elim (is_lock_of lock (locks_in entries)) as (λ x. is_lock_of lock (locks_in entries) ≡ x → p lock ≡ true) [
      | true ↦ λ e. lock_among p lock (locks_in entries) h e
      | false ↦ λ e. others lock (away lock entries e)
    ] refl

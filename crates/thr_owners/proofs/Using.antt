-- Locks that are taken, given and given up, in the state and along the lines.
use Rattle.std.proofs.Common.{◌≡◌, ℕ, zero, suc, ℤ, ◌+◌, ◌-◌, Bool, true, false, not, ◌&&◌, ◌||◌, cond, eqb, is_none, List, [], ◌∷◌, ◌++◌, map, Option, Some, None, refl, sym, ap, ◌∙◌, subst, arith}
use Rattle.std.specs.Prelude.{if◌then◌else◌, nat_le, int_le}
use Rattle.std.specs.Option.{option_map, is_some}
use Rattle.std.proofs.lemmas.Bool.{eqb-true, false≢true}
use Rattle.std.proofs.lemmas.Bool.Decides.{nat_tests}
use Rattle.thr_values.specs.declared.number.NameId.{NameId}
use Rattle.thr_values.specs.declared.number.Tid.{Tid}
use Rattle.thr_values.specs.declared.history.What.{What}
use Rattle.thr_values.specs.declared.history.What.TheVariants as what
use Rattle.thr_values.specs.declared.history.Entry.{Entry}
use Rattle.thr_values.specs.declared.reply.Kind.{Kind}
use Rattle.thr_values.specs.declared.reply.Kind.TheVariants.{Fast, Recursive, Nonrecursive}
use Rattle.thr_values.specs.declared.reply.Reply.{Reply}
use Rattle.thr_values.specs.declared.reply.Reply.TheVariants as reply
use Rattle.thr_parts.specs.declared.mutex.Held.{Held}
use Rattle.thr_parts.specs.declared.mutex.Mutex.{Mutex}
use Rattle.thr_parts.specs.declared.row.RowId.TheVariants as row
use Rattle.thr_parts.specs.Tables.{Table, get, has, keep_if}
use Rattle.thr_parts.specs.Replies.{is_done, is_blocks}
use Rattle.thr_parts.specs.Rows.{Rows, best}
use Rattle.thr_parts.specs.Moves.{block_if}
use Rattle.thr_parts.specs.Mutexes.{Locks, mutex_at, mutexes_with, with_mutex, owner_in, owner, waiters_row}
use Rattle.thr_parts.specs.Locking.{held_reply, relock_reply, lock_reply, taken, as_taken, unlock_reply, is_held_by, is_last, is_free, one_less, owned_by, lock, trylock, unlock}
use Rattle.thr_parts.specs.Locking as locking
use Rattle.thr_parts.specs.Conditions.{Conds, waits_otherwise, owner_reply, wait_reply, timedwait_reply, begin_wait, wait, timedwait}
use Rattle.thr_parts.specs.Waking.{pull_out, mutex_with, resume, gift_of, wake_all}
use Rattle.thr_parts.proofs.TableLaws.{get_put}
use Rattle.thr_model.specs.Turns.{thread_line, gift_lines}
use Rattle.thr_model.specs.Calls.{Gifts, gifts_of}
use Rattle.thr_laws.specs.Owners.{Lock, is_same_lock, Use, Gives, Unlocks, GivesUp, Nothing, used_if, Owner, owned, is_owner, is_recursive, locked_by, depth_left, unlocked, owner_if, owner_after}
use Rattle.thr_laws.specs.Owners as told
use Rattle.thr_owners.specs.Told.{as_told, IsTold, View, view}
use Rattle.thr_owners.proofs.Carrying.{Carries, no_line, then_lines, Does, AllUse, line_carries}

-- ---- names

pub same_lock : (m n : Lock) → is_same_lock m n ≡ true → m ≡ n
same_lock None None e = refl
same_lock None (Some n) e = absurd (false≢true e)
same_lock (Some m) None e = absurd (false≢true e)
same_lock (Some m) (Some n) e = ap (λ (i : ℕ). let name : NameId = record { 0 = i } in let lock : Lock = Some name in lock) (eqb-true m.0 n.0 e)

-- ---- the state

-- The mutex of the same kind, owned as f says.
abbrev pub with_held : (Option Held → Option Held) → Mutex → Mutex
with_held f x = record { kind = x.kind; held = f x.held }

-- The same of one that is there, or nothing changes.
abbrev pub changed : Bool → (Option Held → Option Held) → Option Mutex → Option Mutex
changed true f u = option_map (with_held f) u
changed false f u = u

none_at : (b : Bool) (f : Option Held → Option Held) (u : Option Mutex) → (b ≡ true → u ≡ None) → u ≡ changed b f u
none_at true f u h = h refl ∙ sym (ap (changed true f) (h refl))
none_at false f u h = refl

some_at : (b : Bool) (f : Option Held → Option Held) (x : Mutex) (u : Option Mutex) → (b ≡ true → u ≡ Some x) → cond b (Some (with_held f x)) u ≡ changed b f u
some_at true f x u h = sym (ap (changed true f) (h refl))
some_at false f x u h = refl

at_name : (mutexes : Table Mutex) (m : NameId) (k : ℕ) (f : Option Held → Option Held) (u : Option Mutex) → get mutexes m.0 ≡ u
    → get (mutexes_with mutexes (Some m) (option_map (with_held f) u)) k ≡ changed (eqb m.0 k) f (get mutexes k)
at_name mutexes m k f None e = none_at (eqb m.0 k) f (get mutexes k) (λ s. ap (get mutexes) (sym (eqb-true m.0 k s)) ∙ e)
at_name mutexes m k f (Some x) e =
    get_put mutexes m.0 k (with_held f x) ∙ some_at (eqb m.0 k) f x (get mutexes k) (λ s. ap (get mutexes) (sym (eqb-true m.0 k s)) ∙ e)

-- What becomes of a lock where one is changed, or where none is.
pub changed_at : (ls : Locks) (lock m : Lock) (b : Bool) (f : Option Held → Option Held)
    → mutex_at (with_mutex ls m (keep_if b (option_map (with_held f) (mutex_at ls m)))) lock ≡ changed (b && is_same_lock m lock) f (mutex_at ls lock)
changed_at ls None None false f = refl
changed_at ls None (Some m) false f = refl
changed_at ls (Some k) None false f = refl
changed_at ls (Some k) (Some m) false f = refl
changed_at ls None None true f = refl
changed_at ls None (Some m) true f = refl
changed_at ls (Some k) None true f = refl
changed_at ls (Some k) (Some m) true f = at_name ls.mutexes m k.0 f (get ls.mutexes m.0) refl

-- Lines that lead to what the lock is then.
pub carry_to : (lock : Lock) (v : View) (kinds : Table Kind) (x y : Option Mutex) (lines : List Entry) → y ≡ x
    → (let a : View = record { kinds = kinds; mutex = x } in Carries lock v a lines)
    → (let b : View = record { kinds = kinds; mutex = y } in Carries lock v b lines)
carry_to lock v kinds x y lines e c = subst (λ u. let a : View = record { kinds = kinds; mutex = u } in Carries lock v a lines) (sym e) c

-- ---- one use of the lock itself

by_name : (s may : Bool) (f : Option Held → Option Held) (u : Option Mutex) (kind : Kind) (o after : Option Owner) → IsTold u kind o
    → (s ≡ true → (may ≡ true) × IsTold (option_map (with_held f) u) kind after) → ((not s || may) ≡ true) × IsTold (changed s f u) kind (owner_if s after o)
by_name true may f u kind o after a h = h refl
by_name false may f u kind o after a h = (refl, a)

taken_again : (kind : Kind) (h : Held) (t : Tid) (b : Bool) → locking.is_owner h t ≡ b → is_done (if b then relock_reply kind else reply.Blocks) ≡ true
    → ((is_recursive kind && b) ≡ true) × (locked_by t.0 (as_told (Some h)) ≡ as_told (Some (taken (Some h) t)))
taken_again Fast h t true is e = absurd (cc)
taken_again Nonrecursive h t true is e = absurd (cc)
taken_again Recursive h t true is e = (refl, ap (λ b. if b then owned t.0 (h.depth + 1) else owned t.0 1) is)
taken_again kind h t false is e = absurd (cc)

taken_held : (kind : Kind) (h : Option Held) (t : Tid) → is_done (held_reply kind h t) ≡ true
    → ((is_none (as_told h) || (is_recursive kind && is_owner t.0 (as_told h))) ≡ true) × (locked_by t.0 (as_told h) ≡ as_told (Some (taken h t)))
taken_held kind None t e = (refl, refl)
taken_held kind (Some h) t e = taken_again kind h t (locking.is_owner h t) refl e

-- One that a lock takes.
abbrev takes : Tid → Option Held → Option Held
takes t h = Some (taken h t)

take_mutex : (u : Option Mutex) (t : Tid) (kind : Kind) (o : Option Owner) → is_done (lock_reply u t) ≡ true → IsTold u kind o
    → ((is_none o || (is_recursive kind && is_owner t.0 o)) ≡ true) × IsTold (option_map (with_held (takes t)) u) kind (locked_by t.0 o)
take_mutex None t kind o e a = absurd (cc)
take_mutex (Some x) t kind o e a =
    let c = taken_held x.kind x.held t e in
    (ap (λ k. is_none o || (is_recursive k && is_owner t.0 o)) a.0 ∙ ap (λ v. is_none v || (is_recursive x.kind && is_owner t.0 v)) a.1 ∙ c.0, (a.0, ap (locked_by t.0) a.1 ∙ c.1))

taking : (lock m : Lock) (u : Option Mutex) (t : Tid) (b : Bool) → (b ≡ true → is_same_lock m lock ≡ true → is_done (lock_reply u t) ≡ true)
    → AllUse lock t.0 (used_if b (told.Locks m)) u (changed (b && is_same_lock m lock) (takes t) u)
taking lock m u t false d kind o a = record { may = refl; lock_told = a }
taking lock m u t true d kind o a =
    let x =
    by_name (is_same_lock m lock) (is_none o || (is_recursive kind && is_owner t.0 o)) (takes t) u kind o (locked_by t.0 o) a (λ s. take_mutex u t kind o (d refl s) a) in
    record { may = x.0; lock_told = x.1 }

-- One that is free when a thread is given it.
free_held : (h : Option Held) (t : Tid) (o : Option Owner) → is_none h ≡ true → o ≡ as_told h → (is_none o ≡ true) × (owned t.0 1 ≡ as_told (Some (taken h t)))
free_held None t o e a = (ap is_none a, refl)
free_held (Some h) t o e a = absurd (cc)

take_free : (u : Option Mutex) (t : Tid) (kind : Kind) (o : Option Owner) → is_free u ≡ true → IsTold u kind o
    → (is_none o ≡ true) × IsTold (option_map (with_held (takes t)) u) kind (owned t.0 1)
take_free None t kind o e a = absurd (cc)
take_free (Some x) t kind o e a = let c = free_held x.held t o e a.1 in (c.0, (a.0, c.1))

getting : (lock m : Lock) (u : Option Mutex) (t : Tid) → (is_same_lock m lock ≡ true → is_free u ≡ true)
    → AllUse lock t.0 (Gives m) u (changed (is_same_lock m lock) (takes t) u)
getting lock m u t d kind o a =
    let x = by_name (is_same_lock m lock) (is_none o) (takes t) u kind o (owned t.0 1) a (λ s. take_free u t kind o (d s) a) in record { may = x.0; lock_told = x.1 }

-- One that is unlocked.
less : (t : Tid) (d : ℕ) (b : Bool) → nat_le d 1 ≡ b → depth_left t.0 d ≡ as_told (if b then None else Some (record { owner = t; depth = d - 1 }))
less t zero true e = refl
less t zero false e = absurd (cc)
less t (suc zero) true e = refl
less t (suc zero) false e = absurd (cc)
less t (suc (suc d)) true e = grind (arith, nat_tests)
less t (suc (suc d)) false e = let one_less : suc d ≡ suc (suc d) - 1 = omega arith in ap (λ (n : ℕ). owned t.0 n) one_less

owns_it : (b : Bool) → is_done (if b then reply.Done else reply.Eperm) ≡ true → b ≡ true
owns_it true e = refl
owns_it false e = absurd (cc)

unlock_held : (h : Option Held) (t : Tid) (o : Option Owner) → is_done (if is_held_by h t then reply.Done else reply.Eperm) ≡ true → o ≡ as_told h
    → (is_owner t.0 o ≡ true) × (unlocked o ≡ as_told (locking.held_after None h))
unlock_held None t o e a = absurd (cc)
unlock_held (Some h) t o e a = (ap (is_owner t.0) a ∙ owns_it (locking.is_owner h t) e, ap unlocked a ∙ less h.owner h.depth (nat_le h.depth 1) refl)

unlock_mutex : (u : Option Mutex) (t : Tid) (kind : Kind) (o : Option Owner) → is_done (unlock_reply u t) ≡ true → IsTold u kind o
    → (is_owner t.0 o ≡ true) × IsTold (option_map (with_held (locking.held_after None)) u) kind (unlocked o)
unlock_mutex None t kind o e a = absurd (cc)
unlock_mutex (Some x) t kind o e a = let c = unlock_held x.held t o e a.1 in (c.0, (a.0, c.1))

unlocking : (lock m : Lock) (u : Option Mutex) (t : Tid) (b : Bool) → (b ≡ true → is_same_lock m lock ≡ true → is_done (unlock_reply u t) ≡ true)
    → AllUse lock t.0 (used_if b (Unlocks m)) u (changed (b && is_same_lock m lock) (locking.held_after None) u)
unlocking lock m u t false d kind o a = record { may = refl; lock_told = a }
unlocking lock m u t true d kind o a =
    let x =
    by_name (is_same_lock m lock) (is_owner t.0 o) (locking.held_after None) u kind o (unlocked o) a (λ s. unlock_mutex u t kind o (d refl s) a) in
    record { may = x.0; lock_told = x.1 }

-- One that a wait gives up.
give_up_held : (h : Option Held) (t : Tid) (o : Option Owner) → is_held_by h t ≡ true → is_last h ≡ true → o ≡ as_told h
    → (is_owner t.0 o ≡ true) × (None ≡ as_told (locking.held_after None h))
give_up_held None t o e l a = absurd (cc)
give_up_held (Some h) t o e l a = (ap (is_owner t.0) a ∙ e, sym (ap (λ b. as_told (if b then None else Some (one_less h))) l))

give_up_mutex : (u : Option Mutex) (t : Tid) (kind : Kind) (o : Option Owner) → is_held_by (owner_in u) t ≡ true → is_last (owner_in u) ≡ true → IsTold u kind o
    → (is_owner t.0 o ≡ true) × IsTold (option_map (with_held (locking.held_after None)) u) kind None
give_up_mutex None t kind o e l a = absurd (cc)
give_up_mutex (Some x) t kind o e l a = let c = give_up_held x.held t o e l a.1 in (c.0, (a.0, c.1))

-- The thread owns it, once.
pub record OwnsOnce (u : Option Mutex) (t : Tid) : Type 0 where
  pub held : is_held_by (owner_in u) t ≡ true
  pub last : is_last (owner_in u) ≡ true

giving_up : (lock m : Lock) (u : Option Mutex) (t : Tid) (b : Bool) → (b ≡ true → is_same_lock m lock ≡ true → OwnsOnce u t)
    → AllUse lock t.0 (used_if b (GivesUp m)) u (changed (b && is_same_lock m lock) (locking.held_after None) u)
giving_up lock m u t false d kind o a = record { may = refl; lock_told = a }
giving_up lock m u t true d kind o a =
    let x =
    by_name (is_same_lock m lock) (is_owner t.0 o) (locking.held_after None) u kind o None a
    (λ s. let h : OwnsOnce u t = d refl s in give_up_mutex u t kind o h.held h.last a) in
    record { may = x.0; lock_told = x.1 }

-- One that is handed on when it was given up.
handed_held : (h : Option Held) (w : Tid) (o : Option Owner) → is_last h ≡ true → o ≡ as_told (locking.held_after None h)
    → (is_none o ≡ true) × (owned w.0 1 ≡ as_told (locking.held_after (Some w) h))
handed_held h w o l a =
    (ap is_none a ∙ ap (λ b. is_none (as_told (if b then None else option_map one_less h))) l, sym (ap (λ b. as_told (if b then Some (owned_by w) else option_map one_less h)) l))

-- It is there, and locked once at most.
pub record IsThereOnce (u : Option Mutex) : Type 0 where
  pub there : is_some u ≡ true
  pub last : is_last (owner_in u) ≡ true

handed_mutex : (u : Option Mutex) (w : Tid) (kind : Kind) (o : Option Owner) → IsThereOnce u → IsTold (option_map (with_held (locking.held_after None)) u) kind o
    → (is_none o ≡ true) × IsTold (option_map (with_held (locking.held_after (Some w))) u) kind (owned w.0 1)
handed_mutex None w kind o d a = absurd (cc d.there)
handed_mutex (Some x) w kind o d a = let c = handed_held x.held w o d.last a.1 in (c.0, (a.0, c.1))

by_name_again : (s may : Bool) (f g : Option Held → Option Held) (u : Option Mutex) (kind : Kind) (o after : Option Owner) → IsTold (changed s f u) kind o
    → (s ≡ true → IsTold (option_map (with_held f) u) kind o → (may ≡ true) × IsTold (option_map (with_held g) u) kind after)
    → ((not s || may) ≡ true) × IsTold (changed s g u) kind (owner_if s after o)
by_name_again true may f g u kind o after a h = h refl a
by_name_again false may f g u kind o after a h = (refl, a)

handing : (lock m : Lock) (u : Option Mutex) (w : Tid) → (is_same_lock m lock ≡ true → IsThereOnce u)
    → AllUse lock w.0 (Gives m) (changed (is_same_lock m lock) (locking.held_after None) u) (changed (is_same_lock m lock) (locking.held_after (Some w)) u)
handing lock m u w d kind o a =
    let x =
    by_name_again (is_same_lock m lock) (is_none o) (locking.held_after None) (locking.held_after (Some w)) u kind o (owned w.0 1) a
    (λ s b. handed_mutex u w kind o (d s) b) in
    record { may = x.0; lock_told = x.1 }

-- ---- lines

gift_does : (m : Lock) → Does (what.Gift m) (Gives m)
gift_does m = record { using = refl; cells = λ cells. refl; kind = λ lock cells kind. refl }

-- A line by which a lock is given up, and that of the thread to which it is handed on, if one is.
given_up : (lock m : Lock) (v : View) (t : Tid) (w : What) (x : Use) (b hands : Bool) (n : Option Tid) → Does w x
    → AllUse lock t.0 x v.mutex (changed (b && is_same_lock m lock) (locking.held_after None) v.mutex)
    → (hands ≡ true → b ≡ true) → (hands ≡ true → is_same_lock m lock ≡ true → IsThereOnce v.mutex)
    → (let next : Option Tid = keep_if hands n in
    let after : View = record { kinds = v.kinds; mutex = changed (b && is_same_lock m lock) (locking.held_after next) v.mutex } in
    Carries lock v after (thread_line t w ∷ gift_lines (gifts_of next m)))
given_up lock m v t w x b false n does all given once = line_carries lock t w x v.kinds v.mutex _ does all
given_up lock m v t w x b true None does all given once = line_carries lock t w x v.kinds v.mutex _ does all
given_up lock m v t w x false true (Some next) does all given once = absurd (false≢true (given refl))
given_up lock m v t w x true true (Some next) does all given once =
    let between : View = record { kinds = v.kinds; mutex = changed (is_same_lock m lock) (locking.held_after None) v.mutex } in
    let after : View = record { kinds = v.kinds; mutex = changed (is_same_lock m lock) (locking.held_after (Some next)) v.mutex } in
    then_lines lock v between after (thread_line t w ∷ []) (thread_line next (what.Gift m) ∷ [])
    (line_carries lock t w x v.kinds v.mutex between.mutex does all)
    (line_carries lock next (what.Gift m) (Gives m) v.kinds between.mutex after.mutex (gift_does m) (handing lock m v.mutex next (once refl)))

-- ---- lock, trylock and unlock

pub lock_carries : (k m : Lock) (ls : Locks) (rs : Rows) (t : Tid) (rank : ℕ) (w : What) → Does w (used_if (is_done (lock_reply (mutex_at ls m) t)) (told.Locks m))
    → Carries k (view k ls) (view k (lock ls rs m t rank).locks) (thread_line t w ∷ [])
lock_carries k m ls rs t rank w d =
    let b : Bool = is_done (lock_reply (mutex_at ls m) t) in
    carry_to k (view k ls) ls.kinds _ _ (thread_line t w ∷ []) (changed_at ls k m b (takes t))
    (line_carries k t w (used_if b (told.Locks m)) ls.kinds (mutex_at ls k) _ d
    (taking k m (mutex_at ls k) t b (λ e s. subst (λ (v : Lock). is_done (lock_reply (mutex_at ls v) t) ≡ true) (same_lock m k s) e)))

pub trylock_carries : (k : Lock) (m : NameId) (ls : Locks) (t : Tid) (w : What) → Does w (used_if (is_done (lock_reply (mutex_at ls (Some m)) t)) (told.Locks (Some m)))
    → Carries k (view k ls) (view k (trylock ls m t).locks) (thread_line t w ∷ [])
trylock_carries k m ls t w d =
    let b : Bool = is_done (lock_reply (mutex_at ls (Some m)) t) in
    carry_to k (view k ls) ls.kinds _ _ (thread_line t w ∷ []) (changed_at ls k (Some m) b (takes t))
    (line_carries k t w (used_if b (told.Locks (Some m))) ls.kinds (mutex_at ls k) _ d
    (taking k (Some m) (mutex_at ls k) t b (λ e s. subst (λ (v : Lock). is_done (lock_reply (mutex_at ls v) t) ≡ true) (same_lock (Some m) k s) e)))

pub unlock_there : (u : Option Mutex) (t : Tid) → is_done (unlock_reply u t) ≡ true → is_some u ≡ true
unlock_there None t e = absurd (cc)
unlock_there (Some x) t e = refl

last_given : (b l : Bool) → (b && l) ≡ true → (b ≡ true) × (l ≡ true)
last_given true l e = (refl, e)
last_given false l e = absurd (cc)

pub unlock_carries : (k m : Lock) (ls : Locks) (rs : Rows) (t : Tid) (w : What) → Does w (used_if (is_done (unlock_reply (mutex_at ls m) t)) (Unlocks m))
    → Carries k (view k ls) (view k (unlock ls rs m t).locks) (thread_line t w ∷ gift_lines (gifts_of (unlock ls rs m t).given m))
unlock_carries k m ls rs t w d =
    let b : Bool = is_done (unlock_reply (mutex_at ls m) t) in
    let hands : Bool = b && is_last (owner ls m) in
    let next : Option Tid = keep_if hands (best rs (waiters_row m)) in
    carry_to k (view k ls) ls.kinds _ _ (thread_line t w ∷ gift_lines (gifts_of next m)) (changed_at ls k m b (locking.held_after next))
    (given_up k m (view k ls) t w (used_if b (Unlocks m)) b hands (best rs (waiters_row m)) d
    (unlocking k m (mutex_at ls k) t b (λ e s. subst (λ (v : Lock). is_done (unlock_reply (mutex_at ls v) t) ≡ true) (same_lock m k s) e))
    (λ e. (last_given b (is_last (owner ls m)) e).0)
    (λ e s. let p = last_given b (is_last (owner ls m)) e in
    subst (λ (v : Lock). IsThereOnce (mutex_at ls v)) (same_lock m k s) (record { there = unlock_there (mutex_at ls m) t p.0; last = p.1 })))

-- ---- waits that begin

pub held_there : (u : Option Mutex) (t : Tid) → is_held_by (owner_in u) t ≡ true → is_some u ≡ true
held_there None t e = absurd (cc)
held_there (Some x) t e = refl

begin_carries : (k : Lock) (cs : Conds) (ls : Locks) (rs : Rows) (c m : NameId) (until : Option ℤ) (t : Tid) (rank : ℕ) (said : Reply) (w : What) → Does w (used_if (is_blocks said) (GivesUp (Some m)))
    → (is_blocks said ≡ true → OwnsOnce (mutex_at ls (Some m)) t)
    → (let o = begin_wait cs ls rs c m until t rank said in Carries k (view k ls) (view k o.locks) (thread_line t w ∷ gift_lines (gifts_of o.given (Some m))))
begin_carries k cs ls rs c m until t rank said w d owns =
    let b : Bool = is_blocks said in
    let n : Option Tid = best (block_if b rs (row.Cond c) t rank) (row.Mutex m) in
    let next : Option Tid = keep_if b n in
    carry_to k (view k ls) ls.kinds _ _ (thread_line t w ∷ gift_lines (gifts_of next (Some m))) (changed_at ls k (Some m) b (locking.held_after next))
    (given_up k (Some m) (view k ls) t w (used_if b (GivesUp (Some m))) b b n d
    (giving_up k (Some m) (mutex_at ls k) t b (λ e s. subst (λ (v : Lock). OwnsOnce (mutex_at ls v) t) (same_lock (Some m) k s) (owns e)))
    (λ e. e)
    (λ e s. let p : OwnsOnce (mutex_at ls (Some m)) t = owns e in
    subst (λ (v : Lock). IsThereOnce (mutex_at ls v)) (same_lock (Some m) k s) (record { there = held_there (mutex_at ls (Some m)) t p.held; last = p.last })))

blocks_by : (made held last right : Bool) → is_blocks (if made then owner_reply held (last && right) else reply.Einval) ≡ true → (held ≡ true) × (last ≡ true)
blocks_by true true true right e = (refl, refl)
blocks_by true true false right e = absurd (cc)
blocks_by true false last right e = absurd (cc)
blocks_by false held last right e = absurd (cc)

pub wait_owns : (cs : Conds) (ls : Locks) (c m : NameId) (t : Tid) → is_blocks (wait_reply cs ls c m t) ≡ true → OwnsOnce (mutex_at ls (Some m)) t
wait_owns cs ls c m t e =
    let p =
    blocks_by (has cs.made c.0 && has ls.mutexes m.0) (is_held_by (owner ls (Some m)) t) (is_last (owner ls (Some m))) (not (waits_otherwise cs c m)) e in
    record { held = p.0; last = p.1 }

pub timed_blocks : (y : Reply) (b : Bool) → is_blocks (timedwait_reply y b) ≡ true → is_blocks y ≡ true
timed_blocks reply.Blocks b e = refl
timed_blocks _ b e = e

pub wait_carries : (k : Lock) (cs : Conds) (ls : Locks) (rs : Rows) (c m : NameId) (t : Tid) (rank : ℕ) (w : What) → Does w (used_if (is_blocks (wait_reply cs ls c m t)) (GivesUp (Some m)))
    → (let o = wait cs ls rs c m t rank in Carries k (view k ls) (view k o.locks) (thread_line t w ∷ gift_lines (gifts_of o.given (Some m))))
wait_carries k cs ls rs c m t rank w d = begin_carries k cs ls rs c m None t rank (wait_reply cs ls c m t) w d (wait_owns cs ls c m t)

pub timedwait_carries : (k : Lock) (cs : Conds) (ls : Locks) (rs : Rows) (c m : NameId) (until now : ℤ) (t : Tid) (rank : ℕ) (w : What)
    → Does w (used_if (is_blocks (timedwait_reply (wait_reply cs ls c m t) (int_le until now))) (GivesUp (Some m)))
    → (let o = timedwait cs ls rs c m until now t rank in Carries k (view k ls) (view k o.locks) (thread_line t w ∷ gift_lines (gifts_of o.given (Some m))))
timedwait_carries k cs ls rs c m until now t rank w d =
    let past : Bool = int_le until now in
    begin_carries k cs ls rs c m (Some until) t rank (timedwait_reply (wait_reply cs ls c m t) past) w d
    (λ e. wait_owns cs ls c m t (timed_blocks (wait_reply cs ls c m t) past e))

-- ---- waits that end

-- A thread that left a condition is given its mutex, or none is.
pub regain_carries : (k : Lock) (m : NameId) (ls : Locks) (t : Tid) (b : Bool) → is_free (mutex_at ls (Some m)) ≡ b
    → Carries k (view k ls) (view k (with_mutex ls (Some m) (keep_if b (option_map (as_taken t) (mutex_at ls (Some m)))))) (gift_lines (if b then (t, Some m) ∷ [] else []))
regain_carries k m ls t true is =
    carry_to k (view k ls) ls.kinds _ _ (thread_line t (what.Gift (Some m)) ∷ []) (changed_at ls k (Some m) true (takes t))
    (line_carries k t (what.Gift (Some m)) (Gives (Some m)) ls.kinds (mutex_at ls k) _ (gift_does (Some m))
    (getting k (Some m) (mutex_at ls k) t (λ s. subst (λ (v : Lock). is_free (mutex_at ls v) ≡ true) (same_lock (Some m) k s) is)))
regain_carries k m ls t false is =
    carry_to k (view k ls) ls.kinds _ _ [] (changed_at ls k (Some m) false (takes t)) (no_line k (view k ls))

-- The gifts of mutexes as gifts of locks.
abbrev pub as_gifts : List (Tid × NameId) → Gifts
as_gifts gs = map (λ g. (g.0, Some g.1)) gs

pub gift_carries : (k : Lock) (rank : Tid → ℕ) (ls : Locks) (rs : Rows) (t : Tid) (o : Option NameId)
    → (let x = resume rank ls rs t o in Carries k (view k ls) (view k x.locks) (gift_lines (as_gifts (gift_of t o x.gets))))
gift_carries k rank ls rs t None = no_line k (view k ls)
gift_carries k rank ls rs t (Some m) = by (is_free (mutex_at ls (Some m))) refl
  where
    by : (b : Bool) → is_free (mutex_at ls (Some m)) ≡ b
        → Carries k (view k ls) (view k (with_mutex ls (Some m) (keep_if b (option_map (as_taken t) (mutex_at ls (Some m)))))) (gift_lines (as_gifts (gift_of t (Some m) b)))
    by true is = regain_carries k m ls t true is
    by false is = regain_carries k m ls t false is

gift_then : (k : Lock) (v w : View) (t : Tid) (o : Option NameId) (b : Bool) (u : View) (rest : List (Tid × NameId)) → Carries k v w (gift_lines (as_gifts (gift_of t o b)))
    → Carries k w u (gift_lines (as_gifts rest)) → Carries k v u (gift_lines (as_gifts (gift_of t o b ++ rest)))
gift_then k v w t None b u rest p q = then_lines k v w u [] (gift_lines (as_gifts rest)) p q
gift_then k v w t (Some m) true u rest p q = then_lines k v w u (thread_line t (what.Gift (Some m)) ∷ []) (gift_lines (as_gifts rest)) p q
gift_then k v w t (Some m) false u rest p q = then_lines k v w u [] (gift_lines (as_gifts rest)) p q

-- Threads that leave their waits one after the other.
pub wake_all_carries : (k : Lock) (rank : Tid → ℕ) (cs : Conds) (ls : Locks) (rs : Rows) (ts : List Tid)
    → (let o = wake_all rank cs ls rs ts in Carries k (view k ls) (view k o.locks) (gift_lines (as_gifts o.gifts)))
unfolding wake_all
wake_all_carries k rank cs ls rs [] = no_line k (view k ls)
wake_all_carries k rank cs ls rs (t ∷ ts) =
    let left = pull_out cs rs t in
    let x = resume rank ls left.rows t (mutex_with cs t) in
    let rest = wake_all rank left.conds x.locks x.rows ts in
    gift_then k (view k ls) (view k x.locks) t (mutex_with cs t) x.gets (view k rest.locks) rest.gifts (gift_carries k rank ls left.rows t (mutex_with cs t))
    (wake_all_carries k rank left.conds x.locks x.rows ts)

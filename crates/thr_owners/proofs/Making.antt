-- Attribute cells and mutexes that are made, set, deleted and destroyed, in the state and along the lines.
use Rattle.std.proofs.Common.{◌≡◌, ℕ, Bool, true, false, not, ◌||◌, cond, eqb, List, [], ◌∷◌, Option, Some, None, refl, sym, ap, ◌∙◌, subst}
use Rattle.std.specs.Prelude.{if◌then◌else◌, ◌==◌, unwrap_or}
use Rattle.std.specs.Option.{option_map, is_some}
use Rattle.std.proofs.lemmas.Bool.{eqb-true}
use Rattle.thr_values.specs.declared.number.NameId.{NameId}
use Rattle.thr_values.specs.declared.number.Tid.{Tid}
use Rattle.thr_values.specs.declared.call.Arg.{Arg}
use Rattle.thr_values.specs.declared.call.Arg.TheVariants as arg
use Rattle.thr_values.specs.declared.call.CallWord.TheVariants as word
use Rattle.thr_values.specs.declared.history.What.{What}
use Rattle.thr_values.specs.declared.history.What.TheVariants as what
use Rattle.thr_values.specs.declared.reply.Kind.{Kind}
use Rattle.thr_values.specs.declared.reply.Kind.TheVariants.{Fast, Recursive, Nonrecursive}
use Rattle.thr_remainder.specs.Calls.{kind_place}
use Rattle.thr_parts.specs.declared.mutex.Held.{Held}
use Rattle.thr_parts.specs.declared.mutex.Mutex.{Mutex}
use Rattle.thr_parts.specs.Tables.{Table, get, has, put, put_if, cut, cut_if, keep_if}
use Rattle.thr_parts.specs.Replies.{is_done, making_reply, made_reply}
use Rattle.thr_parts.specs.declared.row.RowId.TheVariants as row
use Rattle.thr_parts.specs.Rows.{Rows, best}
use Rattle.thr_parts.specs.Mutexes.{Locks, with_kinds, with_mutexes, mutexattr_create, mutexattr_delete, setkind, kind_at, init_reply, free_mutex, init, mutex_at, owner_in, owner, is_used, destroy_reply, destroy}
use Rattle.thr_parts.proofs.TableLaws.{get_put, get_cut, has_get}
use Rattle.thr_model.specs.Turns.{thread_line}
use Rattle.thr_laws.specs.Owners.{Lock, Cells, kind_in, kind_word, kind_by, kind_done, Owner}
use Rattle.thr_owners.specs.Told.{as_told, IsKind, IsTold, View, view}
use Rattle.thr_owners.proofs.Carrying.{Carries, IsAside, aside_carries}

-- ---- cells

-- What is told of each cell is its kind where it is made.
abbrev AreKinds : Table Kind → Cells → Type 0
AreKinds kinds cells = (cell : ℕ) → IsKind (get kinds cell) (kind_in cells cell)

either_kind : (b : Bool) (x : Kind) (o : Option Kind) (kind : Kind) → IsKind o kind → IsKind (cond b (Some x) o) (if b then x else kind)
either_kind true x o kind h = refl
either_kind false x o kind h = h

kinds_put : (kinds : Table Kind) (cells : Cells) (a : ℕ) (x : Kind) → AreKinds kinds cells → AreKinds (put kinds a x) ((a, x) ∷ cells)
kinds_put kinds cells a x h q =
    subst (λ o. IsKind o (if eqb a q then x else kind_in cells q)) (sym (get_put kinds a q x)) (either_kind (eqb a q) x (get kinds q) (kind_in cells q) (h q))

no_kind_there : (b : Bool) (o : Option Kind) (kind : Kind) → IsKind o kind → IsKind (cond b None o) kind
no_kind_there true o kind h = tt
no_kind_there false o kind h = h

kinds_cut : (kinds : Table Kind) (cells : Cells) (a : ℕ) → AreKinds kinds cells → AreKinds (cut kinds a) cells
kinds_cut kinds cells a h q = subst (λ o. IsKind o (kind_in cells q)) (sym (get_cut kinds a q)) (no_kind_there (eqb a q) (get kinds q) (kind_in cells q) (h q))

place_kind : (kind : Kind) → kind_word (kind_place kind) ≡ kind
place_kind Fast = refl
place_kind Recursive = refl
place_kind Nonrecursive = refl

-- The kinds of cells are no part of a lock.
apart : (ls : Locks) (kinds : Table Kind) (k : Lock) → mutex_at (with_kinds ls kinds) k ≡ mutex_at ls k
apart ls kinds None = refl
apart ls kinds (Some m) = refl

told_as : (u v : Option Mutex) (kind x : Kind) (o : Option Owner) → v ≡ u → x ≡ kind → IsTold u kind o → IsTold v x o
told_as u v kind x o e f h = subst (λ y. IsTold v y o) (sym f) (subst (λ y. IsTold y kind o) (sym e) h)

create_tells : (k : Lock) (args : List Arg) (cells : Cells) (kind : Kind) → kind_done k word.MutexattrCreate args cells kind ≡ kind
create_tells None args cells kind = refl
create_tells (Some m) args cells kind = refl

set_tells : (k : Lock) (args : List Arg) (cells : Cells) (kind : Kind) → kind_done k word.MutexattrSetkindNp args cells kind ≡ kind
set_tells None args cells kind = refl
set_tells (Some m) args cells kind = refl

-- A cell is made.
create_by : (k : Lock) (ls : Locks) (a : NameId) (t : Tid) (args : List Arg) (b : Bool)
    → Carries k (view k ls) (view k (with_kinds ls (put_if ls.kinds a.0 (keep_if (not b) (Some Fast))))) (thread_line t (what.Call word.MutexattrCreate (arg.Name a ∷ args) (making_reply b)) ∷ [])
create_by k ls a t args true h g = record {
  fit = refl;
  agrees = record { cells = g.cells; lock = told_as (mutex_at ls k) _ h.kind _ h.owner (apart ls ls.kinds k) refl g.lock };
}
create_by k ls a t args false h g = record {
  fit = refl;
  agrees = record {
    cells = kinds_put ls.kinds h.cells a.0 Fast g.cells;
    lock =
        told_as (mutex_at ls k) _ h.kind _ h.owner (apart ls (put ls.kinds a.0 Fast) k) (create_tells k (arg.Name a ∷ args) h.cells h.kind) g.lock;
  };
}

pub create_carries : (k : Lock) (ls : Locks) (a : NameId) (t : Tid) (args : List Arg)
    → (let o = mutexattr_create ls a in Carries k (view k ls) (view k o.locks) (thread_line t (what.Call word.MutexattrCreate (arg.Name a ∷ args) o.reply) ∷ []))
create_carries k ls a t args = create_by k ls a t args (has ls.kinds a.0)

-- A cell gets a kind.
set_by : (k : Lock) (ls : Locks) (a : NameId) (kind : Kind) (t : Tid) (args : List Arg) (b : Bool)
    → Carries k (view k ls) (view k (with_kinds ls (put_if ls.kinds a.0 (keep_if b (Some kind)))))
    (thread_line t (what.Call word.MutexattrSetkindNp (arg.Name a ∷ arg.Word (kind_place kind) ∷ args) (made_reply b)) ∷ [])
set_by k ls a kind t args false h g = record {
  fit = refl;
  agrees = record { cells = g.cells; lock = told_as (mutex_at ls k) _ h.kind _ h.owner (apart ls ls.kinds k) refl g.lock };
}
set_by k ls a kind t args true h g = record {
  fit = refl;
  agrees = record {
    cells = subst (λ x. AreKinds (put ls.kinds a.0 kind) ((a.0, x) ∷ h.cells)) (sym (place_kind kind)) (kinds_put ls.kinds h.cells a.0 kind g.cells);
    lock =
        told_as (mutex_at ls k) _ h.kind _ h.owner (apart ls (put ls.kinds a.0 kind) k)
        (set_tells k (arg.Name a ∷ arg.Word (kind_place kind) ∷ args) h.cells h.kind) g.lock;
  };
}

pub set_carries : (k : Lock) (ls : Locks) (a : NameId) (kind : Kind) (t : Tid) (args : List Arg)
    → (let o = setkind ls a kind in
    Carries k (view k ls) (view k o.locks) (thread_line t (what.Call word.MutexattrSetkindNp (arg.Name a ∷ arg.Word (kind_place kind) ∷ args) o.reply) ∷ []))
set_carries k ls a kind t args = set_by k ls a kind t args (has ls.kinds a.0)

-- What the lines tell stays, and the state forgets something, or nothing.
record Forgets (v after : View) : Type 0 where
  cells : (cells : Cells) → AreKinds v.kinds cells → AreKinds after.kinds cells
  lock : (kind : Kind) (o : Option Owner) → IsTold v.mutex kind o → IsTold after.mutex kind o

forgets_carries : (k : Lock) (v after : View) (t : Tid) (w : What) → IsAside w → Forgets v after → Carries k v after (thread_line t w ∷ [])
forgets_carries k v after t w aside f h g =
    let x = aside_carries k v t w aside h g in record {
      fit = x.fit;
      agrees = record { cells = f.cells _ x.agrees.cells; lock = f.lock _ _ x.agrees.lock };
    }

-- A cell is deleted.
delete_by : (k : Lock) (ls : Locks) (a : NameId) (b : Bool) → Forgets (view k ls) (view k (with_kinds ls (cut_if b ls.kinds a.0)))
delete_by k ls a false = record {
  cells = λ cells h. h;
  lock = λ kind o h. told_as (mutex_at ls k) _ kind kind o (apart ls ls.kinds k) refl h;
}
delete_by k ls a true = record {
  cells = λ cells h. kinds_cut ls.kinds cells a.0 h;
  lock = λ kind o h. told_as (mutex_at ls k) _ kind kind o (apart ls (cut ls.kinds a.0) k) refl h;
}

pub delete_carries : (k : Lock) (ls : Locks) (a : NameId) (t : Tid) (w : What) → IsAside w → Carries k (view k ls) (view k (mutexattr_delete ls a).locks) (thread_line t w ∷ [])
delete_carries k ls a t w aside = forgets_carries k (view k ls) _ t w aside (delete_by k ls a (has ls.kinds a.0))

-- ---- mutexes

-- A mutex that is destroyed had no owner.
unowned : (u : Option Mutex) (kind : Kind) (o : Option Owner) → is_some (owner_in u) ≡ false → IsTold u kind o → o ≡ None
unowned None kind o e a = a
unowned (Some x) kind o e a = a.1 ∙ none_held x.held e
  where
    none_held : (h : Option Held) → is_some h ≡ false → as_told h ≡ None
    none_held None e = refl
    none_held (Some h) e = absurd (cc)

without : (b : Bool) (u : Option Mutex) (kind : Kind) (o : Option Owner) → (b ≡ true → is_some (owner_in u) ≡ false) → IsTold u kind o → IsTold (cond b None u) kind o
without true u kind o e a = unowned u kind o (e refl) a
without false u kind o e a = a

cut_at : (k : Lock) (ls : Locks) (m : NameId) (kind : Kind) (o : Option Owner) → is_some (owner ls (Some m)) ≡ false → IsTold (mutex_at ls k) kind o
    → IsTold (mutex_at (with_mutexes ls (cut ls.mutexes m.0)) k) kind o
cut_at None ls m kind o e h = h
cut_at (Some n) ls m kind o e h =
    subst (λ u. IsTold u kind o) (sym (get_cut ls.mutexes m.0 n.0))
    (without (eqb m.0 n.0) (get ls.mutexes n.0) kind o (λ s. ap (λ i. is_some (owner_in (get ls.mutexes i))) (sym (eqb-true m.0 n.0 s)) ∙ e) h)

same_at : (k : Lock) (ls : Locks) → mutex_at (with_mutexes ls ls.mutexes) k ≡ mutex_at ls k
same_at None ls = refl
same_at (Some n) ls = refl

destroy_by : (k : Lock) (ls : Locks) (m : NameId) (b : Bool) → (b ≡ true → is_some (owner ls (Some m)) ≡ false) → Forgets (view k ls) (view k (with_mutexes ls (cut_if b ls.mutexes m.0)))
destroy_by k ls m false e = record { cells = λ cells h. h; lock = λ kind o h. told_as (mutex_at ls k) _ kind kind o (same_at k ls) refl h }
destroy_by k ls m true e = record { cells = λ cells h. h; lock = λ kind o h. cut_at k ls m kind o (e refl) h }

unused : (made a b c : Bool) → is_done (destroy_reply made (a || b || c)) ≡ true → a ≡ false
unused true false b c e = refl
unused true true true c e = absurd (cc)
unused true true false c e = absurd (cc)
unused false a b c e = absurd (cc)

pub destroy_carries : (k : Lock) (ls : Locks) (rs : Rows) (m : NameId) (waits : Bool) (t : Tid) (w : What) → IsAside w
    → Carries k (view k ls) (view k (destroy ls rs m waits).locks) (thread_line t w ∷ [])
destroy_carries k ls rs m waits t w aside =
    forgets_carries k (view k ls) _ t w aside
    (destroy_by k ls m (is_done (destroy_reply (has ls.mutexes m.0) (is_used ls rs m waits)))
    (unused (has ls.mutexes m.0) (is_some (owner ls (Some m))) (is_some (best rs (row.Mutex m))) waits))

-- A mutex is made, of the kind of its cell.
abbrev pub named : Option NameId → Arg
named (Some a) = arg.Name a
named None = arg.Word 0

kind_of_cell : (ls : Locks) (cells : Cells) (a : Option NameId) (kind : Kind) → AreKinds ls.kinds cells → kind_at ls a ≡ Some kind → kind_by cells (named a) ≡ kind
kind_of_cell ls cells None kind h e = ap (λ o. unwrap_or o kind) e
kind_of_cell ls cells (Some a) kind h e = subst (λ o. IsKind o (kind_in cells a.0)) e (h a.0)

fresh : (b : Bool) (u : Option Mutex) (kind x : Kind) (o : Option Owner) → (b ≡ true → u ≡ None) → IsTold u kind o → IsTold (cond b (Some (free_mutex x)) u) (if b then x else kind) o
fresh true u kind x o e h = (refl, subst (λ y. IsTold y kind o) (e refl) h)
fresh false u kind x o e h = h

none_there : {A : Type 0} (o : Option A) → is_some o ≡ false → o ≡ None
none_there None e = refl
none_there (Some x) e = absurd (cc)

init_at : (k : Lock) (ls : Locks) (m : NameId) (cell : Arg) (args : List Arg) (made kind : Kind) (cells : Cells) (o : Option Owner) → kind_by cells cell ≡ made → has ls.mutexes m.0 ≡ false
    → IsTold (mutex_at ls k) kind o → IsTold (mutex_at (with_mutexes ls (put ls.mutexes m.0 (free_mutex made))) k) (kind_done k word.MutexInit (arg.Name m ∷ cell ∷ args) cells kind) o
init_at None ls m cell args made kind cells o e f h = h
init_at (Some n) ls m cell args made kind cells o e f h =
    subst (λ x. IsTold (get (put ls.mutexes m.0 (free_mutex made)) n.0) (if m.0 == n.0 then x else kind) o) (sym e)
    (subst (λ u. IsTold u (if m.0 == n.0 then made else kind) o) (sym (get_put ls.mutexes m.0 n.0 (free_mutex made)))
    (fresh (eqb m.0 n.0) (get ls.mutexes n.0) kind made o
    (λ s. ap (get ls.mutexes) (sym (eqb-true m.0 n.0 s)) ∙ none_there (get ls.mutexes m.0) (sym (has_get ls.mutexes m.0) ∙ f)) h))

init_by : (k : Lock) (ls : Locks) (m : NameId) (a : Option NameId) (t : Tid) (args : List Arg) (made : Option Kind) (b : Bool) → kind_at ls a ≡ made → has ls.mutexes m.0 ≡ b
    → Carries k (view k ls) (view k (with_mutexes ls (put_if ls.mutexes m.0 (keep_if (not b) (option_map free_mutex made)))))
    (thread_line t (what.Call word.MutexInit (arg.Name m ∷ named a ∷ args) (init_reply made b)) ∷ [])
init_by k ls m a t args None true e f h g = record { fit = refl; agrees = record { cells = g.cells; lock = told_as (mutex_at ls k) _ h.kind _ h.owner (same_at k ls) refl g.lock } }
init_by k ls m a t args None false e f h g = record { fit = refl; agrees = record { cells = g.cells; lock = told_as (mutex_at ls k) _ h.kind _ h.owner (same_at k ls) refl g.lock } }
init_by k ls m a t args (Some kind) true e f h g = record { fit = refl; agrees = record { cells = g.cells; lock = told_as (mutex_at ls k) _ h.kind _ h.owner (same_at k ls) refl g.lock } }
init_by k ls m a t args (Some kind) false e f h g = record {
  fit = refl;
  agrees = record { cells = g.cells; lock = init_at k ls m (named a) args kind h.kind h.cells h.owner (kind_of_cell ls h.cells a kind g.cells e) f g.lock };
}

pub init_carries : (k : Lock) (ls : Locks) (m : NameId) (a : Option NameId) (t : Tid) (args : List Arg)
    → (let o = init ls m a in Carries k (view k ls) (view k o.locks) (thread_line t (what.Call word.MutexInit (arg.Name m ∷ named a ∷ args) o.reply) ∷ []))
init_carries k ls m a t args = init_by k ls m a t args (kind_at ls a) (has ls.mutexes m.0) refl refl

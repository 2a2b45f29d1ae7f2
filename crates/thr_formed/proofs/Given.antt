-- The keys that are made and the mutexes with which threads wait are names of their kinds, and so are the mutexes that are given.
use Rattle.std.proofs.Common.{◌≡◌, ℕ, Bool, true, false, cond, eqb, List, [], ◌∷◌, ◌++◌, map, Option, Some, None, refl, sym, ◌∙◌, ap, subst, arith}
use Rattle.std.specs.Prelude.{if◌then◌else◌, is_some, ℤ}
use Rattle.std.specs.Option.{option_map, option_or, option_and_then}
use Rattle.std.proofs.lemmas.Bool.{false≢true}
use Rattle.std.proofs.lemmas.Bool.Decides.{nat_tests}
use Rattle.thr_values.specs.declared.number.NameId.{NameId}
use Rattle.thr_values.specs.declared.number.Tid.{Tid}
use Rattle.thr_syntax.specs.declared.tree.Script.{Script}
use Rattle.thr_text.specs.declared.object.Object.TheVariants as object
use Rattle.thr_trees.specs.Kinds.{is_name_of}
use Rattle.thr_parts.specs.declared.wait.Wait.{Wait}
use Rattle.thr_parts.specs.declared.wait.Wait.TheVariants.{Cond, Delay}
use Rattle.thr_parts.specs.Tables.{Table, none, get, put, put_if, keep_if, IsCanonical}
use Rattle.thr_parts.specs.Rows.{Rows}
use Rattle.thr_parts.specs.Mutexes.{Locks}
use Rattle.thr_parts.specs.Conditions.{Conds, mutex_of}
use Rattle.thr_parts.specs.Waking.{LeftWait, waits_without, pull_out, mutex_with, resume, gift_of, wake_all, beside_mutex}
use Rattle.thr_parts.specs.Keys.{Key, is_zero, DestructorCall, called_with, call_for, first_call, value_in}
use Rattle.thr_parts.proofs.EachLaws.{Each, IfThere, each_cut, if_there}
use Rattle.thr_parts.proofs.EntryLaws.{get_first, get_behind}
use Rattle.thr_parts.proofs.TableLaws.{get_none, get_put}
use Rattle.thr_model.specs.Calls.{Gifts, gifts_of}
use Rattle.thr_model.specs.Turns.{gift_lines}
use Rattle.thr_formed.proofs.Named.{GiftNamed, EntriesNamed}
use Rattle.thr_sizes.proofs.Parts.{sorted_parts}

-- ---- keys

-- A key stands only at the number of one.
abbrev pub KeysNamed : Script → Table Key → Type 0
KeysNamed s m = (q : ℕ) → is_some (get m q) ≡ true → is_name_of s object.Key (record { 0 = q }) ≡ true

-- The key of a destructor that is called.
abbrev pub DestructorNamed : Script → DestructorCall → Type 0
DestructorNamed s c = is_name_of s object.Key c.0 ≡ true

none_there : (q : ℕ) → is_some (get (none {A = Key}) q) ≡ true → ⊥
none_there q e = false≢true (sym (ap is_some (get_none {A = Key} q)) ∙ e)

same_number : (k q : ℕ) → eqb k q ≡ true → k ≡ q
same_number k q e = grind (arith, nat_tests)

some_there : (o : Option Key) → is_some o ≡ true → (v : Key) × (o ≡ Some v)
some_there None e = absurd (false≢true e)
some_there (Some v) e = (v, refl)

module _ (s : Script) where
  -- The number is that of a key.
  abbrev IsKey : ℕ → Type 0
  IsKey q = is_name_of s object.Key (record { 0 = q }) ≡ true

  pub no_keys : KeysNamed s none
  no_keys q e = absurd (none_there q e)

  put_either : (k q : ℕ) (v : Key) (o : Option Key) (b : Bool) → eqb k q ≡ b → IsKey k → (is_some o ≡ true → IsKey q) → is_some (cond b (Some v) o) ≡ true → IsKey q
  put_either k q v o true is here rest e = subst IsKey (same_number k q is) here
  put_either k q v o false is here rest e = rest e

  key_put : (m : Table Key) (k : ℕ) (v : Key) → IsKey k → KeysNamed s m → KeysNamed s (put m k v)
  key_put m k v here h = λ q e. put_either k q v (get m q) (eqb k q) refl here (h q) (sym (ap is_some (get_put m k q v)) ∙ e)

  pub key_put_if : (m : Table Key) (k : NameId) (o : Option Key) → is_name_of s object.Key k ≡ true → KeysNamed s m → KeysNamed s (put_if m k.0 o)
  key_put_if m k None here h = h
  key_put_if m k (Some v) here h = key_put m k.0 v here h

  keys_behind : (e : ℕ × Key) (es : Table Key) → IsCanonical (e ∷ es) → KeysNamed s (e ∷ es) → KeysNamed s es
  keys_behind e es sorted h q is =
      let v : (k : Key) × (get es q ≡ Some k) = some_there (get es q) is in h q (ap is_some (get_behind e es q v.0 (sorted_parts e es sorted).0 v.1))

  call_named : (k : ℕ) (d : Option NameId) (v : ℤ) → IsKey k → IfThere (DestructorNamed s) (called_with k d v)
  call_named k None v h = tt
  call_named k (Some routine) v h = by (is_zero v)
    where
      by : (b : Bool) → (let o : Option DestructorCall = if b then None else Some (record { 0 = k }, routine, v) in IfThere (DestructorNamed s) o)
      by true = tt
      by false = h

  either_call : (o p : Option DestructorCall) → IfThere (DestructorNamed s) o → IfThere (DestructorNamed s) p → IfThere (DestructorNamed s) (option_or o p)
  either_call None p h i = i
  either_call (Some c) p h i = h

  pub first_call_named : (t : Tid) (keys : Table Key) → IsCanonical keys → KeysNamed s keys → IfThere (DestructorNamed s) (first_call t keys)
  unfolding first_call
  first_call_named t [] sorted h = tt
  first_call_named t (e ∷ es) sorted h =
      either_call (call_for t e) (first_call t es) (call_named e.0 e.1.destructor (value_in e.1 t) (h e.0 (ap is_some (get_first e es))))
      (first_call_named t es (sorted_parts e es sorted).1 (keys_behind e es sorted h))

  -- ---- waits

  -- The mutex of a wait on a condition is the name of one.
  abbrev pub WaitNamed : Wait → Type 0
  WaitNamed (Cond c m until) = is_name_of s object.Mutex m ≡ true
  WaitNamed (Delay until) = Unit {0}

  abbrev pub WaitsNamed : Table Wait → Type 0
  WaitsNamed waits = Each WaitNamed waits

  -- So is the mutex that is there.
  abbrev pub MutexNamed : Option NameId → Type 0
  MutexNamed o = IfThere (λ (m : NameId). is_name_of s object.Mutex m ≡ true) o

  pub begun_named : (b : Bool) (w : Wait) → WaitNamed w → IfThere WaitNamed (keep_if b (Some w))
  begun_named true w h = h
  begun_named false w h = tt

  pub waits_left : (waits : Table Wait) (o : Option Tid) → WaitsNamed waits → WaitsNamed (waits_without waits o)
  waits_left waits None h = h
  waits_left waits (Some t) h = each_cut WaitNamed waits t.0 h

  mutex_named : (o : Option Wait) → IfThere WaitNamed o → MutexNamed (option_and_then mutex_of o)
  mutex_named None h = tt
  mutex_named (Some (Cond c m until)) h = h
  mutex_named (Some (Delay until)) h = tt

  -- The mutex with which a thread waits.
  pub with_named : (cs : Conds) (t : Tid) → WaitsNamed cs.waits → MutexNamed (mutex_with cs t)
  with_named cs t h = mutex_named (get cs.waits t.0) (if_there WaitNamed cs.waits t.0 (get cs.waits t.0) refl h)

  -- The mutex of the waiter that is there.
  abbrev pub WaiterNamed : Option (Tid × NameId) → Type 0
  WaiterNamed o = IfThere (λ (w : Tid × NameId). is_name_of s object.Mutex w.1 ≡ true) o

  beside_named : (t : Tid) (o : Option NameId) → MutexNamed o → WaiterNamed (option_map (λ m. (t, m)) o)
  beside_named t None h = tt
  beside_named t (Some m) h = h

  best_named : (cs : Conds) (o : Option Tid) → WaitsNamed cs.waits → WaiterNamed (option_and_then (beside_mutex cs) o)
  best_named cs None h = tt
  best_named cs (Some t) h = beside_named t (mutex_with cs t) (with_named cs t h)

  kept_waiter : (b : Bool) (o : Option (Tid × NameId)) → WaiterNamed o → WaiterNamed (keep_if b o)
  kept_waiter true o h = h
  kept_waiter false o h = tt

  -- The waiter that a signal takes.
  pub signalled_named : (b : Bool) (cs : Conds) (o : Option Tid) → WaitsNamed cs.waits → WaiterNamed (keep_if b (option_and_then (beside_mutex cs) o))
  signalled_named b cs o h = kept_waiter b (option_and_then (beside_mutex cs) o) (best_named cs o h)

  -- ---- gifts

  abbrev pub GiftsNamed : Gifts → Type 0
  GiftsNamed [] = Unit {0}
  GiftsNamed (g ∷ gs) = GiftNamed s g.1 × GiftsNamed gs

  abbrev pub MutexGifts : List (Tid × NameId) → Type 0
  MutexGifts [] = Unit {0}
  MutexGifts (g ∷ gs) = (is_name_of s object.Mutex g.1 ≡ true) × MutexGifts gs

  pub gifts_lines : (gs : Gifts) → GiftsNamed gs → EntriesNamed s (gift_lines gs)
  gifts_lines [] h = tt
  gifts_lines (g ∷ gs) h = (h.0, gifts_lines gs h.1)

  pub given_named : (o : Option Tid) (m : Option NameId) → GiftNamed s m → GiftsNamed (gifts_of o m)
  given_named None m h = tt
  given_named (Some t) m h = (h, tt)

  pub gift_named : (t : Tid) (o : Option NameId) (gets : Bool) → MutexNamed o → MutexGifts (gift_of t o gets)
  gift_named t None true h = tt
  gift_named t None false h = tt
  gift_named t (Some m) true h = (h, tt)
  gift_named t (Some m) false h = tt

  pub as_gifts : (gs : List (Tid × NameId)) → MutexGifts gs → GiftsNamed (map (λ g. (g.0, Some g.1)) gs)
  as_gifts [] h = tt
  as_gifts (g ∷ gs) h = (h.0, as_gifts gs h.1)

  gifts_append : (gs hs : List (Tid × NameId)) → MutexGifts gs → MutexGifts hs → MutexGifts (gs ++ hs)
  gifts_append [] hs h i = i
  gifts_append (g ∷ gs) hs h i = (h.0, gifts_append gs hs h.1 i)

  -- Threads that leave their waits.
  pub woken_waits : (rank : Tid → ℕ) (cs : Conds) (ls : Locks) (rs : Rows) (ts : List Tid) → WaitsNamed cs.waits → WaitsNamed (wake_all rank cs ls rs ts).conds.waits
  unfolding wake_all
  woken_waits rank cs ls rs [] h = h
  woken_waits rank cs ls rs (t ∷ ts) h =
      let left : LeftWait = pull_out cs rs t in
      let o = resume rank ls left.rows t (mutex_with cs t) in woken_waits rank left.conds o.locks o.rows ts (waits_left cs.waits _ h)

  pub woken_gifts : (rank : Tid → ℕ) (cs : Conds) (ls : Locks) (rs : Rows) (ts : List Tid) → WaitsNamed cs.waits → MutexGifts (wake_all rank cs ls rs ts).gifts
  unfolding wake_all
  woken_gifts rank cs ls rs [] h = tt
  woken_gifts rank cs ls rs (t ∷ ts) h =
      let left : LeftWait = pull_out cs rs t in
      let o = resume rank ls left.rows t (mutex_with cs t) in
      gifts_append (gift_of t (mutex_with cs t) o.gets) (wake_all rank left.conds o.locks o.rows ts).gifts (gift_named t (mutex_with cs t) o.gets (with_named cs t h))
      (woken_gifts rank left.conds o.locks o.rows ts (waits_left cs.waits _ h))

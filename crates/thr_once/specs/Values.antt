-- The values of all keys in one list, and the keys for which they stand (docs/machine.md, "Keys").
use Rattle.std.specs.Prelude.{◌≡◌, ℕ, ℤ, ◌+◌, ◌*◌, ◌<◌, ◌≤◌, Bool, ◌&&◌, ◌==◌, nat_lt, if◌then◌else◌, List, [], ◌∷◌, map, Option, Some, None, ⊤}
use Rattle.thr_values.specs.declared.number.Tid.{Tid}
use Rattle.thr_values.specs.declared.number.NameId.{NameId}
use Rattle.thr_parts.specs.Tables.{Table, names, none, get, put, cut, IsCanonical}
use Rattle.thr_parts.specs.Keys.{Key, DestructorCall, is_zero, called_with, call_for}
use Rattle.thr_once.specs.declared.values.KeyValue.{KeyValue}

-- ---- values in their order

-- The place of a key and a thread in the order of values, which is by threads, and for one thread by keys (docs/machine.md,
-- "Keys").
abbrev pub place_number : ℕ → ℕ → ℕ
place_number k t = t * 65536 + k

-- The value comes before those of a key for a thread (docs/machine.md, "Keys").
abbrev pub comes_before : ℕ → ℕ → KeyValue → Bool
comes_before k t v = if v.thread.0 == t then nat_lt v.key.0 k else nat_lt v.thread.0 t

-- The value is that of the key for the thread of these numbers.
abbrev pub is_of : ℕ → ℕ → KeyValue → Bool
is_of k t v = (v.key.0 == k) && (v.thread.0 == t)

-- The values as a table by their places (docs/machine.md, "Tables").
abbrev pub by_place : List KeyValue → Table ℤ
by_place vs = map (λ v. (place_number v.key.0 v.thread.0, v.value)) vs

-- The table with this value at a number, of which 0 isn't kept (docs/machine.md, "Keys").
abbrev pub stored : Table ℤ → ℕ → ℤ → Table ℤ
stored m n x = if is_zero x then cut m n else put m n x

-- Their keys have the numbers of names (docs/machine.md, "Tables").
abbrev pub AreNamed : List KeyValue → Type 0
AreNamed [] = ⊤
AreNamed (v ∷ vs) = (v.key.0 < names) × AreNamed vs

-- The values stand in their order, and their keys have the numbers of names (docs/machine.md, "Keys").
pub record AreOrdered (vs : List KeyValue) : Type 0 where
  pub rises : IsCanonical (by_place vs)
  pub named : AreNamed vs

-- ---- the keys

-- The values of a key, by the numbers of threads; of two for one thread the first counts (docs/machine.md, "Keys").
unfoldable pub values_of : ℕ → List KeyValue → Table ℤ
values_of k [] = none
values_of k (v ∷ vs) = if v.key.0 == k then put (values_of k vs) v.thread.0 v.value else values_of k vs

-- The key of this number, with its destructor and its values (docs/machine.md, "Keys").
abbrev pub key_of : ℕ → Option NameId → List KeyValue → Key
key_of k destructor vs = record { destructor = destructor; values = values_of k vs }

-- The keys that are made with these destructors, and their values (docs/machine.md, "Keys").
unfoldable pub keys_of : Table (Option NameId) → List KeyValue → Table Key
keys_of [] vs = []
keys_of (e ∷ es) vs = (e.0, key_of e.0 e.1 vs) ∷ keys_of es vs

-- The numbers of keys rise and are those of names, only keys that are made have values, and those stand in their order
-- (docs/machine.md, "Keys").
pub record IsKept (made : Table (Option NameId)) (vs : List KeyValue) : Type 0 where
  pub rises : IsCanonical made
  pub known : (k : ℕ) → names ≤ k → get made k ≡ None
  pub unmade : (k : ℕ) → get made k ≡ None → values_of k vs ≡ none
  pub ordered : AreOrdered vs

-- The call of the destructor of the key that is there, for a thread (docs/machine.md, "Keys").
abbrev pub call_at : ℕ → Tid → Option Key → Option DestructorCall
call_at k t None = None
call_at k t (Some key) = call_for t (k, key)

-- The same where this is the destructor, if the key is made, and this the thread's value (docs/machine.md, "Keys").
abbrev pub called_at : ℕ → Option (Option NameId) → ℤ → Option DestructorCall
called_at k None x = None
called_at k (Some destructor) x = called_with k destructor x

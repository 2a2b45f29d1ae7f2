-- What the lines tell of a lock, beside what the machine's state keeps of it (docs/laws.md, "Owners in every history").
use Rattle.std.specs.Prelude.{◌≡◌, ℕ, List, Option, Some, None, ⊤}
use Rattle.std.specs.List.{fold}
use Rattle.thr_values.specs.declared.history.Entry.{Entry}
use Rattle.thr_values.specs.declared.reply.Kind.{Kind}
use Rattle.thr_parts.specs.declared.mutex.Held.{Held}
use Rattle.thr_parts.specs.declared.mutex.Mutex.{Mutex}
use Rattle.thr_parts.specs.Tables.{Table, get}
use Rattle.thr_parts.specs.Mutexes.{Locks, mutex_at}
use Rattle.thr_laws.specs.Owners.{Lock, Owner, kind_in}
use Rattle.thr_laws.specs.Owners as told

-- Who owns a lock, in the words of the laws, where the state keeps this (docs/laws.md, "Owners in every history").
abbrev pub as_told : Option Held → Option Owner
as_told None = None
as_told (Some h) = Some (record { thread = h.owner.0; depth = h.depth })

-- The kind is that of the cell that is there. What isn't made has any kind.
abbrev pub IsKind : Option Kind → Kind → Type 0
IsKind None kind = ⊤
IsKind (Some made) kind = kind ≡ made

-- The kind and the owner are those of the mutex that is there, and one that isn't made has no owner.
abbrev pub IsTold : Option Mutex → Kind → Option Owner → Type 0
IsTold None kind owner = owner ≡ None
IsTold (Some x) kind owner = (kind ≡ x.kind) × (owner ≡ as_told x.held)

-- What the state keeps of a lock: the kinds of attribute cells, and the lock where it is made.
pub record View : Type 0 where
  pub kinds : Table Kind
  pub mutex : Option Mutex

abbrev pub view : Lock → Locks → View
view lock ls = record { kinds = ls.kinds; mutex = mutex_at ls lock }

-- What lines told of a lock is what the state keeps of it: the kinds of the cells that are made, its own kind where it is
-- made, and its owner (docs/laws.md, "Owners in every history").
pub record Agrees (v : View) (h : told.Held) : Type 0 where
  pub cells : (cell : ℕ) → IsKind (get v.kinds cell) (kind_in h.cells cell)
  pub lock : IsTold v.mutex h.kind h.owner

-- What lines tell of a lock, from the first of a history on (docs/laws.md, "Owners").
abbrev pub known_of : Lock → List Entry → told.Held
known_of lock entries = fold (told.held_after lock) (told.at_first lock) entries

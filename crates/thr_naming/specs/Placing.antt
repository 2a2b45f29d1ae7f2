-- What contracts see of words in their slots.
use Rattle.std.specs.Prelude.{ℕ, List, [], ◌∷◌, slice_get, Option, Some, None}
use Rattle.std.specs.Borrow.{Bor}
use Rattle.thr_text.specs.declared.object.Object as kinds
use Rattle.thr_text.specs.declared.word.Word.{Word}
use Rattle.thr_text.specs.declared.head.Head.{Head}
use Rattle.thr_text.specs.declared.head.Head.TheVariants as head
use Rattle.thr_text.specs.declared.head.Slot.{Slot}
use Rattle.thr_text.specs.declared.head.Slot.TheVariants.{Declared}
use Rattle.thr_text.specs.Tables.{Placed, Entry}
use Rattle.thr_text.specs.NameFaults.{name_of_word}
use Rattle.thr_naming.specs.declared.places.Placed.{Placed as AtPlace}

abbrev pub seen : AtPlace → Placed
seen x = (x.slot, x.word.now)

abbrev pub entries_seen : Option (Bor (List ℕ) × kinds.Object) → List Entry
entries_seen None = []
entries_seen (Some e) = (e.0.now, e.1) ∷ []

abbrev pub names_seen : Option (Bor (List ℕ)) → List (List ℕ)
names_seen None = []
names_seen (Some name) = name.now ∷ []

-- ---- where a line brings in names

abbrev pub name_at_place : Option Word → List (List ℕ)
name_at_place None = []
name_at_place (Some w) = name_of_word w

-- The kind that the first slot declares.
abbrev pub first_kind : List Slot → Option kinds.Object
first_kind (Declared kind ∷ slots) = Some kind
first_kind _ = None

abbrev pub entry_by : Option kinds.Object → List (List ℕ) → List Entry
entry_by (Some kind) (name ∷ names) = (name, kind) ∷ []
entry_by _ _ = []

-- The word that is the parameter or the local.
abbrev pub own_place : Head → Option ℕ
own_place head.Routine = Some 2
own_place head.Local = Some 1
own_place _ = None

abbrev pub name_by : Option ℕ → List Word → List (List ℕ)
name_by None words = []
name_by (Some at) words = name_at_place (slice_get words at)

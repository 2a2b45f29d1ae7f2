-- Declared names and what stands for a name (docs/script.md, "Names" and "Faults").
use Rattle.std.specs.Prelude.{ℕ, Bool, List, [], ◌∷◌, ◌++◌, map, if◌then◌else◌, is_some, Option, Some, None}
use Rattle.std.specs.List.{list_any}
use Rattle.std.specs.Str.{bytes_eq}
use Rattle.thr_values.specs.Exceptions.{builtin_names}
use Rattle.thr_text.specs.declared.word.Word.{Word}
use Rattle.thr_text.specs.declared.word.Word.TheVariants.{Name}
use Rattle.thr_text.specs.declared.object.Object as kinds
use Rattle.thr_text.specs.declared.object.Object.TheVariants as object
use Rattle.thr_text.specs.declared.head.Head.{Head}
use Rattle.thr_text.specs.declared.head.Slot.{Slot}
use Rattle.thr_text.specs.declared.head.Slot.TheVariants.{Declared}
use Rattle.thr_text.specs.Slots.{slots_behind, slots_of, head_of_line}

-- ---- the words of a line with their places

abbrev pub Placed : Type 0
Placed = Slot × Word

-- Each word with the place at which it stands, read from the left.
unfoldable pub placed : List Slot → List Word → List Placed
placed slots [] = []
placed [] (w ∷ ws) = []
placed (p ∷ slots) (w ∷ ws) = (p, w) ∷ placed (slots_behind p w ++ slots) ws

abbrev pub placed_after : Option Head → List Word → List Placed
placed_after None ws = []
placed_after (Some h) ws = placed (slots_of h) ws

abbrev pub rest_of : List Word → List Word
rest_of [] = []
rest_of (w ∷ ws) = ws

-- The words of a line after its first, with their places.
abbrev pub placed_in : List Word → List Placed
placed_in words = placed_after (head_of_line words) (rest_of words)

-- ---- declarations

-- A name with the kind of what it names.
abbrev pub Entry : Type 0
Entry = List ℕ × kinds.Object

abbrev pub entry_of : kinds.Object → Word → List Entry
entry_of kind (Name text) = (text, kind) ∷ []
entry_of kind _ = []

abbrev pub declared_at : Slot → Word → List Entry
declared_at (Declared kind) w = entry_of kind w
declared_at _ w = []

abbrev pub declared_in_all : List Placed → List Entry
declared_in_all [] = []
declared_in_all (x ∷ xs) = declared_at x.0 x.1 ++ declared_in_all xs

-- The names that a line declares, parameters and locals apart: one at most.
abbrev pub declared_in : List Word → List Entry
declared_in words = declared_in_all (placed_in words)

-- The names that lines declare, in their order.
unfoldable pub declarations : List (List Word) → List Entry
declarations [] = []
declarations (l ∷ ls) = declared_in l ++ declarations ls

abbrev pub builtin_entry : List ℕ → Entry
builtin_entry name = (name, object.Exception)

-- The built-in exceptions and the names that these lines declare.
abbrev pub entries_of : List (List Word) → List Entry
entries_of lines = map builtin_entry builtin_names ++ declarations lines

-- The kind of a name is that of its first declaration.
unfoldable pub kind_in : List Entry → List ℕ → Option kinds.Object
kind_in [] name = None
kind_in (e ∷ es) name = if bytes_eq name e.0 then Some e.1 else kind_in es name

abbrev pub is_among : List (List ℕ) → List ℕ → Bool
is_among names name = list_any (λ n. bytes_eq name n) names

abbrev pub is_declared : List Entry → List ℕ → Bool
is_declared entries name = is_some (kind_in entries name)

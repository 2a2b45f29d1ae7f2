-- What the declarations of a script say: its interface, its exceptions and its routines (docs/script.md, "Lines").
use Rattle.std.specs.Prelude.{ℕ, ◌+◌, ◌==◌, nat_lt, List, [], ◌∷◌, length, Bool, if◌then◌else◌, Option, Some, None, unwrap_or}
use Rattle.std.specs.Option.{option_or}
use Rattle.thr_values.specs.declared.number.NameId.{NameId}
use Rattle.thr_values.specs.declared.exception.Exc.{Exc}
use Rattle.thr_values.specs.declared.exception.Exc.TheVariants.{Address, Status}
use Rattle.thr_syntax.specs.declared.tree.Interface.{Interface}
use Rattle.thr_syntax.specs.declared.tree.Interface.TheVariants as interface
use Rattle.thr_syntax.specs.declared.tree.Item.{Item}
use Rattle.thr_syntax.specs.declared.tree.Item.TheVariants as item
use Rattle.thr_syntax.specs.declared.tree.Routine.{Routine}
use Rattle.thr_syntax.specs.declared.tree.Script.{Script}
use Rattle.thr_syntax.specs.Lines.{item_lines}
use Rattle.thr_remainder.specs.Places.{Left, body_at, nothing}

-- The two are the same name (docs/script.md, "Names").
abbrev pub is_same_name : NameId → NameId → Bool
is_same_name a b = a.0 == b.0

-- ---- the interface

-- The interface of the first `interface` line, or `exc` where there is none (docs/script.md, "Lines").
abbrev pub interface_in : List Item → Interface
interface_in [] = interface.Exc
interface_in (item.Interface i ∷ items) = i
interface_in (_ ∷ items) = interface_in items

-- Whether error replies raise: `exc` where the script doesn't say (docs/machine.md, "Errors").
unfoldable pub interface_of : Script → Interface
interface_of s = interface_in s.items

-- ---- exceptions

-- The exception that this declaration declares a name as, if it does (docs/script.md, "Lines").
abbrev pub exception_here : Item → NameId → Option Exc
exception_here (item.Exception name) x = if is_same_name name x then Some (Address x) else None
exception_here (item.Status name n) x = if is_same_name name x then Some (Status n) else None
exception_here _ x = None

-- The exception that a name is declared as among declarations, if it is declared as one (docs/script.md, "Lines").
abbrev pub exception_in : List Item → NameId → Option Exc
exception_in [] x = None
exception_in (i ∷ items) x = option_or (exception_here i x) (exception_in items x)

-- The exception that a name stands for, built in or declared, and nothing where it stands for none (docs/machine.md,
-- "Exceptions").
unfoldable pub exception_of : Script → NameId → Option Exc
exception_of s x = if nat_lt x.0 10 then Some (Address x) else exception_in s.items x

-- The same of a name that stands for one.
abbrev pub exception_value : Script → NameId → Exc
exception_value s x = unwrap_or (exception_of s x) (Address x)

-- ---- routines

-- Where a routine stands: its line, how many parameters and locals it has, and its body (docs/machine.md, "Routines").
pub record Entry : Type 0 where
  pub line : ℕ
  pub locals : ℕ
  pub body : Left

-- The parameter stands on the routine's line, and each other local on a line of its own.
abbrev pub entry_at : ℕ → Routine → Entry
entry_at line r = record { line = line; locals = length r.locals; body = body_at (line + length r.locals) r.body }

-- The routine of this name, if this declaration is the routine (docs/script.md, "Lines").
abbrev pub entry_here : ℕ → Item → NameId → Option Entry
entry_here line (item.Routine r) name = if is_same_name r.name name then Some (entry_at line r) else None
entry_here line _ name = None

-- The routine of this name among declarations, the first of which has this line.
abbrev pub entry_in : ℕ → List Item → NameId → Option Entry
entry_in line [] name = None
entry_in line (i ∷ items) name = option_or (entry_here line i name) (entry_in (line + length (item_lines i)) items name)

-- The routine of this name, and nothing where no routine has it. Line 1 is the first line of the script
-- (docs/machine.md, "Routines").
unfoldable pub routine_of : Script → NameId → Option Entry
routine_of s name = entry_in 2 s.items name

-- An empty routine at no line, as it stands for a name that no routine has.
abbrev pub no_entry : Entry
no_entry = record { line = 0; locals = 0; body = nothing 0 }

-- The same of a name that a routine has.
abbrev pub entry_of : Script → NameId → Entry
entry_of s name = unwrap_or (routine_of s name) no_entry

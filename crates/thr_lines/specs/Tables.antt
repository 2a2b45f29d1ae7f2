-- Tables from names to what they stand for (docs/machine.md, "The lines of a script").
use Rattle.std.specs.Prelude.{ℕ, ◌+◌, ◌==◌, List, get_or, if◌then◌else◌, Option, Some, None}
use Rattle.std.specs.Option.{option_map}
use Rattle.thr_values.specs.declared.number.NameId.{NameId}
use Rattle.thr_syntax.specs.declared.tree.Item.{Item}
use Rattle.thr_syntax.specs.declared.tree.Script.{Script}
use Rattle.thr_remainder.specs.Declarations.{Entry, entry_here, entry_in, routine_of}
use Rattle.thr_remainder.specs.Starts.{at}
use Rattle.thr_lines.specs.declared.start.Start.{Start}

-- What stands at a place of a table, if anything does. Past its end nothing does.
abbrev pub found : {T : Type 0} → List (Option T) → ℕ → Option T
found slots k = get_or slots k None

-- The value at one place, and nothing at any other.
abbrev pub only : {T : Type 0} → ℕ → T → ℕ → Option T
only n value k = if n == k then Some value else None

-- Where a routine starts: its line, the first line of its body, and the line that closes it (docs/machine.md, "Routines").
abbrev pub start_of : Entry → Start
start_of e = record { line = at e.line; body = at (e.line + e.locals); close = at e.body.close }

-- Where the routine of this name starts, if this declaration is the routine.
abbrev pub start_here : ℕ → Item → NameId → Option Start
start_here line i k = option_map start_of (entry_here line i k)

-- Where the routine of this name starts among declarations, the first of which has this line.
abbrev pub start_in : ℕ → List Item → NameId → Option Start
start_in line items k = option_map start_of (entry_in line items k)

-- Where the routine of this name starts, and nothing where no routine has it.
abbrev pub routine_start : Script → NameId → Option Start
routine_start s k = option_map start_of (routine_of s k)

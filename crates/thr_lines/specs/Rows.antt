-- Rows, and lists of rows while they are made (docs/machine.md, "The lines of a script").
use Rattle.std.specs.Prelude.{◌≡◌, ℕ, ◌+◌, ◌<◌, List, [], ◌∷◌, ◌++◌, map, length, slice_set, get_or, Bool, if◌then◌else◌, Option, Some, None}
use Rattle.thr_values.specs.declared.number.Line.{Line}
use Rattle.thr_syntax.specs.declared.form.Form.{Form}
use Rattle.thr_syntax.specs.declared.form.Form.TheVariants as form
use Rattle.thr_remainder.specs.Starts.{at}
use Rattle.thr_lines.specs.declared.row.Row.{Row}

-- ---- one row

-- The row of a line that belongs to no other (docs/machine.md, "The lines of a script").
abbrev pub plain_row : Form → Row
plain_row f = record { form = f; partner = None; next = None; after = None }

-- The row of a line that opens a block, of which `close` is the closing line and `next` the line of the next part.
abbrev pub opening_row : Form → (close next : ℕ) → (after : Option Line) → Row
opening_row f close next after = record { form = f; partner = Some (at close); next = Some (at next); after = after }

-- The row of a clause, a `finally` or an `else` within a block.
abbrev pub middle_row : Form → (next : ℕ) → (after : Option Line) → Row
middle_row f next after = record { form = f; partner = None; next = Some (at next); after = after }

-- The row of a line that closes a block, by the line that opens it.
abbrev pub closing_row : Form → (opener after : Option Line) → Row
closing_row f opener after = record { form = f; partner = opener; next = None; after = after }

-- The rows of locals.
abbrev pub local_rows : List (List ℕ) → List Row
local_rows locals = map (λ (n : List ℕ). plain_row (form.Local n)) locals

-- This line, where there is more.
abbrev pub line_if : Bool → ℕ → Option Line
line_if more l = if more then Some (at l) else None

-- The row at a place, counted from 0.
abbrev pub row_at : List Row → ℕ → Row
row_at rows place = get_or rows place (plain_row form.Else)

-- ---- a block whose first row stands at a place that was left for it, and whose bodies are made

-- The next line closes the block that begins at this place; `next` is the line of the block's next part.
abbrev pub closed : List Row → (place next : ℕ) → (opener closer : Form) → List Row
closed rows place next opener closer =
    let after = Some (at (length rows + 2)) in
    slice_set rows place (opening_row opener (length rows + 1) next after) ++ closing_row closer (Some (at (place + 1))) after ∷ []

-- The same of a block in two halves, where the place `half` was left for its `else` or `finally`.
abbrev pub closed_halves : List Row → (place half : ℕ) → (opener middle closer : Form) → List Row
closed_halves rows place half opener middle closer =
    closed (slice_set rows half (middle_row middle (length rows + 1) (Some (at (length rows + 2))))) place (half + 1) opener closer

-- ---- clauses whose line after the try is known last

-- This is the line after the block of the row at this place.
abbrev pub with_after : List Row → ℕ → Line → List Row
with_after rows place after =
    let r = row_at rows place in
    slice_set rows place (record { form = r.form; partner = r.partner; next = r.next; after = Some after })

-- The row at this place has a next line.
pub record HasNext (rows : List Row) (place : ℕ) : Type 0 where
  pub within : place < length rows
  pub next : ℕ
  pub next_is : (row_at rows place).next ≡ Some (at (next + 1))

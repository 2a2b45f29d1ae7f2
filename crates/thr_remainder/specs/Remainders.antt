-- What a thread has still to do (docs/machine.md, "What is left to do").
use Rattle.std.specs.Prelude.{ℕ, ◌-◌, nat_le, ℤ, List, [], ◌∷◌, length, slice_set, Bool, true, false, if◌then◌else◌, Option}
use Rattle.thr_values.specs.declared.number.NameId.{NameId}
use Rattle.thr_values.specs.declared.exception.Exc.{Exc}
use Rattle.thr_values.specs.declared.history.What.{What}
use Rattle.thr_values.specs.Exceptions.{cancel_e}
use Rattle.thr_syntax.specs.declared.tree.Stmt.{Stmt}
use Rattle.thr_syntax.specs.declared.tree.Script.{Script}
use Rattle.thr_remainder.specs.declared.unwinding.Unwinding.{Unwinding}
use Rattle.thr_remainder.specs.Places.{Placed, Left, Ways}
use Rattle.thr_remainder.specs.Acts.{Act, act_of}

-- What an item is of (docs/machine.md, "What is left to do").
pub data Role : Type 0 where
  -- a call: its locals, the parameter first, and the local of its caller that takes the returned value
  Calling : (locals : List ℤ) (place : Option ℕ) → Role
  -- a try in its body, in a catch body with what was caught, or in its FINALLY body with the unwinding for which it runs
  Trying : (scope : ℕ) (ways : Ways) → Role
  Catching : (scope : ℕ) (caught : Exc) → Role
  Finishing : (scope : ℕ) (pending : Option Unwinding) → Role
  -- a once block, or a key, and the routine that runs for it
  Doing : (scope : ℕ) (block routine : NameId) → Role
  Barrier : (scope : ℕ) (key routine : NameId) → Role

-- An item, and what is left inside it (docs/machine.md, "What is left to do").
pub record Item : Type 0 where
  pub role : Role
  pub inside : Left

-- What a thread has still to do (docs/machine.md, "What is left to do").
pub record Remainder : Type 0 where
  -- the frames of its stack, of which each stands inside the next
  pub items : List Item
  pub under_way : Option Unwinding
  -- what is kept for the thread's end
  pub value : ℤ
  -- the number of its last reply
  pub err : ℤ
  -- how many it has had
  pub scopes : ℕ
  pub unwindings : ℕ

-- What stays while a thread runs: the script, its number, and how many frames fit its stack (docs/machine.md, "Frames").
pub record Setting : Type 0 where
  pub script : Script
  pub me : ℕ
  pub size : ℕ

-- A step: what is left after it, and its lines (docs/machine.md, "Quiet steps").
pub record Move : Type 0 where
  pub to : Remainder
  pub lines : List What

-- ---- the innermost place

-- A statement that is next: its line, what is left after it, and the item that it stands in with those outside.
pub record Spot : Type 0 where
  pub line : ℕ
  pub stmt : Stmt
  pub rest : Left
  pub role : Role
  pub outer : List Item

-- What is next: nothing at all, the end of the innermost item at the line that closes it, or a statement (docs/machine.md,
-- "The next step").
pub data Place : Type 0 where
  Nowhere : Place
  AtEnd : (close : ℕ) (role : Role) (outer : List Item) → Place
  At : (spot : Spot) → Place

-- The first statement that is left of an item, or its end where none is left (docs/machine.md, "The next step").
abbrev pub place_inside : List Placed → ℕ → Role → List Item → Place
place_inside [] close role outer = AtEnd close role outer
place_inside (p ∷ todo) close role outer =
    At (record { line = p.line; stmt = p.stmt; rest = record { todo = todo; close = close }; role = role; outer = outer })

-- What is next where these items are left, the innermost first (docs/machine.md, "The next step").
abbrev pub place_in : List Item → Place
place_in [] = Nowhere
place_in (i ∷ outer) = place_inside i.inside.todo i.inside.close i.role outer

-- What the statement that is next does first (docs/machine.md, "Statements").
abbrev pub act_at : Spot → Act
act_at h = act_of h.line h.stmt h.rest

-- The items where this is left of the innermost one.
abbrev pub goes_on : Spot → Left → List Item
goes_on h left = record { role = h.role; inside = left } ∷ h.outer

-- The items once the statement is behind.
abbrev pub passed : Spot → List Item
passed h = goes_on h h.rest

-- ---- locals, and what was caught

-- The locals of an item that is a call, or else those outside it (docs/machine.md, "Routines").
abbrev pub locals_or : Role → List ℤ → List ℤ
locals_or (Calling locals place) outer = locals
locals_or _ outer = outer

-- The locals of the innermost call, its parameter first.
abbrev pub locals_in : List Item → List ℤ
locals_in [] = []
locals_in (i ∷ items) = locals_or i.role (locals_in items)

-- The item is a call (docs/machine.md, "What is left to do").
abbrev pub is_call : Role → Bool
is_call (Calling locals place) = true
is_call _ = false

-- The item where this local has this value, if it is a call (docs/machine.md, "Routines").
abbrev pub role_with : ℕ → ℤ → Role → Role
role_with p n (Calling locals place) = Calling (slice_set locals p n) place
role_with p n role = role

-- The items where this local of the innermost call has this value.
abbrev pub with_local : ℕ → ℤ → List Item → List Item
with_local p n [] = []
with_local p n (i ∷ items) = record { role = role_with p n i.role; inside = i.inside } ∷ (if is_call i.role then items else with_local p n items)

-- What a catch body has caught, or else what was caught outside; a call asks no further (docs/machine.md, "Handlers").
abbrev pub caught_or : Role → Exc → Exc
caught_or (Calling locals place) outer = cancel_e
caught_or (Catching scope caught) outer = caught
caught_or _ outer = outer

-- What `this` and `reraise` mean: what the innermost catch body inside the innermost call has caught (docs/machine.md,
-- "Handlers"). A script that keeps the rules asks only where there is one.
abbrev pub caught_in : List Item → Exc
caught_in [] = cancel_e
caught_in (i ∷ items) = caught_or i.role (caught_in items)

-- ---- frames

-- How many frames of the stack are free (docs/machine.md, "Frames").
abbrev pub free : Setting → Remainder → ℕ
free g r = g.size - length r.items

-- So many frames more fit the stack (docs/machine.md, "Frames").
abbrev pub has_room : Setting → Remainder → ℕ → Bool
has_room g r n = nat_le n (free g r)

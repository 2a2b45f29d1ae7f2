-- The steps of a thread that are made at its innermost place (docs/machine.md, "Quiet steps" and "Shared statements").
use Rattle.std.specs.Prelude.{ℕ, ℤ, pos, List, [], ◌∷◌, Bool, true, false, if◌then◌else◌, Option, Some, None, Ok, Err}
use Rattle.thr_values.specs.declared.number.NameId.{NameId}
use Rattle.thr_values.specs.declared.history.What.{What}
use Rattle.thr_values.specs.declared.history.What.TheVariants as what
use Rattle.thr_syntax.specs.declared.expr.Var.{Var}
use Rattle.thr_syntax.specs.declared.expr.Var.TheVariants.{Local, Shared}
use Rattle.thr_remainder.specs.Places.{Ways, Catches, Finally}
use Rattle.thr_remainder.specs.Acts.{Act, Sets, Says, Chooses, Repeats, Tries, Raises, RaisesAgain, Calls, Returns, Exits, Asks}
use Rattle.thr_remainder.specs.Declarations.{exception_value, entry_of}
use Rattle.thr_remainder.specs.Remainders.{Item, Role, Calling, Trying, Catching, Finishing, Doing, Barrier, Setting, Remainder, Move, Spot, Place, Nowhere, AtEnd, At, place_in, act_at, goes_on, passed, with_local, caught_in}
use Rattle.thr_remainder.specs.Expressions.{Value, SharedValues, none_shared, is_true, value_of}
use Rattle.thr_remainder.specs.Starts.{at, still, raised, raised_again, exited, if_room, calling, tries}

-- ---- returned values

-- The items outside a call that has returned: the local at the place for it has the value.
abbrev pub stored : Option ℕ → ℤ → List Item → List Item
stored None n outer = outer
stored (Some p) n outer = with_local p n outer

-- The kept value once a call with these items outside has returned: the outermost call stores into it. What a once routine
-- or a destructor returns is dropped (docs/machine.md, "Routines").
abbrev pub kept : List Item → ℤ → ℤ → ℤ
kept [] n v = n
kept (i ∷ outer) n v = v

-- The local of the caller that takes the value.
abbrev pub place_for : Role → Option ℕ
place_for (Calling locals place) = place
place_for _ = None

-- ---- statements, given the value of their expression

-- The items where a variable is set: a shared one stands in none of them (docs/machine.md, "Quiet steps").
abbrev pub variable_set : Var → ℤ → List Item → List Item
variable_set (Local p) n items = with_local p n items
variable_set (Shared name) n items = items

-- The items after a statement whose expression has this value (docs/machine.md, "Quiet steps").
abbrev pub items_after : Setting → Act → ℤ → Spot → List Item
items_after g (Sets v e) n h = variable_set v n (passed h)
items_after g (Chooses e body other) n h = goes_on h (if is_true n then body else other)
items_after g (Repeats e again) n h = goes_on h (if is_true n then again else h.rest)
items_after g (Calls routine e place) n h = calling (entry_of g.script routine) n place ∷ passed h
items_after g (Returns e) n h = stored (place_for h.role) n h.outer
items_after g _ n h = passed h

-- The kept value after a statement: `return` of the outermost call sets it (docs/machine.md, "Routines").
abbrev pub kept_after : Act → ℤ → List Item → ℤ → ℤ
kept_after (Returns e) n outer v = kept outer n v
kept_after _ n outer v = v

-- What is left after a statement whose expression has this value (docs/machine.md, "Quiet steps").
abbrev pub after : Setting → Act → ℤ → Spot → Remainder → Remainder
after g act n h r = record r { items = items_after g act n h; value = kept_after act n h.outer r.value }

-- What a shared statement tells of the value of its expression (docs/machine.md, "Shared statements").
abbrev pub told : Act → ℕ → ℤ → List What
told (Sets v e) line n = what.Set (at line) n ∷ []
told (Says e) line n = what.Say n ∷ []
told (Chooses e body other) line n = what.If (at line) n ∷ []
told (Repeats e again) line n = what.While (at line) n ∷ []
told (Calls routine e place) line n = what.CallAt (at line) n ∷ []
told (Returns e) line n = what.Return (at line) n ∷ []
told _ line n = []

-- The step of a statement whose expression has this value. A quiet one tells nothing of it; an exit has its own line
-- (docs/machine.md, "Shared statements").
abbrev pub valued : Setting → (tells : Bool) → Act → Spot → Remainder → ℤ → Move
valued g tells (Exits e) h r n = exited n r
valued g tells act h r n = record { to = after g act n h r; lines = if tells then told act h.line n else [] }

-- A fault is raised in the statement's place (docs/machine.md, "Quiet steps").
abbrev pub or_raised : Value → (ℤ → Move) → Remainder → Move
or_raised (Ok n) step r = step n
or_raised (Err x) step r = raised x r

-- ---- statements

-- The step of a statement with these values of shared variables. Whether a frame fits is asked before an expression is
-- valued. What a call of the thread service does is not said here (docs/machine.md, "Quiet steps").
abbrev pub made : Setting → (tells : Bool) → SharedValues → Act → Spot → Remainder → Move
made g tells shared (Sets v e) h r = or_raised (value_of g shared r e) (valued g tells (Sets v e) h r) r
made g tells shared (Says e) h r = or_raised (value_of g shared r e) (valued g tells (Says e) h r) r
made g tells shared (Chooses e body other) h r = or_raised (value_of g shared r e) (valued g tells (Chooses e body other) h r) r
made g tells shared (Repeats e again) h r = or_raised (value_of g shared r e) (valued g tells (Repeats e again) h r) r
made g tells shared (Tries body ways) h r = if_room g r (tries body ways h r)
made g tells shared (Raises name) h r = raised (exception_value g.script name) r
made g tells shared RaisesAgain h r = raised_again (caught_in r.items) r
made g tells shared (Calls routine e place) h r = if_room g r (or_raised (value_of g shared r e) (valued g tells (Calls routine e place) h r) r)
made g tells shared (Returns e) h r = or_raised (value_of g shared r e) (valued g tells (Returns e) h r) r
made g tells shared (Exits e) h r = or_raised (value_of g shared r e) (valued g tells (Exits e) h r) r
made g tells shared (Asks call) h r = still r

-- ---- ends

-- The items after a try whose body ended by itself: it is left, or its FINALLY body begins (docs/machine.md, "Handlers").
abbrev pub items_tried : ℕ → Ways → List Item → List Item
items_tried scope (Catches handlers) outer = outer
items_tried scope (Finally body) outer = record { role = Finishing scope None; inside = body } ∷ outer

-- The line of a try whose body ended by itself (docs/journal.md, "The lines").
abbrev pub line_tried : ℕ → Ways → What
line_tried scope (Catches handlers) = what.Endtry scope
line_tried scope (Finally body) = what.Finally scope 0

-- Only the items change, and there is one line.
abbrev pub leaves : List Item → What → Remainder → Move
leaves items line r = record { to = record r { items = items }; lines = line ∷ [] }

-- The end of the innermost item, where nothing is left inside it (docs/machine.md, "Quiet steps"): a call returns 0, a try is
-- left or its FINALLY body begins without an unwinding, and an unwinding that was pending in a FINALLY body is under way
-- again. The end of a once routine is a shared step.
abbrev pub ended : Role → List Item → Remainder → Move
ended (Calling locals place) outer r = still (record r { items = stored place (pos 0) outer; value = kept outer (pos 0) r.value })
ended (Trying scope ways) outer r = leaves (items_tried scope ways outer) (line_tried scope ways) r
ended (Catching scope caught) outer r = leaves outer (what.Endcatch scope) r
ended (Finishing scope pending) outer r = leaves outer (what.Endfin scope) (record r { under_way = pending })
ended (Doing scope block routine) outer r = leaves outer (what.Done scope) r
ended (Barrier scope key routine) outer r = leaves outer (what.Enddes scope) r

-- ---- steps

-- The step at this place: an item's end, or a statement that is no call (docs/machine.md, "The next step").
abbrev pub step_at : Setting → (tells : Bool) → SharedValues → Place → Remainder → Move
step_at g tells shared Nowhere r = still r
step_at g tells shared (AtEnd close role outer) r = ended role outer r
step_at g tells shared (At h) r = made g tells shared (act_at h) h r

-- The quiet step of a thread, where its next step is one (docs/machine.md, "Quiet steps").
unfoldable pub quiet : Setting → Remainder → Move
quiet g r = step_at g false none_shared (place_in r.items) r

-- The shared step of a thread whose next step is a shared statement and no call, with these values of shared variables
-- (docs/machine.md, "Shared statements").
unfoldable pub shared_step : Setting → SharedValues → Remainder → Move
shared_step g shared r = step_at g true shared (place_in r.items) r

-- ---- shared variables

-- A shared variable with its new value, where the variable is shared and the expression has no fault.
abbrev pub write_with : Var → Value → Option (NameId × ℤ)
write_with (Shared name) (Ok n) = Some (name, n)
write_with (Shared name) (Err x) = None
write_with (Local p) value = None

-- The shared variable that this statement writes, with its new value (docs/machine.md, "Shared statements").
abbrev pub write_by : Setting → SharedValues → Act → Remainder → Option (NameId × ℤ)
write_by g shared (Sets v e) r = write_with v (value_of g shared r e)
write_by g shared _ r = None

-- The same of the statement at this place, if one is next (docs/machine.md, "Shared statements").
abbrev pub write_at : Setting → SharedValues → Place → Remainder → Option (NameId × ℤ)
write_at g shared (At h) r = write_by g shared (act_at h) r
write_at g shared _ r = None

-- The shared variable that the shared step of a statement writes, with its new value (docs/machine.md, "Shared statements").
unfoldable pub written : Setting → SharedValues → Remainder → Option (NameId × ℤ)
written g shared r = write_at g shared (place_in r.items) r

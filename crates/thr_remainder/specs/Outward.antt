-- Unwindings that go outward (docs/machine.md, "Unwindings").
use Rattle.std.specs.Prelude.{ℕ, ℤ, negsuc, List, [], ◌∷◌, Bool, true, if◌then◌else◌, Option, Some, None}
use Rattle.thr_values.specs.declared.number.NameId.{NameId}
use Rattle.thr_values.specs.declared.exception.Exc.{Exc}
use Rattle.thr_values.specs.declared.history.What.{What}
use Rattle.thr_values.specs.declared.history.What.TheVariants as what
use Rattle.thr_values.specs.Exceptions.{cancel_e}
use Rattle.thr_syntax.specs.declared.tree.Script.{Script}
use Rattle.thr_remainder.specs.declared.unwinding.Cause.{Cause}
use Rattle.thr_remainder.specs.declared.unwinding.Cause.TheVariants.{Raised, Exit}
use Rattle.thr_remainder.specs.declared.unwinding.Unwinding.{Unwinding}
use Rattle.thr_remainder.specs.Places.{Left, Handler, Ways, Catches, Finally}
use Rattle.thr_remainder.specs.Declarations.{exception_value}
use Rattle.thr_remainder.specs.Remainders.{Item, Role, Calling, Trying, Catching, Finishing, Doing, Barrier, Setting, Remainder, Move}
use Rattle.thr_remainder.specs.Expressions.{is_same}
use Rattle.thr_remainder.specs.Starts.{at}

-- ---- catch clauses

-- The clause catches this exception: it names a matching one, or it is `catch_all` (docs/machine.md, "Handlers").
abbrev pub catches : Script → Exc → Option NameId → Bool
catches s x (Some name) = is_same x (exception_value s name)
catches s x None = true

-- The first clause that catches this exception.
abbrev pub first_catch : Script → Exc → List Handler → Option Handler
first_catch s x [] = None
first_catch s x (c ∷ clauses) = if catches s x c.names then Some c else first_catch s x clauses

-- ---- what an unwinding does at an item

-- What an unwinding does at an item (docs/machine.md, "Unwindings").
pub data Meeting : Type 0 where
  -- the item is dropped, and the unwinding goes on
  Drops : Meeting
  -- a body begins in the item's place, and the unwinding is over or pending in it
  Begins : (role : Role) (body : Left) (line : What) → Meeting
  -- the item is a once block's, which is undone by a step of its own
  Undoes : Meeting
  -- the item is dropped, and the unwinding is lost
  Loses : (line : What) → Meeting

-- The clause that catches begins its body; where none does, the try is dropped (docs/machine.md, "Unwindings").
abbrev pub caught_by : ℕ → ℕ → Exc → Option Handler → Meeting
caught_by scope n x None = Drops
caught_by scope n x (Some c) = Begins (Catching scope x) c.body (what.Catch scope n (at c.line))

-- At a try in its body. No clause catches an exit.
abbrev pub at_try : Script → ℕ → Ways → Unwinding → Cause → Meeting
at_try s scope (Finally body) u cause = Begins (Finishing scope (Some u)) body (what.Finally scope u.number)
at_try s scope (Catches clauses) u (Raised x) = caught_by scope u.number x (first_catch s x clauses)
at_try s scope (Catches clauses) u (Exit v) = Drops

-- What an unwinding does at an item of this role. One that was pending in a FINALLY body is replaced (docs/machine.md,
-- "Unwindings").
abbrev pub meeting : Script → Role → Unwinding → Meeting
meeting s (Calling locals place) u = Drops
meeting s (Trying scope ways) u = at_try s scope ways u u.cause
meeting s (Catching scope caught) u = Drops
meeting s (Finishing scope pending) u = Drops
meeting s (Doing scope block routine) u = Undoes
meeting s (Barrier scope key routine) u = Loses (what.Lost scope u.number)

-- ---- outward

-- The value of a thread that an unwinding leaves: that of an exit, -1 for `cancel_e`, -2 for any other exception
-- (docs/machine.md, "Unwindings").
abbrev pub left_value : Cause → ℤ
left_value (Exit v) = v
left_value (Raised x) = if is_same x cancel_e then negsuc 0 else negsuc 1

-- No item is left.
abbrev pub bottom : Unwinding → Remainder → Move
bottom u r = record {
  to = record r { items = []; under_way = None; value = left_value u.cause };
  lines = what.Bottom u.number (left_value u.cause) ∷ [];
}

-- `further` is what comes where the item is dropped.
abbrev pub met : Meeting → Item → List Item → Remainder → (further : Move) → Move
met Drops i outer r further = further
met (Begins role body line) i outer r further = record {
  to = record r { items = record { role = role; inside = body } ∷ outer; under_way = None };
  lines = line ∷ [];
}
met Undoes i outer r further = record { to = record r { items = i ∷ outer }; lines = [] }
met (Loses line) i outer r further = record { to = record r { items = outer; under_way = None }; lines = line ∷ [] }

-- The unwinding goes outward from these items until a body begins, it is lost, it comes to a once block, or no item is left.
abbrev pub outward_from : Script → Unwinding → List Item → Remainder → Move
outward_from s u [] r = bottom u r
outward_from s u (i ∷ outer) r = met (meeting s i.role u) i outer r (outward_from s u outer r)

-- The outward step of this unwinding, which is under way (docs/machine.md, "Unwindings").
unfoldable pub outward : Setting → Unwinding → Remainder → Move
outward g u r = outward_from g.script u r.items r

-- A once block is undone, and the unwinding is still under way (docs/machine.md, "Once blocks").
abbrev pub undone : ℕ → Unwinding → List Item → Remainder → Move
undone scope u outer r = record { to = record r { items = outer }; lines = what.Undone scope u.number ∷ [] }

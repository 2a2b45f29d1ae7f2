-- A fact about what is left in a thread that each of its steps keeps stays over the quiet part of a turn.
use Rattle.std.proofs.Common.{◌≡◌, ℕ, zero, suc, ℤ, Bool, true, false, List, [], ◌∷◌, Option, Some, None, refl}
use Rattle.std.specs.Prelude.{if◌then◌else◌}
use Rattle.thr_values.specs.declared.number.NameId.{NameId}
use Rattle.thr_values.specs.declared.exception.Exc.{Exc}
use Rattle.thr_values.specs.declared.reply.Reply.{Reply}
use Rattle.thr_values.specs.declared.scheduling.Mode.{Mode}
use Rattle.thr_syntax.specs.Shared.{is_shared}
use Rattle.thr_syntax.specs.declared.dce.DceCall.{DceCall}
use Rattle.thr_syntax.specs.declared.dce.DceCall.TheVariants as dce
use Rattle.thr_syntax.specs.declared.tree.Script.{Script}
use Rattle.thr_remainder.specs.declared.unwinding.Unwinding.{Unwinding}
use Rattle.thr_remainder.specs.Places.{Left}
use Rattle.thr_remainder.specs.Acts.{Act, Asks}
use Rattle.thr_remainder.specs.Remainders.{Role, Doing, Item, Setting, Remainder, Move, Spot, Place, Nowhere, AtEnd, At, place_in, act_at}
use Rattle.thr_remainder.specs.Expressions.{SharedValues}
use Rattle.thr_remainder.specs.Calls.{is_point, shape_of}
use Rattle.thr_remainder.specs.Starts.{raised, delivered, fresh, begins_once, begins_destructor}
use Rattle.thr_remainder.specs.Steps.{quiet, shared_step}
use Rattle.thr_remainder.specs.Outward.{outward, undone}
use Rattle.thr_remainder.specs.Replies.{replied}
use Rattle.thr_remainder.specs.Next.{Next, next, next_by, next_outward, next_end, next_shared, next_at}
use Rattle.thr_remainder.specs.Next as step
use Rattle.thr_remainder.specs.Runs.{is_deliverable, Halt, Delivers, Shares, Undoes, Completes, Ends, Pauses, Run, or_delivers, goes_on, quiet_or_delivers, is_asynchronous, at_next, outward_move, run_of}

-- This call is the next step.
pub record IsNextCall (r : Remainder) (call : DceCall) : Type 0 where
  pub spot : Spot
  pub here : place_in r.items ≡ At spot
  pub asks : act_at spot ≡ Asks call

-- A fact about what is left in a thread of a script that is there where a thread begins and that each step keeps. A once
-- routine begins only where its call is next.
pub record IsKeptBySteps (P : Script → Remainder → Type 0) : Type 0 where
  pub begins : (s : Script) (routine : NameId) (n : ℤ) → P s (fresh s routine n)
  pub steps : (g : Setting) (r : Remainder) → P g.script r → P g.script (quiet g r).to
  pub shares : (g : Setting) (shared : SharedValues) (r : Remainder) → P g.script r → P g.script (shared_step g shared r).to
  pub goes : (g : Setting) (u : Unwinding) (r : Remainder) → r.under_way ≡ Some u → P g.script r → P g.script (outward g u r).to
  pub undoes : (g : Setting) (scope : ℕ) (block routine : NameId) (left : Left) (u : Unwinding) (outer : List Item) (r : Remainder)
      → r.items ≡ record { role = Doing scope block routine; inside = left } ∷ outer → P g.script r → P g.script (undone scope u outer r).to
  pub replies : (g : Setting) (y : Reply) (r : Remainder) → P g.script r → P g.script (replied g y r).to
  pub runs : (g : Setting) (block routine : NameId) (r after : Remainder) → IsNextCall r (dce.Once block routine) → P g.script r → P g.script after → P g.script (begins_once g block routine after).to
  pub destroys : (g : Setting) (key routine : NameId) (n : ℤ) (r : Remainder) → P g.script r → P g.script (begins_destructor g key routine n r).to
  pub raises : (s : Script) (x : Exc) (r : Remainder) → P s r → P s (raised x r).to
  pub delivers : (s : Script) (r : Remainder) → P s r → P s (delivered r).to

-- What ends the quiet part leaves the fact, and a shared step is the statement that is next.
abbrev pub HaltKeeps : (Script → Remainder → Type 0) → Setting → Remainder → Halt → Type 0
HaltKeeps P g r Delivers = Unit {0}
HaltKeeps P g r (Shares spot) = place_in r.items ≡ At spot
HaltKeeps P g r (Undoes block m) = P g.script m.to
HaltKeeps P g r (Completes block m) = P g.script m.to
HaltKeeps P g r Ends = Unit {0}
HaltKeeps P g r Pauses = Unit {0}

-- The fact is there after the quiet part, and after what ends it.
pub record RunKeeps (P : Script → Remainder → Type 0) (g : Setting) (run : Run) : Type 0 where
  pub to : P g.script run.to
  pub halt : HaltKeeps P g run.to run.halt

module _ (P : Script → Remainder → Type 0) (k : IsKeptBySteps P) where
  -- ---- one step

  -- The fact is there after the step, and a shared step is the statement that is next.
  abbrev Moves : Setting → Remainder → Next → Type 0
  Moves g r (step.GoesOutward m) = P g.script m.to
  Moves g r (step.UndoesOnce block m) = P g.script m.to
  Moves g r step.EndsThread = Unit {0}
  Moves g r (step.EndsOnce block m) = P g.script m.to
  Moves g r (step.Shares h) = place_in r.items ≡ At h
  Moves g r (step.IsAtPoint h) = place_in r.items ≡ At h
  Moves g r (step.StepsQuietly m) = P g.script m.to

  role_moves : (g : Setting) (role : Role) (left : Left) (u : Unwinding) (outer : List Item) (r : Remainder) (m : Move) → r.items ≡ record { role = role; inside = left } ∷ outer → P g.script m.to → P g.script r
      → Moves g r (step.outward_or_undone role u outer r m)
  role_moves g (Doing scope block routine) left u outer r m e h i = k.undoes g scope block routine left u outer r e i
  role_moves g _ left u outer r m e h i = h

  unwinding_moves : (g : Setting) (u : Unwinding) (items : List Item) (r : Remainder) (m : Move) → r.items ≡ items → P g.script m.to → P g.script r → Moves g r (next_outward u items r m)
  unwinding_moves g u [] r m e h i = h
  unwinding_moves g u (x ∷ outer) r m e h i = role_moves g x.role x.inside u outer r m e h i

  end_moves : (g : Setting) (role : Role) (outer : List Item) (r : Remainder) (m : Move) → P g.script m.to → Moves g r (next_end role outer r m)
  end_moves g (Doing scope block routine) outer r m h = h
  end_moves g _ outer r m h = h

  point_moves : (g : Setting) (r : Remainder) (b : Bool) (h : Spot) → place_in r.items ≡ At h → Moves g r (if b then step.IsAtPoint h else step.Shares h)
  point_moves g r true h e = e
  point_moves g r false h e = e

  act_moves : (g : Setting) (r : Remainder) (act : Act) (h : Spot) → place_in r.items ≡ At h → Moves g r (next_shared act h)
  act_moves g r (Asks call) h e = point_moves g r (is_point (shape_of call).word) h e
  act_moves g r _ h e = e

  spot_moves : (g : Setting) (r : Remainder) (b : Bool) (h : Spot) (m : Move) → place_in r.items ≡ At h → P g.script m.to → Moves g r (if b then next_shared (act_at h) h else step.StepsQuietly m)
  spot_moves g r true h m e i = act_moves g r (act_at h) h e
  spot_moves g r false h m e i = i

  place_moves : (g : Setting) (p : Place) (r : Remainder) (m : Move) → place_in r.items ≡ p → P g.script m.to → Moves g r (next_at p r m)
  place_moves g Nowhere r m e h = tt
  place_moves g (AtEnd close role outer) r m e h = end_moves g role outer r m h
  place_moves g (At x) r m e h = spot_moves g r (is_shared x.stmt) x m e h

  by_moves : (g : Setting) (u : Option Unwinding) (r : Remainder) → r.under_way ≡ u → P g.script r → Moves g r (next_by g u r)
  by_moves g None r e h = place_moves g (place_in r.items) r (quiet g r) refl (k.steps g r h)
  by_moves g (Some u) r e h = unwinding_moves g u r.items r (outward g u r) refl (k.goes g u r e h) h

  next_moves : (g : Setting) (r : Remainder) → P g.script r → Moves g r (next g r)
  unfolding next
  next_moves g r h = by_moves g r.under_way r refl h

  -- ---- the quiet part of a turn

  abbrev AllKeep : Setting → (Remainder → Run) → Type 0
  AllKeep g more = (r : Remainder) → P g.script r → RunKeeps P g (more r)

  delivers_keeps : (g : Setting) (r : Remainder) (b : Bool) (halt : Halt) → HaltKeeps P g r halt → HaltKeeps P g r (or_delivers b halt)
  delivers_keeps g r true halt h = tt
  delivers_keeps g r false halt h = h

  goes_keeps : (g : Setting) (b : Bool) (more : Remainder → Run) (m : Move) → AllKeep g more → P g.script m.to → RunKeeps P g (goes_on b more m)
  goes_keeps g true more m all h = record { to = h; halt = tt }
  goes_keeps g false more m all h = let x : RunKeeps P g (more m.to) = all m.to h in record { to = x.to; halt = x.halt }

  quiet_keeps : (g : Setting) (b : Bool) (mode : Mode) (more : Remainder → Run) (r : Remainder) (m : Move) → AllKeep g more → P g.script r → P g.script m.to → RunKeeps P g (quiet_or_delivers b mode more r m)
  quiet_keeps g true mode more r m all h i = record { to = h; halt = tt }
  quiet_keeps g false mode more r m all h i = goes_keeps g (is_asynchronous mode) more m all i

  at_keeps : (g : Setting) (mode : Mode) (more : Remainder → Run) (r : Remainder) (x : Next) → AllKeep g more → P g.script r → Moves g r x → RunKeeps P g (at_next mode more r x)
  at_keeps g mode more r (step.GoesOutward m) all h i = record { to = h; halt = tt }
  at_keeps g mode more r (step.UndoesOnce block m) all h i = record { to = h; halt = i }
  at_keeps g mode more r step.EndsThread all h i = record { to = h; halt = tt }
  at_keeps g mode more r (step.EndsOnce block m) all h i = record { to = h; halt = delivers_keeps g r (is_deliverable mode false) (Completes block m) i }
  at_keeps g mode more r (step.Shares spot) all h i = record { to = h; halt = delivers_keeps g r (is_deliverable mode false) (Shares spot) i }
  at_keeps g mode more r (step.IsAtPoint spot) all h i = record { to = h; halt = delivers_keeps g r (is_deliverable mode true) (Shares spot) i }
  at_keeps g mode more r (step.StepsQuietly m) all h i = quiet_keeps g (is_deliverable mode false) mode more r m all h i

  outward_keeps : (g : Setting) (x : Next) (r : Remainder) → P g.script r → Moves g r x → P g.script (outward_move x r).to
  outward_keeps g (step.GoesOutward m) r h i = i
  outward_keeps g _ r h i = h

  -- The quiet part of a turn keeps it.
  pub run_keeps : (n : ℕ) (g : Setting) (mode : Mode) (r : Remainder) → P g.script r → RunKeeps P g (run_of n g mode r)
  unfolding run_of
  run_keeps zero g mode r h = record { to = h; halt = tt }
  run_keeps (suc n) g mode r h =
      let out : Move = outward_move (next g r) r in
      let has : P g.script out.to = outward_keeps g (next g r) r h (next_moves g r h) in
      let x : RunKeeps P g (at_next mode (run_of n g mode) out.to (next g out.to)) = at_keeps g mode (run_of n g mode) out.to (next g out.to) (run_keeps n g mode) has (next_moves g out.to has) in
      record { to = x.to; halt = x.halt }

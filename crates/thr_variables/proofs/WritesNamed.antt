-- The names that a statement writes, or that the reply of a call writes, are names of shared variables.
use Rattle.std.proofs.Common.{◌≡◌, ℕ, zero, suc, ◌-◌, ℤ, true, List, [], ◌∷◌, ◌++◌, Option, Some, None, Ok, Err, refl, subst}
use Rattle.thr_values.specs.declared.number.NameId.{NameId}
use Rattle.thr_values.specs.declared.reply.Reply.{Reply}
use Rattle.thr_values.specs.declared.reply.Reply.TheVariants as reply
use Rattle.thr_syntax.specs.declared.dce.DceCall.{DceCall}
use Rattle.thr_syntax.specs.declared.dce.DceCall.TheVariants as dce
use Rattle.thr_syntax.specs.declared.expr.Var.{Var}
use Rattle.thr_syntax.specs.declared.expr.Var.TheVariants.{Local, Shared}
use Rattle.thr_syntax.specs.declared.expr.Expr.{Expr}
use Rattle.thr_syntax.specs.declared.form.Form.TheVariants as form
use Rattle.thr_syntax.specs.declared.tree.Script.{Script}
use Rattle.thr_syntax.specs.Lines.{lines_of}
use Rattle.thr_syntax.specs.Shared.{variables_of}
use Rattle.thr_text.specs.declared.object.Object.TheVariants as object
use Rattle.thr_text.specs.Reading.{Formed}
use Rattle.thr_trees.specs.Kinds.{is_name_of}
use Rattle.thr_trees.specs.Names.{IsVariable, AreVariables, variables_in_call, locals_at}
use Rattle.thr_trees.proofs.LinesNamed.{line_is_named, standing_is_named}
use Rattle.thr_remainder.specs.Acts.{Act, Sets, Asks}
use Rattle.thr_remainder.specs.Calls.{taken, taken_by_read, stores}
use Rattle.thr_remainder.specs.Expressions.{Value, SharedValues, value_of}
use Rattle.thr_remainder.specs.Remainders.{Setting, Remainder, Spot, Place, At, place_in, act_at}
use Rattle.thr_remainder.specs.Replies.{shared_in, writes_by, writes_at, writes}
use Rattle.thr_remainder.specs.Standing.{StandAt}
use Rattle.thr_remainder.specs.Steps.{write_with, write_by, write_at, written}
use Rattle.thr_laws.specs.CallsOnce.{form_at}
use Rattle.thr_answers.specs.Standing.{StandsIn}
use Rattle.thr_answers.proofs.StepsStand.{IsSpot, IsPlace, place_stands}
use Rattle.thr_answers.proofs.CallLines.{stands_as}
use Rattle.thr_variables.proofs.SetLines.{set_line}

-- Each of these names is that of a shared variable.
abbrev pub AreShared : Script → List (NameId × ℤ) → Type 0
AreShared s [] = Unit {0}
AreShared s (w ∷ ws) = (is_name_of s object.Shared w.0 ≡ true) × AreShared s ws

-- The name that is there is that of a shared variable.
abbrev pub IsSharedIf : Script → Option (NameId × ℤ) → Type 0
IsSharedIf s None = Unit {0}
IsSharedIf s (Some w) = is_name_of s object.Shared w.0 ≡ true

-- ---- what a call stores

module _ (s : Script) (locals : ℕ) where
  later_variables : (vs ws : List Var) → AreVariables s locals (vs ++ ws) → AreVariables s locals ws
  later_variables [] ws h = h
  later_variables (v ∷ vs) ws h = later_variables vs ws h.1

  stored_before : (v : Var) (n : ℤ) (rest : List (Var × ℤ)) → IsVariable s locals v → AreShared s (shared_in rest) → AreShared s (shared_in ((v, n) ∷ rest))
  stored_before (Local place) n rest h k = k
  stored_before (Shared name) n rest h k = (h, k)

  taken_named : (v : Var) (y : Reply) → IsVariable s locals v → AreShared s (shared_in (taken v y))
  taken_named v (reply.Value n) h = stored_before v n [] h tt
  taken_named v _ h = tt

  read_named : (v w : Var) (y : Reply) → IsVariable s locals v → IsVariable s locals w → AreShared s (shared_in (taken_by_read v w y))
  read_named v w (reply.Value n) h k = stored_before v _ _ h (stored_before w _ [] k tt)
  read_named v w reply.Eof h k = stored_before v _ _ h (stored_before w _ [] k tt)
  read_named v w _ h k = tt

  -- The variable behind those of an expression.
  last_named : (vs : List Var) (v : Var) (y : Reply) → AreVariables s locals (vs ++ v ∷ []) → AreShared s (shared_in (taken v y))
  last_named vs v y h = let last : AreVariables s locals (v ∷ []) = later_variables vs (v ∷ []) h in taken_named v y last.0

  stores_named : (call : DceCall) (y : Reply) → AreVariables s locals (variables_in_call call) → AreShared s (shared_in (stores call y))
  unfolding stores
  stores_named (dce.Create v attr name e) y h = taken_named v y h.0
  stores_named (dce.Join e v) y h = last_named (variables_of e) v y h
  stores_named (dce.Setcancel on v) y h = taken_named v y h.0
  stores_named (dce.Setasynccancel on v) y h = taken_named v y h.0
  stores_named (dce.Setprio e f v) y h = last_named (variables_of f) v y (later_variables (variables_of e) (variables_of f ++ v ∷ []) h)
  stores_named (dce.Getprio e v) y h = last_named (variables_of e) v y h
  stores_named (dce.Setscheduler e policy f v) y h = last_named (variables_of f) v y (later_variables (variables_of e) (variables_of f ++ v ∷ []) h)
  stores_named (dce.Getscheduler e v) y h = last_named (variables_of e) v y h
  stores_named (dce.GetExpirationNp e v) y h = last_named (variables_of e) v y h
  stores_named (dce.MutexTrylock n v) y h = taken_named v y h.0
  stores_named (dce.Getspecific n v) y h = taken_named v y h.0
  stores_named (dce.Read n v w) y h = read_named v w y h.0 h.1.0
  stores_named _ y h = tt

  write_named : (v : Var) (x : Value) → IsVariable s locals v → IsSharedIf s (write_with v x)
  write_named (Shared name) (Ok n) h = h
  write_named (Shared name) (Err x) h = tt
  write_named (Local place) x h = tt

-- ---- statements at their lines

module _ (s : Script) (formed : Formed s) where
  call_named : (line : ℕ) (call : DceCall) (y : Reply) → form_at s line ≡ Some (form.Dce call) → AreShared s (shared_in (stores call y))
  call_named zero call y is = absurd (cc)
  call_named (suc k) call y is = stores_named s (locals_at s k) call y (line_is_named s formed k (form.Dce call) is).variables

  set_named : (h : Spot) (v : Var) (e : Expr) → IsSpot (lines_of s) h → act_at h ≡ Sets v e → IsVariable s (locals_at s (h.line - 1)) v
  set_named h v e stands is =
      let own : StandAt (lines_of s) h.line (form.Set v e ∷ []) = subst (StandAt (lines_of s) h.line) (set_line h.stmt h.line h.rest v e is) stands.here in
      (standing_is_named s formed h.line (form.Set v e) [] own).variables.0

  act_writes_named : (h : Spot) (act : Act) (y : Reply) → IsSpot (lines_of s) h → act_at h ≡ act → AreShared s (writes_by act y)
  act_writes_named h (Asks call) y stands is = call_named h.line call y (stands_as s h.line h.stmt h.rest call stands.here is)
  act_writes_named h _ y stands is = tt

  place_writes_named : (p : Place) (y : Reply) → IsPlace (lines_of s) p → AreShared s (writes_at p y)
  place_writes_named (At h) y stands = act_writes_named h (act_at h) y stands refl
  place_writes_named _ y stands = tt

  -- The reply of the next call writes shared variables.
  pub writes_named : (r : Remainder) (y : Reply) → StandsIn s r → AreShared s (writes r y)
  unfolding writes
  writes_named r y h = place_writes_named (place_in r.items) y (place_stands (lines_of s) r.items h.items)

  act_write_named : (g : Setting) (shared : SharedValues) (h : Spot) (act : Act) (r : Remainder) → IsSpot (lines_of s) h → act_at h ≡ act → IsSharedIf s (write_by g shared act r)
  act_write_named g shared h (Sets v e) r stands is = write_named s (locals_at s (h.line - 1)) v (value_of g shared r e) (set_named h v e stands is)
  act_write_named g shared h _ r stands is = tt

  place_write_named : (g : Setting) (shared : SharedValues) (p : Place) (r : Remainder) → IsPlace (lines_of s) p → IsSharedIf s (write_at g shared p r)
  place_write_named g shared (At h) r stands = act_write_named g shared h (act_at h) r stands refl
  place_write_named g shared _ r stands = tt

  -- The next statement writes a shared variable, or none.
  pub written_named : (g : Setting) (shared : SharedValues) (r : Remainder) → StandsIn s r → IsSharedIf s (written g shared r)
  unfolding written
  written_named g shared r h = place_write_named g shared (place_in r.items) r (place_stands (lines_of s) r.items h.items)

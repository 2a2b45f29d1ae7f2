-- The quiet part of a turn goes on with the course of its thread.
use Rattle.std.proofs.Common.{◌≡◌, ℕ, zero, suc, Bool, true, false, List, [], ◌∷◌, ◌++◌, Option, Some, None, refl, ap, ◌∙◌, subst, append_assoc, if◌then◌else◌}
use Rattle.thr_values.specs.declared.history.What.{What}
use Rattle.thr_values.specs.declared.scheduling.Mode.{Mode}
use Rattle.thr_syntax.specs.Shared.{is_shared}
use Rattle.thr_syntax.specs.declared.tree.Script.{Script}
use Rattle.thr_remainder.specs.declared.unwinding.Unwinding.{Unwinding}
use Rattle.thr_remainder.specs.Places.{Placed, Ways}
use Rattle.thr_remainder.specs.Acts.{Act, Asks}
use Rattle.thr_remainder.specs.Remainders.{Item, Role, Calling, Trying, Catching, Finishing, Doing, Barrier, Setting, Remainder, Move, Spot, Place, Nowhere, AtEnd, At, place_in, place_inside, act_at}
use Rattle.thr_remainder.specs.Calls.{is_point, shape_of}
use Rattle.thr_remainder.specs.Starts.{still}
use Rattle.thr_remainder.specs.Steps.{quiet}
use Rattle.thr_remainder.specs.Outward.{outward}
use Rattle.thr_remainder.specs.Next.{Next, next, next_by, next_outward, outward_or_undone, next_end, next_shared, next_at}
use Rattle.thr_remainder.specs.Next as step
use Rattle.thr_remainder.specs.Runs.{is_deliverable, Halt, Delivers, Shares, Undoes, Completes, Ends, Pauses, Run, halts, pauses, or_delivers, goes_on, quiet_or_delivers, is_asynchronous, at_next, outward_move, run_of, after_lines}
use Rattle.thr_routed.specs.Courses.{Outline, with_role, roles_in, outline, Course}
use Rattle.thr_routed.specs.Courses as courses
use Rattle.thr_routed.specs.Reaching.{Reached, quietly, outwardly, by_undoing, IsRight}
use Rattle.thr_routed.proofs.Moves.{Goes, no_line, quiet_goes, outward_goes, undone_goes}

module _ (s : Script) (HasWays : ℕ → Ways → Type 0) (MayReturn : Type 0) (right : IsRight s HasWays MayReturn) where
  -- From what can be reached the step goes on with the course, to what can be reached.
  pub record Steps (r : Remainder) (m : Move) : Type 0 where
    pub goes : Goes s HasWays MayReturn r m
    pub reached : Reached s m.to

  pub quiet_steps : (g : Setting) (r : Remainder) → g.script ≡ s → Reached s r → r.under_way ≡ None → Steps r (quiet g r)
  quiet_steps g r e h none = record { goes = quiet_goes s HasWays MayReturn g r none (right.at r h); reached = quietly g r e h }

  outward_steps : (g : Setting) (u : Unwinding) (r : Remainder) → g.script ≡ s → Reached s r → r.under_way ≡ Some u → Steps r (outward g u r)
  outward_steps g u r e h under = record { goes = outward_goes s HasWays MayReturn g u r e under; reached = outwardly g u r e h under }

  -- ---- the next step

  abbrev IsNext : Remainder → Next → Type 0
  IsNext r (step.GoesOutward m) = Steps r m
  IsNext r (step.UndoesOnce block m) = Steps r m
  IsNext r step.EndsThread = (r.under_way ≡ None) × (r.items ≡ [])
  IsNext r (step.EndsOnce block m) = Steps r m × (r.under_way ≡ None)
  IsNext r (step.Shares h) = (r.under_way ≡ None) × (place_in r.items ≡ At h)
  IsNext r (step.IsAtPoint h) = (r.under_way ≡ None) × (place_in r.items ≡ At h)
  IsNext r (step.StepsQuietly m) = Steps r m × (r.under_way ≡ None)

  role_next : (role : Role) (u : Unwinding) (i : Item) (outer : List Item) (r : Remainder) (m : Move) → r.items ≡ i ∷ outer → i.role ≡ role → r.under_way ≡ Some u → Reached s r → Steps r m → IsNext r (outward_or_undone role u outer r m)
  role_next (Doing scope block routine) u i outer r m e f under h st = record {
    goes = undone_goes s HasWays MayReturn scope block routine u outer r under (ap roles_in e ∙ ap (λ role. with_role role (roles_in outer)) f);
    reached = by_undoing scope u i outer r e h;
  }
  role_next (Calling locals place) u i outer r m e f under h st = st
  role_next (Trying scope ways) u i outer r m e f under h st = st
  role_next (Catching scope caught) u i outer r m e f under h st = st
  role_next (Finishing scope pending) u i outer r m e f under h st = st
  role_next (Barrier scope key routine) u i outer r m e f under h st = st

  items_next : (items : List Item) (u : Unwinding) (r : Remainder) (m : Move) → r.items ≡ items → r.under_way ≡ Some u → Reached s r → Steps r m → IsNext r (next_outward u items r m)
  items_next [] u r m e under h st = st
  items_next (i ∷ outer) u r m e under h st = role_next i.role u i outer r m e refl under h st

  end_next : (role : Role) (outer : List Item) (r : Remainder) (m : Move) → r.under_way ≡ None → Steps r m → IsNext r (next_end role outer r m)
  end_next (Doing scope block routine) outer r m none st = (st, none)
  end_next (Calling locals place) outer r m none st = (st, none)
  end_next (Trying scope ways) outer r m none st = (st, none)
  end_next (Catching scope caught) outer r m none st = (st, none)
  end_next (Finishing scope pending) outer r m none st = (st, none)
  end_next (Barrier scope key routine) outer r m none st = (st, none)

  point_next : (b : Bool) (h : Spot) (r : Remainder) → r.under_way ≡ None → place_in r.items ≡ At h → IsNext r (if b then step.IsAtPoint h else step.Shares h)
  point_next true h r none e = (none, e)
  point_next false h r none e = (none, e)

  act_next : (act : Act) (h : Spot) (r : Remainder) → r.under_way ≡ None → place_in r.items ≡ At h → IsNext r (next_shared act h)
  act_next (Asks call) h r none e = point_next (is_point (shape_of call).word) h r none e
  act_next _ h r none e = (none, e)

  spot_next : (b : Bool) (h : Spot) (r : Remainder) (m : Move) → r.under_way ≡ None → place_in r.items ≡ At h → Steps r m → IsNext r (if b then next_shared (act_at h) h else step.StepsQuietly m)
  spot_next true h r m none e st = act_next (act_at h) h r none e
  spot_next false h r m none e st = (st, none)

  no_place : (todo : List Placed) (close : ℕ) (role : Role) (outer : List Item) → place_inside todo close role outer ≡ Nowhere → ⊥
  no_place [] close role outer e = cc
  no_place (p ∷ todo) close role outer e = cc

  no_items : (items : List Item) → place_in items ≡ Nowhere → items ≡ []
  no_items [] e = refl
  no_items (i ∷ outer) e = absurd (no_place i.inside.todo i.inside.close i.role outer e)

  place_next : (p : Place) (r : Remainder) (m : Move) → r.under_way ≡ None → place_in r.items ≡ p → Steps r m → IsNext r (next_at p r m)
  place_next Nowhere r m none e st = (none, no_items r.items e)
  place_next (AtEnd close role outer) r m none e st = end_next role outer r m none st
  place_next (At h) r m none e st = spot_next (is_shared h.stmt) h r m none e st

  by_next : (g : Setting) (o : Option Unwinding) (r : Remainder) → g.script ≡ s → Reached s r → r.under_way ≡ o → IsNext r (next_by g o r)
  by_next g None r e h under = place_next (place_in r.items) r (quiet g r) under refl (quiet_steps g r e h under)
  by_next g (Some u) r e h under = items_next r.items u r (outward g u r) refl under h (outward_steps g u r e h under)

  is_next : (g : Setting) (r : Remainder) → g.script ≡ s → Reached s r → IsNext r (next g r)
  unfolding next
  is_next g r e h = by_next g r.under_way r e h refl

  -- ---- the quiet part

  abbrev pub IsHalt : Remainder → Halt → Type 0
  IsHalt r Delivers = r.under_way ≡ None
  IsHalt r (Shares h) = (r.under_way ≡ None) × (place_in r.items ≡ At h)
  IsHalt r (Undoes block m) = Steps r m
  IsHalt r (Completes block m) = Steps r m
  IsHalt r Ends = (r.under_way ≡ None) × (r.items ≡ [])
  IsHalt r Pauses = Unit {0}

  -- The part goes on with the course, and ends as its halt says.
  pub record Runs (r : Remainder) (run : Run) : Type 0 where
    pub goes : (lines : List What) → Course s HasWays MayReturn (Some (outline r)) lines → Course s HasWays MayReturn (Some (outline run.to)) (lines ++ run.lines)
    pub reached : Reached s run.to
    pub halt : IsHalt run.to run.halt

  abbrev AllRun : (Remainder → Run) → Type 0
  AllRun more = (r : Remainder) → Reached s r → Runs r (more r)

  halts_runs : (r : Remainder) (halt : Halt) → Reached s r → IsHalt r halt → Runs r (halts r halt)
  halts_runs r halt h i = record { goes = λ lines c. no_line s HasWays MayReturn (Some (outline r)) lines c; reached = h; halt = i }

  pauses_runs : (r : Remainder) → Reached s r → Runs r (pauses r)
  pauses_runs r h = record { goes = λ lines c. courses.after c (courses.pauses (outline r)); reached = h; halt = tt }

  after_runs : (r : Remainder) (m : Move) (run : Run) → Steps r m → Runs m.to run → Runs r (after_lines m.lines run)
  after_runs r m run st x = record {
    goes = λ lines c. subst (λ l. Course s HasWays MayReturn (Some (outline run.to)) l) (append_assoc lines m.lines run.lines) (x.goes (lines ++ m.lines) (st.goes lines c));
    reached = x.reached;
    halt = x.halt;
  }

  or_halt : (b : Bool) (r : Remainder) (halt : Halt) → r.under_way ≡ None → IsHalt r halt → IsHalt r (or_delivers b halt)
  or_halt true r halt none h = none
  or_halt false r halt none h = h

  goes_on_runs : (b : Bool) (more : Remainder → Run) (r : Remainder) (m : Move) → AllRun more → Steps r m → Runs r (goes_on b more m)
  goes_on_runs true more r m all st = after_runs r m (pauses m.to) st (pauses_runs m.to st.reached)
  goes_on_runs false more r m all st = after_runs r m (more m.to) st (all m.to st.reached)

  quiet_runs : (b : Bool) (mode : Mode) (more : Remainder → Run) (r : Remainder) (m : Move) → AllRun more → Reached s r → r.under_way ≡ None → Steps r m → Runs r (quiet_or_delivers b mode more r m)
  quiet_runs true mode more r m all h none st = halts_runs r Delivers h none
  quiet_runs false mode more r m all h none st = goes_on_runs (is_asynchronous mode) more r m all st

  next_runs : (mode : Mode) (more : Remainder → Run) (r : Remainder) (x : Next) → AllRun more → Reached s r → IsNext r x → Runs r (at_next mode more r x)
  next_runs mode more r (step.GoesOutward m) all h i = pauses_runs r h
  next_runs mode more r (step.UndoesOnce block m) all h i = halts_runs r (Undoes block m) h i
  next_runs mode more r step.EndsThread all h i = halts_runs r Ends h i
  next_runs mode more r (step.EndsOnce block m) all h i = halts_runs r _ h (or_halt (is_deliverable mode false) r (Completes block m) i.1 i.0)
  next_runs mode more r (step.Shares spot) all h i = halts_runs r _ h (or_halt (is_deliverable mode false) r (Shares spot) i.0 i)
  next_runs mode more r (step.IsAtPoint spot) all h i = halts_runs r _ h (or_halt (is_deliverable mode true) r (Shares spot) i.0 i)
  next_runs mode more r (step.StepsQuietly m) all h i = quiet_runs (is_deliverable mode false) mode more r m all h i.1 i.0

  still_steps : (r : Remainder) → Reached s r → Steps r (still r)
  still_steps r h = record { goes = λ lines c. no_line s HasWays MayReturn (Some (outline r)) lines c; reached = h }

  out_steps : (x : Next) (r : Remainder) → Reached s r → IsNext r x → Steps r (outward_move x r)
  out_steps (step.GoesOutward m) r h i = i
  out_steps (step.UndoesOnce block m) r h i = still_steps r h
  out_steps step.EndsThread r h i = still_steps r h
  out_steps (step.EndsOnce block m) r h i = still_steps r h
  out_steps (step.Shares spot) r h i = still_steps r h
  out_steps (step.IsAtPoint spot) r h i = still_steps r h
  out_steps (step.StepsQuietly m) r h i = still_steps r h

  pub run_runs : (n : ℕ) (g : Setting) (mode : Mode) (r : Remainder) → g.script ≡ s → Reached s r → Runs r (run_of n g mode r)
  unfolding run_of
  run_runs zero g mode r e h = pauses_runs r h
  run_runs (suc n) g mode r e h =
      let out : Move = outward_move (next g r) r in
      let st : Steps r out = out_steps (next g r) r h (is_next g r e h) in
      after_runs r out (at_next mode (run_of n g mode) out.to (next g out.to)) st
      (next_runs mode (run_of n g mode) out.to (next g out.to) (λ q i. run_runs n g mode q e i) st.reached (is_next g out.to e st.reached))

-- A turn where a cancel is outstanding and both cancelabilities are on delivers it, or goes outward or ends.
use Rattle.std.proofs.Common.{◌≡◌, ℕ, suc, Bool, true, false, ◌&&◌, ◌||◌, List, [], ◌∷◌, ◌++◌, Option, Some, None, refl, sym, ◌∙◌, ap, subst}
use Rattle.std.proofs.lemmas.Bool.{false≢true}
use Rattle.std.specs.Prelude.{if◌then◌else◌}
use Rattle.thr_values.specs.declared.number.Tid.{Tid}
use Rattle.thr_values.specs.declared.scheduling.Mode.{Mode}
use Rattle.thr_syntax.specs.declared.tree.Script.{Script}
use Rattle.thr_parts.specs.Cancels as cancels
use Rattle.thr_parts.specs.Cancels.{mode_in, mode_at, with_mode, set_mode}
use Rattle.thr_model.specs.Histories.{Execution, History}
use Rattle.thr_remainder.specs.Remainders.{Setting, Remainder, place_in, act_at}
use Rattle.thr_parts.specs.Cancels.{deliver}
use Rattle.thr_model.specs.States.{remainder_of, setting_of}
use Rattle.thr_cancels.proofs.Agreement.{head_and}
use Rattle.std.specs.List.{list_all}
use Rattle.thr_syntax.specs.Shared.{is_shared}
use Rattle.thr_remainder.specs.declared.unwinding.Unwinding.{Unwinding}
use Rattle.thr_remainder.specs.Remainders.{Item, Role, Calling, Trying, Catching, Finishing, Doing, Barrier, Move, Spot, Place, Nowhere, AtEnd, At}
use Rattle.thr_remainder.specs.Next.{Next, GoesOutward, UndoesOnce, EndsThread, EndsOnce, StepsQuietly, next_outward, outward_or_undone, next_end, next_shared, next_at, next_by, next}
use Rattle.thr_remainder.specs.Next as step
use Rattle.thr_remainder.specs.Steps.{quiet}
use Rattle.thr_remainder.specs.Outward.{outward}
use Rattle.thr_remainder.specs.Acts.{Act, Asks}
use Rattle.thr_remainder.specs.Starts.{still}
use Rattle.thr_values.specs.declared.history.What.{What}
use Rattle.thr_remainder.specs.Calls.{is_point, shape_of}
use Rattle.thr_cancels.specs.Delivering.{AreCarried, HaltsAtOnce, IsAtOnce}
use Rattle.thr_cancels.proofs.NumbersKept.{remainder_numbered, numbers-given}
use Rattle.thr_remainder.specs.Places.{Left}
use Rattle.thr_remainder.specs.Runs.{is_deliverable, Halt, Delivers, Shares, Undoes, Completes, Ends, Pauses, Run, run_of, most_steps}
use Rattle.thr_remainder.specs.Runs as runs
use Rattle.thr_remainder.specs.Runs.{or_delivers, at_next, outward_move}
use Rattle.thr_laws.specs.CancelLaw.{is_carried}
use Rattle.thr_cancels.proofs.Numbers.{HasNumbers, IsUnwinding, IsStopped, IsOutward, outward_out, is_once}

-- The next step is no outward one.
abbrev IsInward : Next → Type 0
IsInward (GoesOutward m) = ⊥
IsInward (UndoesOnce block m) = AreCarried m.lines
IsInward _ = Unit {0}

point_inward : (b : Bool) (h : Spot) → IsInward (let x : Next = if b then step.IsAtPoint h else step.Shares h in x)
point_inward true h = tt
point_inward false h = tt

act_inward : (act : Act) (h : Spot) → IsInward (next_shared act h)
act_inward (Asks call) h = point_inward (is_point (shape_of call).word) h
act_inward _ h = tt

spot_inward : (b : Bool) (h : Spot) (m : Move) → IsInward (let x : Next = if b then next_shared (act_at h) h else StepsQuietly m in x)
spot_inward true h m = act_inward (act_at h) h
spot_inward false h m = tt

end_inward : (role : Role) (outer : List Item) (r : Remainder) (m : Move) → IsInward (next_end role outer r m)
end_inward (Doing scope block routine) outer r m = tt
end_inward _ outer r m = tt

place_inward : (p : Place) (r : Remainder) (m : Move) → IsInward (next_at p r m)
place_inward Nowhere r m = tt
place_inward (AtEnd close role outer) r m = end_inward role outer r m
place_inward (At x) r m = spot_inward (is_shared x.stmt) x m

once_inward : (role : Role) (u : Unwinding) (outer : List Item) (r : Remainder) (m : Move) → is_once role ≡ true → IsInward (outward_or_undone role u outer r m)
once_inward (Doing scope block routine) u outer r m e = refl
once_inward (Calling locals place) u outer r m e = absurd (false≢true e)
once_inward (Trying scope ways) u outer r m e = absurd (false≢true e)
once_inward (Catching scope caught) u outer r m e = absurd (false≢true e)
once_inward (Finishing scope pending) u outer r m e = absurd (false≢true e)
once_inward (Barrier scope key routine) u outer r m e = absurd (false≢true e)

unwinding_inward : (u : Unwinding) (items : List Item) (r : Remainder) (m : Move) → IsStopped items (Some u) → IsInward (next_outward u items r m)
unwinding_inward u [] r m h = absurd h
unwinding_inward u (i ∷ outer) r m h = once_inward i.role u outer r m h

by_inward : (g : Setting) (o : Option Unwinding) (r : Remainder) → IsStopped r.items o → IsInward (next_by g o r)
by_inward g None r h = place_inward (place_in r.items) r (quiet g r)
by_inward g (Some u) r h = unwinding_inward u r.items r (outward g u r) h

next_inward : (g : Setting) (r : Remainder) → IsStopped r.items r.under_way → IsInward (next g r)
unfolding next
next_inward g r h = by_inward g r.under_way r h

-- ---- the outward move of a turn

record IsOut (m : Move) : Type 0 where
  lines : AreCarried m.lines
  stopped : IsStopped m.to.items m.to.under_way

still_out : (r : Remainder) → IsStopped r.items r.under_way → IsOut (still r)
still_out r h = record { lines = refl; stopped = h }

role_out : (role : Role) (inside : Left) (u : Unwinding) (outer : List Item) (r : Remainder) (m : Move) → r.under_way ≡ Some u → r.items ≡ (let i : Item = record { role = role; inside = inside } in i) ∷ outer → IsOut m
    → IsOut (outward_move (outward_or_undone role u outer r m) r)
role_out (Doing scope block routine) inside u outer r m e f out =
    record { lines = refl; stopped = subst (λ (o : Option Unwinding). IsStopped r.items o) (sym e) (subst (λ (l : List Item). IsStopped l (Some u)) (sym f) refl) }
role_out (Calling locals place) inside u outer r m e f out = out
role_out (Trying scope ways) inside u outer r m e f out = out
role_out (Catching scope caught) inside u outer r m e f out = out
role_out (Finishing scope pending) inside u outer r m e f out = out
role_out (Barrier scope key routine) inside u outer r m e f out = out

items_out : (u : Unwinding) (items : List Item) (r : Remainder) (m : Move) → r.under_way ≡ Some u → r.items ≡ items → IsOut m → IsOut (outward_move (next_outward u items r m) r)
items_out u [] r m e f out = out
items_out u (i ∷ outer) r m e f out = role_out i.role i.inside u outer r m e f out

no_out : (x : Next) (r : Remainder) → IsInward x → IsStopped r.items r.under_way → IsOut (outward_move x r)
no_out (GoesOutward m) r h s = absurd h
no_out (UndoesOnce block m) r h s = still_out r s
no_out EndsThread r h s = still_out r s
no_out (EndsOnce block m) r h s = still_out r s
no_out (step.Shares spot) r h s = still_out r s
no_out (step.IsAtPoint spot) r h s = still_out r s
no_out (StepsQuietly m) r h s = still_out r s

none_stopped : (items : List Item) (o : Option Unwinding) → o ≡ None → IsStopped items o
none_stopped items None e = tt
none_stopped items (Some u) e = absurd (cc)

by_out : (g : Setting) (o : Option Unwinding) (r : Remainder) → r.under_way ≡ o → HasNumbers r → IsOut (outward_move (next_by g o r) r)
by_out g None r e h = no_out (next_at (place_in r.items) r (quiet g r)) r (place_inward (place_in r.items) r (quiet g r)) (none_stopped r.items r.under_way e)
by_out g (Some u) r e h =
    let out : IsOutward (outward g u r) = outward_out g u r (subst IsUnwinding e h.under) h in
    items_out u r.items r (outward g u r) e refl (record { lines = out.lines; stopped = out.stopped })

next_out : (g : Setting) (r : Remainder) → HasNumbers r → IsOut (outward_move (next g r) r)
unfolding next
next_out g r h = by_out g r.under_way r refl h

-- ---- the quiet part

at_point : (m : Mode) → is_deliverable m false ≡ true → is_deliverable m true ≡ true
at_point m e = by_cases m.pending m.general m.asynchronous e
  where
    by_cases : (p g a : Bool) → (p && g && (false || a)) ≡ true → (p && g && (true || a)) ≡ true
    by_cases true true a f = refl
    by_cases true false a f = f
    by_cases false g a f = f

delivering : (b : Bool) (halt : Halt) → b ≡ true → HaltsAtOnce (or_delivers b halt)
delivering true halt e = tt
delivering false halt e = absurd (false≢true e)

quiet_at_once : (b : Bool) (mode : Mode) (more : Remainder → Run) (r : Remainder) (m : Move) → b ≡ true → IsAtOnce (runs.quiet_or_delivers b mode more r m)
quiet_at_once true mode more r m e = record { lines = refl; halt = tt }
quiet_at_once false mode more r m e = absurd (false≢true e)

at_once : (mode : Mode) (more : Remainder → Run) (r : Remainder) (x : Next) → is_deliverable mode false ≡ true → IsInward x → IsAtOnce (at_next mode more r x)
at_once mode more r (GoesOutward m) e h = absurd h
at_once mode more r (UndoesOnce block m) e h = record { lines = refl; halt = h }
at_once mode more r EndsThread e h = record { lines = refl; halt = tt }
at_once mode more r (EndsOnce block m) e h = record { lines = refl; halt = delivering (is_deliverable mode false) (Completes block m) e }
at_once mode more r (step.Shares spot) e h = record { lines = refl; halt = delivering (is_deliverable mode false) (Shares spot) e }
at_once mode more r (step.IsAtPoint spot) e h = record { lines = refl; halt = delivering (is_deliverable mode true) (Shares spot) (at_point mode e) }
at_once mode more r (StepsQuietly m) e h = quiet_at_once (is_deliverable mode false) mode more r m e

carried_append : (ws vs : List What) → AreCarried ws → AreCarried vs → AreCarried (ws ++ vs)
carried_append [] vs e f = f
carried_append (w ∷ ws) vs e f =
    let both : (is_carried w ≡ true) × (list_all is_carried ws ≡ true) = head_and (is_carried w) (list_all is_carried ws) e in
    ap (λ b. b && list_all is_carried (ws ++ vs)) both.0 ∙ carried_append ws vs both.1 f

-- Where a cancel can be delivered at once, the lines of the quiet part carry an unwinding, and after it the cancel is delivered, a
-- once block is undone, or the thread makes its end step.
pub run_at_once : (n : ℕ) (g : Setting) (mode : Mode) (r : Remainder) → is_deliverable mode false ≡ true → HasNumbers r → IsAtOnce (run_of (suc n) g mode r)
unfolding run_of
run_at_once n g mode r e h =
    let out : Move = outward_move (next g r) r in
    let o : IsOut out = next_out g r h in
    let x : IsAtOnce (at_next mode (run_of n g mode) out.to (next g out.to)) = at_once mode (run_of n g mode) out.to (next g out.to) e (next_inward g out.to o.stopped) in
    record { lines = carried_append out.lines _ o.lines x.lines; halt = x.halt }

pub turn_at_once : {s : Script} {n : ℕ} {x : Execution} → History s n x → (t : Tid)
    → is_deliverable (cancels.mode_at x.state.threads t) false ≡ true → IsAtOnce (run_of most_steps (setting_of s x.state t) (cancels.mode_at x.state.threads t) (remainder_of x.state t))
turn_at_once {s} {n} {x} h t e = run_at_once 63 (setting_of s x.state t) (cancels.mode_at x.state.threads t) (remainder_of x.state t) e (remainder_numbered s x.state t (numbers-given h))

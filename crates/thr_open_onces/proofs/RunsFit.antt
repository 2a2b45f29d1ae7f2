-- Where the once blocks whose routines run fit tables by names, so does the one that ends the quiet part of a turn.
use Rattle.std.proofs.Common.{ℕ, zero, suc, ◌<◌, Bool, true, false, List, [], ◌∷◌, Option, Some, None}
use Rattle.std.specs.Prelude.{if◌then◌else◌, IfSome}
use Rattle.thr_values.specs.declared.scheduling.Mode.{Mode}
use Rattle.thr_syntax.specs.Shared.{is_shared}
use Rattle.thr_remainder.specs.declared.unwinding.Unwinding.{Unwinding}
use Rattle.thr_remainder.specs.Acts.{Act, Asks}
use Rattle.thr_remainder.specs.Remainders.{Item, Role, Doing, Setting, Remainder, Move, Spot, Place, Nowhere, AtEnd, At, place_in, act_at}
use Rattle.thr_remainder.specs.Calls.{is_point, shape_of}
use Rattle.thr_remainder.specs.Steps.{quiet}
use Rattle.thr_remainder.specs.Outward.{outward}
use Rattle.thr_remainder.specs.Next.{Next, GoesOutward, UndoesOnce, EndsThread, EndsOnce, IsAtPoint, StepsQuietly, next, next_by, next_outward, outward_or_undone, next_end, next_shared, next_at}
use Rattle.thr_remainder.specs.Next as step
use Rattle.thr_remainder.specs.Runs.{is_deliverable, Halt, Completes, Run, or_delivers, goes_on, quiet_or_delivers, is_asynchronous, at_next, outward_move, run_of}
use Rattle.thr_remainder.specs.Runs as ends
use Rattle.thr_parts.specs.Tables.{names}
use Rattle.thr_open_onces.specs.Blocks.{block_of}
use Rattle.thr_open_onces.proofs.BlocksKept.{IsFit, AreFit, PlaceFits, place_fits, quiet_fits, outward_fits}

-- ---- the next step

-- A once block that is done or undone next fits tables by names, and so do those that are left after another step.
abbrev NextFits : Next → Type 0
NextFits (GoesOutward m) = AreFit m.to.items
NextFits (UndoesOnce block m) = block.0 < names
NextFits EndsThread = Unit {0}
NextFits (EndsOnce block m) = block.0 < names
NextFits (step.Shares h) = Unit {0}
NextFits (IsAtPoint h) = Unit {0}
NextFits (StepsQuietly m) = AreFit m.to.items

role_fits : (role : Role) (u : Unwinding) (outer : List Item) (r : Remainder) (m : Move) → IsFit role → AreFit m.to.items → NextFits (outward_or_undone role u outer r m)
role_fits (Doing scope block routine) u outer r m fit h = fit
role_fits _ u outer r m fit h = h

unwinding_fits : (u : Unwinding) (items : List Item) (r : Remainder) (m : Move) → AreFit items → AreFit m.to.items → NextFits (next_outward u items r m)
unwinding_fits u [] r m has h = h
unwinding_fits u (i ∷ outer) r m has h = role_fits i.role u outer r m has.0 h

end_fits : (role : Role) (outer : List Item) (r : Remainder) (m : Move) → IsFit role → AreFit m.to.items → NextFits (next_end role outer r m)
end_fits (Doing scope block routine) outer r m fit h = fit
end_fits _ outer r m fit h = h

point_fits : (b : Bool) (h : Spot) → NextFits (if b then IsAtPoint h else step.Shares h)
point_fits true h = tt
point_fits false h = tt

act_fits : (act : Act) (h : Spot) → NextFits (next_shared act h)
act_fits (Asks call) h = point_fits (is_point (shape_of call).word) h
act_fits _ h = tt

spot_fits : (b : Bool) (h : Spot) (m : Move) → AreFit m.to.items → NextFits (if b then next_shared (act_at h) h else StepsQuietly m)
spot_fits true h m fit = act_fits (act_at h) h
spot_fits false h m fit = fit

at_place_fits : (p : Place) (r : Remainder) (m : Move) → PlaceFits p → AreFit m.to.items → NextFits (next_at p r m)
at_place_fits Nowhere r m here h = tt
at_place_fits (AtEnd close role outer) r m here h = end_fits role outer r m here.0 h
at_place_fits (At x) r m here h = spot_fits (is_shared x.stmt) x m h

by_fits : (g : Setting) (u : Option Unwinding) (r : Remainder) → AreFit r.items → NextFits (next_by g u r)
by_fits g None r has = at_place_fits (place_in r.items) r (quiet g r) (place_fits r.items has) (quiet_fits g r has)
by_fits g (Some u) r has = unwinding_fits u r.items r (outward g u r) has (outward_fits g u r has)

next_fits : (g : Setting) (r : Remainder) → AreFit r.items → NextFits (next g r)
unfolding next
next_fits g r has = by_fits g r.under_way r has

-- ---- the quiet part of a turn

-- The once block that ends the quiet part fits tables by names.
abbrev HaltFits : Halt → Type 0
HaltFits halt = IfSome (block_of halt) (λ o. o.0 < names)

abbrev AllFit : (Remainder → Run) → Type 0
AllFit more = (r : Remainder) → AreFit r.items → HaltFits (more r).halt

delivers_fits : (b : Bool) (halt : Halt) → HaltFits halt → HaltFits (or_delivers b halt)
delivers_fits true halt h = tt
delivers_fits false halt h = h

goes_fits : (b : Bool) (more : Remainder → Run) (m : Move) → AllFit more → AreFit m.to.items → HaltFits (goes_on b more m).halt
goes_fits true more m all h = tt
goes_fits false more m all h = all m.to h

quiet_or_fits : (b : Bool) (mode : Mode) (more : Remainder → Run) (r : Remainder) (m : Move) → AllFit more → AreFit m.to.items → HaltFits (quiet_or_delivers b mode more r m).halt
quiet_or_fits true mode more r m all h = tt
quiet_or_fits false mode more r m all h = goes_fits (is_asynchronous mode) more m all h

at_fits : (mode : Mode) (more : Remainder → Run) (r : Remainder) (x : Next) → AllFit more → NextFits x → HaltFits (at_next mode more r x).halt
at_fits mode more r (GoesOutward m) all h = tt
at_fits mode more r (UndoesOnce block m) all h = h
at_fits mode more r EndsThread all h = tt
at_fits mode more r (EndsOnce block m) all h = delivers_fits (is_deliverable mode false) (Completes block m) h
at_fits mode more r (step.Shares spot) all h = delivers_fits (is_deliverable mode false) (ends.Shares spot) tt
at_fits mode more r (IsAtPoint spot) all h = delivers_fits (is_deliverable mode true) (ends.Shares spot) tt
at_fits mode more r (StepsQuietly m) all h = quiet_or_fits (is_deliverable mode false) mode more r m all h

outward_move_fits : (x : Next) (r : Remainder) → AreFit r.items → NextFits x → AreFit (outward_move x r).to.items
outward_move_fits (GoesOutward m) r has h = h
outward_move_fits _ r has h = has

pub run_fits : (n : ℕ) (g : Setting) (mode : Mode) (r : Remainder) → AreFit r.items → IfSome (block_of (run_of n g mode r).halt) (λ o. o.0 < names)
unfolding run_of
run_fits zero g mode r has = tt
run_fits (suc n) g mode r has =
    let out : Move = outward_move (next g r) r in
    let fit : AreFit out.to.items = outward_move_fits (next g r) r has (next_fits g r has) in
    at_fits mode (run_of n g mode) out.to (next g out.to) (run_fits n g mode) (next_fits g out.to fit)

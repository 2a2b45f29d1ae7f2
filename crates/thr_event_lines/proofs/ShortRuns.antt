-- The quiet part of a turn writes two lines at most for each of its steps, and one more.
use Rattle.std.proofs.Common.{ℕ, zero, suc, ◌+◌, ◌≤◌, Bool, true, false, List, [], ◌∷◌, length, length-append, Option, Some, None, arith}
use Rattle.std.specs.Prelude.{if◌then◌else◌}
use Rattle.thr_values.specs.declared.scheduling.Mode.{Mode}
use Rattle.thr_values.specs.declared.history.What.TheVariants as what
use Rattle.thr_syntax.specs.Shared.{is_shared}
use Rattle.thr_remainder.specs.declared.unwinding.Unwinding.{Unwinding}
use Rattle.thr_remainder.specs.Acts.{Act, Asks}
use Rattle.thr_remainder.specs.Remainders.{Item, Role, Doing, Setting, Remainder, Move, Spot, Place, Nowhere, AtEnd, At, place_in, act_at}
use Rattle.thr_remainder.specs.Calls.{is_point, shape_of}
use Rattle.thr_remainder.specs.Steps.{quiet}
use Rattle.thr_remainder.specs.Outward.{outward}
use Rattle.thr_remainder.specs.Next.{Next, GoesOutward, UndoesOnce, EndsThread, EndsOnce, IsAtPoint, StepsQuietly, next, next_by, next_outward, outward_or_undone, next_end, next_shared, next_at}
use Rattle.thr_remainder.specs.Next as step
use Rattle.thr_remainder.specs.Runs.{is_deliverable, Halt, Undoes, Completes, Run, or_delivers, goes_on, quiet_or_delivers, is_asynchronous, at_next, outward_move, run_of}
use Rattle.thr_remainder.specs.Runs as ends
use Rattle.thr_event_lines.proofs.ShortSteps.{IsShort, quiet_short, outward_short}

-- ---- the next step

abbrev NextShort : Next → Type 0
NextShort (GoesOutward m) = IsShort m
NextShort (UndoesOnce block m) = IsShort m
NextShort EndsThread = Unit {0}
NextShort (EndsOnce block m) = IsShort m
NextShort (step.Shares h) = Unit {0}
NextShort (IsAtPoint h) = Unit {0}
NextShort (StepsQuietly m) = IsShort m

role_short : (role : Role) (u : Unwinding) (outer : List Item) (r : Remainder) (m : Move) → IsShort m → NextShort (outward_or_undone role u outer r m)
role_short (Doing scope block routine) u outer r m h = omega arith
role_short _ u outer r m h = h

unwinding_short : (u : Unwinding) (items : List Item) (r : Remainder) (m : Move) → IsShort m → NextShort (next_outward u items r m)
unwinding_short u [] r m h = h
unwinding_short u (i ∷ outer) r m h = role_short i.role u outer r m h

end_short : (role : Role) (outer : List Item) (r : Remainder) (m : Move) → IsShort m → NextShort (next_end role outer r m)
end_short (Doing scope block routine) outer r m h = h
end_short _ outer r m h = h

point_short : (b : Bool) (h : Spot) → NextShort (if b then IsAtPoint h else step.Shares h)
point_short true h = tt
point_short false h = tt

act_short : (act : Act) (h : Spot) → NextShort (next_shared act h)
act_short (Asks call) h = point_short (is_point (shape_of call).word) h
act_short _ h = tt

spot_short : (b : Bool) (h : Spot) (m : Move) → IsShort m → NextShort (if b then next_shared (act_at h) h else StepsQuietly m)
spot_short true h m k = act_short (act_at h) h
spot_short false h m k = k

place_short : (p : Place) (r : Remainder) (m : Move) → IsShort m → NextShort (next_at p r m)
place_short Nowhere r m h = tt
place_short (AtEnd close role outer) r m h = end_short role outer r m h
place_short (At x) r m h = spot_short (is_shared x.stmt) x m h

by_short : (g : Setting) (u : Option Unwinding) (r : Remainder) → NextShort (next_by g u r)
by_short g None r = place_short (place_in r.items) r (quiet g r) (quiet_short g r)
by_short g (Some u) r = unwinding_short u r.items r (outward g u r) (outward_short g u r)

next_short : (g : Setting) (r : Remainder) → NextShort (next g r)
unfolding next
next_short g r = by_short g r.under_way r

-- ---- the quiet part of a turn

-- The move that ends the quiet part, if one does, writes one line at most.
abbrev pub HaltShort : Halt → Type 0
HaltShort (Undoes block m) = IsShort m
HaltShort (Completes block m) = IsShort m
HaltShort _ = Unit {0}

-- A quiet part of at most so many lines.
pub record RunShort (n : ℕ) (run : Run) : Type 0 where
  pub lines : length run.lines ≤ n
  pub halt : HaltShort run.halt

abbrev AllShort : ℕ → (Remainder → Run) → Type 0
AllShort n more = (r : Remainder) → RunShort n (more r)

delivers_short : (b : Bool) (halt : Halt) → HaltShort halt → HaltShort (or_delivers b halt)
delivers_short true halt h = tt
delivers_short false halt h = h

goes_short : (n : ℕ) (b : Bool) (more : Remainder → Run) (m : Move) → 1 ≤ n → AllShort n more → IsShort m → RunShort (suc n) (goes_on b more m)
goes_short n true more m some all h = record { lines = omega (arith, some, h, length-append m.lines (what.Pause ∷ [])); halt = tt }
goes_short n false more m some all h =
    let x : RunShort n (more m.to) = all m.to in record { lines = omega (arith, h, x.lines, length-append m.lines (more m.to).lines); halt = x.halt }

quiet_or_short : (n : ℕ) (b : Bool) (mode : Mode) (more : Remainder → Run) (r : Remainder) (m : Move) → 1 ≤ n → AllShort n more → IsShort m → RunShort (suc n) (quiet_or_delivers b mode more r m)
quiet_or_short n true mode more r m some all h = record { lines = omega arith; halt = tt }
quiet_or_short n false mode more r m some all h = goes_short n (is_asynchronous mode) more m some all h

at_short : (n : ℕ) (mode : Mode) (more : Remainder → Run) (r : Remainder) (x : Next) → 1 ≤ n → AllShort n more → NextShort x → RunShort (suc n) (at_next mode more r x)
at_short n mode more r (GoesOutward m) some all h = record { lines = omega (arith, some); halt = tt }
at_short n mode more r (UndoesOnce block m) some all h = record { lines = omega arith; halt = h }
at_short n mode more r EndsThread some all h = record { lines = omega arith; halt = tt }
at_short n mode more r (EndsOnce block m) some all h = record { lines = omega arith; halt = delivers_short (is_deliverable mode false) (Completes block m) h }
at_short n mode more r (step.Shares spot) some all h = record { lines = omega arith; halt = delivers_short (is_deliverable mode false) (ends.Shares spot) tt }
at_short n mode more r (IsAtPoint spot) some all h = record { lines = omega arith; halt = delivers_short (is_deliverable mode true) (ends.Shares spot) tt }
at_short n mode more r (StepsQuietly m) some all h = quiet_or_short n (is_deliverable mode false) mode more r m some all h

outward_move_short : (x : Next) (r : Remainder) → NextShort x → IsShort (outward_move x r)
outward_move_short (GoesOutward m) r h = h
outward_move_short _ r h = omega arith

pub run_short : (n : ℕ) (g : Setting) (mode : Mode) (r : Remainder) → RunShort (n + n + 1) (run_of n g mode r)
unfolding run_of
run_short zero g mode r = record { lines = omega arith; halt = tt }
run_short (suc n) g mode r =
    let out : Move = outward_move (next g r) r in
    let run : Run = at_next mode (run_of n g mode) out.to (next g out.to) in
    let first : IsShort out = outward_move_short (next g r) r (next_short g r) in
    let rest : RunShort (suc (n + n + 1)) run = at_short (n + n + 1) mode (run_of n g mode) out.to (next g out.to) (omega arith) (run_short n g mode) (next_short g out.to) in
    record { lines = omega (arith, first, rest.lines, length-append out.lines run.lines); halt = rest.halt }

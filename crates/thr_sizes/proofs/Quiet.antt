-- The quiet part of a turn leaves numbers that are bounded, and so does what ends it.
use Rattle.std.proofs.Common.{◌≡◌, ℕ, zero, suc, ◌+◌, ◌*◌, ◌≤◌, Bool, true, false, List, [], ◌∷◌, Option, Some, None, refl, arith}
use Rattle.std.specs.Prelude.{if◌then◌else◌}
use Rattle.thr_values.specs.declared.scheduling.Mode.{Mode}
use Rattle.thr_syntax.specs.Shared.{is_shared}
use Rattle.thr_remainder.specs.declared.unwinding.Unwinding.{Unwinding}
use Rattle.thr_remainder.specs.Acts.{Act, Asks}
use Rattle.thr_remainder.specs.Remainders.{Item, Role, Calling, Trying, Catching, Finishing, Doing, Barrier, Setting, Remainder, Move, Spot, Place, Nowhere, AtEnd, At, place_in, act_at}
use Rattle.thr_remainder.specs.Calls.{is_point, shape_of}
use Rattle.thr_remainder.specs.Steps.{quiet}
use Rattle.thr_remainder.specs.Outward.{outward, undone}
use Rattle.thr_remainder.specs.Next.{Next, next, next_by, next_outward, next_end, next_shared, next_at}
use Rattle.thr_remainder.specs.Next as step
use Rattle.thr_remainder.specs.Runs.{is_deliverable, Halt, Delivers, Shares, Undoes, Completes, Ends, Pauses, Run, or_delivers, goes_on, quiet_or_delivers, is_asynchronous, at_next, outward_move, run_of}
use Rattle.thr_remainder.specs.Runs as runs
use Rattle.thr_parts.proofs.EachLaws.{IfThere}
use Rattle.thr_answers.specs.Standing.{StandsIn}
use Rattle.thr_answers.proofs.StepsStand.{quiet_keeps, outward_keeps}
use Rattle.thr_sizes.proofs.Fitting.{UnwindingFits, RoleFits, ItemsFit, LeftFits, LinesFit, MoveFits, left_later, lines_later, move_later, lines_append}
use Rattle.thr_sizes.proofs.Steps.{SettingFits, later_setting, still_fits, quiet_fits, outward_fits, undone_fits}

up : (k : ℕ) → k ≤ k + 1
up k = omega arith

-- ---- the next step

-- What is left stands at its lines and fits.
pub record Sound (k : ℕ) (g : Setting) (r : Remainder) : Type 0 where
  pub stands : StandsIn g.script r
  pub fits : LeftFits k r

-- So it does after this move, whose lines fit.
pub record Moves (k : ℕ) (g : Setting) (m : Move) : Type 0 where
  pub stands : StandsIn g.script m.to
  pub fits : MoveFits k m

-- A step that isn't shared is such a move; where it is a shared statement, that is the next one.
abbrev NextFits : ℕ → Setting → Remainder → Next → Type 0
NextFits k g r (step.GoesOutward m) = Moves k g m
NextFits k g r (step.UndoesOnce block m) = MoveFits k m
NextFits k g r step.EndsThread = Unit {0}
NextFits k g r (step.EndsOnce block m) = MoveFits k m
NextFits k g r (step.Shares h) = place_in r.items ≡ At h
NextFits k g r (step.IsAtPoint h) = place_in r.items ≡ At h
NextFits k g r (step.StepsQuietly m) = Moves k g m

module _ (k : ℕ) (g : Setting) (fits : SettingFits k g) where
  role_next : (role : Role) (u : Unwinding) (outer : List Item) (r : Remainder) (m : Move) → RoleFits k role → ItemsFit k outer → UnwindingFits k u → Sound k g r → Moves k g m
      → NextFits (k + 1) g r (step.outward_or_undone role u outer r m)
  role_next (Doing scope block routine) u outer r m o i w h moves = move_later k (k + 1) (up k) (undone scope u outer r) (undone_fits k scope u outer r o w i h.fits)
  role_next (Calling locals place) u outer r m o i w h moves = record { stands = moves.stands; fits = move_later k (k + 1) (up k) m moves.fits }
  role_next (Trying scope ways) u outer r m o i w h moves = record { stands = moves.stands; fits = move_later k (k + 1) (up k) m moves.fits }
  role_next (Catching scope caught) u outer r m o i w h moves = record { stands = moves.stands; fits = move_later k (k + 1) (up k) m moves.fits }
  role_next (Finishing scope pending) u outer r m o i w h moves = record { stands = moves.stands; fits = move_later k (k + 1) (up k) m moves.fits }
  role_next (Barrier scope key routine) u outer r m o i w h moves = record { stands = moves.stands; fits = move_later k (k + 1) (up k) m moves.fits }

  unwinding_next : (u : Unwinding) (items : List Item) (r : Remainder) (m : Move) → ItemsFit k items → UnwindingFits k u → Sound k g r → Moves k g m → NextFits (k + 1) g r (next_outward u items r m)
  unwinding_next u [] r m i w h moves = record { stands = moves.stands; fits = move_later k (k + 1) (up k) m moves.fits }
  unwinding_next u (x ∷ outer) r m i w h moves = role_next x.role u outer r m i.0 i.1 w h moves

  end_next : (role : Role) (outer : List Item) (r : Remainder) (m : Move) → Moves (k + 1) g m → NextFits (k + 1) g r (next_end role outer r m)
  end_next (Doing scope block routine) outer r m h = h.fits
  end_next _ outer r m h = h

  point_next : (b : Bool) (h : Spot) (r : Remainder) → place_in r.items ≡ At h → NextFits (k + 1) g r (if b then step.IsAtPoint h else step.Shares h)
  point_next true h r e = e
  point_next false h r e = e

  act_next : (act : Act) (h : Spot) (r : Remainder) → place_in r.items ≡ At h → NextFits (k + 1) g r (next_shared act h)
  act_next (Asks call) h r e = point_next (is_point (shape_of call).word) h r e
  act_next _ h r e = e

  spot_next : (b : Bool) (h : Spot) (r : Remainder) (m : Move) → place_in r.items ≡ At h → Moves (k + 1) g m → NextFits (k + 1) g r (if b then next_shared (act_at h) h else step.StepsQuietly m)
  spot_next true h r m e i = act_next (act_at h) h r e
  spot_next false h r m e i = i

  place_next : (p : Place) (r : Remainder) (m : Move) → place_in r.items ≡ p → Moves (k + 1) g m → NextFits (k + 1) g r (next_at p r m)
  place_next Nowhere r m e i = tt
  place_next (AtEnd close role outer) r m e i = end_next role outer r m i
  place_next (At h) r m e i = spot_next (is_shared h.stmt) h r m e i

  by_next : (u : Option Unwinding) (r : Remainder) → IfThere (UnwindingFits k) u → Sound k g r → NextFits (k + 1) g r (next_by g u r)
  by_next None r w h = place_next (place_in r.items) r (quiet g r) refl (record { stands = quiet_keeps g r h.stands; fits = quiet_fits k g r fits h.stands h.fits })
  by_next (Some u) r w h =
      unwinding_next u r.items r (outward g u r) (let i = h.fits in i.items) w h (record { stands = outward_keeps g u r h.stands; fits = outward_fits k g u r fits w h.stands h.fits })

  next_fits : (r : Remainder) → Sound k g r → NextFits (k + 1) g r (next g r)
  unfolding next
  next_fits r h = by_next r.under_way r (let i = h.fits in i.under) h

  out_fits : (x : Next) (r : Remainder) → Sound k g r → NextFits (k + 1) g r x → Moves (k + 1) g (outward_move x r)
  out_fits (step.GoesOutward m) r h n = n
  out_fits (step.UndoesOnce block m) r h n = record { stands = h.stands; fits = still_fits k r h.fits }
  out_fits step.EndsThread r h n = record { stands = h.stands; fits = still_fits k r h.fits }
  out_fits (step.EndsOnce block m) r h n = record { stands = h.stands; fits = still_fits k r h.fits }
  out_fits (step.Shares s) r h n = record { stands = h.stands; fits = still_fits k r h.fits }
  out_fits (step.IsAtPoint s) r h n = record { stands = h.stands; fits = still_fits k r h.fits }
  out_fits (step.StepsQuietly m) r h n = record { stands = h.stands; fits = still_fits k r h.fits }

-- ---- the quiet part of a turn

-- What ends the quiet part fits, and a shared statement is the next step.
abbrev pub HaltFits : ℕ → Remainder → Halt → Type 0
HaltFits k r Delivers = Unit {0}
HaltFits k r (Shares h) = place_in r.items ≡ At h
HaltFits k r (Undoes block m) = MoveFits k m
HaltFits k r (Completes block m) = MoveFits k m
HaltFits k r Ends = Unit {0}
HaltFits k r Pauses = Unit {0}

pub record RunFits (k : ℕ) (g : Setting) (run : Run) : Type 0 where
  pub stands : StandsIn g.script run.to
  pub to : LeftFits k run.to
  pub lines : LinesFit k run.lines
  pub halt : HaltFits k run.to run.halt

halt_later : (j k : ℕ) → j ≤ k → (r : Remainder) (halt : Halt) → HaltFits j r halt → HaltFits k r halt
halt_later j k le r Delivers h = tt
halt_later j k le r (Shares s) h = h
halt_later j k le r (Undoes block m) h = move_later j k le m h
halt_later j k le r (Completes block m) h = move_later j k le m h
halt_later j k le r Ends h = tt
halt_later j k le r Pauses h = tt

run_later : (j k : ℕ) (g : Setting) (run : Run) → j ≤ k → RunFits j g run → RunFits k g run
run_later j k g run le h = record {
  stands = h.stands;
  to = left_later j k le run.to h.to;
  lines = lines_later j k le run.lines h.lines;
  halt = halt_later j k le run.to run.halt h.halt;
}

module _ (k : ℕ) (g : Setting) where
  after_fits : (m : Move) (run : Run) → LinesFit k m.lines → RunFits k g run → RunFits k g (runs.after_lines m.lines run)
  after_fits m run h i = record { stands = i.stands; to = i.to; lines = lines_append k m.lines run.lines h i.lines; halt = i.halt }

  pauses_fits : (r : Remainder) → Sound k g r → RunFits k g (runs.pauses r)
  pauses_fits r h = record { stands = h.stands; to = h.fits; lines = (tt, tt); halt = tt }

  halts_fits : (r : Remainder) (halt : Halt) → Sound k g r → HaltFits k r halt → RunFits k g (runs.halts r halt)
  halts_fits r halt h i = record { stands = h.stands; to = h.fits; lines = tt; halt = i }

  delivers_fits : (b : Bool) (r : Remainder) (halt : Halt) → HaltFits k r halt → HaltFits k r (or_delivers b halt)
  delivers_fits true r halt h = tt
  delivers_fits false r halt h = h

-- After any quiet step at this bound the rest fits at that one.
abbrev AllFit : ℕ → ℕ → Setting → (Remainder → Run) → Type 0
AllFit j k g more = (r : Remainder) → Sound j g r → RunFits k g (more r)

module _ (j k : ℕ) (le : j ≤ k) (g : Setting) where
  sound_later : (r : Remainder) → Sound j g r → Sound k g r
  sound_later r h = record { stands = h.stands; fits = left_later j k le r h.fits }

  goes_fits : (b : Bool) (more : Remainder → Run) (m : Move) → AllFit j k g more → Moves j g m → RunFits k g (goes_on b more m)
  goes_fits true more m all h =
      let f = h.fits in
      after_fits k g m (runs.pauses m.to) (lines_later j k le m.lines f.lines) (pauses_fits k g m.to (record { stands = h.stands; fits = left_later j k le m.to f.to }))
  goes_fits false more m all h =
      let f = h.fits in after_fits k g m (more m.to) (lines_later j k le m.lines f.lines) (all m.to (record { stands = h.stands; fits = f.to }))

  quietly_fits : (b : Bool) (mode : Mode) (more : Remainder → Run) (r : Remainder) (m : Move) → AllFit j k g more → Sound j g r → Moves j g m → RunFits k g (quiet_or_delivers b mode more r m)
  quietly_fits true mode more r m all h i = halts_fits k g r Delivers (sound_later r h) tt
  quietly_fits false mode more r m all h i = goes_fits (is_asynchronous mode) more m all i

  at_fits : (mode : Mode) (more : Remainder → Run) (r : Remainder) (x : Next) → AllFit j k g more → Sound j g r → NextFits j g r x → RunFits k g (at_next mode more r x)
  at_fits mode more r (step.GoesOutward m) all h n = pauses_fits k g r (sound_later r h)
  at_fits mode more r (step.UndoesOnce block m) all h n = halts_fits k g r (Undoes block m) (sound_later r h) (move_later j k le m n)
  at_fits mode more r step.EndsThread all h n = halts_fits k g r Ends (sound_later r h) tt
  at_fits mode more r (step.EndsOnce block m) all h n =
      halts_fits k g r (or_delivers (is_deliverable mode false) (Completes block m)) (sound_later r h)
      (delivers_fits k g (is_deliverable mode false) r (Completes block m) (move_later j k le m n))
  at_fits mode more r (step.Shares s) all h n =
      halts_fits k g r (or_delivers (is_deliverable mode false) (Shares s)) (sound_later r h) (delivers_fits k g (is_deliverable mode false) r (Shares s) n)
  at_fits mode more r (step.IsAtPoint s) all h n =
      halts_fits k g r (or_delivers (is_deliverable mode true) (Shares s)) (sound_later r h) (delivers_fits k g (is_deliverable mode true) r (Shares s) n)
  at_fits mode more r (step.StepsQuietly m) all h n = quietly_fits (is_deliverable mode false) mode more r m all h n

-- The bound after so many quiet steps.
abbrev pub grown : ℕ → ℕ → ℕ
grown n k = k + 2 * n

pub run_fits : (n k : ℕ) (g : Setting) (mode : Mode) (r : Remainder) → SettingFits k g → Sound k g r → RunFits (grown n k) g (run_of n g mode r)
unfolding run_of
run_fits zero k g mode r fits h = run_later k (grown zero k) g (runs.pauses r) (omega arith) (pauses_fits k g r h)
run_fits (suc n) k g mode r fits h =
    let out : Move = outward_move (next g r) r in
    let x : Moves (k + 1) g out = out_fits k g fits (next g r) r h (next_fits k g fits r h) in
    let f = x.fits in
    let after : Sound (k + 1) g out.to = record { stands = x.stands; fits = f.to } in
    let more : SettingFits (k + 1) g = later_setting k g fits in
    let whole : Sound (k + 1 + 1) g out.to = sound_later (k + 1) (k + 1 + 1) (up (k + 1)) g out.to after in
    after_fits (grown (suc n) k) g out (at_next mode (run_of n g mode) out.to (next g out.to)) (lines_later (k + 1) (grown (suc n) k) (omega arith) out.lines f.lines)
    (at_fits (k + 1 + 1) (grown (suc n) k) (omega arith) g mode (run_of n g mode) out.to (next g out.to)
    (λ y s. run_later (grown n (k + 1 + 1)) (grown (suc n) k) g (run_of n g mode y) (omega arith) (run_fits n (k + 1 + 1) g mode y (later_setting (k + 1) g more) s)) whole
    (next_fits (k + 1) g more out.to after))

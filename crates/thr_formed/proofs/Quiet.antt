-- The quiet part of a turn leaves exceptions of the script and names of their kinds, and so does what ends it.
use Rattle.std.proofs.Common.{◌≡◌, ℕ, zero, suc, Bool, true, false, List, [], ◌∷◌, Option, Some, None, refl}
use Rattle.std.specs.Prelude.{if◌then◌else◌}
use Rattle.thr_values.specs.declared.scheduling.Mode.{Mode}
use Rattle.thr_syntax.specs.Shared.{is_shared}
use Rattle.thr_text.specs.Reading.{Formed}
use Rattle.thr_remainder.specs.declared.unwinding.Unwinding.{Unwinding}
use Rattle.thr_remainder.specs.Acts.{Act, Asks}
use Rattle.thr_remainder.specs.Remainders.{Item, Role, Calling, Trying, Catching, Finishing, Doing, Barrier, Setting, Remainder, Move, Spot, Place, Nowhere, AtEnd, At, place_in, act_at}
use Rattle.thr_remainder.specs.Calls.{is_point, shape_of}
use Rattle.thr_remainder.specs.Steps.{quiet}
use Rattle.thr_remainder.specs.Outward.{outward}
use Rattle.thr_remainder.specs.Next.{Next, next, next_by, next_outward, next_end, next_shared, next_at}
use Rattle.thr_remainder.specs.Next as step
use Rattle.thr_remainder.specs.Runs.{is_deliverable, Halt, Delivers, Shares, Undoes, Completes, Ends, Pauses, Run, or_delivers, goes_on, quiet_or_delivers, is_asynchronous, at_next, outward_move, run_of}
use Rattle.thr_remainder.specs.Runs as runs
use Rattle.thr_parts.proofs.EachLaws.{IfThere}
use Rattle.thr_answers.specs.Standing.{StandsIn}
use Rattle.thr_answers.proofs.StepsStand.{quiet_keeps, outward_keeps}
use Rattle.thr_formed.proofs.Named.{UnwindingNamed, ItemsNamed, LeftNamed, LinesNamed, MoveNamed, lines_append}
use Rattle.thr_formed.proofs.Moves.{still_named, quiet_named, outward_named, undone_named}

-- What is left stands at its lines, with exceptions of the script.
pub record Sound (g : Setting) (r : Remainder) : Type 0 where
  pub stands : StandsIn g.script r
  pub named : LeftNamed g.script r

-- So it does after this move, whose lines have names of their kinds.
record Moves (g : Setting) (m : Move) : Type 0 where
  stands : StandsIn g.script m.to
  named : MoveNamed g.script m

-- A step that isn't shared is such a move; where it is a shared statement, that is the next one.
abbrev NextNamed : Setting → Remainder → Next → Type 0
NextNamed g r (step.GoesOutward m) = Moves g m
NextNamed g r (step.UndoesOnce block m) = MoveNamed g.script m
NextNamed g r step.EndsThread = Unit {0}
NextNamed g r (step.EndsOnce block m) = MoveNamed g.script m
NextNamed g r (step.Shares h) = place_in r.items ≡ At h
NextNamed g r (step.IsAtPoint h) = place_in r.items ≡ At h
NextNamed g r (step.StepsQuietly m) = Moves g m

-- What ends the quiet part, and a shared statement is the next step.
abbrev pub HaltNamed : Setting → Remainder → Halt → Type 0
HaltNamed g r Delivers = Unit {0}
HaltNamed g r (Shares h) = place_in r.items ≡ At h
HaltNamed g r (Undoes block m) = MoveNamed g.script m
HaltNamed g r (Completes block m) = MoveNamed g.script m
HaltNamed g r Ends = Unit {0}
HaltNamed g r Pauses = Unit {0}

pub record RunNamed (g : Setting) (run : Run) : Type 0 where
  pub stands : StandsIn g.script run.to
  pub to : LeftNamed g.script run.to
  pub lines : LinesNamed g.script run.lines
  pub halt : HaltNamed g run.to run.halt

module _ (g : Setting) (formed : Formed g.script) where
  -- ---- the next step

  role_next : (role : Role) (u : Unwinding) (outer : List Item) (r : Remainder) (m : Move) → ItemsNamed g.script outer → Sound g r → Moves g m → NextNamed g r (step.outward_or_undone role u outer r m)
  role_next (Doing scope block routine) u outer r m i h moves = undone_named g.script scope u outer r i h.named
  role_next (Calling locals place) u outer r m i h moves = moves
  role_next (Trying scope ways) u outer r m i h moves = moves
  role_next (Catching scope caught) u outer r m i h moves = moves
  role_next (Finishing scope pending) u outer r m i h moves = moves
  role_next (Barrier scope key routine) u outer r m i h moves = moves

  unwinding_next : (u : Unwinding) (items : List Item) (r : Remainder) (m : Move) → ItemsNamed g.script items → Sound g r → Moves g m → NextNamed g r (next_outward u items r m)
  unwinding_next u [] r m i h moves = moves
  unwinding_next u (x ∷ outer) r m i h moves = role_next x.role u outer r m i.1 h moves

  end_next : (role : Role) (outer : List Item) (r : Remainder) (m : Move) → Moves g m → NextNamed g r (next_end role outer r m)
  end_next (Doing scope block routine) outer r m h = h.named
  end_next _ outer r m h = h

  point_next : (b : Bool) (h : Spot) (r : Remainder) → place_in r.items ≡ At h → NextNamed g r (if b then step.IsAtPoint h else step.Shares h)
  point_next true h r e = e
  point_next false h r e = e

  act_next : (act : Act) (h : Spot) (r : Remainder) → place_in r.items ≡ At h → NextNamed g r (next_shared act h)
  act_next (Asks call) h r e = point_next (is_point (shape_of call).word) h r e
  act_next _ h r e = e

  spot_next : (b : Bool) (h : Spot) (r : Remainder) (m : Move) → place_in r.items ≡ At h → Moves g m → NextNamed g r (if b then next_shared (act_at h) h else step.StepsQuietly m)
  spot_next true h r m e i = act_next (act_at h) h r e
  spot_next false h r m e i = i

  place_next : (p : Place) (r : Remainder) (m : Move) → place_in r.items ≡ p → Moves g m → NextNamed g r (next_at p r m)
  place_next Nowhere r m e i = tt
  place_next (AtEnd close role outer) r m e i = end_next role outer r m i
  place_next (At h) r m e i = spot_next (is_shared h.stmt) h r m e i

  by_next : (u : Option Unwinding) (r : Remainder) → IfThere (UnwindingNamed g.script) u → Sound g r → NextNamed g r (next_by g u r)
  by_next None r w h = place_next (place_in r.items) r (quiet g r) refl (record { stands = quiet_keeps g r h.stands; named = quiet_named g r formed h.stands h.named })
  by_next (Some u) r w h =
      unwinding_next u r.items r (outward g u r) (let i = h.named in i.items) h (record { stands = outward_keeps g u r h.stands; named = outward_named g.script g u r w h.named })

  next_named : (r : Remainder) → Sound g r → NextNamed g r (next g r)
  unfolding next
  next_named r h = by_next r.under_way r (let i = h.named in i.under) h

  out_named : (x : Next) (r : Remainder) → Sound g r → NextNamed g r x → Moves g (outward_move x r)
  out_named (step.GoesOutward m) r h n = n
  out_named (step.UndoesOnce block m) r h n = record { stands = h.stands; named = still_named g.script r h.named }
  out_named step.EndsThread r h n = record { stands = h.stands; named = still_named g.script r h.named }
  out_named (step.EndsOnce block m) r h n = record { stands = h.stands; named = still_named g.script r h.named }
  out_named (step.Shares s) r h n = record { stands = h.stands; named = still_named g.script r h.named }
  out_named (step.IsAtPoint s) r h n = record { stands = h.stands; named = still_named g.script r h.named }
  out_named (step.StepsQuietly m) r h n = record { stands = h.stands; named = still_named g.script r h.named }

  -- ---- the quiet part of a turn

  after_named : (m : Move) (run : Run) → LinesNamed g.script m.lines → RunNamed g run → RunNamed g (runs.after_lines m.lines run)
  after_named m run h i = record { stands = i.stands; to = i.to; lines = lines_append g.script m.lines run.lines h i.lines; halt = i.halt }

  pauses_named : (r : Remainder) → Sound g r → RunNamed g (runs.pauses r)
  pauses_named r h = record { stands = h.stands; to = h.named; lines = (tt, tt); halt = tt }

  halts_named : (r : Remainder) (halt : Halt) → Sound g r → HaltNamed g r halt → RunNamed g (runs.halts r halt)
  halts_named r halt h i = record { stands = h.stands; to = h.named; lines = tt; halt = i }

  delivers_named : (b : Bool) (r : Remainder) (halt : Halt) → HaltNamed g r halt → HaltNamed g r (or_delivers b halt)
  delivers_named true r halt h = tt
  delivers_named false r halt h = h

  -- After any such step the rest is named.
  abbrev AllNamed : (Remainder → Run) → Type 0
  AllNamed more = (r : Remainder) → Sound g r → RunNamed g (more r)

  goes_named : (b : Bool) (more : Remainder → Run) (m : Move) → AllNamed more → Moves g m → RunNamed g (goes_on b more m)
  goes_named true more m all h = let f = h.named in after_named m (runs.pauses m.to) f.lines (pauses_named m.to (record { stands = h.stands; named = f.to }))
  goes_named false more m all h = let f = h.named in after_named m (more m.to) f.lines (all m.to (record { stands = h.stands; named = f.to }))

  quietly_named : (b : Bool) (mode : Mode) (more : Remainder → Run) (r : Remainder) (m : Move) → AllNamed more → Sound g r → Moves g m → RunNamed g (quiet_or_delivers b mode more r m)
  quietly_named true mode more r m all h i = halts_named r Delivers h tt
  quietly_named false mode more r m all h i = goes_named (is_asynchronous mode) more m all i

  at_named : (mode : Mode) (more : Remainder → Run) (r : Remainder) (x : Next) → AllNamed more → Sound g r → NextNamed g r x → RunNamed g (at_next mode more r x)
  at_named mode more r (step.GoesOutward m) all h n = pauses_named r h
  at_named mode more r (step.UndoesOnce block m) all h n = halts_named r (Undoes block m) h n
  at_named mode more r step.EndsThread all h n = halts_named r Ends h tt
  at_named mode more r (step.EndsOnce block m) all h n =
      halts_named r (or_delivers (is_deliverable mode false) (Completes block m)) h (delivers_named (is_deliverable mode false) r (Completes block m) n)
  at_named mode more r (step.Shares s) all h n = halts_named r (or_delivers (is_deliverable mode false) (Shares s)) h (delivers_named (is_deliverable mode false) r (Shares s) n)
  at_named mode more r (step.IsAtPoint s) all h n = halts_named r (or_delivers (is_deliverable mode true) (Shares s)) h (delivers_named (is_deliverable mode true) r (Shares s) n)
  at_named mode more r (step.StepsQuietly m) all h n = quietly_named (is_deliverable mode false) mode more r m all h n

  pub run_named : (n : ℕ) (mode : Mode) (r : Remainder) → Sound g r → RunNamed g (run_of n g mode r)
  unfolding run_of
  run_named zero mode r h = pauses_named r h
  run_named (suc n) mode r h =
      let out : Move = outward_move (next g r) r in
      let x : Moves g out = out_named (next g r) r h (next_named r h) in
      let f = x.named in
      let here : Sound g out.to = record { stands = x.stands; named = f.to } in
      after_named out (at_next mode (run_of n g mode) out.to (next g out.to)) f.lines
      (at_named mode (run_of n g mode) out.to (next g out.to) (λ y s. run_named n mode y s) here (next_named out.to here))

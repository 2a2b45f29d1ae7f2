-- Waits on conditions without a time that a broadcast ends, told by the lines alone (docs/laws.md, "Signals").
use Rattle.std.specs.Prelude.{ℕ, Bool, true, false, ◌&&◌, List, Option, Some, None}
use Rattle.thr_values.specs.declared.history.What.{What}
use Rattle.thr_values.specs.declared.history.Entry.{Entry}
use Rattle.thr_laws.specs.Lines.{fits, implies, own_line}
use Rattle.thr_laws.specs.Known.{cancel_of, is_wakes}
use Rattle.thr_ports.specs.Signals.{Waiter, Elsewhere, StandsOn, SignalCame, TimeCame, CancelCame, after_own, after_other, notified_in, is_notified, stays_pending, goes_on}

-- A wait without a time; any other is left aside.
abbrev pub without_time : Waiter → Waiter
without_time (StandsOn c None) = StandsOn c None
without_time _ = Elsewhere

abbrev pub told_by : ℕ → Waiter → Entry → (own : Option What) → Waiter
told_by u w e (Some own) = without_time (after_own own)
told_by u w e None = after_other w (is_notified (notified_in e.what) w) false (is_wakes (cancel_of u e.what))

-- What becomes of a thread's wait by a line, as far as broadcasts and cancels tell (docs/laws.md, "Signals").
abbrev pub told_after : ℕ → Waiter → Entry → Waiter
told_after u w e = told_by u w e (own_line u e)

-- A broadcast came, and the thread hasn't gone on yet.
abbrev pub is_signalled : Waiter → Bool
is_signalled SignalCame = true
is_signalled Elsewhere = false
is_signalled (StandsOn c until) = false
is_signalled TimeCame = false
is_signalled CancelCame = false

-- Then a cancel of the thread is answered `pending` or `merged`, and its next line is a return with `ok` (docs/laws.md, "Signals").
abbrev pub returns_from_it : ℕ → Waiter → Entry → Bool
returns_from_it u w e = implies (is_signalled w) (stays_pending (cancel_of u e.what) && goes_on SignalCame (own_line u e))

-- Where a broadcast that replies `ok` finds the thread's wait on the condition, which has no time, the wait returns `ok`, and cancels
-- stay pending (docs/laws.md, "Signals").
abbrev pub broadcasts_end_waits : ℕ → List Entry → Bool
broadcasts_end_waits u entries = fits (told_after u) (returns_from_it u) Elsewhere entries

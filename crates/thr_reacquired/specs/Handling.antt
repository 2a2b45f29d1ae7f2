-- The mutex of a cancelled wait on a condition, where the unwinding of its delivery comes to its first entry (docs/laws.md,
-- "Cancelled waits").
use Rattle.std.specs.Prelude.{ℕ, Bool, true, ◌&&◌, ◌||◌, if◌then◌else◌, is_some, List, Option, Some, None}
use Rattle.thr_values.specs.declared.history.What.{What}
use Rattle.thr_values.specs.declared.history.What.TheVariants as what
use Rattle.thr_values.specs.declared.history.Entry.{Entry}
use Rattle.thr_laws.specs.Lines.{fits, own_line, is_some_line}
use Rattle.thr_laws.specs.Known.{Known, known_at_first}
use Rattle.thr_laws.specs.Owners.{Lock, Held, at_first, is_owner}
use Rattle.thr_laws.specs.Routes.{carried_by}
use Rattle.thr_laws.specs.Routed.{is_pause}
use Rattle.thr_laws.specs.CancelLaw.{Both, both_after, is_wait_with}

-- The number of the unwinding that a delivery makes.
abbrev pub delivery_in : What → Option ℕ
delivery_in (what.Deliver n line) = Some n
delivery_in _ = None

-- The same, where the thread's last line was a wait on a condition with this mutex.
abbrev pub ended_by : Lock → (last : Option What) → What → Option ℕ
ended_by lock last w = if is_some_line (is_wait_with lock) last then delivery_in w else None

-- The delivery after which the thread's next line is to come, after a line in which the thread does this or nothing. It stays over
-- `pause` (docs/laws.md, "Cancelled waits").
abbrev pub delivered_after : Lock → Known → (own : Option What) → Option ℕ → Option ℕ
delivered_after lock k None before = before
delivered_after lock k (Some w) before = if is_pause w then before else ended_by lock k.last w

-- What is known of a thread and of a lock, and the delivery that has just ended the thread's wait with it, if one has.
pub record Delivered : Type 0 where
  pub both : Both
  pub number : Option ℕ

-- What is known before the first line.
abbrev pub delivered_at_first : Lock → Delivered
delivered_at_first lock = record { both = record { thread = known_at_first; lock = at_first lock }; number = None }

-- What is known after a line (docs/laws.md, "Cancelled waits").
abbrev pub delivered_with : ℕ → Lock → Delivered → Entry → Delivered
delivered_with t lock d e = record { both = both_after t lock d.both e; number = delivered_after lock d.both.thread (own_line t e) d.number }

-- After that delivery the line, unless it is `pause`, carries the delivery's unwinding, and the thread is the owner of the lock
-- (docs/laws.md, "Cancelled waits").
abbrev pub handles : ℕ → Held → (number : Option ℕ) → What → Bool
handles t h None w = true
handles t h (Some n) w = is_pause w || (is_some (carried_by n w) && is_owner t h.owner)

-- The same of what a thread does in a line, if it does anything.
abbrev pub is_handled : ℕ → Held → (number : Option ℕ) → (own : Option What) → Bool
is_handled t h number None = true
is_handled t h number (Some w) = handles t h number w

-- Where a delivery ends a wait on a condition, the thread's next line, gifts and `pause` aside, carries the delivery's unwinding to
-- its first entry, and finds the thread as the owner of the mutex (docs/laws.md, "Cancelled waits").
abbrev pub handlers_find_the_mutex : ℕ → Lock → List Entry → Bool
handlers_find_the_mutex t lock entries = fits (delivered_with t lock) (λ d e. is_handled t d.both.lock d.number (own_line t e)) (delivered_at_first lock) entries

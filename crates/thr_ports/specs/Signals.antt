-- Waits on conditions that signals, broadcasts, times and cancels end (docs/laws.md, "Signals").
use Rattle.std.specs.Prelude.{◌≡◌, ℕ, ℤ, ◌==◌, int_le, Bool, true, false, not, ◌&&◌, ◌||◌, if◌then◌else◌, List, [], ◌∷◌, map, Option, Some, None}
use Rattle.thr_values.specs.declared.number.NameId.{NameId}
use Rattle.thr_values.specs.declared.call.Arg.{Arg}
use Rattle.thr_values.specs.declared.call.Arg.TheVariants as arg
use Rattle.thr_values.specs.declared.call.CallWord.{CallWord}
use Rattle.thr_values.specs.declared.call.CallWord.TheVariants as word
use Rattle.thr_values.specs.declared.history.Who.{Who}
use Rattle.thr_values.specs.declared.history.Who.TheVariants as who
use Rattle.thr_values.specs.declared.history.What.{What}
use Rattle.thr_values.specs.declared.history.What.TheVariants as what
use Rattle.thr_values.specs.declared.history.Entry.{Entry}
use Rattle.thr_values.specs.declared.reply.Effect.TheVariants as effect
use Rattle.thr_values.specs.declared.reply.Reply.{Reply}
use Rattle.thr_values.specs.declared.reply.Reply.TheVariants as reply
use Rattle.thr_remainder.specs.Replies.{is_eagain}
use Rattle.thr_laws.specs.Lines.{fits, implies, own_line, is_delivery, is_blocks}
use Rattle.thr_laws.specs.Known.{cancel_of, is_wakes}
use Rattle.thr_laws.specs.CancelLaw.{is_done}

-- What has come of a thread's wait on a condition: it has none; it stands on the condition, until a time where there is one; or a
-- signal came, its time, or a cancel, by which it has left the condition.
pub data Waiter : Type 0 where
  Elsewhere : Waiter
  StandsOn : (condition : NameId) → (until : Option ℤ) → Waiter
  SignalCame : Waiter
  TimeCame : Waiter
  CancelCame : Waiter

-- A line of a history, and the thread that it takes out of a condition, where it is a signal that takes one.
pub record Marked : Type 0 where
  pub entry : Entry
  pub takes : Option ℕ

-- The lines without what they take.
abbrev pub entries_of : List Marked → List Entry
entries_of lines = map (λ (l : Marked). l.entry) lines

-- ---- what lines say

-- The thread stands on the condition that is the first of these arguments.
abbrev pub standing_on : List Arg → (until : Option ℤ) → Waiter
standing_on (arg.Name c ∷ args) until = StandsOn c until
standing_on _ until = Elsewhere

-- The same until the time that is the third of them.
abbrev pub standing_until : List Arg → Waiter
standing_until (c ∷ m ∷ arg.Num until ∷ args) = standing_on (c ∷ []) (Some until)
standing_until _ = Elsewhere

-- What a call that waits makes of its caller.
abbrev pub waits_by : CallWord → List Arg → Waiter
waits_by word.CondWait args = standing_on args None
waits_by word.CondTimedwait args = standing_until args
waits_by _ args = Elsewhere

-- What a line of the thread makes of it (docs/laws.md, "Signals").
abbrev pub after_own : What → Waiter
after_own (what.Call call args r) = if is_blocks r then waits_by call args else Elsewhere
after_own _ = Elsewhere

-- The condition that is the first of these arguments, where the reply is `ok`.
abbrev pub condition_if : Bool → List Arg → Option NameId
condition_if true (arg.Name c ∷ args) = Some c
condition_if _ args = None

abbrev pub signalled_by : CallWord → List Arg → Reply → Option NameId
signalled_by word.CondSignal args r = condition_if (is_done r) args
signalled_by _ args r = None

-- The condition of a signal that replies `ok`.
abbrev pub signalled_in : What → Option NameId
signalled_in (what.Call call args r) = signalled_by call args r
signalled_in _ = None

abbrev pub notified_by : CallWord → List Arg → Reply → Option NameId
notified_by word.CondBroadcast args r = condition_if (is_done r) args
notified_by _ args r = None

-- The condition of a broadcast that replies `ok`.
abbrev pub notified_in : What → Option NameId
notified_in (what.Call call args r) = notified_by call args r
notified_in _ = None

-- The time to which the clock moves.
abbrev pub time_in : Who → What → Option ℤ
time_in who.Clock (what.Clock now) = Some now
time_in _ w = None

-- ---- what becomes of a waiter

-- It stands on this condition.
abbrev pub stands_on : NameId → Waiter → Bool
stands_on c (StandsOn d until) = c.0 == d.0
stands_on c _ = false

-- It stands on the condition that is there.
abbrev pub is_notified : Option NameId → Waiter → Bool
is_notified None w = false
is_notified (Some c) w = stands_on c w

-- Its time has come by the time that is there.
abbrev pub is_due : (now : Option ℤ) → Waiter → Bool
is_due (Some now) (StandsOn c (Some until)) = int_le until now
is_due _ w = false

-- A cancel wakes it.
abbrev pub woken : Waiter → Waiter
woken (StandsOn c until) = CancelCame
woken w = w

-- What a line of another makes of it: by a signal that takes it or a broadcast, the clock, or a cancel (docs/laws.md, "Signals").
abbrev pub after_other : Waiter → (comes due wakes : Bool) → Waiter
after_other w true due wakes = SignalCame
after_other w false true wakes = TimeCame
after_other w false false true = woken w
after_other w false false false = w

-- The thread is the one that is there.
abbrev pub is_taken : ℕ → (takes : Option ℕ) → Bool
is_taken u None = false
is_taken u (Some v) = v == u

abbrev pub after_line : ℕ → Waiter → Marked → (own : Option What) → Waiter
after_line u w l (Some own) = after_own own
after_line u w l None =
    after_other w (is_taken u l.takes || is_notified (notified_in l.entry.what) w) (is_due (time_in l.entry.who l.entry.what) w)
    (is_wakes (cancel_of u l.entry.what))

-- What becomes of a thread's wait by a line (docs/laws.md, "Signals").
abbrev pub waiter_after : ℕ → Waiter → Marked → Waiter
waiter_after u w l = after_line u w l (own_line u l.entry)

-- ---- the tests of a line

-- A signal takes a thread that stands on its condition, and none only where none stands there; no other line takes one (docs/laws.md,
-- "Signals").
abbrev pub takes_a_waiter : ℕ → Waiter → (signalled : Option NameId) → (takes : Option ℕ) → Bool
takes_a_waiter u w None None = true
takes_a_waiter u w None (Some v) = false
takes_a_waiter u w (Some c) None = not (stands_on c w)
takes_a_waiter u w (Some c) (Some v) = implies (v == u) (stands_on c w)

-- It has left its condition, and not yet gone on.
abbrev pub has_left : Waiter → Bool
has_left Elsewhere = false
has_left (StandsOn c until) = false
has_left SignalCame = true
has_left TimeCame = true
has_left CancelCame = true

-- The reply of a cancel that is there is `pending`, or `merged`.
abbrev pub stays_pending : (cancel : Option Reply) → Bool
stays_pending None = true
stays_pending (Some (reply.Effect effect.Pending)) = true
stays_pending (Some (reply.Effect effect.Merged)) = true
stays_pending _ = false

-- The line is a return with a reply that passes the test.
abbrev pub returns : (Reply → Bool) → What → Bool
returns test (what.Ret r) = test r
returns test _ = false

-- The next line of the thread: after a signal a return with `ok`, once its time has come one with EAGAIN, after a cancel the
-- delivery; while it stands on a condition it has none (docs/laws.md, "Signals").
abbrev pub goes_on_with : Waiter → What → Bool
goes_on_with Elsewhere own = true
goes_on_with (StandsOn c until) own = false
goes_on_with SignalCame own = returns is_done own
goes_on_with TimeCame own = returns is_eagain own
goes_on_with CancelCame own = is_delivery own

abbrev pub goes_on : Waiter → (own : Option What) → Bool
goes_on w None = true
goes_on w (Some own) = goes_on_with w own

-- The line passes by what has come of the thread's wait before it.
abbrev pub waits_rightly : ℕ → Waiter → Marked → Bool
waits_rightly u w l =
    takes_a_waiter u w (signalled_in l.entry.what) l.takes
    && (implies (has_left w) (stays_pending (cancel_of u l.entry.what)) && goes_on w (own_line u l.entry))

-- ---- the law

-- The thread's waits on conditions end as these lines say (docs/laws.md, "Signals").
abbrev pub waits_end_by : ℕ → List Marked → Bool
waits_end_by u lines = fits (waiter_after u) (waits_rightly u) Elsewhere lines

-- Signals take waiters in such a way that each wait on a condition ends as its signal, broadcast, time or cancel has it
-- (docs/laws.md, "Signals").
pub record SignalLaw (entries : List Entry) : Type 0 where
  pub lines : List Marked
  pub marked : entries_of lines ≡ entries
  pub waits : (t : ℕ) → waits_end_by t lines ≡ true

-- A line that takes nobody, and one that takes this thread.
abbrev pub plainly : Entry → Marked
plainly e = record { entry = e; takes = None }

abbrev pub taking : ℕ → Entry → Marked
taking t e = record { entry = e; takes = Some t }

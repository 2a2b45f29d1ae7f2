-- When cancels are delivered (docs/laws.md, "Cancels").
use Rattle.std.specs.Prelude.{◌≡◌, ℕ, ◌==◌, Bool, true, false, not, ◌&&◌, ◌||◌, if◌then◌else◌, is_some, List, ◌∷◌, Option, Some, None}
use Rattle.thr_values.specs.declared.number.NameId.{NameId}
use Rattle.thr_values.specs.declared.exception.Exc.{Exc}
use Rattle.thr_values.specs.declared.call.Arg.{Arg}
use Rattle.thr_values.specs.declared.call.Arg.TheVariants as arg
use Rattle.thr_values.specs.declared.call.CallWord.{CallWord}
use Rattle.thr_values.specs.declared.call.CallWord.TheVariants as word
use Rattle.thr_values.specs.declared.history.What.{What}
use Rattle.thr_values.specs.declared.history.What.TheVariants as what
use Rattle.thr_values.specs.declared.history.Entry.{Entry}
use Rattle.thr_values.specs.declared.reply.Effect.TheVariants as effect
use Rattle.thr_values.specs.declared.reply.Reply.{Reply}
use Rattle.thr_values.specs.declared.reply.Reply.TheVariants as reply
use Rattle.thr_syntax.specs.declared.tree.Interface.{Interface}
use Rattle.thr_syntax.specs.declared.tree.Script.{Script}
use Rattle.thr_remainder.specs.Declarations.{interface_of}
use Rattle.thr_remainder.specs.Expressions.{is_same}
use Rattle.thr_remainder.specs.Calls.{is_point}
use Rattle.thr_remainder.specs.Replies.{raised_in, is_eagain}
use Rattle.thr_laws.specs.Lines.{fits, implies, own_line, is_delivery, is_return, is_blocks, is_some_line}
use Rattle.thr_laws.specs.Routes.{carried}
use Rattle.thr_laws.specs.Owners.{Lock, is_same_lock, Use, GivesUp, use_of, Held, at_first, held_after, is_owner}
use Rattle.thr_laws.specs.Known.{Known, known_at_first, cancel_of, known_after}

-- ---- kinds of lines

-- The call of a point, whatever its reply.
abbrev pub is_point_line : What → Bool
is_point_line (what.Call call args r) = is_point call
is_point_line _ = false

-- The call of a point that blocks.
abbrev pub is_waiting_point : What → Bool
is_waiting_point (what.Call call args r) = is_point call && is_blocks r
is_waiting_point _ = false

-- A line by which an unwinding is carried.
abbrev pub is_carried : What → Bool
is_carried w = is_some (carried w)

-- The lines that may come where a cancel is outstanding and both cancelabilities are on.
abbrev pub is_owed_or_outward : What → Bool
is_owed_or_outward (what.Deliver n line) = true
is_owed_or_outward (what.Ret r) = true
is_owed_or_outward (what.Destroy scope key v) = true
is_owed_or_outward (what.End v) = true
is_owed_or_outward w = is_carried w

-- ---- what a return's own step writes

-- The call is `pthread_cond_timedwait` (docs/machine.md, "Errors").
abbrev pub is_timed_wait : CallWord → Bool
is_timed_wait word.CondTimedwait = true
is_timed_wait _ = false

-- The reply is `ok` (docs/journal.md, "Replies").
abbrev pub is_done : Reply → Bool
is_done reply.Done = true
is_done _ = false

-- The exception that a call's reply raises, if it raises one: a timed wait whose time is past raises nothing.
abbrev pub raised_by : Interface → CallWord → Reply → Option Exc
raised_by i call r = if is_timed_wait call && is_eagain r then None else raised_in i r

-- There is such an exception, and it is this one (docs/machine.md, "Exceptions").
abbrev pub is_exception : Exc → Option Exc → Bool
is_exception x None = false
is_exception x (Some y) = is_same x y

-- The call is one of this once block.
abbrev pub is_once_of : NameId → CallWord → List Arg → Bool
is_once_of block word.Once (arg.Name name ∷ args) = name.0 == block.0
is_once_of block _ args = false

-- The line is of the step in which a call returns with this reply: it raises what the reply raises, or begins the routine of the
-- call's once block.
abbrev pub is_of_step : Script → CallWord → List Arg → Reply → What → Bool
is_of_step s call args r (what.Raise n x) = is_exception x (raised_by (interface_of s) call r)
is_of_step s call args r (what.Once scope block) = is_done r && is_once_of block call args
is_of_step s call args r _ = false

-- The line is of the step in which the call of an earlier line returns with this reply (docs/laws.md, "Cancels").
abbrev pub is_of_answer : Script → Reply → (answered : Option What) → What → Bool
is_of_answer s r (Some (what.Call call args b)) w = is_of_step s call args r w
is_of_answer s r _ w = false

-- The `raise` or `once` line that a return's own step writes after the `ret` line (docs/laws.md, "Cancels").
abbrev pub is_of_return : Script → (last earlier : Option What) → What → Bool
is_of_return s (Some (what.Ret r)) earlier w = is_of_answer s r earlier w
is_of_return s _ earlier w = false

-- ---- waits on a condition

-- A wait on a condition with this mutex that blocks.
abbrev pub gives_up : Lock → Use → Bool
gives_up lock (GivesUp m) = is_same_lock m lock
gives_up lock _ = false

-- The line is a wait on a condition with this mutex that blocks (docs/laws.md, "Cancels").
abbrev pub is_wait_with : Lock → What → Bool
is_wait_with lock w = gives_up lock (use_of w)

-- ---- the tests of a line

-- A cancel is outstanding, and general cancelability is on.
abbrev pub can_deliver : Known → Bool
can_deliver k = k.outstanding && k.general

-- A delivery stands where a cancel is outstanding and general cancelability is on (docs/laws.md, "Cancels").
abbrev pub delivers_outstanding : Known → Option What → Bool
delivers_outstanding k own = implies (is_some_line is_delivery own) (can_deliver k)

-- The effect of a cancel is the first of these that holds: `ended` where the thread has an `end` line, `merged` where a cancel is
-- outstanding, and else `wakes`, only where it waits at a point with general cancelability on, or another.
abbrev pub is_effect : Known → Reply → Bool
is_effect k reply.Esrch = true
is_effect k (reply.Effect effect.Ended) = k.ended
is_effect k (reply.Effect effect.Merged) = not k.ended && k.outstanding
is_effect k (reply.Effect effect.Wakes) = not k.ended && not k.outstanding && is_some_line is_waiting_point k.last && k.general
is_effect k _ = not k.ended && not k.outstanding

-- A cancel of the thread has the effect that holds (docs/laws.md, "Cancels").
abbrev pub has_effect : Known → Option Reply → Bool
has_effect k None = true
has_effect k (Some r) = is_effect k r

-- No call of a point stands where a cancel is outstanding and general cancelability is on (docs/laws.md, "Cancels").
abbrev pub passes_no_point : Known → Option What → Bool
passes_no_point k own = implies (is_some_line is_point_line own) (not (can_deliver k))

-- Where a cancel is outstanding and both cancelabilities are on, the thread's next line, gifts aside, is its delivery, a return, a
-- carried line, the begin of a destructor or its end; after a return its own `raise` or `once` line may follow (docs/laws.md,
-- "Cancels").
abbrev pub delivers_at_once : Script → Known → Option What → Bool
delivers_at_once s k None = true
delivers_at_once s k (Some w) =
    implies (can_deliver k && k.asynchronous) (is_owed_or_outward w || is_of_return s k.last k.earlier w)

-- After a cancel that woke the thread its next line, gifts aside, is the delivery (docs/laws.md, "Cancels").
abbrev pub delivers_when_woken : Known → Option What → Bool
delivers_when_woken k None = true
delivers_when_woken k (Some w) = implies k.woken (is_delivery w)

-- A return or a delivery after a wait on a condition finds the thread as the owner of the mutex (docs/laws.md, "Cancels").
abbrev pub has_its_mutex : ℕ → Lock → Known → Held → Option What → Bool
has_its_mutex t lock k h None = true
has_its_mutex t lock k h (Some w) =
    implies ((is_return w || is_delivery w) && is_some_line (is_wait_with lock) k.last) (is_owner t h.owner)

-- ---- the tests of a history

-- Each line passes the test, by what is known of the thread before it and by what the thread does in the line.
abbrev pub each_own_line : (Known → Option What → Bool) → ℕ → List Entry → Bool
each_own_line test t entries = fits (known_after t) (λ k e. test k (own_line t e)) known_at_first entries

-- Each cancel of the thread has the effect that holds (docs/laws.md, "Cancels").
abbrev pub cancels_have_their_effects : ℕ → List Entry → Bool
cancels_have_their_effects t entries = fits (known_after t) (λ k e. has_effect k (cancel_of t e.what)) known_at_first entries

-- What is known of a thread, and of a lock.
pub record Both : Type 0 where
  pub thread : Known
  pub lock : Held

-- What is known of a thread and of a lock after a line (docs/laws.md, "Cancels").
abbrev pub both_after : ℕ → Lock → Both → Entry → Both
both_after t lock b e = record { thread = known_after t b.thread e; lock = held_after lock b.lock e }

-- The thread has its mutex again where a wait on a condition with it ends, by a return or a delivery (docs/laws.md, "Cancels").
abbrev pub waits_end_with_the_mutex : ℕ → Lock → List Entry → Bool
waits_end_with_the_mutex t lock entries =
    fits (both_after t lock) (λ b e. has_its_mutex t lock b.thread b.lock (own_line t e)) (record { thread = known_at_first; lock = at_first lock }) entries

-- ---- the law

-- Cancels of each thread are delivered when they must and may be (docs/laws.md, "Cancels").
pub record CancelLaw (s : Script) (entries : List Entry) : Type 0 where
  pub outstanding : (t : ℕ) → each_own_line delivers_outstanding t entries ≡ true
  pub effects : (t : ℕ) → cancels_have_their_effects t entries ≡ true
  pub points : (t : ℕ) → each_own_line passes_no_point t entries ≡ true
  pub at_once : (t : ℕ) → each_own_line (delivers_at_once s) t entries ≡ true
  pub woken : (t : ℕ) → each_own_line delivers_when_woken t entries ≡ true
  pub mutexes : (t : ℕ) (lock : Lock) → waits_end_with_the_mutex t lock entries ≡ true

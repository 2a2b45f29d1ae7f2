-- The laws as tests that compute: they run over the threads and the locks that the lines name (docs/laws.md, "Tests of the laws").
use Rattle.std.specs.Prelude.{ℕ, ◌==◌, pos, negsuc, ℤ, Bool, true, false, not, List, [], ◌∷◌, ◌++◌, Option, Some, None}
use Rattle.std.specs.List.{list_any, list_all, filter}
use Rattle.thr_values.specs.declared.call.Arg.{Arg}
use Rattle.thr_values.specs.declared.call.Arg.TheVariants as arg
use Rattle.thr_values.specs.declared.call.CallWord.{CallWord}
use Rattle.thr_values.specs.declared.call.CallWord.TheVariants as word
use Rattle.thr_values.specs.declared.event.Stop.{Stop}
use Rattle.thr_values.specs.declared.event.Stop.TheVariants as stops
use Rattle.thr_values.specs.declared.history.Who.{Who}
use Rattle.thr_values.specs.declared.history.Who.TheVariants as who
use Rattle.thr_values.specs.declared.history.What.{What}
use Rattle.thr_values.specs.declared.history.What.TheVariants as what
use Rattle.thr_values.specs.declared.history.Entry.{Entry}
use Rattle.thr_syntax.specs.declared.tree.Script.{Script}
use Rattle.thr_laws.specs.Lines.{lines_of_thread}
use Rattle.thr_laws.specs.Routed.{numbers_count_up, only_made_are_carried, keep_to_routes, take_whole_routes, go_straight_on}
use Rattle.thr_laws.specs.Owners.{Lock, is_same_lock, Use, Locks, Gives, Unlocks, GivesUp, Nothing, use_of, has_one_owner}
use Rattle.thr_laws.specs.CancelLaw.{each_own_line, delivers_outstanding, cancels_have_their_effects, passes_no_point, delivers_at_once, delivers_when_woken, waits_end_with_the_mutex}
use Rattle.thr_laws.specs.CallsOnce.{is_answered, answers_a_call, names_its_statement, is_woken_from_it, ends_answered}

-- ---- named threads

-- The thread whose line this is, if it is one of a thread (docs/laws.md, "How the laws read lines").
abbrev pub thread_of : Who → Option ℕ
thread_of (who.Thread t) = Some t.0
thread_of (who.Proc p) = None
thread_of who.Clock = None

-- The thread that an argument names by its number, where that isn't negative (docs/laws.md, "Tests of the laws").
abbrev pub numbered : ℤ → Option ℕ
numbered (pos n) = Some n
numbered (negsuc n) = None

-- The thread that a call cancels, if it cancels one (docs/laws.md, "Tests of the laws").
abbrev pub cancelled_by : CallWord → List Arg → Option ℕ
cancelled_by word.Cancel (arg.Num n ∷ args) = numbered n
cancelled_by _ args = None

-- The thread that a line cancels, if it cancels one.
abbrev pub cancelled_in : What → Option ℕ
cancelled_in (what.Call call args r) = cancelled_by call args
cancelled_in _ = None

-- The thread is among these (docs/laws.md, "Tests of the laws").
abbrev pub is_one_of : ℕ → List ℕ → Bool
is_one_of t ts = list_any (λ u. u == t) ts

-- These threads where this one is among them, and else with this one more (docs/laws.md, "Tests of the laws").
abbrev pub added_if : Bool → ℕ → List ℕ → List ℕ
added_if true t ts = ts
added_if false t ts = t ∷ ts

-- These threads and one more, if one is there (docs/laws.md, "Tests of the laws").
abbrev pub with_thread : Option ℕ → List ℕ → List ℕ
with_thread None ts = ts
with_thread (Some t) ts = added_if (is_one_of t ts) t ts

-- The threads whose lines these are, and those that they cancel, each once.
abbrev pub threads_in : List Entry → List ℕ
threads_in [] = []
threads_in (e ∷ entries) = with_thread (thread_of e.who) (with_thread (cancelled_in e.what) (threads_in entries))

-- ---- named locks

-- The lock with which something is done, if anything is (docs/laws.md, "Tests of the laws").
abbrev pub lock_of : Use → Option Lock
lock_of (Locks lock) = Some lock
lock_of (Gives lock) = Some lock
lock_of (Unlocks lock) = Some lock
lock_of (GivesUp lock) = Some lock
lock_of Nothing = None

-- The lock is among these (docs/laws.md, "Tests of the laws").
abbrev pub is_lock_of : Lock → List Lock → Bool
is_lock_of lock locks = list_any (λ other. is_same_lock other lock) locks

-- These locks where this one is among them, and else with this one more (docs/laws.md, "Tests of the laws").
abbrev pub lock_added_if : Bool → Lock → List Lock → List Lock
lock_added_if true lock locks = locks
lock_added_if false lock locks = lock ∷ locks

-- These locks and one more, if one is there (docs/laws.md, "Tests of the laws").
abbrev pub with_lock : Option Lock → List Lock → List Lock
with_lock None locks = locks
with_lock (Some lock) locks = lock_added_if (is_lock_of lock locks) lock locks

-- The locks with which these lines do something, each once.
abbrev pub locks_in : List Entry → List Lock
locks_in [] = []
locks_in (e ∷ entries) = with_lock (lock_of (use_of e.what)) (locks_in entries)

-- ---- tests

-- The parts of the laws.
pub data Part : Type 0 where
  Numbered : Part
  MadeBeforeCarried : Part
  AlongItsRoute : Part
  WholeRoute : Part
  StraightOn : Part
  HasOneOwner : Part
  DeliversOutstanding : Part
  HasItsEffect : Part
  PassesNoPoint : Part
  DeliversAtOnce : Part
  DeliversWhenWoken : Part
  EndsWithItsMutex : Part
  IsAnswered : Part
  AnswersACall : Part
  NamesItsStatement : Part
  IsWokenFromIt : Part
  FinishesAnswered : Part

-- Each thread that the lines name passes the test (docs/laws.md, "Tests of the laws").
abbrev pub each_thread : List Entry → (ℕ → Bool) → Bool
each_thread entries test = list_all test (threads_in entries)

-- Each lock that the lines name passes the test (docs/laws.md, "Tests of the laws").
abbrev pub each_lock : List Entry → (Lock → Bool) → Bool
each_lock entries test = list_all test (locks_in entries)

-- The threads and the locks that the lines name pass this part.
abbrev pub passes : Script → List Entry → Stop → Part → Bool
passes s entries stop Numbered = each_thread entries (λ t. numbers_count_up (lines_of_thread t entries))
passes s entries stop MadeBeforeCarried = each_thread entries (λ t. only_made_are_carried (lines_of_thread t entries))
passes s entries stop AlongItsRoute = each_thread entries (λ t. keep_to_routes s (lines_of_thread t entries))
passes s entries stop WholeRoute = each_thread entries (λ t. take_whole_routes s (lines_of_thread t entries))
passes s entries stop StraightOn = each_thread entries (λ t. go_straight_on s (lines_of_thread t entries))
passes s entries stop HasOneOwner = each_lock entries (λ lock. has_one_owner lock entries)
passes s entries stop DeliversOutstanding = each_thread entries (λ t. each_own_line delivers_outstanding t entries)
passes s entries stop HasItsEffect = each_thread entries (λ t. cancels_have_their_effects t entries)
passes s entries stop PassesNoPoint = each_thread entries (λ t. each_own_line passes_no_point t entries)
passes s entries stop DeliversAtOnce = each_thread entries (λ t. each_own_line (delivers_at_once s) t entries)
passes s entries stop DeliversWhenWoken = each_thread entries (λ t. each_own_line delivers_when_woken t entries)
passes s entries stop EndsWithItsMutex = each_thread entries (λ t. each_lock entries (λ lock. waits_end_with_the_mutex t lock entries))
passes s entries stop IsAnswered = each_thread entries (λ t. each_own_line is_answered t entries)
passes s entries stop AnswersACall = each_thread entries (λ t. each_own_line answers_a_call t entries)
passes s entries stop NamesItsStatement = each_thread entries (λ t. each_own_line (names_its_statement s) t entries)
passes s entries stop IsWokenFromIt = each_thread entries (λ t. each_own_line is_woken_from_it t entries)
passes s entries stop FinishesAnswered = each_thread entries (λ t. ends_answered stop t entries)

-- The parts of the law that each unwinding takes its route (docs/laws.md, "Routes").
abbrev pub routed_parts : List Part
routed_parts = Numbered ∷ MadeBeforeCarried ∷ AlongItsRoute ∷ WholeRoute ∷ StraightOn ∷ []

-- The parts of the law that cancels are delivered when they must and may be (docs/laws.md, "Cancels").
abbrev pub cancel_parts : List Part
cancel_parts = DeliversOutstanding ∷ HasItsEffect ∷ PassesNoPoint ∷ DeliversAtOnce ∷ DeliversWhenWoken ∷ EndsWithItsMutex ∷ []

-- The parts of the law that each call that waits is answered once (docs/laws.md, "Calls").
abbrev pub calls_parts : List Part
calls_parts = IsAnswered ∷ AnswersACall ∷ NamesItsStatement ∷ IsWokenFromIt ∷ FinishesAnswered ∷ []

-- The history passes each of these parts.
abbrev pub passes_all : Script → List Entry → Stop → List Part → Bool
passes_all s entries stop parts = list_all (passes s entries stop) parts

-- Each unwinding takes its route. The stop has no part in it.
abbrev pub meets_routed : Script → List Entry → Bool
meets_routed s entries = passes_all s entries stops.Memory routed_parts

-- No lock has two owners.
abbrev pub meets_one_owner : List Entry → Bool
meets_one_owner entries = each_lock entries (λ lock. has_one_owner lock entries)

-- Cancels are delivered when they must and may be. The stop has no part in it.
abbrev pub meets_cancel_law : Script → List Entry → Bool
meets_cancel_law s entries = passes_all s entries stops.Memory cancel_parts

-- Each call that waits is answered once.
abbrev pub meets_calls_once : Script → List Entry → Stop → Bool
meets_calls_once s entries stop = passes_all s entries stop calls_parts

-- The parts of all laws, law by law.
abbrev pub all_parts : List Part
all_parts = routed_parts ++ (HasOneOwner ∷ (cancel_parts ++ calls_parts))

-- The parts of the laws that refuse a history (docs/laws.md, "Tests of the laws").
abbrev pub failing : Script → List Entry → Stop → List Part
failing s entries stop = filter (λ part. not (passes s entries stop part)) all_parts

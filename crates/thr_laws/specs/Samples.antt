-- Scripts and lines for worked examples.
use Rattle.std.specs.Prelude.{ℕ, pos, negsuc, true, false, List, [], ◌∷◌, map, Some, None}
use Rattle.thr_values.specs.declared.number.Line.{Line}
use Rattle.thr_values.specs.declared.number.NameId.{NameId}
use Rattle.thr_values.specs.declared.exception.Exc.TheVariants.{Status}
use Rattle.thr_values.specs.declared.call.Arg.{Arg}
use Rattle.thr_values.specs.declared.call.Arg.TheVariants as arg
use Rattle.thr_values.specs.declared.call.CallWord.{CallWord}
use Rattle.thr_values.specs.declared.call.CallWord.TheVariants as word
use Rattle.thr_values.specs.declared.history.Who.TheVariants as who
use Rattle.thr_values.specs.declared.history.What.{What}
use Rattle.thr_values.specs.declared.history.What.TheVariants as what
use Rattle.thr_values.specs.declared.history.Entry.{Entry}
use Rattle.thr_values.specs.declared.reply.Effect.TheVariants as effect
use Rattle.thr_values.specs.declared.reply.Reply.{Reply}
use Rattle.thr_values.specs.declared.reply.Reply.TheVariants as reply
use Rattle.thr_values.specs.Exceptions.{existence_e}
use Rattle.thr_syntax.specs.declared.dce.DceCall.{DceCall}
use Rattle.thr_syntax.specs.declared.dce.DceCall.TheVariants as dce
use Rattle.thr_syntax.specs.declared.expr.Var.TheVariants.{Local, Shared}
use Rattle.thr_syntax.specs.declared.tree.Stmt.{Stmt}
use Rattle.thr_syntax.specs.declared.expr.ExcRef.TheVariants.{This}
use Rattle.thr_syntax.specs.declared.expr.Expr.TheVariants as expr
use Rattle.thr_syntax.specs.declared.tree.Interface.TheVariants as interface
use Rattle.thr_syntax.specs.declared.tree.Item.TheVariants as item
use Rattle.thr_syntax.specs.declared.tree.Stmt.TheVariants as stmt
use Rattle.thr_syntax.specs.declared.tree.Script.{Script}
use Rattle.thr_remainder.specs.Samples.{named, a, b, c, j, k, m, o, p, r, s, x, call, routine, script, num, say, local, shared, catch, catch_all}

-- ---- lines

-- A line of a thread.
abbrev pub by : ℕ → What → Entry
by t w = record { who = who.Thread (record { 0 = t }); what = w }

-- The processor takes the thread.
abbrev pub runs : ℕ → ℕ → Entry
runs p t = record { who = who.Proc p; what = what.Run (record { 0 = t }) }

abbrev pub clock : ℕ → Entry
clock n = record { who = who.Clock; what = what.Clock (pos n) }

-- A call of a thread with these arguments, and its reply.
abbrev pub calls : ℕ → CallWord → List Arg → Reply → Entry
calls t word args r = by t (call word args r)

abbrev pub of : NameId → Arg
of n = arg.Name n

abbrev pub value : ℕ → Reply
value n = reply.Value (pos n)

-- The first fixed word of its place, as `default` and CANCEL_ON, and the second.
abbrev pub first : Arg
first = arg.Word 0

abbrev pub second : Arg
second = arg.Word 1

abbrev pub number : ℕ → Arg
number n = arg.Num (pos n)

abbrev pub pending : Reply
pending = reply.Effect effect.Pending

abbrev pub wakes : Reply
wakes = reply.Effect effect.Wakes

abbrev pub merged : Reply
merged = reply.Effect effect.Merged

abbrev pub ended : Reply
ended = reply.Effect effect.Ended

-- Lines of thread 1 alone.
abbrev pub alone : List What → List Entry
alone lines = map (by 1) lines

-- A line of the script.
abbrev pub at : ℕ → Line
at n = record { 0 = n }

-- ---- scripts

abbrev pub asks : DceCall → Stmt
asks call = stmt.Dce call

abbrev pub lock : Stmt
lock = asks (dce.MutexLock m)

abbrev pub unlock : Stmt
unlock = asks (dce.MutexUnlock m)

-- `pthread_create` of this local, with `default`.
abbrev pub creates : ℕ → NameId → ℕ → Stmt
creates place routine n = asks (dce.Create (Local place) None routine (num n))

abbrev pub joins : ℕ → ℕ → Stmt
joins target place = asks (dce.Join (local target) (Local place))

-- A raise in a routine with a FINALLY body, which is called in another one's try, inside a try that catches by an equal number.
abbrev pub match_by_number : Script
match_by_number =
    script
    (item.Status a (pos 5) ∷ item.Status b (pos 5) ∷ routine r 0 (stmt.TryFinally (stmt.Raise a ∷ []) (say 1 ∷ []) ∷ []) ∷ [])
    0
    (stmt.TryCatch (stmt.TryFinally (stmt.Call r (num 0) None ∷ []) (say 2 ∷ []) ∷ []) (catch b (stmt.Say (expr.GetStatus This) ∷ []) ∷ []) ∷ [])

-- A cancel that is caught by `catch_all`, raised again, and caught by its name.
abbrev pub cancel_raised_again : Script
cancel_raised_again =
    script [] 0
    (stmt.TryCatch
    (stmt.TryCatch (asks (dce.Cancel expr.Me) ∷ asks dce.Testcancel ∷ []) (catch_all (stmt.Reraise ∷ []) ∷ []) ∷ [])
    (catch (named 0) (say 3 ∷ []) ∷ [])
    ∷ [])

-- A FINALLY body that raises another exception, which is caught.
abbrev pub finally_raises : Script
finally_raises =
    script (item.Exception a ∷ item.Exception b ∷ []) 0
    (stmt.TryCatch (stmt.TryFinally (stmt.Raise a ∷ []) (stmt.Raise b ∷ []) ∷ []) (catch b (say 1 ∷ []) ∷ []) ∷ [])

-- A FINALLY body in which another exception is raised and caught.
abbrev pub finally_catches : Script
finally_catches =
    script (item.Exception a ∷ item.Exception b ∷ []) 0
    (stmt.TryFinally (stmt.Raise a ∷ []) (stmt.TryCatch (stmt.Raise b ∷ []) (catch b [] ∷ []) ∷ []) ∷ [])

-- An exit inside `catch_all` and a FINALLY body.
abbrev pub exits : Script
exits = script [] 0 (stmt.TryFinally (stmt.TryCatch (stmt.Exit (num 8) ∷ []) (catch_all [] ∷ []) ∷ []) (say 1 ∷ []) ∷ [])

-- Tries beside and inside each other, with blocks in them.
abbrev pub nested : Script
nested =
    script (item.Exception a ∷ item.Exception b ∷ []) 1
    (stmt.TryCatch
    (stmt.If (num 1) (stmt.TryCatch (say 1 ∷ []) (catch a (say 2 ∷ []) ∷ catch_all (say 3 ∷ []) ∷ []) ∷ []) (Some (say 4 ∷ []))
    ∷ stmt.TryFinally (say 5 ∷ []) (say 6 ∷ []) ∷ [])
    (catch a (stmt.While (num 0) (stmt.TryCatch [] (catch_all [] ∷ []) ∷ []) ∷ []) ∷ catch b [] ∷ catch_all [] ∷ [])
    ∷ stmt.TryFinally [] [] ∷ [])

-- A wait on a condition with a FINALLY body, and a thread that cancels the waiter while it holds the mutex.
abbrev pub cancelled_wait : Script
cancelled_wait =
    script
    (item.Mutex m ∷ item.Cond c ∷ item.Shared s (pos 0) ∷ routine r 0 (lock ∷ stmt.TryFinally (asks (dce.CondWait c m) ∷ []) (unlock ∷ []) ∷ []) ∷ [])
    1
    (asks (dce.MutexInit m None) ∷ asks (dce.CondInit c) ∷ asks (dce.Create (Shared s) None r (num 0)) ∷ asks dce.Yield ∷ lock
    ∷ asks (dce.Cancel (shared s)) ∷ unlock ∷ asks (dce.Join (shared s) (Local 1)) ∷ stmt.Say (local 1) ∷ [])

-- The same with a point after the wait, and a signal before the cancel.
abbrev pub signalled_wait : Script
signalled_wait =
    script
    (item.Mutex m ∷ item.Cond c ∷ item.Shared s (pos 0)
    ∷ routine r 0 (lock ∷ stmt.TryFinally (asks (dce.CondWait c m) ∷ asks dce.Testcancel ∷ []) (unlock ∷ []) ∷ []) ∷ [])
    1
    (asks (dce.MutexInit m None) ∷ asks (dce.CondInit c) ∷ asks (dce.Create (Shared s) None r (num 0)) ∷ asks dce.Yield ∷ lock
    ∷ asks (dce.CondSignal c) ∷ asks (dce.Cancel (shared s)) ∷ unlock ∷ asks (dce.Join (shared s) (Local 1)) ∷ stmt.Say (local 1) ∷ [])

-- Cancels that merge, of a thread that catches one.
abbrev pub merging_cancels : Script
merging_cancels =
    script
    (routine r 0
    (asks dce.Yield ∷ stmt.TryCatch (asks dce.Testcancel ∷ []) (catch (named 0) (asks dce.Testcancel ∷ []) ∷ []) ∷ []) ∷ [])
    2
    (creates 1 r 0 ∷ asks (dce.Cancel (local 1)) ∷ asks (dce.Cancel (local 1)) ∷ joins 1 2 ∷ asks (dce.Cancel (local 1))
    ∷ asks (dce.Detach (local 1))
    ∷ stmt.TryCatch (asks (dce.Cancel (local 1)) ∷ []) (catch (named 3) (stmt.Say (local 2) ∷ []) ∷ []) ∷ [])

-- A cancel that waits until general cancelability is on, with asynchronous cancelability on.
abbrev pub asynchronous : Script
asynchronous =
    script [] 1
    (asks (dce.Setcancel false (Local 1)) ∷ asks (dce.Setasynccancel true (Local 1)) ∷ asks (dce.Cancel expr.Me) ∷ asks dce.Testcancel
    ∷ asks (dce.Setcancel true (Local 1)) ∷ stmt.Set (Local 1) (num 9) ∷ stmt.Say (local 1) ∷ [])

-- A once routine that is unwound while two threads wait for it.
abbrev pub once_unwound : Script
once_unwound =
    script
    (item.Once o ∷ routine j 0 (asks (dce.DelayNp (num 10)) ∷ [])
    ∷ routine r 0 (asks (dce.Once o j) ∷ stmt.Say (local 0) ∷ []) ∷ [])
    3
    (creates 1 r 1 ∷ asks dce.Yield ∷ creates 2 r 2 ∷ creates 2 r 3 ∷ asks dce.Yield ∷ asks (dce.Setprio (local 2) (num 20) (Local 3))
    ∷ asks (dce.Cancel (local 1)) ∷ [])

-- A destructor that raises, and one that doesn't.
abbrev pub destructor_raises : Script
destructor_raises =
    script
    (item.Exception a ∷ item.Key k ∷ item.Key j ∷ routine r 0 (stmt.Raise a ∷ []) ∷ routine s 0 (stmt.Say (local 0) ∷ []) ∷ [])
    0
    (asks (dce.Keycreate k (Some r)) ∷ asks (dce.Keycreate j (Some s)) ∷ asks (dce.Setspecific k (num 4)) ∷ asks (dce.Setspecific j (num 5))
    ∷ stmt.Return (num 9) ∷ [])

-- Three threads that lock one mutex.
abbrev pub three_lock : Script
three_lock =
    script (item.Mutex m ∷ routine r 0 (lock ∷ unlock ∷ []) ∷ []) 1
    (asks (dce.MutexInit m None) ∷ lock ∷ creates 1 r 0 ∷ creates 1 r 0 ∷ asks dce.Yield ∷ unlock ∷ [])

-- Points that wait, each at its line, with two conditions and two pipes.
abbrev pub points : Script
points =
    script (item.Mutex m ∷ item.Cond c ∷ item.Cond x ∷ item.Pipe p 1 ∷ item.Pipe k 1 ∷ []) 2
    (asks (dce.DelayNp (num 5)) ∷ joins 1 2 ∷ asks (dce.CondWait c m) ∷ asks (dce.CondTimedwait c m (num 9)) ∷ asks (dce.CondWait x m)
    ∷ asks (dce.Read p (Local 1) (Local 2)) ∷ asks (dce.Write p (num 3)) ∷ asks (dce.Read k (Local 1) (Local 2)) ∷ say 1 ∷ [])

-- A write, where errors raise nothing.
abbrev pub quiet_errors : Script
quiet_errors = script (item.Interface interface.Status ∷ item.Pipe p 1 ∷ []) 0 (asks (dce.Write p (num 3)) ∷ [])

-- ---- histories

-- A match by number.
abbrev pub matched : List Entry
matched =
    runs 0 1
    ∷ alone
    (what.Try 1 (at 12) ∷ what.Try 2 (at 13) ∷ what.Try 3 (at 5) ∷ what.Raise 1 (Status (pos 5)) ∷ what.Finally 3 1 ∷ what.Say (pos 1)
    ∷ what.Endfin 3 ∷ what.Finally 2 1 ∷ what.Say (pos 2) ∷ what.Endfin 2 ∷ what.Catch 1 1 (at 18) ∷ what.Say (pos 5)
    ∷ what.Endcatch 1 ∷ what.End (pos 0) ∷ [])

-- A wait whose mutex the canceller has locked.
abbrev pub up_to_the_cancel : List Entry
up_to_the_cancel =
    runs 0 1
    ∷ calls 1 word.MutexInit (of m ∷ first ∷ []) reply.Done
    ∷ calls 1 word.CondInit (of c ∷ []) reply.Done
    ∷ calls 1 word.Create (first ∷ of r ∷ number 0 ∷ []) (value 2)
    ∷ calls 1 word.Yield [] reply.Done
    ∷ runs 0 2
    ∷ calls 2 word.MutexLock (of m ∷ []) reply.Done
    ∷ by 2 (what.Try 1 (at 7))
    ∷ calls 2 word.CondWait (of c ∷ of m ∷ []) reply.Blocks
    ∷ runs 0 1
    ∷ calls 1 word.MutexLock (of m ∷ []) reply.Done
    ∷ []

-- The waiter is cancelled, gets its mutex, and unlocks it in its FINALLY body.
abbrev pub wait_cancelled : List Entry
wait_cancelled =
    calls 1 word.Cancel (number 2 ∷ []) wakes
    ∷ calls 1 word.MutexUnlock (of m ∷ []) reply.Done
    ∷ by 2 (what.Gift (Some m))
    ∷ calls 1 word.Join (number 2 ∷ []) reply.Blocks
    ∷ runs 0 2
    ∷ by 2 (what.Deliver 1 (at 8))
    ∷ by 2 (what.Finally 1 1)
    ∷ calls 2 word.MutexUnlock (of m ∷ []) reply.Done
    ∷ by 2 (what.Endfin 1)
    ∷ by 2 (what.Bottom 1 (negsuc 0))
    ∷ by 2 (what.End (negsuc 0))
    ∷ runs 0 1
    ∷ by 1 (what.Ret (reply.Value (negsuc 0)))
    ∷ by 1 (what.Say (negsuc 0))
    ∷ by 1 (what.End (pos 0))
    ∷ []

-- Three threads, of which two wait for a mutex.
abbrev pub two_wait : List Entry
two_wait =
    runs 0 1
    ∷ calls 1 word.MutexInit (of m ∷ first ∷ []) reply.Done
    ∷ calls 1 word.MutexLock (of m ∷ []) reply.Done
    ∷ calls 1 word.Create (first ∷ of r ∷ number 0 ∷ []) (value 2)
    ∷ calls 1 word.Create (first ∷ of r ∷ number 0 ∷ []) (value 3)
    ∷ calls 1 word.Yield [] reply.Done
    ∷ runs 0 2
    ∷ calls 2 word.MutexLock (of m ∷ []) reply.Blocks
    ∷ runs 0 3
    ∷ calls 3 word.MutexLock (of m ∷ []) reply.Blocks
    ∷ runs 0 1
    ∷ []

-- The merging of cancels up to the thread that is cancelled.
abbrev pub cancelled_twice : Reply → List Entry
cancelled_twice again =
    runs 0 1
    ∷ calls 1 word.Create (first ∷ of r ∷ number 0 ∷ []) (value 2)
    ∷ calls 1 word.Cancel (number 2 ∷ []) pending
    ∷ calls 1 word.Cancel (number 2 ∷ []) again
    ∷ calls 1 word.Join (number 2 ∷ []) reply.Blocks
    ∷ runs 0 2
    ∷ calls 2 word.Yield [] reply.Done
    ∷ runs 0 2
    ∷ by 2 (what.Try 1 (at 4))
    ∷ by 2 (what.Deliver 1 (at 5))
    ∷ by 2 (what.Catch 1 1 (at 6))
    ∷ []

-- Its end, where a cancel of the ended thread has this reply.
abbrev pub joined_and_cancelled : Reply → List Entry
joined_and_cancelled late =
    runs 0 1
    ∷ by 1 (what.Ret (value 0))
    ∷ calls 1 word.Cancel (number 2 ∷ []) late
    ∷ calls 1 word.Detach (number 2 ∷ []) reply.Done
    ∷ by 1 (what.Try 1 (at 19))
    ∷ calls 1 word.Cancel (number 2 ∷ []) reply.Esrch
    ∷ by 1 (what.Raise 1 existence_e)
    ∷ by 1 (what.Catch 1 1 (at 21))
    ∷ by 1 (what.Say (pos 0))
    ∷ by 1 (what.Endcatch 1)
    ∷ by 1 (what.End (pos 0))
    ∷ []

abbrev pub third : Arg
third = arg.Word 2

-- Attribute cell k gets this kind.
abbrev pub kind_set : Arg → Entry
kind_set kind = calls 1 word.MutexattrSetkindNp (of k ∷ kind ∷ []) reply.Done

-- Mutex m is made by attribute cell k, which has this kind.
abbrev pub with_kind : Arg → List Entry
with_kind kind =
    calls 1 word.MutexattrCreate (of k ∷ []) reply.Done ∷ kind_set kind ∷ calls 1 word.MutexInit (of m ∷ of k ∷ []) reply.Done ∷ []

-- Thread 2 waits in this call, and is cancelled out of it at this line of the script.
abbrev pub delivered_from : CallWord → List Arg → ℕ → List Entry
delivered_from call_of args line =
    calls 2 call_of args reply.Blocks
    ∷ calls 1 word.Cancel (number 2 ∷ []) wakes
    ∷ by 2 (what.Deliver 1 (at line))
    ∷ by 2 (what.Bottom 1 (negsuc 0))
    ∷ by 2 (what.End (negsuc 0))
    ∷ []

-- The same in a wait on a condition, where it gets its mutex first.
abbrev pub delivered_with_mutex : CallWord → List Arg → ℕ → List Entry
delivered_with_mutex call_of args line =
    calls 2 word.MutexLock (of m ∷ []) reply.Done
    ∷ calls 2 call_of args reply.Blocks
    ∷ calls 1 word.Cancel (number 2 ∷ []) wakes
    ∷ by 2 (what.Gift (Some m))
    ∷ by 2 (what.Deliver 1 (at line))
    ∷ by 2 (what.Bottom 1 (negsuc 0))
    ∷ by 2 (what.End (negsuc 0))
    ∷ []

-- ---- further scripts

-- Two readers of an empty pipe, of which one is cancelled, and a write into a closed pipe.
abbrev pub cancelled_reader : Script
cancelled_reader =
    script
    (item.Pipe p 4 ∷ routine r 2 (asks (dce.Read p (Local 1) (Local 2)) ∷ stmt.Say (local 1) ∷ []) ∷ [])
    3
    (creates 1 r 0 ∷ creates 2 r 0 ∷ asks dce.Yield ∷ asks (dce.Cancel (local 1)) ∷ asks (dce.Write p (num 7)) ∷ joins 2 3
    ∷ asks (dce.Close p) ∷ asks (dce.Write p (num 8)) ∷ [])

-- Two threads that wait for one time with one mutex.
abbrev pub equal_times : Script
equal_times =
    script
    (item.Mutex m ∷ item.Cond c ∷ routine r 0 (lock ∷ asks (dce.CondTimedwait c m (num 20)) ∷ stmt.Say expr.Err ∷ unlock ∷ []) ∷ [])
    1
    (asks (dce.MutexInit m None) ∷ asks (dce.CondInit c) ∷ creates 1 r 0 ∷ creates 1 r 0 ∷ asks (dce.DelayNp (num 0)) ∷ [])

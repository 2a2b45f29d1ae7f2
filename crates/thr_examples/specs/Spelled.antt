-- Resolved lines and how they are spelled: one of each kind.
use Prim.Native.String.{String}
use Rattle.std.specs.Prelude.{◌≡◌, ℕ, pos, negsuc, true, false, List, [], ◌∷◌, codes, map, None, Some}
use Rattle.std.specs.List.{join_with_byte}
use Rattle.thr_values.specs.declared.number.NameId.{NameId}
use Rattle.thr_values.specs.declared.scheduling.Policy.TheVariants as policy
use Rattle.thr_values.specs.declared.reply.Kind.TheVariants as kind
use Rattle.thr_syntax.specs.declared.tree.Interface.TheVariants as interface
use Rattle.thr_syntax.specs.declared.expr.Var.{Var}
use Rattle.thr_syntax.specs.declared.expr.Var.TheVariants.{Local, Shared}
use Rattle.thr_syntax.specs.declared.expr.Expr.TheVariants as expr
use Rattle.thr_syntax.specs.declared.expr.ExcRef.TheVariants.{Named, This}
use Rattle.thr_syntax.specs.declared.dce.DceCall.TheVariants as dce
use Rattle.thr_syntax.specs.declared.form.Form.{Form}
use Rattle.thr_syntax.specs.declared.form.Form.TheVariants as form
use Rattle.thr_syntax.specs.Spelling.{Scope, form_words}
use Rattle.thr_text.specs.Lexing.{words_of}
use Rattle.thr_text.specs.Slots.{form_fault}

abbrev pub scope : Scope
scope = record {
  names = codes "cancel_e" ∷ codes "m" ∷ codes "c" ∷ codes "a" ∷ codes "b" ∷ codes "k" ∷ codes "o" ∷ codes "p" ∷ codes "r" ∷ codes "x" ∷ codes "e" ∷ [];
  locals = codes "v" ∷ codes "w" ∷ [];
}

abbrev pub named : ℕ → NameId
named n = record { 0 = n }

abbrev pub m : NameId
m = named 1

abbrev pub c : NameId
c = named 2

abbrev pub a : NameId
a = named 3

abbrev pub b : NameId
b = named 4

abbrev pub k : NameId
k = named 5

abbrev pub o : NameId
o = named 6

abbrev pub p : NameId
p = named 7

abbrev pub r : NameId
r = named 8

abbrev pub x : NameId
x = named 9

abbrev pub e : NameId
e = named 10

abbrev pub v : Var
v = Local 0

abbrev pub w : Var
w = Local 1

-- A resolved line with its text.
abbrev pub Row : Type 0
Row = Form × String

-- Each line is spelled as its text, which is a line with a form.
abbrev pub AreSpelled : List Row → Type 0
AreSpelled rows =
    (map (λ row. join_with_byte 32 (form_words scope row.0)) rows ≡ map (λ row. codes row.1) rows)
    × (map (λ row. form_fault (words_of (codes row.1))) rows ≡ map (λ row. None) rows)

abbrev pub declarations : List Row
declarations =
    (form.Interface interface.Exc, "interface exc")
    ∷ (form.Interface interface.Status, "interface status")
    ∷ (form.Limit 5, "limit 5")
    ∷ (form.Shared x (negsuc 6), "shared x -7")
    ∷ (form.Exception e, "exception e")
    ∷ (form.Status e (pos 5), "status e 5")
    ∷ (form.Mutex m, "mutex m")
    ∷ (form.MutexAttr b, "mutexattr b")
    ∷ (form.Cond c, "cond c")
    ∷ (form.Attr a, "attr a")
    ∷ (form.Key k, "key k")
    ∷ (form.Once o, "once o")
    ∷ (form.Pipe p 4, "pipe p 4")
    ∷ (form.Routine r (codes "v"), "routine r v")
    ∷ (form.Local (codes "w"), "local w")
    ∷ []

abbrev pub statements : List Row
statements =
    (form.Set v (expr.Num (pos 1)), "set v 1")
    ∷ (form.Set (Shared x) (expr.Var w), "set x w")
    ∷ (form.Say expr.Me, "say self")
    ∷ (form.If expr.Err, "if err")
    ∷ (form.Else, "else")
    ∷ (form.While (expr.Var (Shared x)), "while x")
    ∷ (form.Try, "try")
    ∷ (form.Catch e, "catch e")
    ∷ (form.CatchAll, "catch_all")
    ∷ (form.Finally, "finally")
    ∷ (form.Endtry, "endtry")
    ∷ (form.Raise e, "raise e")
    ∷ (form.Reraise, "reraise")
    ∷ (form.Call r (expr.Num (pos 1)) None, "call r 1")
    ∷ (form.Call r (expr.Num (pos 1)) (Some 1), "call r 1 w")
    ∷ (form.Return (expr.GetStatus This), "return exc_get_status this")
    ∷ (form.Exit (expr.Matches (Named e) This), "pthread_exit exc_matches e this")
    ∷ (form.End, "end")
    ∷ []

abbrev pub attribute_calls : List Row
attribute_calls =
    (form.Dce (dce.AttrCreate a), "pthread_attr_create a")
    ∷ (form.Dce (dce.AttrDelete a), "pthread_attr_delete a")
    ∷ (form.Dce (dce.AttrSetsched a policy.Fifo), "pthread_attr_setsched a SCHED_FIFO")
    ∷ (form.Dce (dce.AttrSetprio a (expr.Num (pos 1))), "pthread_attr_setprio a 1")
    ∷ (form.Dce (dce.AttrSetinheritsched a true), "pthread_attr_setinheritsched a PTHREAD_INHERIT_SCHED")
    ∷ (form.Dce (dce.AttrSetinheritsched a false), "pthread_attr_setinheritsched a PTHREAD_DEFAULT_SCHED")
    ∷ (form.Dce (dce.AttrSetstacksize a (expr.Num (pos 1))), "pthread_attr_setstacksize a 1")
    ∷ (form.Dce (dce.MutexattrCreate b), "pthread_mutexattr_create b")
    ∷ (form.Dce (dce.MutexattrSetkindNp b kind.Fast), "pthread_mutexattr_setkind_np b MUTEX_FAST_NP")
    ∷ (form.Dce (dce.MutexattrDelete b), "pthread_mutexattr_delete b")
    ∷ []

abbrev pub thread_calls : List Row
thread_calls =
    (form.Dce (dce.Create v (Some a) r (expr.Num (pos 1))), "pthread_create v a r 1")
    ∷ (form.Dce (dce.Create v None r (expr.Num (pos 1))), "pthread_create v default r 1")
    ∷ (form.Dce (dce.Join (expr.Var v) w), "pthread_join v w")
    ∷ (form.Dce (dce.Detach (expr.Var v)), "pthread_detach v")
    ∷ (form.Dce dce.Yield, "pthread_yield")
    ∷ (form.Dce (dce.Cancel (expr.Var v)), "pthread_cancel v")
    ∷ (form.Dce dce.Testcancel, "pthread_testcancel")
    ∷ (form.Dce (dce.Setcancel true v), "pthread_setcancel CANCEL_ON v")
    ∷ (form.Dce (dce.Setcancel false v), "pthread_setcancel CANCEL_OFF v")
    ∷ (form.Dce (dce.Setasynccancel true v), "pthread_setasynccancel CANCEL_ON v")
    ∷ (form.Dce (dce.Setprio (expr.Var v) (expr.Num (pos 1)) w), "pthread_setprio v 1 w")
    ∷ (form.Dce (dce.Getprio (expr.Var v) w), "pthread_getprio v w")
    ∷ (form.Dce (dce.Setscheduler (expr.Var v) policy.Rr (expr.Num (pos 1)) w), "pthread_setscheduler v SCHED_RR 1 w")
    ∷ (form.Dce (dce.Getscheduler (expr.Var v) w), "pthread_getscheduler v w")
    ∷ (form.Dce (dce.DelayNp (expr.Num (pos 1))), "pthread_delay_np 1")
    ∷ (form.Dce (dce.GetExpirationNp (expr.Num (pos 1)) v), "pthread_get_expiration_np 1 v")
    ∷ []

abbrev pub object_calls : List Row
object_calls =
    (form.Dce (dce.MutexInit m (Some b)), "pthread_mutex_init m b")
    ∷ (form.Dce (dce.MutexInit m None), "pthread_mutex_init m default")
    ∷ (form.Dce (dce.MutexDestroy m), "pthread_mutex_destroy m")
    ∷ (form.Dce (dce.MutexLock m), "pthread_mutex_lock m")
    ∷ (form.Dce (dce.MutexTrylock m v), "pthread_mutex_trylock m v")
    ∷ (form.Dce (dce.MutexUnlock m), "pthread_mutex_unlock m")
    ∷ (form.Dce dce.LockGlobalNp, "pthread_lock_global_np")
    ∷ (form.Dce dce.UnlockGlobalNp, "pthread_unlock_global_np")
    ∷ (form.Dce (dce.CondInit c), "pthread_cond_init c")
    ∷ (form.Dce (dce.CondDestroy c), "pthread_cond_destroy c")
    ∷ (form.Dce (dce.CondWait c m), "pthread_cond_wait c m")
    ∷ (form.Dce (dce.CondTimedwait c m (expr.Num (pos 1))), "pthread_cond_timedwait c m 1")
    ∷ (form.Dce (dce.CondSignal c), "pthread_cond_signal c")
    ∷ (form.Dce (dce.CondBroadcast c), "pthread_cond_broadcast c")
    ∷ (form.Dce (dce.Once o r), "pthread_once o r")
    ∷ (form.Dce (dce.Keycreate k (Some r)), "pthread_keycreate k r")
    ∷ (form.Dce (dce.Keycreate k None), "pthread_keycreate k none")
    ∷ (form.Dce (dce.Setspecific k (expr.Num (pos 1))), "pthread_setspecific k 1")
    ∷ (form.Dce (dce.Getspecific k v), "pthread_getspecific k v")
    ∷ (form.Dce (dce.Read p v w), "read p v w")
    ∷ (form.Dce (dce.Write p (expr.Num (pos 1))), "write p 1")
    ∷ (form.Dce (dce.Close p), "close p")
    ∷ []

-- Words of the script and of the journal that are the same in every script.
use Rattle.std.specs.Prelude.{ℕ, Bool, true, false, List, [], ◌∷◌, codes}
use Rattle.thr_values.specs.declared.call.CallWord.{CallWord}
use Rattle.thr_values.specs.declared.call.CallWord.TheVariants as call
use Rattle.thr_values.specs.declared.reply.Kind.{Kind}
use Rattle.thr_values.specs.declared.reply.Kind.TheVariants.{Fast, Recursive, Nonrecursive}
use Rattle.thr_values.specs.declared.scheduling.Policy.{Policy}
use Rattle.thr_values.specs.declared.scheduling.Policy.TheVariants.{Fifo, Rr, Fg, Bg}

-- The word of a call (docs/script.md, "Calls").
unfoldable pub call_word : CallWord → List ℕ
call_word call.AttrCreate = codes "pthread_attr_create"
call_word call.AttrDelete = codes "pthread_attr_delete"
call_word call.AttrSetsched = codes "pthread_attr_setsched"
call_word call.AttrSetprio = codes "pthread_attr_setprio"
call_word call.AttrSetinheritsched = codes "pthread_attr_setinheritsched"
call_word call.AttrSetstacksize = codes "pthread_attr_setstacksize"
call_word call.Create = codes "pthread_create"
call_word call.Join = codes "pthread_join"
call_word call.Detach = codes "pthread_detach"
call_word call.Yield = codes "pthread_yield"
call_word call.Cancel = codes "pthread_cancel"
call_word call.Testcancel = codes "pthread_testcancel"
call_word call.Setcancel = codes "pthread_setcancel"
call_word call.Setasynccancel = codes "pthread_setasynccancel"
call_word call.Setprio = codes "pthread_setprio"
call_word call.Getprio = codes "pthread_getprio"
call_word call.Setscheduler = codes "pthread_setscheduler"
call_word call.Getscheduler = codes "pthread_getscheduler"
call_word call.DelayNp = codes "pthread_delay_np"
call_word call.GetExpirationNp = codes "pthread_get_expiration_np"
call_word call.MutexattrCreate = codes "pthread_mutexattr_create"
call_word call.MutexattrSetkindNp = codes "pthread_mutexattr_setkind_np"
call_word call.MutexattrDelete = codes "pthread_mutexattr_delete"
call_word call.MutexInit = codes "pthread_mutex_init"
call_word call.MutexDestroy = codes "pthread_mutex_destroy"
call_word call.MutexLock = codes "pthread_mutex_lock"
call_word call.MutexTrylock = codes "pthread_mutex_trylock"
call_word call.MutexUnlock = codes "pthread_mutex_unlock"
call_word call.LockGlobalNp = codes "pthread_lock_global_np"
call_word call.UnlockGlobalNp = codes "pthread_unlock_global_np"
call_word call.CondInit = codes "pthread_cond_init"
call_word call.CondDestroy = codes "pthread_cond_destroy"
call_word call.CondWait = codes "pthread_cond_wait"
call_word call.CondTimedwait = codes "pthread_cond_timedwait"
call_word call.CondSignal = codes "pthread_cond_signal"
call_word call.CondBroadcast = codes "pthread_cond_broadcast"
call_word call.Once = codes "pthread_once"
call_word call.Keycreate = codes "pthread_keycreate"
call_word call.Setspecific = codes "pthread_setspecific"
call_word call.Getspecific = codes "pthread_getspecific"
call_word call.Read = codes "read"
call_word call.Write = codes "write"
call_word call.Close = codes "close"

-- The words of the four policies, in the order of their numbers (docs/script.md, "Calls").
abbrev pub policy_words : List (List ℕ)
policy_words = codes "SCHED_FIFO" ∷ codes "SCHED_RR" ∷ codes "SCHED_FG_NP" ∷ codes "SCHED_BG_NP" ∷ []

abbrev pub policy_word : Policy → List ℕ
policy_word Fifo = codes "SCHED_FIFO"
policy_word Rr = codes "SCHED_RR"
policy_word Fg = codes "SCHED_FG_NP"
policy_word Bg = codes "SCHED_BG_NP"

-- The words of the three kinds of mutexes (docs/script.md, "Calls").
abbrev pub kind_words : List (List ℕ)
kind_words = codes "MUTEX_FAST_NP" ∷ codes "MUTEX_RECURSIVE_NP" ∷ codes "MUTEX_NONRECURSIVE_NP" ∷ []

abbrev pub kind_word : Kind → List ℕ
kind_word Fast = codes "MUTEX_FAST_NP"
kind_word Recursive = codes "MUTEX_RECURSIVE_NP"
kind_word Nonrecursive = codes "MUTEX_NONRECURSIVE_NP"

-- The words for taking policy and priority from the maker, or not (docs/script.md, "Calls").
abbrev pub inherit_words : List (List ℕ)
inherit_words = codes "PTHREAD_INHERIT_SCHED" ∷ codes "PTHREAD_DEFAULT_SCHED" ∷ []

abbrev pub inherit_word : Bool → List ℕ
inherit_word true = codes "PTHREAD_INHERIT_SCHED"
inherit_word false = codes "PTHREAD_DEFAULT_SCHED"

-- The words for a cancelability that is on or off (docs/script.md, "Calls").
abbrev pub cancel_words : List (List ℕ)
cancel_words = codes "CANCEL_ON" ∷ codes "CANCEL_OFF" ∷ []

abbrev pub cancel_word : Bool → List ℕ
cancel_word true = codes "CANCEL_ON"
cancel_word false = codes "CANCEL_OFF"

-- Worked histories as values, and with ` ; ` for the end of a line.
use Prim.Native.String.{String}
use Rattle.std.specs.Prelude.{pos, negsuc, List, [], ◌∷◌, Some}
use Rattle.thr_values.specs.declared.call.CallWord.TheVariants as call
use Rattle.thr_values.specs.declared.call.Arg.TheVariants.{Name, Num, Word}
use Rattle.thr_values.specs.declared.reply.Reply.TheVariants.{Done, Value, Effect, Blocks}
use Rattle.thr_values.specs.declared.reply.Effect.TheVariants.{Wakes}
use Rattle.thr_values.specs.declared.history.What.TheVariants as what
use Rattle.thr_values.specs.declared.history.Entry.{Entry}
use Rattle.thr_examples.specs.Entries.{declared, at, run, by, calls}

-- A wait that is cancelled while the canceller holds the mutex.
abbrev pub cancelled_wait : String
cancelled_wait = "1 p0 run t1 ; 2 t1 pthread_mutex_init m default = ok ; 3 t1 pthread_cond_init c = ok ; 4 t1 pthread_create default waiter 0 = 2 ; 5 t1 pthread_yield = ok ; 6 p0 run t2 ; 7 t2 pthread_mutex_lock m = ok ; 8 t2 try 1 7 ; 9 t2 pthread_cond_wait c m = blocks ; 10 p0 run t1 ; 11 t1 pthread_mutex_lock m = ok ; 12 t1 pthread_cancel 2 = wakes ; 13 t1 pthread_mutex_unlock m = ok ; 14 t2 gift m ; 15 t1 pthread_join 2 = blocks ; 16 p0 run t2 ; 17 t2 deliver 1 8 ; 18 t2 finally 1 1 ; 19 t2 pthread_mutex_unlock m = ok ; 20 t2 endfin 1 ; 21 t2 bottom 1 -1 ; 22 t2 end -1 ; 23 p0 run t1 ; 24 t1 ret = -1 ; 25 t1 say -1 ; 26 t1 end 0 ; stop finished"

-- The same as values: `m`, `c`, `t` and `waiter` are the first declared names.
abbrev pub cancelled_wait_lines : List Entry
cancelled_wait_lines =
    run 0 1
    ∷ calls 1 call.MutexInit (Name (declared 0) ∷ Word 0 ∷ []) Done
    ∷ calls 1 call.CondInit (Name (declared 1) ∷ []) Done
    ∷ calls 1 call.Create (Word 0 ∷ Name (declared 3) ∷ Num (pos 0) ∷ []) (Value (pos 2))
    ∷ calls 1 call.Yield [] Done
    ∷ run 0 2
    ∷ calls 2 call.MutexLock (Name (declared 0) ∷ []) Done
    ∷ by 2 (what.Try 1 (at 7))
    ∷ calls 2 call.CondWait (Name (declared 1) ∷ Name (declared 0) ∷ []) Blocks
    ∷ run 0 1
    ∷ calls 1 call.MutexLock (Name (declared 0) ∷ []) Done
    ∷ calls 1 call.Cancel (Num (pos 2) ∷ []) (Effect Wakes)
    ∷ calls 1 call.MutexUnlock (Name (declared 0) ∷ []) Done
    ∷ by 2 (what.Gift (Some (declared 0)))
    ∷ calls 1 call.Join (Num (pos 2) ∷ []) Blocks
    ∷ run 0 2
    ∷ by 2 (what.Deliver 1 (at 8))
    ∷ by 2 (what.Finally 1 1)
    ∷ calls 2 call.MutexUnlock (Name (declared 0) ∷ []) Done
    ∷ by 2 (what.Endfin 1)
    ∷ by 2 (what.Bottom 1 (negsuc 0))
    ∷ by 2 (what.End (negsuc 0))
    ∷ run 0 1
    ∷ by 1 (what.Ret (Value (negsuc 0)))
    ∷ by 1 (what.Say (negsuc 0))
    ∷ by 1 (what.End (pos 0))
    ∷ []

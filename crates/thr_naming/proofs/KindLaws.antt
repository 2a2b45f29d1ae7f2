-- No call of the thread service declares a name.
use Rattle.std.proofs.Common.{◌≡◌, None, refl}
use Rattle.thr_values.specs.declared.call.CallWord.{CallWord}
use Rattle.thr_values.specs.declared.call.CallWord.TheVariants as call
use Rattle.thr_text.specs.Slots.{call_slots}
use Rattle.thr_naming.specs.Placing.{first_kind}

pub no_call_declares : (c : CallWord) → first_kind (call_slots c) ≡ None
unfolding call_slots
no_call_declares call.AttrCreate = refl
no_call_declares call.AttrDelete = refl
no_call_declares call.AttrSetsched = refl
no_call_declares call.AttrSetprio = refl
no_call_declares call.AttrSetinheritsched = refl
no_call_declares call.AttrSetstacksize = refl
no_call_declares call.Create = refl
no_call_declares call.Join = refl
no_call_declares call.Detach = refl
no_call_declares call.Yield = refl
no_call_declares call.Cancel = refl
no_call_declares call.Testcancel = refl
no_call_declares call.Setcancel = refl
no_call_declares call.Setasynccancel = refl
no_call_declares call.Setprio = refl
no_call_declares call.Getprio = refl
no_call_declares call.Setscheduler = refl
no_call_declares call.Getscheduler = refl
no_call_declares call.DelayNp = refl
no_call_declares call.GetExpirationNp = refl
no_call_declares call.MutexattrCreate = refl
no_call_declares call.MutexattrSetkindNp = refl
no_call_declares call.MutexattrDelete = refl
no_call_declares call.MutexInit = refl
no_call_declares call.MutexDestroy = refl
no_call_declares call.MutexLock = refl
no_call_declares call.MutexTrylock = refl
no_call_declares call.MutexUnlock = refl
no_call_declares call.LockGlobalNp = refl
no_call_declares call.UnlockGlobalNp = refl
no_call_declares call.CondInit = refl
no_call_declares call.CondDestroy = refl
no_call_declares call.CondWait = refl
no_call_declares call.CondTimedwait = refl
no_call_declares call.CondSignal = refl
no_call_declares call.CondBroadcast = refl
no_call_declares call.Once = refl
no_call_declares call.Keycreate = refl
no_call_declares call.Setspecific = refl
no_call_declares call.Getspecific = refl
no_call_declares call.Read = refl
no_call_declares call.Write = refl
no_call_declares call.Close = refl

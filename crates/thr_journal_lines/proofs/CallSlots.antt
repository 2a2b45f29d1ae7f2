-- The places of calls: four at most.
use Rattle.std.proofs.Common.{◌≡◌, ◌≤◌, length, refl, arith}
use Rattle.thr_values.specs.declared.call.CallWord.{CallWord}
use Rattle.thr_values.specs.declared.call.CallWord.TheVariants as call
use Rattle.thr_text.specs.declared.head.Head.TheVariants as head
use Rattle.thr_text.specs.Slots.{call_slots, slots_of}

pub slots_of_call : (c : CallWord) → slots_of (head.Dce c) ≡ call_slots c
unfolding slots_of
slots_of_call c = refl

pub few_slots : (c : CallWord) → length (slots_of (head.Dce c)) ≤ 4
unfolding slots_of call_slots
few_slots call.AttrCreate = omega arith
few_slots call.AttrDelete = omega arith
few_slots call.AttrSetsched = omega arith
few_slots call.AttrSetprio = omega arith
few_slots call.AttrSetinheritsched = omega arith
few_slots call.AttrSetstacksize = omega arith
few_slots call.Create = omega arith
few_slots call.Join = omega arith
few_slots call.Detach = omega arith
few_slots call.Yield = omega arith
few_slots call.Cancel = omega arith
few_slots call.Testcancel = omega arith
few_slots call.Setcancel = omega arith
few_slots call.Setasynccancel = omega arith
few_slots call.Setprio = omega arith
few_slots call.Getprio = omega arith
few_slots call.Setscheduler = omega arith
few_slots call.Getscheduler = omega arith
few_slots call.DelayNp = omega arith
few_slots call.GetExpirationNp = omega arith
few_slots call.MutexattrCreate = omega arith
few_slots call.MutexattrSetkindNp = omega arith
few_slots call.MutexattrDelete = omega arith
few_slots call.MutexInit = omega arith
few_slots call.MutexDestroy = omega arith
few_slots call.MutexLock = omega arith
few_slots call.MutexTrylock = omega arith
few_slots call.MutexUnlock = omega arith
few_slots call.LockGlobalNp = omega arith
few_slots call.UnlockGlobalNp = omega arith
few_slots call.CondInit = omega arith
few_slots call.CondDestroy = omega arith
few_slots call.CondWait = omega arith
few_slots call.CondTimedwait = omega arith
few_slots call.CondSignal = omega arith
few_slots call.CondBroadcast = omega arith
few_slots call.Once = omega arith
few_slots call.Keycreate = omega arith
few_slots call.Setspecific = omega arith
few_slots call.Getspecific = omega arith
few_slots call.Read = omega arith
few_slots call.Write = omega arith
few_slots call.Close = omega arith

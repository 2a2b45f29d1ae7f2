-- Groups of calls, by what they are on (docs/script.md, "Calls").
use Rattle.thr_syntax.specs.declared.dce.DceCall.{DceCall}
use Rattle.thr_syntax.specs.declared.dce.DceCall.TheVariants as dce
use Rattle.thr_services.specs.declared.groups.Group.{Group}
use Rattle.thr_services.specs.declared.groups.Group.TheVariants as group

-- The group of a call (docs/script.md, "Calls").
abbrev pub group_of : DceCall → Group
group_of (dce.AttrCreate a) = group.Cells
group_of (dce.AttrDelete a) = group.Cells
group_of (dce.AttrSetsched a p) = group.Cells
group_of (dce.AttrSetprio a e) = group.Cells
group_of (dce.AttrSetinheritsched a inherits) = group.Cells
group_of (dce.AttrSetstacksize a e) = group.Cells
group_of (dce.Create v a routine e) = group.Threads
group_of (dce.Join e v) = group.Threads
group_of (dce.Detach e) = group.Threads
group_of dce.Yield = group.Threads
group_of (dce.Setprio e f v) = group.Ranks
group_of (dce.Getprio e v) = group.Ranks
group_of (dce.Setscheduler e p f v) = group.Ranks
group_of (dce.Getscheduler e v) = group.Ranks
group_of (dce.Cancel e) = group.Cancels
group_of dce.Testcancel = group.Cancels
group_of (dce.Setcancel on v) = group.Cancels
group_of (dce.Setasynccancel on v) = group.Cancels
group_of (dce.MutexattrCreate a) = group.Mutexes
group_of (dce.MutexattrSetkindNp a kind) = group.Mutexes
group_of (dce.MutexattrDelete a) = group.Mutexes
group_of (dce.MutexInit m a) = group.Mutexes
group_of (dce.MutexDestroy m) = group.Mutexes
group_of (dce.MutexLock m) = group.Locks
group_of (dce.MutexTrylock m v) = group.Locks
group_of (dce.MutexUnlock m) = group.Locks
group_of dce.LockGlobalNp = group.Locks
group_of dce.UnlockGlobalNp = group.Locks
group_of (dce.CondInit c) = group.Conds
group_of (dce.CondDestroy c) = group.Conds
group_of (dce.CondWait c m) = group.Conds
group_of (dce.CondTimedwait c m e) = group.Conds
group_of (dce.CondSignal c) = group.Conds
group_of (dce.CondBroadcast c) = group.Conds
group_of (dce.DelayNp e) = group.Times
group_of (dce.GetExpirationNp e v) = group.Times
group_of (dce.Once o routine) = group.Onces
group_of (dce.Keycreate k destructor) = group.Onces
group_of (dce.Setspecific k e) = group.Onces
group_of (dce.Getspecific k v) = group.Onces
group_of (dce.Read p v w) = group.Pipes
group_of (dce.Write p e) = group.Pipes
group_of (dce.Close p) = group.Pipes

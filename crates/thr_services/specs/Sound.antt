-- What the service asks when a thread makes a call (docs/machine.md, "Calls").
use Rattle.std.specs.Prelude.{◌≡◌, ◌+◌, ◌<◌, ◌≤◌, ◌^◌, true, Option, IfSome, ⊤}
use Rattle.thr_values.specs.declared.number.Tid.{Tid}
use Rattle.thr_values.specs.declared.number.NameId.{NameId}
use Rattle.thr_syntax.specs.declared.dce.DceCall.{DceCall}
use Rattle.thr_syntax.specs.declared.dce.DceCall.TheVariants as dce
use Rattle.thr_parts.specs.Tables.{names}
use Rattle.thr_parts.specs.Rows.{has_room}
use Rattle.thr_parts.specs.Mutexes.{owner}
use Rattle.thr_conds.specs.Agreement.{WaitsAgree}
use Rattle.thr_pipes.specs.Agreement.{WritersAgree}
use Rattle.thr_services.specs.Views.{ServicesView}
use Rattle.thr_services.specs.Ready.{OwersStand}
use Rattle.thr_services.specs.Cancelling.{SeatsHaveRecords, MutexesFit}

-- The objects agree with the rows on who waits and who owes something, each thread has a record, the counts are below their
-- tops, and there is room for the calling thread in the rows and for one value of a key more (docs/machine.md, "Calls").
pub record IsSound (v : ServicesView) (t : Tid) : Type 0 where
  pub room : has_room v.rows t ≡ true
  pub arrival : v.rows.next_arrival + 2048 < 2 ^ 64
  pub number : v.threads.next + 1 < 2 ^ 32
  pub depths : (m : Option NameId) → IfSome (owner v.locks m) (λ h. h.depth + 1 < 2 ^ 64)
  pub waits : WaitsAgree v.conds v.rows
  pub writers : WritersAgree v.pipes v.rows
  pub owers : OwersStand v.debts v.rows
  pub recorded : SeatsHaveRecords v.threads v.rows
  pub fit : MutexesFit v.conds
  pub values : 1 ≤ v.onces.room

-- The names of a call that name objects or attribute cells fit tables by names (docs/machine.md, "Tables").
abbrev pub NamesFit : DceCall → Type 0
NamesFit (dce.AttrCreate a) = a.0 < names
NamesFit (dce.AttrDelete a) = a.0 < names
NamesFit (dce.AttrSetsched a p) = a.0 < names
NamesFit (dce.AttrSetprio a e) = a.0 < names
NamesFit (dce.AttrSetinheritsched a inherits) = a.0 < names
NamesFit (dce.AttrSetstacksize a e) = a.0 < names
NamesFit (dce.Create v a routine e) = IfSome a (λ n. n.0 < names)
NamesFit (dce.MutexattrCreate a) = a.0 < names
NamesFit (dce.MutexattrSetkindNp a kind) = a.0 < names
NamesFit (dce.MutexattrDelete a) = a.0 < names
NamesFit (dce.MutexInit m a) = (m.0 < names) × IfSome a (λ n. n.0 < names)
NamesFit (dce.MutexDestroy m) = m.0 < names
NamesFit (dce.MutexLock m) = m.0 < names
NamesFit (dce.MutexTrylock m v) = m.0 < names
NamesFit (dce.MutexUnlock m) = m.0 < names
NamesFit (dce.CondInit c) = c.0 < names
NamesFit (dce.CondDestroy c) = c.0 < names
NamesFit (dce.CondWait c m) = (c.0 < names) × (m.0 < names)
NamesFit (dce.CondTimedwait c m e) = (c.0 < names) × (m.0 < names)
NamesFit (dce.CondSignal c) = c.0 < names
NamesFit (dce.CondBroadcast c) = c.0 < names
NamesFit (dce.Once o routine) = o.0 < names
NamesFit (dce.Keycreate k destructor) = k.0 < names
NamesFit (dce.Setspecific k e) = k.0 < names
NamesFit (dce.Getspecific k v) = k.0 < names
NamesFit (dce.Read p v w) = p.0 < names
NamesFit (dce.Write p e) = p.0 < names
NamesFit (dce.Close p) = p.0 < names
NamesFit _ = ⊤

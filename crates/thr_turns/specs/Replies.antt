-- What turns do after replies (docs/machine.md, "Replies").
use Rattle.std.specs.Prelude.{ℤ, List, Option, Some, None}
use Rattle.thr_values.specs.declared.number.Tid.{Tid}
use Rattle.thr_values.specs.declared.number.NameId.{NameId}
use Rattle.thr_syntax.specs.declared.dce.DceCall.{DceCall}
use Rattle.thr_syntax.specs.declared.dce.DceCall.TheVariants as dce
use Rattle.thr_remainder.specs.Remainders.{Setting, Remainder, Move}
use Rattle.thr_remainder.specs.Starts.{still, begins_once}
use Rattle.thr_model.specs.Calls.{first}
use Rattle.thr_turns.specs.declared.workings.Left.{Left}
use Rattle.thr_turns.specs.declared.workings.Left.TheVariants.{Goes, Begins}

-- The caller of this call begins the routine of its once block; another call begins nothing (docs/machine.md, "Once blocks").
abbrev pub begins_by : Setting → DceCall → Remainder → Move
begins_by g (dce.Once block routine) r = begins_once g block routine r
begins_by g _ r = still r

-- The routine at which the thread begins that this call makes, if it is to make one (docs/machine.md, "Thread records").
abbrev pub created_by : DceCall → Option NameId
created_by (dce.Create v attr routine e) = Some routine
created_by _ = None

-- What a call leaves of its caller, where it is to make a thread at this routine with this argument and the thread that is there
-- was made (docs/machine.md, "Thread records").
abbrev pub left_of : Option NameId → ℤ → Option (Tid × NameId × ℤ) → Left
left_of routine n None = Goes
left_of None n (Some b) = Goes
left_of (Some routine) n (Some b) = Begins b.0 routine n

-- The same of a call whose expressions have these values (docs/machine.md, "Thread records").
abbrev pub left_by : DceCall → List ℤ → Option (Tid × NameId × ℤ) → Left
left_by call ns begins = left_of (created_by call) (first ns) begins

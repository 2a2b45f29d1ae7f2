-- The laws of a legal history, as one (docs/laws.md).
use Rattle.std.specs.Prelude.{List}
use Rattle.thr_values.specs.declared.history.Entry.{Entry}
use Rattle.thr_values.specs.declared.event.Stop.{Stop}
use Rattle.thr_syntax.specs.declared.tree.Script.{Script}
use Rattle.thr_laws.specs.CallsOnce.{CallsOnce}
use Rattle.thr_laws.specs.CancelLaw.{CancelLaw}
use Rattle.thr_laws.specs.Owners.{OneOwner}
use Rattle.thr_laws.specs.Routed.{Routed}

-- The lines of a history with this stop meet the laws: each unwinding takes its route through the open handlers until it is
-- caught or replaced, no mutex has two owners, cancels are delivered when they must and may be, and each call that waits is
-- answered once.
pub record MeetsLaws (s : Script) (entries : List Entry) (stop : Stop) : Type 0 where
  pub routes : Routed s entries
  pub owners : OneOwner entries
  pub cancels : CancelLaw s entries
  pub calls : CallsOnce s entries stop

-- Legal lines are those of a history.
use Rattle.std.proofs.Common.{ℕ, List, subst}
use Rattle.thr_values.specs.declared.event.Stop.{Stop}
use Rattle.thr_values.specs.declared.history.Entry.{Entry}
use Rattle.thr_syntax.specs.declared.tree.Script.{Script}
use Rattle.thr_model.specs.Histories.{Execution, History, Legal}

-- What holds of the lines of each history holds of legal lines.
pub of-legal : (P : List Entry → Type 0) {s : Script} {n : ℕ} {entries : List Entry} {stop : Stop} → ((x : Execution) → History s n x → P x.entries) → Legal s n entries stop → P entries
of-legal P all legal = subst P legal.lines (all legal.execution legal.history)

-- In every history threads run on processors that are there.
use Rattle.std.proofs.Common.{◌≡◌, ℕ, ◌<◌, true, Some, arith}
use Rattle.std.proofs.lemmas.Bool.Decides.{nat_tests}
use Rattle.std.specs.Prelude.{nat_lt}
use Rattle.thr_values.specs.declared.number.Tid.{Tid}
use Rattle.thr_syntax.specs.declared.tree.Script.{Script}
use Rattle.thr_parts.specs.Dispatch.{running}
use Rattle.thr_parts.proofs.KeptLaws.{running_below}
use Rattle.thr_model.specs.Histories.{Execution, History}
use Rattle.thr_model.proofs.RowsKept.{history_canonical, history_below}

is_below : (p n : ℕ) → nat_lt p n ≡ true → p < n
is_below p n e = grind (arith, nat_tests)

pub processor_there : (s : Script) (n : ℕ) (x : Execution) → History s n x → (p : ℕ) (t : Tid) → running x.state.rows p ≡ Some t → p < n
processor_there s n x h p t e = is_below p n (running_below n x.state.rows p t (history_canonical h) (history_below h) e)

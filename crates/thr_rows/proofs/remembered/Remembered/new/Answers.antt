use Rattle.std.proofs.Common.{◌∙◌, ap, sym, arith}
use Rattle.thr_rows.specs.Remembered.{seated}
use Rattle.thr_rows.proofs.RememberedLaws.{seated_none, nobody_sits}
use Rattle.thr_rows.proofs.remembered.Remembered.new.Goals as goal

pub invariant_of-result : goal.invariant_of-result
invariant_of-result c = (nobody_sits c.in_ok-entries.entries c.in_ok-entries.ensures, omega arith)

pub returns : goal.returns
returns c = ap seated c.in_ok-entries.ensures ∙ sym seated_none

use Rattle.std.proofs.Common.{◌∙◌, ap}
use Rattle.thr_rows.specs.Remembered.{seated}
use Rattle.thr_rows.proofs.RememberedLaws.{seated_cut}
use Rattle.thr_rows.proofs.remembered.empty.Goals as goal

pub returns : goal.returns
returns c = ap seated c.put.ensures ∙ seated_cut _ c.args.t.0 c.len-rises.ensures.rises

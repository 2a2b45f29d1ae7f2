use Rattle.std.proofs.Common.{◌∙◌, ap, sym, arith}
use Rattle.thr_rows.specs.Waits.{is_queue, table_of}
use Rattle.thr_rows.proofs.WaitLaws.{queue_empty, table_none}
use Rattle.thr_rows.proofs.waits.Waits.new.Goals as goal

pub invariant_of-result : goal.invariant_of-result
invariant_of-result c = (ap is_queue c.in-Ok.ensures.items ∙ queue_empty, omega (arith, c.in-Ok.ensures.capacity))

pub returns : goal.returns
returns c = ap table_of c.in-Ok.ensures.items ∙ sym table_none

use Rattle.std.proofs.Common.{arith}
use Rattle.thr_verdict.specs.Report.{is_creation}
use Rattle.thr_report.proofs.Gains.{how_many_few}
use Rattle.thr_report.proofs.counting.threads.Goals as goal

pub overflow_add-result : goal.overflow_add-result
overflow_add-result c = omega (arith, how_many_few is_creation c.args.entries.now, c.creations-made.ensures)

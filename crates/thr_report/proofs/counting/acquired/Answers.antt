use Rattle.thr_verdict.specs.Report.{times_acquired}
use Rattle.thr_report.proofs.Mutexes.{one_more}
use Rattle.thr_report.proofs.counting.acquired.Goals as goal

pub loop-item-preserved : goal.loop-item-preserved
loop-item-preserved c =
    one_more (times_acquired c.args.entries.now) c.args.items.now c.loop-item.item-index c.item-item.result c.loop-item.out c.add_mutex.new.out _ c.loop-item-test.true c.item-item.is
    (c.in-Ok.ensures c.args.entries.now c.in_ok-table.ensures.each) c.loop-item.invariant

use Rattle.std.proofs.Common.{arith}
use Rattle.thr_verdict.specs.Made.{create_worker}
use Rattle.thr_making.proofs.Workers.{one_more, none_left}
use Rattle.thr_making.proofs.statements.create_workers.Goals as goal

pub loop-i-preserved : goal.loop-i-preserved
loop-i-preserved c = record {
  some = omega arith;
  few = omega arith;
  added = one_more create_worker c.loop-i.i c.args.threads c.loop-i.all c.push.new.self _ c.create_worker.result (omega arith) c.create_worker.ensures c.in_ok-push.ensures.ok c.loop-i.invariant.added;
}

pub returns : goal.returns
returns c = none_left create_worker c.loop-i.i c.args.threads c.loop-i.all _ (omega arith) c.loop-i.invariant.added

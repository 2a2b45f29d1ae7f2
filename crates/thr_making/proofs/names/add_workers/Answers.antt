use Rattle.std.proofs.Common.{arith}
use Rattle.thr_verdict.specs.Made.{worker_text}
use Rattle.thr_making.proofs.Workers.{one_more, none_left}
use Rattle.thr_making.proofs.names.add_workers.Goals as goal

pub loop-i-preserved : goal.loop-i-preserved
loop-i-preserved c = record {
  some = omega arith;
  few = omega arith;
  added = one_more worker_text c.loop-i.i c.args.threads c.loop-i.all c.push.new.self _ c.in_ok-worker_name.field-0 (omega arith) c.in_ok-worker_name.ensures c.in_ok-push.ensures.ok c.loop-i.invariant.added;
}

pub returns : goal.returns
returns c = none_left worker_text c.loop-i.i c.args.threads c.loop-i.all _ (omega arith) c.loop-i.invariant.added

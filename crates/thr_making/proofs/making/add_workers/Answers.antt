use Rattle.std.proofs.Common.{ℕ, ◌∙◌, arith}
use Rattle.thr_verdict.specs.Made.{worker_routine, rounds, share}
use Rattle.thr_making.proofs.Workers.{one_more, none_left}
use Rattle.thr_making.proofs.making.add_workers.Goals as goal

pub loop-i-preserved : goal.loop-i-preserved
loop-i-preserved c = record {
  some = omega arith;
  few = omega arith;
  added =
      one_more (λ (i : ℕ). worker_routine i (rounds c.args.n i) (share c.args.n i)) c.loop-i.i c.args.threads c.loop-i.all c.push.new.self _ c.in_ok-worker.field-0 (omega arith)
      (c.in_ok-worker.ensures ∙ (λ j. worker_routine c.loop-i.i (c.rounds.ensures.value j) (c.share.ensures.value j))) c.in_ok-push.ensures.ok c.loop-i.invariant.added;
}

pub returns : goal.returns
returns c = none_left (λ (i : ℕ). worker_routine i (rounds c.args.n i) (share c.args.n i)) c.loop-i.i c.args.threads c.loop-i.all _ (omega arith) c.loop-i.invariant.added

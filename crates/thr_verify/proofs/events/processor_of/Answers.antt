use Rattle.std.proofs.Common.{sym, arith}
use Rattle.thr_verify.proofs.Naming.{found_there, nowhere}
use Rattle.thr_verify.proofs.events.processor_of.Goals as goal

pub returns-then-has_thread : goal.returns-then-has_thread
returns-then-has_thread c =
    found_there c.args.book.now c.requires.reached c.states_stay_canonical.ensures c.loop-p.p c.args.t (c.has_thread.ensures.yes c.if-has_thread.true)

pub returns : goal.returns
returns c =
    sym (nowhere c.args.book.now c.requires.reached c.processors_have_one_thread.ensures c.args.workers c.args.t c.requires.workers
    (λ q less. c.loop-p.invariant q (omega (arith, less, c.loop-p-test.false))))

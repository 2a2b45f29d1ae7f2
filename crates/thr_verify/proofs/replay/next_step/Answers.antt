use Rattle.std.proofs.Common.{sym, ◌∙◌, arith}
use Rattle.std.proofs.lemmas.Bool.Decides.{nat_tests}
use Rattle.thr_verify.proofs.Endings.{stop_here, early_here}
use Rattle.thr_verify.proofs.replay.next_step.Goals as goal

pub returns-in-Some : goal.returns-in-Some
returns-in-Some c =
    stop_here c.args.j.now c.args.book.now c.requires c.entries-count.result.now c.len.result c.entries-count.ensures c.len.ensures c.in-Some.holds c.where_it_holds.result _ (sym c.in-Some.is ∙ c.stop_test.ensures.value)
    c.where_it_holds.ensures.wrong c.where_it_holds.ensures.placed (λ e. grind (arith, nat_tests)) (λ e. grind (arith, nat_tests))

pub returns-in-None : goal.returns-in-None
returns-in-None c =
    early_here c.args.j.now c.args.book.now c.requires c.entries-count.result.now c.len.result c.entries-count.ensures c.len.ensures c.stopped_early.result (sym c.in-None.is ∙ c.stop_test.ensures.value)
    c.stopped_early.ensures.wrong c.stopped_early.ensures.placed (grind (arith, nat_tests, c.if-at_end.true))

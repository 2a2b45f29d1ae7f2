use Rattle.std.proofs.Common.{sym, ◌∙◌}
use Rattle.thr_verify.proofs.Naming.{has_some}
use Rattle.thr_verify.proofs.events.make_turn.Goals as goal

pub turn-requires-clause-runs : goal.turn-requires-clause-runs
turn-requires-clause-runs c =
    has_some c.args.book.now c.requires.reached c.processors_have_one_thread.ensures c.in-Some.p c.args.t (sym c.processor_of.ensures ∙ c.in-Some.is)

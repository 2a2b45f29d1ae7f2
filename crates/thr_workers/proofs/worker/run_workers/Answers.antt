use Rattle.thr_workers.proofs.Laws.{laws-met}
use Rattle.thr_workers.proofs.worker.run_workers.Goals as goal

pub returns-clause-laws : goal.returns-clause-laws
returns-clause-laws g c =
    laws-met c.legal_histories_meet_the_laws.ensures c.args.script c.in_ok-book.book.script c.in_ok-book.book.workers c.requires.formed c.in_ok-book.ensures.script c.run_named.result c.run_named.ensures.legal

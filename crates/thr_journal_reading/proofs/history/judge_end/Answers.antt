use Rattle.thr_journals.specs.Faults.{parts_of}
use Rattle.thr_journal_reading.proofs.HistoryLaws.{more_behind}
use Rattle.thr_journal_reading.proofs.history.judge_end.Goals as goal

pub returns-in-Some-clause-fault : goal.returns-in-Some-clause-fault
returns-in-Some-clause-fault c = rw c.refused.ensures (more_behind c.args.at (parts_of c.args.rest.now) c.in-Some.field-0.0.now c.in-Some.field-0.1.now c.in-Some.ensures.parts)

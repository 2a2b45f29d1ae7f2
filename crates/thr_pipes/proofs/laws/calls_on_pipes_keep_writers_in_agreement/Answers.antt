use Rattle.thr_pipes.proofs.CallLaws.{relieved_writes_not, reader_writes_not}
use Rattle.thr_pipes.proofs.laws.calls_on_pipes_keep_writers_in_agreement.Goals as goal

pub returns-clause-relieved : goal.returns-clause-relieved
returns-clause-relieved c = relieved_writes_not

pub returns-clause-reader : goal.returns-clause-reader
returns-clause-reader c = reader_writes_not

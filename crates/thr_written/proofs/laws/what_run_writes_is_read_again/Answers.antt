use Rattle.thr_written.proofs.Again.{is_short, is_faultless, is_formed, is_read, refused_never}
use Rattle.thr_written.proofs.laws.what_run_writes_is_read_again.Goals as goal

pub returns-clause-short : goal.returns-clause-short
returns-clause-short c = is_short

pub returns-clause-faultless : goal.returns-clause-faultless
returns-clause-faultless c = is_faultless

pub returns-clause-formed : goal.returns-clause-formed
returns-clause-formed c = is_formed

pub returns-clause-read : goal.returns-clause-read
returns-clause-read c = is_read

pub returns-clause-refused : goal.returns-clause-refused
returns-clause-refused c = λ bytes j f w. refused_never bytes j w f

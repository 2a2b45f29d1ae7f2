use Rattle.thr_reading.proofs.ReadLaws.{read_faultfree, no_faults, read_script}
use Rattle.thr_reading.proofs.OneScript.{one_script}
use Rattle.thr_reading.proofs.laws.texts_are_read_or_refused.Goals as goal

pub returns-clause-one : goal.returns-clause-one
returns-clause-one c = one_script

pub returns-clause-faultless : goal.returns-clause-faultless
returns-clause-faultless c bytes s r = no_faults bytes (read_faultfree bytes s r)

pub returns-clause-read : goal.returns-clause-read
returns-clause-read c = read_script

use Rattle.thr_remainder.proofs.ScopeLaws.{fresh_has, quiet_keeps, shared_keeps, outward_keeps, replied_keeps, once_keeps, destructor_keeps}
use Rattle.thr_remainder.proofs.laws.scopes_rise_inward.Goals as goal

pub returns-clause-fresh : goal.returns-clause-fresh
returns-clause-fresh c = fresh_has

pub returns-clause-quiet : goal.returns-clause-quiet
returns-clause-quiet c = quiet_keeps

pub returns-clause-shared : goal.returns-clause-shared
returns-clause-shared c = shared_keeps

pub returns-clause-outward : goal.returns-clause-outward
returns-clause-outward c = outward_keeps

pub returns-clause-replied : goal.returns-clause-replied
returns-clause-replied c = replied_keeps

pub returns-clause-once : goal.returns-clause-once
returns-clause-once c = once_keeps

pub returns-clause-destructor : goal.returns-clause-destructor
returns-clause-destructor c = destructor_keeps

use Rattle.thr_parts.proofs.PartLaws.{canonical_delay, canonical_undone, canonical_write, canonical_cancel_wait}
use Rattle.thr_parts.proofs.laws.calls_keep_rows_canonical.Goals as goal

pub returns-clause-delay : goal.returns-clause-delay
returns-clause-delay c = canonical_delay

pub returns-clause-undone : goal.returns-clause-undone
returns-clause-undone c = canonical_undone

pub returns-clause-write : goal.returns-clause-write
returns-clause-write c = canonical_write

pub returns-clause-cancel_wait : goal.returns-clause-cancel_wait
returns-clause-cancel_wait c = canonical_cancel_wait

use Rattle.thr_parts.specs.Rows.{thread}
use Rattle.thr_open_onces.proofs.BlockNames.{history_blocks}
use Rattle.thr_open_onces.proofs.laws.open_once_blocks_are_names.Goals as goal

pub returns : goal.returns
returns c = record { halts = λ s n x formed h t. history_blocks formed h (thread t) }

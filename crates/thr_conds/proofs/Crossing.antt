-- Conditions and waits may go to another thread.
use denote.Param.Send.{IsSend, sendable}
use Rattle.std.proofs.Crossing.{crosses}
use Rattle.thr_parts.proofs.wait.Wait.TheSendSync as waits
use Rattle.thr_tables.proofs.slots.Slots.TheSendSync as slots
use Rattle.thr_tables.proofs.numbered.Numbered.TheSendSync as numbered
use Rattle.thr_conds.specs.contracts.conds.Conds as conds

pub conds_send : IsSend (conds.the_field).row
conds_send = search (waits.the_send, slots.the_send, numbered.the_send, crosses, sendable) depth 60 fits 20000

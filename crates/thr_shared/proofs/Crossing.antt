-- The values of shared variables may go to another thread.
use denote.Param.Send.{IsSend, sendable}
use Rattle.std.proofs.Crossing.{crosses}
use Rattle.thr_tables.proofs.slots.Slots.TheSendSync as slots
use Rattle.thr_shared.specs.contracts.shared.SharedVariables as shared

pub shared_send : IsSend (shared.the_field).row
shared_send = search (slots.the_send, crosses, sendable) depth 60 fits 20000

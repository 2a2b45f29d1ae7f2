-- The locks may go to another thread.
use denote.Param.Send.{IsSend, sendable}
use Rattle.std.proofs.Crossing.{crosses}
use Rattle.thr_values.proofs.reply.Kind.TheSendSync as kind
use Rattle.thr_parts.proofs.mutex.Held.TheSendSync as held
use Rattle.thr_parts.proofs.mutex.Mutex.TheSendSync as mutex
use Rattle.thr_tables.proofs.slots.Slots.TheSendSync as slots
use Rattle.thr_locks.specs.contracts.locks.Locks as locks

pub locks_send : IsSend (locks.the_field).row
locks_send = search (kind.the_send, held.the_send, mutex.the_send, slots.the_send, crosses, sendable) depth 60 fits 20000

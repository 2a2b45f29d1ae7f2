-- Records and attribute cells may go to another thread.
use denote.Param.Send.{IsSend, sendable}
use Rattle.std.proofs.Crossing.{crosses}
use Rattle.slab.proofs.Slab.TheSendSync as slab
use Rattle.thr_parts.proofs.thread.Thread.TheSendSync as thread
use Rattle.thr_parts.proofs.thread.Attr.TheSendSync as attr
use Rattle.thr_tables.proofs.numbered.Numbered.TheSendSync as numbered
use Rattle.thr_tables.proofs.slots.Slots.TheSendSync as slots
use Rattle.thr_threads.specs.contracts.records.Records as records
use Rattle.thr_threads.specs.contracts.cells.Cells as cells
use Rattle.thr_threads.specs.contracts.threads.Threads as threads

pub records_send : IsSend records.the_row
records_send = search (thread.the_send, slab.the_send, numbered.the_send, crosses, sendable) depth 60 fits 20000

pub cells_send : IsSend cells.the_row
cells_send = search (attr.the_send, slots.the_send, crosses, sendable) depth 60 fits 20000

pub threads_send : IsSend (threads.the_field).row
threads_send = search (records_send, cells_send, crosses, sendable) depth 60 fits 20000

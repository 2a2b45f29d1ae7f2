-- Pipes may go to another thread.
use denote.Param.Send.{IsSend, sendable}
use Rattle.std.proofs.Crossing.{crosses}
use Rattle.thr_parts.proofs.pipe.Writing.TheSendSync as writing
use Rattle.thr_tables.proofs.slots.Slots.TheSendSync as slots
use Rattle.thr_tables.proofs.numbered.Numbered.TheSendSync as numbered
use Rattle.circular_buffer.proofs.heap.HeapCircularBuffer.TheSendSync as buffer
use Rattle.thr_pipes.specs.contracts.pipe.Pipe as pipe
use Rattle.thr_pipes.specs.contracts.pipes.Pipes as pipes

pub pipe_send : IsSend (pipe.the_field).row
pipe_send = search (buffer.the_send, crosses, sendable) depth 60 fits 20000

pub pipes_send : IsSend (pipes.the_field).row
pipes_send = search (pipe_send, writing.the_send, slots.the_send, numbered.the_send, crosses, sendable) depth 60 fits 20000

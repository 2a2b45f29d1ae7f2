-- The table of stacks may go to another thread.
use denote.Param.Send.{IsSend, sendable}
use Rattle.std.proofs.Crossing.{crosses}
use Rattle.slab.proofs.Slab.TheSendSync as slab
use Rattle.thr_tables.proofs.numbered.Numbered.TheSendSync as numbered
use Rattle.thr_frames.proofs.Crossing.{stack_send}
use Rattle.thr_stacks.specs.contracts.stacks.Stacks as stacks

pub stacks_send : IsSend stacks.the_row
stacks_send = search (stack_send, slab.the_send, numbered.the_send, crosses, sendable) depth 60 fits 20000

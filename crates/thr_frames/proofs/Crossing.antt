-- Stacks may go to another thread.
use denote.Param.Send.{IsSend, sendable}
use Rattle.std.proofs.Crossing.{crosses}
use Rattle.thr_remainder.proofs.unwinding.Unwinding.TheSendSync as unwinding
use Rattle.thr_stack.proofs.frame.Frame.TheSendSync as frame
use Rattle.thr_stack.specs.contracts.frames.Frames as frames
use Rattle.thr_stack.specs.contracts.context.Context as context
use Rattle.thr_frames.specs.contracts.stack.Stack as stack

pub frames_send : IsSend (frames.the_field).row
frames_send = search (frame.the_send, crosses, sendable) depth 60 fits 20000

pub context_send : IsSend (context.the_field).row
context_send = search (frames_send, unwinding.the_send, crosses, sendable) depth 60 fits 20000

pub stack_send : IsSend (stack.the_field).row
stack_send = search (context_send, crosses, sendable) depth 60 fits 20000

-- A book may go to another thread, as each type in it may.
use denote.Param.Send.{IsSend, sendable}
use Rattle.std.proofs.Crossing.{crosses}
use Rattle.thr_values.proofs.event.Stop.TheSendSync as stop
use Rattle.thr_lines.proofs.Crossing.{lines_send}
use Rattle.thr_frames.proofs.Crossing.{stack_send}
use Rattle.thr_stacks.proofs.Crossing.{stacks_send}
use Rattle.thr_turns.proofs.Crossing.{workings_send}
use Rattle.thr_machine.specs.contracts.book.Book as book

pub book_send : IsSend book.the_row
book_send = search (lines_send, workings_send, stacks_send, stack_send, stop.the_send, crosses, sendable) depth 60 fits 20000

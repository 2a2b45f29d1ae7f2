-- The rows may go to another thread.
use denote.Param.Send.{IsSend, sendable}
use Rattle.std.proofs.Crossing.{crosses}
use Rattle.thr_parts.proofs.row.Seat.TheSendSync as seats
use Rattle.thr_tables.proofs.numbered.Numbered.TheSendSync as numbered
use Rattle.thr_rows.specs.contracts.rows.Rows as rows
use Rattle.thr_rows.specs.contracts.seating.Seating as seating
use Rattle.thr_rows.specs.contracts.remembered.Remembered as remembered
use Rattle.thr_rows.specs.contracts.waits.Waits as waits

remembered_send : IsSend (remembered.the_field).row
remembered_send = search (seats.the_send, numbered.the_send, crosses, sendable) depth 60 fits 20000

waits_send : IsSend (waits.the_field).row
waits_send = search (seats.the_send, crosses, sendable) depth 60 fits 20000

seating_send : IsSend (seating.the_field).row
seating_send = search (seats.the_send, remembered_send, waits_send, numbered.the_send, crosses, sendable) depth 60 fits 20000

pub rows_send : IsSend (rows.the_field).row
rows_send = search (seating_send, crosses, sendable) depth 60 fits 20000

-- What a turn works on may go to another thread.
use denote.Param.Send.{IsSend, sendable}
use Rattle.std.proofs.Crossing.{crosses}
use Rattle.thr_values.proofs.number.NameId.TheSendSync as name_id
use Rattle.thr_values.proofs.number.Tid.TheSendSync as tid
use Rattle.thr_values.proofs.history.What.TheSendSync as what
use Rattle.thr_values.proofs.history.Entry.TheSendSync as entry
use Rattle.thr_syntax.proofs.tree.Interface.TheSendSync as interface
use Rattle.thr_stack.specs.contracts.notes.Notes as notes
use Rattle.thr_services.specs.contracts.gifts.Gifts as gifts
use Rattle.thr_services.proofs.Crossing.{services_send}
use Rattle.thr_shared.proofs.Crossing.{shared_send}
use Rattle.thr_turns.specs.contracts.workings.Workings as workings

pub notes_send : IsSend (notes.the_field).row
notes_send = search (what.the_send, crosses, sendable) depth 60 fits 20000

pub gifts_send : IsSend (gifts.the_field).row
gifts_send = search (tid.the_send, name_id.the_send, crosses, sendable) depth 60 fits 20000

pub workings_send : IsSend (workings.the_field).row
workings_send = search (services_send, shared_send, notes_send, gifts_send, entry.the_send, interface.the_field_send, crosses, sendable) depth 60 fits 20000

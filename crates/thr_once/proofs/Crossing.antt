-- Once blocks and keys may go to another thread.
use denote.Param.Send.{IsSend, sendable}
use Rattle.std.proofs.Crossing.{crosses}
use Rattle.std.proofs.option.Option.TheSendSync as option
use Rattle.thr_values.proofs.number.NameId.TheSendSync as name_id
use Rattle.thr_parts.proofs.once.OnceBlock.TheSendSync as block
use Rattle.thr_tables.proofs.slots.Slots.TheSendSync as slots
use Rattle.thr_once.proofs.values.KeyValue.TheSendSync as key_value
use Rattle.thr_once.specs.contracts.keys.Keys as keys
use Rattle.thr_once.specs.contracts.onces.Onces as onces

pub keys_send : IsSend keys.the_row
keys_send = search (name_id.the_send, option.the_field_send, key_value.the_send, slots.the_send, crosses, sendable) depth 60 fits 20000

pub onces_send : IsSend (onces.the_field).row
onces_send = search (block.the_send, slots.the_send, keys_send, crosses, sendable) depth 60 fits 20000

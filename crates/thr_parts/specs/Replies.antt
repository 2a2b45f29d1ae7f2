-- Replies of several calls (docs/journal.md, "Replies").
use Rattle.std.specs.Prelude.{Bool, true, false}
use Rattle.thr_values.specs.declared.reply.Reply.{Reply}
use Rattle.thr_values.specs.declared.reply.Reply.TheVariants as reply

-- The reply is `ok`.
abbrev pub is_done : Reply → Bool
is_done reply.Done = true
is_done _ = false

-- The reply is a number.
abbrev pub is_value : Reply → Bool
is_value (reply.Value n) = true
is_value _ = false

-- The reply is `blocks`: the caller waits.
abbrev pub is_blocks : Reply → Bool
is_blocks reply.Blocks = true
is_blocks _ = false

-- The reply of a call that makes an object, which may be made already (docs/machine.md, "Made and not made").
abbrev pub making_reply : Bool → Reply
making_reply true = reply.Ebusy
making_reply false = reply.Done

-- The reply of a call on an object that has to be made (docs/machine.md, "Made and not made").
abbrev pub made_reply : Bool → Reply
made_reply true = reply.Done
made_reply false = reply.Einval

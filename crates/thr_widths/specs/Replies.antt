-- Which calls reply numbers (docs/journal.md, "Widths").
use Rattle.std.specs.Prelude.{Bool, true, false}
use Rattle.std.specs.List.{list_any}
use Rattle.thr_values.specs.declared.call.CallWord.{CallWord}
use Rattle.thr_values.specs.declared.reply.Reply.{Reply}
use Rattle.thr_values.specs.declared.reply.Reply.TheVariants as reply
use Rattle.thr_values.specs.declared.history.What.{What}
use Rattle.thr_values.specs.declared.history.What.TheVariants as what
use Rattle.thr_values.specs.declared.history.Entry.{Entry}
use Rattle.thr_text.specs.declared.head.Slot.{Slot}
use Rattle.thr_text.specs.declared.head.Slot.TheVariants.{Variable}
use Rattle.thr_text.specs.Slots.{call_slots}

-- The place is that of a variable, which takes the reply's value (docs/journal.md, "Widths").
abbrev pub is_variable : Slot → Bool
is_variable Variable = true
is_variable _ = false

-- The call has a variable that takes the reply's value (docs/journal.md, "Widths").
abbrev pub takes_a_value : CallWord → Bool
takes_a_value c = list_any is_variable (call_slots c)

-- The call may have this reply: a number only where it has a variable for it (docs/journal.md, "Widths").
abbrev pub may_reply : CallWord → Reply → Bool
may_reply c (reply.Value n) = takes_a_value c
may_reply c _ = true

-- It is no call, or one with a reply that the call may have (docs/journal.md, "Widths").
abbrev pub replies_so : What → Bool
replies_so (what.Call c args r) = may_reply c r
replies_so _ = true

-- The same of a line of a history (docs/journal.md, "Widths").
abbrev pub has_its_reply : Entry → Bool
has_its_reply e = replies_so e.what

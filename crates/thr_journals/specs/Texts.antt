-- The words of replies (docs/journal.md, "Replies").
use Rattle.std.specs.Prelude.{ℕ, List, []}
use Rattle.thr_values.specs.declared.reply.Reply.{Reply}
use Rattle.thr_values.specs.declared.reply.Reply.TheVariants as reply
use Rattle.thr_text.specs.Journals.{reply_word}

-- The word of a reply, and nothing for a number.
abbrev pub fixed_reply_word : Reply → List ℕ
fixed_reply_word (reply.Value n) = []
fixed_reply_word r = reply_word r

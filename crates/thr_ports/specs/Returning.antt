-- Cancels of a thread that waits, where the wait ends by a return (docs/laws.md, "What a port can rely on").
use Rattle.std.specs.Prelude.{ℕ, Bool, true, false, List, [], ◌∷◌, Option, Some, None}
use Rattle.std.specs.List.{list_all}
use Rattle.thr_values.specs.declared.history.What.{What}
use Rattle.thr_values.specs.declared.history.Entry.{Entry}
use Rattle.thr_values.specs.declared.reply.Effect.TheVariants as effect
use Rattle.thr_values.specs.declared.reply.Reply.{Reply}
use Rattle.thr_values.specs.declared.reply.Reply.TheVariants as reply
use Rattle.thr_laws.specs.Lines.{fits, implies, own_line, is_return, is_some_line}
use Rattle.thr_laws.specs.Known.{Known, known_at_first, cancel_of, known_after}

-- These replies and one more in front, if one is there.
abbrev pub with_reply : Option Reply → List Reply → List Reply
with_reply None replies = replies
with_reply (Some r) replies = r ∷ replies

-- The replies of the cancels of a thread since its last line, gifts aside, after a line in which it does this or nothing, and which
-- cancels it so (docs/laws.md, "What a port can rely on").
abbrev pub replies_after : (own : Option What) → (cancel : Option Reply) → List Reply → List Reply
replies_after None cancel replies = with_reply cancel replies
replies_after (Some w) cancel replies = []

-- What is known of a thread, and the replies of the cancels of it since its last line, gifts aside.
pub record Cancelled : Type 0 where
  pub known : Known
  pub replies : List Reply

-- Before the first line there is none.
abbrev pub cancelled_at_first : Cancelled
cancelled_at_first = record { known = known_at_first; replies = [] }

-- What is known after a line (docs/laws.md, "What a port can rely on").
abbrev pub cancelled_after : ℕ → Cancelled → Entry → Cancelled
cancelled_after t c e = record { known = known_after t c.known e; replies = replies_after (own_line t e) (cancel_of t e.what) c.replies }

-- The cancel with this reply didn't wake the thread; where it is pending, or merged with one that is, a cancel is outstanding still
-- (docs/laws.md, "What a port can rely on").
abbrev pub is_left : Known → Reply → Bool
is_left k (reply.Effect effect.Pending) = k.outstanding
is_left k (reply.Effect effect.Merged) = k.outstanding
is_left k (reply.Effect effect.Wakes) = false
is_left k _ = true

-- Where the thread's line is a return, each cancel since its call is left so.
abbrev pub leaves_cancels : Cancelled → (own : Option What) → Bool
leaves_cancels c own = implies (is_some_line is_return own) (list_all (is_left c.known) c.replies)

-- Cancels of a thread that waits stay pending over the return of its call (docs/laws.md, "What a port can rely on").
abbrev pub returns_leave_cancels : ℕ → List Entry → Bool
returns_leave_cancels t entries = fits (cancelled_after t) (λ c e. leaves_cancels c (own_line t e)) cancelled_at_first entries

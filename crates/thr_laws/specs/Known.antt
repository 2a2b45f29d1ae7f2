-- What the lines tell of a thread before each line: its cancels, its cancelabilities, and its last line (docs/laws.md, "Cancels").
use Rattle.std.specs.Prelude.{ℕ, ◌==◌, pos, Bool, true, false, not, ◌&&◌, ◌||◌, is_none, List, ◌∷◌, Option, Some, None}
use Rattle.std.specs.List.{fold}
use Rattle.std.specs.Option.{option_or}
use Rattle.std.specs.Ordering.{int_eq}
use Rattle.thr_values.specs.declared.call.Arg.{Arg}
use Rattle.thr_values.specs.declared.call.Arg.TheVariants as arg
use Rattle.thr_values.specs.declared.call.CallWord.{CallWord}
use Rattle.thr_values.specs.declared.call.CallWord.TheVariants as word
use Rattle.thr_values.specs.declared.history.What.{What}
use Rattle.thr_values.specs.declared.history.What.TheVariants as what
use Rattle.thr_values.specs.declared.history.Entry.{Entry}
use Rattle.thr_values.specs.declared.reply.Effect.TheVariants as effect
use Rattle.thr_values.specs.declared.reply.Reply.{Reply}
use Rattle.thr_values.specs.declared.reply.Reply.TheVariants as reply
use Rattle.thr_laws.specs.Lines.{own_line, is_delivery, is_end, is_some_line}

-- ---- cancels of a thread

-- The reply, where it is that of a cancel of this thread (docs/laws.md, "Cancels").
abbrev pub reply_if : Bool → Reply → Option Reply
reply_if true r = Some r
reply_if false r = None

-- The reply of a call, where that is a cancel of this thread (docs/laws.md, "Cancels").
abbrev pub cancel_by : ℕ → CallWord → List Arg → Reply → Option Reply
cancel_by t word.Cancel (arg.Num n ∷ args) r = reply_if (int_eq n (pos t)) r
cancel_by t _ args r = None

-- The reply of a cancel of this thread, where the line is one, whoever cancels (docs/laws.md, "Cancels").
abbrev pub cancel_of : ℕ → What → Option Reply
cancel_of t (what.Call call args r) = cancel_by t call args r
cancel_of t _ = None

-- The cancel waits for its delivery: its reply is `pending` or `wakes`.
abbrev pub is_to_deliver : Option Reply → Bool
is_to_deliver (Some (reply.Effect effect.Pending)) = true
is_to_deliver (Some (reply.Effect effect.Wakes)) = true
is_to_deliver _ = false

-- The cancel woke the thread: its reply is `wakes` (docs/laws.md, "Cancels").
abbrev pub is_wakes : Option Reply → Bool
is_wakes (Some (reply.Effect effect.Wakes)) = true
is_wakes _ = false

-- ---- cancelabilities

-- CANCEL_ON, the first of the two words.
abbrev pub is_on : ℕ → Bool
is_on place = place == 0

-- General cancelability after this call of the thread, which sets it or leaves it (docs/laws.md, "Cancels").
abbrev pub general_by : CallWord → List Arg → Bool → Bool
general_by word.Setcancel (arg.Word place ∷ args) before = is_on place
general_by _ args before = before

-- Asynchronous cancelability after this call of the thread, which sets it or leaves it (docs/laws.md, "Cancels").
abbrev pub asynchronous_by : CallWord → List Arg → Bool → Bool
asynchronous_by word.Setasynccancel (arg.Word place ∷ args) before = is_on place
asynchronous_by _ args before = before

-- General cancelability after a line of the thread, where there is one (docs/laws.md, "Cancels").
abbrev pub general_after : Option What → Bool → Bool
general_after (Some (what.Call call args r)) before = general_by call args before
general_after _ before = before

-- Asynchronous cancelability after it.
abbrev pub asynchronous_after : Option What → Bool → Bool
asynchronous_after (Some (what.Call call args r)) before = asynchronous_by call args before
asynchronous_after _ before = before

-- ---- along the lines

-- What is known of a thread: a cancel of it is outstanding; its general and its asynchronous cancelability are on; it has an `end`
-- line; its last line and the one before that, gifts aside; a cancel woke it after its last line (docs/laws.md, "Cancels").
pub record Known : Type 0 where
  pub outstanding : Bool
  pub general : Bool
  pub asynchronous : Bool
  pub ended : Bool
  pub last : Option What
  pub earlier : Option What
  pub woken : Bool

-- Before the first line general cancelability is on and asynchronous cancelability is off.
abbrev pub known_at_first : Known
known_at_first = record { outstanding = false; general = true; asynchronous = false; ended = false; last = None; earlier = None; woken = false }

-- The thread's line before its last one, after a line in which it does this or nothing.
abbrev pub earlier_after : Known → (own : Option What) → Option What
earlier_after k None = k.earlier
earlier_after k (Some w) = k.last

-- What is known after a line, by what the thread itself does in it, and by a cancel of the thread that it is.
abbrev pub known_with : Known → (own : Option What) → (cancel : Option Reply) → Known
known_with k own cancel = record {
  outstanding = is_to_deliver cancel || (k.outstanding && not (is_some_line is_delivery own));
  general = general_after own k.general;
  asynchronous = asynchronous_after own k.asynchronous;
  ended = k.ended || is_some_line is_end own;
  last = option_or own k.last;
  earlier = earlier_after k own;
  woken = is_wakes cancel || (k.woken && is_none own);
}

-- What is known of a thread after a line (docs/laws.md, "Cancels").
abbrev pub known_after : ℕ → Known → Entry → Known
known_after t k e = known_with k (own_line t e) (cancel_of t e.what)

-- What is known of a thread after these lines.
abbrev pub known : ℕ → List Entry → Known
known t entries = fold (known_after t) known_at_first entries

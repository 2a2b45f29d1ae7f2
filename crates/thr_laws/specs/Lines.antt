-- The lines of a history as the laws read them (docs/laws.md, "How the laws read lines").
use Rattle.std.specs.Prelude.{ℕ, ◌==◌, Bool, true, false, ◌&&◌, List, [], ◌∷◌, Option, Some, None}
use Rattle.thr_values.specs.declared.history.Who.{Who}
use Rattle.thr_values.specs.declared.history.Who.TheVariants as who
use Rattle.thr_values.specs.declared.history.What.{What}
use Rattle.thr_values.specs.declared.history.What.TheVariants as what
use Rattle.thr_values.specs.declared.history.Entry.{Entry}
use Rattle.thr_values.specs.declared.reply.Reply.{Reply}
use Rattle.thr_values.specs.declared.reply.Reply.TheVariants as reply

-- ---- truth values

-- Where the first holds, so does the second.
abbrev pub implies : Bool → Bool → Bool
implies true b = b
implies false b = true

-- ---- lines of a thread

-- The line is one of this thread.
abbrev pub is_by : ℕ → Who → Bool
is_by t (who.Thread u) = u.0 == t
is_by t (who.Proc p) = false
is_by t who.Clock = false

-- These lines with one more in front, where it is of the thread (docs/laws.md, "How the laws read lines").
abbrev pub with_line : Bool → What → List What → List What
with_line true w ws = w ∷ ws
with_line false w ws = ws

-- What the lines of a thread say, in their order (docs/laws.md, "How the laws read lines").
abbrev pub lines_of_thread : ℕ → List Entry → List What
lines_of_thread t [] = []
lines_of_thread t (e ∷ es) = with_line (is_by t e.who) e.what (lines_of_thread t es)

-- What the line says, where it is one of this thread and no gift.
abbrev pub line_but_gift : Bool → What → Option What
line_but_gift false w = None
line_but_gift true (what.Gift m) = None
line_but_gift true w = Some w

-- The same of a line of a history: what this thread does by it, if anything (docs/laws.md, "How the laws read lines").
abbrev pub own_line : ℕ → Entry → Option What
own_line t e = line_but_gift (is_by t e.who) e.what

-- ---- reading from the first line to the last

-- Each line passes the test by what is known before it.
abbrev pub fits : {A B : Type 0} → (next : A → B → A) → (test : A → B → Bool) → A → List B → Bool
fits next test known [] = true
fits next test known (line ∷ lines) = test known line && fits next test (next known line) lines

-- ---- kinds of lines

-- The reply is `blocks` (docs/journal.md, "Replies").
abbrev pub is_blocks : Reply → Bool
is_blocks reply.Blocks = true
is_blocks _ = false

-- A call that waits: its line ends `= blocks`.
abbrev pub is_waiting_call : What → Bool
is_waiting_call (what.Call word args r) = is_blocks r
is_waiting_call _ = false

-- The return of a call that waited (docs/journal.md, "The lines").
abbrev pub is_return : What → Bool
is_return (what.Ret r) = true
is_return _ = false

-- A cancel is delivered (docs/journal.md, "The lines").
abbrev pub is_delivery : What → Bool
is_delivery (what.Deliver n line) = true
is_delivery _ = false

-- The thread ends (docs/journal.md, "The lines").
abbrev pub is_end : What → Bool
is_end (what.End v) = true
is_end _ = false

-- There is such a line, and it passes this test.
abbrev pub is_some_line : (What → Bool) → Option What → Bool
is_some_line test None = false
is_some_line test (Some w) = test w

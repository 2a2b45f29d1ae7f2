-- Each event makes a line, so that what rises by one at most at each event stays below the lines.
use Rattle.std.proofs.Common.{◌≡◌, ℕ, ◌+◌, ◌<◌, ◌≤◌, List, [], ◌∷◌, ◌++◌, length, Some, arith, length-append}
use Rattle.thr_values.specs.declared.event.Event.{Event}
use Rattle.thr_values.specs.declared.event.Event.TheVariants as event
use Rattle.thr_values.specs.declared.history.Entry.{Entry}
use Rattle.thr_values.specs.declared.history.Who.{Who}
use Rattle.thr_values.specs.declared.history.Who.TheVariants as who
use Rattle.thr_syntax.specs.declared.tree.Script.{Script}
use Rattle.thr_parts.specs.Rows.{Rows}
use Rattle.thr_model.specs.States.{State}
use Rattle.thr_model.specs.Turns.{Made}
use Rattle.thr_model.specs.Events.{made_by}
use Rattle.thr_model.proofs.FirstLines.{IsOf, Names, made_names}

of_line : (w : Who) (lines : List Entry) → IsOf w lines → 0 < length lines
of_line w [] h = absurd h
of_line w (e ∷ es) h = omega arith

named_line : (rs : Rows) (e : Event) (lines : List Entry) → Names rs e lines → 0 < length lines
named_line rs (event.Dispatch p) lines h = of_line (who.Proc p) lines h
named_line rs (event.Turn p) lines h = of_line (who.Thread h.0) lines h.2
named_line rs event.Clock lines h = of_line who.Clock lines h

pub made_line : (s : Script) (n : ℕ) (st : State) (e : Event) (made : Made) → made_by s n st e ≡ Some made → 0 < length made.lines
made_line s n st e made m = named_line st.rows e made.lines (made_names s n st e made m)

-- What is one more at most after more lines.
pub rises : (base before after : ℕ) (xs ys : List Entry) → 0 < length ys → before ≤ base + length xs → after ≤ before + 1 → after ≤ base + length (xs ++ ys)
rises base before after xs ys some low one = omega (arith, some, low, one, length-append xs ys)

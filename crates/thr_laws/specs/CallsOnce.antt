-- Each call that waits is answered once (docs/laws.md, "Calls").
use Rattle.std.specs.Prelude.{◌≡◌, ℕ, zero, suc, ◌==◌, Bool, true, false, not, ◌&&◌, ◌||◌, slice_get, nat_eq, List, [], ◌∷◌, Option, Some, None}
use Rattle.std.specs.Cmp.Lexicographic.{pointwise}
use Rattle.thr_values.specs.declared.call.Arg.{Arg}
use Rattle.thr_values.specs.declared.call.Arg.TheVariants as arg
use Rattle.thr_values.specs.declared.call.CallWord.{CallWord}
use Rattle.thr_values.specs.declared.event.Stop.{Stop}
use Rattle.thr_values.specs.declared.event.Stop.TheVariants as stops
use Rattle.thr_values.specs.declared.history.What.{What}
use Rattle.thr_values.specs.declared.history.What.TheVariants as what
use Rattle.thr_values.specs.declared.history.Entry.{Entry}
use Rattle.thr_values.specs.Words.{call_word}
use Rattle.thr_syntax.specs.declared.form.Form.{Form}
use Rattle.thr_syntax.specs.declared.form.Form.TheVariants as form
use Rattle.thr_syntax.specs.declared.tree.Script.{Script}
use Rattle.thr_syntax.specs.Lines.{lines_of}
use Rattle.thr_remainder.specs.Calls.{Part, Name, Value, Word, Shape, shape_of}
use Rattle.thr_laws.specs.Lines.{implies, is_waiting_call, is_return, is_delivery, is_some_line}
use Rattle.thr_laws.specs.Known.{Known, known}
use Rattle.thr_laws.specs.CancelLaw.{each_own_line}

-- ---- the statement of a delivery

-- The argument of a call's line is that of its statement: the name or the fixed word, or any number for an expression.
abbrev pub is_argument : Part → Arg → Bool
is_argument (Name name) (arg.Name other) = name.0 == other.0
is_argument (Word place) (arg.Word other) = place == other
is_argument (Value e) (arg.Num n) = true
is_argument _ _ = false

-- No argument stands there (docs/journal.md, "Calls").
abbrev pub is_absent : Arg → Bool
is_absent arg.Nothing = true
is_absent _ = false

-- The arguments are those of the statement, and no others stand there.
abbrev pub are_arguments : List Part → List Arg → Bool
are_arguments [] [] = true
are_arguments [] (a ∷ args) = is_absent a && are_arguments [] args
are_arguments (p ∷ parts) [] = false
are_arguments (p ∷ parts) (a ∷ args) = is_argument p a && are_arguments parts args

-- The two calls have the same word.
abbrev pub is_same_word : CallWord → CallWord → Bool
is_same_word a b = pointwise nat_eq (call_word a) (call_word b)

-- The call's line has the word, the names and the fixed words of the statement.
abbrev pub is_of_shape : Shape → What → Bool
is_of_shape sh (what.Call call args r) = is_same_word sh.word call && are_arguments sh.parts args
is_of_shape sh _ = false

-- The call's line is one of the statement that is there, if one is there and is a call (docs/laws.md, "Calls").
abbrev pub is_of_form : Option Form → What → Bool
is_of_form (Some (form.Dce call)) w = is_of_shape (shape_of call) w
is_of_form _ w = false

-- What stands at this line of the script, from 1.
abbrev pub form_at : Script → ℕ → Option Form
form_at s zero = None
form_at s (suc n) = slice_get (lines_of s) n

-- The call's line is one of the statement at this line of the script (docs/laws.md, "Calls").
abbrev pub is_of_line : Script → ℕ → What → Bool
is_of_line s line w = is_of_form (form_at s line) w

-- ---- the tests of a line

-- The thread's last line, gifts aside, is a call that waits.
abbrev pub waits : Known → Bool
waits k = is_some_line is_waiting_call k.last

-- After a call that waits the thread's next line, gifts aside, is a return or a delivery (docs/laws.md, "Calls").
abbrev pub is_answered : Known → Option What → Bool
is_answered k None = true
is_answered k (Some w) = implies (waits k) (is_return w || is_delivery w)

-- A return comes only after a call that waits (docs/laws.md, "Calls").
abbrev pub answers_a_call : Known → Option What → Bool
answers_a_call k own = implies (is_some_line is_return own) (waits k)

-- A delivery after a call that waits has the line of a statement of that call (docs/laws.md, "Calls").
abbrev pub names_its_statement : Script → Known → Option What → Bool
names_its_statement s k (Some (what.Deliver n line)) = implies (waits k) (is_some_line (is_of_line s line.0) k.last)
names_its_statement s k _ = true

-- A delivery after a call that waits comes after a cancel that woke the thread from it (docs/laws.md, "Calls").
abbrev pub is_woken_from_it : Known → Option What → Bool
is_woken_from_it k own = implies (is_some_line is_delivery own && waits k) k.woken

-- ---- the end of a history

-- Where the history finishes, the thread's last call that waits was answered (docs/laws.md, "Calls").
abbrev pub ends_answered : Stop → ℕ → List Entry → Bool
ends_answered stops.Finished t entries = not (waits (known t entries))
ends_answered _ t entries = true

-- ---- the law

-- Each call that waits is answered once (docs/laws.md, "Calls").
pub record CallsOnce (s : Script) (entries : List Entry) (stop : Stop) : Type 0 where
  pub answered : (t : ℕ) → each_own_line is_answered t entries ≡ true
  pub returns : (t : ℕ) → each_own_line answers_a_call t entries ≡ true
  pub statements : (t : ℕ) → each_own_line (names_its_statement s) t entries ≡ true
  pub woken : (t : ℕ) → each_own_line is_woken_from_it t entries ≡ true
  pub finished : (t : ℕ) → ends_answered stop t entries ≡ true

-- The lines of a history, read back from their words (docs/journal.md, "The lines").
use Rattle.std.specs.Prelude.{ℕ, ◌+◌, ◌-◌, ◌==◌, Bool, true, false, if◌then◌else◌, List, [], ◌∷◌, ◌++◌, length, replicate, codes, position, Option, Some, None}
use Rattle.std.specs.List.{filter, find, slice_split}
use Rattle.std.specs.Option.{option_map, option_and_then, option_or}
use Rattle.std.specs.Str.{bytes_eq}
use Rattle.thr_values.specs.declared.number.Tid.{Tid}
use Rattle.thr_values.specs.declared.call.CallWord.{CallWord}
use Rattle.thr_values.specs.declared.call.Arg.{Arg}
use Rattle.thr_values.specs.declared.call.Arg.TheVariants as arg
use Rattle.thr_values.specs.declared.history.Who.{Who}
use Rattle.thr_values.specs.declared.history.Who.TheVariants as who
use Rattle.thr_values.specs.declared.history.What.{What}
use Rattle.thr_values.specs.declared.history.What.TheVariants as what
use Rattle.thr_values.specs.declared.history.Entry.{Entry}
use Rattle.thr_values.specs.declared.event.Stop.{Stop}
use Rattle.thr_values.specs.declared.event.Stop.TheVariants as stops
use Rattle.thr_text.specs.declared.head.Head.{Head}
use Rattle.thr_text.specs.declared.head.Head.TheVariants as head
use Rattle.thr_text.specs.declared.head.Slot.{Slot}
use Rattle.thr_text.specs.declared.head.Slot.TheVariants.{Fixed, Object, ObjectOr, Variable, Expression}
use Rattle.thr_text.specs.declared.object.Object.TheVariants as object
use Rattle.thr_text.specs.Heads.{head_of}
use Rattle.thr_text.specs.Slots.{call_slots, choice_words, absent_word}
use Rattle.thr_journals.specs.declared.word.LineWord.{LineWord}
use Rattle.thr_journals.specs.declared.word.LineWord.TheVariants as word
use Rattle.thr_journals.specs.Numbers.{is_shortest, short_in, value_in}
use Rattle.thr_journals.specs.Fields.{Field, Names, both, alone, word_as, thread_in, who_in, name_in, gift_in, exception, reply_in, equals_reply, count, value, place, thread, name}

-- ---- words

abbrev pub is_space : ℕ → Bool
is_space b = b == 32

-- The words of a line: what stands between its blanks. Where a blank is too many one of them is empty.
abbrev pub line_words : List ℕ → List (List ℕ)
line_words text = slice_split is_space text

-- The first word of what a line of a thread says, calls apart (docs/journal.md, "The lines").
unfoldable pub line_word : LineWord → List ℕ
line_word word.Ret = codes "ret"
line_word word.Gift = codes "gift"
line_word word.Say = codes "say"
line_word word.Set = codes "set"
line_word word.If = codes "if"
line_word word.While = codes "while"
line_word word.Call = codes "call"
line_word word.Return = codes "return"
line_word word.Raise = codes "raise"
line_word word.Reraise = codes "reraise"
line_word word.Deliver = codes "deliver"
line_word word.Exit = codes "exit"
line_word word.Try = codes "try"
line_word word.Endtry = codes "endtry"
line_word word.Catch = codes "catch"
line_word word.Endcatch = codes "endcatch"
line_word word.Finally = codes "finally"
line_word word.Endfin = codes "endfin"
line_word word.Once = codes "once"
line_word word.Done = codes "done"
line_word word.Undone = codes "undone"
line_word word.Destroy = codes "destroy"
line_word word.Enddes = codes "enddes"
line_word word.Lost = codes "lost"
line_word word.Bottom = codes "bottom"
line_word word.Pause = codes "pause"
line_word word.End = codes "end"

abbrev pub all_words : List LineWord
all_words =
    word.Ret ∷ word.Gift ∷ word.Say ∷ word.Set ∷ word.If ∷ word.While ∷ word.Call ∷ word.Return ∷ word.Raise ∷ word.Reraise ∷ word.Deliver ∷ word.Exit ∷ word.Try
    ∷ word.Endtry ∷ word.Catch ∷ word.Endcatch ∷ word.Finally ∷ word.Endfin ∷ word.Once ∷ word.Done ∷ word.Undone ∷ word.Destroy ∷ word.Enddes ∷ word.Lost ∷ word.Bottom
    ∷ word.Pause ∷ word.End ∷ []

-- The word that is written so.
abbrev pub word_in : List ℕ → Option LineWord
word_in text = find (λ w. bytes_eq text (line_word w)) all_words

-- ---- calls

abbrev pub call_of_head : Option Head → Option CallWord
call_of_head (Some (head.Dce c)) = Some c
call_of_head _ = None

-- The call with this word (docs/journal.md, "Calls").
abbrev pub call_in : List ℕ → Option CallWord
call_in text = call_of_head (head_of text)

-- A fixed word by its place among these.
abbrev pub fixed_in : List (List ℕ) → List ℕ → Option Arg
fixed_in words text = option_map arg.Word (position (bytes_eq text) words)

-- An argument as its place asks for it (docs/journal.md, "Formed journals").
abbrev pub argument_in : Names → Slot → List ℕ → Option Arg
argument_in names (Object kind) text = option_map arg.Name (name_in names kind text)
argument_in names (ObjectOr kind) text = if bytes_eq text (absent_word kind) then Some (arg.Word 0) else option_map arg.Name (name_in names kind text)
argument_in names (Fixed choice) text = fixed_in (choice_words choice) text
argument_in names Expression text = option_map arg.Num (value_in text)
argument_in names _ text = None

-- The arguments at these places.
unfoldable pub arguments : Names → List Slot → Field (List Arg)
arguments names [] ws = Some ([], ws)
arguments names (p ∷ places) ws =
    option_and_then (λ x. option_map (λ y. (x.0 ∷ y.0, y.1)) (arguments names places x.1)) (word_as (argument_in names p) ws)

abbrev pub takes_argument : Slot → Bool
takes_argument Variable = false
takes_argument _ = true

-- The places of a call's line: those of the call in a script, without its variables (docs/journal.md, "Calls").
abbrev pub call_places : CallWord → List Slot
call_places c = filter takes_argument (call_slots c)

-- Four arguments, of which nothing stands at the last places.
abbrev pub four : List Arg → List Arg
four args = args ++ replicate (4 - length args) arg.Nothing

-- ---- what a line says

-- What a thread says with this word (docs/journal.md, "The lines").
unfoldable pub said_by : Names → LineWord → List (List ℕ) → Option What
said_by names word.Ret ws = option_map what.Ret (alone equals_reply ws)
said_by names word.Gift ws = option_map what.Gift (alone (word_as (gift_in names)) ws)
said_by names word.Say ws = option_map what.Say (alone value ws)
said_by names word.Set ws = option_map (λ x. what.Set x.0 x.1) (alone (both place value) ws)
said_by names word.If ws = option_map (λ x. what.If x.0 x.1) (alone (both place value) ws)
said_by names word.While ws = option_map (λ x. what.While x.0 x.1) (alone (both place value) ws)
said_by names word.Call ws = option_map (λ x. what.CallAt x.0 x.1) (alone (both place value) ws)
said_by names word.Return ws = option_map (λ x. what.Return x.0 x.1) (alone (both place value) ws)
said_by names word.Raise ws = option_map (λ x. what.Raise x.0 x.1) (alone (both count (exception names)) ws)
said_by names word.Reraise ws = option_map (λ x. what.Reraise x.0 x.1) (alone (both count (exception names)) ws)
said_by names word.Deliver ws = option_map (λ x. what.Deliver x.0 x.1) (alone (both count place) ws)
said_by names word.Exit ws = option_map (λ x. what.Exit x.0 x.1) (alone (both count value) ws)
said_by names word.Try ws = option_map (λ x. what.Try x.0 x.1) (alone (both count place) ws)
said_by names word.Endtry ws = option_map what.Endtry (alone count ws)
said_by names word.Catch ws = option_map (λ x. what.Catch x.0 x.1.0 x.1.1) (alone (both count (both count place)) ws)
said_by names word.Endcatch ws = option_map what.Endcatch (alone count ws)
said_by names word.Finally ws = option_map (λ x. what.Finally x.0 x.1) (alone (both count count) ws)
said_by names word.Endfin ws = option_map what.Endfin (alone count ws)
said_by names word.Once ws = option_map (λ x. what.Once x.0 x.1) (alone (both count (name names object.Once)) ws)
said_by names word.Done ws = option_map what.Done (alone count ws)
said_by names word.Undone ws = option_map (λ x. what.Undone x.0 x.1) (alone (both count count) ws)
said_by names word.Destroy ws = option_map (λ x. what.Destroy x.0 x.1.0 x.1.1) (alone (both count (both (name names object.Key) value)) ws)
said_by names word.Enddes ws = option_map what.Enddes (alone count ws)
said_by names word.Lost ws = option_map (λ x. what.Lost x.0 x.1) (alone (both count count) ws)
said_by names word.Bottom ws = option_map (λ x. what.Bottom x.0 x.1) (alone (both count value) ws)
said_by names word.Pause ws = if length ws == 0 then Some what.Pause else None
said_by names word.End ws = option_map what.End (alone value ws)

-- A call with its arguments and its reply (docs/journal.md, "Calls").
abbrev pub called : Names → CallWord → List (List ℕ) → Option What
called names c ws = option_map (λ x. what.Call c (four x.0) x.1) (alone (both (arguments names (call_places c)) equals_reply) ws)

-- What a thread says with a word that is one of these.
abbrev pub said_with : Names → Option LineWord → Option CallWord → List (List ℕ) → Option What
said_with names (Some w) c ws = said_by names w ws
said_with names None (Some c) ws = called names c ws
said_with names None None ws = None

-- What a thread says.
abbrev pub said : Names → List (List ℕ) → Option What
said names [] = None
said names (w ∷ ws) = said_with names (word_in w) (call_in w) ws

-- A dispatch.
abbrev pub dispatched : List (List ℕ) → Option What
dispatched [] = None
dispatched (w ∷ ws) = if bytes_eq w (codes "run") then option_map what.Run (alone thread ws) else None

-- What a line of a processor, of the clock or of a thread says (docs/journal.md, "Formed journals").
abbrev pub said_of : Names → Who → List (List ℕ) → Option What
said_of names (who.Proc p) ws = dispatched ws
said_of names who.Clock ws = option_map what.Clock (alone value ws)
said_of names (who.Thread t) ws = said names ws

-- A line without its number, of this one.
abbrev pub entry_of : Names → Option Who → List (List ℕ) → Option Entry
entry_of names None ws = None
entry_of names (Some w) ws = option_map (λ x. record { who = w; what = x }) (said_of names w ws)

-- A line without its number.
abbrev pub entry : Names → List (List ℕ) → Option Entry
entry names [] = None
entry names (w ∷ ws) = entry_of names (who_in w) ws

-- ---- the stop line

-- How many threads have not ended, and the least of them.
abbrev pub deadlock : List (List ℕ) → Option Stop
deadlock ws = option_map (λ x. stops.Deadlock x.0 x.1) (alone (both (word_as short_in) thread) ws)

-- Why the history ends (docs/journal.md, "The stop line").
abbrev pub stop : List (List ℕ) → Option Stop
stop [] = None
stop (w ∷ ws) =
    if bytes_eq w (codes "deadlock") then deadlock ws
    else (if length ws == 0 then bare_stop w else None)
  where
    bare_stop : List ℕ → Option Stop
    bare_stop w =
        if bytes_eq w (codes "finished") then Some stops.Finished
        else (if bytes_eq w (codes "limit") then Some stops.Limit
        else (if bytes_eq w (codes "memory") then Some stops.Memory else None))

-- ---- a line below `history`

-- A line of the history with the text of its number, or the stop line.
pub data Below : Type 0 where
  Told : (number : List ℕ) → (entry : Entry) → Below
  Stopped : (stop : Stop) → Below

abbrev pub told : List ℕ → Option Entry → Option Below
told number e = if is_shortest number then option_map (Told number) e else None

-- What a line below `history` is, without its LF, in a journal whose script has these names (docs/journal.md, "Faults of a
-- journal").
unfoldable pub below : Names → List ℕ → Option Below
below names text = of_words (line_words text)
  where
    of_words : List (List ℕ) → Option Below
    of_words [] = None
    of_words (w ∷ ws) = if bytes_eq w (codes "stop") then option_map Stopped (stop ws) else told w (entry names ws)

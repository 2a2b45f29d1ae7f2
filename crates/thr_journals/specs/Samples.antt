-- Names, lines and journals for the worked cases.
use Prim.Native.String.{String}
use Rattle.std.specs.Prelude.{◌≡◌, ℕ, ◌+◌, ℤ, pos, negsuc, List, [], ◌∷◌, ◌++◌, map, take, drop, codes, Option, None, Some}
use Rattle.std.specs.List.{join_with_byte, flat_map}
use Rattle.std.specs.Fmt.{decimal}
use Rattle.std.specs.Map.{keys_of}
use Rattle.thr_values.specs.declared.number.NameId.{NameId}
use Rattle.thr_values.specs.declared.number.Tid.{Tid}
use Rattle.thr_values.specs.declared.number.Line.{Line}
use Rattle.thr_values.specs.declared.call.CallWord.{CallWord}
use Rattle.thr_values.specs.declared.call.Arg.{Arg}
use Rattle.thr_values.specs.declared.reply.Reply.{Reply}
use Rattle.thr_values.specs.declared.reply.Reply.TheVariants as reply
use Rattle.thr_values.specs.declared.history.Who.{Who}
use Rattle.thr_values.specs.declared.history.Who.TheVariants as who
use Rattle.thr_values.specs.declared.history.What.{What}
use Rattle.thr_values.specs.declared.history.What.TheVariants as what
use Rattle.thr_values.specs.declared.history.Entry.{Entry}
use Rattle.thr_text.specs.Faults.{first_of}
use Rattle.thr_text.specs.Journals.{who_word, what_words}
use Rattle.thr_journals.specs.Fields.{Names}
use Rattle.thr_journals.specs.Lines.{Below, Told, four, below}
use Rattle.thr_journals.specs.Faults.{Fault, names_of, with_end, faults}

-- Lines as one text, each with its LF.
abbrev pub lines_text : List String → List ℕ
lines_text lines = flat_map (λ l. with_end (codes l)) lines

abbrev pub named : ℕ → NameId
named n = record { 0 = n }

abbrev pub tid : ℕ → Tid
tid n = record { 0 = n }

abbrev pub at : ℕ → Line
at n = record { 0 = n }

-- ---- names of each kind

-- The names of a script that declares one of each kind, from 10 on: a mutex, a condition, an attribute cell, a mutex attribute
-- cell, a key, a once block, a pipe, an address exception, a status exception, a shared variable and a routine.
abbrev pub names : Names
names = names_of (lines_text
    ("dcethr 1" ∷ "mutex m" ∷ "cond c" ∷ "attr f" ∷ "mutexattr b" ∷ "key k" ∷ "once o" ∷ "pipe p" ∷ "exception x" ∷ "status y 5" ∷ "shared s 0"
    ∷ "routine main a" ∷ "end" ∷ []))

-- ---- lines

-- The text of a line without its LF.
abbrev pub line_of : ℕ → Entry → List ℕ
line_of n e = join_with_byte 32 (decimal n ∷ who_word e.who ∷ what_words (keys_of names) e.what)

-- The texts of these lines, each with this number, are read as these lines.
abbrev pub AreReadAgain : ℕ → List Entry → Type 0
AreReadAgain n es = map (λ e. below names (line_of n e)) es ≡ map (λ e. Some (Told (decimal n) e)) es

abbrev pub thread : What → Entry
thread says = record { who = who.Thread (tid 3); what = says }

abbrev pub call : CallWord → List Arg → Entry
call c args = thread (what.Call c (four args) reply.Done)

-- None of these texts is a line of a history.
abbrev pub HaveNoForm : List String → Type 0
HaveNoForm texts = map (λ t. below names (codes t)) texts ≡ map (λ t. None) texts

-- ---- journals

abbrev pub dispatch : Tid → Entry
dispatch t = record { who = who.Proc 0; what = what.Run t }

abbrev pub said_by_one : What → Entry
said_by_one says = record { who = who.Thread (tid 1); what = says }

-- The first line and number of a refusal of these lines with something behind them.
abbrev pub refusal : List String → String → Option Fault
refusal lines tail = first_of (faults (lines_text lines ++ codes tail))

-- A run with one worker of a script that says 7.
abbrev pub seven : List String
seven =
    "dcethr journal 1" ∷ "workers 1" ∷ "script 4" ∷ "dcethr 1" ∷ "routine main a" ∷ "say 7" ∷ "end" ∷ "history" ∷ "1 p0 run t1" ∷ "2 t1 say 7" ∷ "3 t1 end 0"
    ∷ "stop finished" ∷ []

-- It with the line at this place, counted from 0, exchanged for these.
abbrev pub seven_with : ℕ → List String → List String
seven_with place lines = take place seven ++ (lines ++ drop (place + 1) seven)

-- What stands at the places of a journal's line, each read from the words that are left (docs/journal.md, "The lines").
use Rattle.std.specs.Prelude.{ℕ, ◌==◌, ℤ, Bool, ◌&&◌, if◌then◌else◌, List, [], ◌∷◌, length, codes, position, Option, Some, None}
use Rattle.std.specs.List.{find}
use Rattle.std.specs.Option.{option_map, option_and_then, option_or}
use Rattle.std.specs.Map.{keys_of}
use Rattle.std.specs.Str.{bytes_eq}
use Rattle.thr_values.specs.declared.number.NameId.{NameId}
use Rattle.thr_values.specs.declared.number.Tid.{Tid}
use Rattle.thr_values.specs.declared.number.Line.{Line}
use Rattle.thr_values.specs.declared.exception.Exc.{Exc}
use Rattle.thr_values.specs.declared.exception.Exc.TheVariants.{Address, Status}
use Rattle.thr_values.specs.declared.reply.Effect.TheVariants as effect
use Rattle.thr_values.specs.declared.reply.Reply.{Reply}
use Rattle.thr_values.specs.declared.reply.Reply.TheVariants as reply
use Rattle.thr_values.specs.declared.history.Who.{Who}
use Rattle.thr_values.specs.declared.history.Who.TheVariants as who
use Rattle.thr_text.specs.declared.object.Object.{Object}
use Rattle.thr_text.specs.declared.object.Object.TheVariants as object
use Rattle.thr_text.specs.Tables as tables
use Rattle.thr_text.specs.NameFaults.{is_of_kind, sense_of_kind}
use Rattle.thr_text.specs.Journals.{reply_word}
use Rattle.thr_journals.specs.Numbers.{short_in, long_in, value_in}

-- ---- places

-- What is read at a place, with the words that are left behind it.
abbrev pub Field : Type 0 → Type 0
Field A = List (List ℕ) → Option (A × List (List ℕ))

-- One word.
abbrev pub word_as : {A : Type 0} → (List ℕ → Option A) → Field A
word_as read [] = None
word_as read (w ∷ ws) = option_map (λ a. (a, ws)) (read w)

-- One place and then another.
abbrev pub both : {A B : Type 0} → Field A → Field B → Field (A × B)
both first second ws = option_and_then (λ x. option_map (λ y. ((x.0, y.0), y.1)) (second x.1)) (first ws)

-- What is read where no word is left.
abbrev pub if_whole : {A : Type 0} → A × List (List ℕ) → Option A
if_whole x = if length x.1 == 0 then Some x.0 else None

-- All of the words.
abbrev pub alone : {A : Type 0} → Field A → List (List ℕ) → Option A
alone field ws = option_and_then if_whole (field ws)

-- ---- numbers

abbrev pub line_in : List ℕ → Option Line
line_in text = option_map (λ n. record { 0 = n }) (short_in text)

-- A number behind this letter.
abbrev pub lettered : ℕ → List ℕ → Option ℕ
lettered letter [] = None
lettered letter (b ∷ text) = if b == letter then short_in text else None

-- `t` and the number of a thread (docs/journal.md).
abbrev pub thread_in : List ℕ → Option Tid
thread_in text = option_map (λ n. record { 0 = n }) (lettered 116 text)

-- `p` and the number of a processor, or a thread.
abbrev pub numbered_who : List ℕ → Option Who
numbered_who text = option_or (option_map who.Proc (lettered 112 text)) (option_map who.Thread (thread_in text))

-- Whose line it is (docs/journal.md).
abbrev pub who_in : List ℕ → Option Who
who_in text = if bytes_eq text (codes "clock") then Some who.Clock else numbered_who text

-- ---- names, in a table of the names of a script with their kinds

abbrev pub Names : Type 0
Names = List tables.Entry

-- A name of this kind (docs/journal.md, "Formed journals").
abbrev pub name_in : Names → Object → List ℕ → Option NameId
name_in names kind text = if is_of_kind kind (sense_of_kind (tables.kind_in names text)) then option_map (λ n. record { 0 = n }) (position (bytes_eq text) (keys_of names)) else None

-- The mutex that was given, or the global lock.
abbrev pub gift_in : Names → List ℕ → Option (Option NameId)
gift_in names text = if bytes_eq text (codes "global") then Some None else option_map Some (name_in names object.Mutex text)

-- An exception as a name, or as `status` and a number (docs/journal.md, "The lines").
abbrev pub exception : Names → Field Exc
exception names [] = None
exception names (w ∷ ws) =
    if bytes_eq w (codes "status") then option_map (λ x. (Status x.0, x.1)) (word_as value_in ws)
    else option_map (λ name. (Address name, ws)) (name_in names object.Exception w)

-- ---- replies

-- The replies that have a word of their own (docs/journal.md, "Replies").
abbrev pub fixed_replies : List Reply
fixed_replies =
    reply.Done ∷ reply.Eof ∷ reply.Effect effect.Ended ∷ reply.Effect effect.Merged ∷ reply.Effect effect.Pending ∷ reply.Effect effect.Wakes ∷ reply.Blocks
    ∷ reply.Einval ∷ reply.Eperm ∷ reply.Edeadlk ∷ reply.Ebusy ∷ reply.Esrch ∷ reply.Eagain ∷ reply.Epipe ∷ []

-- The reply that is written so.
abbrev pub fixed_reply_in : List ℕ → Option Reply
fixed_reply_in text = find (λ r. bytes_eq text (reply_word r)) fixed_replies

-- A reply (docs/journal.md, "Replies").
abbrev pub reply_in : List ℕ → Option Reply
reply_in text = option_or (fixed_reply_in text) (option_map reply.Value (value_in text))

-- `=` and a reply.
abbrev pub equals_reply : Field Reply
equals_reply [] = None
equals_reply (w ∷ ws) = if bytes_eq w (codes "=") then word_as reply_in ws else None

-- ---- numbers and values as places

abbrev pub count : Field ℕ
count = word_as long_in

abbrev pub value : Field ℤ
value = word_as value_in

abbrev pub place : Field Line
place = word_as line_in

abbrev pub thread : Field Tid
thread = word_as thread_in

abbrev pub name : Names → Object → Field NameId
name names kind = word_as (name_in names kind)

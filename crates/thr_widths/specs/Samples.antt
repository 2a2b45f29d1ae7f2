-- A script with names of 24 bytes, and its widest lines.
use Rattle.std.specs.Prelude.{ℕ, ℤ, negsuc, [], ◌∷◌, ◌++◌, codes}
use Rattle.thr_values.specs.Exceptions.{builtin_names}
use Rattle.thr_values.specs.declared.call.Arg.{Arg}
use Rattle.thr_values.specs.declared.call.Arg.TheVariants as arg
use Rattle.thr_values.specs.declared.call.CallWord.TheVariants as word
use Rattle.thr_values.specs.declared.history.Who.TheVariants as who
use Rattle.thr_values.specs.declared.history.What.TheVariants as what
use Rattle.thr_values.specs.declared.history.Entry.{Entry}
use Rattle.thr_values.specs.declared.reply.Reply.{Reply}
use Rattle.thr_values.specs.declared.reply.Reply.TheVariants as reply
use Rattle.thr_syntax.specs.declared.tree.Item.{Item}
use Rattle.thr_syntax.specs.declared.tree.Item.TheVariants as item
use Rattle.thr_syntax.specs.declared.tree.Script.{Script}

abbrev pub named : ℕ → Arg
named n = arg.Name (record { 0 = n })

abbrev pub routine_of : ℕ → Item
routine_of n = item.Routine (record { name = record { 0 = n }; locals = codes "a" ∷ []; body = [] })

-- A mutex, a condition, an attribute cell and a routine with names of 24 bytes.
abbrev pub long_names : Script
long_names = record {
  names =
      builtin_names
      ++ codes "a_mutex_of_24_characters" ∷ codes "a_condition_of_24_signs_" ∷ codes "an_attribute_of_24_signs" ∷ codes "a_routine_of_24_letters_"
      ∷ codes "main" ∷ [];
  items =
      item.Mutex (record { 0 = 10 }) ∷ item.Cond (record { 0 = 11 }) ∷ item.Attr (record { 0 = 12 }) ∷ routine_of 13 ∷ routine_of 14 ∷ [];
}

-- The number of 64 bits with the longest text.
abbrev pub longest_number : ℤ
longest_number = negsuc 9223372036854775807

-- A timed wait of the last thread that has a number, with this reply.
abbrev pub widest_wait : Reply → Entry
widest_wait r = record {
  who = who.Thread (record { 0 = 4294967295 });
  what = what.Call word.CondTimedwait (named 11 ∷ named 10 ∷ arg.Num longest_number ∷ arg.Nothing ∷ []) r;
}

-- A thread that this thread creates, with the reply of most bytes.
abbrev pub widest_create : Entry
widest_create = record {
  who = who.Thread (record { 0 = 4294967295 });
  what = what.Call word.Create (named 12 ∷ named 13 ∷ arg.Num longest_number ∷ arg.Nothing ∷ []) (reply.Value longest_number);
}

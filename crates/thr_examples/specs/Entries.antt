-- Lines of histories as values.
use Rattle.std.specs.Prelude.{ℕ, ◌+◌, ◌-◌, List, ◌++◌, length, replicate}
use Rattle.thr_values.specs.declared.number.NameId.{NameId}
use Rattle.thr_values.specs.declared.number.Tid.{Tid}
use Rattle.thr_values.specs.declared.number.Line.{Line}
use Rattle.thr_values.specs.declared.call.CallWord.{CallWord}
use Rattle.thr_values.specs.declared.call.Arg.{Arg}
use Rattle.thr_values.specs.declared.call.Arg.TheVariants as arg
use Rattle.thr_values.specs.declared.reply.Reply.{Reply}
use Rattle.thr_values.specs.declared.history.Who.TheVariants as who
use Rattle.thr_values.specs.declared.history.What.{What}
use Rattle.thr_values.specs.declared.history.What.TheVariants as what
use Rattle.thr_values.specs.declared.history.Entry.{Entry}
use Rattle.thr_values.specs.Exceptions.{builtin_names}

-- The declared name of this place among the declared ones, from 0 on.
abbrev pub declared : ℕ → NameId
declared n = record { 0 = n + length builtin_names }

abbrev pub thread : ℕ → Tid
thread t = record { 0 = t }

abbrev pub at : ℕ → Line
at l = record { 0 = l }

-- A line of a processor that dispatches a thread, and one of a thread.
abbrev pub run : ℕ → ℕ → Entry
run p t = record { who = who.Proc p; what = what.Run (thread t) }

abbrev pub by : ℕ → What → Entry
by t w = record { who = who.Thread (thread t); what = w }

-- A thread's call with its arguments and its reply.
abbrev pub calls : ℕ → CallWord → List Arg → Reply → Entry
calls t c args r = by t (what.Call c (args ++ replicate (4 - length args) arg.Nothing) r)

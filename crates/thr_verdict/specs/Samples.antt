-- Scripts, histories and lines for the worked cases.
use Prim.Native.String.{String}
use Rattle.std.specs.Prelude.{◌≡◌, ℕ, ◌+◌, ℤ, pos, negsuc, List, [], ◌∷◌, ◌++◌, map, take, replicate, set, get_or, codes, Some, None}
use Rattle.std.specs.List.{filter}
use Rattle.thr_values.specs.Exceptions.{builtin_names}
use Rattle.thr_values.specs.declared.number.NameId.{NameId}
use Rattle.thr_values.specs.declared.number.Tid.{Tid}
use Rattle.thr_values.specs.declared.number.Line.{Line}
use Rattle.thr_values.specs.declared.reply.Reply.{Reply}
use Rattle.thr_values.specs.declared.reply.Reply.TheVariants as reply
use Rattle.thr_values.specs.declared.reply.Effect.TheVariants as effect
use Rattle.thr_values.specs.declared.call.CallWord.{CallWord}
use Rattle.thr_values.specs.declared.call.CallWord.TheVariants as call
use Rattle.thr_values.specs.declared.call.Arg.{Arg}
use Rattle.thr_values.specs.declared.call.Arg.TheVariants as arg
use Rattle.thr_values.specs.declared.history.Who.{Who}
use Rattle.thr_values.specs.declared.history.Who.TheVariants as who
use Rattle.thr_values.specs.declared.history.What.{What}
use Rattle.thr_values.specs.declared.history.What.TheVariants as what
use Rattle.thr_values.specs.declared.history.Entry.{Entry}
use Rattle.thr_values.specs.declared.event.Stop.{Stop}
use Rattle.thr_values.specs.declared.event.Stop.TheVariants as stops
use Rattle.thr_syntax.specs.declared.journal.Journal.{Journal}
use Rattle.thr_syntax.specs.declared.dce.DceCall.{DceCall}
use Rattle.thr_syntax.specs.declared.dce.DceCall.TheVariants as dce
use Rattle.thr_syntax.specs.declared.expr.Var.TheVariants.{Local, Shared}
use Rattle.thr_syntax.specs.declared.expr.Expr.{Expr}
use Rattle.thr_syntax.specs.declared.expr.Expr.TheVariants as expr
use Rattle.thr_syntax.specs.declared.tree.Stmt.{Stmt}
use Rattle.thr_syntax.specs.declared.tree.Stmt.TheVariants as stmt
use Rattle.thr_syntax.specs.declared.tree.Item.{Item}
use Rattle.thr_syntax.specs.declared.tree.Item.TheVariants as item
use Rattle.thr_syntax.specs.declared.tree.Script.{Script}
use Rattle.thr_text.specs.declared.object.Object.{Object}
use Rattle.thr_text.specs.declared.object.Object.TheVariants as object
use Rattle.thr_verdict.specs.Report.{Counts, counts}
use Rattle.thr_trees.specs.Kinds.{is_name_of}
use Rattle.thr_verdict.specs.Places.{have_their_form}
use Rattle.thr_verdict.specs.FormedJournals.{is_formed_line}

-- Lines as one text, each with its LF.
abbrev pub lines_text : List String → List ℕ
lines_text [] = []
lines_text (s ∷ ss) = codes s ++ 10 ∷ lines_text ss

abbrev pub named : ℕ → NameId
named n = record { 0 = n }

abbrev pub tid : ℕ → Tid
tid n = record { 0 = n }

abbrev pub at : ℕ → Line
at n = record { 0 = n }

-- ---- lines

abbrev pub dispatch : ℕ → Entry
dispatch t = record { who = who.Proc 0; what = what.Run (tid t) }

abbrev pub thread : ℕ → What → Entry
thread t says = record { who = who.Thread (tid t); what = says }

-- The four arguments of a call line that begin so.
abbrev pub four : List Arg → List Arg
four args = take 4 (args ++ replicate 4 arg.Nothing)

-- A call of a thread with these arguments.
abbrev pub calls : ℕ → CallWord → List Arg → Reply → Entry
calls t c args r = thread t (what.Call c (four args) r)

abbrev pub name_arg : NameId → Arg
name_arg name = arg.Name name

abbrev pub number_arg : ℕ → Arg
number_arg n = arg.Num (pos n)

-- ---- a script that says a number, and its history

abbrev pub seven : Script
seven = record {
  names = builtin_names ++ codes "main" ∷ [];
  items = item.Routine (record { name = named 10; locals = codes "a" ∷ []; body = stmt.Say (expr.Num (pos 7)) ∷ [] }) ∷ [];
}

abbrev pub seven_said : Entry
seven_said = thread 1 (what.Say (pos 7))

abbrev pub seven_ends : Entry
seven_ends = thread 1 (what.End (pos 0))

abbrev pub seven_lines : List Entry
seven_lines = dispatch 1 ∷ seven_said ∷ seven_ends ∷ []

-- A journal of it.
abbrev pub seven_journal : ℕ → List Entry → Stop → Journal
seven_journal workers entries stop = record { workers = workers; script = seven; entries = entries; stop = stop }

-- ---- a cancelled wait whose mutex the canceller holds

abbrev pub m : NameId
m = named 10

abbrev pub c : NameId
c = named 11

abbrev pub t : NameId
t = named 12

abbrev pub waiter : NameId
waiter = named 13

abbrev pub calling : DceCall → Stmt
calling call = stmt.Dce call

abbrev pub shared : NameId → Expr
shared name = expr.Var (Shared name)

abbrev pub waiter_routine : Item
waiter_routine = item.Routine (record {
  name = waiter;
  locals = codes "a" ∷ [];
  body =
      calling (dce.MutexLock m)
      ∷ stmt.TryFinally (calling (dce.CondWait c m) ∷ []) (calling (dce.MutexUnlock m) ∷ [])
      ∷ [];
})

abbrev pub canceller_routine : Item
canceller_routine = item.Routine (record {
  name = named 14;
  locals = codes "a" ∷ codes "v" ∷ [];
  body =
      calling (dce.MutexInit m None)
      ∷ calling (dce.CondInit c)
      ∷ calling (dce.Create (Shared t) None waiter (expr.Num (pos 0)))
      ∷ calling dce.Yield
      ∷ calling (dce.MutexLock m)
      ∷ calling (dce.Cancel (shared t))
      ∷ calling (dce.MutexUnlock m)
      ∷ calling (dce.Join (shared t) (Local 1))
      ∷ stmt.Say (expr.Var (Local 1))
      ∷ [];
})

abbrev pub cancelled_wait : Script
cancelled_wait = record {
  names = builtin_names ++ codes "m" ∷ codes "c" ∷ codes "t" ∷ codes "waiter" ∷ codes "main" ∷ [];
  items = item.Mutex m ∷ item.Cond c ∷ item.Shared t (pos 0) ∷ waiter_routine ∷ canceller_routine ∷ [];
}

-- The number -1.
abbrev pub minus_one : ℤ
minus_one = negsuc 0

abbrev pub cancelled_wait_lines : List Entry
cancelled_wait_lines =
    dispatch 1
    ∷ calls 1 call.MutexInit (name_arg m ∷ arg.Word 0 ∷ []) reply.Done
    ∷ calls 1 call.CondInit (name_arg c ∷ []) reply.Done
    ∷ calls 1 call.Create (arg.Word 0 ∷ name_arg waiter ∷ number_arg 0 ∷ []) (reply.Value (pos 2))
    ∷ calls 1 call.Yield [] reply.Done
    ∷ dispatch 2
    ∷ calls 2 call.MutexLock (name_arg m ∷ []) reply.Done
    ∷ thread 2 (what.Try 1 (at 7))
    ∷ calls 2 call.CondWait (name_arg c ∷ name_arg m ∷ []) reply.Blocks
    ∷ dispatch 1
    ∷ calls 1 call.MutexLock (name_arg m ∷ []) reply.Done
    ∷ calls 1 call.Cancel (number_arg 2 ∷ []) (reply.Effect effect.Wakes)
    ∷ calls 1 call.MutexUnlock (name_arg m ∷ []) reply.Done
    ∷ thread 2 (what.Gift (Some m))
    ∷ calls 1 call.Join (number_arg 2 ∷ []) reply.Blocks
    ∷ dispatch 2
    ∷ thread 2 (what.Deliver 1 (at 8))
    ∷ thread 2 (what.Finally 1 1)
    ∷ calls 2 call.MutexUnlock (name_arg m ∷ []) reply.Done
    ∷ thread 2 (what.Endfin 1)
    ∷ thread 2 (what.Bottom 1 minus_one)
    ∷ thread 2 (what.End minus_one)
    ∷ dispatch 1
    ∷ thread 1 (what.Ret (reply.Value minus_one))
    ∷ thread 1 (what.Say minus_one)
    ∷ thread 1 (what.End (pos 0))
    ∷ []

-- A journal of it that stops for want of memory after these lines.
abbrev pub cancelled_wait_until : List Entry → Journal
cancelled_wait_until entries = record { workers = 1; script = cancelled_wait; entries = entries; stop = stops.Memory }

-- ---- two ranks

-- A script whose first thread creates a second one and gives it a greater rank than its own.
abbrev pub two_ranks : Script
two_ranks = record {
  names = builtin_names ++ codes "w" ∷ codes "main" ∷ [];
  items =
      item.Routine (record { name = named 10; locals = codes "a" ∷ []; body = [] })
      ∷ item.Routine (record {
        name = named 11;
        locals = codes "a" ∷ [];
        body =
            calling (dce.Create (Local 0) None (named 10) (expr.Num (pos 0)))
            ∷ calling (dce.Setprio (expr.Var (Local 0)) (expr.Num (pos 17)) (Local 0))
            ∷ [];
      })
      ∷ [];
}

-- Its lines until both threads are ready.
abbrev pub two_ranks_ready : List Entry
two_ranks_ready =
    dispatch 1
    ∷ calls 1 call.Create (arg.Word 0 ∷ name_arg (named 10) ∷ number_arg 0 ∷ []) (reply.Value (pos 2))
    ∷ calls 1 call.Setprio (number_arg 2 ∷ number_arg 17 ∷ []) (reply.Value (pos 16))
    ∷ []

-- The lines after them where the thread of greater rank goes first.
abbrev pub greater_first : List Entry
greater_first = dispatch 2 ∷ thread 2 (what.End (pos 0)) ∷ dispatch 1 ∷ thread 1 (what.End (pos 0)) ∷ []

-- The lines after them where the other one does.
abbrev pub lesser_first : List Entry
lesser_first = dispatch 1 ∷ thread 1 (what.End (pos 0)) ∷ dispatch 2 ∷ thread 2 (what.End (pos 0)) ∷ []

-- A journal of it, with these lines after them.
abbrev pub two_ranks_journal : List Entry → Journal
two_ranks_journal rest = record { workers = 1; script = two_ranks; entries = two_ranks_ready ++ rest; stop = stops.Finished }

-- ---- a delay beside a thread that is ready

-- A thread that is created, and a delay of its maker.
abbrev pub delay_beside_another : Script
delay_beside_another = record {
  names = builtin_names ++ codes "w" ∷ codes "main" ∷ [];
  items =
      item.Routine (record { name = named 10; locals = codes "a" ∷ []; body = [] })
      ∷ item.Routine (record {
        name = named 11;
        locals = codes "a" ∷ [];
        body =
            calling (dce.Create (Local 0) None (named 10) (expr.Num (pos 0)))
            ∷ calling (dce.DelayNp (expr.Num (pos 5)))
            ∷ [];
      })
      ∷ [];
}

-- Its lines until the maker waits for a time and the other thread is ready.
abbrev pub delay_begun : List Entry
delay_begun =
    dispatch 1
    ∷ calls 1 call.Create (arg.Word 0 ∷ name_arg (named 10) ∷ number_arg 0 ∷ []) (reply.Value (pos 2))
    ∷ calls 1 call.DelayNp (number_arg 5 ∷ []) reply.Blocks
    ∷ []

-- A move of the clock to 5.
abbrev pub clock_to_five : Entry
clock_to_five = record { who = who.Clock; what = what.Clock (pos 5) }

-- Another processor takes thread 2.
abbrev pub on_another_processor : Entry
on_another_processor = record { who = who.Proc 1; what = what.Run (record { 0 = 2 }) }

-- A journal of it that stops for want of memory, with these lines after them.
abbrev pub delay_journal : List Entry → Journal
delay_journal rest = record { workers = 1; script = delay_beside_another; entries = delay_begun ++ rest; stop = stops.Memory }

-- ---- two mutexes

abbrev pub k : NameId
k = named 11

-- Two mutexes `m` and `k`, the other way round in the declarations than among letters.
abbrev pub two_mutexes : Script
two_mutexes = record {
  names = builtin_names ++ codes "m" ∷ codes "k" ∷ codes "main" ∷ [];
  items =
      item.Mutex m
      ∷ item.Mutex k
      ∷ item.Routine (record { name = named 12; locals = codes "a" ∷ []; body = [] })
      ∷ [];
}

-- The counts of a history of it in the order of the report, and those of the two mutexes.
abbrev pub tally : List Entry → List ℕ
tally entries =
    let n : Counts = counts two_mutexes entries in
    n.lines ∷ n.threads ∷ n.ended ∷ n.calls ∷ n.blocked ∷ n.raised ∷ n.delivered ∷ n.caught ∷ map (λ e. e.1) n.acquired

-- The same of each of these lines alone.
abbrev pub tallies : List Entry → List (List ℕ)
tallies lines = map (λ e. tally (e ∷ [])) lines

-- ---- names of each kind

-- A script that declares a name of each kind, and an exception by number.
abbrev pub of_each_kind : Script
of_each_kind = record {
  names =
      builtin_names
      ++ codes "s" ∷ codes "e" ∷ codes "x" ∷ codes "m" ∷ codes "b" ∷ codes "c" ∷ codes "f" ∷ codes "k" ∷ codes "o" ∷ codes "p"
      ∷ codes "main" ∷ [];
  items =
      item.Limit 5
      ∷ item.Shared (named 10) (pos 0)
      ∷ item.Exception (named 11)
      ∷ item.Status (named 12) (pos 5)
      ∷ item.Mutex (named 13)
      ∷ item.MutexAttr (named 14)
      ∷ item.Cond (named 15)
      ∷ item.Attr (named 16)
      ∷ item.Key (named 17)
      ∷ item.Once (named 18)
      ∷ item.Pipe (named 19) 4
      ∷ item.Routine (record { name = named 20; locals = codes "a" ∷ []; body = [] })
      ∷ [];
}

abbrev pub all_kinds : List Object
all_kinds =
    object.Shared ∷ object.Exception ∷ object.Mutex ∷ object.Mutexattr ∷ object.Cond ∷ object.Attr ∷ object.Key ∷ object.Once
    ∷ object.Pipe ∷ object.Routine ∷ []

-- The kinds of which a name is.
abbrev pub kinds_of : ℕ → List Object
kinds_of n = filter (λ kind. is_name_of of_each_kind kind (named n)) all_kinds

-- ---- arguments

-- Arguments of every form: nothing, a name of each kind and one that is built in or isn't declared, numbers, one of them too
-- large or too small, and fixed words.
abbrev pub all_args : List Arg
all_args =
    arg.Nothing
    ∷ (map (λ n. arg.Name (named n)) (0 ∷ 10 ∷ 11 ∷ 12 ∷ 13 ∷ 14 ∷ 15 ∷ 16 ∷ 17 ∷ 18 ∷ 19 ∷ 20 ∷ 21 ∷ [])
    ++ arg.Num (negsuc 9223372036854775808) ∷ arg.Num (pos 5) ∷ arg.Num (pos 9223372036854775808)
    ∷ arg.Word 0 ∷ arg.Word 1 ∷ arg.Word 2 ∷ arg.Word 3 ∷ arg.Word 4 ∷ [])

-- What one place takes.
abbrev pub Takes : Type 0
Takes = List Arg

abbrev pub none : Takes
none = arg.Nothing ∷ []

abbrev pub a_number : Takes
a_number = arg.Num (pos 5) ∷ []

abbrev pub a_name : ℕ → Takes
a_name n = arg.Name (named n) ∷ []

abbrev pub a_mutex : Takes
a_mutex = a_name 13

abbrev pub a_mutexattr : Takes
a_mutexattr = a_name 14

abbrev pub a_cond : Takes
a_cond = a_name 15

abbrev pub an_attr : Takes
an_attr = a_name 16

abbrev pub a_key : Takes
a_key = a_name 17

abbrev pub a_once : Takes
a_once = a_name 18

abbrev pub a_pipe : Takes
a_pipe = a_name 19

abbrev pub a_routine : Takes
a_routine = a_name 20

abbrev pub the_word : Takes
the_word = arg.Word 0 ∷ []

abbrev pub two_words : Takes
two_words = arg.Word 0 ∷ arg.Word 1 ∷ []

abbrev pub three_words : Takes
three_words = arg.Word 0 ∷ arg.Word 1 ∷ arg.Word 2 ∷ []

abbrev pub four_words : Takes
four_words = arg.Word 0 ∷ arg.Word 1 ∷ arg.Word 2 ∷ arg.Word 3 ∷ []

-- What the four places of a call's line take that begin so.
abbrev pub four_places : List Takes → List Takes
four_places places = take 4 (places ++ replicate 4 none)

-- The first argument that each place takes.
abbrev pub firsts : List Takes → List Arg
firsts places = map (λ p. get_or p 0 arg.Nothing) places

-- Of all arguments those with which a call's line has its form, where they stand at this place among these arguments.
abbrev pub accepted_at : CallWord → List Arg → ℕ → Takes
accepted_at c args place = filter (λ a. have_their_form of_each_kind c (set args place a)) all_args

abbrev pub accepted : CallWord → List Arg → List Takes
accepted c args = map (accepted_at c args) (0 ∷ 1 ∷ 2 ∷ 3 ∷ [])

-- The places of each of these calls take just these arguments, and what isn't listed takes nothing.
abbrev pub AreTaken : List (CallWord × List Takes) → Type 0
AreTaken rows =
    map (λ row. accepted row.0 (firsts (four_places row.1))) rows ≡ map (λ row. four_places row.1) rows

-- ---- lines of every form

-- Of whom a line can be, some of them with numbers that are too large.
abbrev pub all_whos : List Who
all_whos =
    who.Proc 0 ∷ who.Proc 4294967295 ∷ who.Proc 4294967296 ∷ who.Thread (tid 0) ∷ who.Thread (tid 4294967295)
    ∷ who.Thread (tid 4294967296) ∷ who.Clock ∷ []

-- Those of them whose line has its form where it says this.
abbrev pub whos_of : What → List Who
whos_of says = filter (λ w. is_formed_line of_each_kind (record { who = w; what = says })) all_whos

abbrev pub processors : List Who
processors = who.Proc 0 ∷ who.Proc 4294967295 ∷ []

abbrev pub threads : List Who
threads = who.Thread (tid 0) ∷ who.Thread (tid 4294967295) ∷ []

-- Each line that says one of these has its form just where it is of these.
abbrev pub AreOf : List Who → List What → Type 0
AreOf whos whats = map whos_of whats ≡ map (λ w. whos) whats

abbrev pub clock : List Who
clock = who.Clock ∷ []

abbrev pub all_replies : List Reply
all_replies =
    reply.Done ∷ reply.Value minus_one ∷ reply.Eof ∷ reply.Effect effect.Ended ∷ reply.Effect effect.Merged
    ∷ reply.Effect effect.Pending ∷ reply.Effect effect.Wakes ∷ reply.Blocks ∷ reply.Einval ∷ reply.Eperm ∷ reply.Edeadlk
    ∷ reply.Ebusy ∷ reply.Esrch ∷ reply.Eagain ∷ reply.Epipe ∷ []

-- ---- sums

abbrev pub sum : List ℕ → ℕ
sum [] = 0
sum (n ∷ ns) = n + sum ns

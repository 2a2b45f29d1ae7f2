-- The text of a journal (docs/journal.md).
use Rattle.std.specs.Prelude.{ℕ, ℤ, ◌+◌, List, [], ◌∷◌, ◌++◌, length, codes, slice_get, unwrap_or, Option, None, Some}
use Rattle.std.specs.Fmt.{decimal, signed_decimal}
use Rattle.thr_values.specs.Words.{call_word, policy_words, kind_words, inherit_words, cancel_words}
use Rattle.thr_values.specs.declared.number.NameId.{NameId}
use Rattle.thr_values.specs.declared.number.Tid.{Tid}
use Rattle.thr_values.specs.declared.number.Line.{Line}
use Rattle.thr_values.specs.declared.exception.Exc.{Exc}
use Rattle.thr_values.specs.declared.exception.Exc.TheVariants.{Address, Status}
use Rattle.thr_values.specs.declared.reply.Effect.{Effect}
use Rattle.thr_values.specs.declared.reply.Effect.TheVariants as effect
use Rattle.thr_values.specs.declared.reply.Reply.{Reply}
use Rattle.thr_values.specs.declared.reply.Reply.TheVariants as reply
use Rattle.thr_values.specs.declared.call.CallWord.{CallWord}
use Rattle.thr_values.specs.declared.call.CallWord.TheVariants as call
use Rattle.thr_values.specs.declared.call.Arg.{Arg}
use Rattle.thr_values.specs.declared.call.Arg.TheVariants as arg
use Rattle.thr_values.specs.declared.history.Who.{Who}
use Rattle.thr_values.specs.declared.history.Who.TheVariants as who
use Rattle.thr_values.specs.declared.history.What.{What}
use Rattle.thr_values.specs.declared.history.What.TheVariants as what
use Rattle.thr_values.specs.declared.history.Entry.{Entry}
use Rattle.thr_values.specs.declared.event.Stop.{Stop}
use Rattle.thr_values.specs.declared.event.Stop.TheVariants as stops
use Rattle.thr_syntax.specs.declared.tree.Script.{Script}
use Rattle.thr_syntax.specs.Spelling.{name_at}
use Rattle.thr_syntax.specs.Canon.{line, script_words, canon}

abbrev pub Names : Type 0
Names = List (List ℕ)

abbrev pub name_word : Names → NameId → List ℕ
name_word names name = name_at names name.0

abbrev pub thread_word : Tid → List ℕ
thread_word t = codes "t" ++ decimal t.0

-- An exception as a name, or as `status` and a number (docs/journal.md, "The lines").
abbrev pub exception_words : Names → Exc → List (List ℕ)
exception_words names (Address name) = name_word names name ∷ []
exception_words names (Status n) = codes "status" ∷ signed_decimal n ∷ []

abbrev pub effect_word : Effect → List ℕ
effect_word effect.Ended = codes "ended"
effect_word effect.Merged = codes "merged"
effect_word effect.Pending = codes "pending"
effect_word effect.Wakes = codes "wakes"

-- The word of a reply (docs/journal.md, "Replies").
abbrev pub reply_word : Reply → List ℕ
reply_word reply.Done = codes "ok"
reply_word (reply.Value n) = signed_decimal n
reply_word reply.Eof = codes "eof"
reply_word (reply.Effect e) = effect_word e
reply_word reply.Blocks = codes "blocks"
reply_word reply.Einval = codes "EINVAL"
reply_word reply.Eperm = codes "EPERM"
reply_word reply.Edeadlk = codes "EDEADLK"
reply_word reply.Ebusy = codes "EBUSY"
reply_word reply.Esrch = codes "ESRCH"
reply_word reply.Eagain = codes "EAGAIN"
reply_word reply.Epipe = codes "EPIPE"

-- The fixed words that may stand in a call, in the order in which an argument counts them (docs/journal.md, "Calls").
abbrev pub fixed_words : CallWord → List (List ℕ)
fixed_words call.AttrSetsched = policy_words
fixed_words call.AttrSetinheritsched = inherit_words
fixed_words call.Create = codes "default" ∷ []
fixed_words call.Setcancel = cancel_words
fixed_words call.Setasynccancel = cancel_words
fixed_words call.Setscheduler = policy_words
fixed_words call.MutexattrSetkindNp = kind_words
fixed_words call.MutexInit = codes "default" ∷ []
fixed_words call.Keycreate = codes "none" ∷ []
fixed_words _ = []

abbrev pub arg_words : Names → CallWord → Arg → List (List ℕ)
arg_words names c arg.Nothing = []
arg_words names c (arg.Name name) = name_word names name ∷ []
arg_words names c (arg.Num n) = signed_decimal n ∷ []
arg_words names c (arg.Word place) = unwrap_or (slice_get (fixed_words c) place) [] ∷ []

abbrev pub args_words : Names → CallWord → List Arg → List (List ℕ)
args_words names c [] = []
args_words names c (a ∷ as') = arg_words names c a ++ args_words names c as'

-- The mutex that was given, or the global lock.
abbrev pub gift_word : Names → Option NameId → List ℕ
gift_word names None = codes "global"
gift_word names (Some name) = name_word names name

-- A word, the line of the script and a value.
abbrev pub at_line : List ℕ → Line → ℤ → List (List ℕ)
at_line word l n = word ∷ decimal l.0 ∷ signed_decimal n ∷ []

-- What a line says, word by word (docs/journal.md, "The lines").
abbrev pub what_words : Names → What → List (List ℕ)
what_words names (what.Run t) = codes "run" ∷ thread_word t ∷ []
what_words names (what.Clock n) = signed_decimal n ∷ []
what_words names (what.Call c args r) = call_word c ∷ (args_words names c args ++ codes "=" ∷ reply_word r ∷ [])
what_words names (what.Ret r) = codes "ret" ∷ codes "=" ∷ reply_word r ∷ []
what_words names (what.Gift m) = codes "gift" ∷ gift_word names m ∷ []
what_words names (what.Say n) = codes "say" ∷ signed_decimal n ∷ []
what_words names (what.Set l n) = at_line (codes "set") l n
what_words names (what.If l n) = at_line (codes "if") l n
what_words names (what.While l n) = at_line (codes "while") l n
what_words names (what.CallAt l n) = at_line (codes "call") l n
what_words names (what.Return l n) = at_line (codes "return") l n
what_words names (what.Raise n x) = codes "raise" ∷ decimal n ∷ exception_words names x
what_words names (what.Reraise n x) = codes "reraise" ∷ decimal n ∷ exception_words names x
what_words names (what.Deliver n l) = codes "deliver" ∷ decimal n ∷ decimal l.0 ∷ []
what_words names (what.Exit n v) = codes "exit" ∷ decimal n ∷ signed_decimal v ∷ []
what_words names (what.Try s l) = codes "try" ∷ decimal s ∷ decimal l.0 ∷ []
what_words names (what.Endtry s) = codes "endtry" ∷ decimal s ∷ []
what_words names (what.Catch s n l) = codes "catch" ∷ decimal s ∷ decimal n ∷ decimal l.0 ∷ []
what_words names (what.Endcatch s) = codes "endcatch" ∷ decimal s ∷ []
what_words names (what.Finally s n) = codes "finally" ∷ decimal s ∷ decimal n ∷ []
what_words names (what.Endfin s) = codes "endfin" ∷ decimal s ∷ []
what_words names (what.Once s name) = codes "once" ∷ decimal s ∷ name_word names name ∷ []
what_words names (what.Done s) = codes "done" ∷ decimal s ∷ []
what_words names (what.Undone s n) = codes "undone" ∷ decimal s ∷ decimal n ∷ []
what_words names (what.Destroy s name v) = codes "destroy" ∷ decimal s ∷ name_word names name ∷ signed_decimal v ∷ []
what_words names (what.Enddes s) = codes "enddes" ∷ decimal s ∷ []
what_words names (what.Lost s n) = codes "lost" ∷ decimal s ∷ decimal n ∷ []
what_words names (what.Bottom n v) = codes "bottom" ∷ decimal n ∷ signed_decimal v ∷ []
what_words names what.Pause = codes "pause" ∷ []
what_words names (what.End v) = codes "end" ∷ signed_decimal v ∷ []

abbrev pub who_word : Who → List ℕ
who_word (who.Proc p) = codes "p" ++ decimal p
who_word (who.Thread t) = thread_word t
who_word who.Clock = codes "clock"

-- A line of the history with its number.
abbrev pub numbered_line : Names → ℕ → Entry → List ℕ
numbered_line names n e = line (decimal n ∷ who_word e.who ∷ what_words names e.what)

-- The lines of the history, numbered from this number on.
unfoldable pub numbered : Names → ℕ → List Entry → List ℕ
numbered names n [] = []
numbered names n (e ∷ es) = numbered_line names n e ++ numbered names (n + 1) es

-- The stop line (docs/journal.md, "The stop line").
abbrev pub stop_words : Stop → List (List ℕ)
stop_words stops.Finished = codes "stop" ∷ codes "finished" ∷ []
stop_words (stops.Deadlock n t) = codes "stop" ∷ codes "deadlock" ∷ decimal n ∷ thread_word t ∷ []
stop_words stops.Limit = codes "stop" ∷ codes "limit" ∷ []
stop_words stops.Memory = codes "stop" ∷ codes "memory" ∷ []

-- The journal of a run of this script with n workers, which made these lines and stopped so.
unfoldable pub text : Script → ℕ → List Entry → Stop → List ℕ
text s n entries stop =
    line (codes "dcethr" ∷ codes "journal" ∷ codes "1" ∷ [])
    ++ (line (codes "workers" ∷ decimal n ∷ [])
    ++ (line (codes "script" ∷ decimal (length (script_words s)) ∷ [])
    ++ (canon s
    ++ (line (codes "history" ∷ [])
    ++ (numbered s.names 1 entries
    ++ line (stop_words stop))))))

-- A line as it is resolved: by its first word and its arguments (docs/script.md, "Lines" and "Calls").
use Rattle.std.specs.Prelude.{ℕ, ℤ, pos, negsuc, Bool, List, [], ◌∷◌, ◌++◌, codes, if◌then◌else◌, slice_get, unwrap_or, Option, Some, None}
use Rattle.std.specs.Option.{option_map}
use Rattle.std.specs.Str.{bytes_eq}
use Rattle.thr_values.specs.declared.number.NameId.{NameId}
use Rattle.thr_values.specs.declared.call.CallWord.{CallWord}
use Rattle.thr_values.specs.declared.call.CallWord.TheVariants as call
use Rattle.thr_values.specs.declared.scheduling.Policy.{Policy}
use Rattle.thr_values.specs.declared.scheduling.Policy.TheVariants as policy
use Rattle.thr_values.specs.declared.reply.Kind.{Kind}
use Rattle.thr_values.specs.declared.reply.Kind.TheVariants as kind
use Rattle.thr_syntax.specs.declared.tree.Interface.{Interface}
use Rattle.thr_syntax.specs.declared.tree.Interface.TheVariants as interface
use Rattle.thr_syntax.specs.declared.expr.Var.{Var}
use Rattle.thr_syntax.specs.declared.expr.Expr.{Expr}
use Rattle.thr_syntax.specs.declared.expr.Expr.TheVariants as expr
use Rattle.thr_syntax.specs.declared.dce.DceCall.{DceCall}
use Rattle.thr_syntax.specs.declared.dce.DceCall.TheVariants as dce
use Rattle.thr_syntax.specs.declared.form.Form.{Form}
use Rattle.thr_syntax.specs.declared.form.Form.TheVariants as form
use Rattle.thr_syntax.specs.Spelling.{Scope}
use Rattle.thr_text.specs.declared.word.Word.{Word}
use Rattle.thr_text.specs.declared.word.Word.TheVariants.{Num, Name, Mark}
use Rattle.thr_text.specs.declared.head.Head.{Head}
use Rattle.thr_text.specs.declared.head.Head.TheVariants as head
use Rattle.thr_text.specs.Slots.{head_of_line}
use Rattle.thr_text.specs.Tables.{rest_of}
use Rattle.thr_examples.specs.Arguments.{Argument, argument, name_in, variable_in, text_in, arguments, place_in}

-- ---- what stands at a place among the arguments

abbrev pub at : List Argument → ℕ → Argument
at args n = unwrap_or (slice_get args n) (argument (Num (pos 0)) (expr.Num (pos 0)))

abbrev pub text_at : List Argument → ℕ → List ℕ
text_at args n = text_in (at args n).word

abbrev pub name_at : Scope → List Argument → ℕ → NameId
name_at scope args n = name_in scope (text_at args n)

abbrev pub variable_at : Scope → List Argument → ℕ → Var
variable_at scope args n = variable_in scope (text_at args n)

abbrev pub value_at : List Argument → ℕ → Expr
value_at args n = (at args n).value

-- A name, or none where this word stands.
abbrev pub name_unless : List ℕ → Scope → List Argument → ℕ → Option NameId
name_unless word scope args n = if bytes_eq (text_at args n) word then None else Some (name_at scope args n)

-- The place of a local, where there is one.
abbrev pub local_at : Scope → List Argument → ℕ → Option ℕ
local_at scope args n = option_map (λ a. place_in scope.locals (text_in a.word)) (slice_get args n)

abbrev pub number_in : Word → ℤ
number_in (Num n) = n
number_in (Name text) = pos 0
number_in (Mark text) = pos 0

abbrev pub number_at : List Argument → ℕ → ℤ
number_at args n = number_in (at args n).word

abbrev pub size_of : ℤ → ℕ
size_of (pos n) = n
size_of (negsuc n) = 0

abbrev pub size_at : List Argument → ℕ → ℕ
size_at args n = size_of (number_at args n)

-- ---- fixed words

abbrev pub policy_of : List ℕ → Policy
policy_of text =
    if bytes_eq text (codes "SCHED_FIFO") then policy.Fifo
    else (if bytes_eq text (codes "SCHED_RR") then policy.Rr
    else (if bytes_eq text (codes "SCHED_FG_NP") then policy.Fg else policy.Bg))

abbrev pub kind_of : List ℕ → Kind
kind_of text =
    if bytes_eq text (codes "MUTEX_FAST_NP") then kind.Fast
    else (if bytes_eq text (codes "MUTEX_RECURSIVE_NP") then kind.Recursive else kind.Nonrecursive)

abbrev pub interface_of : List ℕ → Interface
interface_of text = if bytes_eq text (codes "exc") then interface.Exc else interface.Status

abbrev pub is_inherit : List ℕ → Bool
is_inherit text = bytes_eq text (codes "PTHREAD_INHERIT_SCHED")

abbrev pub is_cancel_on : List ℕ → Bool
is_cancel_on text = bytes_eq text (codes "CANCEL_ON")

-- ---- lines

unfoldable pub call_of : Scope → List Argument → CallWord → DceCall
call_of scope args call.AttrCreate = dce.AttrCreate (name_at scope args 0)
call_of scope args call.AttrDelete = dce.AttrDelete (name_at scope args 0)
call_of scope args call.AttrSetsched = dce.AttrSetsched (name_at scope args 0) (policy_of (text_at args 1))
call_of scope args call.AttrSetprio = dce.AttrSetprio (name_at scope args 0) (value_at args 1)
call_of scope args call.AttrSetinheritsched = dce.AttrSetinheritsched (name_at scope args 0) (is_inherit (text_at args 1))
call_of scope args call.AttrSetstacksize = dce.AttrSetstacksize (name_at scope args 0) (value_at args 1)
call_of scope args call.Create = dce.Create (variable_at scope args 0) (name_unless (codes "default") scope args 1) (name_at scope args 2) (value_at args 3)
call_of scope args call.Join = dce.Join (value_at args 0) (variable_at scope args 1)
call_of scope args call.Detach = dce.Detach (value_at args 0)
call_of scope args call.Yield = dce.Yield
call_of scope args call.Cancel = dce.Cancel (value_at args 0)
call_of scope args call.Testcancel = dce.Testcancel
call_of scope args call.Setcancel = dce.Setcancel (is_cancel_on (text_at args 0)) (variable_at scope args 1)
call_of scope args call.Setasynccancel = dce.Setasynccancel (is_cancel_on (text_at args 0)) (variable_at scope args 1)
call_of scope args call.Setprio = dce.Setprio (value_at args 0) (value_at args 1) (variable_at scope args 2)
call_of scope args call.Getprio = dce.Getprio (value_at args 0) (variable_at scope args 1)
call_of scope args call.Setscheduler = dce.Setscheduler (value_at args 0) (policy_of (text_at args 1)) (value_at args 2) (variable_at scope args 3)
call_of scope args call.Getscheduler = dce.Getscheduler (value_at args 0) (variable_at scope args 1)
call_of scope args call.DelayNp = dce.DelayNp (value_at args 0)
call_of scope args call.GetExpirationNp = dce.GetExpirationNp (value_at args 0) (variable_at scope args 1)
call_of scope args call.MutexattrCreate = dce.MutexattrCreate (name_at scope args 0)
call_of scope args call.MutexattrSetkindNp = dce.MutexattrSetkindNp (name_at scope args 0) (kind_of (text_at args 1))
call_of scope args call.MutexattrDelete = dce.MutexattrDelete (name_at scope args 0)
call_of scope args call.MutexInit = dce.MutexInit (name_at scope args 0) (name_unless (codes "default") scope args 1)
call_of scope args call.MutexDestroy = dce.MutexDestroy (name_at scope args 0)
call_of scope args call.MutexLock = dce.MutexLock (name_at scope args 0)
call_of scope args call.MutexTrylock = dce.MutexTrylock (name_at scope args 0) (variable_at scope args 1)
call_of scope args call.MutexUnlock = dce.MutexUnlock (name_at scope args 0)
call_of scope args call.LockGlobalNp = dce.LockGlobalNp
call_of scope args call.UnlockGlobalNp = dce.UnlockGlobalNp
call_of scope args call.CondInit = dce.CondInit (name_at scope args 0)
call_of scope args call.CondDestroy = dce.CondDestroy (name_at scope args 0)
call_of scope args call.CondWait = dce.CondWait (name_at scope args 0) (name_at scope args 1)
call_of scope args call.CondTimedwait = dce.CondTimedwait (name_at scope args 0) (name_at scope args 1) (value_at args 2)
call_of scope args call.CondSignal = dce.CondSignal (name_at scope args 0)
call_of scope args call.CondBroadcast = dce.CondBroadcast (name_at scope args 0)
call_of scope args call.Once = dce.Once (name_at scope args 0) (name_at scope args 1)
call_of scope args call.Keycreate = dce.Keycreate (name_at scope args 0) (name_unless (codes "none") scope args 1)
call_of scope args call.Setspecific = dce.Setspecific (name_at scope args 0) (value_at args 1)
call_of scope args call.Getspecific = dce.Getspecific (name_at scope args 0) (variable_at scope args 1)
call_of scope args call.Read = dce.Read (name_at scope args 0) (variable_at scope args 1) (variable_at scope args 2)
call_of scope args call.Write = dce.Write (name_at scope args 0) (value_at args 1)
call_of scope args call.Close = dce.Close (name_at scope args 0)

unfoldable pub form_after : Scope → List Argument → Head → Form
form_after scope args head.Interface = form.Interface (interface_of (text_at args 0))
form_after scope args head.Limit = form.Limit (size_at args 0)
form_after scope args head.Shared = form.Shared (name_at scope args 0) (number_at args 1)
form_after scope args head.Exception = form.Exception (name_at scope args 0)
form_after scope args head.Status = form.Status (name_at scope args 0) (number_at args 1)
form_after scope args head.Mutex = form.Mutex (name_at scope args 0)
form_after scope args head.Mutexattr = form.MutexAttr (name_at scope args 0)
form_after scope args head.Cond = form.Cond (name_at scope args 0)
form_after scope args head.Attr = form.Attr (name_at scope args 0)
form_after scope args head.Key = form.Key (name_at scope args 0)
form_after scope args head.Once = form.Once (name_at scope args 0)
form_after scope args head.Pipe = form.Pipe (name_at scope args 0) (size_at args 1)
form_after scope args head.Routine = form.Routine (name_at scope args 0) (text_at args 1)
form_after scope args head.Local = form.Local (text_at args 0)
form_after scope args head.Set = form.Set (variable_at scope args 0) (value_at args 1)
form_after scope args head.Say = form.Say (value_at args 0)
form_after scope args head.If = form.If (value_at args 0)
form_after scope args head.Else = form.Else
form_after scope args head.While = form.While (value_at args 0)
form_after scope args head.Try = form.Try
form_after scope args head.Catch = form.Catch (name_at scope args 0)
form_after scope args head.CatchAll = form.CatchAll
form_after scope args head.Finally = form.Finally
form_after scope args head.Endtry = form.Endtry
form_after scope args head.Raise = form.Raise (name_at scope args 0)
form_after scope args head.Reraise = form.Reraise
form_after scope args head.Call = form.Call (name_at scope args 0) (value_at args 1) (local_at scope args 2)
form_after scope args head.Return = form.Return (value_at args 0)
form_after scope args head.Exit = form.Exit (value_at args 0)
form_after scope args head.End = form.End
form_after scope args (head.Dce c) = form.Dce (call_of scope args c)

abbrev pub form_at : Scope → List Argument → Option Head → Form
form_at scope args (Some h) = form_after scope args h
form_at scope args None = form.Header

-- The line of these words, by the names of the script and by the parameter and locals in force.
abbrev pub form_of : Scope → List Word → Form
form_of scope words = form_at scope (arguments scope (rest_of words)) (head_of_line words)

-- ---- lines in their order

-- The parameter and the locals in force below a line.
abbrev pub locals_after : Form → List (List ℕ) → List (List ℕ)
locals_after (form.Routine name parameter) locals = parameter ∷ []
locals_after (form.Local name) locals = locals ++ name ∷ []
locals_after _ locals = locals

abbrev pub and_below : Form → List (List ℕ) → (List (List ℕ) → List Form) → List Form
and_below f locals below = f ∷ below (locals_after f locals)

unfoldable pub forms_of : List (List ℕ) → List (List Word) → List (List ℕ) → List Form
forms_of names [] locals = []
forms_of names (l ∷ ls) locals = and_below (form_of (record { names = names; locals = locals }) l) locals (forms_of names ls)

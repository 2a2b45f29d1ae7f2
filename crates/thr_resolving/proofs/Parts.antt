-- A line as its head and the values in its slots.
use Rattle.std.specs.Prelude.{ℕ, pos, List, [], ◌∷◌, ◌++◌, Some, None}
use Rattle.std.specs.Fmt.{signed_decimal}
use Rattle.thr_values.specs.Words.{policy_word, kind_word, inherit_word, cancel_word}
use Rattle.thr_values.specs.declared.call.CallWord.{CallWord}
use Rattle.thr_values.specs.declared.call.CallWord.TheVariants as call
use Rattle.thr_syntax.specs.declared.dce.DceCall.{DceCall}
use Rattle.thr_syntax.specs.declared.dce.DceCall.TheVariants as dce
use Rattle.thr_syntax.specs.declared.form.Form.{Form}
use Rattle.thr_syntax.specs.declared.form.Form.TheVariants as form
use Rattle.thr_syntax.specs.Spelling.{Scope, name_of, variable_of, name_or, expr_words, interface_word, value_words}
use Rattle.thr_text.specs.declared.head.Head.{Head}
use Rattle.thr_text.specs.declared.head.Head.TheVariants as head
use Rattle.thr_text.specs.declared.head.Choice.TheVariants as choice
use Rattle.thr_text.specs.declared.head.Slot.{Slot}
use Rattle.thr_text.specs.declared.head.Slot.TheVariants as slot
use Rattle.thr_text.specs.Slots.{absent_word}
use Rattle.thr_resolving.specs.declared.value.Value.{Value}
use Rattle.thr_resolving.specs.declared.value.Value.TheVariants as value

-- The first line has no head; what stands for it here is free.
unfoldable pub call_head : DceCall → CallWord
call_head (dce.AttrCreate n) = call.AttrCreate
call_head (dce.AttrDelete n) = call.AttrDelete
call_head (dce.AttrSetsched n policy) = call.AttrSetsched
call_head (dce.AttrSetprio n e) = call.AttrSetprio
call_head (dce.AttrSetinheritsched n inherits) = call.AttrSetinheritsched
call_head (dce.AttrSetstacksize n e) = call.AttrSetstacksize
call_head (dce.Create v attr n e) = call.Create
call_head (dce.Join e v) = call.Join
call_head (dce.Detach e) = call.Detach
call_head dce.Yield = call.Yield
call_head (dce.Cancel e) = call.Cancel
call_head dce.Testcancel = call.Testcancel
call_head (dce.Setcancel on v) = call.Setcancel
call_head (dce.Setasynccancel on v) = call.Setasynccancel
call_head (dce.Setprio e1 e2 v) = call.Setprio
call_head (dce.Getprio e v) = call.Getprio
call_head (dce.Setscheduler e1 policy e2 v) = call.Setscheduler
call_head (dce.Getscheduler e v) = call.Getscheduler
call_head (dce.DelayNp e) = call.DelayNp
call_head (dce.GetExpirationNp e v) = call.GetExpirationNp
call_head (dce.MutexattrCreate n) = call.MutexattrCreate
call_head (dce.MutexattrSetkindNp n kind) = call.MutexattrSetkindNp
call_head (dce.MutexattrDelete n) = call.MutexattrDelete
call_head (dce.MutexInit n attr) = call.MutexInit
call_head (dce.MutexDestroy n) = call.MutexDestroy
call_head (dce.MutexLock n) = call.MutexLock
call_head (dce.MutexTrylock n v) = call.MutexTrylock
call_head (dce.MutexUnlock n) = call.MutexUnlock
call_head dce.LockGlobalNp = call.LockGlobalNp
call_head dce.UnlockGlobalNp = call.UnlockGlobalNp
call_head (dce.CondInit n) = call.CondInit
call_head (dce.CondDestroy n) = call.CondDestroy
call_head (dce.CondWait n1 n2) = call.CondWait
call_head (dce.CondTimedwait n1 n2 e) = call.CondTimedwait
call_head (dce.CondSignal n) = call.CondSignal
call_head (dce.CondBroadcast n) = call.CondBroadcast
call_head (dce.Once n1 n2) = call.Once
call_head (dce.Keycreate n destructor) = call.Keycreate
call_head (dce.Setspecific n e) = call.Setspecific
call_head (dce.Getspecific n v) = call.Getspecific
call_head (dce.Read n v1 v2) = call.Read
call_head (dce.Write n e) = call.Write
call_head (dce.Close n) = call.Close

unfoldable pub form_head : Form → Head
form_head form.Header = head.End
form_head (form.Interface i) = head.Interface
form_head (form.Limit n) = head.Limit
form_head (form.Shared name n) = head.Shared
form_head (form.Exception name) = head.Exception
form_head (form.Status name n) = head.Status
form_head (form.Mutex name) = head.Mutex
form_head (form.MutexAttr name) = head.Mutexattr
form_head (form.Cond name) = head.Cond
form_head (form.Attr name) = head.Attr
form_head (form.Key name) = head.Key
form_head (form.Once name) = head.Once
form_head (form.Pipe name n) = head.Pipe
form_head (form.Routine name parameter) = head.Routine
form_head (form.Local name) = head.Local
form_head (form.Set v e) = head.Set
form_head (form.Say e) = head.Say
form_head (form.If e) = head.If
form_head form.Else = head.Else
form_head (form.While e) = head.While
form_head form.Try = head.Try
form_head (form.Catch x) = head.Catch
form_head form.CatchAll = head.CatchAll
form_head form.Finally = head.Finally
form_head form.Endtry = head.Endtry
form_head (form.Raise x) = head.Raise
form_head form.Reraise = head.Reraise
form_head (form.Call r e v) = head.Call
form_head (form.Return e) = head.Return
form_head (form.Exit e) = head.Exit
form_head form.End = head.End
form_head (form.Dce c) = head.Dce (call_head c)

unfoldable pub call_values : DceCall → List Value
call_values (dce.AttrCreate n) = value.Id n ∷ []
call_values (dce.AttrDelete n) = value.Id n ∷ []
call_values (dce.AttrSetsched n policy) = value.Id n ∷ value.Policy policy ∷ []
call_values (dce.AttrSetprio n e) = value.Id n ∷ value.Expression e ∷ []
call_values (dce.AttrSetinheritsched n inherits) = value.Id n ∷ value.Inherit inherits ∷ []
call_values (dce.AttrSetstacksize n e) = value.Id n ∷ value.Expression e ∷ []
call_values (dce.Create v attr n e) = value.Variable v ∷ value.Maybe attr ∷ value.Id n ∷ value.Expression e ∷ []
call_values (dce.Join e v) = value.Expression e ∷ value.Variable v ∷ []
call_values (dce.Detach e) = value.Expression e ∷ []
call_values dce.Yield = []
call_values (dce.Cancel e) = value.Expression e ∷ []
call_values dce.Testcancel = []
call_values (dce.Setcancel on v) = value.Cancel on ∷ value.Variable v ∷ []
call_values (dce.Setasynccancel on v) = value.Cancel on ∷ value.Variable v ∷ []
call_values (dce.Setprio e1 e2 v) = value.Expression e1 ∷ value.Expression e2 ∷ value.Variable v ∷ []
call_values (dce.Getprio e v) = value.Expression e ∷ value.Variable v ∷ []
call_values (dce.Setscheduler e1 policy e2 v) = value.Expression e1 ∷ value.Policy policy ∷ value.Expression e2 ∷ value.Variable v ∷ []
call_values (dce.Getscheduler e v) = value.Expression e ∷ value.Variable v ∷ []
call_values (dce.DelayNp e) = value.Expression e ∷ []
call_values (dce.GetExpirationNp e v) = value.Expression e ∷ value.Variable v ∷ []
call_values (dce.MutexattrCreate n) = value.Id n ∷ []
call_values (dce.MutexattrSetkindNp n kind) = value.Id n ∷ value.Kind kind ∷ []
call_values (dce.MutexattrDelete n) = value.Id n ∷ []
call_values (dce.MutexInit n attr) = value.Id n ∷ value.Maybe attr ∷ []
call_values (dce.MutexDestroy n) = value.Id n ∷ []
call_values (dce.MutexLock n) = value.Id n ∷ []
call_values (dce.MutexTrylock n v) = value.Id n ∷ value.Variable v ∷ []
call_values (dce.MutexUnlock n) = value.Id n ∷ []
call_values dce.LockGlobalNp = []
call_values dce.UnlockGlobalNp = []
call_values (dce.CondInit n) = value.Id n ∷ []
call_values (dce.CondDestroy n) = value.Id n ∷ []
call_values (dce.CondWait n1 n2) = value.Id n1 ∷ value.Id n2 ∷ []
call_values (dce.CondTimedwait n1 n2 e) = value.Id n1 ∷ value.Id n2 ∷ value.Expression e ∷ []
call_values (dce.CondSignal n) = value.Id n ∷ []
call_values (dce.CondBroadcast n) = value.Id n ∷ []
call_values (dce.Once n1 n2) = value.Id n1 ∷ value.Id n2 ∷ []
call_values (dce.Keycreate n destructor) = value.Id n ∷ value.Maybe destructor ∷ []
call_values (dce.Setspecific n e) = value.Id n ∷ value.Expression e ∷ []
call_values (dce.Getspecific n v) = value.Id n ∷ value.Variable v ∷ []
call_values (dce.Read n v1 v2) = value.Id n ∷ value.Variable v1 ∷ value.Variable v2 ∷ []
call_values (dce.Write n e) = value.Id n ∷ value.Expression e ∷ []
call_values (dce.Close n) = value.Id n ∷ []

unfoldable pub form_values : Form → List Value
form_values form.Header = []
form_values (form.Interface i) = value.Interface i ∷ []
form_values (form.Limit n) = value.Number (pos n) ∷ []
form_values (form.Shared name n) = value.Id name ∷ value.Number n ∷ []
form_values (form.Exception name) = value.Id name ∷ []
form_values (form.Status name n) = value.Id name ∷ value.Number n ∷ []
form_values (form.Mutex name) = value.Id name ∷ []
form_values (form.MutexAttr name) = value.Id name ∷ []
form_values (form.Cond name) = value.Id name ∷ []
form_values (form.Attr name) = value.Id name ∷ []
form_values (form.Key name) = value.Id name ∷ []
form_values (form.Once name) = value.Id name ∷ []
form_values (form.Pipe name n) = value.Id name ∷ value.Number (pos n) ∷ []
form_values (form.Routine name parameter) = value.Id name ∷ value.Own (Some parameter) ∷ []
form_values (form.Local name) = value.Own (Some name) ∷ []
form_values (form.Set v e) = value.Variable v ∷ value.Expression e ∷ []
form_values (form.Say e) = value.Expression e ∷ []
form_values (form.If e) = value.Expression e ∷ []
form_values form.Else = []
form_values (form.While e) = value.Expression e ∷ []
form_values form.Try = []
form_values (form.Catch x) = value.Id x ∷ []
form_values form.CatchAll = []
form_values form.Finally = []
form_values form.Endtry = []
form_values (form.Raise x) = value.Id x ∷ []
form_values form.Reraise = []
form_values (form.Call r e v) = value.Id r ∷ value.Expression e ∷ value.Receiver v ∷ []
form_values (form.Return e) = value.Expression e ∷ []
form_values (form.Exit e) = value.Expression e ∷ []
form_values form.End = []
form_values (form.Dce c) = call_values c

-- The words of a value in its slot.
abbrev pub words_at : Scope → Slot → Value → List (List ℕ)
words_at scope s (value.Number n) = signed_decimal n ∷ []
words_at scope s (value.Interface i) = interface_word i ∷ []
words_at scope s (value.Policy p) = policy_word p ∷ []
words_at scope s (value.Inherit b) = inherit_word b ∷ []
words_at scope s (value.Cancel b) = cancel_word b ∷ []
words_at scope s (value.Kind k) = kind_word k ∷ []
words_at scope s (value.Id id) = name_of scope id ∷ []
words_at scope (slot.ObjectOr k) (value.Maybe o) = name_or (absent_word k) scope o ∷ []
words_at scope s (value.Maybe o) = []
words_at scope s (value.Own None) = []
words_at scope s (value.Own (Some name)) = name ∷ []
words_at scope s (value.Variable v) = variable_of scope v ∷ []
words_at scope s (value.Receiver o) = value_words scope o
words_at scope s (value.Expression e) = expr_words scope e

unfoldable pub words_in_slots : Scope → List Slot → List Value → List (List ℕ)
words_in_slots scope [] vs = []
words_in_slots scope (s ∷ slots) [] = []
words_in_slots scope (s ∷ slots) (v ∷ vs) = words_at scope s v ++ words_in_slots scope slots vs

-- The value is of the kind that stands in the slot.
abbrev pub IsIn : Slot → Value → Type 0
IsIn slot.Number (value.Number n) = Unit {0}
IsIn (slot.Fixed choice.Interface) (value.Interface i) = Unit {0}
IsIn (slot.Fixed choice.Policy) (value.Policy p) = Unit {0}
IsIn (slot.Fixed choice.Inherit) (value.Inherit b) = Unit {0}
IsIn (slot.Fixed choice.Cancel) (value.Cancel b) = Unit {0}
IsIn (slot.Fixed choice.MutexKind) (value.Kind k) = Unit {0}
IsIn (slot.Declared k) (value.Id id) = Unit {0}
IsIn slot.Parameter (value.Own (Some name)) = Unit {0}
IsIn slot.Local (value.Own (Some name)) = Unit {0}
IsIn (slot.Object k) (value.Id id) = Unit {0}
IsIn (slot.ObjectOr k) (value.Maybe o) = Unit {0}
IsIn slot.Variable (value.Variable v) = Unit {0}
IsIn slot.Receiver (value.Receiver o) = Unit {0}
IsIn slot.Expression (value.Expression e) = Unit {0}
IsIn _ _ = ⊥

abbrev pub AreIn : List Slot → List Value → Type 0
AreIn [] [] = Unit {0}
AreIn (s ∷ slots) (v ∷ vs) = IsIn s v × AreIn slots vs
AreIn _ _ = ⊥

-- How the lines of a script are spelled, word by word (docs/script.md, "The canonical text").
use Rattle.std.specs.Prelude.{ℕ, List, [], ◌∷◌, ◌++◌, codes, slice_get, unwrap_or, Option, Some, None}
use Rattle.std.specs.Fmt.{decimal, signed_decimal}
use Rattle.thr_values.specs.declared.number.NameId.{NameId}
use Rattle.thr_values.specs.declared.call.CallWord.TheVariants as word
use Rattle.thr_values.specs.Words.{call_word, policy_word, kind_word, inherit_word, cancel_word}
use Rattle.thr_syntax.specs.declared.expr.Var.{Var}
use Rattle.thr_syntax.specs.declared.expr.Var.TheVariants.{Local, Shared}
use Rattle.thr_syntax.specs.declared.expr.ExcRef.{ExcRef}
use Rattle.thr_syntax.specs.declared.expr.ExcRef.TheVariants.{Named, This}
use Rattle.thr_syntax.specs.declared.expr.Op.{Op}
use Rattle.thr_syntax.specs.declared.expr.Op.TheVariants as op
use Rattle.thr_syntax.specs.declared.expr.Expr.{Expr}
use Rattle.thr_syntax.specs.declared.expr.Expr.TheOpen.{Expr-F}
use Rattle.thr_syntax.specs.declared.expr.Expr.TheOpen as one_expr
use Rattle.thr_syntax.specs.declared.dce.DceCall.{DceCall}
use Rattle.thr_syntax.specs.declared.dce.DceCall.TheVariants as dce
use Rattle.thr_syntax.specs.declared.form.Form.{Form}
use Rattle.thr_syntax.specs.declared.form.Form.TheVariants as form
use Rattle.thr_syntax.specs.declared.tree.Interface.{Interface}
use Rattle.thr_syntax.specs.declared.tree.Interface.TheVariants as interface
use Rattle.thr_syntax.specs.Folds.{each_expr}

-- The names of a script and of a routine's parameter and locals, by which its lines are spelled.
pub record Scope : Type 0 where
  pub names : List (List ℕ)
  pub locals : List (List ℕ)

abbrev pub name_at : List (List ℕ) → ℕ → List ℕ
name_at names n = unwrap_or (slice_get names n) []

abbrev pub name_of : Scope → NameId → List ℕ
name_of scope name = name_at scope.names name.0

abbrev pub local_of : Scope → ℕ → List ℕ
local_of scope place = name_at scope.locals place

abbrev pub variable_of : Scope → Var → List ℕ
variable_of scope (Local place) = local_of scope place
variable_of scope (Shared name) = name_of scope name

abbrev pub exception_of : Scope → ExcRef → List ℕ
exception_of scope (Named name) = name_of scope name
exception_of scope This = codes "this"

-- The word of a name, or this word where there is none.
abbrev pub name_or : List ℕ → Scope → Option NameId → List ℕ
name_or word scope None = word
name_or word scope (Some name) = name_of scope name

-- The word of an operator (docs/script.md, "Expressions").
abbrev pub operator_word : Op → List ℕ
operator_word op.Add = codes "+"
operator_word op.Sub = codes "-"
operator_word op.Mul = codes "*"
operator_word op.Div = codes "/"
operator_word op.Rem = codes "%"
operator_word op.Equal = codes "=="
operator_word op.Differs = codes "!="
operator_word op.Less = codes "<"
operator_word op.AtMost = codes "<="
operator_word op.Greater = codes ">"
operator_word op.AtLeast = codes ">="
operator_word op.And = codes "and"
operator_word op.Or = codes "or"

-- One expression in prefix form, with the words of each operand in its place (docs/script.md, "Expressions").
abbrev pub expr_step : Scope → Expr-F (List (List ℕ)) → List (List ℕ)
expr_step scope (one_expr.Num n) = signed_decimal n ∷ []
expr_step scope (one_expr.Var v) = variable_of scope v ∷ []
expr_step scope one_expr.Me = codes "self" ∷ []
expr_step scope one_expr.Err = codes "err" ∷ []
expr_step scope (one_expr.Two o a b) = operator_word o ∷ (a ++ b)
expr_step scope (one_expr.Not a) = codes "not" ∷ a
expr_step scope (one_expr.GetStatus x) = codes "exc_get_status" ∷ exception_of scope x ∷ []
expr_step scope (one_expr.Matches x y) = codes "exc_matches" ∷ exception_of scope x ∷ exception_of scope y ∷ []

abbrev pub expr_words : Scope → Expr → List (List ℕ)
expr_words scope = each_expr (expr_step scope)

-- The words of a call of the thread service (docs/script.md, "Calls").
abbrev pub dce_words : Scope → DceCall → List (List ℕ)
dce_words scope (dce.AttrCreate n) = call_word word.AttrCreate ∷ name_of scope n ∷ []
dce_words scope (dce.AttrDelete n) = call_word word.AttrDelete ∷ name_of scope n ∷ []
dce_words scope (dce.AttrSetsched n policy) = call_word word.AttrSetsched ∷ name_of scope n ∷ policy_word policy ∷ []
dce_words scope (dce.AttrSetprio n e) = call_word word.AttrSetprio ∷ name_of scope n ∷ expr_words scope e
dce_words scope (dce.AttrSetinheritsched n inherits) = call_word word.AttrSetinheritsched ∷ name_of scope n ∷ inherit_word inherits ∷ []
dce_words scope (dce.AttrSetstacksize n e) = call_word word.AttrSetstacksize ∷ name_of scope n ∷ expr_words scope e
dce_words scope (dce.Create v attr n e) = call_word word.Create ∷ variable_of scope v ∷ name_or (codes "default") scope attr ∷ name_of scope n ∷ expr_words scope e
dce_words scope (dce.Join e v) = call_word word.Join ∷ (expr_words scope e ++ variable_of scope v ∷ [])
dce_words scope (dce.Detach e) = call_word word.Detach ∷ expr_words scope e
dce_words scope dce.Yield = call_word word.Yield ∷ []
dce_words scope (dce.Cancel e) = call_word word.Cancel ∷ expr_words scope e
dce_words scope dce.Testcancel = call_word word.Testcancel ∷ []
dce_words scope (dce.Setcancel on v) = call_word word.Setcancel ∷ cancel_word on ∷ variable_of scope v ∷ []
dce_words scope (dce.Setasynccancel on v) = call_word word.Setasynccancel ∷ cancel_word on ∷ variable_of scope v ∷ []
dce_words scope (dce.Setprio e1 e2 v) = call_word word.Setprio ∷ (expr_words scope e1 ++ (expr_words scope e2 ++ variable_of scope v ∷ []))
dce_words scope (dce.Getprio e v) = call_word word.Getprio ∷ (expr_words scope e ++ variable_of scope v ∷ [])
dce_words scope (dce.Setscheduler e1 policy e2 v) = call_word word.Setscheduler ∷ (expr_words scope e1 ++ policy_word policy ∷ (expr_words scope e2 ++ variable_of scope v ∷ []))
dce_words scope (dce.Getscheduler e v) = call_word word.Getscheduler ∷ (expr_words scope e ++ variable_of scope v ∷ [])
dce_words scope (dce.DelayNp e) = call_word word.DelayNp ∷ expr_words scope e
dce_words scope (dce.GetExpirationNp e v) = call_word word.GetExpirationNp ∷ (expr_words scope e ++ variable_of scope v ∷ [])
dce_words scope (dce.MutexattrCreate n) = call_word word.MutexattrCreate ∷ name_of scope n ∷ []
dce_words scope (dce.MutexattrSetkindNp n kind) = call_word word.MutexattrSetkindNp ∷ name_of scope n ∷ kind_word kind ∷ []
dce_words scope (dce.MutexattrDelete n) = call_word word.MutexattrDelete ∷ name_of scope n ∷ []
dce_words scope (dce.MutexInit n attr) = call_word word.MutexInit ∷ name_of scope n ∷ name_or (codes "default") scope attr ∷ []
dce_words scope (dce.MutexDestroy n) = call_word word.MutexDestroy ∷ name_of scope n ∷ []
dce_words scope (dce.MutexLock n) = call_word word.MutexLock ∷ name_of scope n ∷ []
dce_words scope (dce.MutexTrylock n v) = call_word word.MutexTrylock ∷ name_of scope n ∷ variable_of scope v ∷ []
dce_words scope (dce.MutexUnlock n) = call_word word.MutexUnlock ∷ name_of scope n ∷ []
dce_words scope dce.LockGlobalNp = call_word word.LockGlobalNp ∷ []
dce_words scope dce.UnlockGlobalNp = call_word word.UnlockGlobalNp ∷ []
dce_words scope (dce.CondInit n) = call_word word.CondInit ∷ name_of scope n ∷ []
dce_words scope (dce.CondDestroy n) = call_word word.CondDestroy ∷ name_of scope n ∷ []
dce_words scope (dce.CondWait n1 n2) = call_word word.CondWait ∷ name_of scope n1 ∷ name_of scope n2 ∷ []
dce_words scope (dce.CondTimedwait n1 n2 e) = call_word word.CondTimedwait ∷ name_of scope n1 ∷ name_of scope n2 ∷ expr_words scope e
dce_words scope (dce.CondSignal n) = call_word word.CondSignal ∷ name_of scope n ∷ []
dce_words scope (dce.CondBroadcast n) = call_word word.CondBroadcast ∷ name_of scope n ∷ []
dce_words scope (dce.Once n1 n2) = call_word word.Once ∷ name_of scope n1 ∷ name_of scope n2 ∷ []
dce_words scope (dce.Keycreate n destructor) = call_word word.Keycreate ∷ name_of scope n ∷ name_or (codes "none") scope destructor ∷ []
dce_words scope (dce.Setspecific n e) = call_word word.Setspecific ∷ name_of scope n ∷ expr_words scope e
dce_words scope (dce.Getspecific n v) = call_word word.Getspecific ∷ name_of scope n ∷ variable_of scope v ∷ []
dce_words scope (dce.Read n v1 v2) = call_word word.Read ∷ name_of scope n ∷ variable_of scope v1 ∷ variable_of scope v2 ∷ []
dce_words scope (dce.Write n e) = call_word word.Write ∷ name_of scope n ∷ expr_words scope e
dce_words scope (dce.Close n) = call_word word.Close ∷ name_of scope n ∷ []

abbrev pub interface_word : Interface → List ℕ
interface_word interface.Exc = codes "exc"
interface_word interface.Status = codes "status"

abbrev pub value_words : Scope → Option ℕ → List (List ℕ)
value_words scope None = []
value_words scope (Some place) = local_of scope place ∷ []

-- The words of a line (docs/script.md, "Lines").
abbrev pub form_words : Scope → Form → List (List ℕ)
form_words scope form.Header = codes "dcethr" ∷ codes "1" ∷ []
form_words scope (form.Interface i) = codes "interface" ∷ interface_word i ∷ []
form_words scope (form.Limit n) = codes "limit" ∷ decimal n ∷ []
form_words scope (form.Shared name n) = codes "shared" ∷ name_of scope name ∷ signed_decimal n ∷ []
form_words scope (form.Exception name) = codes "exception" ∷ name_of scope name ∷ []
form_words scope (form.Status name n) = codes "status" ∷ name_of scope name ∷ signed_decimal n ∷ []
form_words scope (form.Mutex name) = codes "mutex" ∷ name_of scope name ∷ []
form_words scope (form.MutexAttr name) = codes "mutexattr" ∷ name_of scope name ∷ []
form_words scope (form.Cond name) = codes "cond" ∷ name_of scope name ∷ []
form_words scope (form.Attr name) = codes "attr" ∷ name_of scope name ∷ []
form_words scope (form.Key name) = codes "key" ∷ name_of scope name ∷ []
form_words scope (form.Once name) = codes "once" ∷ name_of scope name ∷ []
form_words scope (form.Pipe name n) = codes "pipe" ∷ name_of scope name ∷ decimal n ∷ []
form_words scope (form.Routine name parameter) = codes "routine" ∷ name_of scope name ∷ parameter ∷ []
form_words scope (form.Local name) = codes "local" ∷ name ∷ []
form_words scope (form.Set v e) = codes "set" ∷ variable_of scope v ∷ expr_words scope e
form_words scope (form.Say e) = codes "say" ∷ expr_words scope e
form_words scope (form.If e) = codes "if" ∷ expr_words scope e
form_words scope form.Else = codes "else" ∷ []
form_words scope (form.While e) = codes "while" ∷ expr_words scope e
form_words scope form.Try = codes "try" ∷ []
form_words scope (form.Catch x) = codes "catch" ∷ name_of scope x ∷ []
form_words scope form.CatchAll = codes "catch_all" ∷ []
form_words scope form.Finally = codes "finally" ∷ []
form_words scope form.Endtry = codes "endtry" ∷ []
form_words scope (form.Raise x) = codes "raise" ∷ name_of scope x ∷ []
form_words scope form.Reraise = codes "reraise" ∷ []
form_words scope (form.Call r e v) = codes "call" ∷ name_of scope r ∷ (expr_words scope e ++ value_words scope v)
form_words scope (form.Return e) = codes "return" ∷ expr_words scope e
form_words scope (form.Exit e) = codes "pthread_exit" ∷ expr_words scope e
form_words scope (form.Dce call) = dce_words scope call
form_words scope form.End = codes "end" ∷ []

-- What the names in a line stand for (docs/script.md, "Names" and "Lines").
use Rattle.std.specs.Prelude.{◌≡◌, ℕ, ℤ, zero, suc, ◌-◌, ◌<◌, nat_lt, true, if◌then◌else◌, List, [], ◌∷◌, ◌++◌, length, slice_get, Option, Some, None}
use Rattle.thr_values.specs.declared.number.NameId.{NameId}
use Rattle.thr_syntax.specs.declared.expr.Var.{Var}
use Rattle.thr_syntax.specs.declared.expr.Var.TheVariants.{Local, Shared}
use Rattle.thr_syntax.specs.declared.expr.ExcRef.{ExcRef}
use Rattle.thr_syntax.specs.declared.expr.ExcRef.TheVariants.{Named, This}
use Rattle.thr_syntax.specs.declared.expr.Expr.{Expr}
use Rattle.thr_syntax.specs.declared.expr.Expr.TheOpen.{Expr-F}
use Rattle.thr_syntax.specs.declared.expr.Expr.TheOpen as one_expr
use Rattle.thr_syntax.specs.declared.dce.DceCall.{DceCall}
use Rattle.thr_syntax.specs.declared.dce.DceCall.TheVariants as dce
use Rattle.thr_syntax.specs.declared.form.Form.{Form}
use Rattle.thr_syntax.specs.declared.form.Form.TheVariants as form
use Rattle.thr_syntax.specs.declared.tree.Item.{Item}
use Rattle.thr_syntax.specs.declared.tree.Item.TheVariants as item
use Rattle.thr_syntax.specs.declared.tree.Script.{Script}
use Rattle.thr_syntax.specs.Canon.{locals_in}
use Rattle.thr_syntax.specs.Folds.{each_expr}
use Rattle.thr_syntax.specs.Lines.{item_lines}
use Rattle.thr_syntax.specs.Shared.{variables_of}
use Rattle.thr_text.specs.declared.object.Object.{Object}
use Rattle.thr_text.specs.declared.object.Object.TheVariants as object
use Rattle.thr_trees.specs.Kinds.{declared_by, is_name_of}

-- ---- the names in a line

-- A name with the kind that its place asks (docs/script.md, "Names").
abbrev pub Asked : Type 0
Asked = NameId × Object

-- The name that a line declares, with its kind (docs/script.md, "Lines").
abbrev pub declared_in : Form → List Asked
declared_in (form.Shared name n) = (name, object.Shared) ∷ []
declared_in (form.Exception name) = (name, object.Exception) ∷ []
declared_in (form.Status name n) = (name, object.Exception) ∷ []
declared_in (form.Mutex name) = (name, object.Mutex) ∷ []
declared_in (form.MutexAttr name) = (name, object.Mutexattr) ∷ []
declared_in (form.Cond name) = (name, object.Cond) ∷ []
declared_in (form.Attr name) = (name, object.Attr) ∷ []
declared_in (form.Key name) = (name, object.Key) ∷ []
declared_in (form.Once name) = (name, object.Once) ∷ []
declared_in (form.Pipe name n) = (name, object.Pipe) ∷ []
declared_in (form.Routine name parameter) = (name, object.Routine) ∷ []
declared_in _ = []

-- What a declaration declares, as a list of one name or of none (docs/script.md, "Lines").
abbrev pub declared_of : Option Asked → List Asked
declared_of None = []
declared_of (Some a) = a ∷ []

-- What declarations declare, in their order (docs/script.md, "Names").
abbrev pub declared_among : List Item → List Asked
declared_among [] = []
declared_among (i ∷ items) = declared_of (declared_by i) ++ declared_among items

-- The name that may be absent, where it isn't (docs/script.md, "Calls").
abbrev pub asked_if : Object → Option NameId → List Asked
asked_if kind None = []
asked_if kind (Some name) = (name, kind) ∷ []

-- The objects and routines that a call names, each with the kind that its place asks (docs/script.md, "Calls").
abbrev pub named_in_call : DceCall → List Asked
named_in_call (dce.AttrCreate n) = (n, object.Attr) ∷ []
named_in_call (dce.AttrDelete n) = (n, object.Attr) ∷ []
named_in_call (dce.AttrSetsched n policy) = (n, object.Attr) ∷ []
named_in_call (dce.AttrSetprio n e) = (n, object.Attr) ∷ []
named_in_call (dce.AttrSetinheritsched n inherits) = (n, object.Attr) ∷ []
named_in_call (dce.AttrSetstacksize n e) = (n, object.Attr) ∷ []
named_in_call (dce.Create v attr n e) = asked_if object.Attr attr ++ (n, object.Routine) ∷ []
named_in_call (dce.MutexattrCreate n) = (n, object.Mutexattr) ∷ []
named_in_call (dce.MutexattrSetkindNp n kind) = (n, object.Mutexattr) ∷ []
named_in_call (dce.MutexattrDelete n) = (n, object.Mutexattr) ∷ []
named_in_call (dce.MutexInit n attr) = (n, object.Mutex) ∷ asked_if object.Mutexattr attr
named_in_call (dce.MutexDestroy n) = (n, object.Mutex) ∷ []
named_in_call (dce.MutexLock n) = (n, object.Mutex) ∷ []
named_in_call (dce.MutexTrylock n v) = (n, object.Mutex) ∷ []
named_in_call (dce.MutexUnlock n) = (n, object.Mutex) ∷ []
named_in_call (dce.CondInit n) = (n, object.Cond) ∷ []
named_in_call (dce.CondDestroy n) = (n, object.Cond) ∷ []
named_in_call (dce.CondWait n m) = (n, object.Cond) ∷ (m, object.Mutex) ∷ []
named_in_call (dce.CondTimedwait n m e) = (n, object.Cond) ∷ (m, object.Mutex) ∷ []
named_in_call (dce.CondSignal n) = (n, object.Cond) ∷ []
named_in_call (dce.CondBroadcast n) = (n, object.Cond) ∷ []
named_in_call (dce.Once n r) = (n, object.Once) ∷ (r, object.Routine) ∷ []
named_in_call (dce.Keycreate n destructor) = (n, object.Key) ∷ asked_if object.Routine destructor
named_in_call (dce.Setspecific n e) = (n, object.Key) ∷ []
named_in_call (dce.Getspecific n v) = (n, object.Key) ∷ []
named_in_call (dce.Read n v w) = (n, object.Pipe) ∷ []
named_in_call (dce.Write n e) = (n, object.Pipe) ∷ []
named_in_call (dce.Close n) = (n, object.Pipe) ∷ []
named_in_call _ = []

-- The objects, exceptions and routines that a line names outside of its expressions, each with the kind that its place asks
-- (docs/script.md, "Lines").
abbrev pub named_in : Form → List Asked
named_in (form.Catch x) = (x, object.Exception) ∷ []
named_in (form.Raise x) = (x, object.Exception) ∷ []
named_in (form.Call r e place) = (r, object.Routine) ∷ []
named_in (form.Dce call) = named_in_call call
named_in _ = []

-- ---- the variables in a line

-- The variables in a call, those of its expressions and those that take a value (docs/script.md, "Calls").
abbrev pub variables_in_call : DceCall → List Var
variables_in_call (dce.AttrSetprio n e) = variables_of e
variables_in_call (dce.AttrSetstacksize n e) = variables_of e
variables_in_call (dce.Create v attr n e) = v ∷ variables_of e
variables_in_call (dce.Join e v) = variables_of e ++ v ∷ []
variables_in_call (dce.Detach e) = variables_of e
variables_in_call (dce.Cancel e) = variables_of e
variables_in_call (dce.Setcancel on v) = v ∷ []
variables_in_call (dce.Setasynccancel on v) = v ∷ []
variables_in_call (dce.Setprio e f v) = variables_of e ++ (variables_of f ++ v ∷ [])
variables_in_call (dce.Getprio e v) = variables_of e ++ v ∷ []
variables_in_call (dce.Setscheduler e policy f v) = variables_of e ++ (variables_of f ++ v ∷ [])
variables_in_call (dce.Getscheduler e v) = variables_of e ++ v ∷ []
variables_in_call (dce.DelayNp e) = variables_of e
variables_in_call (dce.GetExpirationNp e v) = variables_of e ++ v ∷ []
variables_in_call (dce.MutexTrylock n v) = v ∷ []
variables_in_call (dce.CondTimedwait n m e) = variables_of e
variables_in_call (dce.Setspecific n e) = variables_of e
variables_in_call (dce.Getspecific n v) = v ∷ []
variables_in_call (dce.Read n v w) = v ∷ w ∷ []
variables_in_call (dce.Write n e) = variables_of e
variables_in_call _ = []

-- The local that takes a returned value, where there is one (docs/script.md, "Lines").
abbrev pub receiver_in : Option ℕ → List Var
receiver_in None = []
receiver_in (Some place) = Local place ∷ []

-- The variables in a line, those that are read and those that are written (docs/script.md, "Lines").
abbrev pub variables_in : Form → List Var
variables_in (form.Set v e) = v ∷ variables_of e
variables_in (form.Say e) = variables_of e
variables_in (form.If e) = variables_of e
variables_in (form.While e) = variables_of e
variables_in (form.Call r e place) = variables_of e ++ receiver_in place
variables_in (form.Return e) = variables_of e
variables_in (form.Exit e) = variables_of e
variables_in (form.Dce call) = variables_in_call call
variables_in _ = []

-- ---- the exceptions in the expressions of a line

-- The exceptions of an expression, those of each operand in its place (docs/script.md, "Expressions").
abbrev pub exceptions_step : Expr-F (List ExcRef) → List ExcRef
exceptions_step (one_expr.Two o a b) = a ++ b
exceptions_step (one_expr.Not a) = a
exceptions_step (one_expr.GetStatus x) = x ∷ []
exceptions_step (one_expr.Matches x y) = x ∷ y ∷ []
exceptions_step _ = []

abbrev pub exceptions_of : Expr → List ExcRef
exceptions_of = each_expr exceptions_step

-- The exceptions in the expressions of a call (docs/script.md, "Calls").
abbrev pub exceptions_in_call : DceCall → List ExcRef
exceptions_in_call (dce.AttrSetprio n e) = exceptions_of e
exceptions_in_call (dce.AttrSetstacksize n e) = exceptions_of e
exceptions_in_call (dce.Create v attr n e) = exceptions_of e
exceptions_in_call (dce.Join e v) = exceptions_of e
exceptions_in_call (dce.Detach e) = exceptions_of e
exceptions_in_call (dce.Cancel e) = exceptions_of e
exceptions_in_call (dce.Setprio e f v) = exceptions_of e ++ exceptions_of f
exceptions_in_call (dce.Getprio e v) = exceptions_of e
exceptions_in_call (dce.Setscheduler e policy f v) = exceptions_of e ++ exceptions_of f
exceptions_in_call (dce.Getscheduler e v) = exceptions_of e
exceptions_in_call (dce.DelayNp e) = exceptions_of e
exceptions_in_call (dce.GetExpirationNp e v) = exceptions_of e
exceptions_in_call (dce.CondTimedwait n m e) = exceptions_of e
exceptions_in_call (dce.Setspecific n e) = exceptions_of e
exceptions_in_call (dce.Write n e) = exceptions_of e
exceptions_in_call _ = []

-- The exceptions in the expressions of a line (docs/script.md, "Lines").
abbrev pub exceptions_in : Form → List ExcRef
exceptions_in (form.Set v e) = exceptions_of e
exceptions_in (form.Say e) = exceptions_of e
exceptions_in (form.If e) = exceptions_of e
exceptions_in (form.While e) = exceptions_of e
exceptions_in (form.Call r e place) = exceptions_of e
exceptions_in (form.Return e) = exceptions_of e
exceptions_in (form.Exit e) = exceptions_of e
exceptions_in (form.Dce call) = exceptions_in_call call
exceptions_in _ = []

-- ---- what they stand for

-- Each name is one of the kind that its place asks (docs/script.md, "Names").
abbrev pub AreOfKinds : Script → List Asked → Type 0
AreOfKinds s [] = Unit {0}
AreOfKinds s (a ∷ more) = (is_name_of s a.1 a.0 ≡ true) × AreOfKinds s more

-- A local is one of the routine, which has so many; a shared variable is declared (docs/script.md, "Lines").
abbrev pub IsVariable : Script → ℕ → Var → Type 0
IsVariable s locals (Local place) = place < locals
IsVariable s locals (Shared name) = is_name_of s object.Shared name ≡ true

-- Each of these is such a variable (docs/script.md, "Lines").
abbrev pub AreVariables : Script → ℕ → List Var → Type 0
AreVariables s locals [] = Unit {0}
AreVariables s locals (v ∷ vs) = IsVariable s locals v × AreVariables s locals vs

-- A named exception is built in or declared (docs/script.md, "Expressions").
abbrev pub IsException : Script → ExcRef → Type 0
IsException s This = Unit {0}
IsException s (Named name) = is_name_of s object.Exception name ≡ true

-- Each of these is such an exception (docs/script.md, "Expressions").
abbrev pub AreExceptions : Script → List ExcRef → Type 0
AreExceptions s [] = Unit {0}
AreExceptions s (x ∷ xs) = IsException s x × AreExceptions s xs

-- Each name in a line is a declared or built-in one of the kind that its place asks, and each local is one of the routine,
-- which has so many with its parameter (docs/script.md, "Faults", F16 and F17).
pub record IsNamed (s : Script) (locals : ℕ) (f : Form) : Type 0 where
  pub declared : AreOfKinds s (declared_in f)
  pub named : AreOfKinds s (named_in f)
  pub variables : AreVariables s locals (variables_in f)
  pub exceptions : AreExceptions s (exceptions_in f)

-- Each of these lines is such a line (docs/script.md, "Faults").
abbrev pub AreNamed : Script → ℕ → List Form → Type 0
AreNamed s locals [] = Unit {0}
AreNamed s locals (f ∷ fs) = IsNamed s locals f × AreNamed s locals fs

-- The name is declared as a shared variable, with its opening value (docs/script.md, "Lines").
pub record IsShared (s : Script) (name : NameId) : Type 0 where
  pub place : ℕ
  pub value : ℤ
  pub declared : slice_get s.items place ≡ Some (item.Shared name value)

-- ---- the locals of the routine in which a line stands

-- How many parameters and locals the routine has in which the line at this place stands, among the lines of declarations; the
-- line of another declaration has none (docs/script.md, "Lines").
abbrev pub locals_from : List Item → ℕ → ℕ
locals_from [] place = 0
locals_from (i ∷ items) place = if nat_lt place (length (item_lines i)) then length (locals_in i) else locals_from items (place - length (item_lines i))

-- The same of the line at this place in the script, the first of which stands at place 0 (docs/script.md, "Lines").
abbrev pub locals_at : Script → ℕ → ℕ
locals_at s zero = 0
locals_at s (suc place) = locals_from s.items place

-- Names in calls fit tables by names, and routines in calls can be called.
use Rattle.std.proofs.Common.{◌≡◌, ℕ, ◌-◌, ◌<◌, ◌≤◌, true, [], ◌∷◌, ◌++◌, length, arith, Option, Some, None}
use Rattle.std.specs.Prelude.{slice_get, IfSome}
use Rattle.thr_values.specs.declared.number.NameId.{NameId}
use Rattle.thr_syntax.specs.declared.expr.Var.{Var}
use Rattle.thr_syntax.specs.declared.expr.Expr.{Expr}
use Rattle.thr_syntax.specs.declared.dce.DceCall.{DceCall}
use Rattle.thr_syntax.specs.declared.dce.DceCall.TheVariants as dce
use Rattle.thr_syntax.specs.declared.form.Form.{Form}
use Rattle.thr_syntax.specs.declared.form.Form.TheVariants as form
use Rattle.thr_syntax.specs.declared.tree.Script.{Script}
use Rattle.thr_syntax.specs.Lines.{lines_of}
use Rattle.thr_text.specs.declared.object.Object.{Object}
use Rattle.thr_text.specs.declared.object.Object.TheVariants as object
use Rattle.thr_trees.specs.Kinds.{is_name_of}
use Rattle.thr_trees.specs.Names.{asked_if, named_in_call, AreOfKinds, IsNamed, locals_at}
use Rattle.thr_trees.specs.Routines as trees
use Rattle.thr_remainder.specs.Remainders.{Remainder}
use Rattle.thr_parts.specs.Tables.{names}
use Rattle.thr_services.specs.Sound.{NamesFit}
use Rattle.thr_frames.specs.Stacks.{IsRoutine, IsNextCall}

-- ---- laws of scripts that keep the rules

-- Each name in a line is of the kind that its place asks.
abbrev pub LineLaw : Script → Type 0
LineLaw s = (k : ℕ) (f : Form) → slice_get (lines_of s) k ≡ Some f → IsNamed s (locals_at s k) f

-- Each name that stands for something is one of the script's.
abbrev pub BelowLaw : Script → Type 0
BelowLaw s = (kind : Object) (name : NameId) → is_name_of s kind name ≡ true → name.0 < length s.names

below-all : (m k : ℕ) → k < m → m ≤ 1010 → k < 1010
below-all m k h few = omega arith

pub fits : (s : Script) → BelowLaw s → length s.names ≤ 1010 → (kind : Object) (name : NameId) → is_name_of s kind name ≡ true → name.0 < names
fits s below few kind name h = below-all (length s.names) name.0 (below kind name h) few

-- ---- names of objects

-- Names of kinds fit.
abbrev Fit : Script → Type 0
Fit s = (kind : Object) (name : NameId) → is_name_of s kind name ≡ true → name.0 < names

if-fits : (s : Script) → Fit s → (kind : Object) (name : Option NameId) → AreOfKinds s (asked_if kind name) → IfSome name (λ n. n.0 < names)
if-fits s fit kind None h = tt
if-fits s fit kind (Some name) h = fit kind name h.0

attr-fits : (s : Script) → Fit s → (attr : Option NameId) (routine : NameId) → AreOfKinds s (asked_if object.Attr attr ++ (routine, object.Routine) ∷ []) → IfSome attr (λ n. n.0 < names)
attr-fits s fit None routine h = tt
attr-fits s fit (Some name) routine h = fit object.Attr name h.0

call-fits : (s : Script) → Fit s → (call : DceCall) → AreOfKinds s (named_in_call call) → NamesFit call
call-fits s fit (dce.AttrCreate n) h = fit object.Attr n h.0
call-fits s fit (dce.AttrDelete n) h = fit object.Attr n h.0
call-fits s fit (dce.AttrSetsched n policy) h = fit object.Attr n h.0
call-fits s fit (dce.AttrSetprio n e) h = fit object.Attr n h.0
call-fits s fit (dce.AttrSetinheritsched n inherits) h = fit object.Attr n h.0
call-fits s fit (dce.AttrSetstacksize n e) h = fit object.Attr n h.0
call-fits s fit (dce.Create v attr n e) h = attr-fits s fit attr n h
call-fits s fit (dce.MutexattrCreate n) h = fit object.Mutexattr n h.0
call-fits s fit (dce.MutexattrSetkindNp n kind) h = fit object.Mutexattr n h.0
call-fits s fit (dce.MutexattrDelete n) h = fit object.Mutexattr n h.0
call-fits s fit (dce.MutexInit n attr) h = (fit object.Mutex n h.0, if-fits s fit object.Mutexattr attr h.1)
call-fits s fit (dce.MutexDestroy n) h = fit object.Mutex n h.0
call-fits s fit (dce.MutexLock n) h = fit object.Mutex n h.0
call-fits s fit (dce.MutexTrylock n v) h = fit object.Mutex n h.0
call-fits s fit (dce.MutexUnlock n) h = fit object.Mutex n h.0
call-fits s fit (dce.CondInit n) h = fit object.Cond n h.0
call-fits s fit (dce.CondDestroy n) h = fit object.Cond n h.0
call-fits s fit (dce.CondWait n m) h = (fit object.Cond n h.0, fit object.Mutex m h.1.0)
call-fits s fit (dce.CondTimedwait n m e) h = (fit object.Cond n h.0, fit object.Mutex m h.1.0)
call-fits s fit (dce.CondSignal n) h = fit object.Cond n h.0
call-fits s fit (dce.CondBroadcast n) h = fit object.Cond n h.0
call-fits s fit (dce.Once n r) h = fit object.Once n h.0
call-fits s fit (dce.Keycreate n destructor) h = fit object.Key n h.0
call-fits s fit (dce.Setspecific n e) h = fit object.Key n h.0
call-fits s fit (dce.Getspecific n v) h = fit object.Key n h.0
call-fits s fit (dce.Read n v w) h = fit object.Pipe n h.0
call-fits s fit (dce.Write n e) h = fit object.Pipe n h.0
call-fits s fit (dce.Close n) h = fit object.Pipe n h.0
call-fits s fit _ h = tt

-- The names of the call that is next fit tables.
pub next-fits : (s : Script) (r : Remainder) (call : DceCall) → LineLaw s → BelowLaw s → length s.names ≤ 1010 → IsNextCall s r call → NamesFit call
next-fits s r call line below few next = call-fits s (fits s below few) call (line (next.spot.line - 1) (form.Dce call) next.stands).named

-- ---- routines

-- A routine of a script that keeps the rules can be called.
pub as-routine : (s : Script) (name : NameId) → trees.IsRoutine s name → IsRoutine s name
as-routine s name h = record { entry = h.entry; declared = h.declared; few = h.few }

-- The routine of a thread that a line makes is there.
abbrev pub CreateLaw : Script → Type 0
CreateLaw s = (k : ℕ) (v : Var) (attr : Option NameId) (name : NameId) (e : Expr) → slice_get (lines_of s) k ≡ Some (form.Dce (dce.Create v attr name e)) → trees.IsRoutine s name

pub create-routine : (s : Script) (r : Remainder) (v : Var) (attr : Option NameId) (name : NameId) (e : Expr) → CreateLaw s → IsNextCall s r (dce.Create v attr name e) → IsRoutine s name
create-routine s r v attr name e law next = as-routine s name (law (next.spot.line - 1) v attr name e next.stands)

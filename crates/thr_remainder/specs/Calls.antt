-- The calls of the thread service: their words, arguments and variables, and which are points (docs/script.md, "Calls").
use Rattle.std.specs.Prelude.{ℕ, ℤ, pos, List, [], ◌∷◌, ◌++◌, take, replicate, Bool, true, false, Option, Some, None}
use Rattle.thr_values.specs.declared.number.NameId.{NameId}
use Rattle.thr_values.specs.declared.scheduling.Policy.{Policy}
use Rattle.thr_values.specs.declared.scheduling.Policy.TheVariants.{Fifo, Rr, Fg, Bg}
use Rattle.thr_values.specs.declared.reply.Kind.{Kind}
use Rattle.thr_values.specs.declared.reply.Kind.TheVariants.{Fast, Recursive, Nonrecursive}
use Rattle.thr_values.specs.declared.reply.Reply.{Reply}
use Rattle.thr_values.specs.declared.reply.Reply.TheVariants as reply
use Rattle.thr_values.specs.declared.call.CallWord.{CallWord}
use Rattle.thr_values.specs.declared.call.CallWord.TheVariants as word
use Rattle.thr_values.specs.declared.call.Arg.{Arg}
use Rattle.thr_values.specs.declared.call.Arg.TheVariants as arg
use Rattle.thr_syntax.specs.declared.expr.Var.{Var}
use Rattle.thr_syntax.specs.declared.expr.Expr.{Expr}
use Rattle.thr_syntax.specs.declared.dce.DceCall.{DceCall}
use Rattle.thr_syntax.specs.declared.dce.DceCall.TheVariants as dce

-- The calls that are points: a cancel is delivered in their place (docs/machine.md, "Cancels").
abbrev pub is_point : CallWord → Bool
is_point word.Testcancel = true
is_point word.CondWait = true
is_point word.CondTimedwait = true
is_point word.Join = true
is_point word.DelayNp = true
is_point word.Read = true
is_point word.Write = true
is_point _ = false

-- ---- arguments

-- What stands at a place of a call, the variables that take values apart.
pub data Part : Type 0 where
  Name : (name : NameId) → Part
  Value : (e : Expr) → Part
  Word : (place : ℕ) → Part

-- A name, or the one word that may stand in its place.
abbrev pub name_part : Option NameId → Part
name_part (Some name) = Name name
name_part None = Word 0

-- The place of a policy among the words that may stand there (docs/script.md, "Calls").
abbrev pub policy_place : Policy → ℕ
policy_place Fifo = 0
policy_place Rr = 1
policy_place Fg = 2
policy_place Bg = 3

-- The place of a mutex kind among the words that may stand there (docs/script.md, "Calls").
abbrev pub kind_place : Kind → ℕ
kind_place Fast = 0
kind_place Recursive = 1
kind_place Nonrecursive = 2

-- The first of two words, or the second.
abbrev pub first_place : Bool → ℕ
first_place true = 0
first_place false = 1

-- A call's word, and what stands at its places, the variables that take values apart (docs/journal.md, "Calls").
pub record Shape : Type 0 where
  pub word : CallWord
  pub parts : List Part

-- The call of this word with this at its places (docs/journal.md, "Calls").
abbrev pub shape : CallWord → List Part → Shape
shape word parts = record { word = word; parts = parts }

-- A call's word and what stands at its places (docs/script.md, "Calls").
unfoldable pub shape_of : DceCall → Shape
shape_of (dce.AttrCreate n) = shape word.AttrCreate (Name n ∷ [])
shape_of (dce.AttrDelete n) = shape word.AttrDelete (Name n ∷ [])
shape_of (dce.AttrSetsched n policy) = shape word.AttrSetsched (Name n ∷ Word (policy_place policy) ∷ [])
shape_of (dce.AttrSetprio n e) = shape word.AttrSetprio (Name n ∷ Value e ∷ [])
shape_of (dce.AttrSetinheritsched n inherits) = shape word.AttrSetinheritsched (Name n ∷ Word (first_place inherits) ∷ [])
shape_of (dce.AttrSetstacksize n e) = shape word.AttrSetstacksize (Name n ∷ Value e ∷ [])
shape_of (dce.Create v attr n e) = shape word.Create (name_part attr ∷ Name n ∷ Value e ∷ [])
shape_of (dce.Join e v) = shape word.Join (Value e ∷ [])
shape_of (dce.Detach e) = shape word.Detach (Value e ∷ [])
shape_of dce.Yield = shape word.Yield []
shape_of (dce.Cancel e) = shape word.Cancel (Value e ∷ [])
shape_of dce.Testcancel = shape word.Testcancel []
shape_of (dce.Setcancel on v) = shape word.Setcancel (Word (first_place on) ∷ [])
shape_of (dce.Setasynccancel on v) = shape word.Setasynccancel (Word (first_place on) ∷ [])
shape_of (dce.Setprio e1 e2 v) = shape word.Setprio (Value e1 ∷ Value e2 ∷ [])
shape_of (dce.Getprio e v) = shape word.Getprio (Value e ∷ [])
shape_of (dce.Setscheduler e1 policy e2 v) = shape word.Setscheduler (Value e1 ∷ Word (policy_place policy) ∷ Value e2 ∷ [])
shape_of (dce.Getscheduler e v) = shape word.Getscheduler (Value e ∷ [])
shape_of (dce.DelayNp e) = shape word.DelayNp (Value e ∷ [])
shape_of (dce.GetExpirationNp e v) = shape word.GetExpirationNp (Value e ∷ [])
shape_of (dce.MutexattrCreate n) = shape word.MutexattrCreate (Name n ∷ [])
shape_of (dce.MutexattrSetkindNp n kind) = shape word.MutexattrSetkindNp (Name n ∷ Word (kind_place kind) ∷ [])
shape_of (dce.MutexattrDelete n) = shape word.MutexattrDelete (Name n ∷ [])
shape_of (dce.MutexInit n attr) = shape word.MutexInit (Name n ∷ name_part attr ∷ [])
shape_of (dce.MutexDestroy n) = shape word.MutexDestroy (Name n ∷ [])
shape_of (dce.MutexLock n) = shape word.MutexLock (Name n ∷ [])
shape_of (dce.MutexTrylock n v) = shape word.MutexTrylock (Name n ∷ [])
shape_of (dce.MutexUnlock n) = shape word.MutexUnlock (Name n ∷ [])
shape_of dce.LockGlobalNp = shape word.LockGlobalNp []
shape_of dce.UnlockGlobalNp = shape word.UnlockGlobalNp []
shape_of (dce.CondInit n) = shape word.CondInit (Name n ∷ [])
shape_of (dce.CondDestroy n) = shape word.CondDestroy (Name n ∷ [])
shape_of (dce.CondWait c m) = shape word.CondWait (Name c ∷ Name m ∷ [])
shape_of (dce.CondTimedwait c m e) = shape word.CondTimedwait (Name c ∷ Name m ∷ Value e ∷ [])
shape_of (dce.CondSignal n) = shape word.CondSignal (Name n ∷ [])
shape_of (dce.CondBroadcast n) = shape word.CondBroadcast (Name n ∷ [])
shape_of (dce.Once block routine) = shape word.Once (Name block ∷ Name routine ∷ [])
shape_of (dce.Keycreate n destructor) = shape word.Keycreate (Name n ∷ name_part destructor ∷ [])
shape_of (dce.Setspecific n e) = shape word.Setspecific (Name n ∷ Value e ∷ [])
shape_of (dce.Getspecific n v) = shape word.Getspecific (Name n ∷ [])
shape_of (dce.Read n v w) = shape word.Read (Name n ∷ [])
shape_of (dce.Write n e) = shape word.Write (Name n ∷ Value e ∷ [])
shape_of (dce.Close n) = shape word.Close (Name n ∷ [])

-- The expressions at these places, in their order (docs/script.md, "Calls").
abbrev pub expressions_in : List Part → List Expr
expressions_in [] = []
expressions_in (Value e ∷ parts) = e ∷ expressions_in parts
expressions_in (_ ∷ parts) = expressions_in parts

-- The expressions of a call in their order.
abbrev pub expressions_of : DceCall → List Expr
expressions_of call = expressions_in (shape_of call).parts

-- Places with the values of the expressions, in their order.
abbrev pub filled : List Part → List ℤ → List Arg
filled [] ns = []
filled (Name name ∷ parts) ns = arg.Name name ∷ filled parts ns
filled (Word place ∷ parts) ns = arg.Word place ∷ filled parts ns
filled (Value e ∷ parts) (n ∷ ns) = arg.Num n ∷ filled parts ns
filled (Value e ∷ parts) [] = arg.Nothing ∷ filled parts []

-- The four arguments of a call's line, with the values of its expressions (docs/journal.md, "Calls").
abbrev pub arguments : DceCall → List ℤ → List Arg
arguments call ns = take 4 (filled (shape_of call).parts ns ++ replicate 4 arg.Nothing)

-- ---- variables

-- What a call stores of a reply, in this order: the value of a number reply (docs/script.md, "Calls"). `read` also stores 1 in
-- its second variable, and 0 in both at the end of a pipe.
abbrev pub taken : Var → Reply → List (Var × ℤ)
taken v (reply.Value n) = (v, n) ∷ []
taken v _ = []

-- What `read` stores: the item and 1, or 0 in both variables at the end of a pipe (docs/machine.md, "Calls").
abbrev pub taken_by_read : Var → Var → Reply → List (Var × ℤ)
taken_by_read v w (reply.Value n) = (v, n) ∷ (w, pos 1) ∷ []
taken_by_read v w reply.Eof = (v, pos 0) ∷ (w, pos 0) ∷ []
taken_by_read v w _ = []

-- What a call stores of its reply: the variables with their values, in this order (docs/machine.md, "Replies").
unfoldable pub stores : DceCall → Reply → List (Var × ℤ)
stores (dce.Create v attr n e) r = taken v r
stores (dce.Join e v) r = taken v r
stores (dce.Setcancel on v) r = taken v r
stores (dce.Setasynccancel on v) r = taken v r
stores (dce.Setprio e1 e2 v) r = taken v r
stores (dce.Getprio e v) r = taken v r
stores (dce.Setscheduler e1 policy e2 v) r = taken v r
stores (dce.Getscheduler e v) r = taken v r
stores (dce.GetExpirationNp e v) r = taken v r
stores (dce.MutexTrylock n v) r = taken v r
stores (dce.Getspecific n v) r = taken v r
stores (dce.Read n v w) r = taken_by_read v w r
stores _ r = []

-- A line with its names resolved.
use Rattle.std.specs.Prelude.{ℕ, ℤ, pos, negsuc, ◌^◌, Bool, false, nat_lt, List, [], ◌∷◌, position, unwrap_or, codes, if◌then◌else◌, Option, Some, None}
use Rattle.std.specs.Str.{bytes_eq}
use Rattle.thr_values.specs.Words.{policy_word, kind_word}
use Rattle.thr_values.specs.declared.number.NameId.{NameId}
use Rattle.thr_values.specs.declared.reply.Kind.{Kind}
use Rattle.thr_values.specs.declared.reply.Kind.TheVariants.{Fast, Recursive, Nonrecursive}
use Rattle.thr_values.specs.declared.scheduling.Policy.{Policy}
use Rattle.thr_values.specs.declared.scheduling.Policy.TheVariants.{Fifo, Rr, Fg, Bg}
use Rattle.thr_values.specs.declared.call.CallWord.{CallWord}
use Rattle.thr_values.specs.declared.call.CallWord.TheVariants as call
use Rattle.thr_syntax.specs.declared.expr.Var.{Var}
use Rattle.thr_syntax.specs.declared.expr.Var.TheVariants as variable
use Rattle.thr_syntax.specs.declared.expr.ExcRef.{ExcRef}
use Rattle.thr_syntax.specs.declared.expr.ExcRef.TheVariants.{Named, This}
use Rattle.thr_syntax.specs.declared.expr.Op.{Op}
use Rattle.thr_syntax.specs.declared.expr.Op.TheVariants as op
use Rattle.thr_syntax.specs.declared.expr.Expr.{Expr}
use Rattle.thr_syntax.specs.declared.expr.Expr.TheVariants as expr
use Rattle.thr_syntax.specs.declared.dce.DceCall.{DceCall}
use Rattle.thr_syntax.specs.declared.dce.DceCall.TheVariants as dce
use Rattle.thr_syntax.specs.declared.form.Form.{Form}
use Rattle.thr_syntax.specs.declared.form.Form.TheVariants as form
use Rattle.thr_syntax.specs.declared.tree.Interface.{Interface}
use Rattle.thr_syntax.specs.declared.tree.Interface.TheVariants as interface
use Rattle.thr_syntax.specs.Spelling.{Scope, operator_word}
use Rattle.thr_text.specs.declared.word.Word.{Word}
use Rattle.thr_text.specs.declared.word.Word.TheVariants.{Num, Name}
use Rattle.thr_text.specs.declared.head.Head.{Head}
use Rattle.thr_text.specs.declared.head.Head.TheVariants as head
use Rattle.thr_text.specs.declared.head.Choice.{Choice}
use Rattle.thr_text.specs.declared.head.Choice.TheVariants as choice
use Rattle.thr_text.specs.declared.head.Slot.{Slot}
use Rattle.thr_text.specs.declared.head.Slot.TheVariants as slot
use Rattle.thr_text.specs.Faults.{first_of}
use Rattle.thr_text.specs.Slots.{is_one_of, binary_words, absent_word, slots_of, head_of_line}
use Rattle.thr_text.specs.Tables.{is_among, rest_of}
use Rattle.thr_text.specs.NameFaults.{locals_below}
use Rattle.thr_naming.specs.Ids.{id_at}
use Rattle.thr_resolving.specs.declared.value.Value.{Value}
use Rattle.thr_resolving.specs.declared.value.Value.TheVariants as value

-- ---- names

abbrev pub no_id : NameId
no_id = record { 0 = 0 }

-- A name that isn't among the names gets the first id, but no faultless line has one.
abbrev pub id_of : List (List ℕ) → List ℕ → NameId
id_of names text = unwrap_or (id_at (position (bytes_eq text) names)) no_id

-- The same of a parameter or local, of which there are at most 16.
abbrev pub place_at : Option ℕ → ℕ
place_at None = 0
place_at (Some p) = if nat_lt p 256 then p else 0

abbrev pub place_of : List (List ℕ) → List ℕ → ℕ
place_of locals text = place_at (position (bytes_eq text) locals)

abbrev pub id_in : Scope → Word → NameId
id_in scope (Name text) = id_of scope.names text
id_in scope _ = no_id

abbrev pub place_in : Scope → Word → ℕ
place_in scope (Name text) = place_of scope.locals text
place_in scope _ = 0

abbrev pub is_local : Scope → Word → Bool
is_local scope (Name text) = is_among scope.locals text
is_local scope _ = false

abbrev pub variable_in : Scope → Word → Var
variable_in scope w = if is_local scope w then variable.Local (place_in scope w) else variable.Shared (id_in scope w)

abbrev pub exception_in : Scope → Word → ExcRef
exception_in scope w = if is_one_of (codes "this" ∷ []) w then This else Named (id_in scope w)

-- ---- the words of a line, from the right: each operator takes the pieces after it

pub data Piece : Type 0 where
  Raw : Word → Piece
  Made : Expr → Piece

-- What stands after the first.
abbrev pub after_first : {A : Type 0} → List A → List A
after_first [] = []
after_first (x ∷ xs) = xs

abbrev pub all_operators : List Op
all_operators = op.Add ∷ op.Sub ∷ op.Mul ∷ op.Div ∷ op.Rem ∷ op.Equal ∷ op.Differs ∷ op.Less ∷ op.AtMost ∷ op.Greater ∷ op.AtLeast ∷ op.And ∷ op.Or ∷ []

abbrev pub operator_among : List Op → Word → Op
operator_among [] w = op.Or
operator_among (o ∷ os) w = if is_one_of (operator_word o ∷ []) w then o else operator_among os w

abbrev pub operator_in : Word → Op
operator_in w = operator_among all_operators w

-- A number, `self`, `err`, or a variable.
abbrev pub named_atom : Scope → Word → Expr
named_atom scope w =
    if is_one_of (codes "self" ∷ []) w then expr.Me
    else (if is_one_of (codes "err" ∷ []) w then expr.Err else expr.Var (variable_in scope w))

abbrev pub atom_in : Scope → Word → Expr
atom_in scope (Num n) = expr.Num n
atom_in scope w = named_atom scope w

abbrev pub expression_in : Scope → Option Piece → Expr
expression_in scope None = expr.Num (pos 0)
expression_in scope (Some (Raw w)) = atom_in scope w
expression_in scope (Some (Made e)) = e

abbrev pub word_in : Option Piece → Word
word_in (Some (Raw w)) = w
word_in _ = Num (pos 0)

abbrev pub operation : Scope → Word → List Piece → List Piece
operation scope w ps = Made (expr.Two (operator_in w) (expression_in scope (first_of ps)) (expression_in scope (first_of (after_first ps)))) ∷ after_first (after_first ps)

abbrev pub negation : Scope → List Piece → List Piece
negation scope ps = Made (expr.Not (expression_in scope (first_of ps))) ∷ after_first ps

abbrev pub status_asked : Scope → List Piece → List Piece
status_asked scope ps = Made (expr.GetStatus (exception_in scope (word_in (first_of ps)))) ∷ after_first ps

abbrev pub match_asked : Scope → List Piece → List Piece
match_asked scope ps = Made (expr.Matches (exception_in scope (word_in (first_of ps))) (exception_in scope (word_in (first_of (after_first ps))))) ∷ after_first (after_first ps)

unfoldable pub with_word : Scope → Word → List Piece → List Piece
with_word scope w ps =
    if is_one_of binary_words w then operation scope w ps
    else (if is_one_of (codes "not" ∷ []) w then negation scope ps
    else (if is_one_of (codes "exc_get_status" ∷ []) w then status_asked scope ps
    else (if is_one_of (codes "exc_matches" ∷ []) w then match_asked scope ps else Raw w ∷ ps)))

unfoldable pub pieces_of : Scope → List Word → List Piece
pieces_of scope [] = []
pieces_of scope (w ∷ ws) = with_word scope w (pieces_of scope ws)

-- ---- what stands in the slots

abbrev pub number_in : Word → ℤ
number_in (Num n) = n
number_in _ = pos 0

abbrev pub interface_in : Word → Interface
interface_in w = if is_one_of (codes "exc" ∷ []) w then interface.Exc else interface.Status

abbrev pub policy_among : List Policy → Word → Policy
policy_among [] w = Bg
policy_among (p ∷ ps) w = if is_one_of (policy_word p ∷ []) w then p else policy_among ps w

abbrev pub policy_in : Word → Policy
policy_in w = policy_among (Fifo ∷ Rr ∷ Fg ∷ Bg ∷ []) w

abbrev pub kind_among : List Kind → Word → Kind
kind_among [] w = Nonrecursive
kind_among (k ∷ ks) w = if is_one_of (kind_word k ∷ []) w then k else kind_among ks w

abbrev pub kind_in : Word → Kind
kind_in w = kind_among (Fast ∷ Recursive ∷ Nonrecursive ∷ []) w

abbrev pub chosen_in : Choice → Word → Value
chosen_in choice.Interface w = value.Interface (interface_in w)
chosen_in choice.Policy w = value.Policy (policy_in w)
chosen_in choice.Inherit w = value.Inherit (is_one_of (codes "PTHREAD_INHERIT_SCHED" ∷ []) w)
chosen_in choice.Cancel w = value.Cancel (is_one_of (codes "CANCEL_ON" ∷ []) w)
chosen_in choice.MutexKind w = value.Kind (kind_in w)

abbrev pub own_in : Word → Option (List ℕ)
own_in (Name text) = Some text
own_in _ = None

abbrev pub receiver_in : Scope → Option Piece → Value
receiver_in scope None = value.Receiver None
receiver_in scope p = value.Receiver (Some (place_in scope (word_in p)))

unfoldable pub value_in : Scope → Slot → Option Piece → Value
value_in scope slot.Number p = value.Number (number_in (word_in p))
value_in scope (slot.Fixed c) p = chosen_in c (word_in p)
value_in scope (slot.Declared k) p = value.Id (id_in scope (word_in p))
value_in scope slot.Parameter p = value.Own (own_in (word_in p))
value_in scope slot.Local p = value.Own (own_in (word_in p))
value_in scope (slot.Object k) p = value.Id (id_in scope (word_in p))
value_in scope (slot.ObjectOr k) p = if is_one_of (absent_word k ∷ []) (word_in p) then value.Maybe None else value.Maybe (Some (id_in scope (word_in p)))
value_in scope slot.Variable p = value.Variable (variable_in scope (word_in p))
value_in scope slot.Receiver p = receiver_in scope p
value_in scope slot.Exception p = value.Id (id_in scope (word_in p))
value_in scope slot.Expression p = value.Expression (expression_in scope p)

unfoldable pub values_in : Scope → List Slot → List Piece → List Value
values_in scope [] ps = []
values_in scope (s ∷ slots) ps = value_in scope s (first_of ps) ∷ values_in scope slots (after_first ps)

-- ---- the line of a head whose slots hold these values

abbrev pub second_of : List Value → Option Value
second_of vs = first_of (after_first vs)

abbrev pub third_of : List Value → Option Value
third_of vs = first_of (after_first (after_first vs))

abbrev pub fourth_of : List Value → Option Value
fourth_of vs = first_of (after_first (after_first (after_first vs)))

abbrev pub as_number : Option Value → ℤ
as_number (Some (value.Number n)) = n
as_number _ = pos 0

abbrev pub size_of : ℤ → ℕ
size_of (pos n) = if nat_lt n (2 ^ 32) then n else 0
size_of (negsuc n) = 0

-- A number of 32 bits without a sign, or 0.
abbrev pub as_size : Option Value → ℕ
as_size o = size_of (as_number o)

abbrev pub as_interface : Option Value → Interface
as_interface (Some (value.Interface i)) = i
as_interface _ = interface.Status

abbrev pub as_policy : Option Value → Policy
as_policy (Some (value.Policy p)) = p
as_policy _ = Bg

abbrev pub as_inherit : Option Value → Bool
as_inherit (Some (value.Inherit b)) = b
as_inherit _ = false

abbrev pub as_cancel : Option Value → Bool
as_cancel (Some (value.Cancel b)) = b
as_cancel _ = false

abbrev pub as_kind : Option Value → Kind
as_kind (Some (value.Kind k)) = k
as_kind _ = Nonrecursive

abbrev pub as_id : Option Value → NameId
as_id (Some (value.Id id)) = id
as_id _ = no_id

abbrev pub as_maybe : Option Value → Option NameId
as_maybe (Some (value.Maybe o)) = o
as_maybe _ = None

abbrev pub as_own : Option Value → Option (List ℕ)
as_own (Some (value.Own o)) = o
as_own _ = None

abbrev pub as_variable : Option Value → Var
as_variable (Some (value.Variable v)) = v
as_variable _ = variable.Local 0

abbrev pub as_receiver : Option Value → Option ℕ
as_receiver (Some (value.Receiver o)) = o
as_receiver _ = None

abbrev pub as_expression : Option Value → Expr
as_expression (Some (value.Expression e)) = e
as_expression _ = expr.Num (pos 0)

unfoldable pub call_of : CallWord → List Value → DceCall
call_of call.AttrCreate vs = dce.AttrCreate (as_id (first_of vs))
call_of call.AttrDelete vs = dce.AttrDelete (as_id (first_of vs))
call_of call.AttrSetsched vs = dce.AttrSetsched (as_id (first_of vs)) (as_policy (second_of vs))
call_of call.AttrSetprio vs = dce.AttrSetprio (as_id (first_of vs)) (as_expression (second_of vs))
call_of call.AttrSetinheritsched vs = dce.AttrSetinheritsched (as_id (first_of vs)) (as_inherit (second_of vs))
call_of call.AttrSetstacksize vs = dce.AttrSetstacksize (as_id (first_of vs)) (as_expression (second_of vs))
call_of call.Create vs = dce.Create (as_variable (first_of vs)) (as_maybe (second_of vs)) (as_id (third_of vs)) (as_expression (fourth_of vs))
call_of call.Join vs = dce.Join (as_expression (first_of vs)) (as_variable (second_of vs))
call_of call.Detach vs = dce.Detach (as_expression (first_of vs))
call_of call.Yield vs = dce.Yield
call_of call.Cancel vs = dce.Cancel (as_expression (first_of vs))
call_of call.Testcancel vs = dce.Testcancel
call_of call.Setcancel vs = dce.Setcancel (as_cancel (first_of vs)) (as_variable (second_of vs))
call_of call.Setasynccancel vs = dce.Setasynccancel (as_cancel (first_of vs)) (as_variable (second_of vs))
call_of call.Setprio vs = dce.Setprio (as_expression (first_of vs)) (as_expression (second_of vs)) (as_variable (third_of vs))
call_of call.Getprio vs = dce.Getprio (as_expression (first_of vs)) (as_variable (second_of vs))
call_of call.Setscheduler vs = dce.Setscheduler (as_expression (first_of vs)) (as_policy (second_of vs)) (as_expression (third_of vs)) (as_variable (fourth_of vs))
call_of call.Getscheduler vs = dce.Getscheduler (as_expression (first_of vs)) (as_variable (second_of vs))
call_of call.DelayNp vs = dce.DelayNp (as_expression (first_of vs))
call_of call.GetExpirationNp vs = dce.GetExpirationNp (as_expression (first_of vs)) (as_variable (second_of vs))
call_of call.MutexattrCreate vs = dce.MutexattrCreate (as_id (first_of vs))
call_of call.MutexattrSetkindNp vs = dce.MutexattrSetkindNp (as_id (first_of vs)) (as_kind (second_of vs))
call_of call.MutexattrDelete vs = dce.MutexattrDelete (as_id (first_of vs))
call_of call.MutexInit vs = dce.MutexInit (as_id (first_of vs)) (as_maybe (second_of vs))
call_of call.MutexDestroy vs = dce.MutexDestroy (as_id (first_of vs))
call_of call.MutexLock vs = dce.MutexLock (as_id (first_of vs))
call_of call.MutexTrylock vs = dce.MutexTrylock (as_id (first_of vs)) (as_variable (second_of vs))
call_of call.MutexUnlock vs = dce.MutexUnlock (as_id (first_of vs))
call_of call.LockGlobalNp vs = dce.LockGlobalNp
call_of call.UnlockGlobalNp vs = dce.UnlockGlobalNp
call_of call.CondInit vs = dce.CondInit (as_id (first_of vs))
call_of call.CondDestroy vs = dce.CondDestroy (as_id (first_of vs))
call_of call.CondWait vs = dce.CondWait (as_id (first_of vs)) (as_id (second_of vs))
call_of call.CondTimedwait vs = dce.CondTimedwait (as_id (first_of vs)) (as_id (second_of vs)) (as_expression (third_of vs))
call_of call.CondSignal vs = dce.CondSignal (as_id (first_of vs))
call_of call.CondBroadcast vs = dce.CondBroadcast (as_id (first_of vs))
call_of call.Once vs = dce.Once (as_id (first_of vs)) (as_id (second_of vs))
call_of call.Keycreate vs = dce.Keycreate (as_id (first_of vs)) (as_maybe (second_of vs))
call_of call.Setspecific vs = dce.Setspecific (as_id (first_of vs)) (as_expression (second_of vs))
call_of call.Getspecific vs = dce.Getspecific (as_id (first_of vs)) (as_variable (second_of vs))
call_of call.Read vs = dce.Read (as_id (first_of vs)) (as_variable (second_of vs)) (as_variable (third_of vs))
call_of call.Write vs = dce.Write (as_id (first_of vs)) (as_expression (second_of vs))
call_of call.Close vs = dce.Close (as_id (first_of vs))

abbrev pub routine_form : NameId → Option (List ℕ) → Form
routine_form name None = form.End
routine_form name (Some parameter) = form.Routine name parameter

abbrev pub local_form : Option (List ℕ) → Form
local_form None = form.End
local_form (Some name) = form.Local name

unfoldable pub form_of : Head → List Value → Form
form_of head.Interface vs = form.Interface (as_interface (first_of vs))
form_of head.Limit vs = form.Limit (as_size (first_of vs))
form_of head.Shared vs = form.Shared (as_id (first_of vs)) (as_number (second_of vs))
form_of head.Exception vs = form.Exception (as_id (first_of vs))
form_of head.Status vs = form.Status (as_id (first_of vs)) (as_number (second_of vs))
form_of head.Mutex vs = form.Mutex (as_id (first_of vs))
form_of head.Mutexattr vs = form.MutexAttr (as_id (first_of vs))
form_of head.Cond vs = form.Cond (as_id (first_of vs))
form_of head.Attr vs = form.Attr (as_id (first_of vs))
form_of head.Key vs = form.Key (as_id (first_of vs))
form_of head.Once vs = form.Once (as_id (first_of vs))
form_of head.Pipe vs = form.Pipe (as_id (first_of vs)) (as_size (second_of vs))
form_of head.Routine vs = routine_form (as_id (first_of vs)) (as_own (second_of vs))
form_of head.Local vs = local_form (as_own (first_of vs))
form_of head.Set vs = form.Set (as_variable (first_of vs)) (as_expression (second_of vs))
form_of head.Say vs = form.Say (as_expression (first_of vs))
form_of head.If vs = form.If (as_expression (first_of vs))
form_of head.Else vs = form.Else
form_of head.While vs = form.While (as_expression (first_of vs))
form_of head.Try vs = form.Try
form_of head.Catch vs = form.Catch (as_id (first_of vs))
form_of head.CatchAll vs = form.CatchAll
form_of head.Finally vs = form.Finally
form_of head.Endtry vs = form.Endtry
form_of head.Raise vs = form.Raise (as_id (first_of vs))
form_of head.Reraise vs = form.Reraise
form_of head.Call vs = form.Call (as_id (first_of vs)) (as_expression (second_of vs)) (as_receiver (third_of vs))
form_of head.Return vs = form.Return (as_expression (first_of vs))
form_of head.Exit vs = form.Exit (as_expression (first_of vs))
form_of head.End vs = form.End
form_of (head.Dce c) vs = form.Dce (call_of c vs)

-- ---- lines

abbrev pub resolved_after : Scope → Option Head → List Word → Form
resolved_after scope None ws = form.End
resolved_after scope (Some h) ws = form_of h (values_in scope (slots_of h) (pieces_of scope ws))

-- The line of these words, with its names resolved in this scope.
unfoldable pub resolved : Scope → List Word → Form
resolved scope words = resolved_after scope (head_of_line words) (rest_of words)

abbrev pub scope_of : List (List ℕ) → List (List ℕ) → Scope
scope_of names locals = record { names = names; locals = locals }

-- Lines below these locals, each with its names resolved.
unfoldable pub resolved_lines : List (List ℕ) → List (List ℕ) → List (List Word) → List Form
resolved_lines names locals [] = []
resolved_lines names locals (l ∷ ls) = resolved (scope_of names (locals_below locals l)) l ∷ resolved_lines names (locals_below locals l) ls

-- Scripts and remainders for worked examples.
use Rattle.std.specs.Prelude.{ℕ, zero, suc, ◌+◌, ℤ, pos, List, [], ◌∷◌, ◌++◌, map, reverse, codes, negsuc, take, replicate, Bool, Option, Some, None}
use Rattle.thr_values.specs.declared.number.NameId.{NameId}
use Rattle.thr_values.specs.declared.call.Arg.{Arg}
use Rattle.thr_values.specs.declared.call.Arg.TheVariants as arg
use Rattle.thr_values.specs.declared.call.CallWord.{CallWord}
use Rattle.thr_values.specs.declared.history.What.{What}
use Rattle.thr_values.specs.declared.history.What.TheVariants as what
use Rattle.thr_values.specs.declared.reply.Reply.{Reply}
use Rattle.thr_values.specs.declared.reply.Reply.TheVariants as reply
use Rattle.thr_values.specs.declared.scheduling.Mode.{Mode}
use Rattle.thr_syntax.specs.declared.dce.DceCall.{DceCall}
use Rattle.thr_syntax.specs.declared.expr.Var.{Var}
use Rattle.thr_syntax.specs.declared.expr.Var.TheVariants.{Local, Shared}
use Rattle.thr_syntax.specs.declared.expr.Op.{Op}
use Rattle.thr_syntax.specs.declared.expr.Expr.{Expr}
use Rattle.thr_syntax.specs.declared.expr.Expr.TheVariants as expr
use Rattle.thr_syntax.specs.declared.tree.Clause.{Clause}
use Rattle.thr_syntax.specs.declared.tree.Stmt.{Stmt}
use Rattle.thr_syntax.specs.declared.tree.Stmt.TheVariants as stmt
use Rattle.thr_syntax.specs.declared.tree.Item.{Item}
use Rattle.thr_syntax.specs.declared.tree.Item.TheVariants as item
use Rattle.thr_syntax.specs.declared.tree.Script.{Script}
use Rattle.thr_remainder.specs.Places.{nothing}
use Rattle.thr_remainder.specs.Remainders.{Calling, Setting, Remainder}
use Rattle.thr_remainder.specs.Expressions.{Value, none_shared, value_of}
use Rattle.thr_remainder.specs.Starts.{fresh, line_of_next, delivered}
use Rattle.thr_remainder.specs.Calls.{shape_of, arguments, stores}
use Rattle.thr_remainder.specs.Next.{Next, GoesOutward, UndoesOnce, EndsThread, EndsOnce, Shares, IsAtPoint, StepsQuietly, next}
use Rattle.thr_remainder.specs.Alone.{Answer, Tale, tale}

-- ---- scripts

abbrev pub named : ℕ → NameId
named n = record { 0 = n }

-- The routine where a thread of an example begins.
abbrev pub main : NameId
main = named 99

abbrev pub a : NameId
a = named 10

abbrev pub b : NameId
b = named 11

abbrev pub c : NameId
c = named 12

abbrev pub e : NameId
e = named 13

abbrev pub k : NameId
k = named 14

abbrev pub j : NameId
j = named 15

abbrev pub m : NameId
m = named 16

abbrev pub o : NameId
o = named 17

abbrev pub p : NameId
p = named 18

abbrev pub x : NameId
x = named 19

abbrev pub r : NameId
r = named 20

abbrev pub s : NameId
s = named 21

-- A routine with a parameter and so many further locals.
abbrev pub routine : NameId → ℕ → List Stmt → Item
routine name more body = item.Routine (record { name = name; locals = replicate (more + 1) (codes "a"); body = body })

-- A script with these declarations, and the routine `main` below them.
abbrev pub script : List Item → ℕ → List Stmt → Script
script items more body = record { names = []; items = items ++ routine main more body ∷ [] }

abbrev pub num : ℕ → Expr
num n = expr.Num (pos n)

abbrev pub local : ℕ → Expr
local p = expr.Var (Local p)

abbrev pub shared : NameId → Expr
shared name = expr.Var (Shared name)

abbrev pub say : ℕ → Stmt
say n = stmt.Say (num n)

abbrev pub two : Op → ℕ → ℕ → Expr
two op a b = expr.Two op (num a) (num b)

abbrev pub catch : NameId → List Stmt → Clause
catch x body = record { names = Some x; body = body }

abbrev pub catch_all : List Stmt → Clause
catch_all body = record { names = None; body = body }

-- ---- lines

-- The line of a call with these arguments.
abbrev pub call : CallWord → List Arg → Reply → What
call word args reply = what.Call word (take 4 (args ++ replicate 4 arg.Nothing)) reply

-- ---- runs

abbrev pub down_from : ℕ → List ℕ
down_from zero = []
down_from (suc n) = n ∷ down_from n

-- Thread 1 with a stack of so many frames.
abbrev pub setting_of : ℕ → Script → Setting
setting_of size s = record { script = s; me = 1; size = size }

-- A thread that begins at this routine with this argument, and what it makes of these answers.
abbrev pub tale_of : ℕ → Script → NameId → ℤ → List Answer → Tale
tale_of size s name n answers = tale 300 (setting_of size s) (record { to = fresh s name n; shared = none_shared; answers = answers })

abbrev pub lines_at : Script → NameId → ℤ → List Answer → List What
lines_at s name n answers = (tale_of 256 s name n answers).lines

-- The lines of a thread that begins at `main` with argument 0.
abbrev pub lines_of : Script → List Answer → List What
lines_of s answers = lines_at s main (pos 0) answers

abbrev pub said_by : What → List ℤ → List ℤ
said_by (what.Say n) ns = n ∷ ns
said_by _ ns = ns

-- What lines say by `say`.
abbrev pub said : List What → List ℤ
said [] = []
said (w ∷ ws) = said_by w (said ws)

-- The same with a stack of so many frames.
abbrev pub lines_within : ℕ → Script → List Answer → List What
lines_within size s answers = (tale_of size s main (pos 0) answers).lines

-- What is left of that thread after so many steps.
abbrev pub after_steps : Script → List Answer → ℕ → Remainder
after_steps s answers n =
    (tale n (setting_of 256 s) (record { to = fresh s main (pos 0); shared = none_shared; answers = answers })).example.to

-- What this is after 0 and more steps, so many times.
abbrev pub before_each : {A : Type 0} → (Remainder → A) → Script → List Answer → ℕ → List A
before_each f s answers n = map (λ i. f (after_steps s answers i)) (reverse (down_from n))

-- The line of the next step before each of so many steps.
abbrev pub lines_after : ℕ → Script → List Answer → List (Option ℕ)
lines_after n s answers = before_each line_of_next s answers n

-- The line of a cancel that is delivered after so many steps.
abbrev pub delivery_after : ℕ → Script → List Answer → List What
delivery_after n s answers = (delivered (after_steps s answers n)).lines

-- ---- expressions

-- The value of an expression in thread 1, whose last reply had number 35, where the parameter is 7, a further local -8, and
-- each shared variable the number of its name.
abbrev pub value_with : Script → Expr → Value
value_with s e =
    value_of (setting_of 256 s) (λ name. pos name.0) (record { items = record { role = Calling (pos 7 ∷ negsuc 7 ∷ []) None; inside = nothing 9 } ∷ []; under_way = None; value = pos 0; err = pos 35; scopes = 0; unwindings = 0 }) e

abbrev pub value : Expr → Value
value e = value_with (script [] 0 []) e

-- The greatest and the least number.
abbrev pub greatest : Expr
greatest = expr.Num (pos 9223372036854775807)

abbrev pub least : Expr
least = expr.Num (negsuc 9223372036854775807)

abbrev pub minus_one : Expr
minus_one = expr.Num (negsuc 0)

-- ---- cancels

abbrev pub mode : Bool → Bool → Bool → Mode
mode pending general asynchronous = record { pending = pending; general = general; asynchronous = asynchronous }

-- ---- next steps

-- Which kind of step comes next.
abbrev pub next_word : Next → List ℕ
next_word (GoesOutward move) = codes "outward"
next_word (UndoesOnce block move) = codes "undone"
next_word EndsThread = codes "end"
next_word (EndsOnce block move) = codes "done"
next_word (Shares h) = codes "shared"
next_word (IsAtPoint h) = codes "point"
next_word (StepsQuietly move) = codes "quiet"

-- That of a thread whose next statement is this one.
abbrev pub kind_of : Stmt → List ℕ
kind_of stmt = let sample = script [] 3 (stmt ∷ []) in next_word (next (setting_of 256 sample) (fresh sample main (pos 0)))

-- That before each of so many steps.
abbrev pub nexts_after : ℕ → Script → List Answer → List (List ℕ)
nexts_after n s answers = before_each (λ r. next_word (next (setting_of 256 s) r)) s answers n

-- ---- calls

-- The lines of these calls, where their expressions have the values 5 and 6.
abbrev pub call_lines : List DceCall → List What
call_lines calls = map (λ c. what.Call (shape_of c).word (arguments c (pos 5 ∷ pos 6 ∷ [])) reply.Done) calls

-- What each of these calls stores of this reply.
abbrev pub stored_by : Reply → List DceCall → List (List (Var × ℤ))
stored_by r calls = map (λ c. stores c r) calls

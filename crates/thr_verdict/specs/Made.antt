-- The script that is made of two numbers (docs/script.md, "Made scripts").
use Rattle.std.specs.Prelude.{ℕ, zero, suc, ◌+◌, ◌*◌, ◌%◌, pos, List, [], ◌∷◌, ◌++◌, map, codes, Some, None}
use Rattle.std.specs.Fmt.{decimal}
use Rattle.thr_values.specs.Exceptions.{builtin_names}
use Rattle.thr_values.specs.declared.number.NameId.{NameId}
use Rattle.thr_syntax.specs.declared.dce.DceCall.TheVariants as dce
use Rattle.thr_syntax.specs.declared.expr.Var.{Var}
use Rattle.thr_syntax.specs.declared.expr.Var.TheVariants.{Local, Shared}
use Rattle.thr_syntax.specs.declared.expr.Op.TheVariants as op
use Rattle.thr_syntax.specs.declared.expr.Expr.{Expr}
use Rattle.thr_syntax.specs.declared.expr.Expr.TheVariants as expr
use Rattle.thr_syntax.specs.declared.tree.Stmt.{Stmt}
use Rattle.thr_syntax.specs.declared.tree.Stmt.TheVariants as stmt
use Rattle.thr_syntax.specs.declared.tree.Item.{Item}
use Rattle.thr_syntax.specs.declared.tree.Item.TheVariants as item
use Rattle.thr_syntax.specs.declared.tree.Script.{Script}

-- ---- the numbers in it

-- So many numbers, rising from this one on.
unfoldable pub numbers_from : ℕ → ℕ → List ℕ
numbers_from i zero = []
numbers_from i (suc count) = i ∷ numbers_from (i + 1) count

-- How many rounds the worker of this number makes (docs/script.md, "Made scripts").
abbrev pub rounds : ℕ → ℕ → ℕ
rounds n i = 10 * (1 + (n + 7 * i) % 50)

-- What it adds in each round (docs/script.md, "Made scripts").
abbrev pub share : ℕ → ℕ → ℕ
share n i = (3 * n + 11 * i) % 100

-- ---- names

-- The name at this place among the names of the script.
abbrev pub name : ℕ → NameId
name n = record { 0 = n }

-- The mutex that guards both shared variables.
abbrev pub m : NameId
m = name 10

-- The exception that workers raise.
abbrev pub odd : NameId
odd = name 11

-- The shared variable to which workers add.
abbrev pub total : NameId
total = name 12

-- The shared variable that counts what workers caught.
abbrev pub caught : NameId
caught = name 13

-- The routine of the worker of this number, from 1 on.
abbrev pub worker : ℕ → NameId
worker i = name (13 + i)

-- The routine `main` below so many workers.
abbrev pub main_below : ℕ → NameId
main_below threads = name (14 + threads)

-- The text of a worker's name.
abbrev pub worker_text : ℕ → List ℕ
worker_text i = codes "w" ++ decimal i

-- The names of the script with so many workers, in the order of their declarations.
abbrev pub made_names : ℕ → List (List ℕ)
made_names threads =
    builtin_names
    ++ codes "m" ∷ codes "odd" ∷ codes "total" ∷ codes "caught"
    ∷ (map worker_text (numbers_from 1 threads) ++ codes "main" ∷ [])

-- ---- statements

-- A number as an expression.
abbrev pub number : ℕ → Expr
number n = expr.Num (pos n)

-- The value of a variable.
abbrev pub value : Var → Expr
value v = expr.Var v

-- The local `i` of a worker and of `main`.
abbrev pub i_local : Var
i_local = Local 1

-- The local `v` of `main`.
abbrev pub v_local : Var
v_local = Local 2

-- The variable has so much more.
abbrev pub add_to : Var → ℕ → Stmt
add_to v n = stmt.Set v (expr.Two op.Add (value v) (number n))

-- The shared variable has so much more, while the mutex is held.
abbrev pub add_locked : NameId → ℕ → List Stmt
add_locked shared n = stmt.Dce (dce.MutexLock m) ∷ add_to (Shared shared) n ∷ stmt.Dce (dce.MutexUnlock m) ∷ []

-- Every seventh round raises.
abbrev pub raise_in_seventh : Stmt
raise_in_seventh =
    stmt.If (expr.Two op.Equal (expr.Two op.Rem (value i_local) (number 7)) (number 0)) (stmt.Raise odd ∷ []) None

-- One round of a worker: its share is added to the sum, and what it raises is caught and counted.
abbrev pub round_of : ℕ → List Stmt
round_of q =
    stmt.TryCatch (add_locked total q ++ raise_in_seventh ∷ []) (record { names = Some odd; body = add_locked caught 1 } ∷ [])
    ∷ add_to i_local 1
    ∷ []

-- The routine of a worker with so many rounds and this share.
abbrev pub worker_routine : ℕ → ℕ → ℕ → Item
worker_routine i r q = item.Routine (record {
  name = worker i;
  locals = codes "a" ∷ codes "i" ∷ [];
  body =
      stmt.Set i_local (number 0)
      ∷ stmt.While (expr.Two op.Less (value i_local) (number r)) (round_of q)
      ∷ [];
})

-- A thread that runs the routine of a worker.
abbrev pub create_worker : ℕ → Stmt
create_worker i = stmt.Dce (dce.Create v_local None (worker i) (number 0))

-- The threads of the workers have the numbers from 2 on; each is joined and detached.
abbrev pub join_workers : ℕ → List Stmt
join_workers threads =
    stmt.Set i_local (number 2)
    ∷ stmt.While (expr.Two op.AtMost (value i_local) (number (threads + 1)))
    (stmt.Dce (dce.Join (value i_local) v_local) ∷ stmt.Dce (dce.Detach (value i_local)) ∷ add_to i_local 1 ∷ [])
    ∷ []

-- `main` makes the mutex and the threads of the workers, and waits for these.
abbrev pub main_routine : ℕ → Item
main_routine threads = item.Routine (record {
  name = main_below threads;
  locals = codes "a" ∷ codes "i" ∷ codes "v" ∷ [];
  body = stmt.Dce (dce.MutexInit m None) ∷ (map create_worker (numbers_from 1 threads) ++ join_workers threads);
})

-- ---- the script

-- The script that is made of a number for so many workers (docs/script.md, "Made scripts").
abbrev pub made : ℕ → ℕ → Script
made n threads = record {
  names = made_names threads;
  items =
      item.Limit 1000000 ∷ item.Mutex m ∷ item.Exception odd ∷ item.Shared total (pos 0) ∷ item.Shared caught (pos 0)
      ∷ (map (λ i. worker_routine i (rounds n i) (share n i)) (numbers_from 1 threads) ++ main_routine threads ∷ []);
}

-- Trees whose lines nest (docs/script.md, "Blocks").
use Rattle.std.specs.Prelude.{Bool, true, false, ◌&&◌, not, List, [], ◌∷◌, map, Option, Some, None}
use Rattle.std.specs.List.{list_all}
use Rattle.thr_values.specs.declared.number.NameId.{NameId}
use Rattle.thr_syntax.specs.declared.tree.Stmt.{Stmt}
use Rattle.thr_syntax.specs.declared.tree.Stmt.TheOpen.{Stmt-F, Clause-F}
use Rattle.thr_syntax.specs.declared.tree.Stmt.TheOpen as one_stmt
use Rattle.thr_syntax.specs.declared.tree.Item.{Item}
use Rattle.thr_syntax.specs.declared.tree.Item.TheVariants as item
use Rattle.thr_syntax.specs.Folds.{each_stmt}

abbrev pub all_true : List Bool → Bool
all_true bs = list_all (λ b. b) bs

-- There is a clause, and none follows one that catches all. Of each clause: whether it catches all, and whether the statements
-- in its body nest.
abbrev pub clauses_nest : List (Bool × Bool) → Bool
clauses_nest [] = false
clauses_nest (c ∷ []) = c.1
clauses_nest (c ∷ d ∷ cs) = not c.0 && (c.1 && clauses_nest (d ∷ cs))

-- The statement nests, where it is known which statements and clauses in it do.
abbrev pub nests_step : Stmt-F Bool (Bool × Bool) → Bool
nests_step (one_stmt.Set v e) = true
nests_step (one_stmt.Say e) = true
nests_step (one_stmt.If e body None) = all_true body
nests_step (one_stmt.If e body (Some other)) = all_true body && all_true other
nests_step (one_stmt.While e body) = all_true body
nests_step (one_stmt.TryCatch body clauses) = all_true body && clauses_nest clauses
nests_step (one_stmt.TryFinally body final) = all_true body && all_true final
nests_step (one_stmt.Raise x) = true
nests_step one_stmt.Reraise = true
nests_step (one_stmt.Call r e v) = true
nests_step (one_stmt.Return e) = true
nests_step (one_stmt.Exit e) = true
nests_step (one_stmt.Dce call) = true

abbrev pub names_none : Option NameId → Bool
names_none None = true
names_none (Some x) = false

abbrev pub clause_nests_step : Clause-F Bool (Bool × Bool) → Bool × Bool
clause_nests_step c = (names_none c.names, all_true c.body)

abbrev pub stmt_nests : Stmt → Bool
stmt_nests = each_stmt nests_step clause_nests_step

abbrev pub body_nests : List Stmt → Bool
body_nests body = all_true (map stmt_nests body)

abbrev pub has_some : {A : Type 0} → List A → Bool
has_some [] = false
has_some (x ∷ xs) = true

-- A routine has its parameter, and the statements in its body nest.
abbrev pub item_nests : Item → Bool
item_nests (item.Routine r) = has_some r.locals && body_nests r.body
item_nests _ = true

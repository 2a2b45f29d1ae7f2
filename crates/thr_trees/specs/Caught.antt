-- Where `reraise` and `this` stand (docs/script.md, "Blocks").
use Rattle.std.specs.Prelude.{ℕ, zero, suc, Bool, true, false, ◌&&◌, ◌||◌, not, List, [], ◌∷◌, map, Option, Some, None}
use Rattle.std.specs.List.{list_all, list_any}
use Rattle.thr_syntax.specs.declared.expr.ExcRef.{ExcRef}
use Rattle.thr_syntax.specs.declared.expr.ExcRef.TheVariants.{Named, This}
use Rattle.thr_syntax.specs.declared.form.Form.{Form}
use Rattle.thr_syntax.specs.declared.tree.Script.{Script}
use Rattle.thr_syntax.specs.declared.tree.Stmt.{Stmt}
use Rattle.thr_syntax.specs.declared.tree.Stmt.TheOpen.{Stmt-F, Clause-F}
use Rattle.thr_syntax.specs.declared.tree.Stmt.TheOpen as one_stmt
use Rattle.thr_syntax.specs.Folds.{each_stmt}
use Rattle.thr_syntax.specs.Lines.{lines_of}
use Rattle.thr_text.specs.declared.block.Block.{Block}
use Rattle.thr_text.specs.Blocks.{form_shape, means_caught, blocks_below}
use Rattle.thr_trees.specs.Names.{exceptions_of, exceptions_in_call, exceptions_in}

-- The exception is `this`, what the running catch body has caught (docs/script.md, "Expressions").
abbrev pub is_this : ExcRef → Bool
is_this This = true
is_this (Named x) = false

-- `this` stands among these exceptions (docs/script.md, "Expressions").
abbrev pub asks_caught : List ExcRef → Bool
asks_caught xs = list_any is_this xs

-- `this` stands in the line (docs/script.md, "Expressions").
abbrev pub line_asks_caught : Form → Bool
line_asks_caught f = asks_caught (exceptions_in f)

-- Each of these parts keeps the rule, where it is said whether they stand in a catch body (docs/script.md, "Blocks").
abbrev pub all_caught : Bool → List (Bool → Bool) → Bool
all_caught inside parts = list_all (λ part. part inside) parts

-- The same of an `else` body, where there is one (docs/script.md, "Blocks").
abbrev pub else_caught : Bool → Option (List (Bool → Bool)) → Bool
else_caught inside None = true
else_caught inside (Some body) = all_caught inside body

-- The statement has `reraise` and `this` in catch bodies alone, where it is said whether it stands in one and which of the
-- statements and clauses in it keep the rule (docs/script.md, "Blocks").
abbrev pub caught_step : Stmt-F (Bool → Bool) (Bool → Bool) → Bool → Bool
caught_step (one_stmt.Set v e) inside = inside || not (asks_caught (exceptions_of e))
caught_step (one_stmt.Say e) inside = inside || not (asks_caught (exceptions_of e))
caught_step (one_stmt.If e body other) inside = (inside || not (asks_caught (exceptions_of e))) && (all_caught inside body && else_caught inside other)
caught_step (one_stmt.While e body) inside = (inside || not (asks_caught (exceptions_of e))) && all_caught inside body
caught_step (one_stmt.TryCatch body clauses) inside = all_caught inside body && all_caught inside clauses
caught_step (one_stmt.TryFinally body final) inside = all_caught inside body && all_caught inside final
caught_step (one_stmt.Raise x) inside = true
caught_step one_stmt.Reraise inside = inside
caught_step (one_stmt.Call r e place) inside = inside || not (asks_caught (exceptions_of e))
caught_step (one_stmt.Return e) inside = inside || not (asks_caught (exceptions_of e))
caught_step (one_stmt.Exit e) inside = inside || not (asks_caught (exceptions_of e))
caught_step (one_stmt.Dce call) inside = inside || not (asks_caught (exceptions_in_call call))

-- The body of a `catch` or `catch_all` clause is a catch body (docs/script.md, "Blocks").
abbrev pub clause_caught_step : Clause-F (Bool → Bool) (Bool → Bool) → Bool → Bool
clause_caught_step c inside = all_caught true c.body

-- The statement has `reraise` and `this` in catch bodies alone, where it is said whether it stands in one itself
-- (docs/script.md, "Blocks").
abbrev pub stmt_caught : Stmt → Bool → Bool
stmt_caught = each_stmt caught_step clause_caught_step

-- The same of the statements of a body (docs/script.md, "Blocks").
abbrev pub body_caught : List Stmt → Bool → Bool
body_caught body inside = all_caught inside (map stmt_caught body)

-- ---- lines

-- The blocks that are open above the line at this place, among lines below these open blocks (docs/script.md, "Blocks").
abbrev pub open_from : List Block → List Form → ℕ → List Block
open_from bs [] place = bs
open_from bs (f ∷ fs) zero = bs
open_from bs (f ∷ fs) (suc place) = open_from (blocks_below bs (form_shape f)) fs place

-- The blocks that are open above the line at this place in the script, the first of which stands at place 0
-- (docs/script.md, "Blocks").
abbrev pub open_above : Script → ℕ → List Block
open_above s place = open_from [] (lines_of s) place

-- The line is a `reraise`, or `this` stands in it (docs/script.md, "Blocks").
abbrev pub uses_caught : Form → Bool
uses_caught f = means_caught (form_shape f) (line_asks_caught f)

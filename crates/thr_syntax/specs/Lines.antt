-- The lines of a script (docs/script.md, "Lines").
use Rattle.std.specs.Prelude.{ℕ, List, [], ◌∷◌, ◌++◌, map, Option, Some, None}
use Rattle.thr_values.specs.declared.number.NameId.{NameId}
use Rattle.thr_syntax.specs.declared.form.Form.{Form}
use Rattle.thr_syntax.specs.declared.form.Form.TheVariants as form
use Rattle.thr_syntax.specs.declared.tree.Stmt.{Stmt}
use Rattle.thr_syntax.specs.declared.tree.Stmt.TheOpen.{Stmt-F, Clause-F}
use Rattle.thr_syntax.specs.declared.tree.Stmt.TheOpen as one_stmt
use Rattle.thr_syntax.specs.declared.tree.Item.{Item}
use Rattle.thr_syntax.specs.declared.tree.Item.TheVariants as item
use Rattle.thr_syntax.specs.declared.tree.Routine.{Routine}
use Rattle.thr_syntax.specs.declared.tree.Script.{Script}
use Rattle.thr_syntax.specs.Folds.{each_stmt}

abbrev pub joined : {A : Type 0} → List (List A) → List A
joined [] = []
joined (x ∷ xs) = x ++ joined xs

-- The lines of an `else` with its body, where there is one.
abbrev pub else_lines : Option (List (List Form)) → List Form
else_lines None = []
else_lines (Some body) = form.Else ∷ joined body

-- The lines of a statement, with those of each statement and clause in it in their places.
abbrev pub stmt_step : Stmt-F (List Form) (List Form) → List Form
stmt_step (one_stmt.Set v e) = form.Set v e ∷ []
stmt_step (one_stmt.Say e) = form.Say e ∷ []
stmt_step (one_stmt.If e body other) = form.If e ∷ (joined body ++ (else_lines other ++ form.End ∷ []))
stmt_step (one_stmt.While e body) = form.While e ∷ (joined body ++ form.End ∷ [])
stmt_step (one_stmt.TryCatch body clauses) = form.Try ∷ (joined body ++ (joined clauses ++ form.Endtry ∷ []))
stmt_step (one_stmt.TryFinally body final) = form.Try ∷ (joined body ++ form.Finally ∷ (joined final ++ form.Endtry ∷ []))
stmt_step (one_stmt.Raise x) = form.Raise x ∷ []
stmt_step one_stmt.Reraise = form.Reraise ∷ []
stmt_step (one_stmt.Call r e v) = form.Call r e v ∷ []
stmt_step (one_stmt.Return e) = form.Return e ∷ []
stmt_step (one_stmt.Exit e) = form.Exit e ∷ []
stmt_step (one_stmt.Dce call) = form.Dce call ∷ []

abbrev pub clause_form : Option NameId → Form
clause_form (Some x) = form.Catch x
clause_form None = form.CatchAll

abbrev pub clause_step : Clause-F (List Form) (List Form) → List Form
clause_step c = clause_form c.names ∷ joined c.body

abbrev pub stmt_lines : Stmt → List Form
stmt_lines = each_stmt stmt_step clause_step

abbrev pub body_lines : List Stmt → List Form
body_lines body = joined (map stmt_lines body)

-- A routine's line has its parameter, and each other local has a line of its own.
abbrev pub head_lines : NameId → List (List ℕ) → List Form
head_lines name [] = []
head_lines name (parameter ∷ locals) = form.Routine name parameter ∷ map (λ (n : List ℕ). form.Local n) locals

abbrev pub routine_lines : Routine → List Form
routine_lines r = head_lines r.name r.locals ++ (body_lines r.body ++ form.End ∷ [])

-- The lines of a declaration.
abbrev pub item_lines : Item → List Form
item_lines (item.Interface i) = form.Interface i ∷ []
item_lines (item.Limit n) = form.Limit n ∷ []
item_lines (item.Shared name n) = form.Shared name n ∷ []
item_lines (item.Exception name) = form.Exception name ∷ []
item_lines (item.Status name n) = form.Status name n ∷ []
item_lines (item.Mutex name) = form.Mutex name ∷ []
item_lines (item.MutexAttr name) = form.MutexAttr name ∷ []
item_lines (item.Cond name) = form.Cond name ∷ []
item_lines (item.Attr name) = form.Attr name ∷ []
item_lines (item.Key name) = form.Key name ∷ []
item_lines (item.Once name) = form.Once name ∷ []
item_lines (item.Pipe name n) = form.Pipe name n ∷ []
item_lines (item.Routine r) = routine_lines r

-- The lines of a script, from line 1 on.
abbrev pub lines_of : Script → List Form
lines_of s = form.Header ∷ joined (map item_lines s.items)

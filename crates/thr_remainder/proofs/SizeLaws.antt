-- How many lines each statement has.
use Rattle.std.proofs.Common.{◌≡◌, ℕ, ◌+◌, List, [], ◌∷◌, ◌++◌, map, length, length-append, Option, Some, None, arith, refl, ap, ◌∙◌}
use Rattle.thr_values.specs.declared.number.NameId.{NameId}
use Rattle.thr_syntax.specs.declared.expr.Var as variable
use Rattle.thr_syntax.specs.declared.expr.Expr.{Expr}
use Rattle.thr_syntax.specs.declared.dce.DceCall.{DceCall}
use Rattle.thr_syntax.specs.declared.form.Form.{Form}
use Rattle.thr_syntax.specs.declared.form.Form.TheVariants as form
use Rattle.thr_syntax.specs.declared.tree.Clause.{Clause}
use Rattle.thr_syntax.specs.declared.tree.Stmt.{Stmt, Set, Say, If, While, TryCatch, TryFinally, Raise, Reraise, Call, Return, Exit, Dce}
use Rattle.thr_syntax.specs.Lines.{joined, stmt_lines, body_lines, stmt_step, clause_step, clause_form}
use Rattle.thr_syntax.proofs.FoldLaws.{each_clause, each_stmt-Set, each_stmt-Say, each_stmt-If, each_stmt-While, each_stmt-TryCatch, each_stmt-TryFinally, each_stmt-Raise, each_stmt-Reraise, each_stmt-Call, each_stmt-Return, each_stmt-Exit, each_stmt-Dce}
use Rattle.thr_remainder.specs.Places.{size, body_size, clauses_size}

-- The lines of clauses.
abbrev pub clauses_lines : List Clause → List Form
clauses_lines clauses = joined (map (each_clause stmt_step clause_step) clauses)

pub clauses_size-is : (clauses : List Clause) → clauses_size clauses ≡ length (clauses_lines clauses)
unfolding body_size
clauses_size-is [] = refl
clauses_size-is (c ∷ clauses) = omega (arith, clauses_size-is clauses, length-append (clause_form c.names ∷ body_lines c.body) (clauses_lines clauses))

pub body_size-nil : body_size [] ≡ 0
unfolding body_size
body_size-nil = refl

pub body_size-cons : (s : Stmt) (body : List Stmt) → body_size (s ∷ body) ≡ size s + body_size body
unfolding body_size size
body_size-cons s body = length-append (stmt_lines s) (body_lines body)

pub size-Set : (v : variable.Var) (e : Expr) → size (Set v e) ≡ 1
unfolding size
size-Set v e = ap length (each_stmt-Set stmt_step clause_step v e)

pub size-Say : (e : Expr) → size (Say e) ≡ 1
unfolding size
size-Say e = ap length (each_stmt-Say stmt_step clause_step e)

pub size-If : (e : Expr) (body : List Stmt) → size (If e body None) ≡ body_size body + 2
unfolding size body_size
size-If e body = ap length (each_stmt-If stmt_step clause_step e body None) ∙ omega (arith, length-append (body_lines body) (form.End ∷ []))

pub size-If-else : (e : Expr) (body other : List Stmt) → size (If e body (Some other)) ≡ body_size body + body_size other + 3
unfolding size body_size
size-If-else e body other =
    ap length (each_stmt-If stmt_step clause_step e body (Some other))
    ∙ omega (arith, length-append (body_lines body) (form.Else ∷ (body_lines other ++ form.End ∷ [])), length-append (body_lines other) (form.End ∷ []))

pub size-While : (e : Expr) (body : List Stmt) → size (While e body) ≡ body_size body + 2
unfolding size body_size
size-While e body = ap length (each_stmt-While stmt_step clause_step e body) ∙ omega (arith, length-append (body_lines body) (form.End ∷ []))

pub size-TryCatch : (body : List Stmt) (clauses : List Clause) → size (TryCatch body clauses) ≡ body_size body + length (clauses_lines clauses) + 2
unfolding size body_size
size-TryCatch body clauses =
    ap length (each_stmt-TryCatch stmt_step clause_step body clauses)
    ∙ omega (arith, length-append (body_lines body) (clauses_lines clauses ++ form.Endtry ∷ []), length-append (clauses_lines clauses) (form.Endtry ∷ []))

pub size-TryFinally : (body final : List Stmt) → size (TryFinally body final) ≡ body_size body + body_size final + 3
unfolding size body_size
size-TryFinally body final =
    ap length (each_stmt-TryFinally stmt_step clause_step body final)
    ∙ omega (arith, length-append (body_lines body) (form.Finally ∷ (body_lines final ++ form.Endtry ∷ [])), length-append (body_lines final) (form.Endtry ∷ []))

pub size-Raise : (name : NameId) → size (Raise name) ≡ 1
unfolding size
size-Raise name = ap length (each_stmt-Raise stmt_step clause_step name)

pub size-Reraise : size Reraise ≡ 1
unfolding size
size-Reraise = ap length (each_stmt-Reraise stmt_step clause_step)

pub size-Call : (routine : NameId) (e : Expr) (place : Option ℕ) → size (Call routine e place) ≡ 1
unfolding size
size-Call routine e place = ap length (each_stmt-Call stmt_step clause_step routine e place)

pub size-Return : (e : Expr) → size (Return e) ≡ 1
unfolding size
size-Return e = ap length (each_stmt-Return stmt_step clause_step e)

pub size-Exit : (e : Expr) → size (Exit e) ≡ 1
unfolding size
size-Exit e = ap length (each_stmt-Exit stmt_step clause_step e)

pub size-Dce : (call : DceCall) → size (Dce call) ≡ 1
unfolding size
size-Dce call = ap length (each_stmt-Dce stmt_step clause_step call)

pub ruleset size_laws = (body_size-nil, body_size-cons, size-Set, size-Say, size-If, size-If-else, size-While, size-TryCatch, size-TryFinally, size-Raise, size-Reraise, size-Call, size-Return, size-Exit, size-Dce)

-- What the walks over a script answer for bodies and clauses.
use Rattle.std.specs.Prelude.{ℕ, Bool, true, ◌&&◌, nat_le, List, ◌∷◌, map, Option, Some, None}
use Rattle.std.specs.List.{list_all}
use Rattle.thr_syntax.specs.declared.tree.Stmt.{Stmt, Set, Say, If', While', TryCatch', TryFinally', Raise, Reraise, Call, Return, Exit, Dce}
use Rattle.thr_syntax.specs.declared.tree.Item.{Item}
use Rattle.thr_syntax.specs.declared.tree.Clause.{Clause}
use Rattle.thr_syntax.specs.declared.form.Form.{Form}
use Rattle.thr_syntax.specs.declared.form.Form.TheVariants as form
use Rattle.thr_syntax.specs.Spelling.{Scope}
use Rattle.thr_syntax.specs.Lines.{joined, stmt_lines, body_lines, clause_form}
use Rattle.thr_syntax.specs.Canon.{item_words}
use Rattle.thr_limits.specs.Limits.{stmt_depth, is_short_line}
use Rattle.thr_limits.specs.Widths.{is_short_form}

-- ---- depths

-- The statement opens at most so many blocks in one another.
abbrev pub opens_at_most : ℕ → Stmt → Bool
opens_at_most n s = nat_le (stmt_depth s) n

abbrev pub is_body_within : ℕ → List Stmt → Bool
is_body_within n body = list_all (opens_at_most n) body

abbrev pub is_else_within : ℕ → Option (List Stmt) → Bool
is_else_within n None = true
is_else_within n (Some body) = is_body_within n body

abbrev pub is_clause_within : ℕ → Clause → Bool
is_clause_within n c = is_body_within n c.body

-- ---- lines

-- The line of a statement, which its bodies follow.
abbrev pub first_form : Stmt → Form
first_form (Set v e) = form.Set v e
first_form (Say e) = form.Say e
first_form (If' e x body other) = form.If e
first_form (While' e x body) = form.While e
first_form (TryCatch' x body y clauses) = form.Try
first_form (TryFinally' x body y final) = form.Try
first_form (Raise x) = form.Raise x
first_form Reraise = form.Reraise
first_form (Call r e v) = form.Call r e v
first_form (Return e) = form.Return e
first_form (Exit e) = form.Exit e
first_form (Dce call) = form.Dce call

abbrev pub clause_lines : Clause → List Form
clause_lines c = clause_form c.names ∷ body_lines c.body

abbrev pub clauses_lines : List Clause → List Form
clauses_lines clauses = joined (map clause_lines clauses)

-- Each of these lines is short.
abbrev pub are_short : Scope → List Form → Bool
are_short scope forms = list_all (is_short_form scope) forms

abbrev pub is_stmt_short : Scope → Stmt → Bool
is_stmt_short scope s = are_short scope (stmt_lines s)

abbrev pub is_body_short : Scope → List Stmt → Bool
is_body_short scope body = list_all (is_stmt_short scope) body

abbrev pub is_clause_short : Scope → Clause → Bool
is_clause_short scope c = is_short_form scope (clause_form c.names) && is_body_short scope c.body

abbrev pub is_item_short : List (List ℕ) → Item → Bool
is_item_short names i = list_all is_short_line (item_words names i)

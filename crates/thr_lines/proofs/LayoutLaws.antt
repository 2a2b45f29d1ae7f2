-- The lines of a statement at each variant.
use Rattle.std.proofs.Common.{◌≡◌, ℕ, ◌+◌, List, [], ◌∷◌, ◌++◌, Option, Some, None, refl, ap, ◌∙◌}
use Rattle.thr_values.specs.declared.number.NameId.{NameId}
use Rattle.thr_values.specs.declared.number.Line.{Line}
use Rattle.thr_syntax.specs.declared.form.Form.TheVariants as form
use Rattle.thr_syntax.specs.declared.expr.Var as variable
use Rattle.thr_syntax.specs.declared.expr.Expr.{Expr}
use Rattle.thr_syntax.specs.declared.dce.DceCall.{DceCall}
use Rattle.thr_syntax.specs.declared.tree.Clause.{Clause}
use Rattle.thr_syntax.specs.declared.tree.Stmt.{Stmt, Set, Say, If, While, TryCatch, TryFinally, Raise, Reraise, Call, Return, Exit, Dce}
use Rattle.thr_syntax.specs.declared.tree.Stmt.TheBlock.{hidden-the_row-Stmt-0, hidden-the_row-Clause-1}
use Rattle.thr_syntax.specs.Computing.{tree_words}
use Rattle.thr_syntax.specs.Folds.{stmts_in, clauses_in}
use Rattle.thr_syntax.proofs.FoldLaws.{stmts_in-hidden, clauses_in-hidden}
use Rattle.thr_syntax.specs.Lines.{clause_form}
use Rattle.thr_remainder.specs.Places.{Left, size, body_size, body_then, stmt_then, body_at, nothing, Ways, Catches, Finally, handlers_at, clauses_size}
use Rattle.thr_remainder.specs.Starts.{at}
use Rattle.thr_lines.specs.Layout.{ScriptLine, plain_line, opening_line, middle_line, closing_line, stmt_layout, raw_body_layout, raw_clauses_layout, body_layout, clauses_layout}

pub raw_body_layout-hidden : (l : ℕ) (body : List Stmt) (rest : Left) → raw_body_layout l (hidden-the_row-Stmt-0 body) rest ≡ body_layout l body rest
unfolding stmt_layout tree_words
raw_body_layout-hidden l [] rest = refl
raw_body_layout-hidden l (s ∷ body) rest = λ i. stmt_layout l s (body_then (l + size s) (stmts_in-hidden body i) rest) ++ raw_body_layout-hidden (l + size s) body rest i

pub raw_clauses_layout-hidden : (l : ℕ) (clauses : List Clause) (after : Option Line) → raw_clauses_layout l (hidden-the_row-Clause-1 clauses) after ≡ clauses_layout l clauses after
unfolding stmt_layout tree_words
raw_clauses_layout-hidden l [] after = refl
raw_clauses_layout-hidden l (c ∷ clauses) after =
    let next = l + 1 + body_size c.body in
    let first : raw_clauses_layout l (hidden-the_row-Clause-1 (c ∷ clauses)) after ≡
    middle_line (clause_form c.names) next after (nothing l) (Catches (handlers_at l (c ∷ clauses))) ∷
    (raw_body_layout (l + 1) (hidden-the_row-Stmt-0 c.body) (nothing next) ++ raw_clauses_layout next (hidden-the_row-Clause-1 clauses) after) =
    λ i.
    middle_line (clause_form c.names) (l + 1 + body_size (stmts_in-hidden c.body i)) after (nothing l)
    (Catches (handlers_at l (record { names = c.names; body = stmts_in-hidden c.body i } ∷ clauses_in-hidden clauses i))) ∷
    (raw_body_layout (l + 1) (hidden-the_row-Stmt-0 c.body) (nothing (l + 1 + body_size (stmts_in-hidden c.body i))) ++
    raw_clauses_layout (l + 1 + body_size (stmts_in-hidden c.body i)) (hidden-the_row-Clause-1 clauses) after) in
    first ∙ (λ i.
    middle_line (clause_form c.names) next after (nothing l) (Catches (handlers_at l (c ∷ clauses))) ∷
    (raw_body_layout-hidden (l + 1) c.body (nothing next) i ++ raw_clauses_layout-hidden next clauses after i))

-- ---- blocks

-- The lines of an `if`, a `while` and a try, made of the lines of their bodies.
abbrev pub if_lines : ℕ → Expr → (first : ℕ) → Left → Left → List ScriptLine → List ScriptLine
if_lines l e first here rest body =
    let end = l + 1 + first in
    let after = Some (at (end + 1)) in
    opening_line (form.If e) end end after here ∷ (body ++ closing_line form.End (Some (at l)) after rest ∷ [])

abbrev pub if_else_lines : ℕ → Expr → (first second : ℕ) → Left → Left → List ScriptLine → List ScriptLine → List ScriptLine
if_else_lines l e first second here rest body other =
    let half = l + 1 + first in
    let end = half + 1 + second in
    let after = Some (at (end + 1)) in
    opening_line (form.If e) end half after here ∷ (body ++ (middle_line form.Else end after rest (Catches []) ∷ (other ++ closing_line form.End (Some (at l)) after rest ∷ [])))

abbrev pub while_lines : ℕ → Expr → (first : ℕ) → Left → List ScriptLine → List ScriptLine
while_lines l e first here body =
    let end = l + 1 + first in
    let after = Some (at (end + 1)) in
    opening_line (form.While e) end end after here ∷ (body ++ closing_line form.End (Some (at l)) after here ∷ [])

abbrev pub try_lines : ℕ → (half size : ℕ) → Left → List ScriptLine → List ScriptLine → List ScriptLine
try_lines l half more here body clauses =
    let end = half + more in
    let after = Some (at (end + 1)) in
    opening_line form.Try end half after here ∷ (body ++ (clauses ++ closing_line form.Endtry (Some (at l)) after (nothing end) ∷ []))

abbrev pub finally_lines : ℕ → (half end : ℕ) → Left → Ways → List ScriptLine → List ScriptLine → List ScriptLine
finally_lines l half end here ways body final =
    let after = Some (at (end + 1)) in
    opening_line form.Try end half after here ∷ (body ++ (middle_line form.Finally end after (nothing half) ways ∷
    (final ++ closing_line form.Endtry (Some (at l)) after (nothing end) ∷ [])))

pub layout-If : (l : ℕ) (e : Expr) (body : List Stmt) (rest : Left) →
    stmt_layout l (If e body None) rest ≡ if_lines l e (body_size body) (stmt_then l (If e body None) rest) rest (body_layout (l + 1) body rest)
unfolding stmt_layout
layout-If l e body rest = λ i. if_lines l e (body_size (stmts_in-hidden body i)) (stmt_then l (If e body None) rest) rest (raw_body_layout-hidden (l + 1) body rest i)

pub layout-If-else : (l : ℕ) (e : Expr) (body other : List Stmt) (rest : Left) →
    stmt_layout l (If e body (Some other)) rest ≡ if_else_lines l e (body_size body) (body_size other) (stmt_then l (If e body (Some other)) rest) rest
    (body_layout (l + 1) body rest) (body_layout (l + 1 + body_size body + 1) other rest)
unfolding stmt_layout
layout-If-else l e body other rest =
    let s = If e body (Some other) in
    let first : stmt_layout l s rest ≡ if_else_lines l e (body_size body) (body_size other) (stmt_then l s rest) rest
    (raw_body_layout (l + 1) (hidden-the_row-Stmt-0 body) rest) (raw_body_layout (l + 1 + body_size body + 1) (hidden-the_row-Stmt-0 other) rest) =
    λ i. if_else_lines l e (body_size (stmts_in-hidden body i)) (body_size (stmts_in-hidden other i)) (stmt_then l s rest) rest
    (raw_body_layout (l + 1) (hidden-the_row-Stmt-0 body) rest) (raw_body_layout (l + 1 + body_size (stmts_in-hidden body i) + 1) (hidden-the_row-Stmt-0 other) rest) in
    first ∙ (λ i. if_else_lines l e (body_size body) (body_size other) (stmt_then l s rest) rest (raw_body_layout-hidden (l + 1) body rest i) (raw_body_layout-hidden (l + 1 + body_size body + 1) other rest i))

pub layout-While : (l : ℕ) (e : Expr) (body : List Stmt) (rest : Left) →
    stmt_layout l (While e body) rest ≡ while_lines l e (body_size body) (stmt_then l (While e body) rest) (body_layout (l + 1) body (stmt_then l (While e body) rest))
unfolding stmt_layout
layout-While l e body rest = λ i. while_lines l e (body_size (stmts_in-hidden body i)) (stmt_then l (While e body) rest) (raw_body_layout-hidden (l + 1) body (stmt_then l (While e body) rest) i)

pub layout-TryCatch : (l : ℕ) (body : List Stmt) (clauses : List Clause) (rest : Left) →
    let half = l + 1 + body_size body in
    stmt_layout l (TryCatch body clauses) rest ≡ try_lines l half (clauses_size clauses) (stmt_then l (TryCatch body clauses) rest)
    (body_layout (l + 1) body (nothing half)) (clauses_layout half clauses (Some (at (half + clauses_size clauses + 1))))
unfolding stmt_layout
layout-TryCatch l body clauses rest =
    let s = TryCatch body clauses in
    let half = l + 1 + body_size body in
    let after = Some (at (half + clauses_size clauses + 1)) in
    let first : stmt_layout l s rest ≡ try_lines l half (clauses_size clauses) (stmt_then l s rest)
    (raw_body_layout (l + 1) (hidden-the_row-Stmt-0 body) (nothing half)) (raw_clauses_layout half (hidden-the_row-Clause-1 clauses) after) =
    λ i. try_lines l (l + 1 + body_size (stmts_in-hidden body i)) (clauses_size (clauses_in-hidden clauses i)) (stmt_then l s rest)
    (raw_body_layout (l + 1) (hidden-the_row-Stmt-0 body) (nothing (l + 1 + body_size (stmts_in-hidden body i))))
    (raw_clauses_layout (l + 1 + body_size (stmts_in-hidden body i)) (hidden-the_row-Clause-1 clauses)
    (Some (at (l + 1 + body_size (stmts_in-hidden body i) + clauses_size (clauses_in-hidden clauses i) + 1)))) in
    first ∙ (λ i. try_lines l half (clauses_size clauses) (stmt_then l s rest) (raw_body_layout-hidden (l + 1) body (nothing half) i) (raw_clauses_layout-hidden half clauses after i))

pub layout-TryFinally : (l : ℕ) (body final : List Stmt) (rest : Left) →
    let half = l + 1 + body_size body in
    let end = half + 1 + body_size final in
    stmt_layout l (TryFinally body final) rest ≡ finally_lines l half end (stmt_then l (TryFinally body final) rest) (Finally (body_at (half + 1) final))
    (body_layout (l + 1) body (nothing half)) (body_layout (half + 1) final (nothing end))
unfolding stmt_layout
layout-TryFinally l body final rest =
    let s = TryFinally body final in
    let half = l + 1 + body_size body in
    let end = half + 1 + body_size final in
    let first : stmt_layout l s rest ≡ finally_lines l half end (stmt_then l s rest) (Finally (body_at (half + 1) final))
    (raw_body_layout (l + 1) (hidden-the_row-Stmt-0 body) (nothing half)) (raw_body_layout (half + 1) (hidden-the_row-Stmt-0 final) (nothing end)) =
    λ i. finally_lines l (l + 1 + body_size (stmts_in-hidden body i)) (l + 1 + body_size (stmts_in-hidden body i) + 1 + body_size (stmts_in-hidden final i)) (stmt_then l s rest)
    (Finally (body_at (l + 1 + body_size (stmts_in-hidden body i) + 1) (stmts_in-hidden final i)))
    (raw_body_layout (l + 1) (hidden-the_row-Stmt-0 body) (nothing (l + 1 + body_size (stmts_in-hidden body i))))
    (raw_body_layout (l + 1 + body_size (stmts_in-hidden body i) + 1) (hidden-the_row-Stmt-0 final)
    (nothing (l + 1 + body_size (stmts_in-hidden body i) + 1 + body_size (stmts_in-hidden final i)))) in
    first ∙ (λ i. finally_lines l half end (stmt_then l s rest) (Finally (body_at (half + 1) final)) (raw_body_layout-hidden (l + 1) body (nothing half) i) (raw_body_layout-hidden (half + 1) final (nothing end) i))

-- ---- statements of one line

pub layout-Set : (l : ℕ) (v : variable.Var) (e : Expr) (rest : Left) → stmt_layout l (Set v e) rest ≡ plain_line (form.Set v e) (stmt_then l (Set v e) rest) ∷ []
unfolding stmt_layout
layout-Set l v e rest = refl

pub layout-Say : (l : ℕ) (e : Expr) (rest : Left) → stmt_layout l (Say e) rest ≡ plain_line (form.Say e) (stmt_then l (Say e) rest) ∷ []
unfolding stmt_layout
layout-Say l e rest = refl

pub layout-Raise : (l : ℕ) (name : NameId) (rest : Left) → stmt_layout l (Raise name) rest ≡ plain_line (form.Raise name) (stmt_then l (Raise name) rest) ∷ []
unfolding stmt_layout
layout-Raise l name rest = refl

pub layout-Reraise : (l : ℕ) (rest : Left) → stmt_layout l Reraise rest ≡ plain_line form.Reraise (stmt_then l Reraise rest) ∷ []
unfolding stmt_layout
layout-Reraise l rest = refl

pub layout-Call : (l : ℕ) (name : NameId) (e : Expr) (v : Option ℕ) (rest : Left) → stmt_layout l (Call name e v) rest ≡ plain_line (form.Call name e v) (stmt_then l (Call name e v) rest) ∷ []
unfolding stmt_layout
layout-Call l name e v rest = refl

pub layout-Return : (l : ℕ) (e : Expr) (rest : Left) → stmt_layout l (Return e) rest ≡ plain_line (form.Return e) (stmt_then l (Return e) rest) ∷ []
unfolding stmt_layout
layout-Return l e rest = refl

pub layout-Exit : (l : ℕ) (e : Expr) (rest : Left) → stmt_layout l (Exit e) rest ≡ plain_line (form.Exit e) (stmt_then l (Exit e) rest) ∷ []
unfolding stmt_layout
layout-Exit l e rest = refl

pub layout-Dce : (l : ℕ) (call : DceCall) (rest : Left) → stmt_layout l (Dce call) rest ≡ plain_line (form.Dce call) (stmt_then l (Dce call) rest) ∷ []
unfolding stmt_layout
layout-Dce l call rest = refl

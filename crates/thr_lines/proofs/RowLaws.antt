-- The rows of statements.
use Rattle.std.proofs.Common.{◌≡◌, ℕ, ◌+◌, List, [], ◌∷◌, ◌++◌, map, Option, Some, None, refl, ap, sym, ◌∙◌}
use Rattle.std.proofs.lemmas.List.{map-append}
use Rattle.thr_values.specs.declared.number.NameId.{NameId}
use Rattle.thr_values.specs.declared.number.Line.{Line}
use Rattle.thr_syntax.specs.declared.form.Form.TheVariants as form
use Rattle.thr_syntax.specs.declared.expr.Var as variable
use Rattle.thr_syntax.specs.declared.expr.Expr.{Expr}
use Rattle.thr_syntax.specs.declared.dce.DceCall.{DceCall}
use Rattle.thr_syntax.specs.declared.tree.Clause.{Clause}
use Rattle.thr_syntax.specs.declared.tree.Stmt.{Stmt, Set, Say, If, While, TryCatch, TryFinally, Raise, Reraise, Call, Return, Exit, Dce}
use Rattle.thr_syntax.specs.Lines.{clause_form}
use Rattle.thr_syntax.proofs.TreeInduction.{StmtCases, stmt_induction, body_induction}
use Rattle.thr_remainder.specs.Places.{Left, size, body_size, body_then, stmt_then, body_at, nothing, Catches, Finally, clauses_size}
use Rattle.thr_remainder.specs.Starts.{at}
use Rattle.thr_lines.specs.declared.row.Row.{Row}
use Rattle.thr_lines.specs.Layout.{ScriptLine, opening_line, middle_line, closing_line, stmt_layout, body_layout, row_of, stmt_rows, body_rows, clauses_layout, clause_rows}
use Rattle.thr_lines.specs.Rows.{plain_row, opening_row, middle_row, closing_row}
use Rattle.thr_lines.proofs.LayoutLaws.{layout-If, layout-If-else, layout-While, layout-TryCatch, layout-TryFinally, layout-Set, layout-Say, layout-Raise, layout-Reraise, layout-Call, layout-Return, layout-Exit, layout-Dce}

-- ---- what is left after a statement is nothing to its rows

abbrev Same : Stmt → Type 0
Same s = (l : ℕ) (rest other : Left) → map row_of (stmt_layout l s rest) ≡ map row_of (stmt_layout l s other)

abbrev SameBody : List Stmt → Type 0
SameBody body = (l : ℕ) (rest other : Left) → map row_of (body_layout l body rest) ≡ map row_of (body_layout l body other)

-- Rows around those of one body, and around those of two.
abbrev pub around : Row → List Row → Row → List Row
around opener body closer = opener ∷ (body ++ closer ∷ [])

abbrev pub around_two : Row → List Row → Row → List Row → Row → List Row
around_two opener body middle other closer = opener ∷ (body ++ (middle ∷ (other ++ closer ∷ [])))

map_around : (o : ScriptLine) (body : List ScriptLine) (c : ScriptLine) → map row_of (o ∷ (body ++ c ∷ [])) ≡ around o.row (map row_of body) c.row
map_around o body c = ap (λ (xs : List Row). o.row ∷ xs) (map-append row_of body (c ∷ []))

map_around_two : (o : ScriptLine) (body : List ScriptLine) (m : ScriptLine) (other : List ScriptLine) (c : ScriptLine) →
    map row_of (o ∷ (body ++ (m ∷ (other ++ c ∷ [])))) ≡ around_two o.row (map row_of body) m.row (map row_of other) c.row
map_around_two o body m other c =
    ap (λ (xs : List Row). o.row ∷ xs) (map-append row_of body (m ∷ (other ++ c ∷ []))
    ∙ ap (λ (xs : List Row). map row_of body ++ (m.row ∷ xs)) (map-append row_of other (c ∷ [])))

rows_of-If : (l : ℕ) (e : Expr) (body : List Stmt) (rest : Left) →
    let end = l + 1 + body_size body in let after = Some (at (end + 1)) in
    map row_of (stmt_layout l (If e body None) rest) ≡ around (opening_row (form.If e) end end after) (map row_of (body_layout (l + 1) body rest)) (closing_row form.End (Some (at l)) after)
rows_of-If l e body rest =
    let end = l + 1 + body_size body in let after = Some (at (end + 1)) in
    ap (map row_of) (layout-If l e body rest)
    ∙ map_around (opening_line (form.If e) end end after (stmt_then l (If e body None) rest)) (body_layout (l + 1) body rest) (closing_line form.End (Some (at l)) after rest)

rows_of-If-else : (l : ℕ) (e : Expr) (body other : List Stmt) (rest : Left) →
    let half = l + 1 + body_size body in let end = half + 1 + body_size other in let after = Some (at (end + 1)) in
    map row_of (stmt_layout l (If e body (Some other)) rest) ≡ around_two (opening_row (form.If e) end half after) (map row_of (body_layout (l + 1) body rest))
    (middle_row form.Else end after) (map row_of (body_layout (half + 1) other rest)) (closing_row form.End (Some (at l)) after)
rows_of-If-else l e body other rest =
    let half = l + 1 + body_size body in let end = half + 1 + body_size other in let after = Some (at (end + 1)) in
    ap (map row_of) (layout-If-else l e body other rest)
    ∙ map_around_two (opening_line (form.If e) end half after (stmt_then l (If e body (Some other)) rest)) (body_layout (l + 1) body rest)
    (middle_line form.Else end after rest (Catches [])) (body_layout (half + 1) other rest) (closing_line form.End (Some (at l)) after rest)

rows_of-While : (l : ℕ) (e : Expr) (body : List Stmt) (rest : Left) →
    let end = l + 1 + body_size body in let after = Some (at (end + 1)) in
    map row_of (stmt_layout l (While e body) rest) ≡ around (opening_row (form.While e) end end after) (map row_of (body_layout (l + 1) body (stmt_then l (While e body) rest))) (closing_row form.End (Some (at l)) after)
rows_of-While l e body rest =
    let end = l + 1 + body_size body in let after = Some (at (end + 1)) in
    let here = stmt_then l (While e body) rest in
    ap (map row_of) (layout-While l e body rest)
    ∙ map_around (opening_line (form.While e) end end after here) (body_layout (l + 1) body here) (closing_line form.End (Some (at l)) after here)

rows_of-TryCatch : (l : ℕ) (body : List Stmt) (clauses : List Clause) (rest : Left) →
    let half = l + 1 + body_size body in let end = half + clauses_size clauses in let after = Some (at (end + 1)) in
    map row_of (stmt_layout l (TryCatch body clauses) rest) ≡ opening_row form.Try end half after ∷ (map row_of (body_layout (l + 1) body (nothing half)) ++
    (map row_of (clauses_layout half clauses after) ++ closing_row form.Endtry (Some (at l)) after ∷ []))
rows_of-TryCatch l body clauses rest =
    let half = l + 1 + body_size body in let end = half + clauses_size clauses in let after = Some (at (end + 1)) in
    ap (map row_of) (layout-TryCatch l body clauses rest)
    ∙ ap (λ (xs : List Row). opening_row form.Try end half after ∷ xs) (map-append row_of (body_layout (l + 1) body (nothing half)) _
    ∙ ap (λ (xs : List Row). map row_of (body_layout (l + 1) body (nothing half)) ++ xs) (map-append row_of (clauses_layout half clauses after) _))

rows_of-TryFinally : (l : ℕ) (body final : List Stmt) (rest : Left) →
    let half = l + 1 + body_size body in let end = half + 1 + body_size final in let after = Some (at (end + 1)) in
    map row_of (stmt_layout l (TryFinally body final) rest) ≡ around_two (opening_row form.Try end half after) (map row_of (body_layout (l + 1) body (nothing half)))
    (middle_row form.Finally end after) (map row_of (body_layout (half + 1) final (nothing end))) (closing_row form.Endtry (Some (at l)) after)
rows_of-TryFinally l body final rest =
    let half = l + 1 + body_size body in let end = half + 1 + body_size final in let after = Some (at (end + 1)) in
    ap (map row_of) (layout-TryFinally l body final rest)
    ∙ map_around_two (opening_line form.Try end half after (stmt_then l (TryFinally body final) rest)) (body_layout (l + 1) body (nothing half))
    (middle_line form.Finally end after (nothing half) (Finally (body_at (half + 1) final))) (body_layout (half + 1) final (nothing end))
    (closing_line form.Endtry (Some (at l)) after (nothing end))

same_if : (e : Expr) (body : List Stmt) → SameBody body → Same (If e body None)
same_if e body same l rest other =
    let end = l + 1 + body_size body in let after = Some (at (end + 1)) in
    rows_of-If l e body rest ∙ ap (λ (xs : List Row). around (opening_row (form.If e) end end after) xs (closing_row form.End (Some (at l)) after)) (same (l + 1) rest other) ∙ sym (rows_of-If l e body other)

same_if_else : (e : Expr) (body second : List Stmt) → SameBody body → SameBody second → Same (If e body (Some second))
same_if_else e body second same also l rest other =
    let half = l + 1 + body_size body in let end = half + 1 + body_size second in let after = Some (at (end + 1)) in
    rows_of-If-else l e body second rest
    ∙ (λ i. around_two (opening_row (form.If e) end half after) (same (l + 1) rest other i) (middle_row form.Else end after) (also (half + 1) rest other i) (closing_row form.End (Some (at l)) after))
    ∙ sym (rows_of-If-else l e body second other)

same_while : (e : Expr) (body : List Stmt) → SameBody body → Same (While e body)
same_while e body same l rest other =
    let end = l + 1 + body_size body in let after = Some (at (end + 1)) in
    rows_of-While l e body rest
    ∙ ap (λ (xs : List Row). around (opening_row (form.While e) end end after) xs (closing_row form.End (Some (at l)) after)) (same (l + 1) (stmt_then l (While e body) rest) (stmt_then l (While e body) other))
    ∙ sym (rows_of-While l e body other)

same_more : (s : Stmt) (body : List Stmt) → Same s → SameBody body → SameBody (s ∷ body)
same_more s body same also l rest other =
    map-append row_of (stmt_layout l s (body_then (l + size s) body rest)) (body_layout (l + size s) body rest)
    ∙ (λ i. same l (body_then (l + size s) body rest) (body_then (l + size s) body other) i ++ also (l + size s) rest other i)
    ∙ sym (map-append row_of (stmt_layout l s (body_then (l + size s) body other)) (body_layout (l + size s) body other))

same_cases : StmtCases Same SameBody (λ clauses. Unit {0})
same_cases = record {
  set = λ v e l rest other. ap (map row_of) (layout-Set l v e rest) ∙ sym (ap (map row_of) (layout-Set l v e other));
  say = λ e l rest other. ap (map row_of) (layout-Say l e rest) ∙ sym (ap (map row_of) (layout-Say l e other));
  if_alone = same_if;
  if_else = same_if_else;
  while = same_while;
  try_catch = λ body clauses same also l rest other. rows_of-TryCatch l body clauses rest ∙ sym (rows_of-TryCatch l body clauses other);
  try_finally = λ body final same also l rest other. rows_of-TryFinally l body final rest ∙ sym (rows_of-TryFinally l body final other);
  raise = λ name l rest other. ap (map row_of) (layout-Raise l name rest) ∙ sym (ap (map row_of) (layout-Raise l name other));
  reraise = λ l rest other. ap (map row_of) (layout-Reraise l rest) ∙ sym (ap (map row_of) (layout-Reraise l other));
  call = λ name e v l rest other. ap (map row_of) (layout-Call l name e v rest) ∙ sym (ap (map row_of) (layout-Call l name e v other));
  return = λ e l rest other. ap (map row_of) (layout-Return l e rest) ∙ sym (ap (map row_of) (layout-Return l e other));
  exit = λ e l rest other. ap (map row_of) (layout-Exit l e rest) ∙ sym (ap (map row_of) (layout-Exit l e other));
  dce = λ call l rest other. ap (map row_of) (layout-Dce l call rest) ∙ sym (ap (map row_of) (layout-Dce l call other));
  body_end = λ l rest other. refl;
  body_more = same_more;
  clauses_end = tt;
  clauses_more = λ c clauses same also. tt;
}

pub stmt_rows-any : (s : Stmt) (l : ℕ) (rest : Left) → map row_of (stmt_layout l s rest) ≡ stmt_rows l s
unfolding stmt_rows
stmt_rows-any s l rest = stmt_induction Same SameBody (λ clauses. Unit {0}) same_cases s l rest (nothing 0)

pub body_rows-any : (body : List Stmt) (l : ℕ) (rest : Left) → map row_of (body_layout l body rest) ≡ body_rows l body
unfolding body_rows
body_rows-any body l rest = body_induction Same SameBody (λ clauses. Unit {0}) same_cases body l rest (nothing 0)

-- ---- rows of each block, by the rows of its bodies

pub rows-If : (l : ℕ) (e : Expr) (body : List Stmt) →
    let end = l + 1 + body_size body in let after = Some (at (end + 1)) in
    stmt_rows l (If e body None) ≡ around (opening_row (form.If e) end end after) (body_rows (l + 1) body) (closing_row form.End (Some (at l)) after)
unfolding stmt_rows body_rows
rows-If l e body = rows_of-If l e body (nothing 0)

pub rows-If-else : (l : ℕ) (e : Expr) (body other : List Stmt) →
    let half = l + 1 + body_size body in let end = half + 1 + body_size other in let after = Some (at (end + 1)) in
    stmt_rows l (If e body (Some other)) ≡ around_two (opening_row (form.If e) end half after) (body_rows (l + 1) body) (middle_row form.Else end after) (body_rows (half + 1) other) (closing_row form.End (Some (at l)) after)
unfolding stmt_rows body_rows
rows-If-else l e body other = rows_of-If-else l e body other (nothing 0)

pub rows-While : (l : ℕ) (e : Expr) (body : List Stmt) →
    let end = l + 1 + body_size body in let after = Some (at (end + 1)) in
    stmt_rows l (While e body) ≡ around (opening_row (form.While e) end end after) (body_rows (l + 1) body) (closing_row form.End (Some (at l)) after)
unfolding stmt_rows
rows-While l e body =
    let end = l + 1 + body_size body in let after = Some (at (end + 1)) in
    rows_of-While l e body (nothing 0)
    ∙ ap (λ (xs : List Row). around (opening_row (form.While e) end end after) xs (closing_row form.End (Some (at l)) after)) (body_rows-any body (l + 1) (stmt_then l (While e body) (nothing 0)))

pub rows-TryCatch : (l : ℕ) (body : List Stmt) (clauses : List Clause) →
    let half = l + 1 + body_size body in let end = half + clauses_size clauses in let after = Some (at (end + 1)) in
    stmt_rows l (TryCatch body clauses) ≡ opening_row form.Try end half after ∷ (body_rows (l + 1) body ++ (clause_rows half clauses after ++ closing_row form.Endtry (Some (at l)) after ∷ []))
unfolding stmt_rows clause_rows
rows-TryCatch l body clauses =
    let half = l + 1 + body_size body in let end = half + clauses_size clauses in let after = Some (at (end + 1)) in
    rows_of-TryCatch l body clauses (nothing 0)
    ∙ ap (λ (xs : List Row). opening_row form.Try end half after ∷ (xs ++ (clause_rows half clauses after ++ closing_row form.Endtry (Some (at l)) after ∷ []))) (body_rows-any body (l + 1) (nothing half))

pub rows-TryFinally : (l : ℕ) (body final : List Stmt) →
    let half = l + 1 + body_size body in let end = half + 1 + body_size final in let after = Some (at (end + 1)) in
    stmt_rows l (TryFinally body final) ≡ around_two (opening_row form.Try end half after) (body_rows (l + 1) body) (middle_row form.Finally end after) (body_rows (half + 1) final) (closing_row form.Endtry (Some (at l)) after)
unfolding stmt_rows
rows-TryFinally l body final =
    let half = l + 1 + body_size body in let end = half + 1 + body_size final in let after = Some (at (end + 1)) in
    rows_of-TryFinally l body final (nothing 0)
    ∙ (λ i. around_two (opening_row form.Try end half after) (body_rows-any body (l + 1) (nothing half) i) (middle_row form.Finally end after) (body_rows-any final (half + 1) (nothing end) i) (closing_row form.Endtry (Some (at l)) after))

pub rows-cons : (l : ℕ) (s : Stmt) (body : List Stmt) → body_rows l (s ∷ body) ≡ stmt_rows l s ++ body_rows (l + size s) body
unfolding body_rows
rows-cons l s body =
    map-append row_of (stmt_layout l s (body_then (l + size s) body (nothing 0))) (body_layout (l + size s) body (nothing 0))
    ∙ ap (λ (xs : List Row). xs ++ map row_of (body_layout (l + size s) body (nothing 0))) (stmt_rows-any s l (body_then (l + size s) body (nothing 0)))

pub rows-nil : (l : ℕ) → body_rows l [] ≡ []
unfolding body_rows
rows-nil l = refl

pub clause_rows-cons : (l : ℕ) (c : Clause) (clauses : List Clause) (after : Option Line) →
    clause_rows l (c ∷ clauses) after ≡ middle_row (clause_form c.names) (l + 1 + body_size c.body) after ∷ (body_rows (l + 1) c.body ++ clause_rows (l + 1 + body_size c.body) clauses after)
unfolding clause_rows
clause_rows-cons l c clauses after =
    let next = l + 1 + body_size c.body in
    ap (λ (xs : List Row). middle_row (clause_form c.names) next after ∷ xs)
    (map-append row_of (body_layout (l + 1) c.body (nothing next)) (clauses_layout next clauses after)
    ∙ ap (λ (xs : List Row). xs ++ map row_of (clauses_layout next clauses after)) (body_rows-any c.body (l + 1) (nothing next)))

pub clause_rows-nil : (l : ℕ) (after : Option Line) → clause_rows l [] after ≡ []
unfolding clause_rows
clause_rows-nil l after = refl

pub rows-Set : (l : ℕ) (v : variable.Var) (e : Expr) → stmt_rows l (Set v e) ≡ plain_row (form.Set v e) ∷ []
unfolding stmt_rows
rows-Set l v e = ap (map row_of) (layout-Set l v e (nothing 0))

pub rows-Say : (l : ℕ) (e : Expr) → stmt_rows l (Say e) ≡ plain_row (form.Say e) ∷ []
unfolding stmt_rows
rows-Say l e = ap (map row_of) (layout-Say l e (nothing 0))

pub rows-Raise : (l : ℕ) (name : NameId) → stmt_rows l (Raise name) ≡ plain_row (form.Raise name) ∷ []
unfolding stmt_rows
rows-Raise l name = ap (map row_of) (layout-Raise l name (nothing 0))

pub rows-Reraise : (l : ℕ) → stmt_rows l Reraise ≡ plain_row form.Reraise ∷ []
unfolding stmt_rows
rows-Reraise l = ap (map row_of) (layout-Reraise l (nothing 0))

pub rows-Call : (l : ℕ) (name : NameId) (e : Expr) (v : Option ℕ) → stmt_rows l (Call name e v) ≡ plain_row (form.Call name e v) ∷ []
unfolding stmt_rows
rows-Call l name e v = ap (map row_of) (layout-Call l name e v (nothing 0))

pub rows-Return : (l : ℕ) (e : Expr) → stmt_rows l (Return e) ≡ plain_row (form.Return e) ∷ []
unfolding stmt_rows
rows-Return l e = ap (map row_of) (layout-Return l e (nothing 0))

pub rows-Exit : (l : ℕ) (e : Expr) → stmt_rows l (Exit e) ≡ plain_row (form.Exit e) ∷ []
unfolding stmt_rows
rows-Exit l e = ap (map row_of) (layout-Exit l e (nothing 0))

pub rows-Dce : (l : ℕ) (call : DceCall) → stmt_rows l (Dce call) ≡ plain_row (form.Dce call) ∷ []
unfolding stmt_rows
rows-Dce l call = ap (map row_of) (layout-Dce l call (nothing 0))

pub ruleset plain_rows = (rows-Set, rows-Say, rows-Raise, rows-Reraise, rows-Call, rows-Return, rows-Exit, rows-Dce)

-- The rows of a script say what its lines say, and how many there are.
use Rattle.std.proofs.Common.{◌≡◌, ℕ, ◌+◌, List, [], ◌∷◌, ◌++◌, map, length, length-append, Option, Some, None, refl, ap, sym, ◌∙◌, arith}
use Rattle.std.proofs.lemmas.List.{map-append, length-map}
use Rattle.thr_values.specs.declared.number.Line.{Line}
use Rattle.thr_syntax.specs.declared.form.Form.{Form}
use Rattle.thr_syntax.specs.declared.form.Form.TheVariants as form
use Rattle.thr_syntax.specs.declared.expr.Expr.{Expr}
use Rattle.thr_syntax.specs.declared.tree.Clause.{Clause}
use Rattle.thr_syntax.specs.declared.tree.Stmt.{Stmt, If, While, TryCatch, TryFinally}
use Rattle.thr_syntax.specs.Lines.{stmt_lines, body_lines, stmt_step, clause_step, clause_form}
use Rattle.thr_syntax.proofs.FoldLaws.{each_stmt-Set, each_stmt-Say, each_stmt-If, each_stmt-While, each_stmt-TryCatch, each_stmt-TryFinally, each_stmt-Raise, each_stmt-Reraise, each_stmt-Call, each_stmt-Return, each_stmt-Exit, each_stmt-Dce}
use Rattle.thr_syntax.proofs.TreeInduction.{StmtCases, stmt_induction, body_induction, clauses_induction}
use Rattle.thr_remainder.specs.Places.{size, body_size, clauses_size}
use Rattle.thr_remainder.specs.Starts.{at}
use Rattle.thr_remainder.proofs.SizeLaws.{clauses_lines}
use Rattle.thr_lines.specs.declared.row.Row.{Row}
use Rattle.thr_lines.specs.Layout.{stmt_rows, body_rows, clause_rows}
use Rattle.thr_lines.specs.Rows.{opening_row, middle_row, closing_row}
use Rattle.thr_lines.proofs.RowLaws.{around, around_two, rows-If, rows-If-else, rows-While, rows-TryCatch, rows-TryFinally, rows-cons, rows-nil, clause_rows-cons, clause_rows-nil, rows-Set, rows-Say, rows-Raise, rows-Reraise, rows-Call, rows-Return, rows-Exit, rows-Dce}

abbrev pub form_in : Row → Form
form_in r = r.form

forms_around : (o : Row) (body : List Row) (c : Row) → map form_in (around o body c) ≡ o.form ∷ (map form_in body ++ c.form ∷ [])
forms_around o body c = ap (λ (xs : List Form). o.form ∷ xs) (map-append form_in body (c ∷ []))

forms_around_two : (o : Row) (body : List Row) (m : Row) (other : List Row) (c : Row) → map form_in (around_two o body m other c) ≡ o.form ∷ (map form_in body ++ (m.form ∷ (map form_in other ++ c.form ∷ [])))
forms_around_two o body m other c =
    ap (λ (xs : List Form). o.form ∷ xs) (map-append form_in body (m ∷ (other ++ c ∷ []))
    ∙ ap (λ (xs : List Form). map form_in body ++ (m.form ∷ xs)) (map-append form_in other (c ∷ [])))

abbrev Says : Stmt → Type 0
Says s = (l : ℕ) → map form_in (stmt_rows l s) ≡ stmt_lines s

abbrev SaysBody : List Stmt → Type 0
SaysBody body = (l : ℕ) → map form_in (body_rows l body) ≡ body_lines body

abbrev SaysClauses : List Clause → Type 0
SaysClauses clauses = (l : ℕ) (after : Option Line) → map form_in (clause_rows l clauses after) ≡ clauses_lines clauses

says_if : (e : Expr) (body : List Stmt) → SaysBody body → Says (If e body None)
says_if e body same l =
    let end = l + 1 + body_size body in let after = Some (at (end + 1)) in
    ap (map form_in) (rows-If l e body)
    ∙ forms_around (opening_row (form.If e) end end after) (body_rows (l + 1) body) (closing_row form.End (Some (at l)) after)
    ∙ ap (λ (xs : List Form). form.If e ∷ (xs ++ form.End ∷ [])) (same (l + 1))
    ∙ sym (each_stmt-If stmt_step clause_step e body None)

says_if_else : (e : Expr) (body other : List Stmt) → SaysBody body → SaysBody other → Says (If e body (Some other))
says_if_else e body other same also l =
    let half = l + 1 + body_size body in let end = half + 1 + body_size other in let after = Some (at (end + 1)) in
    ap (map form_in) (rows-If-else l e body other)
    ∙ forms_around_two (opening_row (form.If e) end half after) (body_rows (l + 1) body) (middle_row form.Else end after) (body_rows (half + 1) other) (closing_row form.End (Some (at l)) after)
    ∙ (λ i. form.If e ∷ (same (l + 1) i ++ (form.Else ∷ (also (l + 1 + body_size body + 1) i ++ form.End ∷ []))))
    ∙ sym (each_stmt-If stmt_step clause_step e body (Some other))

says_while : (e : Expr) (body : List Stmt) → SaysBody body → Says (While e body)
says_while e body same l =
    let end = l + 1 + body_size body in let after = Some (at (end + 1)) in
    ap (map form_in) (rows-While l e body)
    ∙ forms_around (opening_row (form.While e) end end after) (body_rows (l + 1) body) (closing_row form.End (Some (at l)) after)
    ∙ ap (λ (xs : List Form). form.While e ∷ (xs ++ form.End ∷ [])) (same (l + 1))
    ∙ sym (each_stmt-While stmt_step clause_step e body)

says_try_catch : (body : List Stmt) (clauses : List Clause) → SaysBody body → SaysClauses clauses → Says (TryCatch body clauses)
says_try_catch body clauses same also l =
    let half = l + 1 + body_size body in let after = Some (at (half + clauses_size clauses + 1)) in
    ap (map form_in) (rows-TryCatch l body clauses)
    ∙ ap (λ (xs : List Form). form.Try ∷ xs) (map-append form_in (body_rows (l + 1) body) _
    ∙ ap (λ (xs : List Form). map form_in (body_rows (l + 1) body) ++ xs) (map-append form_in (clause_rows half clauses after) _))
    ∙ (λ i. form.Try ∷ (same (l + 1) i ++ (also half after i ++ form.Endtry ∷ [])))
    ∙ sym (each_stmt-TryCatch stmt_step clause_step body clauses)

says_try_finally : (body final : List Stmt) → SaysBody body → SaysBody final → Says (TryFinally body final)
says_try_finally body final same also l =
    let half = l + 1 + body_size body in let end = half + 1 + body_size final in let after = Some (at (end + 1)) in
    ap (map form_in) (rows-TryFinally l body final)
    ∙ forms_around_two (opening_row form.Try end half after) (body_rows (l + 1) body) (middle_row form.Finally end after) (body_rows (half + 1) final) (closing_row form.Endtry (Some (at l)) after)
    ∙ (λ i. form.Try ∷ (same (l + 1) i ++ (form.Finally ∷ (also (l + 1 + body_size body + 1) i ++ form.Endtry ∷ []))))
    ∙ sym (each_stmt-TryFinally stmt_step clause_step body final)

says_more : (s : Stmt) (body : List Stmt) → Says s → SaysBody body → SaysBody (s ∷ body)
says_more s body same also l =
    ap (map form_in) (rows-cons l s body)
    ∙ map-append form_in (stmt_rows l s) (body_rows (l + size s) body)
    ∙ (λ i. same l i ++ also (l + size s) i)

says_clauses : (c : Clause) (clauses : List Clause) → SaysBody c.body → SaysClauses clauses → SaysClauses (c ∷ clauses)
says_clauses c clauses same also l after =
    let next = l + 1 + body_size c.body in
    ap (map form_in) (clause_rows-cons l c clauses after)
    ∙ ap (λ (xs : List Form). clause_form c.names ∷ xs) (map-append form_in (body_rows (l + 1) c.body) (clause_rows next clauses after)
    ∙ (λ i. same (l + 1) i ++ also next after i))

says_cases : StmtCases Says SaysBody SaysClauses
says_cases = record {
  set = λ v e l. ap (map form_in) (rows-Set l v e) ∙ sym (each_stmt-Set stmt_step clause_step v e);
  say = λ e l. ap (map form_in) (rows-Say l e) ∙ sym (each_stmt-Say stmt_step clause_step e);
  if_alone = says_if;
  if_else = says_if_else;
  while = says_while;
  try_catch = says_try_catch;
  try_finally = says_try_finally;
  raise = λ name l. ap (map form_in) (rows-Raise l name) ∙ sym (each_stmt-Raise stmt_step clause_step name);
  reraise = λ l. ap (map form_in) (rows-Reraise l) ∙ sym (each_stmt-Reraise stmt_step clause_step);
  call = λ name e v l. ap (map form_in) (rows-Call l name e v) ∙ sym (each_stmt-Call stmt_step clause_step name e v);
  return = λ e l. ap (map form_in) (rows-Return l e) ∙ sym (each_stmt-Return stmt_step clause_step e);
  exit = λ e l. ap (map form_in) (rows-Exit l e) ∙ sym (each_stmt-Exit stmt_step clause_step e);
  dce = λ call l. ap (map form_in) (rows-Dce l call) ∙ sym (each_stmt-Dce stmt_step clause_step call);
  body_end = λ l. ap (map form_in) (rows-nil l);
  body_more = says_more;
  clauses_end = λ l after. ap (map form_in) (clause_rows-nil l after);
  clauses_more = says_clauses;
}

pub stmt_forms : (s : Stmt) (l : ℕ) → map form_in (stmt_rows l s) ≡ stmt_lines s
stmt_forms = stmt_induction Says SaysBody SaysClauses says_cases

pub body_forms : (body : List Stmt) (l : ℕ) → map form_in (body_rows l body) ≡ body_lines body
body_forms = body_induction Says SaysBody SaysClauses says_cases

pub clause_forms : (clauses : List Clause) (l : ℕ) (after : Option Line) → map form_in (clause_rows l clauses after) ≡ clauses_lines clauses
clause_forms = clauses_induction Says SaysBody SaysClauses says_cases

-- ---- how many

pub stmt_count : (s : Stmt) (l : ℕ) → length (stmt_rows l s) ≡ size s
unfolding size
stmt_count s l = sym (length-map (stmt_rows l s) form_in) ∙ ap length (stmt_forms s l)

pub body_count : (body : List Stmt) (l : ℕ) → length (body_rows l body) ≡ body_size body
unfolding body_size
body_count body l = sym (length-map (body_rows l body) form_in) ∙ ap length (body_forms body l)

pub clauses_lines-size : (clauses : List Clause) → length (clauses_lines clauses) ≡ clauses_size clauses
unfolding body_size
clauses_lines-size [] = refl
clauses_lines-size (c ∷ clauses) = omega (arith, length-append (body_lines c.body) (clauses_lines clauses), clauses_lines-size clauses)

pub clause_count : (clauses : List Clause) (l : ℕ) (after : Option Line) → length (clause_rows l clauses after) ≡ clauses_size clauses
clause_count clauses l after = sym (length-map (clause_rows l clauses after) form_in) ∙ ap length (clause_forms clauses l after) ∙ clauses_lines-size clauses

-- Whether the lines of a statement are short, by its parts.
use Rattle.std.proofs.Common.{◌≡◌, ℕ, Bool, true, false, List, [], ◌∷◌, ◌++◌, map, Some, None, refl, sym, ap, ◌∙◌}
use Rattle.std.specs.Prelude.{◌&&◌}
use Rattle.std.specs.List.{list_all}
use Rattle.std.proofs.lemmas.Bool.{false≢true}
use Rattle.std.proofs.lemmas.List.Folds.{list_all-append, list_all-map}
use Rattle.thr_values.specs.declared.number.NameId.{NameId}
use Rattle.thr_syntax.specs.declared.expr.Expr.{Expr}
use Rattle.thr_syntax.specs.declared.tree.Clause.{Clause}
use Rattle.thr_syntax.specs.declared.tree.Stmt.{Stmt, Set, Say, If, If', While, While', TryCatch, TryCatch', TryFinally, TryFinally', Raise, Reraise, Call, Return, Exit, Dce}
use Rattle.thr_syntax.specs.declared.form.Form.{Form}
use Rattle.thr_syntax.specs.declared.form.Form.TheVariants as form
use Rattle.thr_syntax.specs.declared.tree.Item.{Item}
use Rattle.thr_syntax.specs.declared.tree.Item.TheVariants as item
use Rattle.thr_syntax.specs.declared.tree.Routine.{Routine}
use Rattle.thr_syntax.specs.declared.tree.Script.{Script}
use Rattle.thr_syntax.specs.Canon.{item_words}
use Rattle.thr_syntax.specs.Spelling.{Scope, form_words}
use Rattle.thr_limits.specs.Limits.{is_short_line, has_short_lines}
use Rattle.thr_syntax.specs.Folds.{each_stmt}
use Rattle.thr_syntax.specs.Lines.{joined, stmt_step, clause_step, clause_form, stmt_lines, body_lines, head_lines, item_lines}
use Rattle.thr_syntax.proofs.FoldLaws.{each_stmt-If, each_stmt-While, each_stmt-TryCatch, each_stmt-TryFinally, each_stmt-Set, each_stmt-Say, each_stmt-Raise, each_stmt-Reraise, each_stmt-Call, each_stmt-Return, each_stmt-Exit, each_stmt-Dce}
use Rattle.thr_limits.specs.Widths.{is_short_form}
use Rattle.thr_limits.specs.Walks.{first_form, clause_lines, clauses_lines, are_short, is_stmt_short, is_body_short, is_clause_short, is_item_short}

module _ {X : Type 0} (scope : Scope) (lines : X → List Form) where
  pub short_joined : (xs : List X) → are_short scope (joined (map lines xs)) ≡ list_all (λ x. are_short scope (lines x)) xs
  short_joined [] = refl
  short_joined (x ∷ xs) = list_all-append (is_short_form scope) (lines x) (joined (map lines xs)) ∙ ap (λ (b : Bool). are_short scope (lines x) && b) (short_joined xs)

pub and_true : (b : Bool) → (b && true) ≡ b
and_true true = refl
and_true false = refl

module _ (scope : Scope) where
  -- A body before the last line of its block.
  before_last : (body : List Stmt) (last : Form) → is_short_form scope last ≡ true → are_short scope (body_lines body ++ last ∷ []) ≡ is_body_short scope body
  before_last body last short = list_all-append (is_short_form scope) (body_lines body) (last ∷ []) ∙ (λ i. short_joined scope stmt_lines body i && (short i && true)) ∙ and_true (is_body_short scope body)

  -- A body before more lines.
  before : (body : List Stmt) (rest : List Form) (b : Bool) → are_short scope rest ≡ b → are_short scope (body_lines body ++ rest) ≡ (is_body_short scope body && b)
  before body rest b is = list_all-append (is_short_form scope) (body_lines body) rest ∙ (λ i. short_joined scope stmt_lines body i && is i)

  short_clauses : (clauses : List Clause) → are_short scope (clauses_lines clauses) ≡ list_all (is_clause_short scope) clauses
  short_clauses [] = refl
  short_clauses (c ∷ clauses) =
      list_all-append (is_short_form scope) (clause_lines c) (clauses_lines clauses)
      ∙ (λ i. (is_short_form scope (clause_form c.names) && short_joined scope stmt_lines c.body i) && short_clauses clauses i)

  pub short_While : (e : Expr) (body : List Stmt) → is_stmt_short scope (While e body) ≡ (is_short_form scope (form.While e) && is_body_short scope body)
  short_While e body =
      ap (are_short scope) (each_stmt-While stmt_step clause_step e body)
      ∙ ap (λ (b : Bool). is_short_form scope (form.While e) && b) (before_last body form.End refl)

  pub short_If_alone : (e : Expr) (body : List Stmt) → is_stmt_short scope (If e body None) ≡ (is_short_form scope (form.If e) && is_body_short scope body)
  short_If_alone e body =
      ap (are_short scope) (each_stmt-If stmt_step clause_step e body None)
      ∙ ap (λ (b : Bool). is_short_form scope (form.If e) && b) (before_last body form.End refl)

  pub short_If_else : (e : Expr) (body other : List Stmt) → is_stmt_short scope (If e body (Some other)) ≡ (is_short_form scope (form.If e) && (is_body_short scope body && is_body_short scope other))
  short_If_else e body other =
      ap (are_short scope) (each_stmt-If stmt_step clause_step e body (Some other))
      ∙ ap (λ (b : Bool). is_short_form scope (form.If e) && b) (before body (form.Else ∷ (body_lines other ++ form.End ∷ [])) (is_body_short scope other) (before_last other form.End refl))

  pub short_TryFinally : (body final : List Stmt) → is_stmt_short scope (TryFinally body final) ≡ (is_body_short scope body && is_body_short scope final)
  short_TryFinally body final =
      ap (are_short scope) (each_stmt-TryFinally stmt_step clause_step body final)
      ∙ before body (form.Finally ∷ (body_lines final ++ form.Endtry ∷ [])) (is_body_short scope final) (before_last final form.Endtry refl)

  pub short_TryCatch : (body : List Stmt) (clauses : List Clause) → is_stmt_short scope (TryCatch body clauses) ≡ (is_body_short scope body && list_all (is_clause_short scope) clauses)
  short_TryCatch body clauses =
      ap (are_short scope) (each_stmt-TryCatch stmt_step clause_step body clauses)
      ∙ before body (clauses_lines clauses ++ form.Endtry ∷ []) (list_all (is_clause_short scope) clauses)
      (list_all-append (is_short_form scope) (clauses_lines clauses) (form.Endtry ∷ []) ∙ ap (λ (b : Bool). b && true) (short_clauses clauses) ∙ and_true (list_all (is_clause_short scope) clauses))

  -- No statement is short whose first line isn't.
  no_more : (a b : Bool) → a ≡ false → (a && b) ≡ false
  no_more a b long = ap (λ (x : Bool). x && b) long

  pub first_line_fails : (s : Stmt) → is_short_form scope (first_form s) ≡ false → is_stmt_short scope s ≡ false
  unfolding each_stmt
  first_line_fails (Set v e) long = no_more (is_short_form scope (form.Set v e)) true long
  first_line_fails (Say e) long = no_more (is_short_form scope (form.Say e)) true long
  first_line_fails (If' e x body other) long = no_more (is_short_form scope (form.If e)) _ long
  first_line_fails (While' e x body) long = no_more (is_short_form scope (form.While e)) _ long
  first_line_fails (TryCatch' x body y clauses) long = absurd (false≢true (sym long))
  first_line_fails (TryFinally' x body y final) long = absurd (false≢true (sym long))
  first_line_fails (Raise x) long = no_more (is_short_form scope (form.Raise x)) true long
  first_line_fails Reraise long = long
  first_line_fails (Call r e v) long = no_more (is_short_form scope (form.Call r e v)) true long
  first_line_fails (Return e) long = no_more (is_short_form scope (form.Return e)) true long
  first_line_fails (Exit e) long = no_more (is_short_form scope (form.Exit e)) true long
  first_line_fails (Dce call) long = no_more (is_short_form scope (form.Dce call)) true long

pub ruleset short_laws = (and_true, first_line_fails, short_While, short_If_alone, short_If_else, short_TryFinally, short_TryCatch, each_stmt-Set, each_stmt-Say, each_stmt-Raise, each_stmt-Reraise, each_stmt-Call, each_stmt-Return, each_stmt-Exit, each_stmt-Dce)

-- ---- declarations

pub short_head : (scope : Scope) (name : NameId) (locals : List (List ℕ)) (parameter : List ℕ) (others : List (List ℕ)) → locals ≡ parameter ∷ others → are_short scope (head_lines name locals) ≡ (is_short_form scope (form.Routine name parameter) && list_all (λ n. is_short_form scope (form.Local n)) others)
short_head scope name locals parameter others is =
    ap (λ (names : List (List ℕ)). are_short scope (head_lines name names)) is
    ∙ ap (λ (b : Bool). is_short_form scope (form.Routine name parameter) && b) (list_all-map (is_short_form scope) form.Local others)

pub short_one : (b : Bool) → (b && true) ≡ b
short_one = and_true

short_Routine : (names : List (List ℕ)) (r : Routine) → is_item_short names (item.Routine r) ≡ (are_short (record { names = names; locals = r.locals }) (head_lines r.name r.locals) && is_body_short (record { names = names; locals = r.locals }) r.body)
short_Routine names r =
    let scope : Scope = record { names = names; locals = r.locals } in
    list_all-map is_short_line (form_words scope) (item_lines (item.Routine r))
    ∙ list_all-append (is_short_form scope) (head_lines r.name r.locals) (body_lines r.body ++ form.End ∷ [])
    ∙ ap (λ (b : Bool). are_short scope (head_lines r.name r.locals) && b) (before_last scope r.body form.End refl)

pub routine_parts : (names locals : List (List ℕ)) (r : Routine) (body : List Stmt) (head rest : Bool) → locals ≡ r.locals → body ≡ r.body → head ≡ are_short (record { names = names; locals = locals }) (head_lines r.name locals) → rest ≡ is_body_short (record { names = names; locals = locals }) body → is_item_short names (item.Routine r) ≡ (head && rest)
routine_parts names locals r body head rest same_locals same_body is_head is_rest =
    short_Routine names r
    ∙ (λ i. are_short (record { names = names; locals = sym same_locals i }) (head_lines r.name (sym same_locals i)) && is_body_short (record { names = names; locals = sym same_locals i }) (sym same_body i))
    ∙ (λ i. sym is_head i && sym is_rest i)

short_items : (names : List (List ℕ)) (items : List Item) → list_all is_short_line (joined (map (item_words names) items)) ≡ list_all (is_item_short names) items
short_items names [] = refl
short_items names (i ∷ items) = list_all-append is_short_line (item_words names i) (joined (map (item_words names) items)) ∙ ap (λ (b : Bool). is_item_short names i && b) (short_items names items)

pub short_script : (s : Script) → has_short_lines s ≡ list_all (is_item_short s.names) s.items
short_script s = short_items s.names s.items

-- How many lines a statement has, counted as far as a machine word goes.
use Rattle.std.proofs.Common.{◌≡◌, ℕ, ◌+◌, ◌<◌, ◌≤◌, List, [], ◌∷◌, ◌++◌, map, length, length-append, get_or, drop, Some, None, refl, sym, ap, ◌∙◌, arith}
use Rattle.std.specs.Prelude.{nat_lt, nat_le}
use Rattle.std.proofs.lemmas.Bool.Decides.{nat_tests}
use Rattle.std.proofs.lemmas.List.{at_drop_more, at_drop_all, length-map}
use Rattle.thr_values.specs.declared.number.NameId.{NameId}
use Rattle.thr_syntax.specs.declared.expr.Expr.{Expr}
use Rattle.thr_syntax.specs.declared.tree.Clause.{Clause}
use Rattle.thr_syntax.specs.declared.tree.Item.TheVariants as item
use Rattle.thr_syntax.specs.declared.tree.Routine.{Routine}
use Rattle.thr_syntax.specs.declared.tree.Script.{Script}
use Rattle.thr_syntax.specs.declared.tree.Stmt.{Stmt, If, While, TryCatch, TryFinally}
use Rattle.thr_syntax.specs.declared.form.Form.{Form}
use Rattle.thr_syntax.specs.declared.form.Form.TheVariants as form
use Rattle.thr_syntax.specs.Lines.{joined, stmt_step, clause_step, stmt_lines, body_lines, head_lines, item_lines}
use Rattle.thr_syntax.proofs.FoldLaws.{each_clause, each_stmt-If, each_stmt-While, each_stmt-TryCatch, each_stmt-TryFinally, each_stmt-Set, each_stmt-Say, each_stmt-Raise, each_stmt-Reraise, each_stmt-Call, each_stmt-Return, each_stmt-Exit, each_stmt-Dce}
use Rattle.thr_syntax.specs.Canon.{script_words}
use Rattle.thr_syntax.proofs.LineLaws.{each_line_once}
use Rattle.thr_limits.specs.Limits.{has_few_lines}
use Rattle.thr_limits.specs.Capped.{capped}
use Rattle.thr_limits.specs.Walks.{clauses_lines}

-- ---- statements

two_more : (n : ℕ) → capped (n + 2) ≡ capped (capped n + 2)
two_more n = grind arith

both_more : (m n k : ℕ) → capped (m + n + k) ≡ capped (capped (capped m + capped n) + k)
both_more m n k = grind arith

around : (first last : Form) (body : List Form) → length (first ∷ (body ++ last ∷ [])) ≡ length body + 2
around first last body = omega (arith, length-append body (last ∷ []))

around_both : (first last : Form) (body other : List Form) → length (first ∷ (body ++ (other ++ last ∷ []))) ≡ length body + length other + 2
around_both first last body other = omega (arith, length-append body (other ++ last ∷ []), length-append other (last ∷ []))

pub count_While : (e : Expr) (body : List Stmt) → capped (length (stmt_lines (While e body))) ≡ capped (capped (length (body_lines body)) + 2)
count_While e body = ap (λ (fs : List Form). capped (length fs)) (each_stmt-While stmt_step clause_step e body) ∙ ap capped (around (form.While e) form.End (body_lines body)) ∙ two_more (length (body_lines body))

pub count_If_alone : (e : Expr) (body : List Stmt) → capped (length (stmt_lines (If e body None))) ≡ capped (capped (length (body_lines body)) + 2)
count_If_alone e body = ap (λ (fs : List Form). capped (length fs)) (each_stmt-If stmt_step clause_step e body None) ∙ ap capped (around (form.If e) form.End (body_lines body)) ∙ two_more (length (body_lines body))

-- One line more between two bodies.
parted : (m n : ℕ) → capped (m + (1 + n) + 2) ≡ capped (capped (capped m + capped n) + 3)
parted m n = grind arith

pub count_If_else : (e : Expr) (body other : List Stmt) → capped (length (stmt_lines (If e body (Some other)))) ≡ capped (capped (capped (length (body_lines body)) + capped (length (body_lines other))) + 3)
count_If_else e body other =
    ap (λ (fs : List Form). capped (length fs)) (each_stmt-If stmt_step clause_step e body (Some other))
    ∙ ap capped (around_both (form.If e) form.End (body_lines body) (form.Else ∷ body_lines other) ∙ omega arith) ∙ parted (length (body_lines body)) (length (body_lines other))

pub count_TryFinally : (body final : List Stmt) → capped (length (stmt_lines (TryFinally body final))) ≡ capped (capped (capped (length (body_lines body)) + capped (length (body_lines final))) + 3)
count_TryFinally body final =
    ap (λ (fs : List Form). capped (length fs)) (each_stmt-TryFinally stmt_step clause_step body final)
    ∙ ap capped (around_both form.Try form.Endtry (body_lines body) (form.Finally ∷ body_lines final) ∙ omega arith) ∙ parted (length (body_lines body)) (length (body_lines final))

pub count_TryCatch : (body : List Stmt) (clauses : List Clause) → capped (length (stmt_lines (TryCatch body clauses))) ≡ capped (capped (capped (length (body_lines body)) + capped (length (clauses_lines clauses))) + 2)
count_TryCatch body clauses =
    ap (λ (fs : List Form). capped (length fs)) (each_stmt-TryCatch stmt_step clause_step body clauses)
    ∙ ap capped (around_both form.Try form.Endtry (body_lines body) (clauses_lines clauses)) ∙ both_more (length (body_lines body)) (length (clauses_lines clauses)) 2

pub ruleset count_laws = (count_While, count_If_alone, count_If_else, count_TryFinally, count_TryCatch, each_stmt-Set, each_stmt-Say, each_stmt-Raise, each_stmt-Reraise, each_stmt-Call, each_stmt-Return, each_stmt-Exit, each_stmt-Dce)

-- ---- walks: what is counted and what is left are the whole

more_counted : (count n left next whole : ℕ) → capped (count + (n + left)) ≡ whole → next ≡ capped (count + capped n) → capped (next + left) ≡ whole
more_counted count n left next whole so is = grind arith

pub all_counted : (count whole : ℕ) → count ≤ 4294967295 → capped (count + 0) ≡ whole → count ≡ whole
all_counted count whole le so = omega (arith, so)

module _ {X : Type 0} (lines : X → List Form) where
  pub count_more : (xs : List X) (i count next whole : ℕ) (d : X) → i < length xs → capped (count + length (joined (map lines (drop i xs)))) ≡ whole → next ≡ capped (count + capped (length (lines (get_or xs i d)))) → capped (next + length (joined (map lines (drop (i + 1) xs)))) ≡ whole
  count_more xs i count next whole d lt so is =
      more_counted count (length (lines (get_or xs i d))) (length (joined (map lines (drop (i + 1) xs)))) next whole
      (ap (λ (n : ℕ). capped (count + n)) (sym (at_drop_more (λ ys. length (joined (map lines ys))) xs i d lt ∙ length-append (lines (get_or xs i d)) (joined (map lines (drop (i + 1) xs))))) ∙ so) is

  pub count_end : (xs : List X) (i count whole : ℕ) → length xs ≤ i → count ≤ 4294967295 → capped (count + length (joined (map lines (drop i xs)))) ≡ whole → count ≡ whole
  count_end xs i count whole le fits so = all_counted count whole fits (ap (λ (n : ℕ). capped (count + n)) (sym (at_drop_all (λ ys. length (joined (map lines ys))) xs i le)) ∙ so)

-- ---- declarations

head_count : (name : NameId) (locals : List (List ℕ)) → length (head_lines name locals) ≡ length locals
head_count name [] = refl
head_count name (parameter ∷ locals) = omega (arith, length-map locals form.Local)

pub count_Routine : (r : Routine) → capped (length (item_lines (item.Routine r))) ≡ capped (capped (capped (length r.locals) + capped (length (body_lines r.body))) + 1)
count_Routine r =
    ap capped (omega (arith, length-append (head_lines r.name r.locals) (body_lines r.body ++ form.End ∷ []), length-append (body_lines r.body) (form.End ∷ []), head_count r.name r.locals))
    ∙ both_more (length r.locals) (length (body_lines r.body)) 1

few : (n lines count : ℕ) → lines ≡ 1 + n → count ≡ capped n → nat_lt count 20000 ≡ nat_le lines 20000
few n lines count is counted = grind (arith, nat_tests)

pub few_lines : (s : Script) (count : ℕ) → count ≡ capped (length (joined (map item_lines s.items))) → nat_lt count 20000 ≡ has_few_lines s
few_lines s count counted = few (length (joined (map item_lines s.items))) (length (script_words s)) count (omega (arith, each_line_once s)) counted

one_more : (n lines count : ℕ) → lines ≡ 1 + n → count ≡ capped n → capped (count + 1) ≡ capped lines
one_more n lines count is counted = grind arith

pub all_lines : (s : Script) (count : ℕ) → count ≡ capped (length (joined (map item_lines s.items))) → capped (count + 1) ≡ capped (length (script_words s))
all_lines s count counted = one_more (length (joined (map item_lines s.items))) (length (script_words s)) count (omega (arith, each_line_once s)) counted

-- Depths against a bound.
use Rattle.std.proofs.Common.{◌≡◌, ℕ, ◌+◌, ◌-◌, max, Bool, List, [], ◌∷◌, map, Option, Some, None, ap, ◌∙◌, arith}
use Rattle.std.specs.Prelude.{◌&&◌, nat_le, nat_lt}
use Rattle.std.specs.List.{list_all}
use Rattle.std.specs.Option.{option_map}
use Rattle.std.proofs.lemmas.Bool.Decides.{nat_tests}
use Rattle.thr_syntax.specs.declared.expr.Expr.{Expr}
use Rattle.thr_syntax.specs.declared.tree.Clause.{Clause}
use Rattle.thr_syntax.specs.declared.tree.Stmt.{Stmt, If, While, TryCatch, TryFinally}
use Rattle.thr_syntax.proofs.FoldLaws.{each_clause, each_stmt-If, each_stmt-While, each_stmt-TryCatch, each_stmt-TryFinally, each_stmt-Set, each_stmt-Say, each_stmt-Raise, each_stmt-Reraise, each_stmt-Call, each_stmt-Return, each_stmt-Exit, each_stmt-Dce}
use Rattle.thr_limits.specs.Limits.{greatest, stmt_depth, depth_step, clause_depth_step, else_depth}
use Rattle.thr_limits.specs.Walks.{is_body_within, is_else_within, is_clause_within}

at_most_both : (a b n : ℕ) → nat_le (max a b) n ≡ (nat_le a n && nat_le b n)
at_most_both a b n = grind (arith, nat_tests)

at_most_more : (a n : ℕ) → nat_le (1 + a) n ≡ (nat_lt 0 n && nat_le a (n - 1))
at_most_more a n = grind (arith, nat_tests)

pub body_at_most : (n : ℕ) (body : List Stmt) → nat_le (greatest (map stmt_depth body)) n ≡ is_body_within n body
body_at_most n [] = grind (arith, nat_tests)
body_at_most n (s ∷ body) = at_most_both (stmt_depth s) (greatest (map stmt_depth body)) n ∙ ap (λ (b : Bool). nat_le (stmt_depth s) n && b) (body_at_most n body)

clauses_at_most : (n : ℕ) (clauses : List Clause) → nat_le (greatest (map (each_clause depth_step clause_depth_step) clauses)) n ≡ list_all (is_clause_within n) clauses
clauses_at_most n [] = grind (arith, nat_tests)
clauses_at_most n (c ∷ clauses) =
    at_most_both (greatest (map stmt_depth c.body)) (greatest (map (each_clause depth_step clause_depth_step) clauses)) n
    ∙ (λ i. body_at_most n c.body i && clauses_at_most n clauses i)

both_below : (n a b : ℕ) (p q : Bool) → nat_le a (n - 1) ≡ p → nat_le b (n - 1) ≡ q → nat_le (1 + max a b) n ≡ (nat_lt 0 n && (p && q))
both_below n a b p q first second = at_most_more (max a b) n ∙ ap (λ (x : Bool). nat_lt 0 n && x) (at_most_both a b (n - 1) ∙ (λ i. first i && second i))

pub depth_While : (n : ℕ) (e : Expr) (body : List Stmt) → nat_le (stmt_depth (While e body)) n ≡ (nat_lt 0 n && is_body_within (n - 1) body)
depth_While n e body = ap (λ (d : ℕ). nat_le d n) (each_stmt-While depth_step clause_depth_step e body) ∙ at_most_more (greatest (map stmt_depth body)) n ∙ ap (λ (x : Bool). nat_lt 0 n && x) (body_at_most (n - 1) body)

pub depth_TryCatch : (n : ℕ) (body : List Stmt) (clauses : List Clause) → nat_le (stmt_depth (TryCatch body clauses)) n ≡ (nat_lt 0 n && (is_body_within (n - 1) body && list_all (is_clause_within (n - 1)) clauses))
depth_TryCatch n body clauses =
    ap (λ (d : ℕ). nat_le d n) (each_stmt-TryCatch depth_step clause_depth_step body clauses)
    ∙ both_below n (greatest (map stmt_depth body)) (greatest (map (each_clause depth_step clause_depth_step) clauses)) (is_body_within (n - 1) body) (list_all (is_clause_within (n - 1)) clauses)
    (body_at_most (n - 1) body) (clauses_at_most (n - 1) clauses)

pub depth_TryFinally : (n : ℕ) (body final : List Stmt) → nat_le (stmt_depth (TryFinally body final)) n ≡ (nat_lt 0 n && (is_body_within (n - 1) body && is_body_within (n - 1) final))
depth_TryFinally n body final =
    ap (λ (d : ℕ). nat_le d n) (each_stmt-TryFinally depth_step clause_depth_step body final)
    ∙ both_below n (greatest (map stmt_depth body)) (greatest (map stmt_depth final)) (is_body_within (n - 1) body) (is_body_within (n - 1) final)
    (body_at_most (n - 1) body) (body_at_most (n - 1) final)

else_at_most : (n : ℕ) (other : Option (List Stmt)) → nat_le (else_depth (option_map (map stmt_depth) other)) n ≡ is_else_within n other
else_at_most n None = grind (arith, nat_tests)
else_at_most n (Some body) = body_at_most n body

pub depth_If : (n : ℕ) (e : Expr) (body : List Stmt) (other : Option (List Stmt)) → nat_le (stmt_depth (If e body other)) n ≡ (nat_lt 0 n && (is_body_within (n - 1) body && is_else_within (n - 1) other))
depth_If n e body other =
    ap (λ (d : ℕ). nat_le d n) (each_stmt-If depth_step clause_depth_step e body other)
    ∙ both_below n (greatest (map stmt_depth body)) (else_depth (option_map (map stmt_depth) other)) (is_body_within (n - 1) body) (is_else_within (n - 1) other)
    (body_at_most (n - 1) body) (else_at_most (n - 1) other)

pub depth_Routine : (body : List Stmt) → nat_le (1 + greatest (map stmt_depth body)) 32 ≡ is_body_within 31 body
depth_Routine body = at_most_more (greatest (map stmt_depth body)) 32 ∙ body_at_most 31 body

pub ruleset depth_laws = (depth_While, depth_TryCatch, depth_TryFinally, depth_If, each_stmt-Set, each_stmt-Say, each_stmt-Raise, each_stmt-Reraise, each_stmt-Call, each_stmt-Return, each_stmt-Exit, each_stmt-Dce)

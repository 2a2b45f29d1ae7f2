-- Where no line of a statement stands too deep, the statement opens few blocks in one another.
use Rattle.std.proofs.Common.{◌≡◌, ℕ, ◌+◌, ◌-◌, ◌≤◌, max, List, [], ◌∷◌, ◌++◌, map, Option, Some, None, refl, subst, append_assoc, arith}
use Rattle.thr_values.specs.declared.number.NameId.{NameId}
use Rattle.thr_syntax.specs.declared.expr.Expr.{Expr}
use Rattle.thr_syntax.specs.declared.form.Form.{Form}
use Rattle.thr_syntax.specs.declared.form.Form.TheVariants as form
use Rattle.thr_syntax.specs.declared.tree.Clause.{Clause}
use Rattle.thr_syntax.specs.declared.tree.Stmt.{Stmt}
use Rattle.thr_syntax.specs.declared.tree.Stmt.TheVariants as stmt
use Rattle.thr_syntax.specs.Lines.{stmt_step, clause_step, clause_form, stmt_lines, body_lines}
use Rattle.thr_syntax.proofs.TreeInduction.{StmtCases, body_induction}
use Rattle.thr_syntax.proofs.FoldLaws.{each_clause, each_stmt-Set, each_stmt-Say, each_stmt-If, each_stmt-While, each_stmt-TryCatch, each_stmt-TryFinally, each_stmt-Raise, each_stmt-Reraise, each_stmt-Call, each_stmt-Return, each_stmt-Exit, each_stmt-Dce}
use Rattle.thr_text.specs.Blocks.{form_shape}
use Rattle.thr_text.specs.NameFaults.{depth_below}
use Rattle.thr_blocks.proofs.Flat.{clauses_lines}
use Rattle.thr_limits.specs.Limits.{greatest, depth_step, clause_depth_step, stmt_depth}

-- No more than 32 blocks are open below any of these lines, below so many open blocks.
abbrev pub AreShallow : ℕ → List Form → Type 0
AreShallow d [] = Unit {0}
AreShallow d (f ∷ fs) = (depth_below d (form_shape f) ≤ 32) × AreShallow (depth_below d (form_shape f)) fs

-- ---- what is opened and closed

one_block : (d a n : ℕ) → n ≡ 1 + max a 0 → (d + 1) + a ≤ 32 → d + n ≤ 32
one_block d a n is h = grind arith

loop_block : (d a n : ℕ) → n ≡ 1 + a → (d + 1) + a ≤ 32 → d + n ≤ 32
loop_block d a n is h = grind arith

two_blocks : (d a b n : ℕ) → n ≡ 1 + max a b → (d + 1) + a ≤ 32 → (d + 1) + b ≤ 32 → d + n ≤ 32
two_blocks d a b n is h k = grind arith

more_deep : (d a b : ℕ) → d + a ≤ 32 → d + b ≤ 32 → d + max a b ≤ 32
more_deep d a b h k = grind arith

none_deep : (d n : ℕ) → n ≡ 0 → d ≤ 32 → d + n ≤ 32
none_deep d n is h = omega (arith, is, h)

back : (d : ℕ) → (d + 1) - 1 ≡ d
back d = omega arith

regroup : (d : ℕ) (xs ys rest : List Form) → AreShallow d ((xs ++ ys) ++ rest) → AreShallow d (xs ++ (ys ++ rest))
regroup d xs ys rest h = subst (AreShallow d) (append_assoc xs ys rest) h

closed : (d : ℕ) (rest : List Form) → AreShallow ((d + 1) - 1) rest → AreShallow d rest
closed d rest h = subst (λ (x : ℕ). AreShallow x rest) (back d) h

-- ---- statements, bodies and clauses

abbrev clauses_depth : List Clause → ℕ
clauses_depth cs = greatest (map (each_clause depth_step clause_depth_step) cs)

abbrev body_depth : List Stmt → ℕ
body_depth body = greatest (map stmt_depth body)

abbrev FewIn : Stmt → Type 0
FewIn s = (d : ℕ) (rest : List Form) → AreShallow d (stmt_lines s ++ rest) → (d + stmt_depth s ≤ 32) × AreShallow d rest

abbrev FewInBody : List Stmt → Type 0
FewInBody body = (d : ℕ) (rest : List Form) → d ≤ 32 → AreShallow d (body_lines body ++ rest) → (d + body_depth body ≤ 32) × AreShallow d rest

abbrev FewInClauses : List Clause → Type 0
FewInClauses cs = (d : ℕ) (rest : List Form) → d ≤ 32 → AreShallow d (clauses_lines cs ++ rest) → (d + clauses_depth cs ≤ 32) × AreShallow d rest

told : (d : ℕ) (rest lines forms : List Form) → lines ≡ forms → AreShallow d (lines ++ rest) → AreShallow d (forms ++ rest)
told d rest lines forms e h = subst (λ (ls : List Form). AreShallow d (ls ++ rest)) e h

one_line : (s : Stmt) (f : Form) → stmt_lines s ≡ f ∷ [] → stmt_depth s ≡ 0 → ((d : ℕ) → depth_below d (form_shape f) ≡ d) → FewIn s
one_line s f e none same d rest h =
    let k : AreShallow d (f ∷ rest) = told d rest (stmt_lines s) (f ∷ []) e h in
    (none_deep d (stmt_depth s) none (subst (λ (x : ℕ). x ≤ 32) (same d) k.0), subst (λ (x : ℕ). AreShallow x rest) (same d) k.1)

if_alone : (e : Expr) (body : List Stmt) → FewInBody body → FewIn (stmt.If e body None)
unfolding form_shape
if_alone e body b d rest h =
    let inside : List Form = body_lines body ++ form.End ∷ [] in
    let k : AreShallow d ((form.If e ∷ inside) ++ rest) = told d rest (stmt_lines (stmt.If e body None)) (form.If e ∷ inside) (each_stmt-If stmt_step clause_step e body None) h in
    let first = b (d + 1) (form.End ∷ rest) k.0 (regroup (d + 1) (body_lines body) (form.End ∷ []) rest k.1) in
    (one_block d (body_depth body) (stmt_depth (stmt.If e body None)) (each_stmt-If depth_step clause_depth_step e body None) first.0, closed d rest first.1.1)

if_else : (e : Expr) (body other : List Stmt) → FewInBody body → FewInBody other → FewIn (stmt.If e body (Some other))
unfolding form_shape
if_else e body other b o d rest h =
    let second : List Form = body_lines other ++ form.End ∷ [] in
    let inside : List Form = body_lines body ++ form.Else ∷ second in
    let k : AreShallow d ((form.If e ∷ inside) ++ rest) = told d rest (stmt_lines (stmt.If e body (Some other))) (form.If e ∷ inside) (each_stmt-If stmt_step clause_step e body (Some other)) h in
    let one = b (d + 1) (form.Else ∷ (second ++ rest)) k.0 (regroup (d + 1) (body_lines body) (form.Else ∷ second) rest k.1) in
    let two = o (d + 1) (form.End ∷ rest) k.0 (regroup (d + 1) (body_lines other) (form.End ∷ []) rest one.1.1) in
    (two_blocks d (body_depth body) (body_depth other) (stmt_depth (stmt.If e body (Some other))) (each_stmt-If depth_step clause_depth_step e body (Some other)) one.0 two.0, closed d rest two.1.1)

while_few : (e : Expr) (body : List Stmt) → FewInBody body → FewIn (stmt.While e body)
unfolding form_shape
while_few e body b d rest h =
    let inside : List Form = body_lines body ++ form.End ∷ [] in
    let k : AreShallow d ((form.While e ∷ inside) ++ rest) = told d rest (stmt_lines (stmt.While e body)) (form.While e ∷ inside) (each_stmt-While stmt_step clause_step e body) h in
    let first = b (d + 1) (form.End ∷ rest) k.0 (regroup (d + 1) (body_lines body) (form.End ∷ []) rest k.1) in
    (loop_block d (body_depth body) (stmt_depth (stmt.While e body)) (each_stmt-While depth_step clause_depth_step e body) first.0, closed d rest first.1.1)

try_catch : (body : List Stmt) (cs : List Clause) → FewInBody body → FewInClauses cs → FewIn (stmt.TryCatch body cs)
unfolding form_shape
try_catch body cs b c d rest h =
    let second : List Form = clauses_lines cs ++ form.Endtry ∷ [] in
    let inside : List Form = body_lines body ++ second in
    let k : AreShallow d ((form.Try ∷ inside) ++ rest) = told d rest (stmt_lines (stmt.TryCatch body cs)) (form.Try ∷ inside) (each_stmt-TryCatch stmt_step clause_step body cs) h in
    let one = b (d + 1) (second ++ rest) k.0 (regroup (d + 1) (body_lines body) second rest k.1) in
    let two = c (d + 1) (form.Endtry ∷ rest) k.0 (regroup (d + 1) (clauses_lines cs) (form.Endtry ∷ []) rest one.1) in
    (two_blocks d (body_depth body) (clauses_depth cs) (stmt_depth (stmt.TryCatch body cs)) (each_stmt-TryCatch depth_step clause_depth_step body cs) one.0 two.0, closed d rest two.1.1)

try_finally : (body final : List Stmt) → FewInBody body → FewInBody final → FewIn (stmt.TryFinally body final)
unfolding form_shape
try_finally body final b f d rest h =
    let second : List Form = body_lines final ++ form.Endtry ∷ [] in
    let inside : List Form = body_lines body ++ form.Finally ∷ second in
    let k : AreShallow d ((form.Try ∷ inside) ++ rest) = told d rest (stmt_lines (stmt.TryFinally body final)) (form.Try ∷ inside) (each_stmt-TryFinally stmt_step clause_step body final) h in
    let one = b (d + 1) (form.Finally ∷ (second ++ rest)) k.0 (regroup (d + 1) (body_lines body) (form.Finally ∷ second) rest k.1) in
    let two = f (d + 1) (form.Endtry ∷ rest) k.0 (regroup (d + 1) (body_lines final) (form.Endtry ∷ []) rest one.1.1) in
    (two_blocks d (body_depth body) (body_depth final) (stmt_depth (stmt.TryFinally body final)) (each_stmt-TryFinally depth_step clause_depth_step body final) one.0 two.0, closed d rest two.1.1)

body_more : (s : Stmt) (body : List Stmt) → FewIn s → FewInBody body → FewInBody (s ∷ body)
body_more s body p b d rest le h =
    let one = p d (body_lines body ++ rest) (regroup d (stmt_lines s) (body_lines body) rest h) in
    let two = b d rest le one.1 in
    (more_deep d (stmt_depth s) (body_depth body) one.0 two.0, two.1)

clause_level : (names : Option NameId) (d : ℕ) → depth_below d (form_shape (clause_form names)) ≡ d
unfolding form_shape
clause_level None d = refl
clause_level (Some x) d = refl

clauses_more : (c : Clause) (cs : List Clause) → FewInBody c.body → FewInClauses cs → FewInClauses (c ∷ cs)
clauses_more c cs b more d rest le h =
    let k : AreShallow d ((body_lines c.body ++ clauses_lines cs) ++ rest) = subst (λ (x : ℕ). AreShallow x ((body_lines c.body ++ clauses_lines cs) ++ rest)) (clause_level c.names d) h.1 in
    let one = b d (clauses_lines cs ++ rest) le (regroup d (body_lines c.body) (clauses_lines cs) rest k) in
    let two = more d rest le one.1 in
    (more_deep d (body_depth c.body) (clauses_depth cs) one.0 two.0, two.1)

cases : StmtCases FewIn FewInBody FewInClauses
unfolding form_shape
cases = record {
  set = λ v e. one_line (stmt.Set v e) (form.Set v e) (each_stmt-Set stmt_step clause_step v e) (each_stmt-Set depth_step clause_depth_step v e) (λ d. refl);
  say = λ e. one_line (stmt.Say e) (form.Say e) (each_stmt-Say stmt_step clause_step e) (each_stmt-Say depth_step clause_depth_step e) (λ d. refl);
  if_alone = if_alone;
  if_else = if_else;
  while = while_few;
  try_catch = try_catch;
  try_finally = try_finally;
  raise = λ x. one_line (stmt.Raise x) (form.Raise x) (each_stmt-Raise stmt_step clause_step x) (each_stmt-Raise depth_step clause_depth_step x) (λ d. refl);
  reraise = one_line stmt.Reraise form.Reraise (each_stmt-Reraise stmt_step clause_step) (each_stmt-Reraise depth_step clause_depth_step) (λ d. refl);
  call = λ name e v. one_line (stmt.Call name e v) (form.Call name e v) (each_stmt-Call stmt_step clause_step name e v) (each_stmt-Call depth_step clause_depth_step name e v) (λ d. refl);
  return = λ e. one_line (stmt.Return e) (form.Return e) (each_stmt-Return stmt_step clause_step e) (each_stmt-Return depth_step clause_depth_step e) (λ d. refl);
  exit = λ e. one_line (stmt.Exit e) (form.Exit e) (each_stmt-Exit stmt_step clause_step e) (each_stmt-Exit depth_step clause_depth_step e) (λ d. refl);
  dce = λ call. one_line (stmt.Dce call) (form.Dce call) (each_stmt-Dce stmt_step clause_step call) (each_stmt-Dce depth_step clause_depth_step call) (λ d. refl);
  body_end = λ d rest le h. (none_deep d 0 refl le, h);
  body_more = body_more;
  clauses_end = λ d rest le h. (none_deep d 0 refl le, h);
  clauses_more = clauses_more;
}

pub few_in_body : (body : List Stmt) → FewInBody body
few_in_body = body_induction FewIn FewInBody FewInClauses cases

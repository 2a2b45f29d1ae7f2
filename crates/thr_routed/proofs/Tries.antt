-- No try of a script that keeps the rules has a return among its lines.
use Rattle.std.proofs.Common.{◌≡◌, ℕ, true, false, List, [], ◌∷◌, ◌++◌, Option, Some, None, refl, sym, ap, subst, ◌∙◌, append_assoc}
use Rattle.std.specs.List.{list_any}
use Rattle.thr_values.specs.declared.number.NameId.{NameId}
use Rattle.thr_syntax.specs.declared.dce.DceCall.{DceCall}
use Rattle.thr_syntax.specs.declared.expr.Expr.{Expr}
use Rattle.thr_syntax.specs.declared.expr.Var.{Var}
use Rattle.thr_syntax.specs.declared.form.Form.{Form}
use Rattle.thr_syntax.specs.declared.form.Form.TheVariants as form
use Rattle.thr_syntax.specs.declared.tree.Clause.{Clause}
use Rattle.thr_syntax.specs.declared.tree.Script.{Script}
use Rattle.thr_syntax.specs.declared.tree.Stmt.{Stmt}
use Rattle.thr_syntax.specs.declared.tree.Stmt.TheVariants as stmt
use Rattle.thr_syntax.specs.Lines.{stmt_step, clause_step, stmt_lines, body_lines}
use Rattle.thr_syntax.proofs.FoldLaws.{each_stmt-Set, each_stmt-Say, each_stmt-If, each_stmt-While, each_stmt-TryCatch, each_stmt-TryFinally, each_stmt-Raise, each_stmt-Reraise, each_stmt-Call, each_stmt-Return, each_stmt-Exit, each_stmt-Dce}
use Rattle.thr_syntax.proofs.TreeInduction.{StmtCases, body_induction}
use Rattle.thr_text.specs.declared.block.Block.{Block}
use Rattle.thr_text.specs.declared.block.Block.TheVariants.{Locals, Statements, Then, Otherwise, Loop, TryBody, CatchBody, CatchAllBody, FinallyBody}
use Rattle.thr_text.specs.Blocks.{form_shape, is_try, begun, blocks_below}
use Rattle.thr_text.specs.Reading.{Formed}
use Rattle.thr_remainder.proofs.SizeLaws.{clauses_lines}
use Rattle.thr_routed.specs.Returns.{IsNoReturn, NoReturns, TriesHaveNoReturns}
use Rattle.thr_routed.proofs.ScriptLines.{words_shape, Kept, script_kept}

-- The blocks below these statements.
abbrev after : List Stmt → List Block → List Block
after [] bs = bs
after (s ∷ body) bs = begun bs

begun_twice : (bs : List Block) → begun (begun bs) ≡ begun bs
begun_twice [] = refl
begun_twice (Locals ∷ bs) = refl
begun_twice (Statements ∷ bs) = refl
begun_twice (Then ∷ bs) = refl
begun_twice (Otherwise ∷ bs) = refl
begun_twice (Loop ∷ bs) = refl
begun_twice (TryBody ∷ bs) = refl
begun_twice (CatchBody ∷ bs) = refl
begun_twice (CatchAllBody ∷ bs) = refl
begun_twice (FinallyBody ∷ bs) = refl

after_begun : (body : List Stmt) (bs : List Block) → after body (begun bs) ≡ begun bs
after_begun [] bs = refl
after_begun (s ∷ body) bs = begun_twice bs

-- A clause by its parts.
abbrev clause_with : Option NameId → List Stmt → Clause
clause_with names body = record { names = names; body = body }

-- ---- statements, bodies and clauses

-- A try is open.
abbrev InTry : List Block → Type 0
InTry bs = list_any is_try bs ≡ true

-- Below the lines of the statement the rest is kept, and in a try none of its lines is a return.
abbrev Keeps : Stmt → Type 0
Keeps s = (bs : List Block) (rest : List Form) → Kept bs (stmt_lines s ++ rest) → (InTry bs → NoReturns (stmt_lines s)) × Kept (begun bs) rest

-- The same of a body.
abbrev KeepsBody : List Stmt → Type 0
KeepsBody body = (bs : List Block) (rest : List Form) → Kept bs (body_lines body ++ rest) → (InTry bs → NoReturns (body_lines body)) × Kept (after body bs) rest

-- The same of the clauses of a try with its end.
abbrev KeepsClauses : List Clause → Type 0
KeepsClauses cs = (b : Block) (bs : List Block) (rest : List Form) → Kept (b ∷ bs) ((clauses_lines cs ++ form.Endtry ∷ []) ++ rest) → NoReturns (clauses_lines cs) × Kept bs rest

-- A try has no return among its lines, whatever stands around it.
abbrev IsClean : Stmt → Type 0
IsClean s = (bs : List Block) (rest : List Form) → Kept bs (stmt_lines s ++ rest) → NoReturns (stmt_lines s) × Kept (begun bs) rest

-- These lines and the rest are kept.
abbrev At : List Block → List Form → List Form → Type 0
At bs rest lines = Kept bs (lines ++ rest)

both_none : (xs ys : List Form) → NoReturns xs → NoReturns ys → NoReturns (xs ++ ys)
both_none [] ys h k = k
both_none (x ∷ xs) ys h k = (h.0, both_none xs ys h.1 k)

ungroup : (bs : List Block) (xs ys rest : List Form) → Kept bs ((xs ++ ys) ++ rest) → Kept bs (xs ++ (ys ++ rest))
ungroup bs xs ys rest n = subst (Kept bs) (append_assoc xs ys rest) n

-- The block around a body that has nothing left to begin.
outer : (body : List Stmt) (bs : List Block) (forms : List Form) → begun bs ≡ bs → Kept (after body bs) forms → Kept bs forms
outer [] bs forms e n = n
outer (s ∷ body) bs forms e n = subst (λ (x : List Block). Kept x forms) e n

begun_try : (bs : List Block) → InTry bs → InTry (begun bs)
begun_try [] t = t
begun_try (Locals ∷ bs) t = t
begun_try (Statements ∷ bs) t = t
begun_try (Then ∷ bs) t = t
begun_try (Otherwise ∷ bs) t = t
begun_try (Loop ∷ bs) t = t
begun_try (TryBody ∷ bs) t = t
begun_try (CatchBody ∷ bs) t = t
begun_try (CatchAllBody ∷ bs) t = t
begun_try (FinallyBody ∷ bs) t = t

one_line : (s : Stmt) (f : Form) → stmt_lines s ≡ f ∷ [] → IsNoReturn f → ((bs : List Block) → blocks_below bs (words_shape f) ≡ begun bs) → Keeps s
one_line s f e k below bs rest n =
    let m : Kept bs (f ∷ rest) = subst (At bs rest) e n in
    (λ t. subst NoReturns (sym e) (k, tt), subst (λ (x : List Block). Kept x rest) (below bs) m.1)

keeps_set : (v : Var) (e : Expr) → Keeps (stmt.Set v e)
unfolding form_shape blocks_below
keeps_set v e = one_line (stmt.Set v e) (form.Set v e) (each_stmt-Set stmt_step clause_step v e) tt (λ bs. refl)

keeps_say : (e : Expr) → Keeps (stmt.Say e)
unfolding form_shape blocks_below
keeps_say e = one_line (stmt.Say e) (form.Say e) (each_stmt-Say stmt_step clause_step e) tt (λ bs. refl)

keeps_raise : (x : NameId) → Keeps (stmt.Raise x)
unfolding form_shape blocks_below
keeps_raise x = one_line (stmt.Raise x) (form.Raise x) (each_stmt-Raise stmt_step clause_step x) tt (λ bs. refl)

keeps_reraise : Keeps stmt.Reraise
unfolding form_shape blocks_below
keeps_reraise = one_line stmt.Reraise form.Reraise (each_stmt-Reraise stmt_step clause_step) tt (λ bs. refl)

keeps_call : (name : NameId) (e : Expr) (v : Option ℕ) → Keeps (stmt.Call name e v)
unfolding form_shape blocks_below
keeps_call name e v = one_line (stmt.Call name e v) (form.Call name e v) (each_stmt-Call stmt_step clause_step name e v) tt (λ bs. refl)

keeps_exit : (e : Expr) → Keeps (stmt.Exit e)
unfolding form_shape blocks_below
keeps_exit e = one_line (stmt.Exit e) (form.Exit e) (each_stmt-Exit stmt_step clause_step e) tt (λ bs. refl)

keeps_dce : (call : DceCall) → Keeps (stmt.Dce call)
unfolding form_shape blocks_below
keeps_dce call = one_line (stmt.Dce call) (form.Dce call) (each_stmt-Dce stmt_step clause_step call) tt (λ bs. refl)

no_return : (bs : List Block) → list_any is_try bs ≡ false → InTry bs → ⊥
no_return bs e t = (let f : false ≡ true = sym e ∙ t in cc)

keeps_return : (e : Expr) → Keeps (stmt.Return e)
unfolding form_shape blocks_below
keeps_return e bs rest n =
    let m : Kept bs (form.Return e ∷ rest) = subst (At bs rest) (each_stmt-Return stmt_step clause_step e) n in
    (λ t. absurd (no_return bs m.0 t), m.1)

keeps_if : (e : Expr) (body : List Stmt) → KeepsBody body → Keeps (stmt.If e body None)
unfolding form_shape blocks_below
keeps_if e body p bs rest n =
    let is = each_stmt-If stmt_step clause_step e body None in
    let m = subst (At bs rest) is n in
    let k = p (Then ∷ begun bs) (form.End ∷ rest) (ungroup (Then ∷ begun bs) (body_lines body) (form.End ∷ []) rest m.1) in
    let end = outer body (Then ∷ begun bs) (form.End ∷ rest) refl k.1 in
    (λ t. subst NoReturns (sym is) (tt, both_none (body_lines body) (form.End ∷ []) (k.0 (begun_try bs t)) (tt, tt)), end.1)

keeps_else : (e : Expr) (body other : List Stmt) → KeepsBody body → KeepsBody other → Keeps (stmt.If e body (Some other))
unfolding form_shape blocks_below
keeps_else e body other p q bs rest n =
    let is = each_stmt-If stmt_step clause_step e body (Some other) in
    let m = subst (At bs rest) is n in
    let more : List Form = (body_lines other ++ form.End ∷ []) ++ rest in
    let k = p (Then ∷ begun bs) (form.Else ∷ more) (ungroup (Then ∷ begun bs) (body_lines body) (form.Else ∷ (body_lines other ++ form.End ∷ [])) rest m.1) in
    let next = outer body (Then ∷ begun bs) (form.Else ∷ more) refl k.1 in
    let l = q (Otherwise ∷ begun bs) (form.End ∷ rest) (ungroup (Otherwise ∷ begun bs) (body_lines other) (form.End ∷ []) rest next.1) in
    let end = outer other (Otherwise ∷ begun bs) (form.End ∷ rest) refl l.1 in (
      λ t. subst NoReturns (sym is) (tt, both_none (body_lines body) (form.Else ∷ (body_lines other ++ form.End ∷ [])) (k.0 (begun_try bs t)) (tt, both_none (body_lines other) (form.End ∷ []) (l.0 (begun_try bs t)) (tt, tt))),
      end.1,
    )

keeps_while : (e : Expr) (body : List Stmt) → KeepsBody body → Keeps (stmt.While e body)
unfolding form_shape blocks_below
keeps_while e body p bs rest n =
    let is = each_stmt-While stmt_step clause_step e body in
    let m = subst (At bs rest) is n in
    let k = p (Loop ∷ begun bs) (form.End ∷ rest) (ungroup (Loop ∷ begun bs) (body_lines body) (form.End ∷ []) rest m.1) in
    let end = outer body (Loop ∷ begun bs) (form.End ∷ rest) refl k.1 in
    (λ t. subst NoReturns (sym is) (tt, both_none (body_lines body) (form.End ∷ []) (k.0 (begun_try bs t)) (tt, tt)), end.1)

finally_clean : (body final : List Stmt) → KeepsBody body → KeepsBody final → IsClean (stmt.TryFinally body final)
unfolding form_shape blocks_below
finally_clean body final p q bs rest n =
    let is = each_stmt-TryFinally stmt_step clause_step body final in
    let m = subst (At bs rest) is n in
    let more : List Form = (body_lines final ++ form.Endtry ∷ []) ++ rest in
    let k = p (TryBody ∷ begun bs) (form.Finally ∷ more) (ungroup (TryBody ∷ begun bs) (body_lines body) (form.Finally ∷ (body_lines final ++ form.Endtry ∷ [])) rest m.1) in
    let next = outer body (TryBody ∷ begun bs) (form.Finally ∷ more) refl k.1 in
    let l = q (FinallyBody ∷ begun bs) (form.Endtry ∷ rest) (ungroup (FinallyBody ∷ begun bs) (body_lines final) (form.Endtry ∷ []) rest next.1) in
    let end = outer final (FinallyBody ∷ begun bs) (form.Endtry ∷ rest) refl l.1 in
    (subst NoReturns (sym is) (tt, both_none (body_lines body) (form.Finally ∷ (body_lines final ++ form.Endtry ∷ [])) (k.0 refl) (tt, both_none (body_lines final) (form.Endtry ∷ []) (l.0 refl) (tt, tt))), end.1)

catch_clean : (body : List Stmt) (cs : List Clause) → KeepsBody body → KeepsClauses cs → IsClean (stmt.TryCatch body cs)
unfolding form_shape blocks_below
catch_clean body cs p q bs rest n =
    let is = each_stmt-TryCatch stmt_step clause_step body cs in
    let m = subst (At bs rest) is n in
    let more : List Form = (clauses_lines cs ++ form.Endtry ∷ []) ++ rest in
    let k = p (TryBody ∷ begun bs) more (ungroup (TryBody ∷ begun bs) (body_lines body) (clauses_lines cs ++ form.Endtry ∷ []) rest m.1) in
    let l = q TryBody (begun bs) rest (outer body (TryBody ∷ begun bs) more refl k.1) in
    (subst NoReturns (sym is) (tt, both_none (body_lines body) (clauses_lines cs ++ form.Endtry ∷ []) (k.0 refl) (both_none (clauses_lines cs) (form.Endtry ∷ []) l.0 (tt, tt))), l.1)

clean_keeps : (s : Stmt) → IsClean s → Keeps s
clean_keeps s c bs rest n = (λ t. (c bs rest n).0, (c bs rest n).1)

keeps_body : (s : Stmt) (body : List Stmt) → Keeps s → KeepsBody body → KeepsBody (s ∷ body)
keeps_body s body p q bs rest n =
    let k = p bs (body_lines body ++ rest) (ungroup bs (stmt_lines s) (body_lines body) rest n) in
    let l = q (begun bs) rest k.1 in
    (λ t. both_none (stmt_lines s) (body_lines body) (k.0 t) (l.0 (begun_try bs t)), subst (λ (x : List Block). Kept x rest) (after_begun body bs) l.1)

no_clause : KeepsClauses []
unfolding form_shape blocks_below
no_clause b bs rest n = (tt, n.1)

ungroup_clause : (bs : List Block) (f : Form) (body more end rest : List Form) → Kept bs ((((f ∷ body) ++ more) ++ end) ++ rest) → Kept bs (f ∷ (body ++ ((more ++ end) ++ rest)))
ungroup_clause bs f body more end rest n =
    subst (Kept bs) (append_assoc (f ∷ (body ++ more)) end rest ∙ append_assoc (f ∷ body) more (end ++ rest) ∙ ap (λ (zs : List Form). f ∷ (body ++ zs)) (sym (append_assoc more end rest))) n

-- Below the line of a clause: its body and what comes after it.
below_clause : (b : Block) (body : List Stmt) (cs : List Clause) (bs : List Block) (rest : List Form) → is_try b ≡ true → InTry (b ∷ bs) → begun (b ∷ bs) ≡ b ∷ bs → KeepsBody body → KeepsClauses cs
    → Kept (b ∷ bs) (body_lines body ++ ((clauses_lines cs ++ form.Endtry ∷ []) ++ rest)) → NoReturns (body_lines body ++ clauses_lines cs) × Kept bs rest
below_clause b body cs bs rest e t stays p q n =
    let more : List Form = (clauses_lines cs ++ form.Endtry ∷ []) ++ rest in
    let k = p (b ∷ bs) more n in
    let l = q b bs rest (outer body (b ∷ bs) more stays k.1) in
    (both_none (body_lines body) (clauses_lines cs) (k.0 t) l.0, l.1)

one_clause : (names : Option NameId) (body : List Stmt) (cs : List Clause) → KeepsBody body → KeepsClauses cs → KeepsClauses (clause_with names body ∷ cs)
unfolding form_shape blocks_below
one_clause (Some x) body cs p q b bs rest n =
    let k = below_clause CatchBody body cs bs rest refl refl refl p q (ungroup_clause (b ∷ bs) (form.Catch x) (body_lines body) (clauses_lines cs) (form.Endtry ∷ []) rest n).1 in
    ((tt, k.0), k.1)
one_clause None body cs p q b bs rest n =
    let k = below_clause CatchAllBody body cs bs rest refl refl refl p q (ungroup_clause (b ∷ bs) form.CatchAll (body_lines body) (clauses_lines cs) (form.Endtry ∷ []) rest n).1 in
    ((tt, k.0), k.1)

keeps_clause : (c : Clause) (cs : List Clause) → KeepsBody c.body → KeepsClauses cs → KeepsClauses (c ∷ cs)
keeps_clause c cs p q = one_clause c.names c.body cs p q

cases : StmtCases Keeps KeepsBody KeepsClauses
cases = record {
  set = keeps_set;
  say = keeps_say;
  if_alone = keeps_if;
  if_else = keeps_else;
  while = keeps_while;
  try_catch = λ body cs p q. clean_keeps (stmt.TryCatch body cs) (catch_clean body cs p q);
  try_finally = λ body final p q. clean_keeps (stmt.TryFinally body final) (finally_clean body final p q);
  raise = keeps_raise;
  reraise = keeps_reraise;
  call = keeps_call;
  return = keeps_return;
  exit = keeps_exit;
  dce = keeps_dce;
  body_end = λ bs rest n. (λ t. tt, n);
  body_more = keeps_body;
  clauses_end = no_clause;
  clauses_more = keeps_clause;
}

body_keeps : (body : List Stmt) → KeepsBody body
body_keeps = body_induction Keeps KeepsBody KeepsClauses cases

clauses_keep : (cs : List Clause) → KeepsClauses cs
clauses_keep [] = no_clause
clauses_keep (c ∷ cs) = keeps_clause c cs (body_keeps c.body) (clauses_keep cs)

-- ---- tries that stand in the script

below : (bs : List Block) (above forms : List Form) → Kept bs (above ++ forms) → (cs : List Block) × Kept cs forms
below bs [] forms k = (bs, k)
below bs (f ∷ above) forms k = below (blocks_below bs (words_shape f)) above forms k.1

pub tries_clean : (s : Script) → Formed s → TriesHaveNoReturns s
tries_clean s formed = record {
  catching = λ body clauses line h.
      let k = below [] h.above (stmt_lines (stmt.TryCatch body clauses) ++ h.below) (subst (Kept []) h.parts (script_kept s formed)) in
      (catch_clean body clauses (body_keeps body) (clauses_keep clauses) k.0 h.below k.1).0;
  finishing = λ body final line h.
      let k = below [] h.above (stmt_lines (stmt.TryFinally body final) ++ h.below) (subst (Kept []) h.parts (script_kept s formed)) in
      (finally_clean body final (body_keeps body) (body_keeps final) k.0 h.below k.1).0;
}

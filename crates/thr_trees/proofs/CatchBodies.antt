-- Statements have `reraise` and `this` in catch bodies alone.
use Rattle.std.proofs.Common.{◌≡◌, ℕ, zero, suc, Bool, true, false, List, [], ◌∷◌, ◌++◌, map, slice_get, Option, Some, None, refl, sym, ap, subst, ◌∙◌, append_assoc}
use Rattle.std.specs.Prelude.{◌&&◌, ◌||◌, not}
use Rattle.std.specs.List.{list_all, list_any}
use Rattle.thr_values.specs.declared.number.NameId.{NameId}
use Rattle.thr_syntax.specs.declared.dce.DceCall.{DceCall}
use Rattle.thr_syntax.specs.declared.expr.Expr.{Expr}
use Rattle.thr_syntax.specs.declared.expr.Var.{Var}
use Rattle.thr_syntax.specs.declared.form.Form.{Form}
use Rattle.thr_syntax.specs.declared.form.Form.TheVariants as form
use Rattle.thr_syntax.specs.declared.tree.Clause.{Clause}
use Rattle.thr_syntax.specs.declared.tree.Item.{Item}
use Rattle.thr_syntax.specs.declared.tree.Item.TheVariants as item
use Rattle.thr_syntax.specs.declared.tree.Routine.{Routine}
use Rattle.thr_syntax.specs.declared.tree.Script.{Script}
use Rattle.thr_syntax.specs.declared.tree.Stmt.{Stmt}
use Rattle.thr_syntax.specs.declared.tree.Stmt.TheVariants as stmt
use Rattle.thr_syntax.specs.Lines.{joined, stmt_step, clause_step, stmt_lines, body_lines, item_lines}
use Rattle.thr_syntax.proofs.FoldLaws.{each_clause, each_stmt-Set, each_stmt-Say, each_stmt-If, each_stmt-While, each_stmt-TryCatch, each_stmt-TryFinally, each_stmt-Raise, each_stmt-Reraise, each_stmt-Call, each_stmt-Return, each_stmt-Exit, each_stmt-Dce}
use Rattle.thr_syntax.proofs.TreeInduction.{StmtCases, body_induction}
use Rattle.thr_text.specs.declared.block.Block.{Block}
use Rattle.thr_text.specs.declared.block.Block.TheVariants.{Locals, Statements, Then, Otherwise, Loop, TryBody, CatchBody, CatchAllBody, FinallyBody}
use Rattle.thr_text.specs.Blocks.{form_shape, is_catch, begun, blocks_below}
use Rattle.thr_text.specs.Reading.{Formed}
use Rattle.thr_blocks.specs.Trees.{item_nests}
use Rattle.thr_blocks.proofs.Flat.{clauses_lines}
use Rattle.thr_trees.specs.Caught.{asks_caught, all_caught, caught_step, clause_caught_step, stmt_caught, body_caught}
use Rattle.thr_trees.specs.Names.{exceptions_of, exceptions_in_call}
use Rattle.thr_trees.proofs.CaughtLines.{AreCaught, script_caught}
use Rattle.thr_trees.proofs.KindsAgree.{formed_nest}

-- A catch body is open.
abbrev in_catch : List Block → Bool
in_catch bs = list_any is_catch bs

-- The blocks below these statements.
abbrev after : List Stmt → List Block → List Block
after [] bs = bs
after (s ∷ body) bs = begun bs

begun_twice : (bs : List Block) → begun (begun bs) ≡ begun bs
begun_twice [] = refl
begun_twice (Locals ∷ bs) = refl
begun_twice (Statements ∷ bs) = refl
begun_twice (Then ∷ bs) = refl
begun_twice (Otherwise ∷ bs) = refl
begun_twice (Loop ∷ bs) = refl
begun_twice (TryBody ∷ bs) = refl
begun_twice (CatchBody ∷ bs) = refl
begun_twice (CatchAllBody ∷ bs) = refl
begun_twice (FinallyBody ∷ bs) = refl

begun_catch : (bs : List Block) → in_catch (begun bs) ≡ in_catch bs
begun_catch [] = refl
begun_catch (Locals ∷ bs) = refl
begun_catch (Statements ∷ bs) = refl
begun_catch (Then ∷ bs) = refl
begun_catch (Otherwise ∷ bs) = refl
begun_catch (Loop ∷ bs) = refl
begun_catch (TryBody ∷ bs) = refl
begun_catch (CatchBody ∷ bs) = refl
begun_catch (CatchAllBody ∷ bs) = refl
begun_catch (FinallyBody ∷ bs) = refl

after_begun : (body : List Stmt) (bs : List Block) → after body (begun bs) ≡ begun bs
after_begun [] bs = refl
after_begun (s ∷ body) bs = begun_twice bs

-- A clause by its parts.
abbrev clause_with : Option NameId → List Stmt → Clause
clause_with names body = record { names = names; body = body }

and_true : (a b : Bool) → a ≡ true → b ≡ true → (a && b) ≡ true
and_true a b e f = rw (e, f) refl

-- ---- statements, bodies and clauses

-- Below the lines of the statement the rest is caught, and the statement is, where it is said whether a catch body is open.
abbrev Keeps : Stmt → Type 0
Keeps s = (bs : List Block) (rest : List Form) → AreCaught bs (stmt_lines s ++ rest) → (stmt_caught s (in_catch bs) ≡ true) × AreCaught (begun bs) rest

-- The same of a body.
abbrev KeepsBody : List Stmt → Type 0
KeepsBody body = (bs : List Block) (rest : List Form) → AreCaught bs (body_lines body ++ rest) → (body_caught body (in_catch bs) ≡ true) × AreCaught (after body bs) rest

abbrev clauses_caught : List Clause → Bool → Bool
clauses_caught cs inside = all_caught inside (map (each_clause caught_step clause_caught_step) cs)

-- The same of the clauses of a try with its end.
abbrev KeepsClauses : List Clause → Type 0
KeepsClauses cs = (b : Block) (bs : List Block) (rest : List Form) → AreCaught (b ∷ bs) ((clauses_lines cs ++ form.Endtry ∷ []) ++ rest) → (clauses_caught cs (in_catch bs) ≡ true) × AreCaught bs rest

-- These lines and the rest are caught.
abbrev At : List Block → List Form → List Form → Type 0
At bs rest lines = AreCaught bs (lines ++ rest)

ungroup : (bs : List Block) (xs ys rest : List Form) → AreCaught bs ((xs ++ ys) ++ rest) → AreCaught bs (xs ++ (ys ++ rest))
ungroup bs xs ys rest n = subst (AreCaught bs) (append_assoc xs ys rest) n

-- The block around a body that has nothing left to begin.
outer : (body : List Stmt) (bs : List Block) (forms : List Form) → begun bs ≡ bs → AreCaught (after body bs) forms → AreCaught bs forms
outer [] bs forms e n = n
outer (s ∷ body) bs forms e n = subst (λ (x : List Block). AreCaught x forms) e n

-- The body of a block that is no catch body.
same_catch : (body : List Stmt) (b : Block) (bs : List Block) → is_catch b ≡ false → body_caught body (in_catch (b ∷ begun bs)) ≡ true → body_caught body (in_catch bs) ≡ true
same_catch body b bs e h =
    let same : in_catch (b ∷ begun bs) ≡ in_catch bs = ap (λ (x : Bool). x || in_catch (begun bs)) e ∙ begun_catch bs in
    subst (λ (x : Bool). body_caught body x ≡ true) same h

-- A line without a fault that asks for what is caught stands in a catch body.
asks_inside : (asks inside : Bool) → (asks && not inside) ≡ false → (inside || not asks) ≡ true
asks_inside true true e = refl
asks_inside true false e = absurd cc
asks_inside false true e = refl
asks_inside false false e = refl

inside_too : (inside : Bool) → not inside ≡ false → inside ≡ true
inside_too true e = refl
inside_too false e = absurd cc

one_line : (s : Stmt) (f : Form) → stmt_lines s ≡ f ∷ [] → ((bs : List Block) → AreCaught bs (f ∷ []) → stmt_caught s (in_catch bs) ≡ true) → ((bs : List Block) → blocks_below bs (form_shape f) ≡ begun bs) → Keeps s
one_line s f e is below bs rest n =
    let m : AreCaught bs (f ∷ rest) = subst (At bs rest) e n in
    (is bs (m.0, tt), subst (λ (x : List Block). AreCaught x rest) (below bs) m.1)

-- A statement of one line that may ask for what is caught.
asking : (s : Stmt) (asks : Bool) (bs : List Block) → stmt_caught s (in_catch bs) ≡ (in_catch bs || not asks) → (asks && not (in_catch bs)) ≡ false → stmt_caught s (in_catch bs) ≡ true
asking s asks bs is h = is ∙ asks_inside asks (in_catch bs) h

keeps_set : (v : Var) (e : Expr) → Keeps (stmt.Set v e)
unfolding form_shape blocks_below
keeps_set v e = one_line (stmt.Set v e) (form.Set v e) (each_stmt-Set stmt_step clause_step v e) (λ bs n. asking (stmt.Set v e) (asks_caught (exceptions_of e)) bs (λ i. each_stmt-Set caught_step clause_caught_step v e i (in_catch bs)) n.0) (λ bs. refl)

keeps_say : (e : Expr) → Keeps (stmt.Say e)
unfolding form_shape blocks_below
keeps_say e = one_line (stmt.Say e) (form.Say e) (each_stmt-Say stmt_step clause_step e) (λ bs n. asking (stmt.Say e) (asks_caught (exceptions_of e)) bs (λ i. each_stmt-Say caught_step clause_caught_step e i (in_catch bs)) n.0) (λ bs. refl)

keeps_raise : (x : NameId) → Keeps (stmt.Raise x)
unfolding form_shape blocks_below
keeps_raise x = one_line (stmt.Raise x) (form.Raise x) (each_stmt-Raise stmt_step clause_step x) (λ bs n. (λ i. each_stmt-Raise caught_step clause_caught_step x i (in_catch bs))) (λ bs. refl)

keeps_reraise : Keeps stmt.Reraise
unfolding form_shape blocks_below
keeps_reraise = one_line stmt.Reraise form.Reraise (each_stmt-Reraise stmt_step clause_step) (λ bs n. (λ i. each_stmt-Reraise caught_step clause_caught_step i (in_catch bs)) ∙ inside_too (in_catch bs) n.0) (λ bs. refl)

keeps_call : (name : NameId) (e : Expr) (place : Option ℕ) → Keeps (stmt.Call name e place)
unfolding form_shape blocks_below
keeps_call name e place =
    one_line (stmt.Call name e place) (form.Call name e place) (each_stmt-Call stmt_step clause_step name e place)
    (λ bs n. asking (stmt.Call name e place) (asks_caught (exceptions_of e)) bs (λ i. each_stmt-Call caught_step clause_caught_step name e place i (in_catch bs)) n.0) (λ bs. refl)

keeps_return : (e : Expr) → Keeps (stmt.Return e)
unfolding form_shape blocks_below
keeps_return e = one_line (stmt.Return e) (form.Return e) (each_stmt-Return stmt_step clause_step e) (λ bs n. asking (stmt.Return e) (asks_caught (exceptions_of e)) bs (λ i. each_stmt-Return caught_step clause_caught_step e i (in_catch bs)) n.0) (λ bs. refl)

keeps_exit : (e : Expr) → Keeps (stmt.Exit e)
unfolding form_shape blocks_below
keeps_exit e = one_line (stmt.Exit e) (form.Exit e) (each_stmt-Exit stmt_step clause_step e) (λ bs n. asking (stmt.Exit e) (asks_caught (exceptions_of e)) bs (λ i. each_stmt-Exit caught_step clause_caught_step e i (in_catch bs)) n.0) (λ bs. refl)

keeps_dce : (call : DceCall) → Keeps (stmt.Dce call)
unfolding form_shape blocks_below
keeps_dce call = one_line (stmt.Dce call) (form.Dce call) (each_stmt-Dce stmt_step clause_step call) (λ bs n. asking (stmt.Dce call) (asks_caught (exceptions_in_call call)) bs (λ i. each_stmt-Dce caught_step clause_caught_step call i (in_catch bs)) n.0) (λ bs. refl)

keeps_if : (e : Expr) (body : List Stmt) → KeepsBody body → Keeps (stmt.If e body None)
unfolding form_shape blocks_below
keeps_if e body p bs rest n =
    let is = each_stmt-If stmt_step clause_step e body None in
    let m = subst (At bs rest) is n in
    let k = p (Then ∷ begun bs) (form.End ∷ rest) (ungroup (Then ∷ begun bs) (body_lines body) (form.End ∷ []) rest m.1) in
    let end = outer body (Then ∷ begun bs) (form.End ∷ rest) refl k.1 in
    let own : (in_catch bs || not (asks_caught (exceptions_of e))) ≡ true = asks_inside (asks_caught (exceptions_of e)) (in_catch bs) m.0 in
    let inner : (body_caught body (in_catch bs) && true) ≡ true = and_true (body_caught body (in_catch bs)) true (same_catch body Then bs refl k.0) refl in
    ((λ i. each_stmt-If caught_step clause_caught_step e body None i (in_catch bs)) ∙ and_true (in_catch bs || not (asks_caught (exceptions_of e))) (body_caught body (in_catch bs) && true) own inner, end.1)

keeps_else : (e : Expr) (body other : List Stmt) → KeepsBody body → KeepsBody other → Keeps (stmt.If e body (Some other))
unfolding form_shape blocks_below
keeps_else e body other p q bs rest n =
    let is = each_stmt-If stmt_step clause_step e body (Some other) in
    let m = subst (At bs rest) is n in
    let more : List Form = (body_lines other ++ form.End ∷ []) ++ rest in
    let k = p (Then ∷ begun bs) (form.Else ∷ more) (ungroup (Then ∷ begun bs) (body_lines body) (form.Else ∷ (body_lines other ++ form.End ∷ [])) rest m.1) in
    let next_part = outer body (Then ∷ begun bs) (form.Else ∷ more) refl k.1 in
    let l = q (Otherwise ∷ begun bs) (form.End ∷ rest) (ungroup (Otherwise ∷ begun bs) (body_lines other) (form.End ∷ []) rest next_part.1) in
    let end = outer other (Otherwise ∷ begun bs) (form.End ∷ rest) refl l.1 in
    let own : (in_catch bs || not (asks_caught (exceptions_of e))) ≡ true = asks_inside (asks_caught (exceptions_of e)) (in_catch bs) m.0 in
    let inner : (body_caught body (in_catch bs) && body_caught other (in_catch bs)) ≡ true = and_true (body_caught body (in_catch bs)) (body_caught other (in_catch bs)) (same_catch body Then bs refl k.0) (same_catch other Otherwise bs refl l.0) in
    ((λ i. each_stmt-If caught_step clause_caught_step e body (Some other) i (in_catch bs)) ∙ and_true (in_catch bs || not (asks_caught (exceptions_of e))) (body_caught body (in_catch bs) && body_caught other (in_catch bs)) own inner, end.1)

keeps_while : (e : Expr) (body : List Stmt) → KeepsBody body → Keeps (stmt.While e body)
unfolding form_shape blocks_below
keeps_while e body p bs rest n =
    let is = each_stmt-While stmt_step clause_step e body in
    let m = subst (At bs rest) is n in
    let k = p (Loop ∷ begun bs) (form.End ∷ rest) (ungroup (Loop ∷ begun bs) (body_lines body) (form.End ∷ []) rest m.1) in
    let end = outer body (Loop ∷ begun bs) (form.End ∷ rest) refl k.1 in
    let own : (in_catch bs || not (asks_caught (exceptions_of e))) ≡ true = asks_inside (asks_caught (exceptions_of e)) (in_catch bs) m.0 in
    ((λ i. each_stmt-While caught_step clause_caught_step e body i (in_catch bs)) ∙ and_true (in_catch bs || not (asks_caught (exceptions_of e))) (body_caught body (in_catch bs)) own (same_catch body Loop bs refl k.0), end.1)

keeps_finally : (body final : List Stmt) → KeepsBody body → KeepsBody final → Keeps (stmt.TryFinally body final)
unfolding form_shape blocks_below
keeps_finally body final p q bs rest n =
    let is = each_stmt-TryFinally stmt_step clause_step body final in
    let m = subst (At bs rest) is n in
    let more : List Form = (body_lines final ++ form.Endtry ∷ []) ++ rest in
    let k = p (TryBody ∷ begun bs) (form.Finally ∷ more) (ungroup (TryBody ∷ begun bs) (body_lines body) (form.Finally ∷ (body_lines final ++ form.Endtry ∷ [])) rest m.1) in
    let next_part = outer body (TryBody ∷ begun bs) (form.Finally ∷ more) refl k.1 in
    let l = q (FinallyBody ∷ begun bs) (form.Endtry ∷ rest) (ungroup (FinallyBody ∷ begun bs) (body_lines final) (form.Endtry ∷ []) rest next_part.1) in
    let end = outer final (FinallyBody ∷ begun bs) (form.Endtry ∷ rest) refl l.1 in (
      (λ i. each_stmt-TryFinally caught_step clause_caught_step body final i (in_catch bs))
          ∙ and_true (body_caught body (in_catch bs)) (body_caught final (in_catch bs)) (same_catch body TryBody bs refl k.0) (same_catch final FinallyBody bs refl l.0),
      end.1,
    )

keeps_catch : (body : List Stmt) (cs : List Clause) → KeepsBody body → KeepsClauses cs → Keeps (stmt.TryCatch body cs)
unfolding form_shape blocks_below
keeps_catch body cs p q bs rest n =
    let is = each_stmt-TryCatch stmt_step clause_step body cs in
    let m = subst (At bs rest) is n in
    let more : List Form = (clauses_lines cs ++ form.Endtry ∷ []) ++ rest in
    let k = p (TryBody ∷ begun bs) more (ungroup (TryBody ∷ begun bs) (body_lines body) (clauses_lines cs ++ form.Endtry ∷ []) rest m.1) in
    let l = q TryBody (begun bs) rest (outer body (TryBody ∷ begun bs) more refl k.1) in
    let clauses : clauses_caught cs (in_catch bs) ≡ true = subst (λ (x : Bool). clauses_caught cs x ≡ true) (begun_catch bs) l.0 in (
      (λ i. each_stmt-TryCatch caught_step clause_caught_step body cs i (in_catch bs)) ∙ and_true (body_caught body (in_catch bs)) (clauses_caught cs (in_catch bs)) (same_catch body TryBody bs refl k.0) clauses,
      l.1,
    )

keeps_body : (s : Stmt) (body : List Stmt) → Keeps s → KeepsBody body → KeepsBody (s ∷ body)
keeps_body s body p q bs rest n =
    let k = p bs (body_lines body ++ rest) (ungroup bs (stmt_lines s) (body_lines body) rest n) in
    let l = q (begun bs) rest k.1 in
    let more : body_caught body (in_catch bs) ≡ true = subst (λ (x : Bool). body_caught body x ≡ true) (begun_catch bs) l.0 in
    (and_true (stmt_caught s (in_catch bs)) (body_caught body (in_catch bs)) k.0 more, subst (λ (x : List Block). AreCaught x rest) (after_begun body bs) l.1)

no_clause : KeepsClauses []
unfolding form_shape blocks_below
no_clause b bs rest n = (refl, n.1)

ungroup_clause : (bs : List Block) (f : Form) (body more end rest : List Form) → AreCaught bs ((((f ∷ body) ++ more) ++ end) ++ rest) → AreCaught bs (f ∷ (body ++ ((more ++ end) ++ rest)))
ungroup_clause bs f body more end rest n =
    subst (AreCaught bs) (append_assoc (f ∷ (body ++ more)) end rest ∙ append_assoc (f ∷ body) more (end ++ rest) ∙ ap (λ (zs : List Form). f ∷ (body ++ zs)) (sym (append_assoc more end rest))) n

-- Below the line of a clause: its body and what comes after it.
below_clause : (b : Block) (body : List Stmt) (cs : List Clause) (bs : List Block) (rest : List Form) → is_catch b ≡ true → begun (b ∷ bs) ≡ b ∷ bs → KeepsBody body → KeepsClauses cs
    → AreCaught (b ∷ bs) (body_lines body ++ ((clauses_lines cs ++ form.Endtry ∷ []) ++ rest)) → ((body_caught body true && clauses_caught cs (in_catch bs)) ≡ true) × AreCaught bs rest
below_clause b body cs bs rest e stays p q n =
    let more : List Form = (clauses_lines cs ++ form.Endtry ∷ []) ++ rest in
    let k = p (b ∷ bs) more n in
    let l = q b bs rest (outer body (b ∷ bs) more stays k.1) in
    let own : body_caught body true ≡ true = subst (λ (x : Bool). body_caught body (x || in_catch bs) ≡ true) e k.0 in
    (and_true (body_caught body true) (clauses_caught cs (in_catch bs)) own l.0, l.1)

one_clause : (names : Option NameId) (body : List Stmt) (cs : List Clause) → KeepsBody body → KeepsClauses cs → KeepsClauses (clause_with names body ∷ cs)
unfolding form_shape blocks_below
one_clause (Some x) body cs p q b bs rest n = below_clause CatchBody body cs bs rest refl refl p q (ungroup_clause (b ∷ bs) (form.Catch x) (body_lines body) (clauses_lines cs) (form.Endtry ∷ []) rest n).1
one_clause None body cs p q b bs rest n = below_clause CatchAllBody body cs bs rest refl refl p q (ungroup_clause (b ∷ bs) form.CatchAll (body_lines body) (clauses_lines cs) (form.Endtry ∷ []) rest n).1

keeps_clause : (c : Clause) (cs : List Clause) → KeepsBody c.body → KeepsClauses cs → KeepsClauses (c ∷ cs)
keeps_clause c cs p q = one_clause c.names c.body cs p q

cases : StmtCases Keeps KeepsBody KeepsClauses
cases = record {
  set = keeps_set;
  say = keeps_say;
  if_alone = keeps_if;
  if_else = keeps_else;
  while = keeps_while;
  try_catch = keeps_catch;
  try_finally = keeps_finally;
  raise = keeps_raise;
  reraise = keeps_reraise;
  call = keeps_call;
  return = keeps_return;
  exit = keeps_exit;
  dce = keeps_dce;
  body_end = λ bs rest n. (refl, n);
  body_more = keeps_body;
  clauses_end = no_clause;
  clauses_more = keeps_clause;
}

body_keeps : (body : List Stmt) → KeepsBody body
body_keeps = body_induction Keeps KeepsBody KeepsClauses cases

-- ---- routines

locals_caught : (bs : List Block) (locals : List (List ℕ)) (forms : List Form) → AreCaught bs (map (λ (n : List ℕ). form.Local n) locals ++ forms) → AreCaught bs forms
unfolding form_shape blocks_below
locals_caught bs [] forms h = h
locals_caught bs (n ∷ locals) forms h = locals_caught bs locals forms h.1

-- The body of a routine is caught outside of every catch body, and so is what comes after the routine.
abbrev ItemCaught : Item → Type 0
ItemCaught (item.Routine r) = body_caught r.body false ≡ true
ItemCaught i = Unit {0}

after_routine : (body : List Stmt) (bs : List Block) (rest : List Form) → AreCaught (after body (Locals ∷ bs)) (form.End ∷ rest) → AreCaught bs rest
unfolding form_shape blocks_below
after_routine [] bs rest h = h.1
after_routine (s ∷ body) bs rest h = h.1

routine_caught : (name : NameId) (locals : List (List ℕ)) (body : List Stmt) (rest : List Form) → item_nests (item.Routine (record { name = name; locals = locals; body = body })) ≡ true
    → AreCaught [] (item_lines (item.Routine (record { name = name; locals = locals; body = body })) ++ rest) → (body_caught body false ≡ true) × AreCaught [] rest
unfolding form_shape blocks_below
routine_caught name [] body rest nests h = absurd cc
routine_caught name (parameter ∷ locals) body rest nests h =
    let inside : List Form = body_lines body ++ form.End ∷ [] in
    let below = locals_caught (Locals ∷ []) locals (inside ++ rest) (ungroup (Locals ∷ []) (map (λ (n : List ℕ). form.Local n) locals) inside rest h.1) in
    let k = body_keeps body (Locals ∷ []) (form.End ∷ rest) (ungroup (Locals ∷ []) (body_lines body) (form.End ∷ []) rest below) in
    (k.0, after_routine body [] rest k.1)

item_caught : (i : Item) (rest : List Form) → item_nests i ≡ true → AreCaught [] (item_lines i ++ rest) → ItemCaught i × AreCaught [] rest
unfolding form_shape blocks_below
item_caught (item.Routine r) rest nests h = routine_caught r.name r.locals r.body rest nests h
item_caught (item.Interface i) rest nests h = (tt, h.1)
item_caught (item.Limit n) rest nests h = (tt, h.1)
item_caught (item.Shared name n) rest nests h = (tt, h.1)
item_caught (item.Exception name) rest nests h = (tt, h.1)
item_caught (item.Status name n) rest nests h = (tt, h.1)
item_caught (item.Mutex name) rest nests h = (tt, h.1)
item_caught (item.MutexAttr name) rest nests h = (tt, h.1)
item_caught (item.Cond name) rest nests h = (tt, h.1)
item_caught (item.Attr name) rest nests h = (tt, h.1)
item_caught (item.Key name) rest nests h = (tt, h.1)
item_caught (item.Once name) rest nests h = (tt, h.1)
item_caught (item.Pipe name n) rest nests h = (tt, h.1)

both : (a b : Bool) → (a && b) ≡ true → (a ≡ true) × (b ≡ true)
both true b e = (refl, e)
both false b e = absurd cc

routine_at : (items : List Item) (place : ℕ) (r : Routine) → list_all item_nests items ≡ true → AreCaught [] (joined (map item_lines items)) → slice_get items place ≡ Some (item.Routine r) → body_caught r.body false ≡ true
routine_at [] place r nests h is = absurd cc
routine_at (i ∷ items) zero r nests h is =
    let n = both (item_nests i) (list_all item_nests items) nests in
    let same : i ≡ item.Routine r = cc in
    subst ItemCaught same (item_caught i (joined (map item_lines items)) n.0 h).0
routine_at (i ∷ items) (suc place) r nests h is =
    let n = both (item_nests i) (list_all item_nests items) nests in
    routine_at items place r n.1 (item_caught i (joined (map item_lines items)) n.0 h).1 is

pub routines_caught : (s : Script) → Formed s → (place : ℕ) (r : Routine) → slice_get s.items place ≡ Some (item.Routine r) → body_caught r.body false ≡ true
routines_caught s h place r is = routine_at s.items place r (formed_nest s h) (script_caught s h) is

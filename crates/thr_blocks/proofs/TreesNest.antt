-- A tree nests where its lines do.
use Rattle.std.proofs.Common.{◌≡◌, ℕ, Bool, true, false, ◌&&◌, List, [], ◌∷◌, ◌++◌, map, Option, Some, None, refl, sym, ap, subst, ◌∙◌, append_assoc}
use Rattle.std.specs.List.{list_all}
use Rattle.thr_values.specs.declared.number.NameId.{NameId}
use Rattle.thr_syntax.specs.declared.form.Form.{Form}
use Rattle.thr_syntax.specs.declared.form.Form.TheVariants as form
use Rattle.thr_syntax.specs.declared.dce.DceCall.{DceCall}
use Rattle.thr_syntax.specs.declared.expr.Expr.{Expr}
use Rattle.thr_syntax.specs.declared.expr.Var.{Var}
use Rattle.thr_syntax.specs.declared.tree.Clause.{Clause}
use Rattle.thr_syntax.specs.declared.tree.Stmt.{Stmt}
use Rattle.thr_syntax.specs.declared.tree.Stmt.TheVariants as stmt
use Rattle.thr_syntax.specs.declared.tree.Item.{Item}
use Rattle.thr_syntax.specs.declared.tree.Item.TheVariants as item
use Rattle.thr_syntax.specs.Lines.{stmt_step, clause_step, stmt_lines, body_lines, item_lines}
use Rattle.thr_syntax.proofs.TreeInduction.{StmtCases, stmt_induction, body_induction}
use Rattle.thr_syntax.proofs.FoldLaws.{each_stmt-Set, each_stmt-Say, each_stmt-If, each_stmt-While, each_stmt-TryCatch, each_stmt-TryFinally, each_stmt-Raise, each_stmt-Reraise, each_stmt-Call, each_stmt-Return, each_stmt-Exit, each_stmt-Dce}
use Rattle.thr_text.specs.declared.block.Block.{Block}
use Rattle.thr_text.specs.declared.block.Block.TheVariants.{Locals, Then, Otherwise, Loop, TryBody, CatchBody, CatchAllBody, FinallyBody}
use Rattle.thr_text.specs.declared.block.Shape.{Shape}
use Rattle.thr_text.specs.declared.block.Shape.TheVariants.{IsPlain, OpensIf, OpensWhile, OpensTry, Returns, Reraises}
use Rattle.thr_text.specs.Blocks.{form_shape, begun, blocks_below, nesting_faults, is_open, Nest}
use Rattle.thr_blocks.specs.Trees.{nests_step, clause_nests_step, clauses_nest, stmt_nests, body_nests, item_nests}
use Rattle.thr_blocks.proofs.Flat.{clauses_lines, items_lines}
use Rattle.thr_blocks.proofs.NestLaws.{Nested, after, after_begun, nests_of, clause_with}

and_true : (a b : Bool) → a ≡ true → b ≡ true → (a && b) ≡ true
and_true a b e f = rw (e, f)

-- ---- lines that begin a statement have a place in blocks alone

abbrev Inside : Shape → Type 0
Inside shape = (bs : List Block) → nesting_faults bs shape ≡ [] → is_open bs ≡ true

plain_inside : Inside IsPlain
plain_inside [] n = absurd cc
plain_inside (b ∷ bs) n = refl

if_inside : Inside OpensIf
if_inside [] n = absurd cc
if_inside (b ∷ bs) n = refl

while_inside : Inside OpensWhile
while_inside [] n = absurd cc
while_inside (b ∷ bs) n = refl

try_inside : Inside OpensTry
try_inside [] n = absurd cc
try_inside (b ∷ bs) n = refl

return_inside : Inside Returns
return_inside [] n = absurd cc
return_inside (b ∷ bs) n = refl

reraise_inside : Inside Reraises
reraise_inside [] n = absurd cc
reraise_inside (b ∷ bs) n = refl

-- ---- statements, bodies and clauses

abbrev Keeps : Stmt → Type 0
Keeps s = (bs : List Block) (rest : List Form) → Nested bs (stmt_lines s ++ rest) → (is_open bs ≡ true) × (stmt_nests s ≡ true) × Nested (begun bs) rest

abbrev KeepsBody : List Stmt → Type 0
KeepsBody body = (bs : List Block) (rest : List Form) → Nested bs (body_lines body ++ rest) → (body_nests body ≡ true) × Nested (after body bs) rest

-- The parts of a try that a clause or `endtry` may follow.
data InTry : Block → Type 0 where
  in_body : InTry TryBody
  in_catch : InTry CatchBody
  in_all : InTry CatchAllBody

abbrev more_nest : List (Bool × Bool) → Bool
more_nest [] = true
more_nest (c ∷ cs) = clauses_nest (c ∷ cs)

abbrev MayFollow : Block → List (Bool × Bool) → Type 0
MayFollow CatchBody cs = more_nest cs ≡ true
MayFollow CatchAllBody cs = cs ≡ []
MayFollow b cs = clauses_nest cs ≡ true

abbrev KeepsClauses : List Clause → Type 0
KeepsClauses cs = (b : Block) (bs : List Block) (rest : List Form) → InTry b → Nested (b ∷ bs) ((clauses_lines cs ++ form.Endtry ∷ []) ++ rest) → MayFollow b (map nests_of cs) × Nested bs rest

abbrev At : List Block → List Form → List Form → Type 0
At bs rest lines = Nested bs (lines ++ rest)

ungroup : (bs : List Block) (xs ys rest : List Form) → Nested bs ((xs ++ ys) ++ rest) → Nested bs (xs ++ (ys ++ rest))
ungroup bs xs ys rest n = subst (Nested bs) (append_assoc xs ys rest) n

-- The block around a body that has nothing left to begin.
outer : (body : List Stmt) (bs : List Block) (forms : List Form) → begun bs ≡ bs → Nested (after body bs) forms → Nested bs forms
outer [] bs forms e n = n
outer (s ∷ body) bs forms e n = subst (λ (x : List Block). Nested x forms) e n

one_line : (s : Stmt) (f : Form) → stmt_lines s ≡ f ∷ [] → stmt_nests s ≡ true → Inside (form_shape f) → ((bs : List Block) → blocks_below bs (form_shape f) ≡ begun bs) → Keeps s
one_line s f e k inside below bs rest n =
    let m : Nested bs (f ∷ rest) = subst (At bs rest) e n in
    (inside bs m.0, k, subst (λ (x : List Block). Nested x rest) (below bs) m.1)

keeps_set : (v : Var) (e : Expr) → Keeps (stmt.Set v e)
unfolding form_shape blocks_below
keeps_set v e = one_line (stmt.Set v e) (form.Set v e) (each_stmt-Set stmt_step clause_step v e) (each_stmt-Set nests_step clause_nests_step v e) plain_inside (λ bs. refl)

keeps_say : (e : Expr) → Keeps (stmt.Say e)
unfolding form_shape blocks_below
keeps_say e = one_line (stmt.Say e) (form.Say e) (each_stmt-Say stmt_step clause_step e) (each_stmt-Say nests_step clause_nests_step e) plain_inside (λ bs. refl)

keeps_raise : (x : NameId) → Keeps (stmt.Raise x)
unfolding form_shape blocks_below
keeps_raise x = one_line (stmt.Raise x) (form.Raise x) (each_stmt-Raise stmt_step clause_step x) (each_stmt-Raise nests_step clause_nests_step x) plain_inside (λ bs. refl)

keeps_reraise : Keeps stmt.Reraise
unfolding form_shape blocks_below
keeps_reraise = one_line stmt.Reraise form.Reraise (each_stmt-Reraise stmt_step clause_step) (each_stmt-Reraise nests_step clause_nests_step) reraise_inside (λ bs. refl)

keeps_call : (name : NameId) (e : Expr) (v : Option ℕ) → Keeps (stmt.Call name e v)
unfolding form_shape blocks_below
keeps_call name e v = one_line (stmt.Call name e v) (form.Call name e v) (each_stmt-Call stmt_step clause_step name e v) (each_stmt-Call nests_step clause_nests_step name e v) plain_inside (λ bs. refl)

keeps_return : (e : Expr) → Keeps (stmt.Return e)
unfolding form_shape blocks_below
keeps_return e = one_line (stmt.Return e) (form.Return e) (each_stmt-Return stmt_step clause_step e) (each_stmt-Return nests_step clause_nests_step e) return_inside (λ bs. refl)

keeps_exit : (e : Expr) → Keeps (stmt.Exit e)
unfolding form_shape blocks_below
keeps_exit e = one_line (stmt.Exit e) (form.Exit e) (each_stmt-Exit stmt_step clause_step e) (each_stmt-Exit nests_step clause_nests_step e) plain_inside (λ bs. refl)

keeps_dce : (call : DceCall) → Keeps (stmt.Dce call)
unfolding form_shape blocks_below
keeps_dce call = one_line (stmt.Dce call) (form.Dce call) (each_stmt-Dce stmt_step clause_step call) (each_stmt-Dce nests_step clause_nests_step call) plain_inside (λ bs. refl)

keeps_if : (e : Expr) (body : List Stmt) → KeepsBody body → Keeps (stmt.If e body None)
unfolding form_shape blocks_below
keeps_if e body p bs rest n =
    let m = subst (At bs rest) (each_stmt-If stmt_step clause_step e body None) n in
    let k = p (Then ∷ begun bs) (form.End ∷ rest) (ungroup (Then ∷ begun bs) (body_lines body) (form.End ∷ []) rest m.1) in
    let end = outer body (Then ∷ begun bs) (form.End ∷ rest) refl k.1 in
    (if_inside bs m.0, each_stmt-If nests_step clause_nests_step e body None ∙ k.0, end.1)

keeps_else : (e : Expr) (body other : List Stmt) → KeepsBody body → KeepsBody other → Keeps (stmt.If e body (Some other))
unfolding form_shape blocks_below
keeps_else e body other p q bs rest n =
    let m = subst (At bs rest) (each_stmt-If stmt_step clause_step e body (Some other)) n in
    let more : List Form = (body_lines other ++ form.End ∷ []) ++ rest in
    let k = p (Then ∷ begun bs) (form.Else ∷ more) (ungroup (Then ∷ begun bs) (body_lines body) (form.Else ∷ (body_lines other ++ form.End ∷ [])) rest m.1) in
    let next_part_begun = outer body (Then ∷ begun bs) (form.Else ∷ more) refl k.1 in
    let l = q (Otherwise ∷ begun bs) (form.End ∷ rest) (ungroup (Otherwise ∷ begun bs) (body_lines other) (form.End ∷ []) rest next_part_begun.1) in
    let end = outer other (Otherwise ∷ begun bs) (form.End ∷ rest) refl l.1 in
    (if_inside bs m.0, each_stmt-If nests_step clause_nests_step e body (Some other) ∙ and_true (body_nests body) (body_nests other) k.0 l.0, end.1)

keeps_while : (e : Expr) (body : List Stmt) → KeepsBody body → Keeps (stmt.While e body)
unfolding form_shape blocks_below
keeps_while e body p bs rest n =
    let m = subst (At bs rest) (each_stmt-While stmt_step clause_step e body) n in
    let k = p (Loop ∷ begun bs) (form.End ∷ rest) (ungroup (Loop ∷ begun bs) (body_lines body) (form.End ∷ []) rest m.1) in
    let end = outer body (Loop ∷ begun bs) (form.End ∷ rest) refl k.1 in
    (while_inside bs m.0, each_stmt-While nests_step clause_nests_step e body ∙ k.0, end.1)

keeps_finally : (body final : List Stmt) → KeepsBody body → KeepsBody final → Keeps (stmt.TryFinally body final)
unfolding form_shape blocks_below
keeps_finally body final p q bs rest n =
    let m = subst (At bs rest) (each_stmt-TryFinally stmt_step clause_step body final) n in
    let more : List Form = (body_lines final ++ form.Endtry ∷ []) ++ rest in
    let k = p (TryBody ∷ begun bs) (form.Finally ∷ more) (ungroup (TryBody ∷ begun bs) (body_lines body) (form.Finally ∷ (body_lines final ++ form.Endtry ∷ [])) rest m.1) in
    let next_part_begun = outer body (TryBody ∷ begun bs) (form.Finally ∷ more) refl k.1 in
    let l = q (FinallyBody ∷ begun bs) (form.Endtry ∷ rest) (ungroup (FinallyBody ∷ begun bs) (body_lines final) (form.Endtry ∷ []) rest next_part_begun.1) in
    let end = outer final (FinallyBody ∷ begun bs) (form.Endtry ∷ rest) refl l.1 in
    (try_inside bs m.0, each_stmt-TryFinally nests_step clause_nests_step body final ∙ and_true (body_nests body) (body_nests final) k.0 l.0, end.1)

keeps_catch : (body : List Stmt) (cs : List Clause) → KeepsBody body → KeepsClauses cs → Keeps (stmt.TryCatch body cs)
unfolding form_shape blocks_below
keeps_catch body cs p q bs rest n =
    let m = subst (At bs rest) (each_stmt-TryCatch stmt_step clause_step body cs) n in
    let more : List Form = (clauses_lines cs ++ form.Endtry ∷ []) ++ rest in
    let k = p (TryBody ∷ begun bs) more (ungroup (TryBody ∷ begun bs) (body_lines body) (clauses_lines cs ++ form.Endtry ∷ []) rest m.1) in
    let l = q TryBody (begun bs) rest in_body (outer body (TryBody ∷ begun bs) more refl k.1) in
    (try_inside bs m.0, each_stmt-TryCatch nests_step clause_nests_step body cs ∙ and_true (body_nests body) (clauses_nest (map nests_of cs)) k.0 l.0, l.1)

keeps_body : (s : Stmt) (body : List Stmt) → Keeps s → KeepsBody body → KeepsBody (s ∷ body)
keeps_body s body p q bs rest n =
    let k = p bs (body_lines body ++ rest) (ungroup bs (stmt_lines s) (body_lines body) rest n) in
    let l = q (begun bs) rest k.2 in
    (and_true (stmt_nests s) (body_nests body) k.1 l.0, subst (λ (x : List Block). Nested x rest) (after_begun body bs) l.1)

-- ---- clauses

no_clause : KeepsClauses []
unfolding form_shape blocks_below
no_clause b bs rest in_body n = absurd (let e : 12 ∷ [] ≡ [] = n.0 in cc)
no_clause b bs rest in_catch n = (refl, n.1)
no_clause b bs rest in_all n = (refl, n.1)

ungroup_clause : (bs : List Block) (f : Form) (body more end rest : List Form) → Nested bs ((((f ∷ body) ++ more) ++ end) ++ rest) → Nested bs (f ∷ (body ++ ((more ++ end) ++ rest)))
ungroup_clause bs f body more end rest n =
    subst (Nested bs) (append_assoc (f ∷ (body ++ more)) end rest ∙ append_assoc (f ∷ body) more (end ++ rest) ∙ ap (λ (zs : List Form). f ∷ (body ++ zs)) (sym (append_assoc more end rest))) n

follow_catch : (v : Bool) (cs : List (Bool × Bool)) → v ≡ true → more_nest cs ≡ true → clauses_nest ((false, v) ∷ cs) ≡ true
follow_catch v [] h k = h
follow_catch v (c ∷ cs) h k = and_true v (clauses_nest (c ∷ cs)) h k

follow_all : (v : Bool) (cs : List (Bool × Bool)) → v ≡ true → cs ≡ [] → clauses_nest ((true, v) ∷ cs) ≡ true
follow_all v [] h k = h
follow_all v (c ∷ cs) h k = absurd cc

-- Below the line of a clause: its body and what comes after it.
below_catch : (body : List Stmt) (cs : List Clause) (bs : List Block) (rest : List Form) → KeepsBody body → KeepsClauses cs → Nested (CatchBody ∷ bs) (body_lines body ++ ((clauses_lines cs ++ form.Endtry ∷ []) ++ rest))
    → (clauses_nest ((false, body_nests body) ∷ map nests_of cs) ≡ true) × Nested bs rest
below_catch body cs bs rest p q n =
    let more : List Form = (clauses_lines cs ++ form.Endtry ∷ []) ++ rest in
    let k = p (CatchBody ∷ bs) more n in
    let l = q CatchBody bs rest in_catch (outer body (CatchBody ∷ bs) more refl k.1) in
    (follow_catch (body_nests body) (map nests_of cs) k.0 l.0, l.1)

below_all : (body : List Stmt) (cs : List Clause) (bs : List Block) (rest : List Form) → KeepsBody body → KeepsClauses cs → Nested (CatchAllBody ∷ bs) (body_lines body ++ ((clauses_lines cs ++ form.Endtry ∷ []) ++ rest))
    → (clauses_nest ((true, body_nests body) ∷ map nests_of cs) ≡ true) × Nested bs rest
below_all body cs bs rest p q n =
    let more : List Form = (clauses_lines cs ++ form.Endtry ∷ []) ++ rest in
    let k = p (CatchAllBody ∷ bs) more n in
    let l = q CatchAllBody bs rest in_all (outer body (CatchAllBody ∷ bs) more refl k.1) in
    (follow_all (body_nests body) (map nests_of cs) k.0 l.0, l.1)

one_clause : (names : Option NameId) (body : List Stmt) (cs : List Clause) → KeepsBody body → KeepsClauses cs → KeepsClauses (clause_with names body ∷ cs)
unfolding form_shape blocks_below
one_clause (Some x) body cs p q b bs rest in_body n = below_catch body cs bs rest p q (ungroup_clause (TryBody ∷ bs) (form.Catch x) (body_lines body) (clauses_lines cs) (form.Endtry ∷ []) rest n).1
one_clause (Some x) body cs p q b bs rest in_catch n = below_catch body cs bs rest p q (ungroup_clause (CatchBody ∷ bs) (form.Catch x) (body_lines body) (clauses_lines cs) (form.Endtry ∷ []) rest n).1
one_clause (Some x) body cs p q b bs rest in_all n = absurd (let e : 10 ∷ [] ≡ [] = n.0 in cc)
one_clause None body cs p q b bs rest in_body n = below_all body cs bs rest p q (ungroup_clause (TryBody ∷ bs) form.CatchAll (body_lines body) (clauses_lines cs) (form.Endtry ∷ []) rest n).1
one_clause None body cs p q b bs rest in_catch n = below_all body cs bs rest p q (ungroup_clause (CatchBody ∷ bs) form.CatchAll (body_lines body) (clauses_lines cs) (form.Endtry ∷ []) rest n).1
one_clause None body cs p q b bs rest in_all n = absurd (let e : 10 ∷ [] ≡ [] = n.0 in cc)

keeps_clause : (c : Clause) (cs : List Clause) → KeepsBody c.body → KeepsClauses cs → KeepsClauses (c ∷ cs)
keeps_clause c cs p q = one_clause c.names c.body cs p q

cases : StmtCases Keeps KeepsBody KeepsClauses
cases = record {
  set = keeps_set;
  say = keeps_say;
  if_alone = keeps_if;
  if_else = keeps_else;
  while = keeps_while;
  try_catch = keeps_catch;
  try_finally = keeps_finally;
  raise = keeps_raise;
  reraise = keeps_reraise;
  call = keeps_call;
  return = keeps_return;
  exit = keeps_exit;
  dce = keeps_dce;
  body_end = λ bs rest n. (refl, n);
  body_more = keeps_body;
  clauses_end = no_clause;
  clauses_more = keeps_clause;
}

stmt_keeps : (s : Stmt) → Keeps s
stmt_keeps = stmt_induction Keeps KeepsBody KeepsClauses cases

body_keeps : (body : List Stmt) → KeepsBody body
body_keeps = body_induction Keeps KeepsBody KeepsClauses cases

-- ---- declarations

locals_keep : (locals : List (List ℕ)) (forms : List Form) → Nested (Locals ∷ []) (map (λ (n : List ℕ). form.Local n) locals ++ forms) → Nested (Locals ∷ []) forms
unfolding form_shape blocks_below
locals_keep [] forms n = n
locals_keep (local ∷ locals) forms n = locals_keep locals forms n.1

end_keeps : (body : List Stmt) (rest : List Form) → Nested (after body (Locals ∷ [])) (form.End ∷ rest) → Nested [] rest
unfolding form_shape blocks_below
end_keeps [] rest n = n.1
end_keeps (s ∷ body) rest n = n.1

-- A routine without its parameter has no line of its own, and no statement or `end` stands outside a routine.
unopened : (body : List Stmt) (rest : List Form) → Nested [] ((body_lines body ++ form.End ∷ []) ++ rest) → ⊥
unfolding form_shape blocks_below
unopened [] rest n = absurd (let e : 9 ∷ [] ≡ [] = n.0 in cc)
unopened (s ∷ body) rest n =
    let m = ungroup [] (stmt_lines s ++ body_lines body) (form.End ∷ []) rest n in
    let k = stmt_keeps s [] (body_lines body ++ form.End ∷ rest) (ungroup [] (stmt_lines s) (body_lines body) (form.End ∷ rest) m) in
    absurd (let e : false ≡ true = k.0 in cc)

routine_keeps : (name : NameId) (locals : List (List ℕ)) (body : List Stmt) (rest : List Form) → Nested [] (item_lines (item.Routine (record { name = name; locals = locals; body = body })) ++ rest)
    → (item_nests (item.Routine (record { name = name; locals = locals; body = body })) ≡ true) × Nested [] rest
unfolding form_shape blocks_below
routine_keeps name [] body rest n = absurd (unopened body rest n)
routine_keeps name (parameter ∷ locals) body rest n =
    let m = locals_keep locals ((body_lines body ++ form.End ∷ []) ++ rest) (ungroup (Locals ∷ []) (map (λ (n : List ℕ). form.Local n) locals) (body_lines body ++ form.End ∷ []) rest n.1) in
    let k = body_keeps body (Locals ∷ []) (form.End ∷ rest) (ungroup (Locals ∷ []) (body_lines body) (form.End ∷ []) rest m) in
    (k.0, end_keeps body rest k.1)

item_keeps : (i : Item) (rest : List Form) → Nested [] (item_lines i ++ rest) → (item_nests i ≡ true) × Nested [] rest
unfolding form_shape blocks_below
item_keeps (item.Routine r) rest n = routine_keeps r.name r.locals r.body rest n
item_keeps (item.Interface i) rest n = (refl, n.1)
item_keeps (item.Limit k) rest n = (refl, n.1)
item_keeps (item.Shared name k) rest n = (refl, n.1)
item_keeps (item.Exception name) rest n = (refl, n.1)
item_keeps (item.Status name k) rest n = (refl, n.1)
item_keeps (item.Mutex name) rest n = (refl, n.1)
item_keeps (item.MutexAttr name) rest n = (refl, n.1)
item_keeps (item.Cond name) rest n = (refl, n.1)
item_keeps (item.Attr name) rest n = (refl, n.1)
item_keeps (item.Key name) rest n = (refl, n.1)
item_keeps (item.Once name) rest n = (refl, n.1)
item_keeps (item.Pipe name k) rest n = (refl, n.1)

pub trees_nest : (all : List Item) → Nest [] (map form_shape (items_lines all)) → list_all item_nests all ≡ true
trees_nest [] n = refl
trees_nest (i ∷ all) n =
    let k = item_keeps i (items_lines all) n in
    and_true (item_nests i) (list_all item_nests all) k.0 (trees_nest all k.1)

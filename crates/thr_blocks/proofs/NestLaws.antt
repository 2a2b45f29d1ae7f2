-- The lines of a tree nest.
use Rattle.std.proofs.Common.{◌≡◌, ℕ, Bool, true, false, ◌&&◌, List, [], ◌∷◌, ◌++◌, map, Option, Some, None, refl, sym, ap, subst, ◌∙◌, append_assoc}
use Rattle.std.specs.List.{list_all}
use Rattle.thr_values.specs.declared.number.NameId.{NameId}
use Rattle.thr_syntax.specs.declared.form.Form.{Form}
use Rattle.thr_syntax.specs.declared.form.Form.TheVariants as form
use Rattle.thr_syntax.specs.declared.dce.DceCall.{DceCall}
use Rattle.thr_syntax.specs.declared.expr.Expr.{Expr}
use Rattle.thr_syntax.specs.declared.expr.Var.{Var}
use Rattle.thr_syntax.specs.declared.tree.Clause.{Clause}
use Rattle.thr_syntax.specs.declared.tree.Stmt.{Stmt}
use Rattle.thr_syntax.specs.declared.tree.Stmt.TheVariants as stmt
use Rattle.thr_syntax.specs.declared.tree.Item.{Item}
use Rattle.thr_syntax.specs.declared.tree.Item.TheVariants as item
use Rattle.thr_syntax.specs.Lines.{stmt_step, clause_step, stmt_lines, body_lines, item_lines}
use Rattle.thr_syntax.proofs.TreeInduction.{StmtCases, body_induction}
use Rattle.thr_syntax.proofs.FoldLaws.{each_clause, each_stmt-Set, each_stmt-Say, each_stmt-If, each_stmt-While, each_stmt-TryCatch, each_stmt-TryFinally, each_stmt-Raise, each_stmt-Reraise, each_stmt-Call, each_stmt-Return, each_stmt-Exit, each_stmt-Dce}
use Rattle.thr_text.specs.declared.block.Block.{Block}
use Rattle.thr_text.specs.declared.block.Block.TheVariants.{Locals, Statements, Then, Otherwise, Loop, TryBody, CatchBody, CatchAllBody, FinallyBody}
use Rattle.thr_text.specs.declared.block.Shape.{Shape}
use Rattle.thr_text.specs.declared.block.Shape.TheVariants.{IsPlain, OpensIf, OpensWhile, OpensTry, Returns, Reraises}
use Rattle.thr_text.specs.Blocks.{form_shape, begun, blocks_below, nesting_faults, is_open, Nest}
use Rattle.thr_blocks.specs.Trees.{nests_step, clause_nests_step, clauses_nest, stmt_nests, body_nests, item_nests}
use Rattle.thr_blocks.proofs.Flat.{clauses_lines, items_lines}

pub both : (a b : Bool) → (a && b) ≡ true → (a ≡ true) × (b ≡ true)
both true b e = (refl, e)
both false b e = absurd cc

abbrev pub Nested : List Block → List Form → Type 0
Nested bs forms = Nest bs (map form_shape forms)

-- ---- lines that begin a statement have their place in every block

abbrev Free : Shape → Type 0
Free shape = (b : Block) (bs : List Block) → nesting_faults (b ∷ bs) shape ≡ []

plain_free : Free IsPlain
plain_free Locals bs = refl
plain_free Statements bs = refl
plain_free Then bs = refl
plain_free Otherwise bs = refl
plain_free Loop bs = refl
plain_free TryBody bs = refl
plain_free CatchBody bs = refl
plain_free CatchAllBody bs = refl
plain_free FinallyBody bs = refl

if_free : Free OpensIf
if_free Locals bs = refl
if_free Statements bs = refl
if_free Then bs = refl
if_free Otherwise bs = refl
if_free Loop bs = refl
if_free TryBody bs = refl
if_free CatchBody bs = refl
if_free CatchAllBody bs = refl
if_free FinallyBody bs = refl

while_free : Free OpensWhile
while_free Locals bs = refl
while_free Statements bs = refl
while_free Then bs = refl
while_free Otherwise bs = refl
while_free Loop bs = refl
while_free TryBody bs = refl
while_free CatchBody bs = refl
while_free CatchAllBody bs = refl
while_free FinallyBody bs = refl

try_free : Free OpensTry
try_free Locals bs = refl
try_free Statements bs = refl
try_free Then bs = refl
try_free Otherwise bs = refl
try_free Loop bs = refl
try_free TryBody bs = refl
try_free CatchBody bs = refl
try_free CatchAllBody bs = refl
try_free FinallyBody bs = refl

return_free : Free Returns
return_free Locals bs = refl
return_free Statements bs = refl
return_free Then bs = refl
return_free Otherwise bs = refl
return_free Loop bs = refl
return_free TryBody bs = refl
return_free CatchBody bs = refl
return_free CatchAllBody bs = refl
return_free FinallyBody bs = refl

reraise_free : Free Reraises
reraise_free Locals bs = refl
reraise_free Statements bs = refl
reraise_free Then bs = refl
reraise_free Otherwise bs = refl
reraise_free Loop bs = refl
reraise_free TryBody bs = refl
reraise_free CatchBody bs = refl
reraise_free CatchAllBody bs = refl
reraise_free FinallyBody bs = refl

free_at : (shape : Shape) → Free shape → (bs : List Block) → is_open bs ≡ true → nesting_faults bs shape ≡ []
free_at shape h [] o = absurd cc
free_at shape h (b ∷ bs) o = h b bs

-- ---- the block around, once a statement has begun

begun_twice : (bs : List Block) → begun (begun bs) ≡ begun bs
begun_twice [] = refl
begun_twice (Locals ∷ bs) = refl
begun_twice (Statements ∷ bs) = refl
begun_twice (Then ∷ bs) = refl
begun_twice (Otherwise ∷ bs) = refl
begun_twice (Loop ∷ bs) = refl
begun_twice (TryBody ∷ bs) = refl
begun_twice (CatchBody ∷ bs) = refl
begun_twice (CatchAllBody ∷ bs) = refl
begun_twice (FinallyBody ∷ bs) = refl

begun_is_open : (bs : List Block) → is_open bs ≡ true → is_open (begun bs) ≡ true
begun_is_open [] o = o
begun_is_open (Locals ∷ bs) o = refl
begun_is_open (Statements ∷ bs) o = refl
begun_is_open (Then ∷ bs) o = refl
begun_is_open (Otherwise ∷ bs) o = refl
begun_is_open (Loop ∷ bs) o = refl
begun_is_open (TryBody ∷ bs) o = refl
begun_is_open (CatchBody ∷ bs) o = refl
begun_is_open (CatchAllBody ∷ bs) o = refl
begun_is_open (FinallyBody ∷ bs) o = refl

-- The blocks below these statements.
abbrev pub after : List Stmt → List Block → List Block
after [] bs = bs
after (s ∷ body) bs = begun bs

pub after_begun : (body : List Stmt) (bs : List Block) → after body (begun bs) ≡ begun bs
after_begun [] bs = refl
after_begun (s ∷ body) bs = begun_twice bs

inner : (body : List Stmt) (bs : List Block) (forms : List Form) → begun bs ≡ bs → Nested bs forms → Nested (after body bs) forms
inner [] bs forms e n = n
inner (s ∷ body) bs forms e n = subst (λ (x : List Block). Nested x forms) (sym e) n

-- ---- statements, bodies and clauses

abbrev Passes : Stmt → Type 0
Passes s = stmt_nests s ≡ true → (bs : List Block) (rest : List Form) → is_open bs ≡ true → Nested (begun bs) rest → Nested bs (stmt_lines s ++ rest)

abbrev PassesBody : List Stmt → Type 0
PassesBody body = body_nests body ≡ true → (bs : List Block) (rest : List Form) → is_open bs ≡ true → Nested (after body bs) rest → Nested bs (body_lines body ++ rest)

abbrev pub nests_of : Clause → Bool × Bool
nests_of c = each_clause nests_step clause_nests_step c

-- The first clause, or one after a `catch`.
data CanCatch : Block → Type 0 where
  in_body : CanCatch TryBody
  in_catch : CanCatch CatchBody

abbrev PassesClauses : List Clause → Type 0
PassesClauses cs = clauses_nest (map nests_of cs) ≡ true → (b : Block) (bs : List Block) (rest : List Form) → CanCatch b → Nested bs rest → Nested (b ∷ bs) ((clauses_lines cs ++ form.Endtry ∷ []) ++ rest)

abbrev At : List Block → List Form → List Form → Type 0
At bs rest lines = Nested bs (lines ++ rest)

regroup : (bs : List Block) (xs ys rest : List Form) → Nested bs (xs ++ (ys ++ rest)) → Nested bs ((xs ++ ys) ++ rest)
regroup bs xs ys rest n = subst (Nested bs) (sym (append_assoc xs ys rest)) n

one_line : (s : Stmt) (f : Form) → stmt_lines s ≡ f ∷ [] → Free (form_shape f) → ((bs : List Block) → blocks_below bs (form_shape f) ≡ begun bs) → Passes s
one_line s f e free below h bs rest o n = subst (At bs rest) (sym e) (free_at (form_shape f) free bs o, subst (λ (x : List Block). Nested x rest) (sym (below bs)) n)

passes_set : (v : Var) (e : Expr) → Passes (stmt.Set v e)
unfolding form_shape blocks_below
passes_set v e = one_line (stmt.Set v e) (form.Set v e) (each_stmt-Set stmt_step clause_step v e) plain_free (λ bs. refl)

passes_say : (e : Expr) → Passes (stmt.Say e)
unfolding form_shape blocks_below
passes_say e = one_line (stmt.Say e) (form.Say e) (each_stmt-Say stmt_step clause_step e) plain_free (λ bs. refl)

passes_raise : (x : NameId) → Passes (stmt.Raise x)
unfolding form_shape blocks_below
passes_raise x = one_line (stmt.Raise x) (form.Raise x) (each_stmt-Raise stmt_step clause_step x) plain_free (λ bs. refl)

passes_reraise : Passes stmt.Reraise
unfolding form_shape blocks_below
passes_reraise = one_line stmt.Reraise form.Reraise (each_stmt-Reraise stmt_step clause_step) reraise_free (λ bs. refl)

passes_call : (name : NameId) (e : Expr) (v : Option ℕ) → Passes (stmt.Call name e v)
unfolding form_shape blocks_below
passes_call name e v = one_line (stmt.Call name e v) (form.Call name e v) (each_stmt-Call stmt_step clause_step name e v) plain_free (λ bs. refl)

passes_return : (e : Expr) → Passes (stmt.Return e)
unfolding form_shape blocks_below
passes_return e = one_line (stmt.Return e) (form.Return e) (each_stmt-Return stmt_step clause_step e) return_free (λ bs. refl)

passes_exit : (e : Expr) → Passes (stmt.Exit e)
unfolding form_shape blocks_below
passes_exit e = one_line (stmt.Exit e) (form.Exit e) (each_stmt-Exit stmt_step clause_step e) plain_free (λ bs. refl)

passes_dce : (call : DceCall) → Passes (stmt.Dce call)
unfolding form_shape blocks_below
passes_dce call = one_line (stmt.Dce call) (form.Dce call) (each_stmt-Dce stmt_step clause_step call) plain_free (λ bs. refl)

passes_if : (e : Expr) (body : List Stmt) → PassesBody body → Passes (stmt.If e body None)
unfolding form_shape blocks_below
passes_if e body p h bs rest o n =
    let k : body_nests body ≡ true = sym (each_stmt-If nests_step clause_nests_step e body None) ∙ h in
    subst (At bs rest) (sym (each_stmt-If stmt_step clause_step e body None)) (
      free_at OpensIf if_free bs o,
      regroup (Then ∷ begun bs) (body_lines body) (form.End ∷ []) rest (p k (Then ∷ begun bs) (form.End ∷ rest) refl (inner body (Then ∷ begun bs) (form.End ∷ rest) refl (refl, n))),
    )

passes_else : (e : Expr) (body other : List Stmt) → PassesBody body → PassesBody other → Passes (stmt.If e body (Some other))
unfolding form_shape blocks_below
passes_else e body other p q h bs rest o n =
    let k = both (body_nests body) (body_nests other) (sym (each_stmt-If nests_step clause_nests_step e body (Some other)) ∙ h) in
    subst (At bs rest) (sym (each_stmt-If stmt_step clause_step e body (Some other))) (
      free_at OpensIf if_free bs o,
      regroup (Then ∷ begun bs) (body_lines body) (form.Else ∷ (body_lines other ++ form.End ∷ [])) rest
          (p k.0 (Then ∷ begun bs) (form.Else ∷ ((body_lines other ++ form.End ∷ []) ++ rest)) refl (inner body (Then ∷ begun bs) (form.Else ∷ ((body_lines other ++ form.End ∷ []) ++ rest)) refl (
            refl,
            regroup (Otherwise ∷ begun bs) (body_lines other) (form.End ∷ []) rest (q k.1 (Otherwise ∷ begun bs) (form.End ∷ rest) refl (inner other (Otherwise ∷ begun bs) (form.End ∷ rest) refl (refl, n))),
          ))),
    )

passes_while : (e : Expr) (body : List Stmt) → PassesBody body → Passes (stmt.While e body)
unfolding form_shape blocks_below
passes_while e body p h bs rest o n =
    let k : body_nests body ≡ true = sym (each_stmt-While nests_step clause_nests_step e body) ∙ h in
    subst (At bs rest) (sym (each_stmt-While stmt_step clause_step e body)) (
      free_at OpensWhile while_free bs o,
      regroup (Loop ∷ begun bs) (body_lines body) (form.End ∷ []) rest (p k (Loop ∷ begun bs) (form.End ∷ rest) refl (inner body (Loop ∷ begun bs) (form.End ∷ rest) refl (refl, n))),
    )

passes_finally : (body final : List Stmt) → PassesBody body → PassesBody final → Passes (stmt.TryFinally body final)
unfolding form_shape blocks_below
passes_finally body final p q h bs rest o n =
    let k = both (body_nests body) (body_nests final) (sym (each_stmt-TryFinally nests_step clause_nests_step body final) ∙ h) in
    let end : List Form = form.Endtry ∷ rest in
    subst (At bs rest) (sym (each_stmt-TryFinally stmt_step clause_step body final)) (
      free_at OpensTry try_free bs o,
      regroup (TryBody ∷ begun bs) (body_lines body) (form.Finally ∷ (body_lines final ++ form.Endtry ∷ [])) rest
          (p k.0 (TryBody ∷ begun bs) (form.Finally ∷ ((body_lines final ++ form.Endtry ∷ []) ++ rest)) refl (inner body (TryBody ∷ begun bs) (form.Finally ∷ ((body_lines final ++ form.Endtry ∷ []) ++ rest)) refl (
            refl,
            regroup (FinallyBody ∷ begun bs) (body_lines final) (form.Endtry ∷ []) rest (q k.1 (FinallyBody ∷ begun bs) end refl (inner final (FinallyBody ∷ begun bs) end refl (refl, n))),
          ))),
    )

passes_catch : (body : List Stmt) (cs : List Clause) → PassesBody body → PassesClauses cs → Passes (stmt.TryCatch body cs)
unfolding form_shape blocks_below
passes_catch body cs p q h bs rest o n =
    let k = both (body_nests body) (clauses_nest (map nests_of cs)) (sym (each_stmt-TryCatch nests_step clause_nests_step body cs) ∙ h) in
    subst (At bs rest) (sym (each_stmt-TryCatch stmt_step clause_step body cs)) (
      free_at OpensTry try_free bs o,
      regroup (TryBody ∷ begun bs) (body_lines body) (clauses_lines cs ++ form.Endtry ∷ []) rest
          (p k.0 (TryBody ∷ begun bs) ((clauses_lines cs ++ form.Endtry ∷ []) ++ rest) refl (inner body (TryBody ∷ begun bs) ((clauses_lines cs ++ form.Endtry ∷ []) ++ rest) refl (
          q k.1 TryBody (begun bs) rest in_body n
          ))),
    )

passes_body : (s : Stmt) (body : List Stmt) → Passes s → PassesBody body → PassesBody (s ∷ body)
passes_body s body p q h bs rest o n =
    let k = both (stmt_nests s) (body_nests body) h in
    regroup bs (stmt_lines s) (body_lines body) rest
    (p k.0 bs (body_lines body ++ rest) o (q k.1 (begun bs) rest (begun_is_open bs o) (subst (λ (x : List Block). Nested x rest) (sym (after_begun body bs)) n)))

-- ---- clauses

-- Past the line and the body of a clause.
clause_all : (b : Block) (bs : List Block) (body : List Stmt) (forms : List Form) → CanCatch b → PassesBody body → body_nests body ≡ true → Nested (CatchAllBody ∷ bs) forms
    → Nested (b ∷ bs) (form.CatchAll ∷ (body_lines body ++ forms))
unfolding form_shape blocks_below
clause_all b bs body forms in_body p h n = (refl, p h (CatchAllBody ∷ bs) forms refl (inner body (CatchAllBody ∷ bs) forms refl n))
clause_all b bs body forms in_catch p h n = (refl, p h (CatchAllBody ∷ bs) forms refl (inner body (CatchAllBody ∷ bs) forms refl n))

clause_of : (x : NameId) (b : Block) (bs : List Block) (body : List Stmt) (forms : List Form) → CanCatch b → PassesBody body → body_nests body ≡ true → Nested (CatchBody ∷ bs) forms
    → Nested (b ∷ bs) (form.Catch x ∷ (body_lines body ++ forms))
unfolding form_shape blocks_below
clause_of x b bs body forms in_body p h n = (refl, p h (CatchBody ∷ bs) forms refl (inner body (CatchBody ∷ bs) forms refl n))
clause_of x b bs body forms in_catch p h n = (refl, p h (CatchBody ∷ bs) forms refl (inner body (CatchBody ∷ bs) forms refl n))

abbrev pub clause_with : Option NameId → List Stmt → Clause
clause_with names body = record { names = names; body = body }

regroup_clause : (bs : List Block) (f : Form) (body more end rest : List Form) → Nested bs (f ∷ (body ++ ((more ++ end) ++ rest))) → Nested bs ((((f ∷ body) ++ more) ++ end) ++ rest)
regroup_clause bs f body more end rest n =
    subst (Nested bs) (sym (append_assoc (f ∷ (body ++ more)) end rest ∙ append_assoc (f ∷ body) more (end ++ rest) ∙ ap (λ (zs : List Form). f ∷ (body ++ zs)) (sym (append_assoc more end rest)))) n

last_clause : (names : Option NameId) (body : List Stmt) → PassesBody body → PassesClauses (clause_with names body ∷ [])
unfolding form_shape blocks_below
last_clause None body p h b bs rest c n = regroup_clause (b ∷ bs) form.CatchAll (body_lines body) [] (form.Endtry ∷ []) rest (clause_all b bs body (form.Endtry ∷ rest) c p h (refl, n))
last_clause (Some x) body p h b bs rest c n = regroup_clause (b ∷ bs) (form.Catch x) (body_lines body) [] (form.Endtry ∷ []) rest (clause_of x b bs body (form.Endtry ∷ rest) c p h (refl, n))

next_clause : (names : Option NameId) (body : List Stmt) (d : Clause) (cs : List Clause) → PassesBody body → PassesClauses (d ∷ cs) → PassesClauses (clause_with names body ∷ d ∷ cs)
next_clause None body d cs p q h b bs rest c n = absurd cc
next_clause (Some x) body d cs p q h b bs rest c n =
    let k = both (body_nests body) (clauses_nest (map nests_of (d ∷ cs))) h in
    regroup_clause (b ∷ bs) (form.Catch x) (body_lines body) (clauses_lines (d ∷ cs)) (form.Endtry ∷ []) rest
    (clause_of x b bs body ((clauses_lines (d ∷ cs) ++ form.Endtry ∷ []) ++ rest) c p k.0 (q k.1 CatchBody bs rest in_catch n))

passes_clause : (c : Clause) (cs : List Clause) → PassesBody c.body → PassesClauses cs → PassesClauses (c ∷ cs)
passes_clause c [] p q = last_clause c.names c.body p
passes_clause c (d ∷ cs) p q = next_clause c.names c.body d cs p q

cases : StmtCases Passes PassesBody PassesClauses
cases = record {
  set = passes_set;
  say = passes_say;
  if_alone = passes_if;
  if_else = passes_else;
  while = passes_while;
  try_catch = passes_catch;
  try_finally = passes_finally;
  raise = passes_raise;
  reraise = passes_reraise;
  call = passes_call;
  return = passes_return;
  exit = passes_exit;
  dce = passes_dce;
  body_end = λ h bs rest o n. n;
  body_more = passes_body;
  clauses_end = λ h b bs rest c n. absurd cc;
  clauses_more = passes_clause;
}

body_passes : (body : List Stmt) → PassesBody body
body_passes = body_induction Passes PassesBody PassesClauses cases

-- ---- declarations

locals_pass : (locals : List (List ℕ)) (forms : List Form) → Nested (Locals ∷ []) forms → Nested (Locals ∷ []) (map (λ (n : List ℕ). form.Local n) locals ++ forms)
unfolding form_shape blocks_below
locals_pass [] forms n = n
locals_pass (local ∷ locals) forms n = (refl, locals_pass locals forms n)

end_after : (body : List Stmt) (rest : List Form) → Nested [] rest → Nested (after body (Locals ∷ [])) (form.End ∷ rest)
unfolding form_shape blocks_below
end_after [] rest n = (refl, n)
end_after (s ∷ body) rest n = (refl, n)

routine_passes : (name : NameId) (locals : List (List ℕ)) (body : List Stmt) (rest : List Form) → item_nests (item.Routine (record { name = name; locals = locals; body = body })) ≡ true → Nested [] rest
    → Nested [] (item_lines (item.Routine (record { name = name; locals = locals; body = body })) ++ rest)
unfolding form_shape blocks_below
routine_passes name [] body rest h n = absurd cc
routine_passes name (parameter ∷ locals) body rest h n = (
  refl,
  regroup (Locals ∷ []) (map (λ (n : List ℕ). form.Local n) locals) (body_lines body ++ form.End ∷ []) rest
      (locals_pass locals ((body_lines body ++ form.End ∷ []) ++ rest) (regroup (Locals ∷ []) (body_lines body) (form.End ∷ []) rest (body_passes body h (Locals ∷ []) (form.End ∷ rest) refl (end_after body rest n)))),
)

item_passes : (i : Item) (rest : List Form) → item_nests i ≡ true → Nested [] rest → Nested [] (item_lines i ++ rest)
unfolding form_shape blocks_below
item_passes (item.Routine r) rest h n = routine_passes r.name r.locals r.body rest h n
item_passes (item.Interface i) rest h n = (refl, n)
item_passes (item.Limit k) rest h n = (refl, n)
item_passes (item.Shared name k) rest h n = (refl, n)
item_passes (item.Exception name) rest h n = (refl, n)
item_passes (item.Status name k) rest h n = (refl, n)
item_passes (item.Mutex name) rest h n = (refl, n)
item_passes (item.MutexAttr name) rest h n = (refl, n)
item_passes (item.Cond name) rest h n = (refl, n)
item_passes (item.Attr name) rest h n = (refl, n)
item_passes (item.Key name) rest h n = (refl, n)
item_passes (item.Once name) rest h n = (refl, n)
item_passes (item.Pipe name k) rest h n = (refl, n)

pub lines_nest : (all : List Item) → list_all item_nests all ≡ true → Nest [] (map form_shape (items_lines all))
lines_nest [] h = refl
lines_nest (i ∷ all) h =
    let k = both (item_nests i) (list_all item_nests all) h in
    item_passes i (items_lines all) k.0 (lines_nest all k.1)

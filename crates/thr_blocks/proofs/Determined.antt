-- Lines that nest are the lines of one list of declarations at most.
use Rattle.std.proofs.Common.{◌≡◌, ℕ, List, [], ◌∷◌, ◌++◌, map, fold, Option, Some, None, sym, ap, subst, ◌∙◌}
use Rattle.thr_values.specs.declared.number.NameId.{NameId}
use Rattle.thr_syntax.specs.declared.dce.DceCall.{DceCall}
use Rattle.thr_syntax.specs.declared.expr.Expr.{Expr}
use Rattle.thr_syntax.specs.declared.expr.Var.{Var}
use Rattle.thr_syntax.specs.declared.form.Form.{Form}
use Rattle.thr_syntax.specs.declared.form.Form.TheVariants as form
use Rattle.thr_syntax.specs.declared.tree.Clause.{Clause}
use Rattle.thr_syntax.specs.declared.tree.Stmt.{Stmt}
use Rattle.thr_syntax.specs.declared.tree.Item.{Item}
use Rattle.thr_syntax.specs.declared.tree.Item.TheVariants as item
use Rattle.thr_syntax.specs.Lines.{stmt_step, clause_step, stmt_lines, body_lines, item_lines}
use Rattle.thr_syntax.proofs.TreeInduction.{StmtCases, stmt_induction}
use Rattle.thr_syntax.proofs.FoldLaws.{each_stmt-Set, each_stmt-Say, each_stmt-If, each_stmt-While, each_stmt-TryCatch, each_stmt-TryFinally, each_stmt-Raise, each_stmt-Reraise, each_stmt-Call, each_stmt-Return, each_stmt-Exit, each_stmt-Dce}
use Rattle.thr_text.specs.declared.block.Block.{Block}
use Rattle.thr_text.specs.Blocks.{form_shape, Nest}
use Rattle.thr_blocks.specs.Build.{Building, put, built}
use Rattle.thr_blocks.proofs.Flat.{items_lines, blocks_of, IsNamed}
use Rattle.thr_blocks.proofs.PutLaws.{HasPlace, Puts, puts}
use Rattle.thr_blocks.proofs.AgainLaws.{IsWhole, AreWhole, built_item, again}

-- A statement begins with a line that has no place outside routines.
abbrev Starts : Stmt → Type 0
Starts s = (f : Form) × (more : List Form) × (stmt_lines s ≡ f ∷ more) × (HasPlace [] f → ⊥)

starts_set : (v : Var) (e : Expr) → HasPlace [] (form.Set v e) → ⊥
unfolding form_shape
starts_set v e h = cc

starts_say : (e : Expr) → HasPlace [] (form.Say e) → ⊥
unfolding form_shape
starts_say e h = cc

starts_if : (e : Expr) → HasPlace [] (form.If e) → ⊥
unfolding form_shape
starts_if e h = cc

starts_while : (e : Expr) → HasPlace [] (form.While e) → ⊥
unfolding form_shape
starts_while e h = cc

starts_try : HasPlace [] form.Try → ⊥
unfolding form_shape
starts_try h = cc

starts_raise : (x : NameId) → HasPlace [] (form.Raise x) → ⊥
unfolding form_shape
starts_raise x h = cc

starts_reraise : HasPlace [] form.Reraise → ⊥
unfolding form_shape
starts_reraise h = cc

starts_call : (name : NameId) (e : Expr) (v : Option ℕ) → HasPlace [] (form.Call name e v) → ⊥
unfolding form_shape
starts_call name e v h = cc

starts_return : (e : Expr) → HasPlace [] (form.Return e) → ⊥
unfolding form_shape
starts_return e h = cc

starts_exit : (e : Expr) → HasPlace [] (form.Exit e) → ⊥
unfolding form_shape
starts_exit e h = cc

starts_dce : (call : DceCall) → HasPlace [] (form.Dce call) → ⊥
unfolding form_shape
starts_dce call h = cc

cases : StmtCases Starts (λ (body : List Stmt). Unit {0}) (λ (clauses : List Clause). Unit {0})
cases = record {
  set = λ v e. (form.Set v e, [], each_stmt-Set stmt_step clause_step v e, starts_set v e);
  say = λ e. (form.Say e, [], each_stmt-Say stmt_step clause_step e, starts_say e);
  if_alone = λ e b h. (form.If e, _, each_stmt-If stmt_step clause_step e b None, starts_if e);
  if_else = λ e b c h k. (form.If e, _, each_stmt-If stmt_step clause_step e b (Some c), starts_if e);
  while = λ e b h. (form.While e, _, each_stmt-While stmt_step clause_step e b, starts_while e);
  try_catch = λ b cs h k. (form.Try, _, each_stmt-TryCatch stmt_step clause_step b cs, starts_try);
  try_finally = λ b c h k. (form.Try, _, each_stmt-TryFinally stmt_step clause_step b c, starts_try);
  raise = λ x. (form.Raise x, [], each_stmt-Raise stmt_step clause_step x, starts_raise x);
  reraise = (form.Reraise, [], each_stmt-Reraise stmt_step clause_step, starts_reraise);
  call = λ name e v. (form.Call name e v, [], each_stmt-Call stmt_step clause_step name e v, starts_call name e v);
  return = λ e. (form.Return e, [], each_stmt-Return stmt_step clause_step e, starts_return e);
  exit = λ e. (form.Exit e, [], each_stmt-Exit stmt_step clause_step e, starts_exit e);
  dce = λ call. (form.Dce call, [], each_stmt-Dce stmt_step clause_step call, starts_dce call);
  body_end = tt;
  body_more = λ s ss h k. tt;
  clauses_end = tt;
  clauses_more = λ c cs h k. tt;
}

starts : (s : Stmt) → Starts s
starts = stmt_induction Starts (λ (body : List Stmt). Unit {0}) (λ (clauses : List Clause). Unit {0}) cases

no_end : HasPlace [] form.End → ⊥
unfolding form_shape
no_end h = cc

-- The lines of a body, with an end and more behind them, don't nest outside routines.
bare_body : (body : List Stmt) (rest : List Form) → Nest [] (map form_shape ((body_lines body ++ form.End ∷ []) ++ rest)) → ⊥
bare_body [] rest n = no_end n.0
bare_body (s ∷ body) rest n =
    let t : Starts s = starts s in
    t.3 (subst (λ (zs : List Form). Nest [] (map form_shape (((zs ++ body_lines body) ++ form.End ∷ []) ++ rest))) t.2 n).0

whole_routine : (name : NameId) (locals : List (List ℕ)) (body : List Stmt) (rest : List Form)
    → Nest [] (map form_shape (item_lines (item.Routine (record { name = name; locals = locals; body = body })) ++ rest)) → IsWhole (item.Routine (record { name = name; locals = locals; body = body }))
whole_routine name [] body rest n = absurd (bare_body body rest n)
whole_routine name (parameter ∷ locals) body rest n = tt

whole_item : (i : Item) (rest : List Form) → Nest [] (map form_shape (item_lines i ++ rest)) → IsWhole i
whole_item (item.Routine r) rest n = whole_routine r.name r.locals r.body rest n
whole_item (item.Interface i) rest n = tt
whole_item (item.Limit k) rest n = tt
whole_item (item.Shared name k) rest n = tt
whole_item (item.Exception name) rest n = tt
whole_item (item.Status name k) rest n = tt
whole_item (item.Mutex name) rest n = tt
whole_item (item.MutexAttr name) rest n = tt
whole_item (item.Cond name) rest n = tt
whole_item (item.Attr name) rest n = tt
whole_item (item.Key name) rest n = tt
whole_item (item.Once name) rest n = tt
whole_item (item.Pipe name k) rest n = tt

-- Lines that nest, past some of them.
nest_after : (xs ys : List Form) (h : Building) → IsNamed h.1 → Nest (blocks_of h.1) (map form_shape (xs ++ ys)) → Nest (blocks_of (fold put h xs).1) (map form_shape ys)
nest_after [] ys h q n = n
nest_after (f ∷ xs) ys h q n =
    let p : Puts h (put h f) f = puts h.0 h.1 f q n.0 in
    nest_after xs ys (put h f) p.named (subst (λ (bs : List Block). Nest bs (map form_shape (xs ++ ys))) (sym p.blocks) n.1)

pub whole_items : (all : List Item) → Nest [] (map form_shape (items_lines all)) → AreWhole all
whole_items [] n = tt
whole_items (i ∷ all) n =
    let q : IsWhole i = whole_item i (items_lines all) n in
    (q, whole_items all (subst (λ (h : Building). Nest (blocks_of h.1) (map form_shape (items_lines all))) (built_item i [] q) (nest_after (item_lines i) (items_lines all) ([], None) tt n)))

pub determined : (xs ys : List Item) → Nest [] (map form_shape (items_lines xs)) → items_lines xs ≡ items_lines ys → xs ≡ ys
determined xs ys n same =
    let of_xs : built (items_lines xs) ≡ (xs, None) = again xs (whole_items xs n) in
    let of_ys : built (items_lines ys) ≡ (ys, None) = again ys (whole_items ys (subst (λ (ls : List Form). Nest [] (map form_shape ls)) same n)) in
    ap (λ (h : Building). h.0) (sym of_xs ∙ ap built same ∙ of_ys)

-- the lines of declarations build them again
pub built_again : (forms : List Form) (xs : List Item) → Nest [] (map form_shape forms) → items_lines xs ≡ forms → (built forms).0 ≡ xs
built_again forms xs n same =
    let of_xs : built (items_lines xs) ≡ (xs, None) = again xs (whole_items xs (subst (λ (ls : List Form). Nest [] (map form_shape ls)) (sym same) n)) in
    ap (λ (h : Building). h.0) (ap built (sym same) ∙ of_xs)

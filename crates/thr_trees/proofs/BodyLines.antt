-- The lines of a body declare nothing and bring in no local.
use Rattle.std.proofs.Common.{◌≡◌, ℕ, Bool, true, false, List, [], ◌∷◌, ◌++◌, map, Option, Some, None, refl, sym, subst, ◌∙◌}
use Rattle.std.specs.Prelude.{◌&&◌}
use Rattle.std.specs.List.{list_all}
use Rattle.std.proofs.lemmas.List.Folds.{list_all-append}
use Rattle.thr_values.specs.declared.number.NameId.{NameId}
use Rattle.thr_syntax.specs.declared.expr.Expr.{Expr}
use Rattle.thr_syntax.specs.declared.form.Form.{Form}
use Rattle.thr_syntax.specs.declared.form.Form.TheVariants as form
use Rattle.thr_syntax.specs.declared.tree.Clause.{Clause}
use Rattle.thr_syntax.specs.declared.tree.Stmt.{Stmt}
use Rattle.thr_syntax.specs.declared.tree.Stmt.TheVariants as stmt
use Rattle.thr_syntax.specs.Lines.{joined, stmt_step, clause_step, clause_form, stmt_lines, body_lines}
use Rattle.thr_syntax.proofs.TreeInduction.{StmtCases, body_induction}
use Rattle.thr_syntax.proofs.FoldLaws.{each_clause, each_stmt-Set, each_stmt-Say, each_stmt-If, each_stmt-While, each_stmt-TryCatch, each_stmt-TryFinally, each_stmt-Raise, each_stmt-Reraise, each_stmt-Call, each_stmt-Return, each_stmt-Exit, each_stmt-Dce}
use Rattle.thr_reading.specs.Running.{locals_after_form}
use Rattle.thr_trees.specs.Names.{declared_in}

-- The line is that of a statement, of a clause, or closes a block.
abbrev pub is_inner : Form → Bool
is_inner form.Header = false
is_inner (form.Interface i) = false
is_inner (form.Limit n) = false
is_inner (form.Shared name n) = false
is_inner (form.Exception name) = false
is_inner (form.Status name n) = false
is_inner (form.Mutex name) = false
is_inner (form.MutexAttr name) = false
is_inner (form.Cond name) = false
is_inner (form.Attr name) = false
is_inner (form.Key name) = false
is_inner (form.Once name) = false
is_inner (form.Pipe name n) = false
is_inner (form.Routine name parameter) = false
is_inner (form.Local name) = false
is_inner _ = true

abbrev pub AreInner : List Form → Type 0
AreInner fs = list_all is_inner fs ≡ true

pub inner_append : (xs ys : List Form) → AreInner xs → AreInner ys → AreInner (xs ++ ys)
inner_append xs ys h k = list_all-append is_inner xs ys ∙ rw (h, k) refl

inner_more : (f : Form) (fs : List Form) → is_inner f ≡ true → AreInner fs → AreInner (f ∷ fs)
inner_more f fs h k = rw (h, k) refl

clause_inner : (names : Option NameId) → is_inner (clause_form names) ≡ true
clause_inner None = refl
clause_inner (Some x) = refl

abbrev StmtInner : Stmt → Type 0
StmtInner s = AreInner (stmt_lines s)

abbrev BodyInner : List Stmt → Type 0
BodyInner body = AreInner (joined (map stmt_lines body))

abbrev ClausesInner : List Clause → Type 0
ClausesInner clauses = AreInner (joined (map (each_clause stmt_step clause_step) clauses))

by_step : (s : Stmt) (fs : List Form) → stmt_lines s ≡ fs → AreInner fs → StmtInner s
by_step s fs is h = subst AreInner (sym is) h

if_alone : (e : Expr) (body : List Stmt) → BodyInner body → StmtInner (stmt.If e body None)
if_alone e body b =
    by_step (stmt.If e body None) (form.If e ∷ (joined (map stmt_lines body) ++ form.End ∷ [])) (each_stmt-If stmt_step clause_step e body None) (inner_append (joined (map stmt_lines body)) (form.End ∷ []) b refl)

if_else : (e : Expr) (body other : List Stmt) → BodyInner body → BodyInner other → StmtInner (stmt.If e body (Some other))
if_else e body other b o =
    by_step (stmt.If e body (Some other)) (form.If e ∷ (joined (map stmt_lines body) ++ ((form.Else ∷ joined (map stmt_lines other)) ++ form.End ∷ []))) (each_stmt-If stmt_step clause_step e body (Some other))
    (inner_append (joined (map stmt_lines body)) ((form.Else ∷ joined (map stmt_lines other)) ++ form.End ∷ []) b (inner_append (form.Else ∷ joined (map stmt_lines other)) (form.End ∷ []) o refl))

while_inner : (e : Expr) (body : List Stmt) → BodyInner body → StmtInner (stmt.While e body)
while_inner e body b =
    by_step (stmt.While e body) (form.While e ∷ (joined (map stmt_lines body) ++ form.End ∷ [])) (each_stmt-While stmt_step clause_step e body) (inner_append (joined (map stmt_lines body)) (form.End ∷ []) b refl)

try_catch : (body : List Stmt) (clauses : List Clause) → BodyInner body → ClausesInner clauses → StmtInner (stmt.TryCatch body clauses)
try_catch body clauses b c =
    let cs = joined (map (each_clause stmt_step clause_step) clauses) in
    by_step (stmt.TryCatch body clauses) (form.Try ∷ (joined (map stmt_lines body) ++ (cs ++ form.Endtry ∷ []))) (each_stmt-TryCatch stmt_step clause_step body clauses)
    (inner_append (joined (map stmt_lines body)) (cs ++ form.Endtry ∷ []) b (inner_append cs (form.Endtry ∷ []) c refl))

try_finally : (body final : List Stmt) → BodyInner body → BodyInner final → StmtInner (stmt.TryFinally body final)
try_finally body final b f =
    by_step (stmt.TryFinally body final) (form.Try ∷ (joined (map stmt_lines body) ++ form.Finally ∷ (joined (map stmt_lines final) ++ form.Endtry ∷ []))) (each_stmt-TryFinally stmt_step clause_step body final)
    (inner_append (joined (map stmt_lines body)) (form.Finally ∷ (joined (map stmt_lines final) ++ form.Endtry ∷ [])) b (inner_append (joined (map stmt_lines final)) (form.Endtry ∷ []) f refl))

cases : StmtCases StmtInner BodyInner ClausesInner
cases = record {
  set = λ v e. by_step (stmt.Set v e) (form.Set v e ∷ []) (each_stmt-Set stmt_step clause_step v e) refl;
  say = λ e. by_step (stmt.Say e) (form.Say e ∷ []) (each_stmt-Say stmt_step clause_step e) refl;
  if_alone = if_alone;
  if_else = if_else;
  while = while_inner;
  try_catch = try_catch;
  try_finally = try_finally;
  raise = λ x. by_step (stmt.Raise x) (form.Raise x ∷ []) (each_stmt-Raise stmt_step clause_step x) refl;
  reraise = by_step stmt.Reraise (form.Reraise ∷ []) (each_stmt-Reraise stmt_step clause_step) refl;
  call = λ name e v. by_step (stmt.Call name e v) (form.Call name e v ∷ []) (each_stmt-Call stmt_step clause_step name e v) refl;
  return = λ e. by_step (stmt.Return e) (form.Return e ∷ []) (each_stmt-Return stmt_step clause_step e) refl;
  exit = λ e. by_step (stmt.Exit e) (form.Exit e ∷ []) (each_stmt-Exit stmt_step clause_step e) refl;
  dce = λ call. by_step (stmt.Dce call) (form.Dce call ∷ []) (each_stmt-Dce stmt_step clause_step call) refl;
  body_end = refl;
  body_more = λ s body p b. inner_append (stmt_lines s) (joined (map stmt_lines body)) p b;
  clauses_end = refl;
  clauses_more = λ c clauses b more. inner_append (clause_form c.names ∷ joined (map stmt_lines c.body)) (joined (map (each_clause stmt_step clause_step) clauses)) (inner_more (clause_form c.names) (joined (map stmt_lines c.body)) (clause_inner c.names) b) more;
}

pub body_inner : (body : List Stmt) → AreInner (body_lines body)
body_inner = body_induction StmtInner BodyInner ClausesInner cases

-- A body and the line that closes it.
pub closed_inner : (body : List Stmt) → AreInner (body_lines body ++ form.End ∷ [])
closed_inner body = inner_append (body_lines body) (form.End ∷ []) (body_inner body) refl

-- ---- what such a line doesn't do

pub inner_declares : (f : Form) → is_inner f ≡ true → declared_in f ≡ []
inner_declares form.Header h = refl
inner_declares (form.Interface i) h = refl
inner_declares (form.Limit n) h = refl
inner_declares (form.Shared name n) h = absurd cc
inner_declares (form.Exception name) h = absurd cc
inner_declares (form.Status name n) h = absurd cc
inner_declares (form.Mutex name) h = absurd cc
inner_declares (form.MutexAttr name) h = absurd cc
inner_declares (form.Cond name) h = absurd cc
inner_declares (form.Attr name) h = absurd cc
inner_declares (form.Key name) h = absurd cc
inner_declares (form.Once name) h = absurd cc
inner_declares (form.Pipe name n) h = absurd cc
inner_declares (form.Routine name parameter) h = absurd cc
inner_declares (form.Local name) h = refl
inner_declares _ h = refl

pub inner_stays : (locals : List (List ℕ)) (f : Form) → is_inner f ≡ true → locals_after_form locals f ≡ locals
inner_stays locals (form.Routine name parameter) h = absurd cc
inner_stays locals (form.Local name) h = absurd cc
inner_stays locals _ h = refl

pub first_inner : (f : Form) (fs : List Form) → AreInner (f ∷ fs) → (is_inner f ≡ true) × AreInner fs
first_inner f fs h = both (is_inner f) (list_all is_inner fs) h
  where
    both : (a b : Bool) → (a && b) ≡ true → (a ≡ true) × (b ≡ true)
    both true b e = (refl, e)
    both false b e = absurd cc

-- No line of a declaration is the first line of a script.
use Rattle.std.proofs.Common.{◌≡◌, ℕ, true, List, [], ◌∷◌, ◌++◌, map, Some, None, refl, sym, subst, ◌∙◌}
use Rattle.std.specs.List.{list_all}
use Rattle.std.proofs.lemmas.List.Folds.{list_all-append}
use Rattle.thr_values.specs.declared.number.NameId.{NameId}
use Rattle.thr_syntax.specs.declared.form.Form.{Form}
use Rattle.thr_syntax.specs.declared.form.Form.TheVariants as form
use Rattle.thr_syntax.specs.declared.expr.Expr.{Expr}
use Rattle.thr_syntax.specs.declared.tree.Clause.{Clause}
use Rattle.thr_syntax.specs.declared.tree.Stmt.{Stmt}
use Rattle.thr_syntax.specs.declared.tree.Stmt.TheVariants as stmt
use Rattle.thr_syntax.specs.declared.tree.Item.{Item}
use Rattle.thr_syntax.specs.declared.tree.Item.TheVariants as item
use Rattle.thr_syntax.specs.Lines.{joined, stmt_step, clause_step, clause_form, stmt_lines, body_lines, head_lines, item_lines}
use Rattle.thr_syntax.proofs.TreeInduction.{StmtCases, body_induction}
use Rattle.thr_syntax.proofs.FoldLaws.{each_clause, each_stmt-Set, each_stmt-Say, each_stmt-If, each_stmt-While, each_stmt-TryCatch, each_stmt-TryFinally, each_stmt-Raise, each_stmt-Reraise, each_stmt-Call, each_stmt-Return, each_stmt-Exit, each_stmt-Dce}
use Rattle.thr_syntax.specs.Spelling.{Scope, form_words}
use Rattle.thr_text.specs.Heads.{head_word}
use Rattle.thr_text.specs.Lexing.{word_of}
use Rattle.thr_text.specs.Slots.{slots_of}
use Rattle.thr_blocks.specs.Build.{is_own}
use Rattle.thr_resolving.proofs.Parts.{form_head, form_values, words_in_slots}
use Rattle.thr_resolving.proofs.FormTables.{spelled}

abbrev AreOwn : List Form → Type 0
AreOwn fs = list_all is_own fs ≡ true

own_append : (xs ys : List Form) → AreOwn xs → AreOwn ys → AreOwn (xs ++ ys)
own_append xs ys h k = list_all-append is_own xs ys ∙ rw (h, k) refl

own_more : (f : Form) (fs : List Form) → is_own f ≡ true → AreOwn fs → AreOwn (f ∷ fs)
own_more f fs h k = rw (h, k) refl

clause_own : (names : _) → is_own (clause_form names) ≡ true
clause_own None = refl
clause_own (Some x) = refl

abbrev P : Stmt → Type 0
P s = AreOwn (stmt_lines s)

abbrev B : List Stmt → Type 0
B body = AreOwn (joined (map stmt_lines body))

abbrev C : List Clause → Type 0
C clauses = AreOwn (joined (map (each_clause stmt_step clause_step) clauses))

by_step : (s : Stmt) (fs : List Form) → stmt_lines s ≡ fs → AreOwn fs → P s
by_step s fs is h = subst AreOwn (sym is) h

if_alone : (e : Expr) (body : List Stmt) → B body → P (stmt.If e body None)
if_alone e body b = by_step (stmt.If e body None) (form.If e ∷ (joined (map stmt_lines body) ++ form.End ∷ [])) (each_stmt-If stmt_step clause_step e body None) (own_append (joined (map stmt_lines body)) (form.End ∷ []) b refl)

if_else : (e : Expr) (body other : List Stmt) → B body → B other → P (stmt.If e body (Some other))
if_else e body other b o =
    by_step (stmt.If e body (Some other)) (form.If e ∷ (joined (map stmt_lines body) ++ ((form.Else ∷ joined (map stmt_lines other)) ++ form.End ∷ []))) (each_stmt-If stmt_step clause_step e body (Some other))
    (own_append (joined (map stmt_lines body)) ((form.Else ∷ joined (map stmt_lines other)) ++ form.End ∷ []) b (own_append (form.Else ∷ joined (map stmt_lines other)) (form.End ∷ []) o refl))

while_own : (e : Expr) (body : List Stmt) → B body → P (stmt.While e body)
while_own e body b = by_step (stmt.While e body) (form.While e ∷ (joined (map stmt_lines body) ++ form.End ∷ [])) (each_stmt-While stmt_step clause_step e body) (own_append (joined (map stmt_lines body)) (form.End ∷ []) b refl)

try_catch : (body : List Stmt) (clauses : List Clause) → B body → C clauses → P (stmt.TryCatch body clauses)
try_catch body clauses b c =
    let cs = joined (map (each_clause stmt_step clause_step) clauses) in
    by_step (stmt.TryCatch body clauses) (form.Try ∷ (joined (map stmt_lines body) ++ (cs ++ form.Endtry ∷ []))) (each_stmt-TryCatch stmt_step clause_step body clauses)
    (own_append (joined (map stmt_lines body)) (cs ++ form.Endtry ∷ []) b (own_append cs (form.Endtry ∷ []) c refl))

try_finally : (body final : List Stmt) → B body → B final → P (stmt.TryFinally body final)
try_finally body final b f =
    by_step (stmt.TryFinally body final) (form.Try ∷ (joined (map stmt_lines body) ++ form.Finally ∷ (joined (map stmt_lines final) ++ form.Endtry ∷ []))) (each_stmt-TryFinally stmt_step clause_step body final)
    (own_append (joined (map stmt_lines body)) (form.Finally ∷ (joined (map stmt_lines final) ++ form.Endtry ∷ [])) b (own_append (joined (map stmt_lines final)) (form.Endtry ∷ []) f refl))

cases : StmtCases P B C
cases = record {
  set = λ v e. by_step (stmt.Set v e) (form.Set v e ∷ []) (each_stmt-Set stmt_step clause_step v e) refl;
  say = λ e. by_step (stmt.Say e) (form.Say e ∷ []) (each_stmt-Say stmt_step clause_step e) refl;
  if_alone = if_alone;
  if_else = if_else;
  while = while_own;
  try_catch = try_catch;
  try_finally = try_finally;
  raise = λ x. by_step (stmt.Raise x) (form.Raise x ∷ []) (each_stmt-Raise stmt_step clause_step x) refl;
  reraise = by_step stmt.Reraise (form.Reraise ∷ []) (each_stmt-Reraise stmt_step clause_step) refl;
  call = λ name e v. by_step (stmt.Call name e v) (form.Call name e v ∷ []) (each_stmt-Call stmt_step clause_step name e v) refl;
  return = λ e. by_step (stmt.Return e) (form.Return e ∷ []) (each_stmt-Return stmt_step clause_step e) refl;
  exit = λ e. by_step (stmt.Exit e) (form.Exit e ∷ []) (each_stmt-Exit stmt_step clause_step e) refl;
  dce = λ call. by_step (stmt.Dce call) (form.Dce call ∷ []) (each_stmt-Dce stmt_step clause_step call) refl;
  body_end = refl;
  body_more = λ s body p b. own_append (stmt_lines s) (joined (map stmt_lines body)) p b;
  clauses_end = refl;
  clauses_more = λ c clauses b more. own_append (clause_form c.names ∷ joined (map stmt_lines c.body)) (joined (map (each_clause stmt_step clause_step) clauses)) (own_more (clause_form c.names) (joined (map stmt_lines c.body)) (clause_own c.names) b) more;
}

body_own : (body : List Stmt) → AreOwn (body_lines body)
body_own body = body_induction P B C cases body

locals_own : (locals : List (List ℕ)) → AreOwn (map (λ (n : List ℕ). form.Local n) locals)
locals_own [] = refl
locals_own (n ∷ locals) = locals_own locals

head_own : (name : NameId) (locals : List (List ℕ)) → AreOwn (head_lines name locals)
head_own name [] = refl
head_own name (parameter ∷ locals) = locals_own locals

pub item_own : (i : Item) → AreOwn (item_lines i)
item_own (item.Routine r) = own_append (head_lines r.name r.locals) (body_lines r.body ++ form.End ∷ []) (head_own r.name r.locals) (own_append (body_lines r.body) (form.End ∷ []) (body_own r.body) refl)
item_own (item.Interface i) = refl
item_own (item.Limit n) = refl
item_own (item.Shared name n) = refl
item_own (item.Exception name) = refl
item_own (item.Status name n) = refl
item_own (item.Mutex name) = refl
item_own (item.MutexAttr name) = refl
item_own (item.Cond name) = refl
item_own (item.Attr name) = refl
item_own (item.Key name) = refl
item_own (item.Once name) = refl
item_own (item.Pipe name n) = refl

pub items_own : (items : List Item) → AreOwn (joined (map item_lines items))
items_own [] = refl
items_own (i ∷ items) = own_append (item_lines i) (joined (map item_lines items)) (item_own i) (items_own items)

pub no_header : (f : Form) → is_own f ≡ true → f ≡ form.Header → ⊥
no_header f h e = let k : is_own form.Header ≡ true = subst (λ (g : Form). is_own g ≡ true) e h in cc

-- ---- each line has words

some_texts : (ts : List (List ℕ)) (t : List ℕ) (more : List (List ℕ)) → ts ≡ t ∷ more → map word_of ts ≡ [] → ⊥
some_texts [] t more is e = cc
some_texts (u ∷ ts) t more is e = absurd cc

pub some_words : (scope : Scope) (f : Form) → (f ≡ form.Header → ⊥) → map word_of (form_words scope f) ≡ [] → ⊥
some_words scope f own = some_texts (form_words scope f) (head_word (form_head f)) (words_in_slots scope (slots_of (form_head f)) (form_values f)) (spelled scope f own)

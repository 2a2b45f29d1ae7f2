-- Lines are spelled with the locals in force at them as with all the locals of their routine.
use Rattle.std.proofs.Common.{◌≡◌, ℕ, true, List, [], ◌∷◌, ◌++◌, map, Option, Some, None, refl, sym, ap, subst, ◌∙◌, append_assoc}
use Rattle.std.specs.List.{list_all}
use Rattle.std.proofs.lemmas.List.{append-nil, map-append}
use Rattle.thr_values.specs.declared.number.NameId.{NameId}
use Rattle.thr_syntax.specs.declared.form.Form.{Form}
use Rattle.thr_syntax.specs.declared.form.Form.TheVariants as form
use Rattle.thr_syntax.specs.declared.tree.Clause.{Clause}
use Rattle.thr_syntax.specs.declared.tree.Stmt.{Stmt}
use Rattle.thr_syntax.specs.declared.tree.Stmt.TheVariants as stmt
use Rattle.thr_syntax.specs.declared.tree.Item.{Item}
use Rattle.thr_syntax.specs.declared.tree.Item.TheVariants as item
use Rattle.thr_syntax.specs.Lines.{joined, stmt_step, clause_form, clause_step, stmt_lines, body_lines, item_lines}
use Rattle.thr_syntax.specs.Spelling.{form_words}
use Rattle.thr_syntax.specs.Canon.{item_words}
use Rattle.thr_syntax.proofs.TreeInduction.{StmtCases, body_induction}
use Rattle.thr_syntax.proofs.FoldLaws.{each_stmt-Set, each_stmt-Say, each_stmt-If, each_stmt-While, each_stmt-TryCatch, each_stmt-TryFinally, each_stmt-Raise, each_stmt-Reraise, each_stmt-Call, each_stmt-Return, each_stmt-Exit, each_stmt-Dce}
use Rattle.thr_blocks.specs.Trees.{item_nests}
use Rattle.thr_blocks.proofs.Flat.{clauses_lines}
use Rattle.thr_blocks.proofs.NestLaws.{both}
use Rattle.thr_resolving.specs.Resolving.{scope_of}
use Rattle.thr_reading.specs.Running.{locals_after_form, spelled_lines}

-- ---- lines that leave the locals as they are

abbrev Stays : Form → Type 0
Stays f = (locals : List (List ℕ)) → locals_after_form locals f ≡ locals

abbrev AllStay : List Form → Type 0
AllStay [] = Unit {0}
AllStay (f ∷ fs) = Stays f × AllStay fs

both_stay : (xs ys : List Form) → AllStay xs → AllStay ys → AllStay (xs ++ ys)
both_stay [] ys h k = k
both_stay (f ∷ xs) ys h k = (h.0, both_stay xs ys h.1 k)

clause_stays : (names : Option NameId) → Stays (clause_form names)
clause_stays None locals = refl
clause_stays (Some x) locals = refl

abbrev StmtStays : Stmt → Type 0
StmtStays s = AllStay (stmt_lines s)

abbrev BodyStays : List Stmt → Type 0
BodyStays body = AllStay (body_lines body)

abbrev ClausesStay : List Clause → Type 0
ClausesStay cs = AllStay (clauses_lines cs)

one_stays : (s : Stmt) (f : Form) → stmt_lines s ≡ f ∷ [] → Stays f → StmtStays s
one_stays s f e h = subst AllStay (sym e) (h, tt)

cases : StmtCases StmtStays BodyStays ClausesStay
cases = record {
  set = λ v e. one_stays (stmt.Set v e) (form.Set v e) (each_stmt-Set stmt_step clause_step v e) (λ locals. refl);
  say = λ e. one_stays (stmt.Say e) (form.Say e) (each_stmt-Say stmt_step clause_step e) (λ locals. refl);
  if_alone = λ e body p. subst AllStay (sym (each_stmt-If stmt_step clause_step e body None)) (λ locals. refl, both_stay (body_lines body) (form.End ∷ []) p (λ locals. refl, tt));
  if_else = λ e body other p q. subst AllStay (sym (each_stmt-If stmt_step clause_step e body (Some other)))
      (λ locals. refl, both_stay (body_lines body) (form.Else ∷ (body_lines other ++ form.End ∷ [])) p (λ locals. refl, both_stay (body_lines other) (form.End ∷ []) q (λ locals. refl, tt)));
  while = λ e body p. subst AllStay (sym (each_stmt-While stmt_step clause_step e body)) (λ locals. refl, both_stay (body_lines body) (form.End ∷ []) p (λ locals. refl, tt));
  try_catch = λ body cs p q. subst AllStay (sym (each_stmt-TryCatch stmt_step clause_step body cs))
      (λ locals. refl, both_stay (body_lines body) (clauses_lines cs ++ form.Endtry ∷ []) p (both_stay (clauses_lines cs) (form.Endtry ∷ []) q (λ locals. refl, tt)));
  try_finally = λ body final p q. subst AllStay (sym (each_stmt-TryFinally stmt_step clause_step body final))
      (λ locals. refl, both_stay (body_lines body) (form.Finally ∷ (body_lines final ++ form.Endtry ∷ [])) p (λ locals. refl, both_stay (body_lines final) (form.Endtry ∷ []) q (λ locals. refl, tt)));
  raise = λ x. one_stays (stmt.Raise x) (form.Raise x) (each_stmt-Raise stmt_step clause_step x) (λ locals. refl);
  reraise = one_stays stmt.Reraise form.Reraise (each_stmt-Reraise stmt_step clause_step) (λ locals. refl);
  call = λ name e v. one_stays (stmt.Call name e v) (form.Call name e v) (each_stmt-Call stmt_step clause_step name e v) (λ locals. refl);
  return = λ e. one_stays (stmt.Return e) (form.Return e) (each_stmt-Return stmt_step clause_step e) (λ locals. refl);
  exit = λ e. one_stays (stmt.Exit e) (form.Exit e) (each_stmt-Exit stmt_step clause_step e) (λ locals. refl);
  dce = λ call. one_stays (stmt.Dce call) (form.Dce call) (each_stmt-Dce stmt_step clause_step call) (λ locals. refl);
  body_end = tt;
  body_more = λ s body p q. both_stay (stmt_lines s) (body_lines body) p q;
  clauses_end = tt;
  clauses_more = λ c cs p q. (clause_stays c.names, both_stay (body_lines c.body) (clauses_lines cs) p q);
}

body_stays : (body : List Stmt) → BodyStays body
body_stays = body_induction StmtStays BodyStays ClausesStay cases

-- ---- spelled lines before more

stayed : (names locals : List (List ℕ)) (fs more : List Form) → AllStay fs → spelled_lines names locals (fs ++ more) ≡ map (form_words (scope_of names locals)) fs ++ spelled_lines names locals more
unfolding spelled_lines
stayed names locals [] more h = refl
stayed names locals (f ∷ fs) more h =
    ap (λ (ls : List (List ℕ)). form_words (scope_of names ls) f ∷ spelled_lines names ls (fs ++ more)) (h.0 locals)
    ∙ ap (λ (ls : List (List (List ℕ))). form_words (scope_of names locals) f ∷ ls) (stayed names locals fs more h.1)

abbrev local_line : List ℕ → Form
local_line name = form.Local name

-- Lines of locals are spelled the same whatever the locals are.
grown : (names locals all more : List (List ℕ)) (fs : List Form) → spelled_lines names locals (map local_line more ++ fs) ≡ map (form_words (scope_of names all)) (map local_line more) ++ spelled_lines names (locals ++ more) fs
unfolding spelled_lines
grown names locals all [] fs = ap (λ (ls : List (List ℕ)). spelled_lines names ls fs) (sym (append-nil locals))
grown names locals all (name ∷ more) fs =
    ap (λ (ls : List (List (List ℕ))). form_words (scope_of names all) (form.Local name) ∷ ls)
    (grown names (locals ++ name ∷ []) all more fs
    ∙ ap (λ (ls : List (List ℕ)). map (form_words (scope_of names all)) (map local_line more) ++ spelled_lines names ls fs) (append_assoc locals (name ∷ []) more))

-- ---- declarations

-- What is spelled of a declaration's lines before more, with some locals after them.
abbrev Runs : List (List ℕ) → Item → Type 0
Runs names i = (locals : List (List ℕ)) (more : List Form) → (after : List (List ℕ)) × (spelled_lines names locals (item_lines i ++ more) ≡ item_words names i ++ spelled_lines names after more)

routine_runs : (names : List (List ℕ)) (name : NameId) (locals : List (List ℕ)) (body : List Stmt) → item_nests (item.Routine (record { name = name; locals = locals; body = body })) ≡ true → Runs names (item.Routine (record { name = name; locals = locals; body = body }))
unfolding spelled_lines
routine_runs names name [] body h before more = absurd cc
routine_runs names name (parameter ∷ locals) body h before more =
    let all : List (List ℕ) = parameter ∷ locals in
    let words : Form → List (List ℕ) = form_words (scope_of names all) in
    let inside : List Form = body_lines body ++ form.End ∷ [] in
    let heads : List Form = map local_line locals in (
      all,
      ap (λ (ls : List (List (List ℕ))). words (form.Routine name parameter) ∷ ls) (
          ap (spelled_lines names (parameter ∷ [])) (append_assoc heads inside more)
          ∙ grown names (parameter ∷ []) all locals (inside ++ more)
          ∙ ap (λ (ls : List (List (List ℕ))). map words heads ++ ls) (stayed names all inside more (both_stay (body_lines body) (form.End ∷ []) (body_stays body) (λ locals. refl, tt)))
          ∙ sym (append_assoc (map words heads) (map words inside) (spelled_lines names all more))
          ∙ ap (λ (ls : List (List (List ℕ))). ls ++ spelled_lines names all more) (sym (map-append words heads inside))
          ),
    )

item_runs : (names : List (List ℕ)) (i : Item) → item_nests i ≡ true → Runs names i
unfolding spelled_lines
item_runs names (item.Routine r) h locals more = routine_runs names r.name r.locals r.body h locals more
item_runs names (item.Interface i) h locals more = (locals, refl)
item_runs names (item.Limit n) h locals more = (locals, refl)
item_runs names (item.Shared name n) h locals more = (locals, refl)
item_runs names (item.Exception name) h locals more = (locals, refl)
item_runs names (item.Status name n) h locals more = (locals, refl)
item_runs names (item.Mutex name) h locals more = (locals, refl)
item_runs names (item.MutexAttr name) h locals more = (locals, refl)
item_runs names (item.Cond name) h locals more = (locals, refl)
item_runs names (item.Attr name) h locals more = (locals, refl)
item_runs names (item.Key name) h locals more = (locals, refl)
item_runs names (item.Once name) h locals more = (locals, refl)
item_runs names (item.Pipe name n) h locals more = (locals, refl)

pub running_is_item : (names locals : List (List ℕ)) (items : List Item) → list_all item_nests items ≡ true → spelled_lines names locals (joined (map item_lines items)) ≡ joined (map (item_words names) items)
unfolding spelled_lines
running_is_item names locals [] h = refl
running_is_item names locals (i ∷ items) h =
    let k = both (item_nests i) (list_all item_nests items) h in
    let r = item_runs names i k.0 locals (joined (map item_lines items)) in
    r.1 ∙ ap (λ (ls : List (List (List ℕ))). item_words names i ++ ls) (running_is_item names r.0 items k.1)

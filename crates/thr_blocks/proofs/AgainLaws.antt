-- The lines of a tree are built into that tree again.
use Rattle.std.proofs.Common.{◌≡◌, ℕ, List, [], ◌∷◌, ◌++◌, map, fold, Option, Some, None, refl, sym, ap, ◌∙◌, append_assoc}
use Rattle.std.proofs.lemmas.List.{append-nil}
use Rattle.std.proofs.lemmas.List.Sums.{fold-append}
use Rattle.thr_values.specs.declared.number.NameId.{NameId}
use Rattle.thr_syntax.specs.declared.dce.DceCall.{DceCall}
use Rattle.thr_syntax.specs.declared.expr.Expr.{Expr}
use Rattle.thr_syntax.specs.declared.expr.Var.{Var}
use Rattle.thr_syntax.specs.declared.form.Form.{Form}
use Rattle.thr_syntax.specs.declared.form.Form.TheVariants as form
use Rattle.thr_syntax.specs.declared.tree.Clause.{Clause}
use Rattle.thr_syntax.specs.declared.tree.Stmt.{Stmt}
use Rattle.thr_syntax.specs.declared.tree.Stmt.TheVariants as stmt
use Rattle.thr_syntax.specs.declared.tree.Item.{Item}
use Rattle.thr_syntax.specs.declared.tree.Item.TheVariants as item
use Rattle.thr_syntax.specs.Lines.{stmt_step, clause_form, clause_step, stmt_lines, body_lines, item_lines}
use Rattle.thr_syntax.proofs.TreeInduction.{StmtCases, body_induction}
use Rattle.thr_syntax.proofs.FoldLaws.{each_stmt-Set, each_stmt-Say, each_stmt-If, each_stmt-While, each_stmt-TryCatch, each_stmt-TryFinally, each_stmt-Raise, each_stmt-Reraise, each_stmt-Call, each_stmt-Return, each_stmt-Exit, each_stmt-Dce}
use Rattle.thr_blocks.specs.declared.frame.Opener.{Opener}
use Rattle.thr_blocks.specs.declared.frame.Opener.TheVariants as opener
use Rattle.thr_blocks.specs.declared.frame.Frame.{Frame}
use Rattle.thr_blocks.specs.declared.frame.OpenRoutine.{OpenRoutine}
use Rattle.thr_blocks.specs.Build.{Building, frame, clause, with_parts, begun_routine, at_clause, put_outside, put_inside, put, built, HasParameter}
use Rattle.thr_blocks.proofs.Flat.{clauses_lines, items_lines}

abbrev inside : List Item → OpenRoutine → List Stmt → List Frame → Building
inside done r body fs = (done, Some (with_parts r r.locals body fs))

then : (h g : Building) (xs ys : List Form) → fold put h xs ≡ g → fold put h (xs ++ ys) ≡ fold put g ys
then h g xs ys e = fold-append put h xs ys ∙ ap (λ (x : Building). fold put x ys) e

abbrev Again : Stmt → Type 0
Again s = (done : List Item) (r : OpenRoutine) (body : List Stmt) (fs : List Frame) → fold put (inside done r body fs) (stmt_lines s) ≡ inside done r (body ++ s ∷ []) fs

abbrev AgainBody : List Stmt → Type 0
AgainBody ss = (done : List Item) (r : OpenRoutine) (body : List Stmt) (fs : List Frame) → fold put (inside done r body fs) (body_lines ss) ≡ inside done r (body ++ ss) fs

record AgainClauses (cs : List Clause) : Type 0 where
  after_body : (done : List Item) (r : OpenRoutine) (outer : List Stmt) (fs : List Frame) (body : List Stmt)
      → fold put (inside done r body (frame opener.Try outer ∷ fs)) (clauses_lines cs ++ form.Endtry ∷ []) ≡ inside done r (outer ++ stmt.TryCatch body cs ∷ []) fs
  after_clause : (done : List Item) (r : OpenRoutine) (outer : List Stmt) (fs : List Frame) (first : List Stmt) (clauses : List Clause) (names : Option NameId) (body : List Stmt)
      → fold put (inside done r body (frame (opener.Catch first clauses names) outer ∷ fs)) (clauses_lines cs ++ form.Endtry ∷ [])
      ≡ inside done r (outer ++ stmt.TryCatch first ((clauses ++ clause names body ∷ []) ++ cs) ∷ []) fs

again_if : (e : Expr) (b : List Stmt) → AgainBody b → Again (stmt.If e b None)
unfolding put_inside
again_if e b h done r body fs =
    ap (fold put (inside done r body fs)) (each_stmt-If stmt_step clause_step e b None)
    ∙ then (inside done r [] (frame (opener.If e) body ∷ fs)) _ (body_lines b) (form.End ∷ []) (h done r [] (frame (opener.If e) body ∷ fs))

again_else : (e : Expr) (b c : List Stmt) → AgainBody b → AgainBody c → Again (stmt.If e b (Some c))
unfolding put_inside
again_else e b c h k done r body fs =
    ap (fold put (inside done r body fs)) (each_stmt-If stmt_step clause_step e b (Some c))
    ∙ then (inside done r [] (frame (opener.If e) body ∷ fs)) _ (body_lines b) (form.Else ∷ (body_lines c ++ form.End ∷ [])) (h done r [] (frame (opener.If e) body ∷ fs))
    ∙ then (inside done r [] (frame (opener.Else e b) body ∷ fs)) _ (body_lines c) (form.End ∷ []) (k done r [] (frame (opener.Else e b) body ∷ fs))

again_while : (e : Expr) (b : List Stmt) → AgainBody b → Again (stmt.While e b)
unfolding put_inside
again_while e b h done r body fs =
    ap (fold put (inside done r body fs)) (each_stmt-While stmt_step clause_step e b)
    ∙ then (inside done r [] (frame (opener.While e) body ∷ fs)) _ (body_lines b) (form.End ∷ []) (h done r [] (frame (opener.While e) body ∷ fs))

again_finally : (b c : List Stmt) → AgainBody b → AgainBody c → Again (stmt.TryFinally b c)
unfolding put_inside
again_finally b c h k done r body fs =
    ap (fold put (inside done r body fs)) (each_stmt-TryFinally stmt_step clause_step b c)
    ∙ then (inside done r [] (frame opener.Try body ∷ fs)) _ (body_lines b) (form.Finally ∷ (body_lines c ++ form.Endtry ∷ [])) (h done r [] (frame opener.Try body ∷ fs))
    ∙ then (inside done r [] (frame (opener.Finally b) body ∷ fs)) _ (body_lines c) (form.Endtry ∷ []) (k done r [] (frame (opener.Finally b) body ∷ fs))

again_catch : (b : List Stmt) (cs : List Clause) → AgainBody b → AgainClauses cs → Again (stmt.TryCatch b cs)
unfolding put_inside
again_catch b cs h k done r body fs =
    ap (fold put (inside done r body fs)) (each_stmt-TryCatch stmt_step clause_step b cs)
    ∙ then (inside done r [] (frame opener.Try body ∷ fs)) _ (body_lines b) (clauses_lines cs ++ form.Endtry ∷ []) (h done r [] (frame opener.Try body ∷ fs))
    ∙ k.after_body done r body fs b

again_body : (s : Stmt) (ss : List Stmt) → Again s → AgainBody ss → AgainBody (s ∷ ss)
again_body s ss h k done r body fs =
    then (inside done r body fs) (inside done r (body ++ s ∷ []) fs) (stmt_lines s) (body_lines ss) (h done r body fs)
    ∙ k done r (body ++ s ∷ []) fs ∙ ap (λ (b : List Stmt). inside done r b fs) (append_assoc body (s ∷ []) ss)

no_clause : AgainClauses []
unfolding put_inside
no_clause = record {
  after_body = λ done r outer fs body. refl;
  after_clause = λ done r outer fs first clauses names body.
      ap (λ (cs : List Clause). inside done r (outer ++ stmt.TryCatch first cs ∷ []) fs) (sym (append-nil (clauses ++ clause names body ∷ [])));
}

put_clause : (done : List Item) (r : OpenRoutine) (outer : List Stmt) (fs : List Frame) (o : Opener) (body : List Stmt) (names : Option NameId)
    → put (inside done r body (frame o outer ∷ fs)) (clause_form names) ≡ inside done r [] (frame (at_clause names o body) outer ∷ fs)
unfolding put_inside
put_clause done r outer fs o body None = refl
put_clause done r outer fs o body (Some x) = refl

-- Past a clause, to the lines behind it.
past_clause : (c : Clause) (cs : List Clause) → AgainBody c.body → (done : List Item) (r : OpenRoutine) (outer : List Stmt) (fs : List Frame) (o : Opener) (body : List Stmt)
    → fold put (inside done r body (frame o outer ∷ fs)) (clauses_lines (c ∷ cs) ++ form.Endtry ∷ []) ≡ fold put (inside done r c.body (frame (at_clause c.names o body) outer ∷ fs)) (clauses_lines cs ++ form.Endtry ∷ [])
past_clause c cs h done r outer fs o body =
    let rest : List Form = clauses_lines cs ++ form.Endtry ∷ [] in
    let inner : List Frame = frame (at_clause c.names o body) outer ∷ fs in
    ap (fold put (inside done r body (frame o outer ∷ fs))) (append_assoc (clause_form c.names ∷ body_lines c.body) (clauses_lines cs) (form.Endtry ∷ []))
    ∙ ap (λ (x : Building). fold put x (body_lines c.body ++ rest)) (put_clause done r outer fs o body c.names)
    ∙ then (inside done r [] inner) (inside done r c.body inner) (body_lines c.body) rest (h done r [] inner)

more_clauses : (c : Clause) (cs : List Clause) → AgainBody c.body → AgainClauses cs → AgainClauses (c ∷ cs)
more_clauses c cs h k = record {
  after_body = λ done r outer fs body. past_clause c cs h done r outer fs opener.Try body ∙ k.after_clause done r outer fs body [] c.names c.body;
  after_clause = λ done r outer fs first clauses names body.
      past_clause c cs h done r outer fs (opener.Catch first clauses names) body
      ∙ k.after_clause done r outer fs first (clauses ++ clause names body ∷ []) c.names c.body
      ∙ ap (λ (xs : List Clause). inside done r (outer ++ stmt.TryCatch first xs ∷ []) fs) (append_assoc (clauses ++ clause names body ∷ []) (c ∷ []) cs);
}

one_line : (s : Stmt) (f : Form) → stmt_lines s ≡ f ∷ [] → ((done : List Item) (r : OpenRoutine) (body : List Stmt) (fs : List Frame) → put (inside done r body fs) f ≡ inside done r (body ++ s ∷ []) fs) → Again s
one_line s f e h done r body fs = ap (fold put (inside done r body fs)) e ∙ h done r body fs

again_set : (v : Var) (e : Expr) → Again (stmt.Set v e)
unfolding put_inside
again_set v e = one_line (stmt.Set v e) (form.Set v e) (each_stmt-Set stmt_step clause_step v e) (λ done r body fs. refl)

again_say : (e : Expr) → Again (stmt.Say e)
unfolding put_inside
again_say e = one_line (stmt.Say e) (form.Say e) (each_stmt-Say stmt_step clause_step e) (λ done r body fs. refl)

again_raise : (x : NameId) → Again (stmt.Raise x)
unfolding put_inside
again_raise x = one_line (stmt.Raise x) (form.Raise x) (each_stmt-Raise stmt_step clause_step x) (λ done r body fs. refl)

again_reraise : Again stmt.Reraise
unfolding put_inside
again_reraise = one_line stmt.Reraise form.Reraise (each_stmt-Reraise stmt_step clause_step) (λ done r body fs. refl)

again_call : (name : NameId) (e : Expr) (v : Option ℕ) → Again (stmt.Call name e v)
unfolding put_inside
again_call name e v = one_line (stmt.Call name e v) (form.Call name e v) (each_stmt-Call stmt_step clause_step name e v) (λ done r body fs. refl)

again_return : (e : Expr) → Again (stmt.Return e)
unfolding put_inside
again_return e = one_line (stmt.Return e) (form.Return e) (each_stmt-Return stmt_step clause_step e) (λ done r body fs. refl)

again_exit : (e : Expr) → Again (stmt.Exit e)
unfolding put_inside
again_exit e = one_line (stmt.Exit e) (form.Exit e) (each_stmt-Exit stmt_step clause_step e) (λ done r body fs. refl)

again_dce : (call : DceCall) → Again (stmt.Dce call)
unfolding put_inside
again_dce call = one_line (stmt.Dce call) (form.Dce call) (each_stmt-Dce stmt_step clause_step call) (λ done r body fs. refl)

cases : StmtCases Again AgainBody AgainClauses
cases = record {
  set = again_set;
  say = again_say;
  if_alone = again_if;
  if_else = again_else;
  while = again_while;
  try_catch = again_catch;
  try_finally = again_finally;
  raise = again_raise;
  reraise = again_reraise;
  call = again_call;
  return = again_return;
  exit = again_exit;
  dce = again_dce;
  body_end = λ done r body fs. ap (λ (b : List Stmt). inside done r b fs) (sym (append-nil body));
  body_more = again_body;
  clauses_end = no_clause;
  clauses_more = more_clauses;
}

pub built_body : (ss : List Stmt) (done : List Item) (r : OpenRoutine) (body : List Stmt) (fs : List Frame) → fold put (inside done r body fs) (body_lines ss) ≡ inside done r (body ++ ss) fs
built_body = body_induction Again AgainBody AgainClauses cases

built_locals : (locals : List (List ℕ)) (done : List Item) (r : OpenRoutine) (before : List (List ℕ))
    → fold put (done, Some (with_parts r before [] [])) (map (λ (n : List ℕ). form.Local n) locals) ≡ (done, Some (with_parts r (before ++ locals) [] []))
unfolding put_inside
built_locals [] done r before = ap (λ (b : List (List ℕ)). let h : Building = (done, Some (with_parts r b [] [])) in h) (sym (append-nil before))
built_locals (local ∷ locals) done r before =
    built_locals locals done r (before ++ local ∷ []) ∙ ap (λ (b : List (List ℕ)). let h : Building = (done, Some (with_parts r b [] [])) in h) (append_assoc before (local ∷ []) locals)

abbrev pub IsWhole : Item → Type 0
IsWhole (item.Routine r) = HasParameter r.locals
IsWhole _ = Unit {0}

abbrev routine_of : NameId → List (List ℕ) → List Stmt → Item
routine_of name locals body = item.Routine (record { name = name; locals = locals; body = body })

built_routine : (name : NameId) (locals : List (List ℕ)) (body : List Stmt) (done : List Item) → HasParameter locals
    → fold put (done, None) (item_lines (routine_of name locals body)) ≡ (done ++ routine_of name locals body ∷ [], None)
unfolding put_outside put_inside
built_routine name [] body done q = absurd q
built_routine name (parameter ∷ locals) body done q =
    let r : OpenRoutine = begun_routine name parameter in
    then (done, Some r) (done, Some (with_parts r (parameter ∷ locals) [] [])) (map (λ (n : List ℕ). form.Local n) locals) (body_lines body ++ form.End ∷ []) (built_locals locals done r (parameter ∷ []))
    ∙ then (done, Some (with_parts r (parameter ∷ locals) [] [])) (inside done (with_parts r (parameter ∷ locals) [] []) body []) (body_lines body) (form.End ∷ []) (built_body body done (with_parts r (parameter ∷ locals) [] []) [] [])

pub built_item : (i : Item) (done : List Item) → IsWhole i → fold put (done, None) (item_lines i) ≡ (done ++ i ∷ [], None)
unfolding put_outside
built_item (item.Interface i) done q = refl
built_item (item.Limit n) done q = refl
built_item (item.Shared name n) done q = refl
built_item (item.Exception name) done q = refl
built_item (item.Status name n) done q = refl
built_item (item.Mutex name) done q = refl
built_item (item.MutexAttr name) done q = refl
built_item (item.Cond name) done q = refl
built_item (item.Attr name) done q = refl
built_item (item.Key name) done q = refl
built_item (item.Once name) done q = refl
built_item (item.Pipe name n) done q = refl
built_item (item.Routine r) done q = built_routine r.name r.locals r.body done q

abbrev pub AreWhole : List Item → Type 0
AreWhole [] = Unit {0}
AreWhole (i ∷ all) = IsWhole i × AreWhole all

built_items : (all done : List Item) → AreWhole all → fold put (done, None) (items_lines all) ≡ (done ++ all, None)
built_items [] done q = ap (λ (d : List Item). let h : Building = (d, None) in h) (sym (append-nil done))
built_items (i ∷ all) done q =
    then (done, None) (done ++ i ∷ [], None) (item_lines i) (items_lines all) (built_item i done q.0)
    ∙ built_items all (done ++ i ∷ []) q.1 ∙ ap (λ (d : List Item). let h : Building = (d, None) in h) (append_assoc done (i ∷ []) all)

pub again : (all : List Item) → AreWhole all → built (items_lines all) ≡ (all, None)
again all q = built_items all [] q

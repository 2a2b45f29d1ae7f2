-- What a statement or a routine leaves stands at its lines of the canonical text.
use Rattle.std.proofs.Common.{◌≡◌, ℕ, suc, ◌+◌, Bool, true, false, List, [], ◌∷◌, ◌++◌, map, length, length-append, Option, Some, None, arith, refl, sym, ap, ◌∙◌, subst, if◌then◌else◌}
use Rattle.std.specs.Option.{option_or}
use Rattle.std.proofs.lemmas.List.{append_assoc, append-nil, length-map}
use Rattle.thr_values.specs.declared.number.NameId.{NameId}
use Rattle.thr_syntax.specs.declared.form.Form.{Form}
use Rattle.thr_syntax.specs.declared.form.Form.TheVariants as form
use Rattle.thr_syntax.specs.declared.expr.Expr.{Expr}
use Rattle.thr_syntax.specs.declared.tree.Clause.{Clause}
use Rattle.thr_syntax.specs.declared.tree.Stmt.{Stmt, Set, Say, If, While, TryCatch, TryFinally, Raise, Reraise, Call, Return, Exit, Dce}
use Rattle.thr_syntax.specs.declared.tree.Item.{Item}
use Rattle.thr_syntax.specs.declared.tree.Item.TheVariants as item
use Rattle.thr_syntax.specs.declared.tree.Routine.{Routine}
use Rattle.thr_syntax.specs.declared.tree.Script.{Script}
use Rattle.thr_syntax.specs.Lines.{joined, stmt_lines, body_lines, stmt_step, clause_step, clause_form, head_lines, routine_lines, item_lines, lines_of}
use Rattle.thr_syntax.proofs.FoldLaws.{each_stmt-If, each_stmt-While, each_stmt-TryCatch, each_stmt-TryFinally}
use Rattle.thr_syntax.proofs.TreeInduction.{StmtCases, stmt_induction}
use Rattle.thr_remainder.specs.Places.{Placed, Left, size, body_size, placed, body_then, stmt_then, body_at, handlers_at}
use Rattle.thr_remainder.specs.Acts.{Act, act_of}
use Rattle.thr_remainder.specs.Declarations.{Entry, is_same_name, entry_at, entry_here, entry_in, routine_of}
use Rattle.thr_remainder.specs.Standing.{StandAt, can_close, ClosesAt, ArePlaced, IsLeft, AreHandlers, IsAct}
use Rattle.thr_remainder.proofs.ActLaws.{act_of-Set, act_of-Say, act_of-If, act_of-While, act_of-TryCatch, act_of-TryFinally, act_of-Raise, act_of-Reraise, act_of-Call, act_of-Return, act_of-Exit, act_of-Dce}
use Rattle.thr_remainder.proofs.SizeLaws.{clauses_lines}

-- ---- lines within lines

module _ (text : List Form) where
  first_lines : (line : ℕ) (xs ys : List Form) → StandAt text line (xs ++ ys) → StandAt text line xs
  first_lines line xs ys h = record {
    above = h.above;
    below = ys ++ h.below;
    parts = h.parts ∙ ap (λ zs. h.above ++ zs) (append_assoc xs ys h.below);
    place = h.place;
  }

  last_lines : (line next : ℕ) (xs ys : List Form) → StandAt text line (xs ++ ys) → next ≡ line + length xs → StandAt text next ys
  last_lines line next xs ys h e = record {
    above = h.above ++ xs;
    below = h.below;
    parts = h.parts ∙ ap (λ zs. h.above ++ zs) (append_assoc xs ys h.below) ∙ sym (append_assoc h.above xs (ys ++ h.below));
    place = omega (arith, h.place, e, length-append h.above xs);
  }

  next_line : (line : ℕ) (x : Form) (xs : List Form) → StandAt text line (x ∷ xs) → StandAt text (line + 1) xs
  next_line line x xs h = last_lines line (line + 1) (x ∷ []) xs h (omega arith)

  closes_at : (line : ℕ) (x : Form) (xs : List Form) → StandAt text line (x ∷ xs) → can_close x ≡ true → ClosesAt text line
  closes_at line x xs h e = record { closing = x; stands = first_lines line (x ∷ []) xs h; closes = e }

  -- ---- bodies

  placed_stand : (line : ℕ) (body : List Stmt) → StandAt text line (body_lines body) → ArePlaced text (placed line body)
  unfolding size
  placed_stand line [] h = tt
  placed_stand line (s ∷ body) h = (
    first_lines line (stmt_lines s) (body_lines body) h,
    placed_stand (line + length (stmt_lines s)) body (last_lines line (line + length (stmt_lines s)) (stmt_lines s) (body_lines body) h refl),
  )

  placed_then : (todo rest : List Placed) → ArePlaced text todo → ArePlaced text rest → ArePlaced text (todo ++ rest)
  placed_then [] rest h k = k
  placed_then (p ∷ todo) rest h k = (h.0, placed_then todo rest h.1 k)

  -- A body that the line below it closes.
  body_stands : (line : ℕ) (body : List Stmt) (ys : List Form) → StandAt text line (body_lines body ++ ys) → ClosesAt text (line + length (body_lines body)) → IsLeft text (body_at line body)
  unfolding body_size
  body_stands line body ys h k = record { todo = placed_then (placed line body) [] (placed_stand line body (first_lines line (body_lines body) ys h)) tt; close = k }

  -- What stands below a body.
  below_body : (line : ℕ) (body : List Stmt) (ys : List Form) → StandAt text line (body_lines body ++ ys) → StandAt text (line + length (body_lines body)) ys
  below_body line body ys h = last_lines line (line + length (body_lines body)) (body_lines body) ys h refl

  -- A body before the rest.
  body_then_stands : (line : ℕ) (body : List Stmt) (rest : Left) (xs : List Form) → StandAt text line (body_lines body ++ xs) → IsLeft text rest → IsLeft text (body_then line body rest)
  body_then_stands line body rest xs h k = record {
    todo = placed_then (placed line body) rest.todo (placed_stand line body (first_lines line (body_lines body) xs h)) k.todo;
    close = k.close;
  }

  -- ---- clauses

  -- What stands below a body in a try closes it.
  first_closes : (clauses : List Clause) (line : ℕ) → StandAt text line (clauses_lines clauses ++ form.Endtry ∷ []) → ClosesAt text line
  first_closes [] line h = closes_at line form.Endtry [] h refl
  first_closes (c ∷ clauses) line h = closes_at line (clause_form c.names) _ h (clause_closes c.names)
    where
      clause_closes : (names : Option NameId) → can_close (clause_form names) ≡ true
      clause_closes None = refl
      clause_closes (Some x) = refl

  handlers_stand : (clauses : List Clause) (line : ℕ) → StandAt text line (clauses_lines clauses ++ form.Endtry ∷ []) → AreHandlers text (handlers_at line clauses)
  unfolding body_size
  handlers_stand [] line h = tt
  handlers_stand (c ∷ clauses) line h =
      let rest : List Form = clauses_lines clauses ++ form.Endtry ∷ [] in
      let inside : StandAt text (line + 1) (body_lines c.body ++ rest) =
      subst (StandAt text (line + 1)) (append_assoc (body_lines c.body) (clauses_lines clauses) (form.Endtry ∷ [])) (next_line line (clause_form c.names) _ h) in
      let below : StandAt text (line + 1 + length (body_lines c.body)) rest = below_body (line + 1) c.body rest inside in (
        first_lines line (clause_form c.names ∷ []) _ h,
        body_stands (line + 1) c.body rest inside (first_closes clauses (line + 1 + length (body_lines c.body)) below),
        handlers_stand clauses (line + 1 + length (body_lines c.body)) below,
      )

  -- ---- statements

  -- What the statement does first leaves what stands at its lines, if the statement and the rest do.
  abbrev Stands : Stmt → Type 0
  Stands s = (line : ℕ) (rest : Left) → StandAt text line (stmt_lines s) → IsLeft text rest → IsAct text (act_of line s rest)

  -- Statements without a body.
  plain_stands : (line : ℕ) (s : Stmt) (rest : Left) (a : Act) → act_of line s rest ≡ a → IsAct text a → IsAct text (act_of line s rest)
  plain_stands line s rest a e k = subst (IsAct text) (sym e) k

  if_alone_stands : (e : Expr) (body : List Stmt) → Stands (If e body None)
  if_alone_stands e body line rest h k =
      let inside : StandAt text line (form.If e ∷ (body_lines body ++ form.End ∷ [])) = subst (StandAt text line) (each_stmt-If stmt_step clause_step e body None) h in
      subst (IsAct text) (sym (act_of-If line rest e body None)) (body_then_stands (line + 1) body rest (form.End ∷ []) (next_line line (form.If e) _ inside) k, k)

  if_else_stands : (e : Expr) (body other : List Stmt) → Stands (If e body (Some other))
  unfolding body_size
  if_else_stands e body other line rest h k =
      let inside : StandAt text line (form.If e ∷ (body_lines body ++ form.Else ∷ (body_lines other ++ form.End ∷ []))) = subst (StandAt text line) (each_stmt-If stmt_step clause_step e body (Some other)) h in
      let first : StandAt text (line + 1) (body_lines body ++ form.Else ∷ (body_lines other ++ form.End ∷ [])) = next_line line (form.If e) _ inside in
      let second : StandAt text (line + 1 + length (body_lines body) + 1) (body_lines other ++ form.End ∷ []) = next_line (line + 1 + length (body_lines body)) form.Else _ (below_body (line + 1) body _ first) in
      subst (IsAct text) (sym (act_of-If line rest e body (Some other))) (body_then_stands (line + 1) body rest _ first k, body_then_stands (line + 1 + length (body_lines body) + 1) other rest _ second k)

  while_stands : (e : Expr) (body : List Stmt) → Stands (While e body)
  while_stands e body line rest h k =
      let inside : StandAt text line (form.While e ∷ (body_lines body ++ form.End ∷ [])) = subst (StandAt text line) (each_stmt-While stmt_step clause_step e body) h in
      let again : IsLeft text (stmt_then line (While e body) rest) = record { todo = (h, k.todo); close = k.close } in
      subst (IsAct text) (sym (act_of-While line rest e body)) (body_then_stands (line + 1) body (stmt_then line (While e body) rest) (form.End ∷ []) (next_line line (form.While e) _ inside) again)

  try_catch_stands : (body : List Stmt) (clauses : List Clause) → Stands (TryCatch body clauses)
  unfolding body_size
  try_catch_stands body clauses line rest h k =
      let inside : StandAt text line (form.Try ∷ (body_lines body ++ (clauses_lines clauses ++ form.Endtry ∷ []))) = subst (StandAt text line) (each_stmt-TryCatch stmt_step clause_step body clauses) h in
      let first : StandAt text (line + 1) (body_lines body ++ (clauses_lines clauses ++ form.Endtry ∷ [])) = next_line line form.Try _ inside in
      let second : StandAt text (line + 1 + length (body_lines body)) (clauses_lines clauses ++ form.Endtry ∷ []) = below_body (line + 1) body _ first in
      subst (IsAct text) (sym (act_of-TryCatch line rest body clauses)) (
        body_stands (line + 1) body _ first (first_closes clauses (line + 1 + length (body_lines body)) second),
        handlers_stand clauses (line + 1 + length (body_lines body)) second,
      )

  try_finally_stands : (body final : List Stmt) → Stands (TryFinally body final)
  unfolding body_size
  try_finally_stands body final line rest h k =
      let inside : StandAt text line (form.Try ∷ (body_lines body ++ form.Finally ∷ (body_lines final ++ form.Endtry ∷ []))) = subst (StandAt text line) (each_stmt-TryFinally stmt_step clause_step body final) h in
      let first : StandAt text (line + 1) (body_lines body ++ form.Finally ∷ (body_lines final ++ form.Endtry ∷ [])) = next_line line form.Try _ inside in
      let middle : StandAt text (line + 1 + length (body_lines body)) (form.Finally ∷ (body_lines final ++ form.Endtry ∷ [])) = below_body (line + 1) body _ first in
      let second : StandAt text (line + 1 + length (body_lines body) + 1) (body_lines final ++ form.Endtry ∷ []) = next_line (line + 1 + length (body_lines body)) form.Finally _ middle in
      subst (IsAct text) (sym (act_of-TryFinally line rest body final)) (
        body_stands (line + 1) body _ first (closes_at (line + 1 + length (body_lines body)) form.Finally _ middle refl),
        body_stands (line + 1 + length (body_lines body) + 1) final _ second (closes_at (line + 1 + length (body_lines body) + 1 + length (body_lines final)) form.Endtry [] (below_body (line + 1 + length (body_lines body) + 1) final _ second) refl),
      )

  cases : StmtCases Stands (λ body. Unit {0}) (λ clauses. Unit {0})
  cases = record {
    set = λ v e line rest h k. plain_stands line (Set v e) rest _ (act_of-Set line rest v e) tt;
    say = λ e line rest h k. plain_stands line (Say e) rest _ (act_of-Say line rest e) tt;
    if_alone = λ e body b. if_alone_stands e body;
    if_else = λ e body other b c. if_else_stands e body other;
    while = λ e body b. while_stands e body;
    try_catch = λ body clauses b c. try_catch_stands body clauses;
    try_finally = λ body final b c. try_finally_stands body final;
    raise = λ name line rest h k. plain_stands line (Raise name) rest _ (act_of-Raise line rest name) tt;
    reraise = λ line rest h k. plain_stands line Reraise rest _ (act_of-Reraise line rest) tt;
    call = λ name e place line rest h k. plain_stands line (Call name e place) rest _ (act_of-Call line rest name e place) tt;
    return = λ e line rest h k. plain_stands line (Return e) rest _ (act_of-Return line rest e) tt;
    exit = λ e line rest h k. plain_stands line (Exit e) rest _ (act_of-Exit line rest e) tt;
    dce = λ call line rest h k. plain_stands line (Dce call) rest _ (act_of-Dce line rest call) tt;
    body_end = tt;
    body_more = λ s body a b. tt;
    clauses_end = tt;
    clauses_more = λ c clauses a b. tt;
  }

  pub acts_stand : (s : Stmt) → Stands s
  acts_stand = stmt_induction Stands (λ body. Unit {0}) (λ clauses. Unit {0}) cases

  -- ---- routines

  head_size : (name : NameId) (locals : List (List ℕ)) → length (head_lines name locals) ≡ length locals
  head_size name [] = refl
  head_size name (parameter ∷ locals) = ap suc (length-map locals (λ (n : List ℕ). form.Local n))

  entry_stands : (line : ℕ) (r : Routine) → StandAt text line (routine_lines r) → IsLeft text (entry_at line r).body
  entry_stands line r h =
      let inside : StandAt text (line + length r.locals) (body_lines r.body ++ form.End ∷ []) =
      last_lines line (line + length r.locals) (head_lines r.name r.locals) (body_lines r.body ++ form.End ∷ []) h (ap (λ n. line + n) (sym (head_size r.name r.locals))) in
      body_stands (line + length r.locals) r.body _ inside (closes_at (line + length r.locals + length (body_lines r.body)) form.End [] (below_body (line + length r.locals) r.body _ inside) refl)

  -- The entry that is found here, if there is one.
  abbrev IsEntry : Option Entry → Type 0
  IsEntry None = Unit {0}
  IsEntry (Some entry) = IsLeft text entry.body

  either_entry : (a b : Option Entry) → IsEntry a → IsEntry b → IsEntry (option_or a b)
  either_entry None b h k = k
  either_entry (Some entry) b h k = h

  routine_here : (line : ℕ) (r : Routine) (same : Bool) → StandAt text line (routine_lines r) → IsEntry (if same then Some (entry_at line r) else None)
  routine_here line r true h = entry_stands line r h
  routine_here line r false h = tt

  here_stands : (line : ℕ) (i : Item) (name : NameId) → StandAt text line (item_lines i) → IsEntry (entry_here line i name)
  here_stands line (item.Routine r) name h = routine_here line r (is_same_name r.name name) h
  here_stands line (item.Interface i) name h = tt
  here_stands line (item.Limit n) name h = tt
  here_stands line (item.Shared v n) name h = tt
  here_stands line (item.Exception v) name h = tt
  here_stands line (item.Status v n) name h = tt
  here_stands line (item.Mutex v) name h = tt
  here_stands line (item.MutexAttr v) name h = tt
  here_stands line (item.Cond v) name h = tt
  here_stands line (item.Attr v) name h = tt
  here_stands line (item.Key v) name h = tt
  here_stands line (item.Once v) name h = tt
  here_stands line (item.Pipe v n) name h = tt

  items_stand : (line : ℕ) (items : List Item) (name : NameId) → StandAt text line (joined (map item_lines items)) → IsEntry (entry_in line items name)
  items_stand line [] name h = tt
  items_stand line (i ∷ items) name h =
      either_entry (entry_here line i name) (entry_in (line + length (item_lines i)) items name)
      (here_stands line i name (first_lines line (item_lines i) _ h))
      (items_stand (line + length (item_lines i)) items name (last_lines line (line + length (item_lines i)) (item_lines i) _ h refl))

script_stands : (s : Script) → StandAt (lines_of s) 2 (joined (map item_lines s.items))
script_stands s = record { above = form.Header ∷ []; below = []; parts = ap (λ xs. form.Header ∷ xs) (sym (append-nil (joined (map item_lines s.items)))); place = refl }

found_stands : (s : Script) (found : Option Entry) (entry : Entry) → IsEntry (lines_of s) found → found ≡ Some entry → IsLeft (lines_of s) entry.body
found_stands s found entry h e = subst (IsEntry (lines_of s)) e h

pub routines_stand : (s : Script) (name : NameId) (entry : Entry) → routine_of s name ≡ Some entry → IsLeft (lines_of s) entry.body
unfolding routine_of
routines_stand s name entry e = found_stands s (entry_in 2 s.items name) entry (items_stand (lines_of s) 2 s.items name (script_stands s)) e

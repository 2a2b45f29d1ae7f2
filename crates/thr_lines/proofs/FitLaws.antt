-- What is known at the lines of statements.
use Rattle.std.proofs.Common.{◌≡◌, ℕ, ◌+◌, ◌<◌, ◌≤◌, Bool, List, [], ◌∷◌, ◌++◌, length, Option, Some, None, refl, ap, sym, ◌∙◌, subst, arith, inl, inr}
use Rattle.std.proofs.lemmas.List.{length-map}
use Rattle.std.proofs.lemmas.Bool.{cases_lt}
use Rattle.thr_values.specs.declared.number.NameId.{NameId}
use Rattle.thr_values.specs.declared.number.Line.{Line}
use Rattle.thr_syntax.specs.declared.form.Form.{Form}
use Rattle.thr_syntax.specs.declared.form.Form.TheVariants as form
use Rattle.thr_syntax.specs.declared.expr.Expr.{Expr}
use Rattle.thr_syntax.specs.declared.tree.Clause.{Clause}
use Rattle.thr_syntax.specs.declared.tree.Stmt.{Stmt, Set, Say, If, While, TryCatch, TryFinally, Raise, Reraise, Call, Return, Exit, Dce}
use Rattle.thr_syntax.specs.Lines.{clause_form}
use Rattle.thr_syntax.specs.Shared.{is_shared}
use Rattle.thr_syntax.proofs.TreeInduction.{StmtCases, body_induction}
use Rattle.thr_remainder.specs.Places.{Placed, Left, size, body_size, placed, body_then, stmt_then, body_at, nothing, Handler, Catches, Finally, handlers_at, clauses_size}
use Rattle.thr_remainder.specs.Acts.{Act, act_of, Chooses, Repeats, Tries}
use Rattle.thr_remainder.specs.Starts.{at}
use Rattle.thr_remainder.proofs.ActLaws.{act_of-Set, act_of-Say, act_of-If, act_of-While, act_of-TryCatch, act_of-TryFinally, act_of-Raise, act_of-Reraise, act_of-Call, act_of-Return, act_of-Exit, act_of-Dce}
use Rattle.thr_remainder.proofs.SizeLaws.{body_size-nil, body_size-cons, size-Set, size-Say, size-If, size-If-else, size-While, size-TryCatch, size-TryFinally, size-Raise, size-Reraise, size-Call, size-Return, size-Exit, size-Dce}
use Rattle.thr_lines.specs.declared.row.Row.{Row}
use Rattle.thr_lines.specs.Layout.{ScriptLine, plain_line, opening_line, middle_line, closing_line, stmt_layout, body_layout, row_of, clauses_layout, clause_rows}
use Rattle.thr_lines.specs.AtLines.{StatementAt, EndOfBlock, EndsTryBody, FormAt, RowAt}
use Rattle.thr_lines.proofs.LayoutLaws.{layout-If, layout-If-else, layout-While, layout-TryCatch, layout-TryFinally, layout-Set, layout-Say, layout-Raise, layout-Reraise, layout-Call, layout-Return, layout-Exit, layout-Dce}
use Rattle.thr_lines.proofs.RowLaws.{stmt_rows-any, body_rows-any}
use Rattle.thr_lines.proofs.FormLaws.{stmt_count, body_count, clauses_lines-size, clause_count}

-- ---- how many lines

stmt_layout_size : (l : ℕ) (s : Stmt) (rest : Left) → length (stmt_layout l s rest) ≡ size s
stmt_layout_size l s rest = sym (length-map (stmt_layout l s rest) row_of) ∙ ap length (stmt_rows-any s l rest) ∙ stmt_count s l

pub body_layout_size : (l : ℕ) (body : List Stmt) (rest : Left) → length (body_layout l body rest) ≡ body_size body
body_layout_size l body rest = sym (length-map (body_layout l body rest) row_of) ∙ ap length (body_rows-any body l rest) ∙ body_count body l

clauses_layout_size : (l : ℕ) (clauses : List Clause) (after : Option Line) → length (clauses_layout l clauses after) ≡ clauses_size clauses
unfolding clause_rows
clauses_layout_size l clauses after = sym (length-map (clauses_layout l clauses after) row_of) ∙ clause_count clauses l after

module _ (E : ℕ → ScriptLine) where
  -- These entries stand from line l on.
  abbrev pub Stand : ℕ → List ScriptLine → Type 0
  Stand l [] = Unit {0}
  Stand l (e ∷ es) = (E l ≡ e) × Stand (l + 1) es

  pub stand_left : (l : ℕ) (xs ys : List ScriptLine) → Stand l (xs ++ ys) → Stand l xs
  stand_left l [] ys h = tt
  stand_left l (x ∷ xs) ys h = (h.0, stand_left (l + 1) xs ys h.1)

  pub stand_right : (l m : ℕ) (xs ys : List ScriptLine) → m ≡ l + length xs → Stand l (xs ++ ys) → Stand m ys
  stand_right l m [] ys e h = let k : l ≡ m = omega arith in subst (λ n. Stand n ys) k h
  stand_right l m (x ∷ xs) ys e h = stand_right (l + 1) m xs ys (omega arith) h.1

module _ (E : ℕ → ScriptLine) (last : ℕ) where
  -- It is known of each line from l up to m.
  abbrev pub Upto : ℕ → ℕ → Type 0
  Upto l m = (k : ℕ) → l ≤ k → k < m → RowAt E last k (E k).row

  pub here_fits : (l : ℕ) (e : ScriptLine) → E l ≡ e → FormAt E last l e.row e.row.form → RowAt E last l (E l).row
  here_fits l e q h = subst (λ (x : ScriptLine). RowAt E last l x.row) (sym q) h

  pub upto_one : (l m : ℕ) → m ≡ l + 1 → RowAt E last l (E l).row → Upto l m
  upto_one l m e h k p q = let i : l ≡ k = omega arith in subst (λ n. RowAt E last n (E n).row) i h

  pub upto_join : (l m n : ℕ) → Upto l m → Upto m n → Upto l n
  upto_join l m n f g k p q = elim (cases_lt k m) [ inl a ↦ f k p a | inr b ↦ g k b q ]

  pub upto_none : (l m : ℕ) → m ≡ l → Upto l m
  upto_none l m e k p q = absurd (omega arith)

  abbrev FitStmt : Stmt → Type 0
  FitStmt s = (l m : ℕ) (rest : Left) → m ≡ l + size s → m ≤ last → 1 ≤ l → Stand E l (stmt_layout l s rest) → (E m).left ≡ rest → ((E l).left ≡ stmt_then l s rest) × Upto l m

  abbrev FitBody : List Stmt → Type 0
  FitBody body = (l m : ℕ) (rest : Left) → m ≡ l + body_size body → m ≤ last → 1 ≤ l → Stand E l (body_layout l body rest) → (E m).left ≡ rest → ((E l).left ≡ body_then l body rest) × Upto l m

  abbrev FitClauses : List Clause → Type 0
  FitClauses clauses = (l m : ℕ) (after : Option Line) → m ≡ l + clauses_size clauses → m < last → 1 ≤ l → Stand E l (clauses_layout l clauses after) → (E m).left ≡ nothing m → (E m).ways ≡ Catches [] → EndsTryBody (E m).row.form →
      ((E l).left ≡ nothing l) × ((E l).ways ≡ Catches (handlers_at l clauses)) × EndsTryBody (E l).row.form × Upto l m

  -- ---- statements of one line

  one_fits : (s : Stmt) (f : Form) (act : Act) (shared : Bool) → ((l : ℕ) (rest : Left) → stmt_layout l s rest ≡ plain_line f (stmt_then l s rest) ∷ []) → size s ≡ 1 →
      ((l : ℕ) (rest : Left) → act_of l s rest ≡ act) → is_shared s ≡ shared → ((l : ℕ) (row : Row) → StatementAt E last l act shared → FormAt E last l row f) → FitStmt s
  one_fits s f act shared laid one acts shares fits l m rest e i p h r =
      let k : Stand E l (plain_line f (stmt_then l s rest) ∷ []) = subst (Stand E l) (laid l rest) h in
      let q : m ≡ l + 1 = omega (arith, e, one) in
      let here : (E l).left ≡ stmt_then l s rest = ap (λ x. x.left) k.0 in
      let next : (E (l + 1)).left ≡ rest = ap (λ x. (E x).left) (sym q) ∙ r in (
        here,
        upto_one l m q (here_fits l (plain_line f (stmt_then l s rest)) k.0
            (fits l (plain_line f (stmt_then l s rest)).row (record { inside = omega arith; does = record { stmt = s; here = here ∙ ap (stmt_then l s) (sym next); acts = acts l (E (l + 1)).left; shares = shares } }))),
      )

  -- ---- blocks

  if_fits : (e : Expr) (body : List Stmt) → FitBody body → FitStmt (If e body None)
  if_fits e body fit l m rest me i p h r =
      let s = If e body None in
      let end = l + 1 + body_size body in
      let after = Some (at (end + 1)) in
      let xs = body_layout (l + 1) body rest in
      let zs : List ScriptLine = closing_line form.End (Some (at l)) after rest ∷ [] in
      let k : Stand E l (opening_line (form.If e) end end after (stmt_then l s rest) ∷ (xs ++ zs)) = subst (Stand E l) (layout-If l e body rest) h in
      let tail = stand_right E (l + 1) end xs zs (omega (arith, body_layout_size (l + 1) body rest)) k.1 in
      let end_left : (E end).left ≡ rest = ap (λ x. x.left) tail.0 in
      let q : m ≡ end + 1 = omega (arith, me, size-If e body) in
      let m_left : (E (end + 1)).left ≡ rest = ap (λ x. (E x).left) (sym q) ∙ r in
      let first = fit (l + 1) end rest refl (omega arith) (omega arith) (stand_left E (l + 1) xs zs k.1) end_left in
      let here : (E l).left ≡ stmt_then l s rest = ap (λ x. x.left) k.0 in (
        here,
        upto_join l (l + 1) m
            (upto_one l (l + 1) refl (here_fits l _ k.0 (record {
              next = end;
              after = end + 1;
              next_is = refl;
              after_is = refl;
              below = omega arith;
              above = omega arith;
              inside = omega arith;
              does = record {
                stmt = s;
                here = here ∙ ap (stmt_then l s) (sym m_left);
                acts = act_of-If l (E (end + 1)).left e body None ∙ ap (λ (b : Left). Chooses e b (E (end + 1)).left) (ap (body_then (l + 1) body) m_left ∙ sym first.0);
                shares = refl;
              };
            })))
            (upto_join (l + 1) end m first.1
            (upto_one end m q (here_fits end _ tail.0 (p, omega arith, subst (λ (x : ScriptLine). EndOfBlock E last end l x.row.form) (sym k.0) (omega arith, end_left ∙ sym m_left))))),
      )

  if_else_fits : (e : Expr) (body other : List Stmt) → FitBody body → FitBody other → FitStmt (If e body (Some other))
  if_else_fits e body other fit also l m rest me i p h r =
      let s = If e body (Some other) in
      let half = l + 1 + body_size body in
      let end = half + 1 + body_size other in
      let after = Some (at (end + 1)) in
      let xs = body_layout (l + 1) body rest in
      let ws = body_layout (half + 1) other rest in
      let zs : List ScriptLine = closing_line form.End (Some (at l)) after rest ∷ [] in
      let ys : List ScriptLine = middle_line form.Else end after rest (Catches []) ∷ (ws ++ zs) in
      let k : Stand E l (opening_line (form.If e) end half after (stmt_then l s rest) ∷ (xs ++ ys)) = subst (Stand E l) (layout-If-else l e body other rest) h in
      let mid = stand_right E (l + 1) half xs ys (omega (arith, body_layout_size (l + 1) body rest)) k.1 in
      let tail = stand_right E (half + 1) end ws zs (omega (arith, body_layout_size (half + 1) other rest)) mid.1 in
      let end_left : (E end).left ≡ rest = ap (λ x. x.left) tail.0 in
      let half_left : (E half).left ≡ rest = ap (λ x. x.left) mid.0 in
      let q : m ≡ end + 1 = omega (arith, me, size-If-else e body other) in
      let m_left : (E (end + 1)).left ≡ rest = ap (λ x. (E x).left) (sym q) ∙ r in
      let first = fit (l + 1) half rest refl (omega arith) (omega arith) (stand_left E (l + 1) xs ys k.1) half_left in
      let second = also (half + 1) end rest refl (omega arith) (omega arith) (stand_left E (half + 1) ws zs mid.1) end_left in
      let here : (E l).left ≡ stmt_then l s rest = ap (λ x. x.left) k.0 in (
        here,
        upto_join l (l + 1) m
            (upto_one l (l + 1) refl (here_fits l _ k.0 (record {
              next = half;
              after = end + 1;
              next_is = refl;
              after_is = refl;
              below = omega arith;
              above = omega arith;
              inside = omega arith;
              does = record {
                stmt = s;
                here = here ∙ ap (stmt_then l s) (sym m_left);
                acts = act_of-If l (E (end + 1)).left e body (Some other) ∙ (λ j. Chooses e ((ap (body_then (l + 1) body) m_left ∙ sym first.0) j) ((ap (body_then (half + 1) other) m_left ∙ sym second.0) j));
                shares = refl;
              };
            })))
            (upto_join (l + 1) half m first.1
            (upto_join half (half + 1) m
            (upto_one half (half + 1) refl (here_fits half _ mid.0 (record { after = end + 1; after_is = refl; above = omega arith; inside = omega arith; here = half_left ∙ sym m_left })))
            (upto_join (half + 1) end m second.1
            (upto_one end m q (here_fits end _ tail.0 (p, omega arith, subst (λ (x : ScriptLine). EndOfBlock E last end l x.row.form) (sym k.0) (omega arith, end_left ∙ sym m_left))))))),
      )

  while_fits : (e : Expr) (body : List Stmt) → FitBody body → FitStmt (While e body)
  while_fits e body fit l m rest me i p h r =
      let s = While e body in
      let end = l + 1 + body_size body in
      let after = Some (at (end + 1)) in
      let again = stmt_then l s rest in
      let xs = body_layout (l + 1) body again in
      let zs : List ScriptLine = closing_line form.End (Some (at l)) after again ∷ [] in
      let k : Stand E l (opening_line (form.While e) end end after again ∷ (xs ++ zs)) = subst (Stand E l) (layout-While l e body rest) h in
      let tail = stand_right E (l + 1) end xs zs (omega (arith, body_layout_size (l + 1) body again)) k.1 in
      let end_left : (E end).left ≡ again = ap (λ x. x.left) tail.0 in
      let q : m ≡ end + 1 = omega (arith, me, size-While e body) in
      let m_left : (E (end + 1)).left ≡ rest = ap (λ x. (E x).left) (sym q) ∙ r in
      let first = fit (l + 1) end again refl (omega arith) (omega arith) (stand_left E (l + 1) xs zs k.1) end_left in
      let here : (E l).left ≡ again = ap (λ x. x.left) k.0 in (
        here,
        upto_join l (l + 1) m
            (upto_one l (l + 1) refl (here_fits l _ k.0 (record {
              after = end + 1;
              after_is = refl;
              above = omega arith;
              inside = omega arith;
              does = record {
                stmt = s;
                here = here ∙ ap (stmt_then l s) (sym m_left);
                acts = act_of-While l (E (end + 1)).left e body ∙ ap (Repeats e) (ap (λ (x : Left). body_then (l + 1) body (stmt_then l s x)) m_left ∙ sym first.0);
                shares = refl;
              };
            })))
            (upto_join (l + 1) end m first.1
            (upto_one end m q (here_fits end _ tail.0 (p, omega arith, subst (λ (x : ScriptLine). EndOfBlock E last end l x.row.form) (sym k.0) (omega arith, end_left ∙ sym here))))),
      )

  try_catch_fits : (body : List Stmt) (clauses : List Clause) → FitBody body → FitClauses clauses → FitStmt (TryCatch body clauses)
  try_catch_fits body clauses fit also l m rest me i p h r =
      let s = TryCatch body clauses in
      let half = l + 1 + body_size body in
      let end = half + clauses_size clauses in
      let after = Some (at (end + 1)) in
      let xs = body_layout (l + 1) body (nothing half) in
      let ws = clauses_layout half clauses after in
      let zs : List ScriptLine = closing_line form.Endtry (Some (at l)) after (nothing end) ∷ [] in
      let k : Stand E l (opening_line form.Try end half after (stmt_then l s rest) ∷ (xs ++ (ws ++ zs))) = subst (Stand E l) (layout-TryCatch l body clauses rest) h in
      let mid = stand_right E (l + 1) half xs (ws ++ zs) (omega (arith, body_layout_size (l + 1) body (nothing half))) k.1 in
      let tail = stand_right E half end ws zs (omega (arith, clauses_layout_size half clauses after)) mid in
      let end_left : (E end).left ≡ nothing end = ap (λ x. x.left) tail.0 in
      let end_ways : (E end).ways ≡ Catches [] = ap (λ x. x.ways) tail.0 in
      let end_way : EndsTryBody (E end).row.form = subst (λ (x : ScriptLine). EndsTryBody x.row.form) (sym tail.0) tt in
      let q : m ≡ end + 1 = omega (arith, me, size-TryCatch body clauses, clauses_lines-size clauses) in
      let m_left : (E (end + 1)).left ≡ rest = ap (λ x. (E x).left) (sym q) ∙ r in
      let second = also half end after refl (omega arith) (omega arith) (stand_left E half ws zs mid) end_left end_ways end_way in
      let first = fit (l + 1) half (nothing half) refl (omega arith) (omega arith) (stand_left E (l + 1) xs (ws ++ zs) k.1) second.0 in
      let here : (E l).left ≡ stmt_then l s rest = ap (λ x. x.left) k.0 in
      let inside : (E (l + 1)).left ≡ body_at (l + 1) body = first.0 in (
        here,
        upto_join l (l + 1) m
            (upto_one l (l + 1) refl (here_fits l _ k.0 (record {
              next = half;
              after = end + 1;
              next_is = refl;
              after_is = refl;
              below = omega arith;
              above = omega arith;
              inside = omega arith;
              way = second.2;
              does = record {
                stmt = s;
                here = here ∙ ap (stmt_then l s) (sym m_left);
                acts = act_of-TryCatch l (E (end + 1)).left body clauses ∙ (λ j. Tries (sym inside j) (sym second.1 j));
                shares = refl;
              };
            })))
            (upto_join (l + 1) half m first.1
            (upto_join half end m second.3
            (upto_one end m q (here_fits end _ tail.0 (record { inside = omega arith; here = end_left; ways = end_ways }))))),
      )

  try_finally_fits : (body final : List Stmt) → FitBody body → FitBody final → FitStmt (TryFinally body final)
  try_finally_fits body final fit also l m rest me i p h r =
      let s = TryFinally body final in
      let half = l + 1 + body_size body in
      let end = half + 1 + body_size final in
      let after = Some (at (end + 1)) in
      let ways = Finally (body_at (half + 1) final) in
      let xs = body_layout (l + 1) body (nothing half) in
      let ws = body_layout (half + 1) final (nothing end) in
      let zs : List ScriptLine = closing_line form.Endtry (Some (at l)) after (nothing end) ∷ [] in
      let ys : List ScriptLine = middle_line form.Finally end after (nothing half) ways ∷ (ws ++ zs) in
      let k : Stand E l (opening_line form.Try end half after (stmt_then l s rest) ∷ (xs ++ ys)) = subst (Stand E l) (layout-TryFinally l body final rest) h in
      let mid = stand_right E (l + 1) half xs ys (omega (arith, body_layout_size (l + 1) body (nothing half))) k.1 in
      let tail = stand_right E (half + 1) end ws zs (omega (arith, body_layout_size (half + 1) final (nothing end))) mid.1 in
      let end_left : (E end).left ≡ nothing end = ap (λ x. x.left) tail.0 in
      let half_left : (E half).left ≡ nothing half = ap (λ x. x.left) mid.0 in
      let half_ways : (E half).ways ≡ ways = ap (λ x. x.ways) mid.0 in
      let half_way : EndsTryBody (E half).row.form = subst (λ (x : ScriptLine). EndsTryBody x.row.form) (sym mid.0) tt in
      let q : m ≡ end + 1 = omega (arith, me, size-TryFinally body final) in
      let m_left : (E (end + 1)).left ≡ rest = ap (λ x. (E x).left) (sym q) ∙ r in
      let first = fit (l + 1) half (nothing half) refl (omega arith) (omega arith) (stand_left E (l + 1) xs ys k.1) half_left in
      let second = also (half + 1) end (nothing end) refl (omega arith) (omega arith) (stand_left E (half + 1) ws zs mid.1) end_left in
      let here : (E l).left ≡ stmt_then l s rest = ap (λ x. x.left) k.0 in
      let inside : (E (l + 1)).left ≡ body_at (l + 1) body = first.0 in
      let last_part : (E (half + 1)).left ≡ body_at (half + 1) final = second.0 in (
        here,
        upto_join l (l + 1) m
            (upto_one l (l + 1) refl (here_fits l _ k.0 (record {
              next = half;
              after = end + 1;
              next_is = refl;
              after_is = refl;
              below = omega arith;
              above = omega arith;
              inside = omega arith;
              way = half_way;
              does = record {
                stmt = s;
                here = here ∙ ap (stmt_then l s) (sym m_left);
                acts = act_of-TryFinally l (E (end + 1)).left body final ∙ (λ j. Tries (sym inside j) (sym half_ways j));
                shares = refl;
              };
            })))
            (upto_join (l + 1) half m first.1
            (upto_join half (half + 1) m
            (upto_one half (half + 1) refl (here_fits half _ mid.0 (record { inside = omega arith; here = half_left; ways = half_ways ∙ ap Finally (sym last_part) })))
            (upto_join (half + 1) end m second.1
            (upto_one end m q (here_fits end _ tail.0 (record { inside = omega arith; here = end_left; ways = ap (λ x. x.ways) tail.0 })))))),
      )

  -- ---- bodies and clauses

  more_fits : (s : Stmt) (body : List Stmt) → FitStmt s → FitBody body → FitBody (s ∷ body)
  more_fits s body fit also l m rest me i p h r =
      let mid = l + size s in
      let first = body_then mid body rest in
      let e : m ≡ mid + body_size body = omega (arith, me, body_size-cons s body) in
      let tail = stand_right E l mid (stmt_layout l s first) (body_layout mid body rest) (omega (arith, stmt_layout_size l s first)) h in
      let second = also mid m rest e i (omega arith) tail r in
      let head = fit l mid first refl (omega arith) p (stand_left E l (stmt_layout l s first) (body_layout mid body rest) h) second.0 in
      (head.0, upto_join l mid m head.1 second.1)

  end_fits : FitBody []
  end_fits l m rest me i p h r = let k : l ≡ m = omega (arith, me, body_size-nil) in (ap (λ n. (E n).left) k ∙ r, upto_none l m (sym k))

  clause_at : (l next : ℕ) (after : Option Line) (names : Option NameId) (body : Left) (handlers : List Handler) → l < next → next < last →
      E l ≡ middle_line (clause_form names) next after (nothing l) (Catches (record { line = l; names = names; body = body } ∷ handlers)) →
      (E (l + 1)).left ≡ body → (E next).ways ≡ Catches handlers → EndsTryBody (E next).row.form → RowAt E last l (E l).row × EndsTryBody (E l).row.form
  clause_at l next after None body handlers p q e b w y = (
    here_fits l _ e (record {
      next = next;
      next_is = refl;
      above = p;
      inside = q;
      way = y;
      here = ap (λ x. x.left) e;
      handlers = handlers;
      others = w;
      ways = ap (λ x. x.ways) e ∙ ap (λ (z : Left). Catches (record { line = l; names = None; body = z } ∷ handlers)) (sym b);
    }),
    subst (λ (x : ScriptLine). EndsTryBody x.row.form) (sym e) tt,
  )
  clause_at l next after (Some x) body handlers p q e b w y = (
    here_fits l _ e (record {
      next = next;
      next_is = refl;
      above = p;
      inside = q;
      way = y;
      here = ap (λ x. x.left) e;
      handlers = handlers;
      others = w;
      ways = ap (λ x. x.ways) e ∙ ap (λ (z : Left). Catches (record { line = l; names = Some x; body = z } ∷ handlers)) (sym b);
    }),
    subst (λ (x : ScriptLine). EndsTryBody x.row.form) (sym e) tt,
  )

  clauses_fit : (c : Clause) (clauses : List Clause) → FitBody c.body → FitClauses clauses → FitClauses (c ∷ clauses)
  clauses_fit c clauses fit also l m after me i p h r w y =
      let next = l + 1 + body_size c.body in
      let xs = body_layout (l + 1) c.body (nothing next) in
      let ys = clauses_layout next clauses after in
      let tail = stand_right E (l + 1) next xs ys (omega (arith, body_layout_size (l + 1) c.body (nothing next))) h.1 in
      let second = also next m after (omega arith) i (omega arith) tail r w y in
      let first = fit (l + 1) next (nothing next) refl (omega arith) (omega arith) (stand_left E (l + 1) xs ys h.1) second.0 in
      let inside : (E (l + 1)).left ≡ body_at (l + 1) c.body = first.0 in
      let here = clause_at l next after c.names (body_at (l + 1) c.body) (handlers_at next clauses) (omega arith) (omega arith) h.0 inside second.1 second.2 in (
        ap (λ x. x.left) h.0,
        ap (λ x. x.ways) h.0,
        here.1,
        upto_join l (l + 1) m (upto_one l (l + 1) refl here.0) (upto_join (l + 1) next m first.1 second.3),
      )

  no_clause_fits : FitClauses []
  no_clause_fits l m after me i p h r w y =
      let k : m ≡ l = omega arith in
      subst (λ n. ((E n).left ≡ nothing n) × ((E n).ways ≡ Catches []) × EndsTryBody (E n).row.form × Upto n m) k (r, w, y, upto_none m m refl)

  fit_cases : StmtCases FitStmt FitBody FitClauses
  fit_cases = record {
    set = λ v e. one_fits (Set v e) _ _ _ (λ l. layout-Set l v e) (size-Set v e) (λ l rest. act_of-Set l rest v e) refl (λ l row a. a);
    say = λ e. one_fits (Say e) _ _ _ (λ l. layout-Say l e) (size-Say e) (λ l rest. act_of-Say l rest e) refl (λ l row a. a);
    if_alone = if_fits;
    if_else = if_else_fits;
    while = while_fits;
    try_catch = try_catch_fits;
    try_finally = try_finally_fits;
    raise = λ name. one_fits (Raise name) _ _ _ (λ l. layout-Raise l name) (size-Raise name) (λ l rest. act_of-Raise l rest name) refl (λ l row a. a);
    reraise = one_fits Reraise _ _ _ (λ l. layout-Reraise l) size-Reraise (λ l rest. act_of-Reraise l rest) refl (λ l row a. a);
    call = λ name e v. one_fits (Call name e v) _ _ _ (λ l. layout-Call l name e v) (size-Call name e v) (λ l rest. act_of-Call l rest name e v) refl (λ l row a. a);
    return = λ e. one_fits (Return e) _ _ _ (λ l. layout-Return l e) (size-Return e) (λ l rest. act_of-Return l rest e) refl (λ l row a. a);
    exit = λ e. one_fits (Exit e) _ _ _ (λ l. layout-Exit l e) (size-Exit e) (λ l rest. act_of-Exit l rest e) refl (λ l row a. a);
    dce = λ call. one_fits (Dce call) _ _ _ (λ l. layout-Dce l call) (size-Dce call) (λ l rest. act_of-Dce l rest call) refl (λ l row a. a);
    body_end = end_fits;
    body_more = more_fits;
    clauses_end = no_clause_fits;
    clauses_more = clauses_fit;
  }

  pub body_fits : (body : List Stmt) → FitBody body
  body_fits = body_induction FitStmt FitBody FitClauses fit_cases

-- Rows that are made are those of the statements.
use Rattle.std.proofs.Common.{◌≡◌, ℕ, zero, suc, ◌+◌, ◌<◌, ◌≤◌, List, [], ◌∷◌, ◌++◌, length, length-append, append_assoc, append-nil, take, drop, get_or, slice_set, Option, Some, None, refl, ap, sym, ◌∙◌, arith}
use Rattle.std.proofs.Math.Seq.{set-append_seam, take-append_seam, get_or-append_seam, drop-cons}
use Rattle.std.proofs.Math.ListN.{drop_of_length-le}
use Rattle.std.proofs.lemmas.List.{take_more, take_all}
use Rattle.thr_values.specs.declared.number.Line.{Line}
use Rattle.thr_syntax.specs.declared.form.Form.{Form}
use Rattle.thr_syntax.specs.declared.form.Form.TheVariants as form
use Rattle.thr_syntax.specs.declared.expr.Expr.{Expr}
use Rattle.thr_syntax.specs.declared.tree.Clause.{Clause}
use Rattle.thr_syntax.specs.declared.tree.Stmt.{Stmt, If, While, TryCatch, TryFinally}
use Rattle.thr_syntax.specs.Lines.{clause_form}
use Rattle.thr_remainder.specs.Places.{size, body_size, clauses_size}
use Rattle.thr_remainder.specs.Starts.{at}
use Rattle.thr_remainder.proofs.SizeLaws.{body_size-nil, body_size-cons}
use Rattle.thr_lines.specs.declared.row.Row.{Row}
use Rattle.thr_lines.specs.Layout.{stmt_rows, body_rows, clause_rows}
use Rattle.thr_lines.specs.Rows.{plain_row, opening_row, middle_row, closing_row, closed, closed_halves, row_at, with_after, HasNext}
use Rattle.thr_lines.proofs.RowLaws.{rows-If, rows-If-else, rows-While, rows-TryCatch, rows-TryFinally, rows-cons, rows-nil, clause_rows-cons, clause_rows-nil}
use Rattle.thr_lines.proofs.FormLaws.{body_count, clause_count}

-- ---- blocks

-- A block of which all but its first and last rows are made.
closed_is : (old more : List Row) (p : Row) (o c : Form) (place next end : ℕ) → place ≡ length old → end ≡ length old + 2 + length more →
    closed (old ++ p ∷ more) place next o c ≡ old ++ (opening_row o end next (Some (at (end + 1))) ∷ (more ++ closing_row c (Some (at (length old + 1))) (Some (at (end + 1))) ∷ []))
closed_is old more p o c place next end hp he =
    let n : length (old ++ p ∷ more) + 1 ≡ end = omega (arith, length-append old (p ∷ more), he) in
    let m : length (old ++ p ∷ more) + 2 ≡ end + 1 = omega (arith, length-append old (p ∷ more), he) in
    (λ i. slice_set (old ++ p ∷ more) (hp i) (opening_row o (n i) next (Some (at (m i)))) ++ closing_row c (Some (at (hp i + 1))) (Some (at (m i))) ∷ [])
    ∙ ap (λ (xs : List Row). xs ++ closing_row c (Some (at (length old + 1))) (Some (at (end + 1))) ∷ []) (set-append_seam old p more (opening_row o end next (Some (at (end + 1)))))
    ∙ append_assoc old (opening_row o end next (Some (at (end + 1))) ∷ more) (closing_row c (Some (at (length old + 1))) (Some (at (end + 1))) ∷ [])

-- The rows so far, where a place was left and a body made.
joins : (old one two more : List Row) (p : Row) → one ≡ old ++ p ∷ [] → two ≡ one ++ more → two ≡ old ++ p ∷ more
joins old one two more p h k = k ∙ ap (λ (xs : List Row). xs ++ more) h ∙ append_assoc old (p ∷ []) more

next_line : (old one : List Row) (p : Row) → one ≡ old ++ p ∷ [] → length one + 1 ≡ length old + 1 + 1
next_line old one p h = omega (arith, ap length h, length-append old (p ∷ []))

module _ (old one two : List Row) (p : Row) (place : ℕ) (body : List Stmt) where
  abbrev IsBody : Type 0
  IsBody = (place ≡ length old) × (one ≡ old ++ p ∷ []) × (two ≡ one ++ body_rows (length one + 1) body)

  made : IsBody → two ≡ old ++ p ∷ body_rows (length old + 1 + 1) body
  made h = joins old one two (body_rows (length old + 1 + 1) body) p h.1 (h.2 ∙ ap (λ n. one ++ body_rows n body) (next_line old one p h.1))

  made_size : IsBody → length two ≡ length old + 1 + body_size body
  made_size h = omega (arith, ap length (made h), length-append old (p ∷ body_rows (length old + 1 + 1) body), body_count body (length old + 1 + 1))

  pub built_if : (e : Expr) (next : ℕ) (new : List Row) → IsBody → next ≡ length two + 1 → new ≡ closed two place next (form.If e) form.End →
      new ≡ old ++ stmt_rows (length old + 1) (If e body None)
  built_if e next new h hn k =
      let l = length old + 1 in
      let end = l + 1 + body_size body in
      let n : next ≡ end = omega (arith, hn, made_size h) in
      let m : end ≡ length old + 2 + length (body_rows (l + 1) body) = omega (arith, body_count body (l + 1)) in
      k ∙ (λ i. closed (made h i) place (n i) (form.If e) form.End)
      ∙ closed_is old (body_rows (l + 1) body) p (form.If e) form.End place end end h.0 m
      ∙ ap (λ (xs : List Row). old ++ xs) (sym (rows-If l e body))

  pub built_while : (e : Expr) (next : ℕ) (new : List Row) → IsBody → next ≡ length two + 1 → new ≡ closed two place next (form.While e) form.End →
      new ≡ old ++ stmt_rows (length old + 1) (While e body)
  built_while e next new h hn k =
      let l = length old + 1 in
      let end = l + 1 + body_size body in
      let n : next ≡ end = omega (arith, hn, made_size h) in
      let m : end ≡ length old + 2 + length (body_rows (l + 1) body) = omega (arith, body_count body (l + 1)) in
      k ∙ (λ i. closed (made h i) place (n i) (form.While e) form.End)
      ∙ closed_is old (body_rows (l + 1) body) p (form.While e) form.End place end end h.0 m
      ∙ ap (λ (xs : List Row). old ++ xs) (sym (rows-While l e body))

  -- A second body after a place that was left.
  module _ (three four : List Row) (q : Row) (half : ℕ) (other : List Stmt) where
    abbrev IsSecond : Type 0
    IsSecond = (half ≡ length two) × (three ≡ two ++ q ∷ []) × (four ≡ three ++ body_rows (length three + 1) other)

    both : IsBody → IsSecond → four ≡ old ++ p ∷ (body_rows (length old + 1 + 1) body ++ q ∷ body_rows (length two + 1 + 1) other)
    both h k =
        joins two three four (body_rows (length two + 1 + 1) other) q k.1 (k.2 ∙ ap (λ n. three ++ body_rows n other) (next_line two three q k.1))
        ∙ ap (λ (xs : List Row). xs ++ q ∷ body_rows (length two + 1 + 1) other) (made h)
        ∙ append_assoc old (p ∷ body_rows (length old + 1 + 1) body) (q ∷ body_rows (length two + 1 + 1) other)

    built_two : (s : Stmt) (o m c : Form) (new : List Row) →
        let l = length old + 1 in let mid = l + 1 + body_size body in let end = mid + 1 + body_size other in let after = Some (at (end + 1)) in
        stmt_rows l s ≡ opening_row o end mid after ∷ (body_rows (l + 1) body ++ (middle_row m end after ∷ (body_rows (mid + 1) other ++ closing_row c (Some (at l)) after ∷ []))) →
        IsBody → IsSecond → new ≡ closed_halves four place half o m c → new ≡ old ++ stmt_rows l s
    built_two s o m c new rows_are h k is =
        let l = length old + 1 in
        let mid = l + 1 + body_size body in
        let end = mid + 1 + body_size other in
        let after = Some (at (end + 1)) in
        let first = body_rows (l + 1) body in
        let second = body_rows (mid + 1) other in
        let two_is : length two + 1 ≡ mid = omega (arith, made_size h) in
        let all : four ≡ old ++ p ∷ (first ++ q ∷ second) = both h k ∙ ap (λ n. old ++ p ∷ (first ++ q ∷ body_rows (n + 1) other)) two_is in
        let split : four ≡ (old ++ p ∷ first) ++ q ∷ second = all ∙ sym (append_assoc old (p ∷ first) (q ∷ second)) in
        let place_is : half ≡ length (old ++ p ∷ first) = k.0 ∙ ap length (made h) in
        let n1 : length four + 1 ≡ end = omega (arith, ap length all, length-append old (p ∷ (first ++ q ∷ second)), length-append first (q ∷ second), body_count body (l + 1), body_count other (mid + 1)) in
        let n2 : length four + 2 ≡ end + 1 = omega (arith, n1) in
        let filled : slice_set four half (middle_row m (length four + 1) (Some (at (length four + 2)))) ≡ old ++ p ∷ (first ++ middle_row m end after ∷ second) =
        (λ i. slice_set (split i) (place_is i) (middle_row m (n1 i) (Some (at (n2 i)))))
        ∙ set-append_seam (old ++ p ∷ first) q second (middle_row m end after)
        ∙ append_assoc old (p ∷ first) (middle_row m end after ∷ second) in
        let next_is : half + 1 ≡ mid = omega (arith, k.0, two_is) in
        let more = first ++ middle_row m end after ∷ second in
        let size_is : end ≡ length old + 2 + length more = omega (arith, length-append first (middle_row m end after ∷ second), body_count body (l + 1), body_count other (mid + 1)) in
        is
        ∙ (λ i. closed (filled i) place (next_is i) o c)
        ∙ closed_is old more p o c place mid end h.0 size_is
        ∙ ap (λ (xs : List Row). old ++ (opening_row o end mid after ∷ xs)) (append_assoc first (middle_row m end after ∷ second) (closing_row c (Some (at l)) after ∷ []))
        ∙ ap (λ (xs : List Row). old ++ xs) (sym rows_are)

    pub built_if_else : (e : Expr) (new : List Row) → IsBody → IsSecond → new ≡ closed_halves four place half (form.If e) form.Else form.End → new ≡ old ++ stmt_rows (length old + 1) (If e body (Some other))
    built_if_else e new h k is = built_two (If e body (Some other)) (form.If e) form.Else form.End new (rows-If-else (length old + 1) e body other) h k is

    pub built_finally : (new : List Row) → IsBody → IsSecond → new ≡ closed_halves four place half form.Try form.Finally form.Endtry → new ≡ old ++ stmt_rows (length old + 1) (TryFinally body other)
    built_finally new h k is = built_two (TryFinally body other) form.Try form.Finally form.Endtry new (rows-TryFinally (length old + 1) body other) h k is

  -- Clauses after the body, whose line after the try is known last.
  pub built_try : (three four new : List Row) (half next after : ℕ) (clauses : List Clause) → IsBody → half ≡ length two →
      three ≡ two ++ clause_rows (length two + 1) clauses None → after ≡ length three + 2 → four ≡ take half three ++ clause_rows (half + 1) clauses (Some (at after)) →
      next ≡ half + 1 → new ≡ closed four place next form.Try form.Endtry → new ≡ old ++ stmt_rows (length old + 1) (TryCatch body clauses)
  built_try three four new half next after clauses h half_is three_is after_is four_is next_is is =
      let l = length old + 1 in
      let mid = l + 1 + body_size body in
      let end = mid + clauses_size clauses in
      let first = body_rows (l + 1) body in
      let second = clause_rows mid clauses (Some (at (end + 1))) in
      let half_mid : half + 1 ≡ mid = omega (arith, half_is, made_size h) in
      let three_size : after ≡ end + 1 = omega (arith, after_is, ap length three_is, length-append two (clause_rows (length two + 1) clauses None), clause_count clauses (length two + 1) None, made_size h) in
      let front : take half three ≡ two = (λ i. take (half_is i) (three_is i)) ∙ take-append_seam two (clause_rows (length two + 1) clauses None) in
      let all : four ≡ old ++ p ∷ (first ++ second) =
      four_is ∙ (λ i. front i ++ clause_rows (half_mid i) clauses (Some (at (three_size i))))
      ∙ ap (λ (xs : List Row). xs ++ second) (made h)
      ∙ append_assoc old (p ∷ first) second in
      let size_is : end ≡ length old + 2 + length (first ++ second) = omega (arith, length-append first second, body_count body (l + 1), clause_count clauses mid (Some (at (end + 1)))) in
      is
      ∙ (λ i. closed (all i) place (next_is i) form.Try form.Endtry)
      ∙ ap (λ n. closed (old ++ p ∷ (first ++ second)) place n form.Try form.Endtry) half_mid
      ∙ closed_is old (first ++ second) p form.Try form.Endtry place mid end h.0 size_is
      ∙ ap (λ (xs : List Row). old ++ (opening_row form.Try end mid (Some (at (end + 1))) ∷ xs)) (append_assoc first second (closing_row form.Endtry (Some (at l)) (Some (at (end + 1))) ∷ []))
      ∙ ap (λ (xs : List Row). old ++ xs) (sym (rows-TryCatch l body clauses))

-- ---- one after another

rows-snoc : (l m : ℕ) (xs : List Stmt) (x : Stmt) → m ≡ l + body_size xs → body_rows l (xs ++ x ∷ []) ≡ body_rows l xs ++ stmt_rows m x
rows-snoc l m [] x h =
    let e : l ≡ m = omega (arith, h, body_size-nil) in
    rows-cons l x []
    ∙ ap (λ (r : List Row). stmt_rows l x ++ r) (rows-nil (l + size x))
    ∙ append-nil (stmt_rows l x)
    ∙ ap (λ n. stmt_rows n x) e
    ∙ sym (ap (λ (r : List Row). r ++ stmt_rows m x) (rows-nil l))
rows-snoc l m (y ∷ ys) x h =
    let e : m ≡ l + size y + body_size ys = omega (arith, h, body_size-cons y ys) in
    rows-cons l y (ys ++ x ∷ [])
    ∙ ap (λ (r : List Row). stmt_rows l y ++ r) (rows-snoc (l + size y) m ys x e)
    ∙ sym (append_assoc (stmt_rows l y) (body_rows (l + size y) ys) (stmt_rows m x))
    ∙ ap (λ (r : List Row). r ++ stmt_rows m x) (sym (rows-cons l y ys))

-- The rows of one more statement of a body.
pub built_more : (old now next : List Row) (body : List Stmt) (i : ℕ) (s : Stmt) → i < length body → s ≡ get_or body i s →
    now ≡ old ++ body_rows (length old + 1) (take i body) → next ≡ now ++ stmt_rows (length now + 1) s → next ≡ old ++ body_rows (length old + 1) (take (i + 1) body)
built_more old now next body i s h g n k =
    let l = length old + 1 in
    let e : length now + 1 ≡ l + body_size (take i body) = omega (arith, ap length n, length-append old (body_rows l (take i body)), body_count (take i body) l) in
    k ∙ ap (λ (r : List Row). r ++ stmt_rows (length now + 1) s) n
    ∙ append_assoc old (body_rows l (take i body)) (stmt_rows (length now + 1) s)
    ∙ ap (λ (r : List Row). old ++ r) (sym (rows-snoc l (length now + 1) (take i body) s e))
    ∙ ap (λ (z : Stmt). old ++ body_rows l (take i body ++ z ∷ [])) g
    ∙ ap (λ (b : List Stmt). old ++ body_rows l b) (sym (take_more body i s h))

pub built_none : (old : List Row) → old ≡ old ++ body_rows (length old + 1) []
built_none old = sym (ap (λ (r : List Row). old ++ r) (rows-nil (length old + 1)) ∙ append-nil old)

-- ---- clauses

clauses-snoc : (l m : ℕ) (xs : List Clause) (x : Clause) (after : Option Line) → m ≡ l + clauses_size xs →
    clause_rows l (xs ++ x ∷ []) after ≡ clause_rows l xs after ++ clause_rows m (x ∷ []) after
clauses-snoc l m [] x after h =
    let e : l ≡ m = omega (arith, h) in
    ap (λ n. clause_rows n (x ∷ []) after) e ∙ sym (ap (λ (r : List Row). r ++ clause_rows m (x ∷ []) after) (clause_rows-nil l after))
clauses-snoc l m (y ∷ ys) x after h =
    let next = l + 1 + body_size y.body in
    let e : m ≡ next + clauses_size ys = omega (arith, h) in
    let head = middle_row (clause_form y.names) next after in
    clause_rows-cons l y (ys ++ x ∷ []) after
    ∙ ap (λ (r : List Row). head ∷ (body_rows (l + 1) y.body ++ r)) (clauses-snoc next m ys x after e)
    ∙ ap (λ (r : List Row). head ∷ r) (sym (append_assoc (body_rows (l + 1) y.body) (clause_rows next ys after) (clause_rows m (x ∷ []) after)))
    ∙ ap (λ (r : List Row). r ++ clause_rows m (x ∷ []) after) (sym (clause_rows-cons l y ys after))

clauses-one : (l : ℕ) (c : Clause) (after : Option Line) → clause_rows l (c ∷ []) after ≡ middle_row (clause_form c.names) (l + 1 + body_size c.body) after ∷ body_rows (l + 1) c.body
clauses-one l c after =
    clause_rows-cons l c [] after
    ∙ ap (λ (r : List Row). middle_row (clause_form c.names) (l + 1 + body_size c.body) after ∷ (body_rows (l + 1) c.body ++ r)) (clause_rows-nil (l + 1 + body_size c.body) after)
    ∙ ap (λ (r : List Row). middle_row (clause_form c.names) (l + 1 + body_size c.body) after ∷ r) (append-nil (body_rows (l + 1) c.body))

-- The rows of one more clause of a try, whose line after it is not known yet.
pub built_clause : (old now one two next : List Row) (p : Row) (place : ℕ) (clauses : List Clause) (i : ℕ) (c : Clause) → i < length clauses → c ≡ get_or clauses i c →
    now ≡ old ++ clause_rows (length old + 1) (take i clauses) None → IsBody now one two p place c.body →
    next ≡ slice_set two place (middle_row (clause_form c.names) (length two + 1) None) → next ≡ old ++ clause_rows (length old + 1) (take (i + 1) clauses) None
built_clause old now one two next p place clauses i c h g n b k =
    let l = length old + 1 in
    let m = length now + 1 in
    let e : m ≡ l + clauses_size (take i clauses) = omega (arith, ap length n, length-append old (clause_rows l (take i clauses) None), clause_count (take i clauses) l None) in
    let z : length two + 1 ≡ m + 1 + body_size c.body = omega (arith, made_size now one two p place c.body b) in
    k ∙ (λ i. slice_set (made now one two p place c.body b i) (b.0 i) (middle_row (clause_form c.names) (z i) None))
    ∙ set-append_seam now p (body_rows (m + 1) c.body) (middle_row (clause_form c.names) (m + 1 + body_size c.body) None)
    ∙ ap (λ (r : List Row). now ++ r) (sym (clauses-one m c None))
    ∙ ap (λ (r : List Row). r ++ clause_rows m (c ∷ []) None) n
    ∙ append_assoc old (clause_rows l (take i clauses) None) (clause_rows m (c ∷ []) None)
    ∙ ap (λ (r : List Row). old ++ r) (sym (clauses-snoc l m (take i clauses) c None e))
    ∙ ap (λ (z : Clause). old ++ clause_rows l (take i clauses ++ z ∷ []) None) g
    ∙ ap (λ (b : List Clause). old ++ clause_rows l b None) (sym (take_more clauses i c h))

pub built_no_clause : (old : List Row) → old ≡ old ++ clause_rows (length old + 1) [] None
built_no_clause old = sym (ap (λ (r : List Row). old ++ r) (clause_rows-nil (length old + 1) None) ∙ append-nil old)

-- The row of the first of some clauses, and the rows with its line after the try.
module _ (front : List Row) (rows : List Row) (place : ℕ) (c : Clause) (clauses : List Clause) where
  first_row : Row
  first_row = middle_row (clause_form c.names) (place + 1 + 1 + body_size c.body) None

  abbrev IsNext : Type 0
  IsNext = (place ≡ length front) × (rows ≡ front ++ clause_rows (place + 1) (c ∷ clauses) None)

  others : List Row
  others = body_rows (place + 1 + 1) c.body ++ clause_rows (place + 1 + 1 + body_size c.body) clauses None

  rows_split : IsNext → rows ≡ front ++ first_row ∷ others
  unfolding first_row others
  rows_split h = h.1 ∙ ap (λ (r : List Row). front ++ r) (clause_rows-cons (place + 1) c clauses None)

  first_at : IsNext → row_at rows place ≡ first_row
  first_at h = (λ i. row_at (rows_split h i) (h.0 i)) ∙ get_or-append_seam front first_row others (plain_row form.Else)

  next_line_is : IsNext → (row_at rows place).next ≡ Some (at (place + 1 + 1 + body_size c.body))
  unfolding first_row
  next_line_is h = ap (λ (r : Row). r.next) (first_at h)

  pub next_part : IsNext → HasNext rows place
  next_part h = record {
    within = omega (arith, h.0, ap length (rows_split h), length-append front (first_row ∷ others));
    next = place + 1 + body_size c.body;
    next_is = next_line_is h ∙ ap (λ n. Some (at n)) (let e : place + 1 + 1 + body_size c.body ≡ place + 1 + body_size c.body + 1 = omega arith in e);
  }

  pub next_settled : (after : Line) → IsNext → with_after rows place after ≡ (front ++ clause_rows (place + 1) (c ∷ []) (Some after)) ++ clause_rows (place + 1 + 1 + body_size c.body) clauses None
  unfolding first_row others
  next_settled after h =
      let l = place + 1 in
      let whole : Row → Row = λ r. record { form = r.form; partner = r.partner; next = r.next; after = Some after } in
      let body = body_rows (l + 1) c.body in
      let more = clause_rows (l + 1 + body_size c.body) clauses None in
      (λ i. slice_set (rows_split h i) (h.0 i) (whole (first_at h i)))
      ∙ set-append_seam front first_row others (whole first_row)
      ∙ sym (append_assoc front (whole first_row ∷ body) more)
      ∙ ap (λ (r : List Row). (front ++ r) ++ more) (sym (clauses-one l c (Some after)))

-- The line after a try changes no number of rows.
pub as_many : (rows new : List Row) (half l : ℕ) (clauses : List Clause) (before after : Option Line) → rows ≡ take half rows ++ clause_rows l clauses before →
    new ≡ take half rows ++ clause_rows l clauses after → length new ≡ length rows
as_many rows new half l clauses before after h k =
    ap length k
    ∙ length-append (take half rows) (clause_rows l clauses after)
    ∙ ap (λ n. length (take half rows) + n) (clause_count clauses l after ∙ sym (clause_count clauses l before))
    ∙ sym (length-append (take half rows) (clause_rows l clauses before))
    ∙ sym (ap length h)

line_number : (m n : ℕ) → (let x : Option Line = Some (at m) in x) ≡ Some (at n) → m ≡ n
line_number m n h = ap number h
  where
    number : Option Line → ℕ
    number None = 0
    number (Some line) = line.0

-- The state of setting lines in rows of clauses.
pub record IsSettling (front now : List Row) (half here i : ℕ) (after : Line) (clauses : List Clause) : Type 0 where
  pub place : here ≡ half + clauses_size (take i clauses)
  pub rows : now ≡ (front ++ clause_rows (half + 1) (take i clauses) (Some after)) ++ clause_rows (here + 1) (drop i clauses) None

sizes-snoc : (xs : List Clause) (c : Clause) → clauses_size (xs ++ c ∷ []) ≡ clauses_size xs + (1 + body_size c.body)
sizes-snoc [] c = omega arith
sizes-snoc (x ∷ xs) c = omega (arith, sizes-snoc xs c)

-- An element at a place within a list.
item_at : (clauses : List Clause) (i : ℕ) → i < length clauses → (c : Clause) × (c ≡ get_or clauses i c)
item_at [] i h = absurd (omega arith)
item_at (c ∷ clauses) zero h = (c, refl)
item_at (c ∷ clauses) (suc i) h = item_at clauses i (omega arith)

module _ (front now : List Row) (half here i : ℕ) (after : Line) (clauses : List Clause) where
  settling_front : List Row
  settling_front = front ++ clause_rows (half + 1) (take i clauses) (Some after)

  settling_next : length front ≡ half → i < length clauses → IsSettling front now half here i after clauses → (c : Clause) → c ≡ get_or clauses i c → IsNext settling_front now here c (drop (i + 1) clauses)
  unfolding settling_front
  settling_next f h s c g =
      let e : i + 1 ≡ suc i = omega arith in (
        omega (arith, s.place, f, length-append front (clause_rows (half + 1) (take i clauses) (Some after)), clause_count (take i clauses) (half + 1) (Some after)),
        s.rows ∙ ap (λ (cs : List Clause). settling_front ++ clause_rows (here + 1) cs None) (drop-cons clauses i c h ∙ (λ j. sym g j ∷ drop (sym e j) clauses)),
      )

  pub settling_part : length front ≡ half → i < length clauses → IsSettling front now half here i after clauses → HasNext now here
  settling_part f h s =
      let some = item_at clauses i h in
      next_part settling_front now here some.0 (drop (i + 1) clauses) (settling_next f h s some.0 some.1)

  pub settling_more : (next : List Row) (there : ℕ) → length front ≡ half → i < length clauses → IsSettling front now half here i after clauses →
      next ≡ with_after now here after → (row_at now here).next ≡ Some (at (there + 1)) → IsSettling front next half there (i + 1) after clauses
  unfolding settling_front
  settling_more next there f h s k w =
      let some = item_at clauses i h in
      let c = some.0 in
      let n = settling_next f h s c some.1 in
      let mid = half + 1 in
      let there_is : there ≡ here + 1 + body_size c.body = omega (arith, line_number (there + 1) (here + 1 + 1 + body_size c.body) (sym w ∙ next_line_is settling_front now here c (drop (i + 1) clauses) n)) in
      let size_is : clauses_size (take (i + 1) clauses) ≡ clauses_size (take i clauses) + (1 + body_size c.body) = ap clauses_size (take_more clauses i c h ∙ ap (λ z. take i clauses ++ z ∷ []) (sym some.1)) ∙ sizes-snoc (take i clauses) c in
      let e : here + 1 ≡ mid + clauses_size (take i clauses) = omega (arith, s.place) in
      let joined : front ++ clause_rows mid (take (i + 1) clauses) (Some after) ≡ settling_front ++ clause_rows (here + 1) (c ∷ []) (Some after) =
      ap (λ (cs : List Clause). front ++ clause_rows mid cs (Some after)) (take_more clauses i c h ∙ ap (λ z. take i clauses ++ z ∷ []) (sym some.1))
      ∙ ap (λ (r : List Row). front ++ r) (clauses-snoc mid (here + 1) (take i clauses) c (Some after) e)
      ∙ sym (append_assoc front (clause_rows mid (take i clauses) (Some after)) (clause_rows (here + 1) (c ∷ []) (Some after))) in
      record {
        place = omega (arith, there_is, size_is, s.place);
        rows = k ∙ next_settled settling_front now here c (drop (i + 1) clauses) after n
            ∙ (λ j. sym joined j ++ clause_rows (let z : here + 1 + 1 + body_size c.body ≡ there + 1 = omega (arith, there_is) in z j) (drop (i + 1) clauses) None);
      }

pub settling_first : (front now : List Row) (half : ℕ) (after : Line) (clauses : List Clause) → now ≡ front ++ clause_rows (half + 1) clauses None → IsSettling front now half half 0 after clauses
settling_first front now half after clauses h = record {
  place = omega arith;
  rows = h ∙ ap (λ (r : List Row). r ++ clause_rows (half + 1) clauses None) (sym (ap (λ (r : List Row). front ++ r) (clause_rows-nil (half + 1) (Some after)) ∙ append-nil front));
}

pub settling_last : (front now : List Row) (half here i : ℕ) (after : Line) (clauses : List Clause) → length clauses ≤ i → IsSettling front now half here i after clauses →
    now ≡ front ++ clause_rows (half + 1) clauses (Some after)
settling_last front now half here i after clauses h s =
    s.rows
    ∙ (λ j. (front ++ clause_rows (half + 1) (take_all i clauses h j) (Some after)) ++ clause_rows (here + 1) (drop_of_length-le clauses {i = i} h j) None)
    ∙ ap (λ (r : List Row). (front ++ clause_rows (half + 1) clauses (Some after)) ++ r) (clause_rows-nil (here + 1) None)
    ∙ append-nil (front ++ clause_rows (half + 1) clauses (Some after))

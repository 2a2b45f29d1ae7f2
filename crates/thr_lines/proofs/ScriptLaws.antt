-- What is known at the lines of a script.
use Rattle.std.proofs.Common.{◌≡◌, ℕ, suc, ◌+◌, ◌<◌, ◌≤◌, Bool, true, false, if◌then◌else◌, List, [], ◌∷◌, ◌++◌, length, Option, Some, None, refl, ap, sym, ◌∙◌, subst, arith, length-append, append_assoc, map, get_or, slice_get, unwrap_or, nat_lt}
use Rattle.std.specs.Option.{IfSome}
use Rattle.std.proofs.lemmas.Bool.Decides.{nat_tests}
use Rattle.thr_values.specs.declared.exception.Exc.{Exc}
use Rattle.thr_values.specs.declared.exception.Exc.TheVariants.{Address}
use Rattle.thr_lines.specs.declared.start.Start.{Start}
use Rattle.thr_lines.specs.Tables.{start_of, routine_start}
use Rattle.std.specs.Option.{option_or, option_map}
use Rattle.std.proofs.lemmas.Option.{slice_get-map, slice_get-get_or}
use Rattle.std.proofs.lemmas.List.{length-map, get_or_at, get_or-map}
use Rattle.thr_values.specs.declared.number.NameId.{NameId}
use Rattle.thr_values.specs.declared.number.Line.{Line}
use Rattle.thr_syntax.specs.declared.form.Form.{Form}
use Rattle.thr_syntax.specs.declared.form.Form.TheVariants as form
use Rattle.thr_syntax.specs.declared.tree.Item.{Item}
use Rattle.thr_syntax.specs.declared.tree.Item.TheVariants as item
use Rattle.thr_syntax.specs.declared.tree.Routine.{Routine}
use Rattle.thr_syntax.specs.declared.tree.Script.{Script}
use Rattle.thr_syntax.specs.Lines.{item_lines, routine_lines, lines_of}
use Rattle.thr_remainder.specs.Places.{Left, body_size, body_at, nothing}
use Rattle.thr_remainder.specs.Declarations.{Entry, is_same_name, entry_at, entry_here, entry_in, routine_of, exception_in, exception_of}
use Rattle.std.proofs.lemmas.Option.{none-some}
use Rattle.thr_lines.specs.declared.row.Row.{Row}
use Rattle.thr_lines.specs.Layout.{ScriptLine, plain_line, closing_line, body_layout, head_layout, head_line, routine_layout, item_layout, line_if_any, items_layout, script_layout, last_line, no_line, line_at, row_of, item_rows, script_rows}
use Rattle.thr_lines.specs.Rows.{row_at, plain_row}
use Rattle.thr_lines.specs.AtLines.{EndAt, EndOfBlock, RowAt, BodyAt, StartsAt}
use Rattle.thr_lines.proofs.FormLaws.{form_in}
use Rattle.thr_lines.proofs.ItemLaws.{item_count, routine_size, script_forms, script_count}
use Rattle.thr_lines.proofs.FitLaws.{body_layout_size, Stand, stand_left, stand_right, Upto, here_fits, upto_one, upto_join, upto_none, body_fits}

-- A list stands where it is read.
stands : (front es : List ScriptLine) (l : ℕ) → length front ≡ l → Stand (λ k. get_or (front ++ es) k no_line) l es
stands front [] l h = tt
stands front (e ∷ es) l h =
    let P : List ScriptLine → Type 0 = λ t. Stand (λ k. get_or t k no_line) (l + 1) es in (
      get_or_at front e es no_line l h,
      subst P (append_assoc front (e ∷ []) es) (stands (front ++ e ∷ []) es (l + 1) (omega (arith, h, length-append front (e ∷ [])))),
    )

pub item_layout_size : (l : ℕ) (i : Item) (after : Option Line) → length (item_layout l i after) ≡ length (item_lines i)
unfolding item_rows
item_layout_size l i after = sym (length-map (item_layout l i after) row_of) ∙ item_count l i after

head_layout_size : (name : NameId) (locals : List (List ℕ)) (end : ℕ) (after : Option Line) (left : Left) → length (head_layout name locals end after left) ≡ length locals
head_layout_size name [] end after left = refl
head_layout_size name (p ∷ locals) end after left = omega (arith, length-map locals (λ (n : List ℕ). plain_line (form.Local n) left))

module _ (E : ℕ → ScriptLine) (last : ℕ) where
  -- ---- routines

  locals_fit : (locals : List (List ℕ)) (l m : ℕ) (left : Left) → m ≡ l + length locals → m ≤ last → Stand E l (map (λ (n : List ℕ). plain_line (form.Local n) left) locals) → (E m).left ≡ left →
      ((E l).left ≡ left) × Upto E last l m
  locals_fit [] l m left e i h r = let k : l ≡ m = omega (arith, e) in (ap (λ n. (E n).left) k ∙ r, upto_none E last l m (sym k))
  locals_fit (n ∷ locals) l m left e i h r =
      let more = locals_fit locals (l + 1) m left (omega arith) i h.1 r in
      let here : (E l).left ≡ left = ap (λ x. x.left) h.0 in
      (here, upto_join E last l (l + 1) m (upto_one E last l (l + 1) refl (here_fits E last l _ h.0 (record { inside = omega arith; here = here ∙ sym more.0 }))) more.1)

  head_fits : (name : NameId) (locals : List (List ℕ)) (l m end : ℕ) (after : Option Line) (left : Left) → m ≡ l + length locals → m ≤ last → Stand E l (head_layout name locals end after left) → (E m).left ≡ left →
      Upto E last l m
  head_fits name [] l m end after left e i h r = upto_none E last l m (omega arith)
  head_fits name (p ∷ locals) l m end after left e i h r =
      let more = locals_fit locals (l + 1) m left (omega arith) i h.1 r in
      let here : (E l).left ≡ left = ap (λ x. x.left) h.0 in
      upto_join E last l (l + 1) m (upto_one E last l (l + 1) refl (here_fits E last l _ h.0 (record { inside = omega arith; here = here ∙ sym more.0 }))) more.1

  end_by : (name : NameId) (locals : List (List ℕ)) (l end stop : ℕ) (after : Option Line) (left : Left) → 1 ≤ l → l + length locals ≤ end → Stand E l (head_layout name locals stop after left) → (E end).left ≡ nothing end →
      EndAt E last end (head_line l locals)
  end_by name [] l end stop after left b p h r = r
  end_by name (n ∷ locals) l end stop after left b p h r = (b, omega arith, subst (λ (x : ScriptLine). EndOfBlock E last end l x.row.form) (sym h.0) r)

  routine_fits : (r : Routine) (l m : ℕ) (after : Option Line) → m ≡ l + length (routine_lines r) → m ≤ last + 1 → 1 ≤ l → Stand E l (routine_layout l r after) →
      let end = l + length r.locals + body_size r.body in
      ((E (l + length r.locals)).left ≡ body_at (l + length r.locals) r.body) × (E end ≡ closing_line form.End (head_line l r.locals) after (nothing end)) × Upto E last l m
  routine_fits r l m after e i p h =
      let first = l + length r.locals in
      let end = first + body_size r.body in
      let xs = head_layout r.name r.locals end after (body_at first r.body) in
      let ys = body_layout first r.body (nothing end) in
      let zs : List ScriptLine = closing_line form.End (head_line l r.locals) after (nothing end) ∷ [] in
      let head = stand_left E l xs (ys ++ zs) h in
      let below = stand_right E l first xs (ys ++ zs) (omega (arith, head_layout_size r.name r.locals end after (body_at first r.body))) h in
      let tail = stand_right E first end ys zs (omega (arith, body_layout_size first r.body (nothing end))) below in
      let end_left : (E end).left ≡ nothing end = ap (λ x. x.left) tail.0 in
      let q : m ≡ end + 1 = omega (arith, e, routine_size r) in
      let body = body_fits E last r.body first end (nothing end) refl (omega arith) (omega arith) (stand_left E first ys zs below) end_left in
      let start : (E first).left ≡ body_at first r.body = body.0 in (
        start,
        tail.0,
        upto_join E last l first m (head_fits r.name r.locals l first end after (body_at first r.body) refl (omega arith) head start)
            (upto_join E last first end m body.1
            (upto_one E last end m q (here_fits E last end _ tail.0 (end_by r.name r.locals l end end after (body_at first r.body) p (omega arith) head end_left)))),
      )

  -- ---- declarations

  item_fits : (i : Item) (l m : ℕ) (after : Option Line) → m ≡ l + length (item_lines i) → m ≤ last + 1 → 1 ≤ l → Stand E l (item_layout l i after) → Upto E last l m
  item_fits (item.Interface i) l m after e b p h = upto_one E last l m e (here_fits E last l _ h.0 (ap (λ x. x.left) h.0))
  item_fits (item.Limit n) l m after e b p h = upto_one E last l m e (here_fits E last l _ h.0 (ap (λ x. x.left) h.0))
  item_fits (item.Shared name n) l m after e b p h = upto_one E last l m e (here_fits E last l _ h.0 (ap (λ x. x.left) h.0))
  item_fits (item.Exception name) l m after e b p h = upto_one E last l m e (here_fits E last l _ h.0 (ap (λ x. x.left) h.0))
  item_fits (item.Status name n) l m after e b p h = upto_one E last l m e (here_fits E last l _ h.0 (ap (λ x. x.left) h.0))
  item_fits (item.Mutex name) l m after e b p h = upto_one E last l m e (here_fits E last l _ h.0 (ap (λ x. x.left) h.0))
  item_fits (item.MutexAttr name) l m after e b p h = upto_one E last l m e (here_fits E last l _ h.0 (ap (λ x. x.left) h.0))
  item_fits (item.Cond name) l m after e b p h = upto_one E last l m e (here_fits E last l _ h.0 (ap (λ x. x.left) h.0))
  item_fits (item.Attr name) l m after e b p h = upto_one E last l m e (here_fits E last l _ h.0 (ap (λ x. x.left) h.0))
  item_fits (item.Key name) l m after e b p h = upto_one E last l m e (here_fits E last l _ h.0 (ap (λ x. x.left) h.0))
  item_fits (item.Once name) l m after e b p h = upto_one E last l m e (here_fits E last l _ h.0 (ap (λ x. x.left) h.0))
  item_fits (item.Pipe name n) l m after e b p h = upto_one E last l m e (here_fits E last l _ h.0 (ap (λ x. x.left) h.0))
  item_fits (item.Routine r) l m after e b p h = (routine_fits r l m after e b p h).2

  items_fit : (items : List Item) (l m : ℕ) → m ≡ l + length (items_layout l items) → m ≤ last + 1 → 1 ≤ l → Stand E l (items_layout l items) → Upto E last l m
  items_fit [] l m e b p h = upto_none E last l m (omega arith)
  items_fit (i ∷ items) l m e b p h =
      let next = l + length (item_lines i) in
      let xs = item_layout l i (line_if_any next items) in
      let ys = items_layout next items in
      let size = item_layout_size l i (line_if_any next items) in
      upto_join E last l next m
      (item_fits i l next (line_if_any next items) refl (omega (arith, e, length-append xs ys, size)) p (stand_left E l xs ys h))
      (items_fit items next m (omega (arith, e, length-append xs ys, size)) b (omega arith) (stand_right E l next xs ys (omega (arith, size)) h))

  -- ---- where routines start

  routine_starts : (l : ℕ) (r : Routine) (entry : Entry) (rest : Option Entry) (next : ℕ) (after : Option Line) → next ≡ l + length (routine_lines r) → next ≤ last + 1 → 1 ≤ l → Stand E l (routine_layout l r after) →
      (rest ≡ Some entry → BodyAt E last entry) → (same : Bool) → option_or (if same then Some (entry_at l r) else None) rest ≡ Some entry → BodyAt E last entry
  routine_starts l r entry rest next after e b p h more true is =
      let here : entry_at l r ≡ entry = ap (λ (o : Option Entry). unwrap_or o entry) is in
      let fits = routine_fits r l next after e b p h in
      subst (BodyAt E last) here (record {
        from = omega arith;
        to = omega arith;
        inside = omega (arith, e, b, routine_size r);
        here = fits.0;
        ends = ap (λ x. x.row.form) fits.1;
        closed = ap (λ x. x.left) fits.1;
      })
  routine_starts l r entry rest next after e b p h more false is = more is

  here_starts : (l : ℕ) (name : NameId) (entry : Entry) (i : Item) (rest : Option Entry) (next : ℕ) (after : Option Line) → next ≡ l + length (item_lines i) → next ≤ last + 1 → 1 ≤ l → Stand E l (item_layout l i after) →
      (rest ≡ Some entry → BodyAt E last entry) → option_or (entry_here l i name) rest ≡ Some entry → BodyAt E last entry
  here_starts l name entry (item.Interface i) rest next after e b p h more is = more is
  here_starts l name entry (item.Limit n) rest next after e b p h more is = more is
  here_starts l name entry (item.Shared x n) rest next after e b p h more is = more is
  here_starts l name entry (item.Exception x) rest next after e b p h more is = more is
  here_starts l name entry (item.Status x n) rest next after e b p h more is = more is
  here_starts l name entry (item.Mutex x) rest next after e b p h more is = more is
  here_starts l name entry (item.MutexAttr x) rest next after e b p h more is = more is
  here_starts l name entry (item.Cond x) rest next after e b p h more is = more is
  here_starts l name entry (item.Attr x) rest next after e b p h more is = more is
  here_starts l name entry (item.Key x) rest next after e b p h more is = more is
  here_starts l name entry (item.Once x) rest next after e b p h more is = more is
  here_starts l name entry (item.Pipe x n) rest next after e b p h more is = more is
  here_starts l name entry (item.Routine r) rest next after e b p h more is = routine_starts l r entry rest next after e b p h more (is_same_name r.name name) is

  entry_fits : (items : List Item) (l : ℕ) (name : NameId) (entry : Entry) → l + length (items_layout l items) ≤ last + 1 → 1 ≤ l → Stand E l (items_layout l items) → entry_in l items name ≡ Some entry → BodyAt E last entry
  entry_fits [] l name entry b p h is = absurd (none-some entry is)
  entry_fits (i ∷ items) l name entry b p h is =
      let next = l + length (item_lines i) in
      let xs = item_layout l i (line_if_any next items) in
      let ys = items_layout next items in
      let size = item_layout_size l i (line_if_any next items) in
      let more = entry_fits items next name entry (omega (arith, b, length-append xs ys, size)) (omega arith) (stand_right E l next xs ys (omega (arith, size)) h) in
      here_starts l name entry i (entry_in next items name) next (line_if_any next items) refl (omega (arith, b, length-append xs ys, size)) p (stand_left E l xs ys h) more is

-- ---- the script

script_size : (s : Script) → length (script_layout s) ≡ last_line s
unfolding script_rows
script_size s = sym (length-map (script_layout s) row_of) ∙ script_count s

script_stands : (s : Script) → Stand (line_at s) 1 (script_layout s)
unfolding line_at
script_stands s = stands (no_line ∷ []) (script_layout s) 1 refl

header_stands : (s : Script) → Stand (line_at s) 1 (plain_line form.Header (nothing 1) ∷ items_layout 2 s.items)
unfolding script_layout
header_stands s = script_stands s

header_size : (s : Script) → length (items_layout 2 s.items) + 1 ≡ last_line s
unfolding script_layout
header_size s = omega (arith, script_size s)

pub row_known : (s : Script) (l : ℕ) → 1 ≤ l → l ≤ last_line s → RowAt (line_at s) (last_line s) l (line_at s l).row
row_known s l p q =
    let h = header_stands s in
    let e = line_at s in
    let last = last_line s in
    let z = header_size s in
    upto_join e last 1 2 (last + 1) (upto_one e last 1 2 refl (here_fits e last 1 _ h.0 (ap (λ x. x.left) h.0)))
    (items_fit e last s.items 2 (last + 1) (omega (arith, z)) (omega arith) (omega arith) h.1)
    l p (omega (arith, q))

pub row_is : (s : Script) (rows : List Row) (l k : ℕ) (x : Row) → rows ≡ script_rows s → k + 1 ≡ l → l ≤ last_line s → x ≡ row_at rows k → x ≡ (line_at s l).row
unfolding script_rows line_at
row_is s rows l k x h e q is =
    let inside : k < length (script_layout s) = omega (arith, script_size s) in
    let suc_is : suc k ≡ l = omega (arith, e) in
    is
    ∙ ap (λ t. row_at t k) h
    ∙ get_or-map row_of (script_layout s) k no_line (plain_row form.Else) inside
    ∙ ap (λ n. (get_or (no_line ∷ script_layout s) n no_line).row) suc_is

pub form_is : (s : Script) (rows : List Row) (k : ℕ) (x : Row) → rows ≡ script_rows s → k < last_line s → x ≡ row_at rows k → slice_get (lines_of s) k ≡ Some x.form
form_is s rows k x h q is =
    ap (λ (fs : List Form). slice_get fs k) (sym (script_forms s))
    ∙ slice_get-map form_in (script_rows s) k
    ∙ ap (option_map form_in) (slice_get-get_or (script_rows s) k (plain_row form.Else) (omega (arith, q, script_count s)))
    ∙ ap (λ (r : Row). Some r.form) (ap (λ rs. row_at rs k) (sym h) ∙ sym is)

pub count_is : (s : Script) (rows : List Row) → rows ≡ script_rows s → length rows ≡ last_line s
count_is s rows h = ap length h ∙ script_count s

pub last_is : (s : Script) → last_line s ≡ length (lines_of s)
unfolding last_line
last_is s = refl

-- ---- where routines start

body_of : (s : Script) (name : NameId) (entry : Entry) → routine_of s name ≡ Some entry → BodyAt (line_at s) (last_line s) entry
unfolding routine_of
body_of s name entry is = entry_fits (line_at s) (last_line s) s.items 2 name entry (omega (arith, header_size s)) (omega arith) (header_stands s).1 is

starts_by : (s : Script) (name : NameId) (o : Option Entry) → routine_of s name ≡ o → IfSome (option_map start_of o) (StartsAt s name)
starts_by s name None h = tt
starts_by s name (Some entry) h = record { entry = entry; routine = h; start_is = refl; body = body_of s name entry h }

pub start_body : (s : Script) (name : NameId) (r : Option Start) → r ≡ routine_start s name → IfSome r (StartsAt s name)
start_body s name r h = subst (λ (o : Option Start). IfSome o (StartsAt s name)) (sym h) (starts_by s name (routine_of s name) refl)

-- ---- exceptions

is_below : (a b : ℕ) → a < b → nat_lt a b ≡ true
is_below a b h = grind (arith, nat_tests)

is_not_below : (a b : ℕ) → b ≤ a → nat_lt a b ≡ false
is_not_below a b h = grind (arith, nat_tests)

pub exception_low : (s : Script) (x : NameId) → x.0 < 10 → Some (Address x) ≡ exception_of s x
unfolding exception_of
exception_low s x h = sym (ap (λ b. if b then Some (Address x) else exception_in s.items x) (is_below x.0 10 h))

pub exception_high : (s : Script) (x : NameId) (r : Option Exc) → 10 ≤ x.0 → r ≡ exception_in s.items x → r ≡ exception_of s x
unfolding exception_of
exception_high s x r h is = is ∙ sym (ap (λ b. if b then Some (Address x) else exception_in s.items x) (is_not_below x.0 10 h))

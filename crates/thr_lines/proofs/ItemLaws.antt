-- The rows of declarations.
use Rattle.std.proofs.Common.{◌≡◌, ℕ, suc, ◌+◌, ◌-◌, ◌<◌, ◌≤◌, Bool, true, false, nat_lt, List, [], ◌∷◌, ◌++◌, map, length, length-append, append_assoc, append-nil, drop, get_or, slice_set, Option, Some, None, refl, ap, sym, ◌∙◌, arith}
use Rattle.std.proofs.Math.Seq.{set-append_seam, drop-cons}
use Rattle.std.proofs.Math.ListN.{drop_of_length-le}
use Rattle.std.proofs.lemmas.List.{map-append, length-map, length-drop}
use Rattle.std.proofs.lemmas.Bool.Decides.{nat_tests}
use Rattle.thr_values.specs.declared.number.NameId.{NameId}
use Rattle.thr_values.specs.declared.number.Line.{Line}
use Rattle.thr_syntax.specs.declared.form.Form.{Form}
use Rattle.thr_syntax.specs.declared.form.Form.TheVariants as form
use Rattle.thr_syntax.specs.declared.tree.Item.{Item}
use Rattle.thr_syntax.specs.declared.tree.Item.TheVariants as item
use Rattle.thr_syntax.specs.declared.tree.Routine.{Routine}
use Rattle.thr_syntax.specs.declared.tree.Script.{Script}
use Rattle.thr_syntax.specs.Lines.{joined, head_lines, body_lines, routine_lines, item_lines, lines_of}
use Rattle.thr_remainder.specs.Places.{body_size, body_at, nothing}
use Rattle.thr_remainder.specs.Starts.{at}
use Rattle.thr_lines.specs.declared.row.Row.{Row}
use Rattle.thr_lines.specs.Layout.{ScriptLine, plain_line, closing_line, body_layout, head_layout, head_line, item_layout, line_if_any, items_layout, script_layout, last_line, row_of, body_rows, item_rows, items_rows, script_rows}
use Rattle.thr_lines.specs.Rows.{plain_row, opening_row, closing_row, line_if, local_rows}
use Rattle.thr_lines.proofs.RowLaws.{body_rows-any}
use Rattle.thr_lines.proofs.FormLaws.{form_in, body_forms, body_count}

-- The rows of a routine's line and of its locals.
abbrev pub head_rows : NameId → List (List ℕ) → ℕ → Option Line → List Row
head_rows name [] end after = []
head_rows name (parameter ∷ locals) end after = opening_row (form.Routine name parameter) end end after ∷ local_rows locals

map-map : (locals : List (List ℕ)) (left : _) → map row_of (map (λ (n : List ℕ). plain_line (form.Local n) left) locals) ≡ local_rows locals
map-map [] left = refl
map-map (n ∷ locals) left = ap (λ (r : List Row). plain_row (form.Local n) ∷ r) (map-map locals left)

head_rows-are : (name : NameId) (locals : List (List ℕ)) (end : ℕ) (after : Option Line) (left : _) → map row_of (head_layout name locals end after left) ≡ head_rows name locals end after
head_rows-are name [] end after left = refl
head_rows-are name (p ∷ locals) end after left = ap (λ (r : List Row). opening_row (form.Routine name p) end end after ∷ r) (map-map locals left)

pub rows-Routine : (l : ℕ) (r : Routine) (after : Option Line) →
    let first = l + length r.locals in let end = first + body_size r.body in
    item_rows l (item.Routine r) after ≡ head_rows r.name r.locals end after ++ (body_rows first r.body ++ closing_row form.End (head_line l r.locals) after ∷ [])
unfolding item_rows
rows-Routine l r after =
    let first = l + length r.locals in
    let end = first + body_size r.body in
    let head = head_layout r.name r.locals end after (body_at first r.body) in
    let last : List ScriptLine = closing_line form.End (head_line l r.locals) after (nothing end) ∷ [] in
    map-append row_of head (body_layout first r.body (nothing end) ++ last)
    ∙ (λ i. head_rows-are r.name r.locals end after (body_at first r.body) i ++ map-append row_of (body_layout first r.body (nothing end)) last i)
    ∙ ap (λ (rs : List Row). head_rows r.name r.locals end after ++ (rs ++ closing_row form.End (head_line l r.locals) after ∷ [])) (body_rows-any r.body first (nothing end))

-- ---- the forms, and how many

local_forms : (locals : List (List ℕ)) → map form_in (local_rows locals) ≡ map (λ (n : List ℕ). form.Local n) locals
local_forms [] = refl
local_forms (n ∷ locals) = ap (λ (fs : List Form). form.Local n ∷ fs) (local_forms locals)

head_forms : (name : NameId) (locals : List (List ℕ)) (end : ℕ) (after : Option Line) → map form_in (head_rows name locals end after) ≡ head_lines name locals
head_forms name [] end after = refl
head_forms name (p ∷ locals) end after = ap (λ (fs : List Form). form.Routine name p ∷ fs) (local_forms locals)

pub item_forms : (l : ℕ) (i : Item) (after : Option Line) → map form_in (item_rows l i after) ≡ item_lines i
unfolding item_rows
item_forms l (item.Interface i) after = refl
item_forms l (item.Limit n) after = refl
item_forms l (item.Shared name n) after = refl
item_forms l (item.Exception name) after = refl
item_forms l (item.Status name n) after = refl
item_forms l (item.Mutex name) after = refl
item_forms l (item.MutexAttr name) after = refl
item_forms l (item.Cond name) after = refl
item_forms l (item.Attr name) after = refl
item_forms l (item.Key name) after = refl
item_forms l (item.Once name) after = refl
item_forms l (item.Pipe name n) after = refl
item_forms l (item.Routine r) after =
    let first = l + length r.locals in
    let end = first + body_size r.body in
    ap (map form_in) (rows-Routine l r after)
    ∙ map-append form_in (head_rows r.name r.locals end after) (body_rows first r.body ++ closing_row form.End (head_line l r.locals) after ∷ [])
    ∙ (λ i. head_forms r.name r.locals end after i ++ map-append form_in (body_rows first r.body) (closing_row form.End (head_line l r.locals) after ∷ []) i)
    ∙ ap (λ (fs : List Form). head_lines r.name r.locals ++ (fs ++ form.End ∷ [])) (body_forms r.body first)

pub item_count : (l : ℕ) (i : Item) (after : Option Line) → length (item_rows l i after) ≡ length (item_lines i)
item_count l i after = sym (length-map (item_rows l i after) form_in) ∙ ap length (item_forms l i after)

pub items-cons : (l : ℕ) (i : Item) (items : List Item) →
    let next = l + length (item_lines i) in
    items_rows l (i ∷ items) ≡ item_rows l i (line_if_any next items) ++ items_rows next items
unfolding items_rows item_rows
items-cons l i items = let next = l + length (item_lines i) in map-append row_of (item_layout l i (line_if_any next items)) (items_layout next items)

items_forms : (l : ℕ) (items : List Item) → map form_in (items_rows l items) ≡ joined (map item_lines items)
unfolding items_rows
items_forms l [] = refl
items_forms l (i ∷ items) =
    let next = l + length (item_lines i) in
    ap (map form_in) (items-cons l i items)
    ∙ map-append form_in (item_rows l i (line_if_any next items)) (items_rows next items)
    ∙ (λ j. item_forms l i (line_if_any next items) j ++ items_forms next items j)

pub script_forms : (s : Script) → map form_in (script_rows s) ≡ lines_of s
unfolding script_rows items_rows script_layout
script_forms s = ap (λ (fs : List Form). form.Header ∷ fs) (items_forms 2 s.items)

pub script_count : (s : Script) → length (script_rows s) ≡ last_line s
unfolding last_line
script_count s = sym (length-map (script_rows s) form_in) ∙ ap length (script_forms s)

pub script_is : (s : Script) → script_rows s ≡ plain_row form.Header ∷ items_rows 2 s.items
unfolding script_rows items_rows script_layout
script_is s = refl

-- ---- one more declaration

more_line : (items : List Item) (l : ℕ) (more : Bool) → (more ≡ true → 0 < length items) → (more ≡ false → length items ≤ 0) → line_if_any l items ≡ line_if more l
more_line [] l true h k = absurd (omega (arith, h refl))
more_line [] l false h k = refl
more_line (i ∷ items) l true h k = refl
more_line (i ∷ items) l false h k = absurd (omega (arith, k refl))

is_below : (a b : ℕ) → nat_lt a b ≡ true → a < b
is_below a b e = grind (arith, nat_tests)

is_not_below : (a b : ℕ) → nat_lt a b ≡ false → b ≤ a
is_not_below a b e = grind (arith, nat_tests)

pub item_more : (old now next : List Row) (items : List Item) (i : ℕ) (x : Item) (more : Bool) → i < length items → x ≡ get_or items i x → more ≡ nat_lt (i + 1) (length items) →
    now ++ items_rows (length now + 1) (drop i items) ≡ old ++ items_rows (length old + 1) items →
    next ≡ now ++ item_rows (length now + 1) x (line_if more (length now + 1 + length (item_lines x))) →
    next ++ items_rows (length next + 1) (drop (i + 1) items) ≡ old ++ items_rows (length old + 1) items
item_more old now next items i x more h g m n k =
    let l = length now + 1 in
    let after = l + length (item_lines x) in
    let rest = drop (i + 1) items in
    let e : i + 1 ≡ suc i = omega arith in
    let split : drop i items ≡ x ∷ rest = drop-cons items i x h ∙ (λ j. sym g j ∷ drop (sym e j) items) in
    let left : length rest ≡ length items - (i + 1) = length-drop (i + 1) items in
    let more_is : line_if_any after rest ≡ line_if more after = more_line rest after more (λ z. omega (arith, left, is_below (i + 1) (length items) (sym m ∙ z))) (λ z. omega (arith, left, is_not_below (i + 1) (length items) (sym m ∙ z))) in
    let size_is : length next + 1 ≡ length now + 1 + length (item_lines x) = omega (arith, ap length k, length-append now (item_rows l x (line_if more after)), item_count l x (line_if more after)) in
    (λ j. k j ++ items_rows (size_is j) rest)
    ∙ append_assoc now (item_rows l x (line_if more after)) (items_rows after rest)
    ∙ ap (λ (o : Option Line). now ++ (item_rows l x o ++ items_rows after rest)) (sym more_is)
    ∙ ap (λ (r : List Row). now ++ r) (sym (items-cons l x rest))
    ∙ ap (λ (is : List Item). now ++ items_rows l is) (sym split)
    ∙ n

pub items_end : (old now : List Row) (items : List Item) (i : ℕ) → length items ≤ i → now ++ items_rows (length now + 1) (drop i items) ≡ old ++ items_rows (length old + 1) items →
    now ≡ old ++ items_rows (length old + 1) items
unfolding items_rows
items_end old now items i h n = sym (append-nil now) ∙ ap (λ (is : List Item). now ++ items_rows (length now + 1) is) (sym (drop_of_length-le items {i = i} h)) ∙ n

-- ---- a routine

local_count : (locals : List (List ℕ)) → length (local_rows locals) ≡ length locals
local_count locals = length-map locals (λ (n : List ℕ). plain_row (form.Local n))

head_count : (name : NameId) (locals : List (List ℕ)) → length (head_lines name locals) ≡ length locals
head_count name [] = refl
head_count name (p ∷ locals) = omega (arith, length-map locals (λ (n : List ℕ). form.Local n))

pub routine_size : (r : Routine) → length (routine_lines r) ≡ length r.locals + body_size r.body + 1
unfolding body_size
routine_size r = omega (arith, length-append (head_lines r.name r.locals) (body_lines r.body ++ form.End ∷ []), length-append (body_lines r.body) (form.End ∷ []), head_count r.name r.locals)

module _ (old one two new : List Row) (r : Routine) (more : Bool) (after : Option Line) where
  abbrev pub IsMade : Type 0
  IsMade = (one ≡ old ++ local_rows r.locals) × (two ≡ one ++ body_rows (length one + 1) r.body) × (after ≡ line_if more (length two + 2))

  l : ℕ
  l = length old + 1

  wanted : Option Line
  wanted = line_if more (l + length (routine_lines r))

  first_is : IsMade → length one + 1 ≡ l + length r.locals
  unfolding l
  first_is h = omega (arith, ap length h.0, length-append old (local_rows r.locals), local_count r.locals)

  end_is : IsMade → length two + 1 ≡ l + length r.locals + body_size r.body
  end_is h = omega (arith, ap length h.1, length-append one (body_rows (length one + 1) r.body), body_count r.body (length one + 1), first_is h)

  after_is : IsMade → after ≡ wanted
  unfolding wanted
  after_is h = h.2 ∙ ap (line_if more) (let e : length two + 2 ≡ l + length (routine_lines r) = omega (arith, end_is h, routine_size r) in e)

  two_is : IsMade → two ≡ old ++ (local_rows r.locals ++ body_rows (l + length r.locals) r.body)
  two_is h =
      h.1 ∙ (λ i. h.0 i ++ body_rows (first_is h i) r.body)
      ∙ append_assoc old (local_rows r.locals) (body_rows (l + length r.locals) r.body)

  pub routine_bare : IsMade → r.locals ≡ [] → new ≡ two ++ closing_row form.End None after ∷ [] → new ≡ old ++ item_rows (length old + 1) (item.Routine r) (line_if more (length old + 1 + length (item_lines (item.Routine r))))
  unfolding l wanted
  routine_bare h none k =
      let first = l + length r.locals in
      let end = first + body_size r.body in
      let body = body_rows first r.body in
      k ∙ (λ i. two_is h i ++ closing_row form.End None (after_is h i) ∷ [])
      ∙ append_assoc old (local_rows r.locals ++ body) (closing_row form.End None wanted ∷ [])
      ∙ ap (λ (ls : List (List ℕ)). old ++ ((local_rows ls ++ body) ++ closing_row form.End None wanted ∷ [])) none
      ∙ (λ i. old ++ (head_rows r.name (sym none i) end wanted ++ (body ++ closing_row form.End (head_line l (sym none i)) wanted ∷ [])))
      ∙ ap (λ (rs : List Row). old ++ rs) (sym (rows-Routine l r wanted))

  pub routine_full : IsMade → (p : List ℕ) (ls : List (List ℕ)) (place : ℕ) → r.locals ≡ p ∷ ls → place ≡ length old →
      new ≡ slice_set two place (opening_row (form.Routine r.name p) (length two + 1) (length two + 1) after) ++ closing_row form.End (Some (at (place + 1))) after ∷ [] →
      new ≡ old ++ item_rows (length old + 1) (item.Routine r) (line_if more (length old + 1 + length (item_lines (item.Routine r))))
  unfolding l wanted
  routine_full h p ls place some here k =
      let first = l + length r.locals in
      let end = first + body_size r.body in
      let body = body_rows first r.body in
      let row = opening_row (form.Routine r.name p) end end wanted in
      let full : two ≡ old ++ plain_row (form.Local p) ∷ (local_rows ls ++ body) = two_is h ∙ ap (λ (ns : List (List ℕ)). old ++ (local_rows ns ++ body)) some in
      k ∙ (λ i. slice_set (full i) (here i) (opening_row (form.Routine r.name p) (end_is h i) (end_is h i) (after_is h i)) ++ closing_row form.End (Some (at (here i + 1))) (after_is h i) ∷ [])
      ∙ ap (λ (rs : List Row). rs ++ closing_row form.End (Some (at l)) wanted ∷ []) (set-append_seam old (plain_row (form.Local p)) (local_rows ls ++ body) row)
      ∙ append_assoc old (row ∷ (local_rows ls ++ body)) (closing_row form.End (Some (at l)) wanted ∷ [])
      ∙ ap (λ (rs : List Row). old ++ (row ∷ rs)) (append_assoc (local_rows ls) body (closing_row form.End (Some (at l)) wanted ∷ []))
      ∙ (λ i. old ++ (head_rows r.name (sym some i) end wanted ++ (body ++ closing_row form.End (head_line l (sym some i)) wanted ∷ [])))
      ∙ ap (λ (rs : List Row). old ++ rs) (sym (rows-Routine l r wanted))

pub two_more : (n : ℕ) → n + 1 + 1 ≡ n + 2
two_more n = omega arith

pub none_left : (locals : List (List ℕ)) → length locals ≡ 0 → locals ≡ []
none_left [] h = refl
none_left (n ∷ locals) h = absurd (omega (arith, h))

pub item_step : (now next : List Row) (x : Item) (more : Bool) → next ≡ now ++ item_rows (length now + 1) x (line_if more (length now + 1 + length (item_lines x))) → length next ≡ length now + length (item_lines x)
item_step now next x more k =
    let rows = item_rows (length now + 1) x (line_if more (length now + 1 + length (item_lines x))) in
    ap length k ∙ length-append now rows ∙ ap (λ n. length now + n) (item_count (length now + 1) x (line_if more (length now + 1 + length (item_lines x))))

-- The lines where steps stand.
use Rattle.std.proofs.Common.{◌≡◌, ◌≢◌, ℕ, ℤ, List, [], ◌∷◌, Bool, true, false, Some, refl, ap, sym, ◌∙◌}
use Rattle.std.proofs.lemmas.Bool.{false≢true}
use Rattle.thr_syntax.specs.declared.form.Form.{Form}
use Rattle.thr_syntax.specs.declared.form.Form.TheVariants as form
use Rattle.thr_syntax.specs.declared.tree.Script.{Script}
use Rattle.thr_remainder.specs.Places.{Placed, Left, nothing}
use Rattle.thr_remainder.specs.Remainders.{Item, Role, place_in, place_inside}
use Rattle.thr_remainder.specs.Starts.{line_in, line_of_next}
use Rattle.thr_lines.specs.declared.row.Row.{Row}
use Rattle.thr_lines.specs.Layout.{line_at, last_line}
use Rattle.thr_lines.specs.AtLines.{FormAt}
use Rattle.thr_stack.specs.declared.frame.Frame.{Frame}
use Rattle.thr_stack.specs.declared.context.Context.{Context}
use Rattle.thr_stack.specs.Forms.{ends}
use Rattle.thr_stack.specs.FrameLists.{below}
use Rattle.thr_stack.specs.Standing.{role_of, items_of, remainder_of, IsGood, IsLine, IsPlace, first_line}
use Rattle.thr_stack.specs.Places.{IsStepLine, IsAtStep}
use Rattle.thr_stack.proofs.Sites.{top, good_at}

-- ---- the lines of steps

-- A line where a step stands and no statement has nothing left.
pub closes_here : (s : Script) (l : ℕ) (row : Row) (f : Form) → FormAt (line_at s) (last_line s) l row f → IsPlace s l f → ends f ≡ true → (line_at s l).left ≡ nothing l
closes_here s l row form.Header a p e = a
closes_here s l row (form.Interface v0) a p e = a
closes_here s l row (form.Limit v0) a p e = a
closes_here s l row (form.Shared v0 v1) a p e = a
closes_here s l row (form.Exception v0) a p e = a
closes_here s l row (form.Status v0 v1) a p e = a
closes_here s l row (form.Mutex v0) a p e = a
closes_here s l row (form.MutexAttr v0) a p e = a
closes_here s l row (form.Cond v0) a p e = a
closes_here s l row (form.Attr v0) a p e = a
closes_here s l row (form.Key v0) a p e = a
closes_here s l row (form.Once v0) a p e = a
closes_here s l row (form.Pipe v0 v1) a p e = a
closes_here s l row (form.Routine v0 v1) a p e = absurd p
closes_here s l row (form.Local v0) a p e = absurd p
closes_here s l row (form.Set v0 v1) a p e = absurd (false≢true e)
closes_here s l row (form.Say v0) a p e = absurd (false≢true e)
closes_here s l row (form.If v0) a p e = absurd (false≢true e)
closes_here s l row form.Else a p e = absurd p
closes_here s l row (form.While v0) a p e = absurd (false≢true e)
closes_here s l row form.Try a p e = absurd (false≢true e)
closes_here s l row (form.Catch v0) a p e = a.here
closes_here s l row form.CatchAll a p e = a.here
closes_here s l row form.Finally a p e = a.here
closes_here s l row form.Endtry a p e = a.here
closes_here s l row (form.Raise v0) a p e = absurd (false≢true e)
closes_here s l row form.Reraise a p e = absurd (false≢true e)
closes_here s l row (form.Call v0 v1 v2) a p e = absurd (false≢true e)
closes_here s l row (form.Return v0) a p e = absurd (false≢true e)
closes_here s l row (form.Exit v0) a p e = absurd (false≢true e)
closes_here s l row (form.Dce v0) a p e = absurd (false≢true e)
closes_here s l row form.End a p e = p

-- The same of a statement.
statement : (s : Script) (l : ℕ) (row : Row) (f : Form) → FormAt (line_at s) (last_line s) l row f → ends f ≡ false → first_line (line_at s l).left.todo (line_at s l).left.close ≡ l
statement s l row form.Header a e = absurd (false≢true (sym e))
statement s l row (form.Interface v0) a e = absurd (false≢true (sym e))
statement s l row (form.Limit v0) a e = absurd (false≢true (sym e))
statement s l row (form.Shared v0 v1) a e = absurd (false≢true (sym e))
statement s l row (form.Exception v0) a e = absurd (false≢true (sym e))
statement s l row (form.Status v0 v1) a e = absurd (false≢true (sym e))
statement s l row (form.Mutex v0) a e = absurd (false≢true (sym e))
statement s l row (form.MutexAttr v0) a e = absurd (false≢true (sym e))
statement s l row (form.Cond v0) a e = absurd (false≢true (sym e))
statement s l row (form.Attr v0) a e = absurd (false≢true (sym e))
statement s l row (form.Key v0) a e = absurd (false≢true (sym e))
statement s l row (form.Once v0) a e = absurd (false≢true (sym e))
statement s l row (form.Pipe v0 v1) a e = absurd (false≢true (sym e))
statement s l row (form.Routine v0 v1) a e = absurd (false≢true (sym e))
statement s l row (form.Local v0) a e = absurd (false≢true (sym e))
statement s l row (form.Set v0 v1) a e = ap (λ (x : Left). first_line x.todo x.close) a.does.here
statement s l row (form.Say v0) a e = ap (λ (x : Left). first_line x.todo x.close) a.does.here
statement s l row (form.If v0) a e = ap (λ (x : Left). first_line x.todo x.close) a.does.here
statement s l row form.Else a e = absurd (false≢true (sym e))
statement s l row (form.While v0) a e = ap (λ (x : Left). first_line x.todo x.close) a.does.here
statement s l row form.Try a e = ap (λ (x : Left). first_line x.todo x.close) a.does.here
statement s l row (form.Catch v0) a e = absurd (false≢true (sym e))
statement s l row form.CatchAll a e = absurd (false≢true (sym e))
statement s l row form.Finally a e = absurd (false≢true (sym e))
statement s l row form.Endtry a e = absurd (false≢true (sym e))
statement s l row (form.Raise v0) a e = ap (λ (x : Left). first_line x.todo x.close) a.does.here
statement s l row form.Reraise a e = ap (λ (x : Left). first_line x.todo x.close) a.does.here
statement s l row (form.Call v0 v1 v2) a e = ap (λ (x : Left). first_line x.todo x.close) a.does.here
statement s l row (form.Return v0) a e = ap (λ (x : Left). first_line x.todo x.close) a.does.here
statement s l row (form.Exit v0) a e = ap (λ (x : Left). first_line x.todo x.close) a.does.here
statement s l row (form.Dce v0) a e = ap (λ (x : Left). first_line x.todo x.close) a.does.here
statement s l row form.End a e = absurd (false≢true (sym e))

-- A line where a step stands is the first of what is left there.
pub first_here : (s : Script) (l : ℕ) (row : Row) (f : Form) → FormAt (line_at s) (last_line s) l row f → IsPlace s l f → first_line (line_at s l).left.todo (line_at s l).left.close ≡ l
first_here s l row f a p = by (ends f) refl
  where
    by : (b : Bool) → ends f ≡ b → first_line (line_at s l).left.todo (line_at s l).left.close ≡ l
    by true e = ap (λ (x : Left). first_line x.todo x.close) (closes_here s l row f a p e)
    by false e = statement s l row f a e

line_inside : (todo : List Placed) (close : ℕ) (x : Role) (outer : List Item) → line_in (place_inside todo close x outer) ≡ Some (first_line todo close)
line_inside [] close x outer = refl
line_inside (p ∷ todo) close x outer = refl

line_of : (s : Script) (k : Context) (l : ℕ) → k.frames.items ≢ [] → first_line (line_at s k.line).left.todo (line_at s k.line).left.close ≡ l → line_of_next (remainder_of s k) ≡ Some l
line_of s k l some e =
    let t = top k some in
    let left = (line_at s k.line).left in
    ap (λ (is : List Frame). line_in (place_in (items_of s k.line k.frames.calls is))) t.2
    ∙ line_inside left.todo left.close (role_of s k.frames.calls t.0.kind) (items_of s t.0.back (below k.frames.calls t.0.kind) t.1) ∙ ap Some e

pub line_is : (s : Script) (k : Context) → k.frames.items ≢ [] → first_line (line_at s k.line).left.todo (line_at s k.line).left.close ≡ k.line → line_of_next (remainder_of s k) ≡ Some k.line
line_is s k some e = line_of s k k.line some e

pub step_line : (s : Script) (k : Context) (l : ℕ) → k.frames.items ≢ [] → IsLine s l → (line_at s l).left ≡ (line_at s k.line).left → IsPlace s l (line_at s l).row.form → first_line (line_at s l).left.todo (line_at s l).left.close ≡ l →
    IsStepLine s k l
step_line s k l some line left place first = record {
  line = line;
  left = left;
  place = place;
  next = line_of s k l some (ap (λ (x : Left). first_line x.todo x.close) (sym left) ∙ first);
}

-- ---- another line

items_same : (s : Script) (l m : ℕ) (calls : List (List ℤ)) (fs : List Frame) → (line_at s m).left ≡ (line_at s l).left → items_of s m calls fs ≡ items_of s l calls fs
items_same s l m calls [] e = refl
items_same s l m calls (f ∷ fs) e = ap (λ (x : Left). record { role = role_of s calls f.kind; inside = x } ∷ items_of s f.back (below calls f.kind) fs) e

pub goes_to : (s : Script) (k : Context) (l : ℕ) → IsGood s k → IsStepLine s k l → IsAtStep s k (record k { line = l })
goes_to s k l good h =
    let to = ap (λ (is : List Item). record (remainder_of s k) { items = is }) (items_same s k.line l k.frames.calls k.frames.items h.left) in
    record {
      same = refl;
      to = to;
      good = good_at s k.line l k.frames.calls k.frames.items h.line good;
      line = λ some. record { line = h.line; left = refl; place = h.place; next = ap line_of_next to ∙ h.next };
    }

pub goes_nowhere : (s : Script) (k : Context) → IsGood s k → k.frames.items ≡ [] → IsAtStep s k k
goes_nowhere s k good none = record { same = refl; to = refl; good = good; line = λ some. absurd (some none) }

-- Shared statements.
use Rattle.std.proofs.Common.{◌≡◌, ◌≢◌, ◌-◌, ◌≤◌, ℕ, ℤ, List, [], slice_get, true, Option, Some, None, Ok, Err, refl, ap, sym, ◌∙◌, subst, arith, append-nil}
use Rattle.std.proofs.lemmas.Option.{none-some}
use Rattle.thr_values.specs.declared.number.NameId.{NameId}
use Rattle.thr_values.specs.declared.history.What.{What}
use Rattle.thr_syntax.specs.declared.expr.Expr.{Expr}
use Rattle.thr_syntax.specs.declared.expr.Var.{Var}
use Rattle.thr_syntax.specs.declared.expr.Var.TheVariants as variable
use Rattle.thr_syntax.specs.declared.form.Form.{Form}
use Rattle.thr_syntax.specs.declared.form.Form.TheVariants as form
use Rattle.thr_syntax.specs.declared.tree.Script.{Script}
use Rattle.thr_syntax.specs.Lines.{lines_of}
use Rattle.thr_remainder.specs.Remainders.{Move, place_in}
use Rattle.thr_remainder.specs.Expressions.{Value, SharedValues, value_of}
use Rattle.thr_remainder.specs.Starts.{still}
use Rattle.thr_remainder.specs.Steps.{step_at, shared_step, write_at, written}
use Rattle.thr_lines.specs.declared.row.Row.{Row}
use Rattle.thr_lines.specs.Layout.{line_at, last_line, script_rows}
use Rattle.thr_lines.specs.Rows.{row_at}
use Rattle.thr_lines.proofs.ScriptLaws.{row_known, row_is, form_is}
use Rattle.thr_stack.specs.declared.frame.Frame.{Frame}
use Rattle.thr_stack.specs.declared.context.Context.{Context}
use Rattle.thr_stack.specs.Forms.{expression_of, write_from}
use Rattle.thr_stack.specs.Places.{IsAtStep}
use Rattle.thr_stack.specs.Standing.{IsGood, IsLine, IsPlace, Makes, Steps, items_of, remainder_of, setting_of}
use Rattle.thr_stack.proofs.NextLaws.{no_write}
use Rattle.thr_stack.proofs.Outcomes.{valued_by}
use Rattle.thr_stack.proofs.Sites.{site, write_is}
use Rattle.thr_frames.specs.Stacks.{HasNoOnce, IsSet}
use Rattle.thr_frames.proofs.OnceLaws.{leaves_step}
use Rattle.thr_frames.proofs.StackLaws.{same_setting, made_from}

module _ (s : Script) (old mid new : Context) (before after : List What) (at : IsAtStep s old mid) where
  pub makes_shared : (shared : SharedValues) → Steps s true shared mid new before after → Makes s (shared_step (setting_of s old) shared (remainder_of s old)) old new before after
  unfolding shared_step
  makes_shared shared m = made_from s old mid new before after at (λ g r. step_at g true shared (place_in r.items) r) m

  pub writes_shared : (shared : SharedValues) (w : Option (NameId × ℤ)) → w ≡ write_at (setting_of s mid) shared (place_in (remainder_of s mid).items) (remainder_of s mid) → w ≡ written (setting_of s old) shared (remainder_of s old)
  unfolding written
  writes_shared shared w e = e ∙ (λ i. write_at (same_setting s old mid at i) shared (place_in (at.to i).items) (at.to i))

-- ---- no frame

module _ (s : Script) (k : Context) (shared : SharedValues) (none : k.frames.items ≡ []) where
  pub makes_none : (notes : List What) → IsGood s k → Makes s (shared_step (setting_of s k) shared (remainder_of s k)) k k notes notes
  unfolding shared_step
  makes_none notes good =
      let g = setting_of s k in
      let r = remainder_of s k in
      let e : step_at g true shared (place_in r.items) r ≡ still r = ap (λ (is : List Frame). step_at g true shared (place_in (items_of s k.line k.frames.calls is)) r) none in
      subst (λ (m : Move). Makes s m k k notes notes) (sym e) (record { to = refl; lines = sym (append-nil notes); setting = refl; good = good })

  pub writes_none : written (setting_of s k) shared (remainder_of s k) ≡ None
  unfolding written
  writes_none = ap (λ (is : List Frame). write_at (setting_of s k) shared (place_in (items_of s k.line k.frames.calls is)) (remainder_of s k)) none

-- No once block is opened.
pub shared_once : (s : Script) (shared : SharedValues) (old new : Context) (before after : List What) → Makes s (shared_step (setting_of s old) shared (remainder_of s old)) old new before after → HasNoOnce (remainder_of s old) → HasNoOnce (remainder_of s new)
unfolding shared_step
shared_once s shared old new before after m h = subst HasNoOnce (sym m.to) (leaves_step (setting_of s old) true shared (remainder_of s old) h)

-- ---- the variable that is set

pub line_stands : (s : Script) (l : ℕ) → 1 ≤ l → l ≤ last_line s → slice_get (lines_of s) (l - 1) ≡ Some (line_at s l).row.form
line_stands s l p q =
    let rows = script_rows s in form_is s rows (l - 1) (line_at s l).row refl (omega (arith, p, q)) (sym (row_is s rows l (l - 1) (row_at rows (l - 1)) refl (omega (arith, p)) q refl))

-- Only a line that sets a shared variable writes.
sets_with : (v : Var) (e : Expr) (value : Value) (w : NameId × ℤ) → write_from (form.Set v e) value ≡ Some w → form.Set v e ≡ form.Set (variable.Shared w.0) e
sets_with (variable.Local p) e value w is = absurd (none-some w is)
sets_with (variable.Shared name) e (Err x) w is = absurd (none-some w is)
sets_with (variable.Shared name) e (Ok n) w is = ap (λ (o : Option (NameId × ℤ)). form.Set (variable.Shared (name_or name o)) e) is
  where
    name_or : NameId → Option (NameId × ℤ) → NameId
    name_or x None = x
    name_or x (Some y) = y.0

sets_by : (f : Form) (value : Value) (w : NameId × ℤ) → write_from f value ≡ Some w → (e : Expr) × (f ≡ form.Set (variable.Shared w.0) e)
sets_by form.Header value w is = absurd (none-some w is)
sets_by (form.Interface v0) value w is = absurd (none-some w is)
sets_by (form.Limit v0) value w is = absurd (none-some w is)
sets_by (form.Shared v0 v1) value w is = absurd (none-some w is)
sets_by (form.Exception v0) value w is = absurd (none-some w is)
sets_by (form.Status v0 v1) value w is = absurd (none-some w is)
sets_by (form.Mutex v0) value w is = absurd (none-some w is)
sets_by (form.MutexAttr v0) value w is = absurd (none-some w is)
sets_by (form.Cond v0) value w is = absurd (none-some w is)
sets_by (form.Attr v0) value w is = absurd (none-some w is)
sets_by (form.Key v0) value w is = absurd (none-some w is)
sets_by (form.Once v0) value w is = absurd (none-some w is)
sets_by (form.Pipe v0 v1) value w is = absurd (none-some w is)
sets_by (form.Routine v0 v1) value w is = absurd (none-some w is)
sets_by (form.Local v0) value w is = absurd (none-some w is)
sets_by (form.Set v0 v1) value w is = (v1, sets_with v0 v1 value w is)
sets_by (form.Say v0) value w is = absurd (none-some w is)
sets_by (form.If v0) value w is = absurd (none-some w is)
sets_by form.Else value w is = absurd (none-some w is)
sets_by (form.While v0) value w is = absurd (none-some w is)
sets_by form.Try value w is = absurd (none-some w is)
sets_by (form.Catch v0) value w is = absurd (none-some w is)
sets_by form.CatchAll value w is = absurd (none-some w is)
sets_by form.Finally value w is = absurd (none-some w is)
sets_by form.Endtry value w is = absurd (none-some w is)
sets_by (form.Raise v0) value w is = absurd (none-some w is)
sets_by form.Reraise value w is = absurd (none-some w is)
sets_by (form.Call v0 v1 v2) value w is = absurd (none-some w is)
sets_by (form.Return v0) value w is = absurd (none-some w is)
sets_by (form.Exit v0) value w is = absurd (none-some w is)
sets_by (form.Dce v0) value w is = absurd (none-some w is)
sets_by form.End value w is = absurd (none-some w is)

module _ (s : Script) (k : Context) (shared : SharedValues) (w : NameId × ℤ) (some : k.frames.items ≢ []) (inside : IsLine s k.line) (p : IsPlace s k.line (line_at s k.line).row.form) where
  abbrev row : Row
  row = (line_at s k.line).row

  pub sets_shared : write_at (setting_of s k) shared (place_in (remainder_of s k).items) (remainder_of s k) ≡ Some w → IsSet s w.0
  sets_shared is = by (expression_of row.form) refl
    where
      by : (o : Option Expr) → expression_of row.form ≡ o → IsSet s w.0
      by None e = absurd (none-some w (sym (no_write s k shared row row.form some (row_known s k.line inside.0 inside.1) p e) ∙ is))
      by (Some e) here =
          let v = valued_by s k.line row row.form e (row_known s k.line inside.0 inside.1) here in
          let t = site s k v.rest v.act v.shared some v.does in
          let value = value_of (setting_of s k) shared (remainder_of s k) e in
          let set = sets_by row.form value w (sym (write_is s k v.rest v.act t shared ∙ v.written (setting_of s k) shared (remainder_of s k)) ∙ is) in
          record { line = k.line - 1; e = set.0; stands = line_stands s k.line inside.0 inside.1 ∙ ap Some set.1 }

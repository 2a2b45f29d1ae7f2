-- Lines of a script that call.
use Rattle.std.proofs.Common.{◌≡◌, ℕ, zero, suc, List, [], ◌∷◌, map, get_or, slice_get, Some, ap, sym, ◌∙◌, subst}
use Rattle.thr_syntax.specs.declared.form.Form.{Form}
use Rattle.thr_syntax.specs.declared.form.Form.TheVariants as form
use Rattle.thr_syntax.specs.declared.tree.Script.{Script}
use Rattle.thr_syntax.specs.Lines.{lines_of}
use Rattle.thr_lines.specs.Layout.{ScriptLine, no_line, script_layout, line_at, row_of, script_rows}
use Rattle.thr_lines.proofs.FormLaws.{form_in}
use Rattle.thr_lines.proofs.ItemLaws.{script_forms}
use Rattle.thr_stack.specs.Standing as contexts
use Rattle.thr_frames.specs.Stacks.{CanCall}

-- Whether a line calls.
is_call : Form → Type 0
is_call (form.Call name e place) = Unit {0}
is_call _ = ⊥

-- What calls at a place of a list is one of its lines: past the end stands a line that calls nothing.
read_form : (es : List ScriptLine) (k : ℕ) (f : Form) → is_call f → (get_or es k no_line).row.form ≡ f → slice_get (map form_in (map row_of es)) k ≡ Some f
unfolding is_call
read_form [] k f c e = absurd (subst is_call (sym e) c)
read_form (x ∷ es) zero f c e = ap Some e
read_form (x ∷ es) (suc k) f c e = read_form es k f c e

line_reads : (s : Script) (l : ℕ) (f : Form) → is_call f → (line_at s l).row.form ≡ f → (k : ℕ) × (slice_get (lines_of s) k ≡ Some f)
unfolding line_at script_rows is_call
line_reads s zero f c e = absurd (subst is_call (sym e) c)
line_reads s (suc k) f c e = (k, ap (λ (fs : List Form). slice_get fs k) (sym (script_forms s)) ∙ read_form (script_layout s) k f c e)

-- Each routine that a line of the layout calls can be called.
pub can_call : (s : Script) → CanCall s → contexts.CanCall s
unfolding is_call
can_call s h l name e place is = let t = line_reads s l (form.Call name e place) tt is in h t.0 name e place t.1

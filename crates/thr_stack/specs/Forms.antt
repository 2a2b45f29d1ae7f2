-- What the forms of lines say of the statements on them.
use Rattle.std.specs.Prelude.{ℕ, ℤ, List, [], ◌∷◌, Bool, true, false, Option, Some, None}
use Rattle.std.specs.List.{list_any}
use Rattle.thr_values.specs.declared.number.NameId.{NameId}
use Rattle.thr_values.specs.declared.history.What.{What}
use Rattle.thr_values.specs.declared.history.What.TheVariants as what
use Rattle.thr_syntax.specs.declared.expr.Expr.{Expr}
use Rattle.thr_syntax.specs.declared.form.Form.{Form}
use Rattle.thr_syntax.specs.declared.form.Form.TheVariants as form
use Rattle.thr_syntax.specs.Shared.{is_shared_variable, variables_of}
use Rattle.thr_remainder.specs.Expressions.{Value}
use Rattle.thr_remainder.specs.Starts.{at}
use Rattle.thr_remainder.specs.Steps.{write_with}
use Rattle.thr_lines.specs.AtLines.{reads_shared}

-- The expression of the statement at a line; a call of the thread service has its own (docs/script.md, "Lines").
abbrev pub expression_of : Form → Option Expr
expression_of (form.Set v e) = Some e
expression_of (form.Say e) = Some e
expression_of (form.If e) = Some e
expression_of (form.While e) = Some e
expression_of (form.Call r e place) = Some e
expression_of (form.Return e) = Some e
expression_of (form.Exit e) = Some e
expression_of _ = None

-- The step of the statement needs a frame, once its expression is valued (docs/machine.md, "Frames").
abbrev pub needs_frame : Form → Bool
needs_frame (form.Call r e place) = true
needs_frame _ = false

-- The statement is shared (docs/machine.md, "Turns").
abbrev pub shares : Form → Bool
shares (form.Set v e) = list_any is_shared_variable (v ∷ variables_of e)
shares (form.Say e) = true
shares (form.If e) = reads_shared e
shares (form.While e) = reads_shared e
shares (form.Call r e place) = reads_shared e
shares (form.Return e) = reads_shared e
shares (form.Exit e) = reads_shared e
shares (form.Dce call) = true
shares _ = false

-- No statement stands at the line (docs/machine.md, "The next step").
abbrev pub ends : Form → Bool
ends (form.Set v e) = false
ends (form.Say e) = false
ends (form.If e) = false
ends (form.While e) = false
ends form.Try = false
ends (form.Raise x) = false
ends form.Reraise = false
ends (form.Call r e place) = false
ends (form.Return e) = false
ends (form.Exit e) = false
ends (form.Dce call) = false
ends _ = true

-- What a shared statement at this line tells of the value of its expression (docs/machine.md, "Shared statements").
abbrev pub told_by : Form → ℕ → ℤ → List What
told_by (form.Set v e) line n = what.Set (at line) n ∷ []
told_by (form.Say e) line n = what.Say n ∷ []
told_by (form.If e) line n = what.If (at line) n ∷ []
told_by (form.While e) line n = what.While (at line) n ∷ []
told_by (form.Call r e place) line n = what.CallAt (at line) n ∷ []
told_by (form.Return e) line n = what.Return (at line) n ∷ []
told_by _ line n = []

-- The shared variable that the statement sets, with the value of its expression (docs/machine.md, "Shared statements").
abbrev pub write_from : Form → Value → Option (NameId × ℤ)
write_from (form.Set v e) value = write_with v value
write_from _ value = None

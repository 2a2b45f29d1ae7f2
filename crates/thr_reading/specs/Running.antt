-- The lines of a script, each spelled with the names that are in force at it.
use Rattle.std.specs.Prelude.{ℕ, List, [], ◌∷◌, ◌++◌}
use Rattle.thr_syntax.specs.declared.form.Form.{Form}
use Rattle.thr_syntax.specs.declared.form.Form.TheVariants as form
use Rattle.thr_syntax.specs.Spelling.{form_words}
use Rattle.thr_resolving.specs.Resolving.{scope_of}

-- The parameter and locals in force below a line.
abbrev pub locals_after_form : List (List ℕ) → Form → List (List ℕ)
locals_after_form locals (form.Routine name parameter) = parameter ∷ []
locals_after_form locals (form.Local name) = locals ++ name ∷ []
locals_after_form locals _ = locals

-- Lines, each spelled with the locals in force at it.
unfoldable pub spelled_lines : List (List ℕ) → List (List ℕ) → List Form → List (List (List ℕ))
spelled_lines names locals [] = []
spelled_lines names locals (f ∷ fs) = form_words (scope_of names (locals_after_form locals f)) f ∷ spelled_lines names (locals_after_form locals f) fs

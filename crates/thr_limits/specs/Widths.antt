-- How much of a line its words take.
use Rattle.std.specs.Prelude.{ℕ, ◌+◌, Bool, List, [], ◌∷◌, length}
use Rattle.thr_syntax.specs.declared.form.Form.{Form}
use Rattle.thr_syntax.specs.Spelling as syntax
use Rattle.thr_limits.specs.Limits.{is_short_line}
use Rattle.thr_limits.specs.declared.width.Width.{Width}
use Rattle.thr_limits.specs.declared.width.Scope.{Scope}
use Rattle.thr_limits.specs.Capped.{capped}

abbrev pub nothing : Width
nothing = record { words = 0; bytes = 0 }

-- A word with the space or the end after it.
abbrev pub after_word : Width → List ℕ → Width
after_word width word = record { words = capped (width.words + 1); bytes = capped (width.bytes + (length word + 1)) }

abbrev pub after_words : Width → List (List ℕ) → Width
after_words width [] = width
after_words width (word ∷ words) = after_words (after_word width word) words

abbrev pub spelled : Scope → syntax.Scope
spelled scope = record { names = scope.names.now; locals = scope.locals.now }

-- The line of this form is short enough.
abbrev pub is_short_form : syntax.Scope → Form → Bool
is_short_form scope form = is_short_line (syntax.form_words scope form)

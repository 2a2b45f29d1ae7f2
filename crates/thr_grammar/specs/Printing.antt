-- The text of lines, as the printer appends it.
use Rattle.std.specs.Prelude.{ℕ, List, [], ◌∷◌, map, codes}
use Rattle.std.specs.List.{flat_map}
use Rattle.thr_syntax.specs.declared.form.Form.{Form}
use Rattle.thr_syntax.specs.declared.tree.Clause.{Clause}
use Rattle.thr_syntax.specs.declared.tree.Item.{Item}
use Rattle.thr_syntax.specs.Lines.{joined, clause_form, body_lines, item_lines}
use Rattle.thr_syntax.specs.Spelling.{Scope, form_words}
use Rattle.thr_syntax.specs.Canon.{line, scope_in}
use Rattle.thr_grammar.specs.declared.printing.scope.Scope as code

-- The names by which a printer spells.
abbrev pub scope_of : code.Scope → Scope
scope_of s = record { names = s.names.now; locals = s.locals.now }

-- Words, each after a space.
abbrev pub spaced : List (List ℕ) → List ℕ
spaced words = flat_map (λ w. 32 ∷ w) words

-- The canonical text of lines.
abbrev pub lines_text : Scope → List Form → List ℕ
lines_text scope forms = joined (map (λ f. line (form_words scope f)) forms)

-- The lines of the clauses of a try.
abbrev pub clauses_lines : List Clause → List Form
clauses_lines clauses = joined (map (λ (c : Clause). clause_form c.names ∷ body_lines c.body) clauses)

-- The lines of further locals.
abbrev pub locals_text : List (List ℕ) → List ℕ
locals_text locals = joined (map (λ (n : List ℕ). line (codes "local" ∷ n ∷ [])) locals)

-- The lines of declarations.
abbrev pub items_text : List (List ℕ) → List Item → List ℕ
items_text names items = joined (map (λ (i : Item). lines_text (scope_in names i) (item_lines i)) items)

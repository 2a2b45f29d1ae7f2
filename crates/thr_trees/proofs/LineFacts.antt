-- What keeping the rules says of each line of a script, with the locals that are in force at it.
use Rattle.std.proofs.Common.{◌≡◌, ℕ, ◌+◌, Bool, true, false, List, [], ◌∷◌, map, length, None, refl, sym, ap, subst, ◌∙◌}
use Rattle.std.specs.Prelude.{◌&&◌}
use Rattle.std.specs.List.{list_all, list_any}
use Rattle.thr_syntax.specs.declared.form.Form.{Form}
use Rattle.thr_syntax.specs.declared.form.Form.TheVariants as form
use Rattle.thr_syntax.specs.declared.tree.Script.{Script}
use Rattle.thr_syntax.specs.Spelling.{form_words}
use Rattle.thr_text.specs.declared.word.Word.{Word}
use Rattle.thr_text.specs.Lexing.{word_of}
use Rattle.thr_text.specs.Slots.{form_fault}
use Rattle.thr_text.specs.Numbers.{AreSigned, form_numbers, HaveNumbers}
use Rattle.thr_text.specs.Tables.{Entry, entries_of, placed_in}
use Rattle.thr_text.specs.NameFaults.{Above, above_next, nothing_above, has_main, is_undeclared, is_misused, locals_below}
use Rattle.thr_text.specs.Reading.{Formed, HaveForms, own_lines, numbered_lines}
use Rattle.thr_blocks.specs.Build.{is_own}
use Rattle.thr_naming.specs.Misnamed.{AreWellNamed}
use Rattle.thr_naming.proofs.MisnamedLaws.{own_parts}
use Rattle.thr_resolving.specs.Resolving.{scope_of}
use Rattle.thr_resolving.specs.Scopes.{IsScope}
use Rattle.thr_reading.specs.Naming.{AreScopes}
use Rattle.thr_reading.specs.Running.{locals_after_form, spelled_lines}
use Rattle.thr_reading.proofs.LocalsLaws.{same_locals}
use Rattle.thr_reading.proofs.NamesFaultless.{keeps}
use Rattle.thr_reading.proofs.NamesRenumbered.{names_are_short}
use Rattle.thr_reading.proofs.OneScript.{tree_lines, own_spelled, formed_scopes}
use Rattle.thr_reading.proofs.OwnLaws.{items_own, no_header}
use Rattle.thr_reading.proofs.ReadLaws.{words_numbered}

abbrev Lines : Type 0
Lines = List (List Word)

abbrev texts_words : List (List (List ℕ)) → Lines
texts_words = map (map word_of)

-- The words of a line below these locals.
abbrev pub words_at : List (List ℕ) → List (List ℕ) → Form → List Word
words_at names locals f = map word_of (form_words (scope_of names locals) f)

-- The line keeps the rules where the names of the script and these locals are in force.
pub record IsFine (entries : List Entry) (names locals : List (List ℕ)) (f : Form) : Type 0 where
  pub scope : IsScope (scope_of names locals)
  pub own : f ≡ form.Header → ⊥
  pub signed : AreSigned (form_numbers f)
  pub faultless : form_fault (words_at names locals f) ≡ None
  pub declared : list_any (is_undeclared entries locals) (placed_in (words_at names locals f)) ≡ false
  pub suited : list_any (is_misused entries locals) (placed_in (words_at names locals f)) ≡ false

-- Each of these lines does, below these locals.
abbrev pub AreFine : List Entry → List (List ℕ) → List (List ℕ) → List Form → Type 0
AreFine entries names locals [] = Unit {0}
AreFine entries names locals (f ∷ fs) = IsFine entries names (locals_after_form locals f) f × AreFine entries names (locals_after_form locals f) fs

both : (a b : Bool) → (a && b) ≡ true → (a ≡ true) × (b ≡ true)
both true b e = (refl, e)
both false b e = absurd cc

all_fine : (whole : Lines) (names : List (List ℕ)) (above : Above) (locals : List (List ℕ)) (fs : List Form) → above.locals ≡ locals → list_all is_own fs ≡ true → HaveNumbers fs
    → HaveForms (texts_words (spelled_lines names locals fs)) → AreScopes names locals (texts_words (spelled_lines names locals fs))
    → AreWellNamed whole above (texts_words (spelled_lines names locals fs)) → AreFine (entries_of whole) names locals fs
unfolding spelled_lines
all_fine whole names above locals [] here own numbers forms scopes named = tt
all_fine whole names above locals (f ∷ fs) here own numbers forms scopes named =
    let below : List (List ℕ) = locals_after_form locals f in
    let l : List Word = words_at names below f in
    let rest : Lines = texts_words (spelled_lines names below fs) in
    let p = both (is_own f) (list_all is_own fs) own in
    let o = no_header f p.0 in
    let same : locals_below locals l ≡ below = same_locals (scope_of names below) locals f o forms.0 in
    let now : locals_below above.locals l ≡ below = ap (λ (k : List (List ℕ)). locals_below k l) here ∙ same in
    let k = keeps whole above l named.0 in (
      record {
        scope = subst (λ (x : List (List ℕ)). IsScope (scope_of names x)) same scopes.0;
        own = o;
        signed = numbers.0;
        faultless = forms.0;
        declared = subst (λ (x : List (List ℕ)). list_any (is_undeclared (entries_of whole) x) (placed_in l) ≡ false) now k.declared;
        suited = subst (λ (x : List (List ℕ)). list_any (is_misused (entries_of whole) x) (placed_in l) ≡ false) now k.suited;
      },
      all_fine whole names (above_next above l) below fs now p.1 numbers.1 forms.2 (subst (λ (x : List (List ℕ)). AreScopes names x rest) same scopes.1) named.1,
    )

-- ---- the lines of a script that keeps the rules

well_named : (s : Script) → Formed s → AreWellNamed (own_lines s) nothing_above (own_lines s) × (has_main (own_lines s) ≡ true)
well_named s h =
    let numbered = numbered_lines 2 (own_lines s) in
    let parts = own_parts (length (own_lines s) + 2) numbered (names_are_short (length (own_lines s) + 2) numbered h.names_and_limits).1 in
    subst (λ (ls : Lines). AreWellNamed ls nothing_above ls × (has_main ls ≡ true)) (words_numbered 2 (own_lines s)) parts

pub main_declared : (s : Script) → Formed s → has_main (own_lines s) ≡ true
main_declared s h = (well_named s h).1

pub lines_fine : (s : Script) → Formed s → AreFine (entries_of (own_lines s)) s.names [] (tree_lines s)
lines_fine s h =
    let spelled : own_lines s ≡ texts_words (spelled_lines s.names [] (tree_lines s)) = sym (own_spelled s h) in
    all_fine (own_lines s) s.names nothing_above [] (tree_lines s) refl (items_own s.items) h.numbers.1 (subst HaveForms spelled h.forms) (subst (AreScopes s.names []) spelled (formed_scopes s h))
    (subst (λ (ls : Lines). AreWellNamed (own_lines s) nothing_above ls) spelled (well_named s h).0)

-- The canonical text of the words of a text is that of its script.
use Rattle.std.proofs.Common.{◌≡◌, ℕ, Bool, true, false, List, [], ◌∷◌, ◌++◌, map, refl, sym, ap, subst, ◌∙◌}
use Rattle.std.specs.Prelude.{◌&&◌, codes}
use Rattle.std.specs.List.{list_all, join_with_byte, flat_map}
use Rattle.thr_syntax.specs.declared.form.Form.{Form}
use Rattle.thr_syntax.specs.declared.tree.Script.{Script}
use Rattle.thr_syntax.specs.Lines.{joined}
use Rattle.thr_syntax.specs.Canon.{canon, line}
use Rattle.thr_syntax.specs.Spelling.{form_words}
use Rattle.thr_text.specs.declared.word.Word.{Word}
use Rattle.thr_text.specs.Lexing.{word_of, word_text, line_text}
use Rattle.thr_text.specs.Numbers.{HaveNumbers}
use Rattle.thr_text.specs.Blocks.{Line}
use Rattle.thr_text.specs.Reading.{script_lines, own_lines, HaveForms, Formed, Reads}
use Rattle.thr_blocks.specs.Build.{is_own}
use Rattle.thr_resolving.specs.Resolving.{scope_of}
use Rattle.thr_resolving.specs.Scopes.{IsScope}
use Rattle.thr_resolving.proofs.AgainLines.{line_texts}
use Rattle.thr_reading.specs.Running.{locals_after_form, spelled_lines}
use Rattle.thr_reading.specs.Naming.{AreScopes}
use Rattle.thr_reading.proofs.LocalsLaws.{same_locals}
use Rattle.thr_reading.proofs.OwnLaws.{items_own, no_header}
use Rattle.thr_reading.proofs.OneScript.{tree_lines, formed_words, formed_scopes, own_spelled}
use Rattle.thr_journals.specs.Faults.{with_end, canonical}

both : (a b : Bool) → (a && b) ≡ true → (a ≡ true) × (b ≡ true)
both true b e = (refl, e)
both false b e = absurd cc

-- The canonical text of lines of words.
abbrev texts_of : List (List Word) → List ℕ
texts_of lines = flat_map (λ (ws : List Word). with_end (line_text ws)) lines

spelled_again : (names locals : List (List ℕ)) (fs : List Form) → list_all is_own fs ≡ true → HaveNumbers fs → HaveForms (map (map word_of) (spelled_lines names locals fs))
    → AreScopes names locals (map (map word_of) (spelled_lines names locals fs)) → texts_of (map (map word_of) (spelled_lines names locals fs)) ≡ joined (map line (spelled_lines names locals fs))
unfolding spelled_lines
spelled_again names locals [] own numbers forms scopes = refl
spelled_again names locals (f ∷ fs) own numbers forms scopes =
    let below = locals_after_form locals f in
    let scope = scope_of names below in
    let p = both (is_own f) (list_all is_own fs) own in
    let o = no_header f p.0 in
    let same = same_locals scope locals f o forms.0 in
    let good : IsScope scope = subst (λ (k : List (List ℕ)). IsScope (scope_of names k)) same scopes.0 in
    let rest = spelled_lines names below fs in
    ap (λ (ts : List (List ℕ)). with_end (join_with_byte 32 ts) ++ texts_of (map (map word_of) rest)) (line_texts scope f good o numbers.0 forms.0)
    ∙ ap (λ (bs : List ℕ). line (form_words scope f) ++ bs)
    (spelled_again names below fs p.1 numbers.1 forms.2 (subst (λ (k : List (List ℕ)). AreScopes names k (map (map word_of) rest)) same scopes.1))

numbers_off : (ls : List Line) → flat_map (λ (l : Line). with_end (line_text l.1)) ls ≡ texts_of (map (λ (l : Line). l.1) ls)
numbers_off [] = refl
numbers_off (l ∷ ls) = ap (λ (bs : List ℕ). with_end (line_text l.1) ++ bs) (numbers_off ls)

header : with_end (codes "dcethr 1") ≡ line (codes "dcethr" ∷ codes "1" ∷ [])
header = refl

own_text : (s : Script) → Formed s → texts_of (own_lines s) ≡ joined (map line (spelled_lines s.names [] (tree_lines s)))
own_text s h =
    let spelled = own_spelled s h in
    ap texts_of (sym spelled)
    ∙ spelled_again s.names [] (tree_lines s) (items_own s.items) h.numbers.1 (subst HaveForms (sym spelled) h.forms) (subst (AreScopes s.names []) (sym spelled) (formed_scopes s h))

pub canonical_is : (bytes : List ℕ) (s : Script) → Reads bytes s → canonical bytes ≡ canon s
canonical_is bytes s r =
    ap (λ (bs : List ℕ). bs ++ flat_map (λ (l : Line). with_end (line_text l.1)) (script_lines bytes)) header
    ∙ ap (λ (bs : List ℕ). line (codes "dcethr" ∷ codes "1" ∷ []) ++ bs) (numbers_off (script_lines bytes) ∙ ap texts_of r.words ∙ own_text s r.formed)
    ∙ ap (λ (tss : List (List (List ℕ))). joined (map line ((codes "dcethr" ∷ codes "1" ∷ []) ∷ tss))) (formed_words s r.formed)

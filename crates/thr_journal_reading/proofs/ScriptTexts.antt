-- The text of a script in a journal is cut into its lines.
use Rattle.std.proofs.Common.{◌≡◌, ℕ, zero, suc, ◌+◌, ◌<◌, ◌≤◌, Bool, true, false, List, [], ◌∷◌, ◌++◌, map, length, take, drop, length-append, refl, sym, ap, subst, ◌∙◌, append_assoc, arith}
use Rattle.std.specs.Prelude.{◌==◌, ◌&&◌, not, codes}
use Rattle.std.specs.List.{join_with_byte, list_all, slice_split, onto_first, flat_map}
use Rattle.std.proofs.lemmas.Bool.Decides.{nat_tests}
use Rattle.std.proofs.lemmas.List.{length-map, length-take-le}
use Rattle.std.proofs.lemmas.List.Splits.{slice_split-cons_no, slice_split-cons_yes}
use Rattle.thr_syntax.specs.declared.form.Form.{Form}
use Rattle.thr_syntax.specs.declared.tree.Script.{Script}
use Rattle.thr_syntax.specs.Lines.{joined}
use Rattle.thr_syntax.specs.Canon.{canon, line, script_words}
use Rattle.thr_syntax.specs.Spelling.{form_words}
use Rattle.thr_text.specs.Faults.{word_faults}
use Rattle.thr_text.specs.Lexing.{is_plain, word_of, line_text}
use Rattle.thr_text.specs.Numbers.{HaveNumbers}
use Rattle.thr_text.specs.Reading.{own_lines, HaveForms, Formed}
use Rattle.thr_lexer.proofs.OfLine.{faultless}
use Rattle.thr_blocks.specs.Build.{is_own}
use Rattle.thr_resolving.specs.Resolving.{scope_of}
use Rattle.thr_resolving.specs.Scopes.{IsScope}
use Rattle.thr_resolving.proofs.AgainLines.{line_texts}
use Rattle.thr_reading.specs.Running.{locals_after_form, spelled_lines}
use Rattle.thr_reading.specs.Naming.{AreScopes}
use Rattle.thr_reading.proofs.LocalsLaws.{same_locals}
use Rattle.thr_reading.proofs.OwnLaws.{items_own, no_header}
use Rattle.thr_reading.proofs.OneScript.{tree_lines, formed_words, formed_scopes, own_spelled}
use Rattle.thr_journals.specs.Faults.{is_end, parts_of, with_end}
use Rattle.thr_journal_laws.proofs.Shortest.{and_both}
use Rattle.thr_journal_laws.proofs.CleanLaws.{cut_line}

-- ---- lines without line feeds

abbrev pub HasNoEnd : List ℕ → Type 0
HasNoEnd l = list_all (λ b. not (b == 10)) l ≡ true

abbrev pub HaveNoEnd : List (List ℕ) → Type 0
HaveNoEnd [] = Unit {0}
HaveNoEnd (l ∷ ls) = HasNoEnd l × HaveNoEnd ls

both_true : (a c : Bool) → a ≡ true → c ≡ true → (a && c) ≡ true
both_true true c e f = f
both_true false c e f = absurd cc

-- each with its line feed, they are cut again
pub cut_lines : (ls : List (List ℕ)) (rest : List ℕ) → HaveNoEnd ls → parts_of (flat_map with_end ls ++ rest) ≡ ls ++ parts_of rest
cut_lines [] rest h = refl
cut_lines (l ∷ ls) rest h =
    ap parts_of (regroup l (flat_map with_end ls) rest) ∙ cut_line l (flat_map with_end ls ++ rest) h.0 ∙ ap (λ (parts : List (List ℕ)). l ∷ parts) (cut_lines ls rest h.1)
  where
    regroup : (a b c : List ℕ) → ((a ++ 10 ∷ []) ++ b) ++ c ≡ a ++ 10 ∷ (b ++ c)
    regroup a b c = simp append_assoc

-- ---- the parts of a text have none

onto_no_end : (b : ℕ) (parts : List (List ℕ)) → (b == 10) ≡ false → HaveNoEnd parts → HaveNoEnd (onto_first b parts)
onto_no_end b [] e h = (rw e refl, tt)
onto_no_end b (l ∷ parts) e h = (both_true (not (b == 10)) (list_all (λ c. not (c == 10)) l) (rw e refl) h.0, h.1)

parts_by : (b : ℕ) (text : List ℕ) (t : Bool) → (b == 10) ≡ t → HaveNoEnd (parts_of text) → HaveNoEnd (parts_of (b ∷ text))
parts_by b text true e h = subst HaveNoEnd (sym (slice_split-cons_yes is_end b text e)) (refl, h)
parts_by b text false e h = subst HaveNoEnd (sym (slice_split-cons_no is_end b text e)) (onto_no_end b (parts_of text) e h)

pub parts_no_end : (text : List ℕ) → HaveNoEnd (parts_of text)
parts_no_end [] = (refl, tt)
parts_no_end (b ∷ text) = parts_by b text (b == 10) refl (parts_no_end text)

pub take_no_end : (k : ℕ) (parts : List (List ℕ)) → HaveNoEnd parts → HaveNoEnd (take k parts)
take_no_end zero parts h = tt
take_no_end (suc k) [] h = tt
take_no_end (suc k) (l ∷ parts) h = (h.0, take_no_end k parts h.1)

pub drop_no_end : (k : ℕ) (parts : List (List ℕ)) → HaveNoEnd parts → HaveNoEnd (drop k parts)
drop_no_end zero parts h = h
drop_no_end (suc k) [] h = tt
drop_no_end (suc k) (l ∷ parts) h = drop_no_end k parts h.1

-- ---- the lines of a canonical text

plain_no_end : (b : ℕ) → is_plain b ≡ true → not (b == 10) ≡ true
plain_no_end b h = grind (arith, nat_tests)

plain_line : (l : List ℕ) → list_all is_plain l ≡ true → HasNoEnd l
plain_line [] h = refl
plain_line (b ∷ l) h =
    let two = and_both (is_plain b) (list_all is_plain l) h in
    both_true (not (b == 10)) (list_all (λ c. not (c == 10)) l) (plain_no_end b two.0) (plain_line l two.1)

spelled_no_end : (names locals : List (List ℕ)) (fs : List Form) → list_all is_own fs ≡ true → HaveNumbers fs → HaveForms (map (map word_of) (spelled_lines names locals fs))
    → AreScopes names locals (map (map word_of) (spelled_lines names locals fs)) → HaveNoEnd (map (join_with_byte 32) (spelled_lines names locals fs))
unfolding spelled_lines
spelled_no_end names locals [] own numbers forms scopes = tt
spelled_no_end names locals (f ∷ fs) own numbers forms scopes =
    let below = locals_after_form locals f in
    let scope = scope_of names below in
    let p = and_both (is_own f) (list_all is_own fs) own in
    let o = no_header f p.0 in
    let same = same_locals scope locals f o forms.0 in
    let good : IsScope scope = subst (λ (k : List (List ℕ)). IsScope (scope_of names k)) same scopes.0 in
    let rest = spelled_lines names below fs in
    let ts = form_words scope f in
    let text : join_with_byte 32 ts ≡ line_text (map word_of ts) = ap (join_with_byte 32) (sym (line_texts scope f good o numbers.0 forms.0)) in (
      subst HasNoEnd (sym text) (plain_line (line_text (map word_of ts)) (faultless (line_text (map word_of ts)) forms.1).plain),
      spelled_no_end names below fs p.1 numbers.1 forms.2 (subst (λ (k : List (List ℕ)). AreScopes names k (map (map word_of) rest)) same scopes.1),
    )

header_no_end : HasNoEnd (join_with_byte 32 (codes "dcethr" ∷ codes "1" ∷ []))
header_no_end = refl

pub script_no_end : (s : Script) → Formed s → HaveNoEnd (map (join_with_byte 32) (script_words s))
script_no_end s h =
    let spelled = own_spelled s h in (
      header_no_end,
      subst (λ (tss : List (List (List ℕ))). HaveNoEnd (map (join_with_byte 32) tss)) (formed_words s h)
          (spelled_no_end s.names [] (tree_lines s) (items_own s.items) h.numbers.1 (subst HaveForms (sym spelled) h.forms) (subst (AreScopes s.names []) (sym spelled) (formed_scopes s h))),
    )

ended_lines : (tss : List (List (List ℕ))) → joined (map line tss) ≡ flat_map with_end (map (join_with_byte 32) tss)
ended_lines [] = refl
ended_lines (ts ∷ tss) = ap (λ (bs : List ℕ). line ts ++ bs) (ended_lines tss)

pub canon_ended : (s : Script) → canon s ≡ flat_map with_end (map (join_with_byte 32) (script_words s))
canon_ended s = ended_lines (script_words s)

-- ---- lines that are those of a script

same_front : {A : Type 0} (xs ys : List A) (z : A) → xs ++ z ∷ [] ≡ ys ++ z ∷ [] → length xs ≡ length ys
same_front xs ys z e = let n : length (xs ++ z ∷ []) ≡ length (ys ++ z ∷ []) = ap length e in omega (arith, n, length-append xs (z ∷ []), length-append ys (z ∷ []))

append_nil : (xs : List ℕ) → xs ++ [] ≡ xs
append_nil [] = refl
append_nil (x ∷ xs) = ap (λ (ys : List ℕ). x ∷ ys) (append_nil xs)

-- So many lines whose text is that of a script are as many as the script has.
pub as_many_lines : (s : Script) → Formed s → (ls : List (List ℕ)) → HaveNoEnd ls → flat_map with_end ls ≡ canon s → length ls ≡ length (script_words s)
as_many_lines s h ls none e =
    let own = map (join_with_byte 32) (script_words s) in
    let cut : ls ++ [] ∷ [] ≡ own ++ [] ∷ [] =
    sym (cut_lines ls [] none) ∙ ap (λ (text : List ℕ). parts_of (text ++ [])) (e ∙ canon_ended s) ∙ cut_lines own [] (script_no_end s h) in
    same_front ls own [] cut ∙ length-map (script_words s) (join_with_byte 32)

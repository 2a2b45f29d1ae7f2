-- The canonical text of a script that keeps the rules is read as that script.
use Rattle.std.proofs.Common.{◌≡◌, ℕ, ◌+◌, ◌≤◌, Bool, true, false, List, [], ◌∷◌, ◌++◌, map, length, length-append, None, refl, sym, ap, subst, ◌∙◌, arith}
use Rattle.std.specs.Prelude.{◌*◌, ◌&&◌, codes}
use Rattle.std.specs.List.{list_all, join_with_byte}
use Rattle.std.specs.Str.Lines.{lines}
use Rattle.std.proofs.lemmas.Bool.{ltb-false}
use Rattle.std.proofs.lemmas.List.{length-map}
use Rattle.thr_syntax.specs.declared.form.Form.{Form}
use Rattle.thr_syntax.specs.declared.tree.Script.{Script}
use Rattle.thr_syntax.specs.Lines.{joined}
use Rattle.thr_syntax.specs.Canon.{canon, line}
use Rattle.thr_text.specs.declared.word.Word.{Word}
use Rattle.thr_text.specs.Faults.{word_faults}
use Rattle.thr_text.specs.Lexing.{is_plain, word_of, words_of, line_text, AreOfLine}
use Rattle.thr_text.specs.Computing.{text_words}
use Rattle.thr_text.specs.Numbers.{HaveNumbers}
use Rattle.thr_text.specs.Blocks.{Line}
use Rattle.thr_text.specs.Slots.{form_fault}
use Rattle.thr_text.specs.Reading.{form_faults, scan_faults, line_at, lines_from, script_lines, end_of, own_lines, numbered_lines, HaveForms, Formed, Reads}
use Rattle.thr_lexer.proofs.OfLine.{faultless}
use Rattle.thr_lexer.proofs.Canon.{line_again}
use Rattle.thr_blocks.specs.Build.{is_own}
use Rattle.thr_resolving.specs.Resolving.{scope_of}
use Rattle.thr_resolving.specs.Scopes.{IsScope}
use Rattle.thr_reading.specs.Running.{locals_after_form, spelled_lines}
use Rattle.thr_reading.specs.Naming.{AreScopes}
use Rattle.thr_reading.proofs.OwnLaws.{items_own, no_header, some_words}
use Rattle.thr_reading.proofs.OneScript.{tree_lines, formed_words, formed_scopes, own_spelled}
use Rattle.thr_reading.proofs.ReadLaws.{words_numbered}
use Rattle.thr_reading.proofs.WrittenLines.{ArePlain, ended, lines_again}
use Rattle.thr_resolving.proofs.AgainLines.{line_of_line, line_texts}
use Rattle.thr_reading.proofs.NamesRenumbered.{names_are_short}
use Rattle.thr_reading.proofs.LocalsLaws.{same_locals}

abbrev Lines : Type 0
Lines = List (List Word)

abbrev Texts : Type 0
Texts = List (List (List ℕ))

abbrev texts_words : Texts → Lines
texts_words = map (map word_of)

both : (a b : Bool) → (a && b) ≡ true → (a ≡ true) × (b ≡ true)
both true b e = (refl, e)
both false b e = absurd cc

-- ---- lines whose texts are those of their words, which a line may have

-- A line of texts is written as the canonical line of its words, without a fault.
record IsWritten (ts : List (List ℕ)) : Type 0 where
  pub some : map word_of ts ≡ [] → ⊥
  pub text : join_with_byte 32 ts ≡ line_text (map word_of ts)
  pub of_line : AreOfLine (map word_of ts)
  pub form : form_fault (map word_of ts) ≡ None
  pub faultless : word_faults (line_text (map word_of ts)) ≡ []

abbrev AreWritten : Texts → Type 0
AreWritten [] = Unit {0}
AreWritten (ts ∷ tss) = IsWritten ts × AreWritten tss

written_lines : (names locals : List (List ℕ)) (fs : List Form) → list_all is_own fs ≡ true → HaveNumbers fs
    → HaveForms (texts_words (spelled_lines names locals fs)) → AreScopes names locals (texts_words (spelled_lines names locals fs)) → AreWritten (spelled_lines names locals fs)
unfolding spelled_lines
written_lines names locals [] own numbers forms scopes = tt
written_lines names locals (f ∷ fs) own numbers forms scopes =
    let below = locals_after_form locals f in
    let scope = scope_of names below in
    let p = both (is_own f) (list_all is_own fs) own in
    let o = no_header f p.0 in
    let same = same_locals scope locals f o forms.0 in
    let good : IsScope scope = subst (λ (k : List (List ℕ)). IsScope (scope_of names k)) same scopes.0 in (
      record {
        some = some_words scope f o;
        text = ap (join_with_byte 32) (sym (line_texts scope f good o numbers.0 forms.0));
        of_line = line_of_line scope f good o numbers.0 forms.0;
        form = forms.0;
        faultless = forms.1;
      },
      written_lines names below fs p.1 numbers.1 forms.2 (subst (λ (k : List (List ℕ)). AreScopes names k (texts_words (spelled_lines names below fs))) same scopes.1),
    )

-- ---- the lines of the text, read again

abbrev written : Texts → List (List ℕ)
written = map (join_with_byte 32)

written_plain : (tss : Texts) → AreWritten tss → ArePlain (written tss)
written_plain [] h = tt
written_plain (ts ∷ tss) h = (ap (list_all is_plain) h.0.text ∙ (faultless (line_text (map word_of ts)) h.0.faultless).plain, written_plain tss h.1)

words_of_written : (ts : List (List ℕ)) → IsWritten ts → words_of (join_with_byte 32 ts) ≡ map word_of ts
words_of_written ts h = ap words_of h.text ∙ line_again (map word_of ts) h.of_line

no_word_fault : (ts : List (List ℕ)) → IsWritten ts → word_faults (join_with_byte 32 ts) ≡ []
no_word_fault ts h = ap word_faults h.text ∙ h.faultless

kept : (at : ℕ) (ws : List Word) → (ws ≡ [] → ⊥) → line_at at true ws ≡ (at, ws) ∷ []
kept at [] some = absurd (some refl)
kept at (w ∷ ws) some = refl

no_form_fault : (ws : List Word) → form_fault ws ≡ None → form_faults true ws ≡ []
no_form_fault [] e = refl
no_form_fault (w ∷ ws) e = rw e refl

lines_kept : (at : ℕ) (tss : Texts) → AreWritten tss → lines_from at true (written tss) ≡ numbered_lines at (texts_words tss)
unfolding lines_from numbered_lines
lines_kept at [] h = refl
lines_kept at (ts ∷ tss) h =
    ap (λ (ws : List Word). line_at at true ws ++ lines_from (at + 1) true (written tss)) (words_of_written ts h.0)
    ∙ ap (λ (ls : List Line). ls ++ lines_from (at + 1) true (written tss)) (kept at (map word_of ts) h.0.some)
    ∙ ap (λ (ls : List Line). (at, map word_of ts) ∷ ls) (lines_kept (at + 1) tss h.1)

no_scan_fault : (at : ℕ) (tss : Texts) → AreWritten tss → scan_faults at true (written tss) ≡ []
unfolding scan_faults
no_scan_fault at [] h = refl
no_scan_fault at (ts ∷ tss) h =
    rw (no_word_fault ts h.0, ap (form_faults true) (words_of_written ts h.0) ∙ no_form_fault (map word_of ts) h.0.form) (no_scan_fault (at + 1) tss h.1)

-- ---- the first line

abbrev header : List ℕ
header = join_with_byte 32 (codes "dcethr" ∷ codes "1" ∷ [])

header_plain : list_all is_plain header ≡ true
header_plain = refl

first_kept : (at : ℕ) (ls : List (List ℕ)) → lines_from at false (header ∷ ls) ≡ lines_from (at + 1) true ls
unfolding text_words
first_kept at ls = refl

first_faultless : (at : ℕ) (ls : List (List ℕ)) → scan_faults at false (header ∷ ls) ≡ scan_faults (at + 1) true ls
unfolding text_words
first_faultless at ls = refl

-- ---- the whole text

own_texts : Script → Texts
own_texts s = spelled_lines s.names [] (tree_lines s)

texts_written : (s : Script) → Formed s → AreWritten (spelled_lines s.names [] (tree_lines s))
texts_written s h =
    let spelled = own_spelled s h in
    written_lines s.names [] (tree_lines s) (items_own s.items) h.numbers.1 (subst HaveForms (sym spelled) h.forms) (subst (AreScopes s.names []) (sym spelled) (formed_scopes s h))

ended_lines : (tss : Texts) → joined (map line tss) ≡ joined (map ended (written tss))
ended_lines [] = refl
ended_lines (ts ∷ tss) = ap (λ (bs : List ℕ). line ts ++ bs) (ended_lines tss)

canon_lines : (s : Script) → Formed s → lines (canon s) ≡ header ∷ written (spelled_lines s.names [] (tree_lines s))
canon_lines s h =
    let own = spelled_lines s.names [] (tree_lines s) in
    let all : Texts = (codes "dcethr" ∷ codes "1" ∷ []) ∷ own in
    ap (λ (tss : Texts). lines (joined (map line ((codes "dcethr" ∷ codes "1" ∷ []) ∷ tss)))) (sym (formed_words s h))
    ∙ ap lines (ended_lines all)
    ∙ lines_again (written all) (header_plain, written_plain own (texts_written s h))

lines_again_of : (s : Script) → Formed s → script_lines (canon s) ≡ numbered_lines 2 (own_lines s)
lines_again_of s h =
    ap (lines_from 1 false) (canon_lines s h) ∙ first_kept 1 (written (spelled_lines s.names [] (tree_lines s)))
    ∙ lines_kept 2 (spelled_lines s.names [] (tree_lines s)) (texts_written s h) ∙ ap (numbered_lines 2) (own_spelled s h)

no_fault : (s : Script) → Formed s → scan_faults 1 false (lines (canon s)) ≡ []
no_fault s h =
    ap (scan_faults 1 false) (canon_lines s h) ∙ first_faultless 1 (written (spelled_lines s.names [] (tree_lines s)))
    ∙ no_scan_fault 2 (spelled_lines s.names [] (tree_lines s)) (texts_written s h)

one_more : (l : List ℕ) (ls : List (List ℕ)) → length (l ∷ ls) ≡ 1 + length ls
one_more l ls = omega arith

short_text : (s : Script) → Formed s → end_of (canon s) ≤ 20001
short_text s h =
    let own = spelled_lines s.names [] (tree_lines s) in
    let numbered = numbered_lines 2 (own_lines s) in
    let n : length (lines (canon s)) ≡ length (header ∷ written own) = ap length (canon_lines s h) in
    let m : length own ≡ length (own_lines s) = sym (length-map own (map word_of)) ∙ ap length (own_spelled s h) in
    let short : length (own_lines s) + 2 ≤ 20001 = (names_are_short (length (own_lines s) + 2) numbered h.names_and_limits).0 in
    omega (arith, n, m, short, one_more header (written own), length-map own (join_with_byte 32))

pub canon_again : (s : Script) → Formed s → Reads (canon s) s
canon_again s h = record {
  plain = no_fault s h;
  words = ap (map (λ (l : Line). l.1)) (lines_again_of s h) ∙ words_numbered 2 (own_lines s);
  formed = h;
  short = short_text s h;
}

-- ---- how long it is

short_line : (ts : List (List ℕ)) → IsWritten ts → length (join_with_byte 32 ts) ≤ 240
short_line ts h =
    let same : length (join_with_byte 32 ts) ≡ length (line_text (map word_of ts)) = ap length h.text in
    let short : length (line_text (map word_of ts)) ≤ 240 = ltb-false 240 (length (line_text (map word_of ts))) (faultless (line_text (map word_of ts)) h.faultless).short in
    omega (arith, same, short)

short_lines : (tss : Texts) → AreWritten tss → length (joined (map line tss)) ≤ 241 * length tss
short_lines [] h = omega arith
short_lines (ts ∷ tss) h =
    omega (arith, length-append (line ts) (joined (map line tss)), length-append (join_with_byte 32 ts) (10 ∷ []), short_line ts h.0, short_lines tss h.1)

header_length : length (line (codes "dcethr" ∷ codes "1" ∷ [])) ≡ 9
header_length = refl

pub canon_short : (s : Script) → Formed s → length (canon s) ≤ 4820000
canon_short s h =
    let own = spelled_lines s.names [] (tree_lines s) in
    let first = line (codes "dcethr" ∷ codes "1" ∷ []) in
    let same : length (canon s) ≡ length (first ++ joined (map line own)) = ap (λ (tss : Texts). length (first ++ joined (map line tss))) (sym (formed_words s h)) in
    let m : length own ≡ length (own_lines s) = sym (length-map own (map word_of)) ∙ ap length (own_spelled s h) in
    let short : length (own_lines s) + 2 ≤ 20001 = (names_are_short (length (own_lines s) + 2) (numbered_lines 2 (own_lines s)) h.names_and_limits).0 in
    omega (arith, same, m, short, length-append first (joined (map line own)), header_length, short_lines own (texts_written s h))

-- A text in one line is read as its script, by rules said of the words of its own lines as they are written.
use Rattle.std.proofs.Common.{◌≡◌, ℕ, ℤ, ◌+◌, ◌^◌, ◌≤◌, ltb, T, List, [], ◌∷◌, map, drop, length, Bool, true, false, ◌&&◌, Option, None, Some, refl, sym, ap, subst, ◌∙◌}
use Rattle.std.proofs.lemmas.Bool.{false≢true}
use Rattle.std.specs.Str.Lines.{lines}
use Rattle.std.proofs.Math.Facts.{sfits_lit}
use Prim.Native.String.{String}
use mir.Val.{hbits}
use mir.Syntax.{w64}
use lib.Signed.{mag}
use Rattle.thr_syntax.specs.Canon.{canon}
use Rattle.thr_syntax.specs.Lines.{lines_of}
use Rattle.thr_syntax.specs.declared.form.Form.{Form}
use Rattle.thr_text.specs.declared.word.Word.{Word}
use Rattle.thr_text.specs.Lexing.{words_of, line_text}
use Rattle.thr_text.specs.Faults.{word_faults}
use Rattle.thr_text.specs.Slots.{form_fault}
use Rattle.thr_text.specs.Numbers.{AreSigned, HaveNumbers, form_numbers}
use Rattle.thr_text.specs.Blocks.{block_faults}
use Rattle.thr_text.specs.NameFaults.{name_faults}
use Rattle.thr_text.specs.Reading.{scan_faults, script_lines, own_lines, HaveForms, numbered_lines, end_of}
use Rattle.thr_examples.specs.OneLine.{in_lines, text_in_lines}
use Rattle.thr_examples.specs.Pasted.{names_of, script_of, reads}

-- The words of the lines after the first.
abbrev pub own_words : String → List (List Word)
own_words source = map words_of (drop 1 (in_lines source))

-- ---- lines with a form

abbrev pub no_fault : Option ℕ → List ℕ → Bool
no_fault None [] = true
no_fault _ _ = false

abbrev pub have_forms : List (List Word) → Bool
have_forms [] = true
have_forms (l ∷ ls) = no_fault (form_fault l) (word_faults (line_text l)) && have_forms ls

no_fault-none : (f : Option ℕ) (fs : List ℕ) → no_fault f fs ≡ true → (f ≡ None) × (fs ≡ [])
no_fault-none None [] e = (refl, refl)
no_fault-none None (n ∷ fs) e = absurd (false≢true e)
no_fault-none (Some n) fs e = absurd (false≢true e)

both : (a b : Bool) → (a && b) ≡ true → (a ≡ true) × (b ≡ true)
both true b e = (refl, e)
both false b e = absurd (false≢true e)

have_forms-forms : (ls : List (List Word)) → have_forms ls ≡ true → HaveForms ls
have_forms-forms [] e = tt
have_forms-forms (l ∷ ls) e =
    let first = both (no_fault (form_fault l) (word_faults (line_text l))) (have_forms ls) e in
    let none = no_fault-none (form_fault l) (word_faults (line_text l)) first.0 in
    (none.0, none.1, have_forms-forms ls first.1)

-- ---- numbers

abbrev pub is_signed : ℤ → Bool
is_signed n = ltb (mag n) (2 ^ hbits w64)

abbrev pub are_signed : List ℤ → Bool
are_signed [] = true
are_signed (n ∷ ns) = is_signed n && are_signed ns

abbrev pub have_numbers : List Form → Bool
have_numbers [] = true
have_numbers (f ∷ fs) = are_signed (form_numbers f) && have_numbers fs

are_signed-signed : (ns : List ℤ) → are_signed ns ≡ true → AreSigned ns
are_signed-signed [] e = tt
are_signed-signed (n ∷ ns) e =
    let first = both (is_signed n) (are_signed ns) e in
    (sfits_lit (subst T (sym first.0) tt), are_signed-signed ns first.1)

have_numbers-numbers : (fs : List Form) → have_numbers fs ≡ true → HaveNumbers fs
have_numbers-numbers [] e = tt
have_numbers-numbers (f ∷ fs) e =
    let first = both (are_signed (form_numbers f)) (have_numbers fs) e in
    (are_signed-signed (form_numbers f) first.0, have_numbers-numbers fs first.1)

-- ---- scripts

-- The rules of a script.
pub record Kept (source : String) : Type 0 where
  pub canonical : canon (script_of source) ≡ text_in_lines source
  pub same : own_lines (script_of source) ≡ own_words source
  pub plain : scan_faults 1 false (lines (text_in_lines source)) ≡ []
  pub words : map (λ l. l.1) (script_lines (text_in_lines source)) ≡ own_words source
  pub numbers : have_numbers (lines_of (script_of source)) ≡ true
  pub forms : have_forms (own_words source) ≡ true
  pub blocks : block_faults (length (own_words source) + 2) [] (numbered_lines 2 (own_words source)) ≡ []
  pub limits : name_faults (length (own_words source) + 2) (numbered_lines 2 (own_words source)) ≡ []
  pub short : end_of (text_in_lines source) ≤ 20001

pub source_reads : (source : String) → Kept source → reads source
source_reads source k = record {
  canonical = k.canonical;
  read = record {
    plain = k.plain;
    words = k.words ∙ sym k.same;
    formed = record {
      names = ap names_of (sym k.same);
      numbers = have_numbers-numbers (lines_of (script_of source)) k.numbers;
      forms = subst HaveForms (sym k.same) (have_forms-forms (own_words source) k.forms);
      blocks = ap (λ (w : List (List Word)). block_faults (length w + 2) [] (numbered_lines 2 w)) k.same ∙ k.blocks;
      names_and_limits = ap (λ (w : List (List Word)). name_faults (length w + 2) (numbered_lines 2 w)) k.same ∙ k.limits;
    };
    short = k.short;
  };
}

-- What the three passes say of a whole text.
use Rattle.std.proofs.Common.{◌≡◌, ℕ, true, false, List, [], ◌∷◌, ◌++◌, map, Option, Some, refl, sym, ap, subst, ◌∙◌}
use Rattle.std.specs.List.{list_all}
use Rattle.std.specs.Map.{keys_of}
use Rattle.std.specs.Str.Lines.{lines}
use Rattle.thr_syntax.specs.declared.form.Form.{Form}
use Rattle.thr_syntax.specs.declared.tree.Item.{Item}
use Rattle.thr_syntax.specs.declared.tree.Script.{Script}
use Rattle.thr_syntax.specs.Lines.{joined, item_lines}
use Rattle.thr_text.specs.declared.fault.ParseFault.{ParseFault}
use Rattle.thr_text.specs.declared.fault.ParseFault.TheVariants.{Refused, NoMemory}
use Rattle.thr_text.specs.Faults.{first_of}
use Rattle.thr_text.specs.Blocks.{Line, form_shape, block_faults, Nest}
use Rattle.thr_text.specs.NameFaults.{words_in, name_faults}
use Rattle.thr_text.specs.Reading.{Fault, in_pass, scan_faults, script_lines, end_of, faults, Reads}
use Rattle.thr_text.specs.Refusals.{IsFirst}
use Rattle.thr_text.specs.Tables.{Entry, entries_of}
use Rattle.thr_blocks.specs.Build.{is_own}
use Rattle.thr_resolving.specs.Resolving.{resolved_lines}
use Rattle.thr_reading.proofs.ReadLaws.{AreFaultfree, kept_words, kept_entries, kept_forms, forms_nest, forms_own, reads_script, read_faultfree}
use Rattle.thr_grammar.specs.Parsing.{IsFirstStated}

-- ---- the fault of a pass is the first stated one where the passes before it find none

first_in_pass : (pass : ℕ) (fs : List (ℕ × ℕ)) (rest : List Fault) (line number : ℕ) → first_of fs ≡ Some (line, number) → first_of (map (in_pass pass) fs ++ rest) ≡ Some (pass, line, number)
first_in_pass pass [] rest line number e = absurd cc
first_in_pass pass (f ∷ fs) rest line number e = ap some_in (at f (line, number) e)
  where
    some_in : ℕ × ℕ → Option Fault
    some_in g = Some (pass, g.0, g.1)

    at : (f g : ℕ × ℕ) → Some f ≡ Some g → f ≡ g
    at f g e = cc

pub scan_stated : (bytes : List ℕ) (e : ParseFault) → IsFirst e (scan_faults 1 false (lines bytes)) → IsFirstStated e (faults bytes)
unfolding faults
scan_stated bytes (Refused place) h = (1, first_in_pass 1 (scan_faults 1 false (lines bytes)) _ place.line place.number h)
scan_stated bytes NoMemory h = tt

stated_after : (pass : ℕ) (before fs : List (ℕ × ℕ)) (rest : List Fault) (line number : ℕ) → before ≡ [] → first_of fs ≡ Some (line, number) → first_of (map (in_pass 1) before ++ (map (in_pass pass) fs ++ rest)) ≡ Some (pass, line, number)
stated_after pass before fs rest line number none e = rw none (first_in_pass pass fs rest line number e)

pub blocks_stated : (bytes : List ℕ) (e : ParseFault) → scan_faults 1 false (lines bytes) ≡ [] → IsFirst e (block_faults (end_of bytes) [] (script_lines bytes)) → IsFirstStated e (faults bytes)
unfolding faults
blocks_stated bytes (Refused place) none h =
    (2, stated_after 2 (scan_faults 1 false (lines bytes)) (block_faults (end_of bytes) [] (script_lines bytes)) (map (in_pass 3) (name_faults (end_of bytes) (script_lines bytes))) place.line place.number none h)
blocks_stated bytes NoMemory none h = tt

last_stated : (before more fs : List (ℕ × ℕ)) (line number : ℕ) → before ≡ [] → more ≡ [] → first_of fs ≡ Some (line, number) → first_of (map (in_pass 1) before ++ (map (in_pass 2) more ++ map (in_pass 3) fs)) ≡ Some (3, line, number)
last_stated before more [] line number none none' e = absurd cc
last_stated before more (f ∷ fs) line number none none' e = rw (none, none') (ap some_in (at f (line, number) e))
  where
    some_in : ℕ × ℕ → Option Fault
    some_in g = Some (3, g.0, g.1)

    at : (f g : ℕ × ℕ) → Some f ≡ Some g → f ≡ g
    at f g e = cc

pub names_stated : (bytes : List ℕ) (e : ParseFault) → scan_faults 1 false (lines bytes) ≡ [] → block_faults (end_of bytes) [] (script_lines bytes) ≡ []
    → IsFirst e (name_faults (end_of bytes) (script_lines bytes)) → IsFirstStated e (faults bytes)
unfolding faults
names_stated bytes (Refused place) none placed h =
    (3, last_stated (scan_faults 1 false (lines bytes)) (block_faults (end_of bytes) [] (script_lines bytes)) (name_faults (end_of bytes) (script_lines bytes)) place.line place.number none placed h)
names_stated bytes NoMemory none placed h = tt

-- ---- a text that is read is refused for want of memory alone

none_stated : (e : ParseFault) (fs : List (ℕ × ℕ)) → fs ≡ [] → IsFirst e fs → e ≡ NoMemory
none_stated (Refused place) fs none h = absurd (let s : first_of fs ≡ first_of [] = ap first_of none in cc)
none_stated NoMemory fs none h = refl

pub scan_never : (bytes : List ℕ) (s : Script) (e : ParseFault) → Reads bytes s → IsFirst e (scan_faults 1 false (lines bytes)) → e ≡ NoMemory
scan_never bytes s e r h = none_stated e (scan_faults 1 false (lines bytes)) (read_faultfree bytes s r).scan h

pub blocks_never : (bytes : List ℕ) (s : Script) (e : ParseFault) → Reads bytes s → IsFirst e (block_faults (end_of bytes) [] (script_lines bytes)) → e ≡ NoMemory
blocks_never bytes s e r h = none_stated e (block_faults (end_of bytes) [] (script_lines bytes)) (read_faultfree bytes s r).blocks h

pub names_never : (bytes : List ℕ) (s : Script) (e : ParseFault) → Reads bytes s → IsFirst e (name_faults (end_of bytes) (script_lines bytes)) → e ≡ NoMemory
names_never bytes s e r h = none_stated e (name_faults (end_of bytes) (script_lines bytes)) (read_faultfree bytes s r).names h

-- ---- the lines that were read are those of the text

pub same_blocks : (bytes : List ℕ) (end : ℕ) (kept ls : List Line) → ls ≡ kept → kept ≡ script_lines bytes → end ≡ end_of bytes → block_faults end [] ls ≡ block_faults (end_of bytes) [] (script_lines bytes)
same_blocks bytes end kept ls s k e = ap (λ (xs : List Line). block_faults end [] xs) (s ∙ k) ∙ ap (λ (n : ℕ). block_faults n [] (script_lines bytes)) e

pub same_names : (bytes : List ℕ) (end : ℕ) (kept ls : List Line) → ls ≡ kept → kept ≡ script_lines bytes → end ≡ end_of bytes → name_faults end ls ≡ name_faults (end_of bytes) (script_lines bytes)
same_names bytes end kept ls s k e = ap (λ (xs : List Line). name_faults end xs) (s ∙ k) ∙ ap (λ (n : ℕ). name_faults n (script_lines bytes)) e

-- What the passes have given where none found a fault.
pub record Passed (bytes : List ℕ) (ls : List Line) (table : List Entry) (forms : List Form) : Type 0 where
  pub faultfree : AreFaultfree bytes
  pub lines : ls ≡ script_lines bytes
  pub table_is : table ≡ entries_of (words_in ls)
  pub forms_are : forms ≡ resolved_lines (keys_of table) [] (words_in ls)

pub forms_kept : (bytes : List ℕ) (ls : List Line) (table : List Entry) (forms : List Form) → Passed bytes ls table forms → forms ≡ kept_forms bytes
forms_kept bytes ls table forms p =
    let entries : table ≡ kept_entries bytes = p.table_is ∙ ap (λ (xs : List Line). entries_of (words_in xs)) p.lines in
    p.forms_are ∙ ap (λ (xs : List Line). resolved_lines (keys_of table) [] (words_in xs)) p.lines ∙ ap (λ (es : List Entry). resolved_lines (keys_of es) [] (kept_words bytes)) entries

pub forms_nesting : (bytes : List ℕ) (ls : List Line) (table : List Entry) (forms : List Form) → Passed bytes ls table forms → Nest [] (map form_shape forms)
forms_nesting bytes ls table forms p = subst (λ (fs : List Form). Nest [] (map form_shape fs)) (sym (forms_kept bytes ls table forms p)) (forms_nest bytes p.faultfree)

pub forms_are_own : (bytes : List ℕ) (ls : List Line) (table : List Entry) (forms : List Form) → Passed bytes ls table forms → list_all is_own forms ≡ true
forms_are_own bytes ls table forms p = ap (list_all is_own) (forms_kept bytes ls table forms p) ∙ forms_own bytes p.faultfree

pub script_read : (bytes : List ℕ) (ls : List Line) (table : List Entry) (forms : List Form) (items : List Item) (names : List (List ℕ)) → Passed bytes ls table forms
    → joined (map item_lines items) ≡ forms → names ≡ keys_of table → Reads bytes (record { names = names; items = items })
script_read bytes ls table forms items names p built is =
    let entries : table ≡ kept_entries bytes = p.table_is ∙ ap (λ (xs : List Line). entries_of (words_in xs)) p.lines in
    subst (λ (ns : List (List ℕ)). Reads bytes (record { names = ns; items = items })) (sym (is ∙ ap keys_of entries))
    (reads_script bytes items p.faultfree (built ∙ forms_kept bytes ls table forms p))

pub passed_of : (bytes : List ℕ) (end : ℕ) (kept ls : List Line) (table : List Entry) (forms : List Form)
    → scan_faults 1 false (lines bytes) ≡ [] → kept ≡ script_lines bytes → end ≡ end_of bytes → ls ≡ kept → block_faults end [] ls ≡ [] → name_faults end ls ≡ []
    → table ≡ entries_of (words_in ls) → forms ≡ resolved_lines (keys_of table) [] (words_in ls) → Passed bytes ls table forms
passed_of bytes end kept ls table forms plain k e s blocks names is made = record {
  faultfree = record {
    scan = plain;
    blocks = sym (same_blocks bytes end kept ls s k e) ∙ blocks;
    names = sym (same_names bytes end kept ls s k e) ∙ names;
  };
  lines = s ∙ k;
  table_is = is;
  forms_are = made;
}

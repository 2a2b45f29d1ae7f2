-- A text without faults is read as the script of its resolved lines.
use Rattle.std.proofs.Common.{◌≡◌, ℕ, ◌+◌, ◌≤◌, true, false, List, [], ◌∷◌, ◌++◌, map, length, refl, sym, ap, subst, ◌∙◌, arith}
use Rattle.std.specs.List.{list_all}
use Rattle.std.specs.Map.{keys_of}
use Rattle.std.specs.Str.Lines.{lines}
use Rattle.std.proofs.lemmas.List.{length-map}
use Rattle.thr_values.specs.Exceptions.{builtin_names}
use Rattle.thr_syntax.specs.declared.form.Form.{Form}
use Rattle.thr_syntax.specs.declared.form.Form.TheVariants as form
use Rattle.thr_syntax.specs.declared.tree.Item.{Item}
use Rattle.thr_syntax.specs.declared.tree.Script.{Script}
use Rattle.thr_syntax.specs.Lines.{joined, item_lines}
use Rattle.thr_syntax.specs.Spelling.{form_words}
use Rattle.thr_text.specs.declared.word.Word.{Word}
use Rattle.thr_text.specs.Blocks.{Line, form_shape, shape_of_line, block_faults, Nest}
use Rattle.thr_text.specs.Lexing.{word_of}
use Rattle.thr_text.specs.Numbers.{HaveNumbers}
use Rattle.thr_text.specs.Slots.{form_fault}
use Rattle.thr_text.specs.Tables.{Entry, entries_of, declarations, builtin_entry}
use Rattle.thr_text.specs.NameFaults.{words_in, name_faults, locals_below}
use Rattle.thr_text.specs.Reading.{scan_faults, script_lines, end_of, faults, in_pass, own_lines, numbered_lines, HaveForms, Formed, Reads}
use Rattle.thr_blocks.specs.Build.{is_own, built}
use Rattle.thr_blocks.proofs.FaultlessLaws.{faultless}
use Rattle.thr_blocks.proofs.BuildLaws.{kept_lines}
use Rattle.thr_blocks.proofs.BuildLaws.{all_own as kept_all}
use Rattle.thr_resolving.specs.Resolving.{resolved, resolved_lines, scope_of}
use Rattle.thr_resolving.specs.Scopes.{IsFaultless}
use Rattle.thr_reading.specs.Running.{locals_after_form, spelled_lines}
use Rattle.thr_reading.specs.Naming.{AreFaultless}
use Rattle.thr_reading.proofs.LineWords.{first_nil, second_nil, good_lines, fewer_lines}
use Rattle.thr_blocks.proofs.TreesNest.{trees_nest}
use Rattle.thr_resolving.proofs.LineWords.{faultless_tells}
use Rattle.thr_reading.proofs.NamesFaultless.{names_are_faultless}
use Rattle.thr_reading.proofs.NamesRenumbered.{own_renumbered, blocks_renumbered, short_names, names_are_short}
use Rattle.thr_reading.proofs.RunningLaws.{running_is_item}
use Rattle.thr_reading.proofs.LocalsLaws.{same_locals}

-- ---- resolved lines have the words, the shapes and the numbers of their lines

abbrev Lines : Type 0
Lines = List (List Word)

abbrev texts_words : List (List (List ℕ)) → Lines
texts_words = map (map word_of)

locals_of_line : (entries : List Entry) (locals : List (List ℕ)) (l : List Word) → IsFaultless entries locals l → (above : List (List ℕ)) → locals_below above l ≡ locals
    → locals_after_form above (resolved (scope_of (keys_of entries) locals) l) ≡ locals
locals_of_line entries locals l h above is =
    let scope = scope_of (keys_of entries) locals in
    let f = resolved scope l in
    let same : map word_of (form_words scope f) ≡ l = (faultless_tells entries locals l h).words in
    sym (same_locals scope above f ((faultless_tells entries locals l h).own) (ap form_fault same ∙ h.form)) ∙ ap (locals_below above) same ∙ is

spelled_again : (entries : List Entry) (locals : List (List ℕ)) (ls : Lines) → AreFaultless entries locals ls → texts_words (spelled_lines (keys_of entries) locals (resolved_lines (keys_of entries) locals ls)) ≡ ls
unfolding spelled_lines resolved_lines
spelled_again entries locals [] h = refl
spelled_again entries locals (l ∷ ls) h =
    let below = locals_below locals l in
    let f = resolved (scope_of (keys_of entries) below) l in
    let same : locals_after_form locals f ≡ below = locals_of_line entries below l h.0 locals refl in
    ap (λ (k : List (List ℕ)). map word_of (form_words (scope_of (keys_of entries) k) f) ∷ texts_words (spelled_lines (keys_of entries) k (resolved_lines (keys_of entries) below ls))) same
    ∙ ap (λ (x : List Word). x ∷ texts_words (spelled_lines (keys_of entries) below (resolved_lines (keys_of entries) below ls))) ((faultless_tells entries below l h.0).words)
    ∙ ap (λ (xs : Lines). l ∷ xs) (spelled_again entries below ls h.1)

shapes_again : (entries : List Entry) (locals : List (List ℕ)) (ls : List Line) → AreFaultless entries locals (words_in ls) → map form_shape (resolved_lines (keys_of entries) locals (words_in ls)) ≡ map (λ l. shape_of_line l.1) ls
unfolding resolved_lines
shapes_again entries locals [] h = refl
shapes_again entries locals (l ∷ ls) h =
    let below = locals_below locals l.1 in
    ap (λ x. x ∷ map form_shape (resolved_lines (keys_of entries) below (words_in ls))) ((faultless_tells entries below l.1 h.0).shape)
    ∙ ap (λ xs. shape_of_line l.1 ∷ xs) (shapes_again entries below ls h.1)

numbers_fit : (entries : List Entry) (locals : List (List ℕ)) (ls : Lines) → AreFaultless entries locals ls → HaveNumbers (resolved_lines (keys_of entries) locals ls)
unfolding resolved_lines
numbers_fit entries locals [] h = tt
numbers_fit entries locals (l ∷ ls) h = ((faultless_tells entries (locals_below locals l) l h.0).numbers, numbers_fit entries (locals_below locals l) ls h.1)

own_by : (f : Form) → (f ≡ form.Header → ⊥) → is_own f ≡ true
own_by form.Header h = absurd (h refl)
own_by (form.Interface i) h = refl
own_by (form.Limit n) h = refl
own_by (form.Shared name n) h = refl
own_by (form.Exception name) h = refl
own_by (form.Status name n) h = refl
own_by (form.Mutex name) h = refl
own_by (form.MutexAttr name) h = refl
own_by (form.Cond name) h = refl
own_by (form.Attr name) h = refl
own_by (form.Key name) h = refl
own_by (form.Once name) h = refl
own_by (form.Pipe name n) h = refl
own_by (form.Routine name parameter) h = refl
own_by (form.Local name) h = refl
own_by (form.Set v e) h = refl
own_by (form.Say e) h = refl
own_by (form.If e) h = refl
own_by form.Else h = refl
own_by (form.While e) h = refl
own_by form.Try h = refl
own_by (form.Catch x) h = refl
own_by form.CatchAll h = refl
own_by form.Finally h = refl
own_by form.Endtry h = refl
own_by (form.Raise x) h = refl
own_by form.Reraise h = refl
own_by (form.Call r e v) h = refl
own_by (form.Return e) h = refl
own_by (form.Exit e) h = refl
own_by (form.Dce call) h = refl
own_by form.End h = refl

all_own : (entries : List Entry) (locals : List (List ℕ)) (ls : Lines) → AreFaultless entries locals ls → list_all is_own (resolved_lines (keys_of entries) locals ls) ≡ true
unfolding resolved_lines
all_own entries locals [] h = refl
all_own entries locals (l ∷ ls) h =
    let below = locals_below locals l in
    rw (own_by (resolved (scope_of (keys_of entries) below) l) ((faultless_tells entries below l h.0).own)) (all_own entries below ls h.1)

-- ---- lines that are numbered anew

pub words_numbered : (at : ℕ) (ls : Lines) → words_in (numbered_lines at ls) ≡ ls
unfolding numbered_lines
words_numbered at [] = refl
words_numbered at (l ∷ ls) = ap (λ (xs : Lines). l ∷ xs) (words_numbered (at + 1) ls)

-- ---- the script of a text without faults

-- No pass finds a fault.
pub record AreFaultfree (bytes : List ℕ) : Type 0 where
  pub scan : scan_faults 1 false (lines bytes) ≡ []
  pub blocks : block_faults (end_of bytes) [] (script_lines bytes) ≡ []
  pub names : name_faults (end_of bytes) (script_lines bytes) ≡ []

abbrev pub kept_words : List ℕ → Lines
kept_words bytes = words_in (script_lines bytes)

abbrev pub kept_entries : List ℕ → List Entry
kept_entries bytes = entries_of (kept_words bytes)

abbrev pub kept_forms : List ℕ → List Form
kept_forms bytes = resolved_lines (keys_of (kept_entries bytes)) [] (kept_words bytes)

lines_faultless : (bytes : List ℕ) → AreFaultfree bytes → AreFaultless (kept_entries bytes) [] (kept_words bytes)
lines_faultless bytes h =
    names_are_faultless (end_of bytes) (script_lines bytes) (good_lines 1 false (lines bytes) h.scan).words (names_are_short (end_of bytes) (script_lines bytes) h.names).1

pub forms_nest : (bytes : List ℕ) → AreFaultfree bytes → Nest [] (map form_shape (kept_forms bytes))
forms_nest bytes h =
    subst (Nest []) (sym (shapes_again (kept_entries bytes) [] (script_lines bytes) (lines_faultless bytes h))) (faultless (end_of bytes) (script_lines bytes) h.blocks)

pub forms_own : (bytes : List ℕ) → AreFaultfree bytes → list_all is_own (kept_forms bytes) ≡ true
forms_own bytes h = all_own (kept_entries bytes) [] (kept_words bytes) (lines_faultless bytes h)

-- The script that has these items.
abbrev pub script_of : List ℕ → List Item → Script
script_of bytes items = record { names = keys_of (kept_entries bytes); items = items }

words_again : (bytes : List ℕ) (items : List Item) → AreFaultfree bytes → joined (map item_lines items) ≡ kept_forms bytes → own_lines (script_of bytes items) ≡ kept_words bytes
words_again bytes items h is =
    let names = keys_of (kept_entries bytes) in
    let nest : Nest [] (map form_shape (joined (map item_lines items))) = subst (λ (fs : List Form). Nest [] (map form_shape fs)) (sym is) (forms_nest bytes h) in
    ap texts_words (sym (running_is_item names [] items (trees_nest items nest)))
    ∙ ap (λ (fs : List Form). texts_words (spelled_lines names [] fs)) is
    ∙ spelled_again (kept_entries bytes) [] (kept_words bytes) (lines_faultless bytes h)

builtin_keys : (names : List (List ℕ)) (es : List Entry) → keys_of (map builtin_entry names ++ es) ≡ names ++ map (λ e. e.0) es
builtin_keys [] es = refl
builtin_keys (n ∷ names) es = ap (λ (xs : List (List ℕ)). n ∷ xs) (builtin_keys names es)

pub entry_names : (ls : Lines) → keys_of (entries_of ls) ≡ builtin_names ++ map (λ e. e.0) (declarations ls)
entry_names ls = builtin_keys builtin_names (declarations ls)

formed_again : (bytes : List ℕ) (items : List Item) → AreFaultfree bytes → joined (map item_lines items) ≡ kept_forms bytes → Formed (script_of bytes items)
formed_again bytes items h is =
    let s = script_of bytes items in
    let same : own_lines s ≡ kept_words bytes = words_again bytes items h is in
    let renumbered : kept_words bytes ≡ words_in (numbered_lines 2 (own_lines s)) = sym same ∙ sym (words_numbered 2 (own_lines s)) in
    let names = names_are_short (end_of bytes) (script_lines bytes) h.names in
    let count : length (own_lines s) ≡ length (script_lines bytes) = ap length same ∙ length-map (script_lines bytes) (λ l. l.1) in
    record {
      names = entry_names (kept_words bytes) ∙ ap (λ (ls : Lines). builtin_names ++ map (λ e. e.0) (declarations ls)) (sym same);
      numbers = (tt, subst HaveNumbers (sym is) (numbers_fit (kept_entries bytes) [] (kept_words bytes) (lines_faultless bytes h)));
      forms = subst HaveForms (sym same) (good_lines 1 false (lines bytes) h.scan).forms;
      blocks = blocks_renumbered (end_of bytes) (length (own_lines s) + 2) [] (script_lines bytes) (numbered_lines 2 (own_lines s)) renumbered h.blocks;
      names_and_limits = short_names (length (own_lines s) + 2) (numbered_lines 2 (own_lines s))
          (let short : 1 + length (lines bytes) ≤ 20001 = names.0 in omega (arith, count, fewer_lines 1 (lines bytes) h.scan))
          (own_renumbered (end_of bytes) (length (own_lines s) + 2) (script_lines bytes) (numbered_lines 2 (own_lines s)) renumbered names.1);
    }

pub reads_script : (bytes : List ℕ) (items : List Item) → AreFaultfree bytes → joined (map item_lines items) ≡ kept_forms bytes → Reads bytes (script_of bytes items)
reads_script bytes items h is = record {
  plain = h.scan;
  words = sym (words_again bytes items h is);
  formed = formed_again bytes items h is;
  short = (names_are_short (end_of bytes) (script_lines bytes) h.names).0;
}

-- ---- a text that is read has no fault

pub read_faultfree : (bytes : List ℕ) (s : Script) → Reads bytes s → AreFaultfree bytes
read_faultfree bytes s r =
    let renumbered : words_in (numbered_lines 2 (own_lines s)) ≡ words_in (script_lines bytes) = words_numbered 2 (own_lines s) ∙ sym r.words in
    let own = names_are_short (length (own_lines s) + 2) (numbered_lines 2 (own_lines s)) r.formed.names_and_limits in
    record {
      scan = r.plain;
      blocks = blocks_renumbered (length (own_lines s) + 2) (end_of bytes) [] (numbered_lines 2 (own_lines s)) (script_lines bytes) renumbered r.formed.blocks;
      names = short_names (end_of bytes) (script_lines bytes) r.short (own_renumbered (length (own_lines s) + 2) (end_of bytes) (numbered_lines 2 (own_lines s)) (script_lines bytes) renumbered own.1);
    }

pub no_faults : (bytes : List ℕ) → AreFaultfree bytes → faults bytes ≡ []
unfolding faults
no_faults bytes h = rw (h.scan, h.blocks, h.names) refl

-- ---- a text without faults is read

no_pass : (pass : ℕ) (fs : List (ℕ × ℕ)) → map (in_pass pass) fs ≡ [] → fs ≡ []
no_pass pass [] e = refl
no_pass pass (f ∷ fs) e = absurd cc

pub faultfree : (bytes : List ℕ) → faults bytes ≡ [] → AreFaultfree bytes
unfolding faults
faultfree bytes e =
    let scanned = scan_faults 1 false (lines bytes) in
    let placed = block_faults (end_of bytes) [] (script_lines bytes) in
    let named = name_faults (end_of bytes) (script_lines bytes) in
    let later = second_nil (map (in_pass 1) scanned) (map (in_pass 2) placed ++ map (in_pass 3) named) e in
    record {
      scan = no_pass 1 scanned (first_nil (map (in_pass 1) scanned) (map (in_pass 2) placed ++ map (in_pass 3) named) e);
      blocks = no_pass 2 placed (first_nil (map (in_pass 2) placed) (map (in_pass 3) named) later);
      names = no_pass 3 named (second_nil (map (in_pass 2) placed) (map (in_pass 3) named) later);
    }

pub read_script : (bytes : List ℕ) → faults bytes ≡ [] → (s : Script) × Reads bytes s
read_script bytes e =
    let h = faultfree bytes e in
    let items = (built (kept_forms bytes)).0 in
    (script_of bytes items, reads_script bytes items h (kept_lines (kept_forms bytes) (forms_nest bytes h) ∙ kept_all (kept_forms bytes) (forms_own bytes h)))

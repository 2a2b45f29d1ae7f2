-- Each line of a script that keeps the rules keeps the limits.
use Rattle.std.proofs.Common.{◌≡◌, ℕ, pos, ◌+◌, ◌≤◌, Bool, true, false, List, [], ◌∷◌, ◌++◌, map, length, Option, Some, None, refl, sym, ap, subst, ◌∙◌, arith}
use Rattle.std.specs.Prelude.{◌&&◌, ◌||◌, not, nat_lt, nat_le, codes}
use Rattle.std.specs.Fmt.{decimal}
use Rattle.std.specs.List.{list_all, list_any, join_with_byte}
use Rattle.std.proofs.lemmas.Bool.Decides.{nat_tests}
use Rattle.std.proofs.lemmas.List.{length-map}
use Rattle.thr_syntax.specs.declared.form.Form.{Form}
use Rattle.thr_syntax.specs.declared.form.Form.TheVariants as form
use Rattle.thr_syntax.specs.declared.tree.Script.{Script}
use Rattle.thr_syntax.specs.Spelling.{Scope, name_of, form_words}
use Rattle.thr_text.specs.declared.word.Word.{Word}
use Rattle.thr_text.specs.declared.word.Word.TheVariants.{Num, Name, Mark}
use Rattle.thr_text.specs.declared.object.Object as kinds
use Rattle.thr_text.specs.declared.object.Object.TheVariants as object
use Rattle.thr_text.specs.declared.head.Head.{Head}
use Rattle.thr_text.specs.declared.head.Head.TheVariants as head
use Rattle.thr_text.specs.declared.head.Slot.{Slot}
use Rattle.thr_text.specs.declared.head.Slot.TheVariants.{Number, Declared, Parameter}
use Rattle.thr_text.specs.declared.block.Shape.{Shape}
use Rattle.thr_text.specs.Faults.{when, word_faults}
use Rattle.thr_text.specs.Lexing.{word_of, words_of, pieces_of, line_text}
use Rattle.thr_text.specs.Numbers.{AreSigned, form_numbers, HaveNumbers}
use Rattle.thr_text.specs.Slots.{is_a_name, slots_of, misplaced, fault_after, head_of_line, form_fault}
use Rattle.thr_text.specs.Blocks.{form_shape, shape_of_line}
use Rattle.thr_text.specs.Tables.{placed, placed_after, placed_in, declared_in_all, declared_in, declarations, entries_of, rest_of}
use Rattle.thr_text.specs.NameFaults.{Above, nothing_above, is_within, is_out_of_range, is_again_word, is_second, is_undeclared, is_misused, locals_below, depth_below, passes_limit, name_misfits, words_in}
use Rattle.thr_text.specs.Reading.{own_lines, numbered_lines, HaveForms, Formed}
use Rattle.thr_lexer.proofs.OfLine.{faultless}
use Rattle.thr_lexer.proofs.Canon.{line_again}
use Rattle.thr_blocks.specs.Build.{is_own}
use Rattle.thr_blocks.proofs.NestLaws.{both}
use Rattle.thr_naming.specs.Misnamed.{AreWellNamed}
use Rattle.thr_naming.proofs.MisnamedLaws.{own_parts}
use Rattle.thr_resolving.specs.Resolving.{scope_of}
use Rattle.thr_resolving.specs.Scopes.{IsScope}
use Rattle.thr_resolving.proofs.Parts.{form_head}
use Rattle.thr_resolving.proofs.FormTables.{IsOwn}
use Rattle.thr_resolving.proofs.AgainWords.{number_word}
use Rattle.thr_resolving.proofs.AgainPieces.{one_stands}
use Rattle.thr_resolving.proofs.AgainLines.{line_shape, line_of_line, line_texts}
use Rattle.thr_reading.specs.Running.{locals_after_form, spelled_lines}
use Rattle.thr_reading.specs.Naming.{AreScopes}
use Rattle.thr_reading.proofs.LineWords.{second_nil}
use Rattle.thr_reading.proofs.LocalsLaws.{head_told, same_locals}
use Rattle.thr_reading.proofs.NamesFaultless.{neither}
use Rattle.thr_reading.proofs.NamesRenumbered.{names_are_short}
use Rattle.thr_reading.proofs.OneScript.{tree_lines, own_spelled, formed_scopes}
use Rattle.thr_reading.proofs.OwnLaws.{items_own, no_header}
use Rattle.thr_reading.proofs.ReadLaws.{words_numbered}
use Rattle.thr_limits.specs.Limits.{is_short_line}

abbrev Lines : Type 0
Lines = List (List Word)

abbrev pub texts_words : List (List (List ℕ)) → Lines
texts_words = map (map word_of)

-- ---- words and bytes

both_within : (words bytes pieces text : ℕ) → words ≡ pieces → bytes ≡ text → nat_lt 24 pieces ≡ false → nat_lt 240 text ≡ false → (nat_le words 24 && nat_le bytes 240) ≡ true
both_within words bytes pieces text same_words same_bytes few short = grind (arith, nat_tests)

line_is_short : (scope : Scope) (f : Form) → IsScope scope → IsOwn f → AreSigned (form_numbers f) → form_fault (map word_of (form_words scope f)) ≡ None
    → word_faults (line_text (map word_of (form_words scope f))) ≡ [] → is_short_line (form_words scope f) ≡ true
line_is_short scope f s own signed form fault =
    let ts : List (List ℕ) = form_words scope f in
    let l : List Word = map word_of ts in
    let again : words_of (line_text l) ≡ l = line_again l (line_of_line scope f s own signed form) in
    let h = faultless (line_text l) fault in
    both_within (length ts) (length (join_with_byte 32 ts)) (length (pieces_of (line_text l))) (length (line_text l))
    (sym (length-map ts word_of) ∙ sym (ap length again) ∙ length-map (pieces_of (line_text l)) word_of)
    (ap (λ (xs : List (List ℕ)). length (join_with_byte 32 xs)) (sym (line_texts scope f s own signed form))) h.few h.short

-- ---- the numbers of `limit` and `pipe` lines

abbrev pub is_line_in_range : Form → Bool
is_line_in_range (form.Limit n) = nat_le 1 n && nat_le n 1000000
is_line_in_range (form.Pipe name n) = nat_le 1 n && nat_le n 4096
is_line_in_range _ = true

within_both : (n high : ℕ) → not (is_within (pos n) 1 high) ≡ false → (nat_le 1 n && nat_le n high) ≡ true
within_both n high e = grind (arith, nat_tests)

limit_in_range : (n : ℕ) (w : Word) → w ≡ Num (pos n) → is_out_of_range (Some head.Limit) (w ∷ []) ≡ false → (nat_le 1 n && nat_le n 1000000) ≡ true
limit_in_range n w e range = within_both n 1000000 (subst (λ (x : Word). is_out_of_range (Some head.Limit) (x ∷ []) ≡ false) e range)

pipe_in_range : (n : ℕ) (v w : Word) → is_a_name v ≡ true → w ≡ Num (pos n) → is_out_of_range (Some head.Pipe) (v ∷ w ∷ []) ≡ false → (nat_le 1 n && nat_le n 4096) ≡ true
pipe_in_range n (Num m) w named e range = absurd cc
pipe_in_range n (Name text) w named e range = within_both n 4096 (subst (λ (x : Word). is_out_of_range (Some head.Pipe) (Name text ∷ x ∷ []) ≡ false) e range)
pipe_in_range n (Mark text) w named e range = absurd cc

-- The words after the first fill the slots.
filled : (w : Word) (ws : List Word) (h : Head) → head_of_line (w ∷ ws) ≡ Some h → form_fault (w ∷ ws) ≡ None → misplaced (slots_of h) ws ≡ None
filled w ws h e fault = sym (ap (λ (o : Option Head). fault_after o ws) e) ∙ fault

line_in_range : (scope : Scope) (f : Form) → IsOwn f → AreSigned (form_numbers f) → form_fault (map word_of (form_words scope f)) ≡ None
    → is_out_of_range (head_of_line (map word_of (form_words scope f))) (rest_of (map word_of (form_words scope f))) ≡ false → is_line_in_range f ≡ true
unfolding form_head slots_of
line_in_range scope (form.Limit n) own signed fault range =
    let w : Word = word_of (decimal n) in
    limit_in_range n w (number_word (pos n) signed.0) (sym (ap (λ (o : Option Head). is_out_of_range o (w ∷ [])) (head_told scope (form.Limit n) own)) ∙ range)
line_in_range scope (form.Pipe name n) own signed fault range =
    let v : Word = word_of (name_of scope name) in
    let w : Word = word_of (decimal n) in
    let named = one_stands (Declared object.Pipe) (Number ∷ []) v (w ∷ []) (filled (word_of (codes "pipe")) (v ∷ w ∷ []) head.Pipe (head_told scope (form.Pipe name n) own) fault) in
    pipe_in_range n v w named.0 (number_word (pos n) signed.0) (sym (ap (λ (o : Option Head). is_out_of_range o (v ∷ w ∷ [])) (head_told scope (form.Pipe name n) own)) ∙ range)
line_in_range scope _ own signed fault range = refl

-- ---- declared names

-- How many names a line declares.
abbrev pub names_in_line : Form → ℕ
names_in_line (form.Shared name n) = 1
names_in_line (form.Exception name) = 1
names_in_line (form.Status name n) = 1
names_in_line (form.Mutex name) = 1
names_in_line (form.MutexAttr name) = 1
names_in_line (form.Cond name) = 1
names_in_line (form.Attr name) = 1
names_in_line (form.Key name) = 1
names_in_line (form.Once name) = 1
names_in_line (form.Pipe name n) = 1
names_in_line (form.Routine name parameter) = 1
names_in_line _ = 0

declares_one : (k : kinds.Object) (slots : List Slot) (w : Word) (ws : List Word) → is_a_name w ≡ true → 1 ≤ length (declared_in_all (placed (Declared k ∷ slots) (w ∷ ws)))
unfolding placed
declares_one k slots (Num n) ws named = absurd cc
declares_one k slots (Name text) ws named = omega arith
declares_one k slots (Mark text) ws named = absurd cc

line_declares : (v w : Word) (ws : List Word) (h : Head) (k : kinds.Object) (slots : List Slot) → slots_of h ≡ Declared k ∷ slots → head_of_line (v ∷ w ∷ ws) ≡ Some h → form_fault (v ∷ w ∷ ws) ≡ None
    → 1 ≤ length (declared_in (v ∷ w ∷ ws))
line_declares v w ws h k slots is told fault =
    let stands : misplaced (Declared k ∷ slots) (w ∷ ws) ≡ None = subst (λ (ps : List Slot). misplaced ps (w ∷ ws) ≡ None) is (filled v (w ∷ ws) h told fault) in
    let same : declared_in (v ∷ w ∷ ws) ≡ declared_in_all (placed (Declared k ∷ slots) (w ∷ ws)) =
    ap (λ (o : Option Head). declared_in_all (placed_after o (w ∷ ws))) told ∙ ap (λ (ps : List Slot). declared_in_all (placed ps (w ∷ ws))) is in
    let one : 1 ≤ length (declared_in_all (placed (Declared k ∷ slots) (w ∷ ws))) = declares_one k slots w ws (one_stands (Declared k) slots w ws stands).0 in
    omega (arith, ap length same, one)

none_needed : (n : ℕ) → 0 ≤ n
none_needed n = omega arith

line_names : (scope : Scope) (f : Form) → IsOwn f → form_fault (map word_of (form_words scope f)) ≡ None → names_in_line f ≤ length (declared_in (map word_of (form_words scope f)))
unfolding form_head slots_of
line_names scope (form.Shared name n) own fault = line_declares _ _ _ head.Shared object.Shared (Number ∷ []) refl (head_told scope (form.Shared name n) own) fault
line_names scope (form.Exception name) own fault = line_declares _ _ _ head.Exception object.Exception [] refl (head_told scope (form.Exception name) own) fault
line_names scope (form.Status name n) own fault = line_declares _ _ _ head.Status object.Exception (Number ∷ []) refl (head_told scope (form.Status name n) own) fault
line_names scope (form.Mutex name) own fault = line_declares _ _ _ head.Mutex object.Mutex [] refl (head_told scope (form.Mutex name) own) fault
line_names scope (form.MutexAttr name) own fault = line_declares _ _ _ head.Mutexattr object.Mutexattr [] refl (head_told scope (form.MutexAttr name) own) fault
line_names scope (form.Cond name) own fault = line_declares _ _ _ head.Cond object.Cond [] refl (head_told scope (form.Cond name) own) fault
line_names scope (form.Attr name) own fault = line_declares _ _ _ head.Attr object.Attr [] refl (head_told scope (form.Attr name) own) fault
line_names scope (form.Key name) own fault = line_declares _ _ _ head.Key object.Key [] refl (head_told scope (form.Key name) own) fault
line_names scope (form.Once name) own fault = line_declares _ _ _ head.Once object.Once [] refl (head_told scope (form.Once name) own) fault
line_names scope (form.Pipe name n) own fault = line_declares _ _ _ head.Pipe object.Pipe (Number ∷ []) refl (head_told scope (form.Pipe name n) own) fault
line_names scope (form.Routine name parameter) own fault = line_declares _ _ _ head.Routine object.Routine (Parameter ∷ []) refl (head_told scope (form.Routine name parameter) own) fault
line_names scope f own fault = none_needed (length (declared_in (map word_of (form_words scope f))))

-- ---- a line that passes no limit

-- What the line is, below what stands above it.
record PassesNone (above : Above) (words : List Word) : Type 0 where
  pub range : is_out_of_range (head_of_line words) (rest_of words) ≡ false
  pub deep : depth_below above.depth (shape_of_line words) ≤ 32
  pub few : length (locals_below above.locals words) ≤ 16

none_at_all : (b : Bool) → when b 18 ≡ [] → b ≡ false
none_at_all true e = absurd cc
none_at_all false e = refl

at_most : (n high : ℕ) → nat_lt high n ≡ false → n ≤ high
at_most n high e = grind (arith, nat_tests)

last_nil : (a b c d : List ℕ) → a ++ (b ++ (c ++ d)) ≡ [] → d ≡ []
last_nil a b c d e = second_nil c d (second_nil b (c ++ d) (second_nil a (b ++ (c ++ d)) e))

passes_none : (whole : Lines) (above : Above) (words : List Word) → name_misfits whole above words ≡ [] → PassesNone above words
unfolding name_misfits
passes_none whole above words e =
    let out = is_out_of_range (head_of_line words) (rest_of words) in
    let more = nat_lt 0 (length (declared_in words)) && nat_le 1000 (length (declarations above.lines)) in
    let deep = nat_lt 32 (depth_below above.depth (shape_of_line words)) in
    let many = nat_lt 16 (length (locals_below above.locals words)) in
    let none = none_at_all (passes_limit above words) (last_nil
    (when (list_any (λ x. is_again_word x.0 x.1 (entries_of whole) (entries_of above.lines) above.locals) (placed_in words) || is_second above.lines words) 15)
    (when (list_any (is_undeclared (entries_of whole) (locals_below above.locals words)) (placed_in words)) 16)
    (when (list_any (is_misused (entries_of whole) (locals_below above.locals words)) (placed_in words)) 17)
    (when (passes_limit above words) 18) e) in
    let own = neither out (more || (deep || many)) none in
    let low = neither deep many (neither more (deep || many) own.1).1 in
    record { range = own.0; deep = at_most (depth_below above.depth (shape_of_line words)) 32 low.0; few = at_most (length (locals_below above.locals words)) 16 low.1 }

-- ---- all lines

-- The line keeps the limits, below these locals and so many open blocks.
pub record Keeps (names locals : List (List ℕ)) (depth : ℕ) (f : Form) : Type 0 where
  pub short : is_short_line (form_words (scope_of names (locals_after_form locals f)) f) ≡ true
  pub few : length (locals_after_form locals f) ≤ 16
  pub deep : depth_below depth (form_shape f) ≤ 32
  pub range : is_line_in_range f ≡ true
  pub named : names_in_line f ≤ length (declared_in (map word_of (form_words (scope_of names (locals_after_form locals f)) f)))

abbrev pub AllKeep : List (List ℕ) → List (List ℕ) → ℕ → List Form → Type 0
AllKeep names locals depth [] = Unit {0}
AllKeep names locals depth (f ∷ fs) = Keeps names locals depth f × AllKeep names (locals_after_form locals f) (depth_below depth (form_shape f)) fs

abbrev standing : Lines → List (List ℕ) → ℕ → Above
standing above locals depth = record { lines = above; locals = locals; depth = depth }

all_keep : (whole above : Lines) (names locals : List (List ℕ)) (depth : ℕ) (fs : List Form) → list_all is_own fs ≡ true → HaveNumbers fs
    → HaveForms (texts_words (spelled_lines names locals fs)) → AreScopes names locals (texts_words (spelled_lines names locals fs))
    → AreWellNamed whole (standing above locals depth) (texts_words (spelled_lines names locals fs)) → AllKeep names locals depth fs
unfolding spelled_lines
all_keep whole above names locals depth [] own numbers forms scopes named = tt
all_keep whole above names locals depth (f ∷ fs) own numbers forms scopes named =
    let below = locals_after_form locals f in
    let scope = scope_of names below in
    let l : List Word = map word_of (form_words scope f) in
    let rest : Lines = texts_words (spelled_lines names below fs) in
    let p = both (is_own f) (list_all is_own fs) own in
    let o = no_header f p.0 in
    let same : locals_below locals l ≡ below = same_locals scope locals f o forms.0 in
    let shape : shape_of_line l ≡ form_shape f = sym (line_shape scope f o) in
    let good : IsScope scope = subst (λ (k : List (List ℕ)). IsScope (scope_of names k)) same scopes.0 in
    let none = passes_none whole (standing above locals depth) l named.0 in
    let next : AreWellNamed whole (standing (above ++ l ∷ []) below (depth_below depth (form_shape f))) rest =
    subst (λ (x : Shape). AreWellNamed whole (standing (above ++ l ∷ []) below (depth_below depth x)) rest) shape
    (subst (λ (k : List (List ℕ)). AreWellNamed whole (standing (above ++ l ∷ []) k (depth_below depth (shape_of_line l))) rest) same named.1) in (
      record {
        short = line_is_short scope f good o numbers.0 forms.0 forms.1;
        few = subst (λ (k : List (List ℕ)). length k ≤ 16) same none.few;
        deep = subst (λ (x : Shape). depth_below depth x ≤ 32) shape none.deep;
        range = line_in_range scope f o numbers.0 forms.0 none.range;
        named = line_names scope f o forms.0;
      },
      all_keep whole (above ++ l ∷ []) names below (depth_below depth (form_shape f)) fs p.1 numbers.1 forms.2
          (subst (λ (k : List (List ℕ)). AreScopes names k rest) same scopes.1) next,
    )

pub lines_keep : (s : Script) → Formed s → AllKeep s.names [] 0 (tree_lines s)
lines_keep s h =
    let numbered = numbered_lines 2 (own_lines s) in
    let same : words_in numbered ≡ own_lines s = words_numbered 2 (own_lines s) in
    let spelled : own_lines s ≡ texts_words (spelled_lines s.names [] (tree_lines s)) = sym (own_spelled s h) in
    let parts = own_parts (length (own_lines s) + 2) numbered (names_are_short (length (own_lines s) + 2) numbered h.names_and_limits).1 in
    let named : AreWellNamed (own_lines s) nothing_above (own_lines s) = subst (λ (ls : Lines). AreWellNamed ls nothing_above ls) same parts.0 in
    all_keep (own_lines s) [] s.names [] 0 (tree_lines s) (items_own s.items) h.numbers.1 (subst HaveForms spelled h.forms) (subst (AreScopes s.names []) spelled (formed_scopes s h))
    (subst (λ (ls : Lines). AreWellNamed (own_lines s) nothing_above ls) spelled named)

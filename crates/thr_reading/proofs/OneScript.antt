-- A text is read as one script at most.
use Rattle.std.proofs.Common.{◌≡◌, ℕ, ◌+◌, Bool, true, false, List, [], ◌∷◌, ◌++◌, map, length, refl, sym, ap, subst, ◌∙◌}
use Rattle.std.specs.Prelude.{◌&&◌, ◌||◌, nat_lt, nat_le}
use Rattle.std.specs.List.{list_all, list_any}
use Rattle.std.specs.Map.{keys_of}
use Rattle.std.proofs.lemmas.List.{map-append}
use Rattle.thr_values.specs.Exceptions.{builtin_names}
use Rattle.thr_syntax.specs.declared.form.Form.{Form}
use Rattle.thr_syntax.specs.declared.tree.Item.{Item}
use Rattle.thr_syntax.specs.declared.tree.Script.{Script}
use Rattle.thr_syntax.specs.Lines.{joined, item_lines}
use Rattle.thr_syntax.specs.Canon.{scope_in, item_words}
use Rattle.thr_syntax.specs.Spelling.{Scope, form_words}
use Rattle.thr_text.specs.declared.word.Word.{Word}
use Rattle.thr_text.specs.Faults.{when}
use Rattle.thr_text.specs.Lexing.{word_of}
use Rattle.thr_text.specs.Numbers.{HaveNumbers}
use Rattle.thr_text.specs.Blocks.{Line, form_shape, shape_of_line, at_line, Nest}
use Rattle.thr_text.specs.Slots.{head_of_line}
use Rattle.thr_text.specs.Tables.{entries_of, declarations, rest_of, declared_in, placed_in}
use Rattle.thr_text.specs.NameFaults.{Above, above_next, nothing_above, is_out_of_range, passes_limit, name_misfits, lines_faults, words_in, locals_below, depth_below, is_again_word, is_second, is_undeclared, is_misused}
use Rattle.thr_text.specs.Reading.{own_lines, numbered_lines, HaveForms, Formed, Reads}
use Rattle.thr_blocks.specs.Build.{is_own}
use Rattle.thr_blocks.proofs.FaultlessLaws.{faultless}
use Rattle.thr_blocks.proofs.Determined.{determined}
use Rattle.thr_resolving.specs.Resolving.{resolved, resolved_lines, scope_of}
use Rattle.thr_resolving.specs.Scopes.{IsScope}
use Rattle.thr_reading.specs.Running.{locals_after_form, spelled_lines}
use Rattle.thr_reading.specs.Naming.{AreScopes}
use Rattle.thr_reading.proofs.LineWords.{first_nil, second_nil, none_at}
use Rattle.thr_reading.proofs.OwnLaws.{items_own, item_own, no_header}
use Rattle.thr_reading.proofs.ReadLaws.{words_numbered, entry_names}
use Rattle.thr_blocks.proofs.TreesNest.{trees_nest}
use Rattle.thr_resolving.proofs.AgainLines.{line_resolved, line_shape}
use Rattle.thr_reading.proofs.NamesRenumbered.{names_are_short}
use Rattle.thr_reading.proofs.NamesScopes.{names_are_scopes}
use Rattle.thr_reading.proofs.NamesStand.{forms_have_no_fault}
use Rattle.thr_reading.specs.Naming.{HaveNoFormFault}
use Rattle.thr_reading.proofs.RunningLaws.{running_is_item}
use Rattle.thr_reading.proofs.LocalsLaws.{same_locals}

abbrev Lines : Type 0
Lines = List (List Word)

abbrev texts_words : List (List (List ℕ)) → Lines
texts_words = map (map word_of)

both : (a b : Bool) → (a && b) ≡ true → (a ≡ true) × (b ≡ true)
both true b e = (refl, e)
both false b e = absurd cc

-- ---- the lines of a script that keeps the rules have the shapes of its words

shapes_of : (scope : Scope) (fs : List Form) → list_all is_own fs ≡ true → map form_shape fs ≡ map shape_of_line (texts_words (map (form_words scope) fs))
shapes_of scope [] h = refl
shapes_of scope (f ∷ fs) h =
    let p = both (is_own f) (list_all is_own fs) h in
    ap (λ x. x ∷ map form_shape fs) (line_shape scope f (no_header f p.0)) ∙ ap (λ xs. shape_of_line (map word_of (form_words scope f)) ∷ xs) (shapes_of scope fs p.1)

item_shapes : (names : List (List ℕ)) (items : List Item) → map form_shape (joined (map item_lines items)) ≡ map shape_of_line (texts_words (joined (map (item_words names) items)))
item_shapes names [] = refl
item_shapes names (i ∷ items) =
    map-append form_shape (item_lines i) (joined (map item_lines items))
    ∙ ap (λ xs. xs ++ map form_shape (joined (map item_lines items))) (shapes_of (scope_in names i) (item_lines i) (item_own i))
    ∙ ap (λ xs. map shape_of_line (texts_words (item_words names i)) ++ xs) (item_shapes names items)
    ∙ sym (map-append shape_of_line (texts_words (item_words names i)) (texts_words (joined (map (item_words names) items))))
    ∙ ap (map shape_of_line) (sym (map-append (map word_of) (item_words names i) (joined (map (item_words names) items))))

shapes_numbered : (at : ℕ) (ls : Lines) → map (λ l. shape_of_line l.1) (numbered_lines at ls) ≡ map shape_of_line ls
unfolding numbered_lines
shapes_numbered at [] = refl
shapes_numbered at (l ∷ ls) = ap (λ xs. shape_of_line l ∷ xs) (shapes_numbered (at + 1) ls)

abbrev pub tree_lines : Script → List Form
tree_lines s = joined (map item_lines s.items)

pub formed_nests : (s : Script) → Formed s → Nest [] (map form_shape (tree_lines s))
formed_nests s h =
    subst (Nest []) (shapes_numbered 2 (own_lines s) ∙ sym (item_shapes s.names s.items)) (faultless (length (own_lines s) + 2) (numbered_lines 2 (own_lines s)) h.blocks)

-- The words of the script's own lines, spelled with the locals in force at each.
pub formed_words : (s : Script) → Formed s → spelled_lines s.names [] (tree_lines s) ≡ joined (map (item_words s.names) s.items)
formed_words s h = running_is_item s.names [] s.items (trees_nest s.items (formed_nests s h))

-- ---- numbers of `limit` and `pipe` lines are in range

abbrev AreInRange : Lines → Type 0
AreInRange [] = Unit {0}
AreInRange (l ∷ ls) = (is_out_of_range (head_of_line l) (rest_of l) ≡ false) × AreInRange ls

no_limit : (out more : Bool) → when (out || more) 18 ≡ [] → out ≡ false
no_limit true more e = absurd cc
no_limit false more e = refl

last_nil : (a b c d : List ℕ) → a ++ (b ++ (c ++ d)) ≡ [] → d ≡ []
last_nil a b c d e = second_nil c d (second_nil b (c ++ d) (second_nil a (b ++ (c ++ d)) e))

in_range : (whole : Lines) (above : Above) (words : List Word) → name_misfits whole above words ≡ [] → is_out_of_range (head_of_line words) (rest_of words) ≡ false
unfolding name_misfits
in_range whole above words e =
    no_limit (is_out_of_range (head_of_line words) (rest_of words))
    ((nat_lt 0 (length (declared_in words)) && nat_le 1000 (length (declarations above.lines))) || (nat_lt 32 (depth_below above.depth (shape_of_line words)) || nat_lt 16 (length (locals_below above.locals words))))
    (last_nil
    (when (list_any (λ x. is_again_word x.0 x.1 (entries_of whole) (entries_of above.lines) above.locals) (placed_in words) || is_second above.lines words) 15)
    (when (list_any (is_undeclared (entries_of whole) (locals_below above.locals words)) (placed_in words)) 16)
    (when (list_any (is_misused (entries_of whole) (locals_below above.locals words)) (placed_in words)) 17)
    (when (passes_limit above words) 18) e)

all_in_range : (whole : Lines) (above : Above) (ls : List Line) → lines_faults whole above ls ≡ [] → AreInRange (words_in ls)
unfolding lines_faults
all_in_range whole above [] e = tt
all_in_range whole above (l ∷ ls) e =
    let own = at_line l.0 (name_misfits whole above l.1) in
    let rest = lines_faults whole (above_next above l.1) ls in (
      in_range whole above l.1 (none_at l.0 (name_misfits whole above l.1) (first_nil own rest e)),
      all_in_range whole (above_next above l.1) ls (second_nil own rest e),
    )

-- ---- they are the resolved lines of its words

resolved_again : (names locals : List (List ℕ)) (fs : List Form) → list_all is_own fs ≡ true → HaveNumbers fs
    → HaveForms (texts_words (spelled_lines names locals fs)) → AreInRange (texts_words (spelled_lines names locals fs)) → AreScopes names locals (texts_words (spelled_lines names locals fs))
    → resolved_lines names locals (texts_words (spelled_lines names locals fs)) ≡ fs
unfolding spelled_lines resolved_lines
resolved_again names locals [] own numbers forms range scopes = refl
resolved_again names locals (f ∷ fs) own numbers forms range scopes =
    let below = locals_after_form locals f in
    let scope = scope_of names below in
    let l = map word_of (form_words scope f) in
    let rest = texts_words (spelled_lines names below fs) in
    let p = both (is_own f) (list_all is_own fs) own in
    let same : locals_below locals l ≡ below = same_locals scope locals f (no_header f p.0) forms.0 in
    let good : IsScope scope = subst (λ (k : List (List ℕ)). IsScope (scope_of names k)) same scopes.0 in
    ap (λ (k : List (List ℕ)). resolved (scope_of names k) l ∷ resolved_lines names k rest) same
    ∙ ap (λ (g : Form). g ∷ resolved_lines names below rest) (line_resolved scope f good (no_header f p.0) numbers.0 forms.0 range.0)
    ∙ ap (λ (gs : List Form). f ∷ gs) (resolved_again names below fs p.1 numbers.1 forms.2 range.1 (subst (λ (k : List (List ℕ)). AreScopes names k rest) same scopes.1))

pub own_spelled : (s : Script) → Formed s → texts_words (spelled_lines s.names [] (tree_lines s)) ≡ own_lines s
own_spelled s h = ap texts_words (formed_words s h)

pub formed_scopes : (s : Script) → Formed s → AreScopes s.names [] (own_lines s)
formed_scopes s h =
    let numbered = numbered_lines 2 (own_lines s) in
    let same : words_in numbered ≡ own_lines s = words_numbered 2 (own_lines s) in
    let own = names_are_short (length (own_lines s) + 2) numbered h.names_and_limits in
    let scopes : AreScopes (keys_of (entries_of (words_in numbered))) [] (words_in numbered) = names_are_scopes (length (own_lines s) + 2) numbered (subst HaveNoFormFault (sym same) (forms_have_no_fault (own_lines s) h.forms)) own.1 in
    let names : keys_of (entries_of (own_lines s)) ≡ s.names = entry_names (own_lines s) ∙ sym h.names in
    subst (λ (ns : List (List ℕ)). AreScopes ns [] (own_lines s)) names (subst (λ (ls : Lines). AreScopes (keys_of (entries_of ls)) [] ls) same scopes)

pub formed_resolved : (s : Script) → Formed s → resolved_lines s.names [] (own_lines s) ≡ tree_lines s
formed_resolved s h =
    let numbered = numbered_lines 2 (own_lines s) in
    let own = names_are_short (length (own_lines s) + 2) numbered h.names_and_limits in
    let same : words_in numbered ≡ own_lines s = words_numbered 2 (own_lines s) in
    let range : AreInRange (own_lines s) = subst AreInRange same (all_in_range (words_in numbered) nothing_above numbered (first_nil _ _ own.1)) in
    let spelled : texts_words (spelled_lines s.names [] (tree_lines s)) ≡ own_lines s = own_spelled s h in
    ap (resolved_lines s.names []) (sym spelled)
    ∙ resolved_again s.names [] (tree_lines s) (items_own s.items) h.numbers.1 (subst HaveForms (sym spelled) h.forms) (subst AreInRange (sym spelled) range) (subst (AreScopes s.names []) (sym spelled) (formed_scopes s h))

-- ---- one script

same_script : (s t : Script) → s.names ≡ t.names → s.items ≡ t.items → s ≡ t
same_script s t n i = λ k. record { names = n k; items = i k }

pub one_script : (bytes : List ℕ) (s t : Script) → Reads bytes s → Reads bytes t → s ≡ t
one_script bytes s t r q =
    let words : own_lines s ≡ own_lines t = sym r.words ∙ q.words in
    let names : s.names ≡ t.names = r.formed.names ∙ ap (λ (ls : Lines). builtin_names ++ map (λ e. e.0) (declarations ls)) words ∙ sym q.formed.names in
    let forms : tree_lines s ≡ tree_lines t = sym (formed_resolved s r.formed) ∙ ap (λ (ls : Lines). resolved_lines s.names [] ls) words ∙ ap (λ (ns : List (List ℕ)). resolved_lines ns [] (own_lines t)) names ∙ formed_resolved t q.formed in
    same_script s t names (determined s.items t.items (formed_nests s r.formed) forms)

-- A script that keeps the rules keeps the limits.
use Rattle.std.proofs.Common.{◌≡◌, ℕ, ◌+◌, ◌≤◌, Bool, true, false, cond, List, [], ◌∷◌, ◌++◌, map, length, length-append, refl, sym, ap, subst, ◌∙◌, append_assoc, arith}
use Rattle.std.specs.Prelude.{◌&&◌, nat_le, codes}
use Rattle.std.specs.List.{filter, list_all}
use Rattle.std.proofs.lemmas.Bool.Decides.{nat_tests}
use Rattle.std.proofs.lemmas.List.{length-map}
use Rattle.std.proofs.lemmas.List.Folds.{list_all-append}
use Rattle.thr_values.specs.Exceptions.{builtin_names}
use Rattle.thr_values.specs.declared.number.NameId.{NameId}
use Rattle.thr_syntax.specs.declared.form.Form.{Form}
use Rattle.thr_syntax.specs.declared.form.Form.TheVariants as form
use Rattle.thr_syntax.specs.declared.tree.Stmt.{Stmt}
use Rattle.thr_syntax.specs.declared.tree.Item.{Item}
use Rattle.thr_syntax.specs.declared.tree.Item.TheVariants as item
use Rattle.thr_syntax.specs.declared.tree.Script.{Script}
use Rattle.thr_syntax.specs.Lines.{joined, body_lines, item_lines}
use Rattle.thr_syntax.specs.Canon.{item_words, script_words}
use Rattle.thr_text.specs.declared.word.Word.{Word}
use Rattle.thr_text.specs.Lexing.{word_of}
use Rattle.thr_text.specs.Blocks.{form_shape}
use Rattle.thr_text.specs.NameFaults.{depth_below, words_in}
use Rattle.thr_text.specs.Tables.{builtin_entry, declared_in, declarations, entries_of}
use Rattle.thr_text.specs.Reading.{own_lines, numbered_lines, Formed}
use Rattle.thr_syntax.specs.Spelling.{form_words}
use Rattle.thr_blocks.specs.Trees.{item_nests}
use Rattle.thr_blocks.proofs.NestLaws.{both}
use Rattle.thr_blocks.proofs.TreesNest.{trees_nest}
use Rattle.thr_naming.proofs.EntryLaws.{names_are_few}
use Rattle.thr_resolving.specs.Resolving.{scope_of}
use Rattle.thr_reading.specs.Running.{locals_after_form, spelled_lines}
use Rattle.thr_reading.proofs.NamesRenumbered.{names_are_short}
use Rattle.thr_reading.proofs.OneScript.{tree_lines, formed_nests, formed_words, own_spelled}
use Rattle.thr_reading.proofs.ReadLaws.{words_numbered}
use Rattle.thr_limits.specs.Limits.{has_few_lines, is_short_line, has_short_lines, has_name, has_few_names, greatest, stmt_depth, is_shallow, has_few_locals, is_in_range, within_limits}
use Rattle.thr_limits.specs.Capped.{capped}
use Rattle.thr_limits.proofs.LineLimits.{texts_words, is_line_in_range, names_in_line, AllKeep, lines_keep}
use Rattle.thr_limits.proofs.LineDepths.{AreShallow, few_in_body}

at_most : (n high : ℕ) → n ≤ high → nat_le n high ≡ true
at_most n high le = grind (arith, nat_tests)

abbrev lines_in : List Item → List Form
lines_in items = joined (map item_lines items)

abbrev local_line : List ℕ → Form
local_line name = form.Local name

-- ---- few lines

one_more : (all n lines : ℕ) → all ≡ 1 + n → lines + 2 ≤ 20001 → n ≡ lines → nat_le all 20000 ≡ true
one_more all n lines is le same = grind (arith, nat_tests)

few_lines : (s : Script) → Formed s → has_few_lines s ≡ true
few_lines s h =
    let numbered = numbered_lines 2 (own_lines s) in
    let own : List (List (List ℕ)) = joined (map (item_words s.names) s.items) in
    one_more (length (script_words s)) (length own) (length (own_lines s)) (omega arith) (names_are_short (length (own_lines s) + 2) numbered h.names_and_limits).0 (sym (length-map own (map word_of)))

as_many : (n : ℕ) → nat_le n 20000 ≡ true → capped n ≡ n
as_many n few = grind (arith, nat_tests)

-- No count of the lines of a script that keeps the rules is cut.
pub counted_whole : (s : Script) → Formed s → capped (length (script_words s)) ≡ length (script_words s)
counted_whole s h = as_many (length (script_words s)) (few_lines s h)

-- ---- short lines

lines_are_short : (names locals : List (List ℕ)) (depth : ℕ) (fs : List Form) → AllKeep names locals depth fs → list_all is_short_line (spelled_lines names locals fs) ≡ true
unfolding spelled_lines
lines_are_short names locals depth [] h = refl
lines_are_short names locals depth (f ∷ fs) h =
    ap (λ (b : Bool). b && list_all is_short_line (spelled_lines names (locals_after_form locals f) fs)) h.0.short
    ∙ lines_are_short names (locals_after_form locals f) (depth_below depth (form_shape f)) fs h.1

first_is_short : is_short_line (codes "dcethr" ∷ codes "1" ∷ []) ≡ true
first_is_short = refl

short_lines : (s : Script) → Formed s → has_short_lines s ≡ true
short_lines s h =
    ap (λ (b : Bool). b && list_all is_short_line (joined (map (item_words s.names) s.items))) first_is_short
    ∙ sym (ap (list_all is_short_line) (formed_words s h)) ∙ lines_are_short s.names [] 0 (tree_lines s) (lines_keep s h)

-- ---- few names

abbrev name_count : List Form → ℕ
name_count [] = 0
name_count (f ∷ fs) = names_in_line f + name_count fs

count_append : (xs ys : List Form) → name_count (xs ++ ys) ≡ name_count xs + name_count ys
count_append [] ys = omega arith
count_append (f ∷ xs) ys = omega (arith, count_append xs ys)

names_are_declared : (names locals : List (List ℕ)) (depth : ℕ) (fs : List Form) → AllKeep names locals depth fs → name_count fs ≤ length (declarations (texts_words (spelled_lines names locals fs)))
unfolding spelled_lines declarations
names_are_declared names locals depth [] h = omega arith
names_are_declared names locals depth (f ∷ fs) h =
    let below = locals_after_form locals f in
    let l : List Word = map word_of (form_words (scope_of names below) f) in
    let rest : List (List Word) = texts_words (spelled_lines names below fs) in
    omega (arith, h.0.named, names_are_declared names below (depth_below depth (form_shape f)) fs h.1, length-append (declared_in l) (declarations rest))

abbrev one_if : Bool → ℕ
one_if true = 1
one_if false = 0

one_at_most : (n : ℕ) → 1 ≤ 1 + n
one_at_most n = omega arith

routine_name : (name : NameId) (locals : List (List ℕ)) (body : List Stmt) → item_nests (item.Routine (record { name = name; locals = locals; body = body })) ≡ true
    → 1 ≤ name_count (item_lines (item.Routine (record { name = name; locals = locals; body = body })))
routine_name name [] body nests = absurd cc
routine_name name (parameter ∷ locals) body nests = one_at_most (name_count (map local_line locals ++ (body_lines body ++ form.End ∷ [])))

item_name : (i : Item) → item_nests i ≡ true → one_if (has_name i) ≤ name_count (item_lines i)
item_name (item.Routine r) nests = routine_name r.name r.locals r.body nests
item_name (item.Interface i) nests = omega arith
item_name (item.Limit n) nests = omega arith
item_name (item.Shared name n) nests = omega arith
item_name (item.Exception name) nests = omega arith
item_name (item.Status name n) nests = omega arith
item_name (item.Mutex name) nests = omega arith
item_name (item.MutexAttr name) nests = omega arith
item_name (item.Cond name) nests = omega arith
item_name (item.Attr name) nests = omega arith
item_name (item.Key name) nests = omega arith
item_name (item.Once name) nests = omega arith
item_name (item.Pipe name n) nests = omega arith

one_kept : (b : Bool) (i : Item) (items : List Item) (first more : ℕ) → one_if b ≤ first → length items ≤ more → length (cond b (i ∷ items) items) ≤ first + more
one_kept true i items first more h k = omega (arith, h, k)
one_kept false i items first more h k = omega (arith, h, k)

item_names : (items : List Item) → list_all item_nests items ≡ true → length (filter has_name items) ≤ name_count (lines_in items)
item_names [] nests = omega arith
item_names (i ∷ items) nests =
    let p = both (item_nests i) (list_all item_nests items) nests in
    omega (arith, one_kept (has_name i) i (filter has_name items) (name_count (item_lines i)) (name_count (lines_in items)) (item_name i p.0) (item_names items p.1), count_append (item_lines i) (lines_in items))

builtin_count : length (map builtin_entry builtin_names) ≡ 10
builtin_count = refl

few_names : (s : Script) → Formed s → has_few_names s ≡ true
few_names s h =
    let numbered = numbered_lines 2 (own_lines s) in
    let same : words_in numbered ≡ own_lines s = words_numbered 2 (own_lines s) in
    let all : length (entries_of (own_lines s)) ≤ 1010 = subst (λ (ls : List (List Word)). length (entries_of ls) ≤ 1010) same (names_are_few (length (own_lines s) + 2) numbered h.names_and_limits) in
    let lines : name_count (tree_lines s) ≤ length (declarations (own_lines s)) =
    subst (λ (ls : List (List Word)). name_count (tree_lines s) ≤ length (declarations ls)) (own_spelled s h) (names_are_declared s.names [] 0 (tree_lines s) (lines_keep s h)) in
    let items : length (filter has_name s.items) ≤ name_count (tree_lines s) = item_names s.items (trees_nest s.items (formed_nests s h)) in
    at_most (length (filter has_name s.items)) 1000 (omega (arith, all, lines, items, builtin_count, length-append (map builtin_entry builtin_names) (declarations (own_lines s))))

-- ---- few locals

-- No more than 16 locals are in force below any of these lines, below these locals.
abbrev HaveFew : List (List ℕ) → List Form → Type 0
HaveFew locals [] = Unit {0}
HaveFew locals (f ∷ fs) = (length (locals_after_form locals f) ≤ 16) × HaveFew (locals_after_form locals f) fs

lines_have_few : (names locals : List (List ℕ)) (depth : ℕ) (fs : List Form) → AllKeep names locals depth fs → HaveFew locals fs
lines_have_few names locals depth [] h = tt
lines_have_few names locals depth (f ∷ fs) h = (h.0.few, lines_have_few names (locals_after_form locals f) (depth_below depth (form_shape f)) fs h.1)

few_after : (locals : List (List ℕ)) (xs ys : List Form) → HaveFew locals (xs ++ ys) → (below : List (List ℕ)) × HaveFew below ys
few_after locals [] ys h = (locals, h)
few_after locals (x ∷ xs) ys h = few_after (locals_after_form locals x) xs ys h.1

grown_few : (locals more : List (List ℕ)) (rest : List Form) → length locals ≤ 16 → HaveFew locals (map local_line more ++ rest) → length locals + length more ≤ 16
grown_few locals [] rest le h = omega (arith, le)
grown_few locals (name ∷ more) rest le h =
    let all : length (locals ++ name ∷ []) + length more ≤ 16 = grown_few (locals ++ name ∷ []) more rest h.0 h.1 in
    omega (arith, all, length-append locals (name ∷ []))

routine_locals : (before : List (List ℕ)) (name : NameId) (locals : List (List ℕ)) (body : List Stmt) (rest : List Form)
    → HaveFew before (item_lines (item.Routine (record { name = name; locals = locals; body = body })) ++ rest) → nat_le (length locals) 16 ≡ true
routine_locals before name [] body rest h = refl
routine_locals before name (parameter ∷ locals) body rest h =
    let inside : List Form = body_lines body ++ form.End ∷ [] in
    let all : length (parameter ∷ []) + length locals ≤ 16 =
    grown_few (parameter ∷ []) locals (inside ++ rest) h.0 (subst (HaveFew (parameter ∷ [])) (append_assoc (map local_line locals) inside rest) h.1) in
    at_most (length (parameter ∷ locals)) 16 (omega (arith, all))

item_locals : (before : List (List ℕ)) (i : Item) (rest : List Form) → HaveFew before (item_lines i ++ rest) → has_few_locals i ≡ true
item_locals before (item.Routine r) rest h = routine_locals before r.name r.locals r.body rest h
item_locals before (item.Interface i) rest h = refl
item_locals before (item.Limit n) rest h = refl
item_locals before (item.Shared name n) rest h = refl
item_locals before (item.Exception name) rest h = refl
item_locals before (item.Status name n) rest h = refl
item_locals before (item.Mutex name) rest h = refl
item_locals before (item.MutexAttr name) rest h = refl
item_locals before (item.Cond name) rest h = refl
item_locals before (item.Attr name) rest h = refl
item_locals before (item.Key name) rest h = refl
item_locals before (item.Once name) rest h = refl
item_locals before (item.Pipe name n) rest h = refl

few_locals : (before : List (List ℕ)) (items : List Item) → HaveFew before (lines_in items) → list_all has_few_locals items ≡ true
few_locals before [] h = refl
few_locals before (i ∷ items) h =
    let after = few_after before (item_lines i) (lines_in items) h in
    ap (λ (b : Bool). b && list_all has_few_locals items) (item_locals before i (lines_in items) h) ∙ few_locals after.0 items after.1

-- ---- numbers in range

lines_in_range : (names locals : List (List ℕ)) (depth : ℕ) (fs : List Form) → AllKeep names locals depth fs → list_all is_line_in_range fs ≡ true
lines_in_range names locals depth [] h = refl
lines_in_range names locals depth (f ∷ fs) h =
    ap (λ (b : Bool). b && list_all is_line_in_range fs) h.0.range ∙ lines_in_range names (locals_after_form locals f) (depth_below depth (form_shape f)) fs h.1

item_in_range : (i : Item) → list_all is_line_in_range (item_lines i) ≡ true → is_in_range i ≡ true
item_in_range (item.Limit n) h = (both (nat_le 1 n && nat_le n 1000000) true h).0
item_in_range (item.Pipe name n) h = (both (nat_le 1 n && nat_le n 4096) true h).0
item_in_range (item.Routine r) h = refl
item_in_range (item.Interface i) h = refl
item_in_range (item.Shared name n) h = refl
item_in_range (item.Exception name) h = refl
item_in_range (item.Status name n) h = refl
item_in_range (item.Mutex name) h = refl
item_in_range (item.MutexAttr name) h = refl
item_in_range (item.Cond name) h = refl
item_in_range (item.Attr name) h = refl
item_in_range (item.Key name) h = refl
item_in_range (item.Once name) h = refl

in_range : (items : List Item) → list_all is_line_in_range (lines_in items) ≡ true → list_all is_in_range items ≡ true
in_range [] h = refl
in_range (i ∷ items) h =
    let p = both (list_all is_line_in_range (item_lines i)) (list_all is_line_in_range (lines_in items)) (sym (list_all-append is_line_in_range (item_lines i) (lines_in items)) ∙ h) in
    ap (λ (b : Bool). b && list_all is_in_range items) (item_in_range i p.0) ∙ in_range items p.1

-- ---- shallow blocks

lines_are_shallow : (names locals : List (List ℕ)) (depth : ℕ) (fs : List Form) → AllKeep names locals depth fs → AreShallow depth fs
lines_are_shallow names locals depth [] h = tt
lines_are_shallow names locals depth (f ∷ fs) h = (h.0.deep, lines_are_shallow names (locals_after_form locals f) (depth_below depth (form_shape f)) fs h.1)

-- The lines of locals open and close nothing.
below_locals : (locals : List (List ℕ)) (d : ℕ) (rest : List Form) → AreShallow d (map local_line locals ++ rest) → AreShallow d rest
unfolding form_shape
below_locals [] d rest h = h
below_locals (name ∷ locals) d rest h = below_locals locals d rest h.1

routine_shallow : (name : NameId) (locals : List (List ℕ)) (body : List Stmt) (rest : List Form) → item_nests (item.Routine (record { name = name; locals = locals; body = body })) ≡ true
    → AreShallow 0 (item_lines (item.Routine (record { name = name; locals = locals; body = body })) ++ rest) → (nat_le (1 + greatest (map stmt_depth body)) 32 ≡ true) × AreShallow 0 rest
unfolding form_shape
routine_shallow name [] body rest nests h = absurd cc
routine_shallow name (parameter ∷ locals) body rest nests h =
    let inside : List Form = body_lines body ++ form.End ∷ [] in
    let whole : AreShallow 1 (inside ++ rest) = below_locals locals 1 (inside ++ rest) (subst (AreShallow 1) (append_assoc (map local_line locals) inside rest) h.1) in
    let few = few_in_body body 1 (form.End ∷ rest) h.0 (subst (AreShallow 1) (append_assoc (body_lines body) (form.End ∷ []) rest) whole) in
    (at_most (1 + greatest (map stmt_depth body)) 32 few.0, few.1.1)

item_shallow : (i : Item) (rest : List Form) → item_nests i ≡ true → AreShallow 0 (item_lines i ++ rest) → (is_shallow i ≡ true) × AreShallow 0 rest
unfolding form_shape
item_shallow (item.Routine r) rest nests h = routine_shallow r.name r.locals r.body rest nests h
item_shallow (item.Interface i) rest nests h = (refl, h.1)
item_shallow (item.Limit n) rest nests h = (refl, h.1)
item_shallow (item.Shared name n) rest nests h = (refl, h.1)
item_shallow (item.Exception name) rest nests h = (refl, h.1)
item_shallow (item.Status name n) rest nests h = (refl, h.1)
item_shallow (item.Mutex name) rest nests h = (refl, h.1)
item_shallow (item.MutexAttr name) rest nests h = (refl, h.1)
item_shallow (item.Cond name) rest nests h = (refl, h.1)
item_shallow (item.Attr name) rest nests h = (refl, h.1)
item_shallow (item.Key name) rest nests h = (refl, h.1)
item_shallow (item.Once name) rest nests h = (refl, h.1)
item_shallow (item.Pipe name n) rest nests h = (refl, h.1)

shallow : (items : List Item) → list_all item_nests items ≡ true → AreShallow 0 (lines_in items) → list_all is_shallow items ≡ true
shallow [] nests h = refl
shallow (i ∷ items) nests h =
    let p = both (item_nests i) (list_all item_nests items) nests in
    let here = item_shallow i (lines_in items) p.0 h in
    ap (λ (b : Bool). b && list_all is_shallow items) here.0 ∙ shallow items p.1 here.1

-- ---- the script

all_six : (a b c d e f : Bool) → a ≡ true → b ≡ true → c ≡ true → d ≡ true → e ≡ true → f ≡ true → (a && (b && (c && (d && (e && f))))) ≡ true
all_six a b c d e f ha hb hc hd he hf = rw (ha, hb, hc, hd, he, hf) refl

pub formed_within : (s : Script) → Formed s → within_limits s ≡ true
formed_within s h =
    let keep = lines_keep s h in
    all_six (list_all is_shallow s.items) (list_all has_few_locals s.items) (list_all is_in_range s.items) (has_few_names s) (has_few_lines s) (has_short_lines s)
    (shallow s.items (trees_nest s.items (formed_nests s h)) (lines_are_shallow s.names [] 0 (tree_lines s) keep))
    (few_locals [] s.items (lines_have_few s.names [] 0 (tree_lines s) keep))
    (in_range s.items (lines_in_range s.names [] 0 (tree_lines s) keep))
    (few_names s h) (few_lines s h) (short_lines s h)

-- The lines of a text without faults of names are faultless, each below the locals in force at it.
use Rattle.std.proofs.Common.{◌≡◌, ℕ, ◌≤◌, Bool, true, false, List, [], ◌∷◌, ◌++◌, length, map, Option, Some, None, refl, ap, sym, ◌∙◌, is_some, append_assoc, arith}
use Rattle.std.specs.Prelude.{◌||◌, ◌&&◌, nat_lt, nat_le, if◌then◌else◌}
use Rattle.std.specs.List.{list_all, list_any}
use Rattle.std.specs.Str.{bytes_eq}
use Rattle.std.proofs.lemmas.Bool.Decides.{nat_tests}
use Rattle.std.proofs.lemmas.Slice.Eq.{bytes_eq-Decides}
use Rattle.thr_values.specs.Exceptions.{builtin_names}
use Rattle.thr_text.specs.declared.word.Word.{Word}
use Rattle.thr_text.specs.declared.head.Head.{Head}
use Rattle.thr_text.specs.declared.object.Object as kinds
use Rattle.thr_text.specs.Faults.{when}
use Rattle.thr_text.specs.Lexing.{AreOfLine}
use Rattle.thr_text.specs.Slots.{form_fault, fault_after, head_at, text_of, head_of_line}
use Rattle.thr_text.specs.Blocks.{Line, shape_of_line}
use Rattle.thr_text.specs.Tables.{Entry, builtin_entry, placed_in, rest_of, kind_in, is_declared, entries_of, declarations, declared_in}
use Rattle.thr_text.specs.NameFaults.{is_again_word, is_second, is_undeclared, is_misused, is_out_of_range, locals_below, depth_below, Above, above_next, nothing_above, passes_limit, name_misfits, words_in, own_faults}
use Rattle.thr_naming.specs.Misnamed.{AreWellNamed}
use Rattle.thr_naming.proofs.MisnamedLaws.{own_parts}
use Rattle.thr_naming.proofs.EntryLaws
use Rattle.thr_resolving.specs.Scopes.{IsFaultless}
use Rattle.thr_reading.specs.Naming.{AreFaultless, HaveGoodWords}
use Rattle.thr_reading.proofs.NamesRenumbered.{own_renumbered, short_names}

-- ---- a line that keeps the rules for names and the limits

pub neither : (a b : Bool) → (a || b) ≡ false → (a ≡ false) × (b ≡ false)
neither true b h = absurd cc
neither false b h = (refl, h)

none_of : (a u m b : Bool) → when a 15 ++ (when u 16 ++ (when m 17 ++ when b 18)) ≡ [] → (a ≡ false) × (u ≡ false) × (m ≡ false) × (b ≡ false)
none_of true u m b h = absurd cc
none_of false true m b h = absurd cc
none_of false false true b h = absurd cc
none_of false false false true h = absurd cc
none_of false false false false h = (refl, refl, refl, refl)

at_most : (n : ℕ) → nat_lt 16 n ≡ false → n ≤ 16
at_most n h = grind (arith, nat_tests)

pub record Keeps (whole : List (List Word)) (a : Above) (words : List Word) : Type 0 where
  pub new : list_any (λ x. is_again_word x.0 x.1 (entries_of whole) (entries_of a.lines) a.locals) (placed_in words) ≡ false
  pub declared : list_any (is_undeclared (entries_of whole) (locals_below a.locals words)) (placed_in words) ≡ false
  pub suited : list_any (is_misused (entries_of whole) (locals_below a.locals words)) (placed_in words) ≡ false
  pub range : is_out_of_range (head_of_line words) (rest_of words) ≡ false
  pub few : length (locals_below a.locals words) ≤ 16

pub keeps : (whole : List (List Word)) (a : Above) (words : List Word) → name_misfits whole a words ≡ [] → Keeps whole a words
unfolding name_misfits
keeps whole a words h =
    let again = list_any (λ x. is_again_word x.0 x.1 (entries_of whole) (entries_of a.lines) a.locals) (placed_in words) in
    let undeclared = list_any (is_undeclared (entries_of whole) (locals_below a.locals words)) (placed_in words) in
    let misused = list_any (is_misused (entries_of whole) (locals_below a.locals words)) (placed_in words) in
    let outside = is_out_of_range (head_of_line words) (rest_of words) in
    let more = nat_lt 0 (length (declared_in words)) && nat_le 1000 (length (declarations a.lines)) in
    let deep = nat_lt 32 (depth_below a.depth (shape_of_line words)) in
    let many = nat_lt 16 (length (locals_below a.locals words)) in
    let none = none_of (again || is_second a.lines words) undeclared misused (passes_limit a words) h in
    let fine = neither outside (more || (deep || many)) none.3 in
    let low = neither deep many (neither more (deep || many) fine.1).1 in
    record { new = (neither again (is_second a.lines words) none.0).0; declared = none.1; suited = none.2; range = fine.0; few = at_most (length (locals_below a.locals words)) low.1 }

-- ---- what a line declares is declared in the text

still_some : (b : Bool) (k : kinds.Object) (o : Option kinds.Object) → is_some o ≡ true → is_some (if b then Some k else o) ≡ true
still_some true k o h = refl
still_some false k o h = h

declared_here : (es : List Entry) (e : Entry) (ds : List Entry) → is_declared (es ++ e ∷ ds) e.0 ≡ true
unfolding kind_in
declared_here [] e ds = rw ((bytes_eq-Decides e.0 e.0).1 refl) refl
declared_here (d ∷ es) e ds = still_some (bytes_eq e.0 d.0) d.1 (kind_in (es ++ e ∷ ds) e.0) (declared_here es e ds)

all_declared : (es fs ds : List Entry) → list_all (λ e. is_declared (es ++ (fs ++ ds)) e.0) fs ≡ true
all_declared es [] ds = refl
all_declared es (f ∷ fs) ds =
    let rest : list_all (λ e. is_declared (es ++ (f ∷ (fs ++ ds))) e.0) fs ≡ true =
    ap (λ (all : List Entry). list_all (λ e. is_declared all e.0) fs) (sym (append_assoc es (f ∷ []) (fs ++ ds))) ∙ all_declared (es ++ f ∷ []) fs ds in
    rw (declared_here es f (fs ++ ds)) rest

pub declarations_append : (ls ms : List (List Word)) → declarations (ls ++ ms) ≡ declarations ls ++ declarations ms
unfolding declarations
declarations_append [] ms = refl
declarations_append (l ∷ ls) ms = ap (λ (es : List Entry). declared_in l ++ es) (declarations_append ls ms) ∙ sym (append_assoc (declared_in l) (declarations ls) (declarations ms))

pub entries_append : (ls ms : List (List Word)) → entries_of (ls ++ ms) ≡ entries_of ls ++ declarations ms
entries_append ls ms = ap (λ (es : List Entry). map builtin_entry builtin_names ++ es) (declarations_append ls ms) ∙ sym (append_assoc (map builtin_entry builtin_names) (declarations ls) (declarations ms))

declares : (above : List (List Word)) (l : List Word) (below : List (List Word)) → list_all (λ e. is_declared (entries_of (above ++ l ∷ below)) e.0) (declared_in l) ≡ true
unfolding declarations
declares above l below = ap (λ (es : List Entry). list_all (λ e. is_declared es e.0) (declared_in l)) (entries_append above (l ∷ below)) ∙ all_declared (entries_of above) (declared_in l) (declarations below)

-- ---- the lines

some_head : (l : List Word) → (l ≡ [] → ⊥) → form_fault l ≡ None → head_of_line l ≡ None → ⊥
some_head [] some form none = some refl
some_head (w ∷ ws) some form none =
    let wrong : fault_after (head_at (text_of w)) ws ≡ Some 6 = ap (λ (h : Option Head). fault_after h ws) none in
    absurd cc

faultless_line : (whole : List (List Word)) (a : Above) (l : List Word) (below : List (List Word)) → a.lines ++ l ∷ below ≡ whole → length (entries_of whole) ≤ 65536
    → name_misfits whole a l ≡ [] → (l ≡ [] → ⊥) → form_fault l ≡ None → AreOfLine l → IsFaultless (entries_of whole) (locals_below a.locals l) l
faultless_line whole a l below is few none some form of_line =
    let k = keeps whole a l none in
    let declared : list_all (λ e. is_declared (entries_of whole) e.0) (declared_in l) ≡ true =
    ap (λ (ls : List (List Word)). list_all (λ e. is_declared (entries_of ls) e.0) (declared_in l)) (sym is) ∙ declares a.lines l below in
    record { some = some_head l some form; form = form; of_line = of_line; declares = declared; declared = k.declared; suited = k.suited; range = k.range; few = few; few_locals = k.few }

lines_are_faultless : (whole : List (List Word)) (a : Above) (ls : List (List Word)) → a.lines ++ ls ≡ whole → length (entries_of whole) ≤ 65536 → AreWellNamed whole a ls → HaveGoodWords ls
    → AreFaultless (entries_of whole) a.locals ls
lines_are_faultless whole a [] is few named good = tt
lines_are_faultless whole a (l ∷ ls) is few named good = (
  faultless_line whole a l ls is few named.0 good.0.0 good.0.1 good.0.2,
  lines_are_faultless whole (above_next a l) ls (append_assoc a.lines (l ∷ []) ls ∙ is) few named.1 good.1,
)

-- ---- the text

pub names_are_few : (end : ℕ) (lines : List Line) → own_faults end lines ≡ [] → length (entries_of (words_in lines)) ≤ 1010
names_are_few end lines none = EntryLaws.names_are_few 0 lines (short_names 0 lines (omega arith) (own_renumbered end 0 lines lines refl none))

pub names_are_faultless : (end : ℕ) (lines : List Line) → HaveGoodWords (words_in lines) → own_faults end lines ≡ [] → AreFaultless (entries_of (words_in lines)) [] (words_in lines)
names_are_faultless end lines good none =
    let few = names_are_few end lines none in
    lines_are_faultless (words_in lines) nothing_above (words_in lines) refl (omega (arith, few)) (own_parts end lines none).0 good

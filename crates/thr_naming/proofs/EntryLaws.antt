-- Where no line has a fault, each declared name is new, and there are few.
use Rattle.std.proofs.Common.{◌≡◌, ℕ, ◌+◌, ◌≤◌, Bool, true, false, List, [], ◌∷◌, ◌++◌, length, map, Option, Some, None, refl, sym, ap, ◌∙◌, append_assoc, length-append, arith}
use Rattle.std.specs.Prelude.{◌||◌, ◌&&◌, nat_lt, nat_le, if◌then◌else◌}
use Rattle.std.specs.List.{list_any}
use Rattle.std.proofs.lemmas.List.{append-nil}
use Rattle.std.proofs.lemmas.Bool.Decides.{nat_tests}
use Rattle.thr_values.specs.Exceptions.{builtin_names}
use Rattle.thr_text.specs.declared.word.Word.{Word}
use Rattle.thr_text.specs.declared.word.Word.TheVariants.{Num, Name, Mark}
use Rattle.thr_text.specs.declared.head.Head.{Head}
use Rattle.thr_text.specs.declared.head.Slot.TheVariants.{Number, Fixed, Declared, Parameter, Local, Object, ObjectOr, Variable, Receiver, Exception, Expression}
use Rattle.thr_text.specs.declared.object.Object as kinds
use Rattle.thr_text.specs.Faults.{when}
use Rattle.thr_text.specs.Slots.{head_of_line}
use Rattle.thr_text.specs.Blocks.{Line, at_line}
use Rattle.thr_text.specs.Tables.{Entry, Placed, placed_in, placed_after, rest_of, kind_in, is_declared, entries_of, builtin_entry, declared_in_all, declarations, declared_in}
use Rattle.thr_text.specs.NameFaults.{is_again_word, is_second, is_out_of_range, is_undeclared, is_misused, locals_below, Above, above_next, nothing_above, passes_limit, name_misfits, lines_faults, with_last_line, words_in, own_faults, name_faults}
use Rattle.thr_naming.specs.Judging.{noted, table_of}
use Rattle.thr_naming.specs.Placing.{entry_by}
use Rattle.thr_naming.proofs.TableLaws.{noted_append, table_more}
use Rattle.thr_naming.proofs.LineLaws.{declared_law}
use Rattle.thr_naming.proofs.FaultLaws.{declarations_more}

or_left : (a b : Bool) → (a || b) ≡ false → a ≡ false
or_left true b h = h
or_left false b h = refl

or_right : (a b : Bool) → (a || b) ≡ false → b ≡ false
or_right true b h = absurd cc
or_right false b h = h

pub nil_left : {X : Type 0} (xs ys : List X) → xs ++ ys ≡ [] → xs ≡ []
nil_left [] ys h = refl
nil_left (x ∷ xs) ys h = absurd cc

pub nil_right : {X : Type 0} (xs ys : List X) → xs ++ ys ≡ [] → ys ≡ []
nil_right [] ys h = h
nil_right (x ∷ xs) ys h = absurd cc

none_of : (a u m b : Bool) → when a 15 ++ (when u 16 ++ (when m 17 ++ when b 18)) ≡ [] → (a ≡ false) × (b ≡ false)
none_of true u m b h = absurd cc
none_of false true m b h = absurd cc
none_of false false true b h = absurd cc
none_of false false false true h = absurd cc
none_of false false false false h = (refl, refl)

pub none_at : (n : ℕ) (ns : List ℕ) → at_line n ns ≡ [] → ns ≡ []
none_at n [] h = refl
none_at n (k ∷ ks) h = absurd cc

-- ---- a line without a fault

record Clean (a : Above) (words : List Word) (whole : List (List Word)) : Type 0 where
  new : list_any (λ x. is_again_word x.0 x.1 (entries_of whole) (entries_of a.lines) a.locals) (placed_in words) ≡ false
  within : passes_limit a words ≡ false

clean : (whole : List (List Word)) (a : Above) (words : List Word) → name_misfits whole a words ≡ [] → Clean a words whole
unfolding name_misfits
clean whole a words h =
    let again = list_any (λ x. is_again_word x.0 x.1 (entries_of whole) (entries_of a.lines) a.locals) (placed_in words) in
    let undeclared = list_any (is_undeclared (entries_of whole) (locals_below a.locals words)) (placed_in words) in
    let misused = list_any (is_misused (entries_of whole) (locals_below a.locals words)) (placed_in words) in
    let none = none_of (again || is_second a.lines words) undeclared misused (passes_limit a words) h in
    record { new = or_left again (is_second a.lines words) none.0; within = none.1 }

-- ---- its entry

pub new_entry : (whole above : List Entry) (locals : List (List ℕ)) (ps : List Placed) (d : Entry) (ds : List Entry)
    → list_any (λ x. is_again_word x.0 x.1 whole above locals) ps ≡ false → declared_in_all ps ≡ d ∷ ds → is_declared above d.0 ≡ false
new_entry whole above locals [] d ds h e = absurd cc
new_entry whole above locals ((Declared kind, Name text) ∷ ps) d ds h e =
    let same : text ≡ d.0 = cc in
    ap (λ (n : List ℕ). is_declared above n) (sym same) ∙ or_left _ _ h
new_entry whole above locals ((Declared kind, Num n) ∷ ps) d ds h e = new_entry whole above locals ps d ds h e
new_entry whole above locals ((Declared kind, Mark text) ∷ ps) d ds h e = new_entry whole above locals ps d ds h e
new_entry whole above locals ((Number, w) ∷ ps) d ds h e = new_entry whole above locals ps d ds (or_right _ _ h) e
new_entry whole above locals ((Fixed c, w) ∷ ps) d ds h e = new_entry whole above locals ps d ds (or_right _ _ h) e
new_entry whole above locals ((Parameter, w) ∷ ps) d ds h e = new_entry whole above locals ps d ds (or_right _ _ h) e
new_entry whole above locals ((Local, w) ∷ ps) d ds h e = new_entry whole above locals ps d ds (or_right _ _ h) e
new_entry whole above locals ((Object kind, w) ∷ ps) d ds h e = new_entry whole above locals ps d ds (or_right _ _ h) e
new_entry whole above locals ((ObjectOr kind, w) ∷ ps) d ds h e = new_entry whole above locals ps d ds (or_right _ _ h) e
new_entry whole above locals ((Variable, w) ∷ ps) d ds h e = new_entry whole above locals ps d ds (or_right _ _ h) e
new_entry whole above locals ((Receiver, w) ∷ ps) d ds h e = new_entry whole above locals ps d ds (or_right _ _ h) e
new_entry whole above locals ((Exception, w) ∷ ps) d ds h e = new_entry whole above locals ps d ds (or_right _ _ h) e
new_entry whole above locals ((Expression, w) ∷ ps) d ds h e = new_entry whole above locals ps d ds (or_right _ _ h) e

few_by : (o : Option kinds.Object) (names : List (List ℕ)) → length (entry_by o names) ≤ 1
few_by None names = omega arith
few_by (Some kind) [] = omega arith
few_by (Some kind) (n ∷ ns) = omega arith

one_by : (words : List Word) (o : Option Head) → head_of_line words ≡ o → length (declared_in words) ≤ 1
one_by words None is =
    let none : declared_in words ≡ [] = ap (λ (h : Option Head). declared_in_all (placed_after h (rest_of words))) is in
    rw none (omega arith)
one_by words (Some h) is = rw (declared_law words h is) (few_by _ _)

pub one_entry : (words : List Word) → length (declared_in words) ≤ 1
one_entry words = one_by words (head_of_line words) refl

noted_new : (table es : List Entry) → length es ≤ 1 → ((d : Entry) (ds : List Entry) → es ≡ d ∷ ds → is_declared table d.0 ≡ false) → noted table es ≡ table ++ es
unfolding noted
noted_new table [] le new = sym (append-nil table)
noted_new table (d ∷ []) le new = rw (new d [] refl) refl
noted_new table (d ∷ e ∷ ds) le new = absurd (omega (arith, le))

line_is_new : (whole : List (List Word)) (a : Above) (words : List Word) → Clean a words whole → noted (entries_of a.lines) (declared_in words) ≡ entries_of a.lines ++ declared_in words
line_is_new whole a words h = noted_new (entries_of a.lines) (declared_in words) (one_entry words) (λ d ds e. new_entry (entries_of whole) (entries_of a.lines) a.locals (placed_in words) d ds h.new e)

entries_more : (ls : List (List Word)) (l : List Word) → entries_of ls ++ declared_in l ≡ entries_of (ls ++ l ∷ [])
entries_more ls l = append_assoc (map builtin_entry builtin_names) (declarations ls) (declared_in l) ∙ ap (λ (es : List Entry). map builtin_entry builtin_names ++ es) (sym (declarations_more ls l))

lines_are_new : (whole : List (List Word)) (a : Above) (ls : List Line) → lines_faults whole a ls ≡ [] → noted (entries_of a.lines) (declarations (words_in ls)) ≡ entries_of a.lines ++ declarations (words_in ls)
unfolding lines_faults declarations noted
lines_are_new whole a [] h = sym (append-nil (entries_of a.lines))
lines_are_new whole a (l ∷ ls) h =
    let c = clean whole a l.1 (none_at l.0 (name_misfits whole a l.1) (nil_left _ (lines_faults whole (above_next a l.1) ls) h)) in
    let more = entries_more a.lines l.1 in
    let rest = lines_are_new whole (above_next a l.1) ls (nil_right (at_line l.0 (name_misfits whole a l.1)) _ h) in
    noted_append (entries_of a.lines) (declared_in l.1) (declarations (words_in ls))
    ∙ ap (λ (es : List Entry). noted es (declarations (words_in ls))) (line_is_new whole a l.1 c ∙ more)
    ∙ rest
    ∙ ap (λ (es : List Entry). es ++ declarations (words_in ls)) (sym more)
    ∙ append_assoc (entries_of a.lines) (declared_in l.1) (declarations (words_in ls))

-- ---- how many they are

few_more : (n k : ℕ) → k ≤ 1 → n ≤ 1000 → (nat_lt 0 k && nat_le 1000 n) ≡ false → n + k ≤ 1000
few_more n k le few h = grind (arith, nat_tests)

few_lines : (whole : List (List Word)) (a : Above) (ls : List Line) → lines_faults whole a ls ≡ [] → length (declarations a.lines) ≤ 1000 → length (declarations a.lines) + length (declarations (words_in ls)) ≤ 1000
unfolding lines_faults declarations
few_lines whole a [] h few = omega (arith, few)
few_lines whole a (l ∷ ls) h few =
    let c = clean whole a l.1 (none_at l.0 (name_misfits whole a l.1) (nil_left _ (lines_faults whole (above_next a l.1) ls) h)) in
    let full : (nat_lt 0 (length (declared_in l.1)) && nat_le 1000 (length (declarations a.lines))) ≡ false = or_left _ _ (or_right (is_out_of_range (head_of_line l.1) (rest_of l.1)) _ c.within) in
    let here : length (declarations a.lines) + length (declared_in l.1) ≤ 1000 = few_more (length (declarations a.lines)) (length (declared_in l.1)) (one_entry l.1) few full in
    let more : length (declarations (a.lines ++ l.1 ∷ [])) ≡ length (declarations a.lines) + length (declared_in l.1) = ap length (declarations_more a.lines l.1) ∙ length-append (declarations a.lines) (declared_in l.1) in
    let rest : length (declarations (a.lines ++ l.1 ∷ [])) + length (declarations (words_in ls)) ≤ 1000 = few_lines whole (above_next a l.1) ls (nil_right (at_line l.0 (name_misfits whole a l.1)) _ h) (omega (arith, here, more)) in
    omega (arith, rest, more, length-append (declared_in l.1) (declarations (words_in ls)))

-- ---- the whole text

pub last_is_there : (fs : List (ℕ × ℕ)) → with_last_line fs ≡ [] → ⊥
unfolding with_last_line
last_is_there [] h = absurd cc
last_is_there (f ∷ fs) h = by _ h
  where
    by : (b : Bool) → (if b then f ∷ with_last_line fs else (20001, 18) ∷ f ∷ fs) ≡ [] → ⊥
    by true h = absurd cc
    by false h = absurd cc

own_by : (b : Bool) (fs : List (ℕ × ℕ)) → (if b then fs else with_last_line fs) ≡ [] → fs ≡ []
own_by true fs h = h
own_by false fs h = absurd (last_is_there fs h)

own_none : (end : ℕ) (ls : List Line) → name_faults end ls ≡ [] → lines_faults (words_in ls) nothing_above ls ≡ []
unfolding name_faults
own_none end ls h = nil_left _ _ (own_by (nat_le end 20001) (own_faults end ls) h)

exceptions_are_new : table_of [] ≡ entries_of []
unfolding noted kind_in declarations
exceptions_are_new = refl

pub names_are_new : (end : ℕ) (ls : List Line) → name_faults end ls ≡ [] → table_of (words_in ls) ≡ entries_of (words_in ls)
unfolding declarations
names_are_new end ls h =
    sym (table_more (declarations (words_in ls)))
    ∙ ap (λ (es : List Entry). noted es (declarations (words_in ls))) exceptions_are_new
    ∙ lines_are_new (words_in ls) nothing_above ls (own_none end ls h)
    ∙ append_assoc (map builtin_entry builtin_names) [] (declarations (words_in ls))

pub names_are_few : (end : ℕ) (ls : List Line) → name_faults end ls ≡ [] → length (entries_of (words_in ls)) ≤ 1010
unfolding declarations
names_are_few end ls h =
    let few = few_lines (words_in ls) nothing_above ls (own_none end ls h) (omega arith) in
    omega (arith, few, length-append (map builtin_entry builtin_names) (declarations (words_in ls)))

-- The first lines of a text, and what is left of it.
use Rattle.std.proofs.Common.{◌≡◌, ℕ, suc, ◌+◌, ◌-◌, ◌<◌, ◌≤◌, Bool, true, false, List, [], ◌∷◌, ◌++◌, length, take, drop, get_or, Option, Some, None, refl, sym, ap, ◌∙◌, length-append, append_assoc, append-nil, arith}
use Rattle.std.specs.Prelude.{position, ◌==◌, nat_lt, if◌then◌else◌}
use Rattle.std.specs.List.{slice_split, onto_first, position_or_len, flat_map}
use Rattle.std.proofs.lemmas.Bool.Decides.{nat_tests}
use Rattle.std.proofs.lemmas.List.{take_all, length-drop, take_more, drop_more}
use Rattle.std.proofs.lemmas.List.Concat.{flat_map-append}
use Rattle.std.proofs.lemmas.List.Splits.{slice_split-cons_no, slice_split_first, length-slice_split}
use Rattle.std.proofs.lemmas.List.Sums.{split_at_first, passes_at_first}
use Rattle.std.proofs.lemmas.Option.{cond_some}
use Rattle.thr_journals.specs.Faults.{is_end, parts_of, with_end, script_text}

is_less : (a b : ℕ) → nat_lt a b ≡ true → a < b
is_less a b e = grind (arith, nat_tests)

-- ---- the first line

left_over : (text : List ℕ) (k : ℕ) → take (length text - k) (drop k text) ≡ drop k text
left_over text k = take_all (length text - k) (drop k text) (omega (arith, length-drop k text))

pub cut_first : (text : List ℕ) (at : ℕ) → position is_end text ≡ Some at → parts_of text ≡ take at text ∷ parts_of (take (length text - (at + 1)) (drop (at + 1) text))
cut_first text at e =
    let s = cond_some (nat_lt (position_or_len is_end text) (length text)) (position_or_len is_end text) at e in
    let split = slice_split_first is_end text 0 (is_less (position_or_len is_end text) (length text) s.0) in
    split ∙ ap (λ (k : ℕ). take k text ∷ parts_of (drop (k + 1) text)) s.1 ∙ ap (λ (rest : List ℕ). take at text ∷ parts_of rest) (sym (left_over text (at + 1)))

an_end : (b : ℕ) → is_end b ≡ true → b ≡ 10
an_end b e = grind (arith, nat_tests)

pub cut_whole : (text : List ℕ) (at : ℕ) → position is_end text ≡ Some at → text ≡ take at text ++ 10 ∷ take (length text - (at + 1)) (drop (at + 1) text)
cut_whole text at e =
    let s = cond_some (nat_lt (position_or_len is_end text) (length text)) (position_or_len is_end text) at e in
    let lt = is_less (position_or_len is_end text) (length text) s.0 in
    let p = position_or_len is_end text in
    split_at_first is_end text 0 lt
    ∙ ap (λ (b : ℕ). take p text ++ b ∷ drop (p + 1) text) (an_end (get_or text p 0) (passes_at_first is_end text 0 lt))
    ∙ ap (λ (k : ℕ). take k text ++ 10 ∷ drop (k + 1) text) s.1
    ∙ ap (λ (rest : List ℕ). take at text ++ 10 ∷ rest) (sym (left_over text (at + 1)))

uncut_by : (p : ℕ → Bool) (x : ℕ) (xs : List ℕ) (b : Bool) → p x ≡ b → (length xs ≤ position_or_len p xs → slice_split p xs ≡ xs ∷ []) → length (x ∷ xs) ≤ position_or_len p (x ∷ xs)
    → slice_split p (x ∷ xs) ≡ (x ∷ xs) ∷ []
uncut_by p x xs true e more h = absurd (omega (arith, rw e at h))
uncut_by p x xs false e more h = slice_split-cons_no p x xs e ∙ ap (onto_first x) (more (omega (arith, rw e at h)))

uncut_past : (p : ℕ → Bool) (xs : List ℕ) → length xs ≤ position_or_len p xs → slice_split p xs ≡ xs ∷ []
uncut_past p [] h = refl
uncut_past p (x ∷ xs) h = uncut_by p x xs (p x) refl (uncut_past p xs) h

not_less : (b : Bool) (n : ℕ) → (if b then Some n else None) ≡ None → b ≡ false
not_less true n e = absurd cc
not_less false n e = refl

at_least : (a b : ℕ) → nat_lt a b ≡ false → b ≤ a
at_least a b e = grind (arith, nat_tests)

pub uncut : (text : List ℕ) → position is_end text ≡ None → parts_of text ≡ text ∷ []
uncut text e = uncut_past is_end text (at_least (position_or_len is_end text) (length text) (not_less (nat_lt (position_or_len is_end text) (length text)) (position_or_len is_end text) e))

at_least_one : (xs : List (List ℕ)) → 1 ≤ length xs → (l : List ℕ) × (parts : List (List ℕ)) × (xs ≡ l ∷ parts)
at_least_one [] le = absurd (omega (arith, le))
at_least_one (x ∷ xs) le = (x, xs, refl)

-- A text has one part at least.
pub some_part : (text : List ℕ) → (l : List ℕ) × (parts : List (List ℕ)) × (parts_of text ≡ l ∷ parts)
some_part text = at_least_one (parts_of text) (let n = length-slice_split is_end text in omega (arith, n))

-- ---- several lines

left_in : (parts more : List (List ℕ)) (l : List ℕ) (done : ℕ) → drop done parts ≡ l ∷ more → done < length parts
left_in parts more l done e = let n : length (drop done parts) ≡ length (l ∷ more) = ap length e in omega (arith, n, length-drop done parts)

first_and_rest : {A : Type 0} (x y : A) (xs ys : List A) → x ∷ xs ≡ y ∷ ys → (x ≡ y) × (xs ≡ ys)
first_and_rest x y xs ys e = (cc, cc)

pub one_past : (parts more : List (List ℕ)) (l : List ℕ) (done : ℕ) → drop done parts ≡ l ∷ more → (drop (done + 1) parts ≡ more) × (take (done + 1) parts ≡ take done parts ++ l ∷ [])
one_past parts more l done e =
    let lt = left_in parts more l done e in
    let same = first_and_rest (get_or parts done []) l (drop (done + 1) parts) more (sym (drop_more parts done [] lt) ∙ e) in
    (same.1, take_more parts done [] lt ∙ ap (λ (x : List ℕ). take done parts ++ x ∷ []) same.0)

pub one_text : (parts more : List (List ℕ)) (l text rest whole : List ℕ) (done : ℕ) → drop done parts ≡ l ∷ more → whole ≡ script_text done parts ++ rest → rest ≡ l ++ 10 ∷ text
    → whole ≡ script_text (done + 1) parts ++ text
one_text parts more l text rest whole done e so_far cut =
    so_far ∙ ap (λ (r : List ℕ). script_text done parts ++ r) (cut ∙ sym (append_assoc l (10 ∷ []) text))
    ∙ sym (append_assoc (script_text done parts) (with_end l) text)
    ∙ ap (λ (r : List ℕ). r ++ text) (sym (flat_map-append with_end (take done parts) (l ∷ []) ∙ ap (λ (r : List ℕ). script_text done parts ++ r) (append-nil (with_end l))))
    ∙ ap (λ (ls : List (List ℕ)). flat_map with_end ls ++ text) (sym (one_past parts more l done e).1)

pub too_few : (parts : List (List ℕ)) (rest : List ℕ) (done count : ℕ) → drop done parts ≡ rest ∷ [] → done < count → length parts ≤ count
too_few parts rest done count e lt = let n : length (drop done parts) ≡ 1 = ap length e in omega (arith, n, length-drop done parts, lt)

pub shorter : (l text rest : List ℕ) → rest ≡ l ++ 10 ∷ text → length text + 1 ≤ length rest
shorter l text rest cut = let n : length rest ≡ length (l ++ 10 ∷ text) = ap length cut in omega (arith, n, length-append l (10 ∷ text))

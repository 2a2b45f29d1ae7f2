-- The four arguments of a call, one after the other.
use Rattle.std.proofs.Common.{◌≡◌, ℕ, zero, suc, ◌+◌, ◌-◌, ◌<◌, ◌≤◌, Bool, true, false, cond, List, [], ◌∷◌, ◌++◌, length, take, drop, slice_index_or, Option, Some, None, refl, sym, ap, subst, ◌∙◌, length-append, arith}
use Rattle.std.specs.Prelude.{replicate}
use Rattle.std.specs.List.{filter}
use Rattle.std.specs.Option.{option_map, option_and_then}
use Rattle.thr_values.specs.declared.call.Arg.{Arg}
use Rattle.thr_values.specs.declared.call.Arg.TheVariants as arg
use Rattle.thr_text.specs.declared.head.Slot.{Slot}
use Rattle.thr_journals.specs.Fields.{Names, word_as}
use Rattle.thr_journals.specs.Lines.{argument_in, arguments, takes_argument, four}
use Rattle.thr_journal_lines.specs.Arguments.{filled_up, first_place, in_front}

abbrev Words : Type 0
Words = List (List ℕ)

abbrev Read : Type 0
Read = Option (List Arg × Words)

-- ---- as many arguments as places

-- No more arguments are read than this.
abbrev UpTo : ℕ → Read → Type 0
UpTo n o = (x : List Arg × Words) → o ≡ Some x → length x.0 ≤ n

with_one : (a : Arg) (n : ℕ) (o : Read) → UpTo n o → UpTo (suc n) (option_map (λ y. (a ∷ y.0, y.1)) o)
with_one a n None h x e = absurd cc
with_one a n (Some y) h x e =
    let same : (let z : List Arg × Words = (a ∷ y.0, y.1) in z) ≡ x = cc in
    let le = h y refl in
    subst (λ (z : List Arg × Words). length z.0 ≤ suc n) same (omega (arith, le))

after_first : (o : Option (Arg × Words)) (n : ℕ) (f : Arg × Words → Read) → ((a : Arg × Words) → UpTo n (f a)) → UpTo n (option_and_then f o)
after_first None n f h x e = absurd cc
after_first (Some a) n f h x e = h a x e

few_read : (names : Names) (places : List Slot) (ws : Words) → UpTo (length places) (arguments names places ws)
unfolding arguments
few_read names [] ws x e = let same : (let z : List Arg × Words = ([], ws) in z) ≡ x = cc in subst (λ (z : List Arg × Words). length z.0 ≤ 0) same (omega arith)
few_read names (p ∷ places) ws x e =
    after_first (word_as (argument_in names p) ws) (suc (length places)) (λ (a : Arg × Words). option_map (λ y. (a.0 ∷ y.0, y.1)) (arguments names places a.1))
    (λ a. with_one a.0 (length places) (arguments names places a.1) (few_read names places a.1)) x e

-- ---- four of them

three_of : (xs : List Arg) (n : ℕ) → length xs + n ≡ 3 → take 3 (xs ++ replicate (suc n) arg.Nothing) ≡ xs ++ replicate n arg.Nothing
three_of [] n e = let is : n ≡ 3 = omega (arith, e) in rw is refl
three_of (a ∷ []) n e = let is : n ≡ 2 = omega (arith, e) in rw is refl
three_of (a ∷ b ∷ []) n e = let is : n ≡ 1 = omega (arith, e) in rw is refl
three_of (a ∷ b ∷ c ∷ []) n e = let is : n ≡ 0 = omega (arith, e) in rw is refl
three_of (a ∷ b ∷ c ∷ d ∷ xs) n e = absurd (omega (arith, e))

four_more : (a : Arg) (xs : List Arg) → length xs ≤ 3 → four (a ∷ xs) ≡ a ∷ take 3 (four xs)
four_more a xs le =
    let n : ℕ = 3 - length xs in
    let less : 4 - length (a ∷ xs) ≡ n = omega (arith, le) in
    let more : 4 - length xs ≡ suc n = omega (arith, le) in
    ap (λ (m : ℕ). a ∷ (xs ++ replicate m arg.Nothing)) less ∙ ap (λ (ys : List Arg). a ∷ ys) (sym (three_of xs n (omega (arith, le))))
    ∙ ap (λ (m : ℕ). a ∷ take 3 (xs ++ replicate m arg.Nothing)) (sym more)

at_three : (xs : List Arg) → length xs ≡ 4 → take 3 xs ≡ slice_index_or xs 0 arg.Nothing ∷ slice_index_or xs 1 arg.Nothing ∷ slice_index_or xs 2 arg.Nothing ∷ []
at_three [] e = absurd (omega (arith, e))
at_three (a ∷ []) e = absurd (omega (arith, e))
at_three (a ∷ b ∷ []) e = absurd (omega (arith, e))
at_three (a ∷ b ∷ c ∷ xs) e = refl

length_nothings : (n : ℕ) → length (replicate n arg.Nothing) ≡ n
length_nothings zero = refl
length_nothings (suc n) = ap suc (length_nothings n)

length_four : (xs : List Arg) → length xs ≤ 3 → length (four xs) ≡ 4
length_four xs le = let n = length-append xs (replicate (4 - length xs) arg.Nothing) in let m = length_nothings (4 - length xs) in omega (arith, n, m, le)

first_and : (a : Arg) (xs : List Arg) → length xs ≤ 3 → four (a ∷ xs) ≡ a ∷ slice_index_or (four xs) 0 arg.Nothing ∷ slice_index_or (four xs) 1 arg.Nothing ∷ slice_index_or (four xs) 2 arg.Nothing ∷ []
first_and a xs le = four_more a xs le ∙ ap (λ (ys : List Arg). a ∷ ys) (at_three (four xs) (length_four xs le))

-- ---- one more

filled_one : (first : Arg) (more : List Arg) (left : Words) (o : Read) → UpTo 3 o → filled_up o ≡ Some (more, left) → filled_up (option_map (λ y. (first ∷ y.0, y.1)) o) ≡ Some (in_front first more, left)
filled_one first more left None few e = absurd cc
filled_one first more left (Some x) few e =
    let same : (let z : List Arg × Words = (four x.0, x.1) in z) ≡ (more, left) = cc in
    ap (λ (as' : List Arg). Some (let z : List Arg × Words = (as', x.1) in z)) (first_and first x.0 (few x refl))
    ∙ ap (λ (y : List Arg × Words). Some (let z : List Arg × Words = (in_front first y.0, y.1) in z)) same

filled_none : (first : Arg) (o : Read) → filled_up o ≡ None → filled_up (option_map (λ y. (first ∷ y.0, y.1)) o) ≡ None
filled_none first None e = refl
filled_none first (Some x) e = absurd cc

up_to : (m n : ℕ) (o : Read) → m ≤ n → UpTo m o → UpTo n o
up_to m n o le h x e = let few = h x e in omega (arith, few, le)

few_left : (places : List Slot) → length (filter takes_argument places) ≤ length places
few_left [] = omega arith
few_left (p ∷ places) = by (takes_argument p) (few_left places)
  where
    by : (b : Bool) → length (filter takes_argument places) ≤ length places → length (cond b (p ∷ filter takes_argument places) (filter takes_argument places)) ≤ length (p ∷ places)
    by true le = omega (arith, le)
    by false le = omega (arith, le)

read_first : (names : Names) (p : Slot) (places : List Slot) (ws : Words) (o : Option (Arg × Words)) → word_as (argument_in names p) ws ≡ o
    → arguments names (p ∷ places) ws ≡ option_and_then (λ x. option_map (λ y. (x.0 ∷ y.0, y.1)) (arguments names places x.1)) o
unfolding arguments
read_first names p places ws o e = ap (option_and_then (λ x. option_map (λ y. (x.0 ∷ y.0, y.1)) (arguments names places x.1))) e

-- ---- the places of a call, one after the other

pub no_place : (names : Names) (places : List Slot) (ws : Words) → first_place places ≡ None → filled_up (arguments names (filter takes_argument places) ws) ≡ Some (replicate 4 arg.Nothing, ws)
unfolding arguments
no_place names [] ws e = refl
no_place names (p ∷ places) ws e = absurd cc

pub passed_over : (places : List Slot) (p : Slot) → first_place places ≡ Some p → takes_argument p ≡ false → filter takes_argument places ≡ filter takes_argument (drop 1 places)
passed_over [] p e other = absurd cc
passed_over (q ∷ places) p e other = let same : q ≡ p = cc in let not_taken : takes_argument q ≡ false = ap takes_argument same ∙ other in rw not_taken refl

pub fewer : (places : List Slot) (p : Slot) → first_place places ≡ Some p → length (drop 1 places) < length places
fewer [] p e = absurd cc
fewer (q ∷ places) p e = omega arith

taken_first : (places : List Slot) (p : Slot) → first_place places ≡ Some p → takes_argument p ≡ true → filter takes_argument places ≡ p ∷ filter takes_argument (drop 1 places)
taken_first [] p e here = absurd cc
taken_first (q ∷ places) p e here = let same : q ≡ p = cc in let taken : takes_argument q ≡ true = ap takes_argument same ∙ here in rw taken (ap (λ (x : Slot). x ∷ filter takes_argument places) same)

pub no_argument : (names : Names) (places : List Slot) (p : Slot) (ws : Words) → first_place places ≡ Some p → takes_argument p ≡ true → word_as (argument_in names p) ws ≡ None
    → filled_up (arguments names (filter takes_argument places) ws) ≡ None
no_argument names places p ws e here none =
    ap (λ (ps : List Slot). filled_up (arguments names ps ws)) (taken_first places p e here) ∙ ap filled_up (read_first names p (filter takes_argument (drop 1 places)) ws None none)

pub no_others : (names : Names) (places : List Slot) (p : Slot) (ws left : Words) (first : Arg) → first_place places ≡ Some p → takes_argument p ≡ true → word_as (argument_in names p) ws ≡ Some (first, left)
    → filled_up (arguments names (filter takes_argument (drop 1 places)) left) ≡ None → filled_up (arguments names (filter takes_argument places) ws) ≡ None
no_others names places p ws left first e here one none =
    ap (λ (ps : List Slot). filled_up (arguments names ps ws)) (taken_first places p e here) ∙ ap filled_up (read_first names p (filter takes_argument (drop 1 places)) ws (Some (first, left)) one)
    ∙ filled_none first (arguments names (filter takes_argument (drop 1 places)) left) none

pub one_argument : (names : Names) (places : List Slot) (p : Slot) (ws behind left : Words) (first : Arg) (others : List Arg) → length places ≤ 4 → first_place places ≡ Some p → takes_argument p ≡ true
    → word_as (argument_in names p) ws ≡ Some (first, behind) → filled_up (arguments names (filter takes_argument (drop 1 places)) behind) ≡ Some (others, left)
    → filled_up (arguments names (filter takes_argument places) ws) ≡ Some (in_front first others, left)
one_argument names places p ws behind left first others few e here one rest =
    let less = fewer places p e in
    let ps = filter takes_argument (drop 1 places) in
    let three : length ps ≤ 3 = (let n = few_left (drop 1 places) in omega (arith, n, less, few)) in
    ap (λ (qs : List Slot). filled_up (arguments names qs ws)) (taken_first places p e here) ∙ ap filled_up (read_first names p ps ws (Some (first, behind)) one)
    ∙ filled_one first others left (arguments names ps behind) (up_to (length ps) 3 (arguments names ps behind) three (few_read names ps behind)) rest

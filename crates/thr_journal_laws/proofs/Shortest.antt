-- Numbers in their shortest form are what is printed of them.
use Rattle.std.proofs.Common.{◌≡◌, ℕ, zero, suc, ◌<◌, ◌≤◌, ◌^◌, Bool, true, false, cond, List, [], ◌∷◌, length, get_or, drop, fold, pos, negsuc, refl, sym, ap, subst, ◌∙◌, Option, Some, None, arith, rules}
use Rattle.std.specs.Prelude.{slice_index, ℤ, neg_ℤ, ◌==◌, ◌&&◌, ◌||◌, not, nat_le, if◌then◌else◌}
use Rattle.std.specs.List.{list_all}
use Rattle.std.specs.Option.{option_map}
use Rattle.std.specs.Fmt.{decimal, signed_decimal}
use Rattle.std.specs.Char.{is_ascii_digit}
use Rattle.std.proofs.lemmas.Bool.Decides.{nat_tests}
use Rattle.std.proofs.lemmas.Str.Parse.{IsNumeralModel, numerals_by_fold}
use Rattle.std.proofs.lemmas.Fmt.{digits_decimal, digits_value-decimal, decimal_nonempty, decimal_digit, first_decimal, decimal-digits_value}
use Rattle.thr_text.specs.Lexing.{is_something, has_minus, and_digit}
use Rattle.thr_journals.specs.Numbers.{is_shortest, number_of, number_in, value_in}
use Rattle.thr_journal_laws.specs.Numbers.{IsBetween, HasSixtyFourBits}

pub and_both : (a b : Bool) → (a && b) ≡ true → (a ≡ true) × (b ≡ true)
and_both true b e = (refl, e)
and_both false b e = absurd cc

abbrev pub AreDigits : List ℕ → Type 0
AreDigits ds = list_all is_ascii_digit ds ≡ true

pub own : IsNumeralModel AreDigits (fold and_digit 0)
own = numerals_by_fold _ (search rules) (fold and_digit) (search rules)

-- ---- the shortest form

some_length : (t : List ℕ) → is_something t ≡ true → 0 < length t
some_length [] e = absurd cc
some_length (b ∷ t) e = omega arith

one_or_no_zero : (n b : ℕ) → ((n == 1) || not (b == 48)) ≡ true → b ≡ 48 → n ≡ 1
one_or_no_zero n b e zero_first = grind (arith, nat_tests)

first_at : (t : List ℕ) → slice_index t 0 ≡ get_or t 0 0
first_at [] = refl
first_at (b ∷ t) = refl

pub shortest_printed : (text : List ℕ) → is_shortest text ≡ true → number_of text < 2 ^ 64 → decimal (number_of text) ≡ text
unfolding is_shortest number_of
shortest_printed text e small =
    let a = and_both (is_something text) (list_all is_ascii_digit text && ((length text == 1) || not (slice_index text 0 == 48))) e in
    let b = and_both (list_all is_ascii_digit text) ((length text == 1) || not (slice_index text 0 == 48)) a.1 in
    decimal-digits_value own text b.0 (some_length text a.0) (λ first. one_or_no_zero (length text) (slice_index text 0) b.1 (first_at text ∙ first)) small

something : (t : List ℕ) → 0 < length t → is_something t ≡ true
something [] h = absurd (omega arith)
something (b ∷ t) h = grind (arith, nat_tests)

no_zero_first : (n b : ℕ) → 48 < b → ((n == 1) || not (b == 48)) ≡ true
no_zero_first n b h = grind (arith, nat_tests)

first_fits : (n : ℕ) → n < 2 ^ 64 → ((length (decimal n) == 1) || not (slice_index (decimal n) 0 == 48)) ≡ true
first_fits zero small = rw (decimal_digit 0 (omega arith)) refl
first_fits (suc n) small =
    let first = first_decimal (suc n) (omega arith) small in
    no_zero_first (length (decimal (suc n))) (slice_index (decimal (suc n)) 0) (subst (λ (b : ℕ). 48 < b) (sym (first_at (decimal (suc n)))) first)

pub decimal_shortest : (n : ℕ) → n < 2 ^ 64 → is_shortest (decimal n) ≡ true
unfolding is_shortest
decimal_shortest n small = rw (something (decimal n) (decimal_nonempty n small), digits_decimal own n small, first_fits n small) refl

pub decimal_number : (n : ℕ) → n < 2 ^ 64 → number_of (decimal n) ≡ n
unfolding number_of
decimal_number n small = digits_value-decimal own n small

-- ---- in a range

if_some : (b : Bool) (m n : ℕ) → cond b (Some m) None ≡ Some n → (b ≡ true) × (m ≡ n)
if_some true m n e = (refl, cc)
if_some false m n e = absurd cc

between : (least most n : ℕ) → (nat_le least n && nat_le n most) ≡ true → IsBetween least most n
between least most n e = record { low = grind (arith, nat_tests); high = grind (arith, nat_tests) }

is_between : (least most n : ℕ) → IsBetween least most n → (nat_le least n && nat_le n most) ≡ true
is_between least most n h = let low = h.low in let high = h.high in grind (arith, nat_tests)

pub number_taken : (least most n : ℕ) (text : List ℕ) → most < 2 ^ 64 → number_in least most text ≡ Some n → (text ≡ decimal n) × IsBetween least most n
number_taken least most n text room e =
    let s = if_some (is_shortest text && (nat_le least (number_of text) && nat_le (number_of text) most)) (number_of text) n e in
    let a = and_both (is_shortest text) (nat_le least (number_of text) && nat_le (number_of text) most) s.0 in
    let range = between least most (number_of text) a.1 in
    let high = range.high in
    let small : number_of text < 2 ^ 64 = omega (arith, high, room) in
    (sym (shortest_printed text a.0 small) ∙ ap decimal s.1, subst (IsBetween least most) s.1 range)

pub number_again : (least most n : ℕ) → most < 2 ^ 64 → IsBetween least most n → number_in least most (decimal n) ≡ Some n
number_again least most n room range =
    let high = range.high in
    let small : n < 2 ^ 64 = omega (arith, high, room) in
    rw (decimal_shortest n small, decimal_number n small, is_between least most n range) refl

-- ---- values

minus_is : (text : List ℕ) → has_minus text ≡ true → text ≡ 45 ∷ drop 1 text
minus_is [] e = absurd cc
minus_is (b ∷ text) e = ap (λ (x : ℕ). x ∷ text) (is_minus b e)
  where
    is_minus : (b : ℕ) → (b == 45) ≡ true → b ≡ 45
    is_minus b e = grind (arith, nat_tests)

pub map_some : {A B : Type 0} (f : A → B) (o : Option A) (b : B) → option_map f o ≡ Some b → (a : A) × (o ≡ Some a) × (f a ≡ b)
map_some f None b e = absurd cc
map_some f (Some a) b e = (a, refl, cc)

below_zero : (n : ℕ) (text : List ℕ) → text ≡ decimal n → IsBetween 1 9223372036854775808 n → (45 ∷ text ≡ signed_decimal (neg_ℤ (pos n))) × HasSixtyFourBits (neg_ℤ (pos n))
below_zero zero text e range = absurd (let low = range.low in omega (arith, low))
below_zero (suc n) text e range = let high = range.high in (ap (λ (t : List ℕ). 45 ∷ t) e, omega (arith, high))

value_by : (b : Bool) (text : List ℕ) (z : ℤ) → has_minus text ≡ b → value_in text ≡ Some z → (text ≡ signed_decimal z) × HasSixtyFourBits z
value_by true text z minus e =
    let m = map_some (λ (n : ℕ). neg_ℤ (pos n)) (number_in 1 9223372036854775808 (drop 1 text)) z (rw minus at e) in
    let t = number_taken 1 9223372036854775808 m.0 (drop 1 text) (omega arith) m.1 in
    let s = below_zero m.0 (drop 1 text) t.0 t.1 in
    subst (λ (y : ℤ). (text ≡ signed_decimal y) × HasSixtyFourBits y) m.2 (minus_is text minus ∙ s.0, s.1)
value_by false text z minus e =
    let m = map_some pos (number_in 0 9223372036854775807 text) z (rw minus at e) in
    let t = number_taken 0 9223372036854775807 m.0 text (omega arith) m.1 in
    let high = t.1.high in
    subst (λ (y : ℤ). (text ≡ signed_decimal y) × HasSixtyFourBits y) m.2 (t.0, omega (arith, high))

pub value_taken : (text : List ℕ) (z : ℤ) → value_in text ≡ Some z → (text ≡ signed_decimal z) × HasSixtyFourBits z
value_taken text z e = value_by (has_minus text) text z refl e

no_minus : (ds : List ℕ) → AreDigits ds → has_minus ds ≡ false
no_minus [] e = refl
no_minus (d ∷ ds) e = digit_no_minus d (and_both (is_ascii_digit d) (list_all is_ascii_digit ds) e).0
  where
    digit_no_minus : (d : ℕ) → is_ascii_digit d ≡ true → (d == 45) ≡ false
    digit_no_minus d e = grind (arith, nat_tests)

pub value_again : (z : ℤ) → HasSixtyFourBits z → value_in (signed_decimal z) ≡ Some z
value_again (pos n) fits =
    let small : n < 2 ^ 64 = omega (arith, fits) in
    rw (no_minus (decimal n) (digits_decimal own n small), number_again 0 9223372036854775807 n (omega arith) (record { low = omega arith; high = omega (arith, fits) })) refl
value_again (negsuc n) fits = rw (number_again 1 9223372036854775808 (suc n) (omega arith) (record { low = omega arith; high = omega (arith, fits) })) refl

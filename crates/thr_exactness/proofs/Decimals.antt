-- Numbers are told apart by their digits, one of them as large as it likes.
use Rattle.std.proofs.Common.{◌≡◌, ℕ, ℤ, pos, negsuc, zero, suc, ◌+◌, ◌*◌, ◌/◌, ◌%◌, ◌^◌, ◌<◌, ◌≤◌, Bool, true, false, List, [], ◌∷◌, length, refl, sym, ◌∙◌, ap, zero-add, arith}
use Rattle.std.specs.Prelude.{◌==◌, ◌&&◌, nat_lt, nat_le, if◌then◌else◌}
use Rattle.std.specs.List.{list_all}
use Rattle.std.specs.Fmt.{digits, digits_onto, digit_glyph, decimal, signed_decimal}
use Rattle.std.specs.Str.Parse.{digits_value}
use Rattle.std.proofs.lemmas.Bool.{false≢true}
use Rattle.std.proofs.lemmas.Bool.Decides.{nat_tests}
use Rattle.std.proofs.lemmas.Fmt.{decimal_is_IsNumeral_wide}
use Rattle.thr_limits.proofs.DigitLaws.{digits-few}
use Rattle.thr_verdict.specs.Places.{fits_64, fits_signed}

-- ---- many digits

-- One with so many zeros.
abbrev tens : ℕ → ℕ
tens zero = 1
tens (suc k) = 10 * tens k

tens_some : (k : ℕ) → 1 ≤ tens k
tens_some zero = omega arith
tens_some (suc k) = let h : 1 ≤ tens k = tens_some k in omega arith

not_zero : (n t : ℕ) → 1 ≤ t → 10 * t ≤ n → (n / 10 == 0) ≡ true → ⊥
not_zero n t h le e = let z : n / 10 ≡ 0 = grind (arith, nat_tests) in omega (arith, z, h, le)

a_tenth : (n t : ℕ) → 10 * t ≤ n → t ≤ n / 10
a_tenth n t le = omega arith

long_by : (k n : ℕ) (acc : List ℕ) (b : Bool) → tens (suc k) ≤ n → (n / 10 == 0) ≡ b → length (digits_onto k 10 false (n / 10) (digit_glyph false (n % 10) ∷ acc)) ≡ k + suc (length acc)
    → length (if b then digit_glyph false (n % 10) ∷ acc else digits_onto k 10 false (n / 10) (digit_glyph false (n % 10) ∷ acc)) ≡ suc k + length acc
long_by k n acc true le e more = absurd (not_zero n (tens k) (tens_some k) le e)
long_by k n acc false le e more = more ∙ shift k (length acc)
  where
    shift : (k l : ℕ) → k + suc l ≡ suc k + l
    shift k l = omega arith

onto_long : (k n : ℕ) (acc : List ℕ) → tens k ≤ n → length (digits_onto k 10 false n acc) ≡ k + length acc
onto_long zero n acc le = sym (zero-add (length acc))
onto_long (suc k) n acc le = long_by k n acc (n / 10 == 0) le refl (onto_long k (n / 10) (digit_glyph false (n % 10) ∷ acc) (a_tenth n (tens k) le))

-- ---- digits

abbrev pub is_digit : ℕ → Bool
is_digit b = nat_le 48 b && nat_le b 57

glyph_by : (d : ℕ) (b : Bool) → d < 10 → nat_lt d 10 ≡ b → is_digit (if b then 48 + d else 87 + d) ≡ true
glyph_by d true h e = grind (arith, nat_tests)
glyph_by d false h e = absurd (far d h e)
  where
    far : (d : ℕ) → d < 10 → nat_lt d 10 ≡ false → ⊥
    far d h e = grind (arith, nat_tests)

glyph_digit : (n : ℕ) → is_digit (digit_glyph false (n % 10)) ≡ true
glyph_digit n = glyph_by (n % 10) (nat_lt (n % 10) 10) (omega arith) refl

both : (a b : Bool) → a ≡ true → b ≡ true → (a && b) ≡ true
both true b e f = f
both false b e f = absurd (cc)

first_digit : (n : ℕ) (acc : List ℕ) → list_all is_digit acc ≡ true → list_all is_digit (digit_glyph false (n % 10) ∷ acc) ≡ true
first_digit n acc h = both (is_digit (digit_glyph false (n % 10))) (list_all is_digit acc) (glyph_digit n) h

digits_by : (b : Bool) (xs ys : List ℕ) → list_all is_digit xs ≡ true → list_all is_digit ys ≡ true → list_all is_digit (if b then xs else ys) ≡ true
digits_by true xs ys h k = h
digits_by false xs ys h k = k

onto_digits : (k n : ℕ) (acc : List ℕ) → list_all is_digit acc ≡ true → list_all is_digit (digits_onto k 10 false n acc) ≡ true
onto_digits zero n acc h = h
onto_digits (suc k) n acc h =
    digits_by (n / 10 == 0) (digit_glyph false (n % 10) ∷ acc) (digits_onto k 10 false (n / 10) (digit_glyph false (n % 10) ∷ acc)) (first_digit n acc h)
    (onto_digits k (n / 10) (digit_glyph false (n % 10) ∷ acc) (first_digit n acc h))

pub all_digits : (n : ℕ) → list_all is_digit (decimal n) ≡ true
unfolding digits
all_digits n = onto_digits 64 n [] refl

-- ---- one number

long : (m : ℕ) → tens 64 ≤ m → length (decimal m) ≡ 64
unfolding digits
long m le = onto_long 64 m [] le

different_lengths : (m n : ℕ) → n < 2 ^ 64 → tens 64 ≤ m → decimal m ≡ decimal n → ⊥
different_lengths m n h le e =
    let many : length (decimal m) ≡ 64 = long m le in
    let few : length (decimal n) ≤ 20 = digits-few n h in
    let same : length (decimal m) ≡ length (decimal n) = ap length e in omega (arith, many, few, same)

values : (m n : ℕ) → m < 10 ^ 64 → n < 10 ^ 64 → decimal m ≡ decimal n → m ≡ n
values m n h k e = sym (decimal_is_IsNumeral_wide m h).1 ∙ ap (digits_value 10) e ∙ (decimal_is_IsNumeral_wide n k).1

pub decimal_one : (m n : ℕ) → n < 2 ^ 64 → decimal m ≡ decimal n → m ≡ n
decimal_one m n h e = by (nat_lt m (10 ^ 64)) refl
  where
    by : (b : Bool) → nat_lt m (10 ^ 64) ≡ b → m ≡ n
    by true less = values m n (below m (10 ^ 64) less) (omega arith) e
      where
        below : (x y : ℕ) → nat_lt x y ≡ true → x < y
        below x y f = grind (arith, nat_tests)
    by false more = absurd (different_lengths m n h (above m (10 ^ 64) more) e)
      where
        above : (x y : ℕ) → nat_lt x y ≡ false → y ≤ x
        above x y f = grind (arith, nat_tests)

pub below_64 : (n : ℕ) → fits_64 n ≡ true → n < 2 ^ 64
below_64 n e = grind (arith, nat_tests)

-- ---- one number with a sign

no_minus : (n : ℕ) (t : List ℕ) → decimal n ≡ 45 ∷ t → ⊥
no_minus n t e = false≢true (sym (ap (list_all is_digit) e) ∙ all_digits n)

same_tail : (s t : List ℕ) → (let l : List ℕ = 45 ∷ s in l) ≡ 45 ∷ t → s ≡ t
same_tail s t e = cc

below_63 : (n : ℕ) → nat_lt n 9223372036854775808 ≡ true → n < 2 ^ 64
below_63 n e = let h : n < 9223372036854775808 = grind (arith, nat_tests) in omega arith

suc_below_63 : (n : ℕ) → nat_lt n 9223372036854775808 ≡ true → suc n < 2 ^ 64
suc_below_63 n e = let h : n < 9223372036854775808 = grind (arith, nat_tests) in omega arith

pub signed_one : (y z : ℤ) → fits_signed z ≡ true → signed_decimal y ≡ signed_decimal z → y ≡ z
signed_one (pos m) (pos n) h e = ap pos (decimal_one m n (below_63 n h) e)
signed_one (pos m) (negsuc n) h e = absurd (no_minus m (decimal (suc n)) e)
signed_one (negsuc m) (pos n) h e = absurd (no_minus n (decimal (suc m)) (sym e))
signed_one (negsuc m) (negsuc n) h e = let same : suc m ≡ suc n = decimal_one (suc m) (suc n) (suc_below_63 n h) (same_tail (decimal (suc m)) (decimal (suc n)) e) in let less : m ≡ n = omega arith in ap negsuc less

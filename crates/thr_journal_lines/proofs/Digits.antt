-- Digits, read from the left.
use Rattle.std.proofs.Common.{◌≡◌, ℕ, ◌+◌, ◌*◌, ◌-◌, ◌<◌, ◌≤◌, ◌^◌, Bool, true, false, List, [], ◌∷◌, length, get_or, drop, fold, Option, Some, None, refl, sym, ap, subst, ◌∙◌, add-one, drop-cons, arith}
use Rattle.std.specs.Prelude.{◌==◌, nat_le, if◌then◌else◌}
use Rattle.std.proofs.lemmas.Bool.Decides.{nat_tests}
use Rattle.std.proofs.lemmas.List.{drop_all}
use Rattle.std.proofs.lemmas.Option.{cond_some}
use Rattle.thr_text.specs.Lexing.{and_digit}
use Rattle.thr_journal_lines.specs.Numbers.{if_long}

pub too_large : (n : ℕ) → 2 ^ 64 ≤ n → if_long n ≡ None
too_large n large = rw (above n large) refl
  where
    above : (n : ℕ) → 2 ^ 64 ≤ n → nat_le n 18446744073709551615 ≡ false
    above n large = grind (arith, nat_tests)

pub tens_too_large : (n d : ℕ) → 2 ^ 64 ≤ n * 10 → if_long (and_digit n d) ≡ None
tens_too_large n d large = too_large (and_digit n d) (omega (arith, large))

grows : (n : ℕ) (ds : List ℕ) → n ≤ fold and_digit n ds
grows n [] = omega arith
grows n (d ∷ ds) = let more = grows (and_digit n d) ds in omega (arith, more)

not_long : (b : Bool) (n : ℕ) → (if b then Some n else None) ≡ None → b ≡ false
not_long true n e = absurd cc
not_long false n e = refl

is_large : (n : ℕ) → if_long n ≡ None → 2 ^ 64 ≤ n
is_large n e = above n (not_long (nat_le n 18446744073709551615) n e)
  where
    above : (n : ℕ) → nat_le n 18446744073709551615 ≡ false → 2 ^ 64 ≤ n
    above n e = grind (arith, nat_tests)

pub one_more : (digits : List ℕ) (i total : ℕ) → i < length digits → fold and_digit total (drop i digits) ≡ fold and_digit (and_digit total (get_or digits i 0)) (drop (i + 1) digits)
one_more digits i total lt = at_front (drop i digits) (get_or digits i 0) (drop (i + 1) digits) total (rw add-one (drop-cons digits i 0 lt))
  where
    at_front : (xs : List ℕ) (d : ℕ) (rest : List ℕ) (total : ℕ) → xs ≡ d ∷ rest → fold and_digit total xs ≡ fold and_digit (and_digit total d) rest
    at_front xs d rest total e = ap (fold and_digit total) e

pub goes_on : (digits : List ℕ) (i total next : ℕ) → i < length digits → if_long (and_digit total (get_or digits i 0)) ≡ Some next → fold and_digit total (drop i digits) ≡ fold and_digit 0 digits
    → fold and_digit next (drop (i + 1) digits) ≡ fold and_digit 0 digits
goes_on digits i total next lt e so_far =
    let same : and_digit total (get_or digits i 0) ≡ next = (cond_some (nat_le (and_digit total (get_or digits i 0)) 18446744073709551615) (and_digit total (get_or digits i 0)) next e).1 in
    ap (λ (n : ℕ). fold and_digit n (drop (i + 1) digits)) (sym same) ∙ sym (one_more digits i total lt) ∙ so_far

pub breaks_off : (digits : List ℕ) (i total : ℕ) → i < length digits → if_long (and_digit total (get_or digits i 0)) ≡ None → fold and_digit total (drop i digits) ≡ fold and_digit 0 digits
    → if_long (fold and_digit 0 digits) ≡ None
breaks_off digits i total lt e so_far =
    let n : ℕ = and_digit total (get_or digits i 0) in
    let large : 2 ^ 64 ≤ n = is_large n e in
    let more : n ≤ fold and_digit n (drop (i + 1) digits) = grows n (drop (i + 1) digits) in
    let same : fold and_digit n (drop (i + 1) digits) ≡ fold and_digit 0 digits = sym (one_more digits i total lt) ∙ so_far in
    too_large (fold and_digit 0 digits) (omega (arith, large, more, same))

pub ends : (digits : List ℕ) (i total : ℕ) → length digits ≤ i → fold and_digit total (drop i digits) ≡ fold and_digit 0 digits → total ≡ fold and_digit 0 digits
ends digits i total le so_far = sym (ap (fold and_digit total) (drop_all i digits le)) ∙ so_far

pub is_other : (n m : ℕ) → if_long n ≡ None → m < 2 ^ 64 → (n == m) ≡ false
is_other n m e small = differs n m (is_large n e) small
  where
    differs : (n m : ℕ) → 2 ^ 64 ≤ n → m < 2 ^ 64 → (n == m) ≡ false
    differs n m large small = grind (arith, nat_tests)

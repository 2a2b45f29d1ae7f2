-- How many bytes words and numbers take.
use Rattle.std.proofs.Common.{◌≡◌, ℕ, ◌+◌, ◌<◌, ◌≤◌, ◌^◌, ℤ, pos, negsuc, true, List, [], ◌∷◌, ◌++◌, length, arith, length-append}
use Rattle.std.specs.List.{join_with_byte}
use Rattle.std.specs.Fmt.{decimal, signed_decimal}
use Rattle.std.proofs.lemmas.Bool.{ltb-true}
use Rattle.std.proofs.lemmas.Fmt.{length-decimal-le, length_signed_le}
use Rattle.thr_syntax.specs.Canon.{line}
use Rattle.thr_verdict.specs.Places.{fits_32, fits_64, fits_signed}

-- The bytes of words, each with the space or the end after it.
abbrev pub width : List (List ℕ) → ℕ
width [] = 0
width (w ∷ ws) = length w + 1 + width ws

joined_width : (w : List ℕ) (ws : List (List ℕ)) → length (join_with_byte 32 (w ∷ ws)) + 1 ≡ width (w ∷ ws)
joined_width w [] = omega arith
joined_width w (v ∷ ws) = omega (arith, length-append w (32 ∷ join_with_byte 32 (v ∷ ws)), joined_width v ws)

pub line_width : (w : List ℕ) (ws : List (List ℕ)) → length (line (w ∷ ws)) ≡ width (w ∷ ws)
line_width w ws = omega (arith, length-append (join_with_byte 32 (w ∷ ws)) (10 ∷ []), joined_width w ws)

pub width_append : (ws vs : List (List ℕ)) → width (ws ++ vs) ≡ width ws + width vs
width_append [] vs = omega arith
width_append (w ∷ ws) vs = omega (arith, width_append ws vs)

-- ---- numbers

pub short_decimal : (k n : ℕ) → 0 < k → n < 10 ^ k → n < 2 ^ 64 → length (decimal n) ≤ k
short_decimal k n some fits small = length-decimal-le k n some fits small

pub short_32 : (n : ℕ) → fits_32 n ≡ true → length (decimal n) ≤ 10
short_32 n h = let below : n < 4294967296 = ltb-true n 4294967296 h in length-decimal-le 10 n (omega arith) (omega arith) (omega arith)

pub short_64 : (n : ℕ) → fits_64 n ≡ true → length (decimal n) ≤ 20
short_64 n h = let below : n < 18446744073709551616 = ltb-true n 18446744073709551616 h in length-decimal-le 20 n (omega arith) (omega arith) (omega arith)

pub short_signed : (z : ℤ) → fits_signed z ≡ true → length (signed_decimal z) ≤ 20
short_signed (pos n) h = let below : n < 9223372036854775808 = ltb-true n 9223372036854775808 h in length_signed_le 19 (pos n) (omega arith) (omega arith)
short_signed (negsuc n) h = let below : n < 9223372036854775808 = ltb-true n 9223372036854775808 h in length_signed_le 19 (negsuc n) (omega arith) (omega arith)

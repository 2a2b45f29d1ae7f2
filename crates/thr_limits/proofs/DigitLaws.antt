-- How many digits a number has.
use Rattle.std.proofs.Common.{◌≡◌, ℕ, ◌+◌, ◌/◌, ◌%◌, ◌^◌, ◌<◌, ◌≤◌, [], ◌∷◌, length, length-append, ap, ◌∙◌, arith}
use Rattle.std.specs.Fmt.{decimal}
use Rattle.std.proofs.lemmas.Fmt.{decimal_step, decimal_digit, length-decimal-le}

pub digits-step : (n : ℕ) → 10 ≤ n → n < 2 ^ 64 → length (decimal n) ≡ length (decimal (n / 10)) + 1
digits-step n ge lt = ap length (decimal_step n ge lt) ∙ length-append (decimal (n / 10)) ((48 + n % 10) ∷ [])

pub digits-one : (n : ℕ) → n < 10 → length (decimal n) ≡ 1
digits-one n lt = ap length (decimal_digit n lt)

pub digits-few : (n : ℕ) → n < 2 ^ 64 → length (decimal n) ≤ 20
digits-few n lt = length-decimal-le 20 n (omega arith) (omega arith) lt

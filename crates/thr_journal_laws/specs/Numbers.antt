-- The ranges of numbers (docs/journal.md, "Formed journals").
use Rattle.std.specs.Prelude.{ℕ, ◌≤◌, ◌<◌, ◌^◌, ℤ, pos, negsuc}

-- The number isn't below one number nor above another.
pub record IsBetween (least most n : ℕ) : Type 0 where
  pub low : least ≤ n
  pub high : n ≤ most

-- The value has 64 bits with a sign.
abbrev pub HasSixtyFourBits : ℤ → Type 0
HasSixtyFourBits (pos n) = n < 2 ^ 63
HasSixtyFourBits (negsuc n) = n < 2 ^ 63

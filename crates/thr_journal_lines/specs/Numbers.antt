-- Numbers of 64 bits.
use Rattle.std.specs.Prelude.{ℕ, nat_le, if◌then◌else◌, Option, Some, None}

-- The number, where it has 64 bits.
abbrev pub if_long : ℕ → Option ℕ
if_long n = if nat_le n 18446744073709551615 then Some n else None

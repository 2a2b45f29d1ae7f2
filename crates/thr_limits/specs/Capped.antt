-- Counts that stay where they are at the greatest number of a machine word of 32 bits, so that they can count what has no bound.
use Rattle.std.specs.Prelude.{ℕ, min}

abbrev pub capped : ℕ → ℕ
capped n = min n 4294967295

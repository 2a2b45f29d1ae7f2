-- Times of the clock (docs/machine.md, "Times").
use Rattle.std.specs.Prelude.{nat_lt, Bool, true, false, not, ◌||◌, ◌+ℤ◌, if◌then◌else◌, ℤ, pos, negsuc}
use Rattle.thr_values.specs.declared.reply.Reply.{Reply}
use Rattle.thr_values.specs.declared.reply.Reply.TheVariants as reply

-- The number is one of 64 bits with a sign, as every time is (docs/machine.md, "Times").
abbrev pub is_time : ℤ → Bool
is_time (pos n) = nat_lt n 9223372036854775808
is_time (negsuc n) = nat_lt n 9223372036854775808

-- The number is below 0.
abbrev pub is_negative : ℤ → Bool
is_negative (pos n) = false
is_negative (negsuc n) = true

-- No time is so many ticks after now (docs/machine.md, "Times").
abbrev pub is_no_interval : ℤ → ℤ → Bool
is_no_interval ticks now = is_negative ticks || not (is_time (now +ℤ ticks))

-- The time that is so many ticks after now (docs/machine.md, "Times").
abbrev pub expiration : ℤ → ℤ → Reply
expiration ticks now = if is_no_interval ticks now then reply.Einval else reply.Value (now +ℤ ticks)

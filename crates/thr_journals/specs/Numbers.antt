-- Numbers in the lines of a journal (docs/journal.md, "Faults of a journal").
use Rattle.std.specs.Prelude.{ℕ, ◌==◌, nat_le, Bool, ◌&&◌, ◌||◌, not, if◌then◌else◌, ℤ, pos, neg_ℤ, List, fold, length, slice_index, Option, Some, None}
use Rattle.std.specs.List.{list_all}
use Rattle.std.specs.Char.{is_ascii_digit}
use Rattle.std.specs.Option.{option_map}
use Rattle.thr_text.specs.Lexing.{is_something, has_minus, digits_of, and_digit}

-- A number in its shortest form: digits, of which the first is 0 only where it is the only one (docs/journal.md, "Faults of a
-- journal").
unfoldable pub is_shortest : List ℕ → Bool
is_shortest text = is_something text && (list_all is_ascii_digit text && ((length text == 1) || not (slice_index text 0 == 48)))

-- What digits are as a number.
unfoldable pub number_of : List ℕ → ℕ
number_of text = fold and_digit 0 text

-- A number in its shortest form that isn't below one number nor above another.
abbrev pub number_in : ℕ → ℕ → List ℕ → Option ℕ
number_in least most text = if is_shortest text && (nat_le least (number_of text) && nat_le (number_of text) most) then Some (number_of text) else None

-- A number of 32 bits (docs/journal.md, "Formed journals").
abbrev pub short_in : List ℕ → Option ℕ
short_in = number_in 0 4294967295

-- A number of 64 bits (docs/journal.md, "Formed journals").
abbrev pub long_in : List ℕ → Option ℕ
long_in = number_in 0 18446744073709551615

-- A number of 64 bits with a sign, which is `-` and no 0 where it has one (docs/journal.md, "Formed journals").
abbrev pub value_in : List ℕ → Option ℤ
value_in text =
    if has_minus text then option_map (λ n. neg_ℤ (pos n)) (number_in 1 9223372036854775808 (digits_of text))
    else option_map pos (number_in 0 9223372036854775807 text)

use Rattle.std.specs.Prelude.{ℕ, ℤ, List, [], ◌∷◌, ◌++◌}
use Rattle.std.specs.Fmt.{decimal, signed_decimal}
use Rattle.thr_journals.specs.Fields.{both, count, value}
use Rattle.thr_journal_laws.specs.Numbers.{HasSixtyFourBits}
use Rattle.thr_journal_laws.specs.Places.{IsReadAsPrinted, IsLong}
use Rattle.thr_journal_laws.proofs.PlaceLaws.{both_read, alone_taken, alone_again, count_read, value_read}
use Rattle.thr_journal_laws.proofs.laws.places.whole_words_are_read_as_printed.Goals as goal

abbrev print : ℕ × ℤ → List (List ℕ)
print x = (decimal x.0 ∷ []) ++ (signed_decimal x.1 ∷ [])

abbrev Fits : ℕ × ℤ → Type 0
Fits x = IsLong x.0 × HasSixtyFourBits x.1

read : IsReadAsPrinted (both count value) print Fits
read = both_read count value (λ n. decimal n ∷ []) (λ z. signed_decimal z ∷ []) IsLong HasSixtyFourBits count_read value_read

pub returns : goal.returns
returns c = record { taken = alone_taken (both count value) print Fits read; again = alone_again (both count value) print Fits read }

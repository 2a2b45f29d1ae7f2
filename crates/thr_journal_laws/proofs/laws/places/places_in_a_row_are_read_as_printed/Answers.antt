use Rattle.std.specs.Prelude.{[], ◌∷◌}
use Rattle.std.specs.Fmt.{decimal, signed_decimal}
use Rattle.thr_journals.specs.Fields.{count, value, place}
use Rattle.thr_journal_laws.specs.Numbers.{HasSixtyFourBits}
use Rattle.thr_journal_laws.specs.Places.{IsLong, IsPlace}
use Rattle.thr_journal_laws.proofs.PlaceLaws.{both_read, count_read, value_read, place_read}
use Rattle.thr_journal_laws.proofs.laws.places.places_in_a_row_are_read_as_printed.Goals as goal

pub returns : goal.returns
returns c = record {
  at_line = both_read place value (λ l. decimal l.0 ∷ []) (λ z. signed_decimal z ∷ []) IsPlace HasSixtyFourBits place_read value_read;
  count_at = both_read count place (λ n. decimal n ∷ []) (λ l. decimal l.0 ∷ []) IsLong IsPlace count_read place_read;
  count_and_value = both_read count value (λ n. decimal n ∷ []) (λ z. signed_decimal z ∷ []) IsLong HasSixtyFourBits count_read value_read;
  two_counts = both_read count count (λ n. decimal n ∷ []) (λ n. decimal n ∷ []) IsLong IsLong count_read count_read;
}

use Rattle.thr_journal_laws.proofs.PlaceLaws.{count_read, value_read, place_read, thread_read}
use Rattle.thr_journal_laws.proofs.laws.places.places_are_read_as_printed.Goals as goal

pub returns : goal.returns
returns c = record { count = count_read; value = value_read; place = place_read; thread = thread_read }

use Rattle.thr_widths.proofs.NameWidths.{names_short, short_at}
use Rattle.thr_widths.proofs.laws.names_are_short.Goals as goal

pub returns : goal.returns
returns c = λ s formed name. short_at s.names name.0 (names_short s formed)

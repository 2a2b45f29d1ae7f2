use Rattle.thr_widths.proofs.JournalWidths.{journal_width}
use Rattle.thr_widths.proofs.laws.journals_are_short.Goals as goal

pub returns : goal.returns
returns c = journal_width

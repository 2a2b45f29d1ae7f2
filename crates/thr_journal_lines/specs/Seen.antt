-- A line below `history`, as the code has it.
use Rattle.thr_journals.specs.Lines as lines
use Rattle.thr_journal_lines.specs.declared.below.Below.{Below}
use Rattle.thr_journal_lines.specs.declared.below.Below.TheVariants.{Told, Stopped}

abbrev pub line_seen : Below → lines.Below
line_seen (Told number entry) = lines.Told number.now entry
line_seen (Stopped stop) = lines.Stopped stop

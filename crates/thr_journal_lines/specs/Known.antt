-- The names of a script with their kinds, as the code keeps them.
use Rattle.std.specs.Prelude.{List, map}
use Rattle.thr_text.specs.Tables.{Entry}
use Rattle.thr_journal_lines.specs.declared.names.Known.{Known}

-- The name with its kind.
abbrev pub entry_in : Known → Entry
entry_in k = (k.name, k.kind)

abbrev pub entries_in : List Known → List Entry
entries_in known = map entry_in known

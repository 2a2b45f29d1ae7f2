use Rattle.std.proofs.Common.{sym, ◌∙◌}
use Rattle.thr_naming.proofs.TableLaws.{table_of_none}
use Rattle.thr_naming.proofs.table.builtin_table.Goals as goal

pub returns-clause-ok : goal.returns-clause-ok
returns-clause-ok c = rw c.new-table.ensures at c.in_ok-note_exceptions.ensures.ok ∙ sym table_of_none

use Rattle.thr_laws.proofs.PlainLaws.{plain_is_read_so}
use Rattle.thr_laws.proofs.laws.plain_lines_are_read_as_lines_of_their_thread.Goals as goal

pub returns : goal.returns
returns c = plain_is_read_so

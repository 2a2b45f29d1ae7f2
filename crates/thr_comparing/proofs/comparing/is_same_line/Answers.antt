use Rattle.std.proofs.Common.{sym}
use Rattle.thr_comparing.proofs.Equal.{same_line}
use Rattle.thr_comparing.proofs.comparing.is_same_line.Goals as goal

pub returns-then-eq : goal.returns-then-eq
returns-then-eq c = same_line c.args.names.now c.args.a.now c.args.b.now (sym c.if-eq.ensures)

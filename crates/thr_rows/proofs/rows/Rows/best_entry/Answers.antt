use Rattle.std.proofs.Common.{ap}
use Rattle.thr_parts.specs.Rows.{Rows}
use Rattle.thr_rows.proofs.BestLaws.{best_standing}
use Rattle.thr_rows.proofs.rows.Rows.best_entry.Goals as goal

pub returns-clause-best : goal.returns-clause-best
returns-clause-best c = best_standing c.args.self.now c.args.row c.self.inside.seats c.best.result (ap (λ (r : Rows). r.seats) c.self.view_is) c.best.ensures.best

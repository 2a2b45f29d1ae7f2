use Rattle.std.proofs.Common.{subst}
use Rattle.thr_parts.specs.declared.row.Seat.{Seat}
use Rattle.thr_parts.specs.Tables.{Table, IsCanonical}
use Rattle.thr_rows.proofs.RememberedLaws.{canonical_seated}
use Rattle.thr_rows.proofs.remembered.Remembered.len.Goals as goal

pub returns-clause-rises : goal.returns-clause-rises
returns-clause-rises c = subst (λ (m : Table Seat). IsCanonical m) c.self.view_is (canonical_seated c.self.inside.entries)

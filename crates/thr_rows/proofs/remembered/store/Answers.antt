use Rattle.std.proofs.Common.{◌∙◌, ap}
use Rattle.thr_parts.specs.declared.row.Seat.{Seat}
use Rattle.thr_parts.specs.Tables.{Table, put}
use Rattle.thr_rows.specs.Remembered.{seated}
use Rattle.thr_rows.proofs.RememberedLaws.{seated_put}
use Rattle.thr_rows.proofs.remembered.store.Goals as goal

pub returns : goal.returns
returns c = ap seated c.put.ensures ∙ seated_put _ c.args.t.0 c.args.seat c.len-rises.ensures.rises ∙ ap (λ (m : Table Seat). put m c.args.t.0 c.args.seat) c.make_place.ensures.seats

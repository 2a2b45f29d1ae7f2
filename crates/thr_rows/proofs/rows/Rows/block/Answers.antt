use Rattle.std.proofs.Common.{◌≡◌, ◌+◌, ◌∙◌, ap, sym, subst, true}
use Rattle.thr_parts.specs.declared.row.Seat.{Seat}
use Rattle.thr_parts.specs.Tables.{Table}
use Rattle.thr_parts.specs.Rows.{Rows, most}
use Rattle.thr_parts.specs.Moves.{block_in}
use Rattle.thr_tables.specs.Places.{has_place}
use Rattle.thr_rows.proofs.BestLaws.{blocked, place_to_wait}
use Rattle.thr_rows.proofs.rows.Rows.block.Goals as goal

pub put-requires : goal.put-requires
put-requires c = record {
  room = subst (λ (m : Table Seat). has_place m c.args.t.0 most ≡ true) (sym (ap (λ (r : Rows). r.seats) c.self.view_is)) (place_to_wait c.args.self.now c.args.t c.requires.room);
}

pub returns : goal.returns
returns c =
    let rs : Rows = record { seats = c.self.inside.seats; next_arrival = c.self.inside.next_arrival } in
    ap (λ (m : Table Seat). let x : Rows = record { seats = m; next_arrival = c.self.inside.next_arrival + 1 } in x) c.put.ensures
    ∙ blocked rs c.args.row c.args.t c.args.rank c.len-rises.ensures.rises
    ∙ ap (λ (r : Rows). block_in r c.args.row c.args.t c.args.rank) c.self.view_is

use Rattle.thr_services.proofs.OpeningLaws.{first_has_room, opened_is}
use Rattle.thr_services.proofs.services.Services.new.Goals as goal

pub put-requires-clause-room : goal.put-requires-clause-room
put-requires-clause-room c = first_has_room c.in_ok-rows.rows c.in_ok-rows.ensures

pub returns : goal.returns
returns c =
    opened_is c.args.items.now _ _ _ _ _ _ c.in_ok-onces.onces _ _
    (record {
      first = c.in_ok-threads.ensures;
      owed = c.in_ok-debts.ensures;
      nobody = c.in_ok-rows.ensures;
      ranked = c.rank.ensures;
      ready = c.put.ensures;
      locked = c.in_ok-locks.ensures;
      waiting = c.in_ok-conds.ensures;
      once = c.in_ok-onces.ensures;
      piped = c.in_ok-pipes.ensures;
    })

use Rattle.std.proofs.Common.{◌≡◌, ◌<◌, ◌+◌, true, ◌∙◌, ap, cond, arith, rules, length, vec_len}
use Rattle.std.specs.Result.{is_ok}
use Rattle.std.specs.List.{insert}
use Rattle.thr_tables.proofs.PlaceLaws.{rises_put, put_there, put_missed, room_for}
use Rattle.thr_tables.proofs.numbered.store.Goals as goal

pub returns-in-Ok-clause-items : goal.returns-in-Ok-clause-items
returns-in-Ok-clause-items g c =
    let stands = rw c.deref.ensures.value at c.in-Ok.ensures.stands in
    put_there c.args.entries.now.items c.args.t c.in-Ok.i c.args.value stands.0 stands.2

pub returns-in-Err-clause-items : goal.returns-in-Err-clause-items
returns-in-Err-clause-items g c =
    let misses = rw c.deref.ensures.value at c.in-Err.ensures.misses in
    let same : vec_len c.args.entries.now ≡ length c.args.entries.now.items = search rules in
    let room : length c.args.entries.now.items < g.row.ROOM = room_for c.args.entries.now.items c.args.t g.row.ROOM c.requires.rises misses.2 c.requires.room in
    let done : is_ok c.insert.result ≡ true = c.insert.ensures.succeeds (omega (arith, same, room, c.requires.capacity)) in
    c.insert.ensures.items ∙ ap (λ b. cond b (insert c.args.entries.now.items c.in-Err.i (c.args.t, c.args.value)) c.args.entries.now.items) done
    ∙ put_missed c.args.entries.now.items c.args.t c.in-Err.i c.args.value misses.0 misses.2

pub returns-in-Err-clause-within : goal.returns-in-Err-clause-within
returns-in-Err-clause-within g c =
    let misses = rw c.deref.ensures.value at c.in-Err.ensures.misses in
    let same : vec_len c.args.entries.now ≡ length c.args.entries.now.items = search rules in
    let room : length c.args.entries.now.items < g.row.ROOM = room_for c.args.entries.now.items c.args.t g.row.ROOM c.requires.rises misses.2 c.requires.room in
    let done : is_ok c.insert.result ≡ true = c.insert.ensures.succeeds (omega (arith, same, room, c.requires.capacity)) in
    let len = c.insert.ensures.len ∙ ap (λ b. cond b (vec_len c.args.entries.now + 1) (vec_len c.args.entries.now)) done in
    omega (arith, same, room, len)

pub returns-in-Ok-clause-rises : goal.returns-in-Ok-clause-rises
returns-in-Ok-clause-rises g c = rises_put c.args.entries.now.items _ c.args.t c.args.value c.requires.rises (returns-in-Ok-clause-items g c)

pub returns-in-Err-clause-rises : goal.returns-in-Err-clause-rises
returns-in-Err-clause-rises g c = rises_put c.args.entries.now.items c.insert.new.self.items c.args.t c.args.value c.requires.rises (returns-in-Err-clause-items g c)

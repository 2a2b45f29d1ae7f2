use Rattle.std.proofs.Common.{arith, w64, ◌∙◌, get_or}
use Rattle.std.proofs.lemmas.Int.{to_z-of_z, ints}
use mir.Val.{SFits}
use Rattle.thr_once.proofs.OrderLaws.{value_there, value_missed, nothing}
use Rattle.thr_once.proofs.values.value_of.Goals as goal

pub returns-in-Ok : goal.returns-in-Ok
returns-in-Ok c =
    let fits : SFits w64 (get_or c.args.values.now c.in-Ok.i nothing).value = search (arith, ints) in
    let stands = c.in-Ok.ensures.stands in
    to_z-of_z w64 _ fits ∙ value_there c.args.k.0 c.args.t.0 c.args.values.now c.in-Ok.i nothing c.requires.ordered stands.0 stands.1 stands.2

pub returns-in-Err : goal.returns-in-Err
returns-in-Err c = value_missed c.args.k.0 c.args.t.0 c.args.values.now c.requires.ordered c.in-Err.ensures.misses.2

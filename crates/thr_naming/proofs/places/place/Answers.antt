use Rattle.std.proofs.Common.{rules, map}
use Rattle.std.proofs.lemmas.List.{map-append}
use Rattle.thr_naming.specs.Placing.{seen}
use Rattle.thr_naming.proofs.PlacingLaws.{placed_more, placed_stops, placed_ends}
use Rattle.thr_naming.proofs.places.place.Goals as goal

pub returns-in_default-clause-ok : goal.returns-in_default-clause-ok
returns-in_default-clause-ok c = placed_stops (map seen c.loop-word.all.items) _ c.loop-word.left _ (search rules) c.loop-word.invariant

pub loop-word-preserved : goal.loop-word-preserved
loop-word-preserved c =
    let step = placed_more (map seen c.loop-word.all.items) _ c.loop-word.left _ c.in-Some.slot c.args.words.now c.loop-word.word-index c.word-item.result c.loop-word-test.true c.word-item.is c.in-Some.ensures.some c.loop-word.invariant in
    rw (c.in_ok-push-2.ensures.items, c.in_ok-push-3.ensures.ok, map-append seen c.loop-word.all.items, c.slots_behind.ensures) step

pub returns-clause-ok : goal.returns-clause-ok
returns-clause-ok c = placed_ends (map seen c.loop-word.all.items) _ c.loop-word.left c.args.words.now c.loop-word.word-index c.loop-word-test.false c.loop-word.invariant

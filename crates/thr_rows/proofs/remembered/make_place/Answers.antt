use Rattle.std.proofs.Common.{◌∙◌, ap, rules}
use Rattle.std.proofs.lemmas.Fn.{filter_same}
use Rattle.thr_rows.specs.Remembered.{seated}
use Rattle.thr_rows.proofs.RememberedLaws.{seated_swept, swept_place}
use Rattle.thr_rows.proofs.remembered.make_place.Goals as goal

pub returns-clause-seats : goal.returns-clause-seats
returns-clause-seats c = ap seated (filter_same _ _ _ (λ x b f' k. search rules) _ _ c.retain.ensures) ∙ seated_swept c.args.entries.now c.len.ensures.rises

pub returns-clause-place : goal.returns-clause-place
returns-clause-place c =
    swept_place c.args.entries.now _ c.len.ensures.rises (filter_same _ _ _ (λ x b f' k. search rules) _ _ c.retain.ensures) c.requires.within

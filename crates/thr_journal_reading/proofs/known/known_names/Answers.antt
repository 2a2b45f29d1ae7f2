use Rattle.std.proofs.Common.{List, ◌++◌, ap, ◌∙◌}
use Rattle.thr_syntax.specs.declared.tree.Item.{Item}
use Rattle.thr_journal_reading.specs.Names.{kinds_among, builtin_kinds, paired}
use Rattle.thr_journal_reading.proofs.NamesLaws.{known_paired, known_few, if_known}
use Rattle.thr_journal_reading.proofs.known.known_names.Goals as goal

pub returns-clause-names : goal.returns-clause-names
returns-clause-names c =
    if_known c.paired.result _ _
    (λ v e. known_paired c.args.script.now v.items c.as_slice-2.result.now c.as_slice-3.result.now c.requires c.as_slice-2.ensures
    (c.as_slice-3.ensures.value ∙ c.in_ok-kinds.ensures ∙ ap (λ (items : List Item). builtin_kinds ++ kinds_among items) c.as_slice.ensures) e) c.paired.ensures

pub returns-clause-few : goal.returns-clause-few
returns-clause-few c =
    if_known c.paired.result _ _
    (λ v e. known_few c.args.script.now v.items c.as_slice-2.result.now c.as_slice-3.result.now c.requires c.as_slice-2.ensures
    (c.as_slice-3.ensures.value ∙ c.in_ok-kinds.ensures ∙ ap (λ (items : List Item). builtin_kinds ++ kinds_among items) c.as_slice.ensures) e) c.paired.ensures

use Rattle.std.proofs.Common.{sym, ap, ◌∙◌}
use Rattle.thr_naming.specs.Judging.{place_of}
use Rattle.thr_naming.proofs.EntryLaws.{names_are_new, names_are_few}
use Rattle.thr_naming.proofs.FaultLaws.{answered, none_left}
use Rattle.thr_naming.proofs.judge.judge_lines.Goals as goal

pub returns-in-Some-clause-fault : goal.returns-in-Some-clause-fault
returns-in-Some-clause-fault c =
    let law = answered c.args.end c.args.lines.now c.in_ok-whole.whole _ _ _ c.in_ok-has_main.has_main c.or_too_long.ensures c.or_no_main.ensures c.in_ok-fault.ensures.place c.in_ok-has_main.ensures.ok c.in_ok-whole.ensures.ok in
    sym law ∙ ap place_of c.in-Some.is

pub returns-in-None-clause-ok : goal.returns-in-None-clause-ok
returns-in-None-clause-ok c =
    let law = answered c.args.end c.args.lines.now c.in_ok-whole.whole _ _ _ c.in_ok-has_main.has_main c.or_too_long.ensures c.or_no_main.ensures c.in_ok-fault.ensures.place c.in_ok-has_main.ensures.ok c.in_ok-whole.ensures.ok in
    none_left _ (sym (ap place_of c.in-None.is) ∙ law)

pub returns-in-None-clause-names : goal.returns-in-None-clause-names
returns-in-None-clause-names c =
    let law = answered c.args.end c.args.lines.now c.in_ok-whole.whole _ _ _ c.in_ok-has_main.has_main c.or_too_long.ensures c.or_no_main.ensures c.in_ok-fault.ensures.place c.in_ok-has_main.ensures.ok c.in_ok-whole.ensures.ok in
    let none = none_left _ (sym (ap place_of c.in-None.is) ∙ law) in
    c.in_ok-whole.ensures.ok ∙ names_are_new c.args.end c.args.lines.now none

pub returns-in-None-clause-few : goal.returns-in-None-clause-few
returns-in-None-clause-few c =
    let law = answered c.args.end c.args.lines.now c.in_ok-whole.whole _ _ _ c.in_ok-has_main.has_main c.or_too_long.ensures c.or_no_main.ensures c.in_ok-fault.ensures.place c.in_ok-has_main.ensures.ok c.in_ok-whole.ensures.ok in
    let none = none_left _ (sym (ap place_of c.in-None.is) ∙ law) in
    rw (c.in_ok-whole.ensures.ok ∙ names_are_new c.args.end c.args.lines.now none) (names_are_few c.args.end c.args.lines.now none)

use Rattle.std.proofs.Common.{◌≡◌, false, sym, ◌∙◌}
use Rattle.thr_text.specs.NameFaults.{is_undeclared, is_misused}
use Rattle.thr_naming.specs.Placing.{seen}
use Rattle.thr_naming.proofs.SenseLaws.{none_first, none_last}
use Rattle.thr_naming.proofs.judge.misnamed.Goals as goal

pub returns-then-not-has_misnamed-clause-undeclared : goal.returns-then-not-has_misnamed-clause-undeclared
returns-then-not-has_misnamed-clause-undeclared c =
    let none : c.has_misnamed.result ≡ false = (cc) in
    sym (none_first (λ x. is_undeclared c.args.whole.now c.args.locals.now (seen x)) (λ x. is_misused c.args.whole.now c.args.locals.now (seen x)) c.args.words.now (sym c.has_misnamed.ensures ∙ none))

pub returns-then-not-has_misnamed-clause-misused : goal.returns-then-not-has_misnamed-clause-misused
returns-then-not-has_misnamed-clause-misused c =
    let none : c.has_misnamed.result ≡ false = (cc) in
    sym (none_last (λ x. is_undeclared c.args.whole.now c.args.locals.now (seen x)) (λ x. is_misused c.args.whole.now c.args.locals.now (seen x)) c.args.words.now (sym c.has_misnamed.ensures ∙ none))

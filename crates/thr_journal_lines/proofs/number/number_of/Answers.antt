use Rattle.std.proofs.Common.{◌∙◌, sym, ap, rules}
use Rattle.thr_journals.specs.Numbers.{number_of}
use Rattle.thr_journal_lines.specs.Numbers.{if_long}
use Rattle.thr_journal_lines.proofs.Digits.{breaks_off, ends}
use Rattle.thr_journal_lines.proofs.number.number_of.Goals as goal

pub returns-in-None : goal.returns-in-None
unfolding number_of
returns-in-None c =
    sym (breaks_off c.args.digits.now c.loop-digit.digit-index c.loop-digit.total c.loop-digit-test.true (search rules) c.loop-digit.invariant)

pub returns : goal.returns
unfolding number_of
returns c = c.long_of.ensures ∙ ap if_long (ends c.args.digits.now c.loop-digit.digit-index c.loop-digit.total c.loop-digit-test.false c.loop-digit.invariant)

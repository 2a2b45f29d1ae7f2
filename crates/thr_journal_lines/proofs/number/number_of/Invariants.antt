use Rattle.std.proofs.Common.{◌≡◌, drop, fold}
use Rattle.thr_text.specs.Lexing.{and_digit}
use Rattle.thr_journal_lines.proofs.number.number_of.Given as goal

abbrev pub invariant-loop-digit : goal.invariant-loop-digit
invariant-loop-digit l = fold and_digit l.total (drop l.digit-index l.digits) ≡ fold and_digit 0 l.digits

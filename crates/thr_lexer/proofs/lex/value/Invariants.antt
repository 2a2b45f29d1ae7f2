use Rattle.std.proofs.Common.{◌≡◌, ◌-◌, ◌^◌, take, min, fold}
use Rattle.thr_text.specs.Lexing.{and_digit}
use Rattle.thr_lexer.proofs.lex.value.Given as goal

abbrev pub invariant-loop-b : goal.invariant-loop-b
invariant-loop-b l = l.total ≡ min (fold and_digit 0 (take l.b-index l.digits)) (2 ^ 64 - 1)

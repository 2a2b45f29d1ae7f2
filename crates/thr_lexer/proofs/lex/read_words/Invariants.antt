use Rattle.std.proofs.Common.{◌≡◌, map, false}
use Rattle.std.specs.List.{filter, list_any}
use Rattle.thr_text.specs.Lexing.{is_something, word_of, is_too_large}
use Rattle.thr_lexer.proofs.lex.read_words.Given as goal

abbrev pub invariant-loop-piece : goal.invariant-loop-piece
invariant-loop-piece l = record {
  words : l.words ≡ map word_of (filter is_something (map (λ x. x.now) l.yielded));
  small : list_any is_too_large (filter is_something (map (λ x. x.now) l.yielded)) ≡ false;
}

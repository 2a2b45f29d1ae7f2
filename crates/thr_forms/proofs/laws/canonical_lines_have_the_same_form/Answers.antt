use Rattle.std.proofs.Common.{List, sym, subst}
use Rattle.thr_text.specs.declared.word.Word.{Word}
use Rattle.thr_text.specs.Lexing.{words_of}
use Rattle.thr_lexer.proofs.Canon.{line_again}
use Rattle.thr_lexer.proofs.OfLine.{words_of_line}
use Rattle.thr_forms.specs.Filling.{IsForm}
use Rattle.thr_forms.proofs.laws.canonical_lines_have_the_same_form.Goals as goal

pub returns : goal.returns
returns c = λ line head parts none form. subst (λ (ws : List Word). IsForm ws head parts) (sym (line_again (words_of line) (words_of_line line none))) form

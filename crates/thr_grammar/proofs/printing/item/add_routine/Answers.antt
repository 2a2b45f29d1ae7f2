use Rattle.std.proofs.Common.{◌∙◌, ◌++◌, List, ℕ, ap}
use Rattle.std.proofs.lemmas.Result.{on_ok_weaker}
use Rattle.thr_text.specs.Heads.{head_word}
use Rattle.thr_syntax.specs.Lines.{head_lines}
use Rattle.thr_grammar.specs.Printing.{scope_of, lines_text}
use Rattle.thr_grammar.proofs.TreeTexts.{adds-routine, of_body}
use Rattle.thr_grammar.proofs.printing.item.add_routine.Goals as goal

pub returns : goal.returns
unfolding head_word
returns c =
    on_ok_weaker c.add_bare.result
    (adds-routine (scope_of c.args.scope.now) c.args.out.now.items c.add_head.new.out.items c.add_body.new.out.items c.add_bare.new.out.items c.args.routine.now
    (c.in_ok-add_head.ensures ∙ ap (λ (ls : List (List ℕ)). c.args.out.now.items ++ lines_text (scope_of c.args.scope.now) (head_lines c.args.routine.now.name ls)) c.as_slice.ensures)
    (of_body (scope_of c.args.scope.now) c.add_head.new.out.items c.add_body.new.out.items c.as_slice-2.result.now c.args.routine.now.body c.in_ok-add_body.ensures c.as_slice-2.ensures))
    c.add_bare.ensures

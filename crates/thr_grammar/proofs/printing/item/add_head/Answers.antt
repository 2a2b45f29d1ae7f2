use Rattle.std.proofs.Common.{◌∙◌, ◌++◌, ◌∷◌, [], ◌-◌, take, drop, length}
use Rattle.std.proofs.lemmas.Result.{on_ok_weaker}
use Rattle.thr_text.specs.Heads.{head_word}
use Rattle.thr_syntax.specs.Canon.{line}
use Rattle.thr_grammar.specs.Printing.{scope_of}
use Rattle.std.specs.Prelude.{codes}
use Rattle.thr_grammar.proofs.TreeTexts.{adds-head, first_and_others}
use Rattle.thr_grammar.proofs.printing.item.add_head.Goals as goal

pub returns-in_ok-add_with_two-in-len1-up : goal.returns-in_ok-add_with_two-in-len1-up
unfolding head_word
returns-in_ok-add_with_two-in-len1-up c =
    on_ok_weaker c.add_locals.result
    (adds-head (scope_of c.args.scope.now) c.args.out.now.items c.add_with_two.new.out.items c.add_locals.new.out.items c.args.name c.args.locals.now (take (length c.args.locals.now - 1) (drop 1 c.args.locals.now)) c.parameter-item.result
    (first_and_others c.args.locals.now c.parameter-item.result c.in-len1-up.len_at_least c.parameter-item.is)
    (c.in_ok-add_with_two-in-len1-up.ensures ∙ (λ i. c.args.out.now.items ++ line (codes "routine" ∷ c.name.ensures i ∷ c.as_slice.ensures.text i ∷ []))))
    c.add_locals.ensures

use Rattle.std.proofs.Common.{◌∙◌, ◌++◌, ◌∷◌, [], List, ℕ, ap}
use Rattle.std.specs.Prelude.{codes}
use Rattle.thr_text.specs.Heads.{head_word}
use Rattle.thr_syntax.specs.Canon.{line}
use Rattle.thr_grammar.proofs.TreeTexts.{more_text}
use Rattle.thr_grammar.proofs.printing.item.add_locals.Goals as goal

pub loop-local-preserved : goal.loop-local-preserved
unfolding head_word
loop-local-preserved c =
    more_text (λ (n : List ℕ). line (codes "local" ∷ n ∷ [])) c.args.out.now.items c.loop-local.out.items c.add_with.new.out.items c.args.locals.now c.loop-local.local-index c.local-item.result c.loop-local-test.true c.local-item.is c.loop-local.invariant
    (c.in_ok-add_with.ensures ∙ ap (λ (n : List ℕ). c.loop-local.out.items ++ line (codes "local" ∷ n ∷ [])) c.as_slice.ensures.text)

use Rattle.std.proofs.Common.{rules, ◌≡◌, [], ◌∷◌}
use Rattle.std.specs.Prelude.{codes}
use Rattle.thr_syntax.specs.Spelling.{name_of, expr_words, value_words}
use Rattle.thr_limits.specs.Widths.{nothing, after_words, spelled}
use Rattle.thr_limits.proofs.WidthLaws.{after_both}
use Rattle.thr_limits.proofs.limits.stmt_width.Goals as goal

pub returns-in-Call : goal.returns-in-Call
returns-in-Call c =
    let scope = spelled c.args.scope.now in
    let begun : c.name-in-Call.result ≡ after_words nothing (codes "call" ∷ name_of scope c.in-Call.name ∷ []) = search rules in
    rw c.in-Call.is (after_both (after_words nothing (codes "call" ∷ name_of scope c.in-Call.name ∷ [])) c.name-in-Call.result c.expression-in-Call.result c.local_if.result
    (expr_words scope c.in-Call.e) (value_words scope c.in-Call.place) begun c.expression-in-Call.ensures c.local_if.ensures)

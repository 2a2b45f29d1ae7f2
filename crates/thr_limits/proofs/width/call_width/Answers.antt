use Rattle.std.proofs.Common.{◌≡◌, ap, ◌∙◌}
use Rattle.thr_values.specs.Words.{call_word, policy_word}
use Rattle.thr_values.specs.declared.call.CallWord.TheVariants as word
use Rattle.thr_syntax.specs.Spelling.{expr_words, variable_of}
use Rattle.thr_limits.specs.Widths.{nothing, after_word, spelled}
use Rattle.thr_limits.proofs.WidthLaws.{after_two, after_parted}
use Rattle.thr_limits.proofs.width.call_width.Goals as goal

pub returns-in-Setprio : goal.returns-in-Setprio
returns-in-Setprio c =
    let scope = spelled c.args.scope.now in
    rw c.in-Setprio.is (after_two (after_word nothing (call_word word.Setprio)) c.call_word-in-Setprio.result c.expression-in-Setprio.result c.expression-in-Setprio-2.result c.variable-in-Setprio.result
    (expr_words scope c.in-Setprio.e1) (expr_words scope c.in-Setprio.e2) (variable_of scope c.in-Setprio.v)
    c.call_word-in-Setprio.ensures c.expression-in-Setprio.ensures c.expression-in-Setprio-2.ensures c.variable-in-Setprio.ensures)

pub returns-in-Setscheduler : goal.returns-in-Setscheduler
returns-in-Setscheduler c =
    let scope = spelled c.args.scope.now in
    let middle : c.word-in-Setscheduler.result ≡ after_word c.expression-in-Setscheduler.result (policy_word c.in-Setscheduler.policy) =
    c.word-in-Setscheduler.ensures ∙ ap (after_word c.expression-in-Setscheduler.result) c.policy_text-in-Setscheduler.ensures in
    rw c.in-Setscheduler.is (after_parted (after_word nothing (call_word word.Setscheduler)) c.call_word-in-Setscheduler.result c.expression-in-Setscheduler.result c.word-in-Setscheduler.result c.expression-in-Setscheduler-2.result c.variable-in-Setscheduler.result
    (expr_words scope c.in-Setscheduler.e1) (expr_words scope c.in-Setscheduler.e2) (policy_word c.in-Setscheduler.policy) (variable_of scope c.in-Setscheduler.v)
    c.call_word-in-Setscheduler.ensures c.expression-in-Setscheduler.ensures middle c.expression-in-Setscheduler-2.ensures c.variable-in-Setscheduler.ensures)

use Rattle.std.proofs.Common.{◌≡◌, Ok, sym, ap, ◌∙◌, arith}
use Rattle.std.specs.Fmt.{decimal}
use Rattle.std.proofs.lemmas.Fmt.{parse-decimal}
use Rattle.thr_top.proofs.command.number_of.Goals as goal

pub returns-in_default : goal.returns-in_default
returns-in_default c = λ n fits e.
    let read : c.parse.result ≡ Ok n = parse-decimal 32 n c.as_str.result.now c.parse.result fits (omega (arith, fits)) (c.as_str.ensures.value ∙ c.word.view_is ∙ e) c.parse.ensures.value.0 in
    absurd (cc (read, c.in_default.is))

pub returns-else-is : goal.returns-else-is
returns-else-is c = λ n fits e.
    let read : c.parse.result ≡ Ok n = parse-decimal 32 n c.as_str.result.now c.parse.result fits (omega (arith, fits)) (c.as_str.ensures.value ∙ c.word.view_is ∙ e) c.parse.ensures.value.0 in
    let same : c.in-Ok.n ≡ n = cc (read, c.in-Ok.is) in
    let text : c.args.word.now ≡ c.format.result.now = e ∙ sym (ap decimal same) ∙ sym c.format.ensures.text in
    absurd (cc (c.is.ensures.1 text, c.if-is.false))

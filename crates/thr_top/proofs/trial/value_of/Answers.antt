use Rattle.std.proofs.Common.{ℤ, pos, Option, unwrap_or, sym, ap, ◌∙◌, arith, w64}
use Rattle.std.proofs.lemmas.Int.{to_z-of_z, ints}
use mir.Val.{SFits}
use Rattle.thr_parts.proofs.TableLaws.{at_get}
use Rattle.thr_top.proofs.trial.value_of.Goals as goal

pub returns-in-None : goal.returns-in-None
returns-in-None c = sym (at_get c.args.book.now.state.shared c.args.name.0 (pos 0) ∙ ap (λ (o : Option ℤ). unwrap_or o (pos 0)) (sym c.in-None.ensures.value))

pub returns-in-Some : goal.returns-in-Some
returns-in-Some c =
    let fits : SFits w64 c.in-Some.value = search (arith, ints) in
    to_z-of_z w64 c.in-Some.value fits ∙ sym (at_get c.args.book.now.state.shared c.args.name.0 (pos 0) ∙ ap (λ (o : Option ℤ). unwrap_or o (pos 0)) (sym c.in-Some.ensures.value))

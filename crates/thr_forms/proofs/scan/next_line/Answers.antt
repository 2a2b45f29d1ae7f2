use Rattle.std.proofs.Common.{◌≡◌, ◌≢◌, ◌+◌, ◌-◌, [], length, take, drop, refl, sym, ap, ◌∙◌, arith}
use Rattle.std.proofs.lemmas.List.{take_all, length-drop}
use Rattle.std.proofs.lemmas.Bool.{eqb-false}
use Rattle.thr_forms.proofs.LineEnds.{cut_at, cut_none}
use Rattle.thr_forms.proofs.scan.next_line.Goals as goal

pub returns-in-Some-clause-lines : goal.returns-in-Some-clause-lines
returns-in-Some-clause-lines c =
    let rest = c.args.rest.now in
    let at = c.in-Some.at in
    let whole : take (length rest - (at + 1)) (drop (at + 1) rest) ≡ drop (at + 1) rest = take_all (length rest - (at + 1)) (drop (at + 1) rest) (omega (arith, length-drop (at + 1) rest)) in
    cut_at rest at c.in-Some.ensures ∙ rw (c.without_cr.ensures, whole) refl

pub returns-in-None-clause-lines : goal.returns-in-None-clause-lines
returns-in-None-clause-lines c =
    let rest = c.args.rest.now in
    let some : length rest ≢ 0 = eqb-false _ _ (sym c.is_empty.ensures ∙ c.if-is_empty.false) in
    let whole : take (length rest - length rest) (drop (length rest) rest) ≡ [] = (let z : length rest - length rest ≡ 0 = omega arith in ap (λ n. take n (drop (length rest) rest)) z) in
    cut_none rest c.in-None.ensures (omega arith) ∙ rw whole refl

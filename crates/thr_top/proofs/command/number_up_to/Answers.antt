use Rattle.std.proofs.Common.{◌≡◌, sym, ◌∙◌, arith}
use Rattle.std.specs.Fmt.{decimal}
use Rattle.std.proofs.lemmas.Fmt.{decimal_injective}
use Rattle.thr_top.proofs.command.number_up_to.Goals as goal
use Rattle.thr_top.proofs.command.number_up_to.Goals.{else-n-ge1-via-then-n-ge1+else-n-most, else-n-ge1-via-else-n-ge1}

pub returns-else-n-ge1 : goal.returns-else-n-ge1
returns-else-n-ge1 c = λ n some few e.
    let word : c.args.word.now ≡ decimal c.in_ok-n.n = c.in_ok-n.ensures in
    let same : c.in_ok-n.n ≡ n = decimal_injective c.in_ok-n.n n (omega arith) (omega (arith, few)) (sym word ∙ e) in
    elim c.else-n-ge1.branch [
      | else-n-ge1-via-then-n-ge1+else-n-most w ↦ omega (arith, same, few, w.if-n-most.false)
      | else-n-ge1-via-else-n-ge1 w ↦ omega (arith, same, some, w.if-n-ge1.false)
    ]

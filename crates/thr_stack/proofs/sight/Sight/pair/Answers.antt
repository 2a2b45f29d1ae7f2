use Rattle.std.proofs.Common.{◌≡◌, Ok, w64, to_z, of_z, ◌∙◌, ap, sym, arith}
use Rattle.std.proofs.lemmas.Int.{to_z-of_z, ints}
use mir.Val.{SFits}
use Rattle.thr_remainder.specs.Expressions.{value_in, two_values}
use Rattle.thr_stack.specs.Sights.{shared_of, seen}
use Rattle.thr_stack.proofs.sight.Sight.pair.Goals as goal

pub returns : goal.returns
returns c =
    let sight = seen c.args.self.now.lines.now c.args.self.now.context.now (shared_of c.args.self.now.shared.now) in
    let m = c.in-Some.m in
    let n = c.in-Some-leaf.n in
    let m_fits : SFits w64 m = search (arith, ints) in
    let n_fits : SFits w64 n = search (arith, ints) in
    let m_back : m ≡ to_z w64 (of_z w64 m) = sym (to_z-of_z w64 m m_fits) in
    let n_back : n ≡ to_z w64 (of_z w64 n) = sym (to_z-of_z w64 n n_fits) in
    let first : value_in sight c.args.a.now ≡ Ok (to_z w64 (of_z w64 m)) = c.in-Some.ensures ∙ ap (λ k. Ok k) m_back in
    let second : value_in sight c.args.b.now ≡ Ok (to_z w64 (of_z w64 n)) = c.in-Some-leaf.ensures ∙ ap (λ k. Ok k) n_back in
    ap (λ v. two_values c.args.op v (value_in sight c.args.b.now)) first ∙ ap (λ v. two_values c.args.op (Ok (to_z w64 (of_z w64 m))) v) second ∙ sym c.apply.ensures

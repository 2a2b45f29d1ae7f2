use Rattle.std.proofs.Common.{rules, arith}
use Rattle.std.proofs.lemmas.Int.{to_z-of_z, ints}
use mir.Val.{SFits}
use mir.Syntax.{w64}
use Rattle.thr_shared.proofs.SharedLaws.{put-is}
use Rattle.thr_shared.proofs.shared.SharedVariables.put.Goals as goal

pub invariant_of-self : goal.invariant_of-self
invariant_of-self c =
    let fits : SFits w64 c.args.value = search (arith, ints) in
    (search rules, λ name. simp to_z-of_z (rw c.put.ensures (simp to_z-of_z (put-is c.self.inside.values.items c.self.inside.declared c.args.name.0 c.args.value (search rules) c.self.invariant.1 name))))

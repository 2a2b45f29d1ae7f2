use Rattle.std.proofs.Common.{◌≡◌, ℤ, ◌∙◌, ap, subst}
use Rattle.std.proofs.lemmas.Int.{to_z-of_z}
use Rattle.std.specs.Int.{FitsUnsignedBits}
use mir.Syntax.{w64}
use mir.Val.{to_z, of_z}
use Rattle.thr_threads.specs.Records.{named}
use Rattle.thr_threads.proofs.RecordLaws.{none_named}
use Rattle.thr_threads.proofs.records.Records.named.Goals as goal

pub returns-in-Err-clause-record : goal.returns-in-Err-clause-record
returns-in-Err-clause-record c =
    let back : to_z w64 (of_z w64 c.args.target) ≡ c.args.target = to_z-of_z w64 c.args.target c.ranges.target in
    none_named c.self.inside.keys c.self.inside.slab c.args.target c.self.invariant (subst (λ (z : ℤ). FitsUnsignedBits 32 z → ⊥) back c.in-Err.ensures)
    ∙ ap (λ m. named m c.args.target) c.self.view_is

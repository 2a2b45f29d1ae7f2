use Rattle.std.proofs.Common.{◌≡◌, ap, ◌∙◌, ℤ, to_z, of_z, w64}
use Rattle.std.proofs.lemmas.Int.{to_z-of_z}
use Rattle.thr_parts.specs.declared.wait.Wait.{Wait}
use Rattle.thr_parts.specs.Tables.{Table}
use Rattle.thr_parts.specs.Conditions.{Conds}
use Rattle.thr_conds.specs.Due.{best_due}
use Rattle.thr_conds.proofs.DueLaws.{best_due_is}
use Rattle.thr_conds.proofs.conds.Conds.next_due.Goals as goal

pub returns : goal.returns
returns c =
    let back : to_z w64 (of_z w64 c.args.now) ≡ c.args.now = to_z-of_z w64 c.args.now c.ranges.now in
    c.best_due.ensures ∙ ap (λ (n : ℤ). best_due c.entries.result.now c.args.rows.now n) back
    ∙ ap (λ (w : Table Wait). best_due w c.args.rows.now c.args.now) (c.entries.ensures.entries ∙ ap (λ (cs : Conds). cs.waits) c.self.view_is)
    ∙ best_due_is c.args.self.now c.args.rows.now c.args.now

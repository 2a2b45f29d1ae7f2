use Rattle.std.proofs.Common.{sym, subst, arith}
use Rattle.thr_parts.specs.Tables.{IsCanonical}
use Rattle.thr_tables.proofs.RetainLaws.{canonical_left}
use Rattle.thr_tables.proofs.numbered.Numbered.retain.Goals as goal

pub invariant_of-self : goal.invariant_of-self
invariant_of-self g c =
    let kept = c.retain.ensures.filtered in
    (subst IsCanonical (sym kept.4) (canonical_left kept.0 c.self.inside.entries.items c.self.invariant.0), omega arith, omega arith)

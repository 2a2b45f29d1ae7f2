use Rattle.std.proofs.Common.{rules, sym, subst}
use Rattle.thr_parts.specs.Conditions.{Conds}
use Rattle.thr_conds.specs.Agreement.{WaitsAgree}
use Rattle.thr_conds.proofs.AgreementLaws.{place_for_wait}
use Rattle.thr_conds.proofs.conds.Conds.begin.Goals as goal

pub put-requires : goal.put-requires
put-requires c =
    let agrees : WaitsAgree _ c.args.rows.now = subst (λ (cs : Conds). WaitsAgree cs c.args.rows.now) (sym c.self.view_is) c.requires.agrees in
    (search rules, place_for_wait _ c.args.rows.now c.args.t.0 agrees c.len-waits.ensures.rises c.len-seats.ensures.within)

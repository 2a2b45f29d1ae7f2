use Rattle.std.proofs.Common.{rules, sym, subst}
use Rattle.thr_parts.specs.Pipes.{Pipes}
use Rattle.thr_pipes.specs.Agreement.{WritersAgree}
use Rattle.thr_pipes.proofs.AgreementLaws.{place_for_writer}
use Rattle.thr_pipes.proofs.pipes.Pipes.wait.Goals as goal

pub put-requires : goal.put-requires
put-requires c =
    let agrees : WritersAgree _ c.args.rows.now = subst (λ (ps : Pipes). WritersAgree ps c.args.rows.now) (sym c.self.view_is) c.requires.agrees in
    (search rules, place_for_writer _ c.args.rows.now c.args.t.0 agrees c.len-writers.ensures.rises c.len-seats.ensures.within)

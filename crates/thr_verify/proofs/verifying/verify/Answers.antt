use Rattle.thr_verify.proofs.Said.{all_legal, all_meet}
use Rattle.thr_verify.proofs.verifying.verify.Goals as goal

pub returns-clause-legal : goal.returns-clause-legal
returns-clause-legal c =
    all_legal c.args.j.now (c.a_line_differs_exactly_where_the_history_is_not_legal.ensures.journal c.args.j.now) c.requires c.judged.result c.judged.ensures

pub returns-clause-laws : goal.returns-clause-laws
returns-clause-laws c =
    all_meet c.args.j.now c.legal_histories_meet_the_laws.ensures (c.a_line_differs_exactly_where_the_history_is_not_legal.ensures.journal c.args.j.now) c.requires c.judged.result c.judged.ensures

use Rattle.std.proofs.Common.{◌∙◌, ap, sym, ◌||◌, ◌&&◌}
use Rattle.thr_parts.specs.declared.row.Place.{Place}
use Rattle.thr_parts.specs.Dispatch.{gives_way, outranks, matches_rank}
use Rattle.thr_rows.proofs.BestLaws.{yields}
use Rattle.thr_rows.proofs.rows.Rows.gives_way.Goals as goal

pub returns-in-Runs : goal.returns-in-Runs
returns-in-Runs c =
    c.yields_to.ensures ∙ ap (λ s. outranks c.args.seat.rank c.best_entry-best.result || (s && matches_rank c.args.seat.rank c.best_entry-best.result)) c.is_spent.ensures
    ∙ yields c.args.self.now c.args.seat.rank _ c.best_entry-best.result c.best_entry-best.ensures.best
    ∙ ap (λ (p : Place). gives_way c.args.self.now c.args.fifo c.args.seat.rank p) (sym c.in-Runs.is)

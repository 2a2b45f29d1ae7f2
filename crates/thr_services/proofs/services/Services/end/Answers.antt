use Rattle.std.proofs.Common.{◌≡◌, ◌∙◌, ap, ℤ, to_z, of_z, w64}
use Rattle.std.proofs.lemmas.Int.{to_z-of_z}
use Rattle.thr_values.specs.declared.reply.Reply.TheVariants as reply
use Rattle.thr_parts.specs.declared.row.RowId.TheVariants as row
use Rattle.thr_parts.specs.Moves.{free_row}
use Rattle.thr_parts.specs.Threads.{rank_at, set_ended}
use Rattle.thr_services.specs.declared.debt.Debt.TheVariants as debt
use Rattle.thr_services.specs.Ready.{debts_all}
use Rattle.thr_services.specs.contracts.services.Services.{the_view}
use Rattle.thr_services.proofs.TurnLaws.{ended}
use Rattle.thr_services.proofs.services.Services.end.Goals as goal

pub returns : goal.returns
returns c =
    let back : to_z w64 (of_z w64 c.args.value) ≡ c.args.value = to_z-of_z w64 c.args.value c.ranges.value in
    ended (the_view c.self.inside) c.args.self.now c.args.t c.args.value _ _ _ _ c.free_row.ensures.rows
    (c.free_row.ensures.debts ∙ ap (λ (n : ℤ). debts_all c.self.inside.debts (debt.Return (reply.Value n)) (free_row (rank_at c.self.inside.threads) c.self.inside.rows (row.Join c.args.t)).woken) back)
    c.leave.ensures.leaves (c.set_ended.ensures ∙ ap (λ (n : ℤ). set_ended c.self.inside.threads c.args.t n) back) c.self.view_is

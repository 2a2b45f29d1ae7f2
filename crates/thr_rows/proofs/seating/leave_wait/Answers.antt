use Rattle.std.proofs.Common.{◌∙◌, ap, sym, not, Option}
use Rattle.thr_parts.specs.declared.row.Seat.{Seat}
use Rattle.thr_rows.specs.Waits.{is_waiting}
use Rattle.thr_rows.proofs.AbleLaws.{waits_not}
use Rattle.thr_rows.proofs.seating.leave_wait.Goals as goal

pub returns-in-None : goal.returns-in-None
returns-in-None c = waits_not c.args.waits.now c.args.t.0 c.args.seat c.requires.known (ap (λ (o : Option Seat). is_waiting o) c.in-None.is) c.requires.rises

pub returns-else-not-can_run : goal.returns-else-not-can_run
returns-else-not-can_run c =
    waits_not c.args.waits.now c.args.t.0 c.args.seat c.requires.known
    (ap (λ (o : Option Seat). is_waiting o) c.in-Some.is ∙ ap not (sym c.can_run.ensures ∙ c.if-not-can_run.false)) c.requires.rises

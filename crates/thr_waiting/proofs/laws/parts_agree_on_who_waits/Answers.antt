use Rattle.std.proofs.Common.{◌∙◌, sym}
use Rattle.thr_parts.proofs.TableLaws.{has_get}
use Rattle.thr_waiting.proofs.Seated.{history_seated}
use Rattle.thr_waiting.proofs.Living.{seat_recorded, seat_not_ended, few_seats}
use Rattle.thr_waiting.proofs.WaitsKept.{history_waits, few_waits}
use Rattle.thr_waiting.proofs.WritersKept.{history_writers}
use Rattle.thr_waiting.proofs.laws.parts_agree_on_who_waits.Goals as goal

pub returns-clause-debts : goal.returns-clause-debts
returns-clause-debts c = λ s n x h t e. has_get x.state.rows.seats t ∙ (history_seated h).owers t (sym (has_get x.state.debts t) ∙ e)

pub returns-clause-records : goal.returns-clause-records
returns-clause-records c = λ s n x h t e. seat_recorded h t e

pub returns-clause-remainders : goal.returns-clause-remainders
returns-clause-remainders c = λ s n x h t. has_get x.state.remainders t ∙ (history_seated h).left t ∙ sym (has_get x.state.rows.seats t)

pub returns-clause-living : goal.returns-clause-living
returns-clause-living c = λ s n x h t th e at. seat_not_ended h t th e at

pub returns-clause-few : goal.returns-clause-few
returns-clause-few c = λ s n x h. few_seats h

pub returns-clause-waits : goal.returns-clause-waits
returns-clause-waits c = λ s n x h. history_waits h

pub returns-clause-writers : goal.returns-clause-writers
returns-clause-writers c = λ s n x h. history_writers h

pub returns-clause-waits_few : goal.returns-clause-waits_few
returns-clause-waits_few c = λ s n x h. few_waits h

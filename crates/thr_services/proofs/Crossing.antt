-- The thread service may go to another thread.
use denote.Param.Send.{IsSend, sendable}
use Rattle.std.proofs.Crossing.{crosses}
use Rattle.thr_tables.proofs.numbered.Numbered.TheSendSync as numbered
use Rattle.thr_threads.proofs.Crossing.{threads_send}
use Rattle.thr_rows.proofs.Crossing.{rows_send}
use Rattle.thr_locks.proofs.Crossing.{locks_send}
use Rattle.thr_conds.proofs.Crossing.{conds_send}
use Rattle.thr_once.proofs.Crossing.{onces_send}
use Rattle.thr_pipes.proofs.Crossing.{pipes_send}
use Rattle.thr_services.proofs.debt.Debt.TheSendSync as debt
use Rattle.thr_services.specs.contracts.debts.Debts as debts
use Rattle.thr_services.specs.contracts.services.Services as services

pub debts_send : IsSend debts.the_row
debts_send = search (debt.the_send, numbered.the_send, crosses, sendable) depth 60 fits 20000

pub services_send : IsSend (services.the_field).row
services_send = search (threads_send, rows_send, locks_send, conds_send, onces_send, pipes_send, debts_send, crosses, sendable) depth 60 fits 20000

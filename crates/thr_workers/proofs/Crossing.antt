-- What the workers share.
use denote.RattleType.{RattleType}
use denote.Param.Send.{IsSync, sendable}
use Rattle.std.proofs.Crossing.{crosses}
use Rattle.std.proofs.sync.Mutex.TheSendSync as mutexes
use Rattle.thr_holds.proofs.Crossing.{locked_send}
use Rattle.thr_workers.specs.contracts.worker.Monitor as monitor

-- the workers may share the monitor, whatever the names
pub monitor_sync : (N : RattleType) (naming : _) (ledger : _) → IsSync (monitor.the_row N naming ledger)
monitor_sync N naming ledger = search (locked_send, mutexes.the_sync, crosses, sendable) depth 60 fits 20000

-- What lies under the lock may go to another thread.
use denote.RattleType.{RattleType}
use denote.Param.Send.{IsSend, sendable}
use Rattle.std.proofs.Crossing.{crosses}
use Rattle.std.proofs.sync.ledger.Book.TheSendSync as tally
use Rattle.thr_machine.proofs.Crossing.{book_send}
use Rattle.thr_holds.specs.contracts.locked.Locked as locked

-- whatever the names
pub locked_send : (N : RattleType) (naming : _) (ledger : _) → IsSend (locked.the_row N naming ledger)
locked_send N naming ledger = search (book_send, tally.the_send, crosses, sendable) depth 60 fits 20000

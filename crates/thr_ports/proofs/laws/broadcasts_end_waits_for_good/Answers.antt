use Rattle.thr_ports.proofs.Broadcasts.{law_broadcasts}
use Rattle.thr_ports.proofs.SignalHistories.{legal_signals}
use Rattle.thr_ports.proofs.laws.broadcasts_end_waits_for_good.Goals as goal

pub returns-clause-legal : goal.returns-clause-legal
returns-clause-legal c = λ s n entries stop legal t. law_broadcasts entries (legal_signals legal) t

pub returns-clause-lines : goal.returns-clause-lines
returns-clause-lines c = law_broadcasts

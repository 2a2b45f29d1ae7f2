use Rattle.thr_ports.proofs.SignalHistories.{history_signals, legal_signals}
use Rattle.thr_ports.proofs.laws.signals_end_waits.Goals as goal

pub returns-clause-legal : goal.returns-clause-legal
returns-clause-legal c = λ s n entries stop legal. legal_signals legal

pub returns-clause-all : goal.returns-clause-all
returns-clause-all c = λ s n x h. history_signals h

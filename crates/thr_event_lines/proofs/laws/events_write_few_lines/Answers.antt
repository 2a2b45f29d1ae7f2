use Rattle.thr_event_lines.proofs.FewLines.{turn_few, event_few}
use Rattle.thr_event_lines.proofs.laws.events_write_few_lines.Goals as goal

pub returns-clause-turn : goal.returns-clause-turn
returns-clause-turn c = λ s n x h p made e. turn_few s n x h p made e

pub returns-clause-event : goal.returns-clause-event
returns-clause-event c = λ s n x h e made m. event_few s n x h e made m

use Rattle.thr_machine.proofs.OpeningLaws.{fits-formed, pipes-formed}
use Rattle.thr_machine.proofs.opening.names_fit.Goals as goal

pub returns-clause-shared : goal.returns-clause-shared
returns-clause-shared c = λ s f. fits-formed s (c.names_are_of_their_kinds.ensures.item s f) (c.lines_and_names_are_few.ensures.below s f) (c.lines_and_names_are_few.ensures.names s f)

pub returns-clause-pipes : goal.returns-clause-pipes
returns-clause-pipes c = λ s f. pipes-formed s (c.names_are_of_their_kinds.ensures.item s f) (c.lines_and_names_are_few.ensures.below s f) (c.lines_and_names_are_few.ensures.names s f)

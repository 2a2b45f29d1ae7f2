use Rattle.thr_counts.proofs.EventLines.{made_line}
use Rattle.thr_counts.proofs.ThreadNumbers.{numbers}
use Rattle.thr_counts.proofs.Depths.{depths}
use Rattle.thr_counts.proofs.ScopesGiven.{scopes_given}
use Rattle.thr_counts.proofs.laws.counts_rise_with_the_lines.Goals as goal

pub returns-clause-lines : goal.returns-clause-lines
returns-clause-lines c = made_line

pub returns-clause-numbers : goal.returns-clause-numbers
returns-clause-numbers c = λ s n x h. numbers h

pub returns-clause-depths : goal.returns-clause-depths
returns-clause-depths c = depths

pub returns-clause-scopes : goal.returns-clause-scopes
returns-clause-scopes c = scopes_given

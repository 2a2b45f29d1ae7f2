use Rattle.thr_verdict.proofs.RightLines.{right_text, journal_text}
use Rattle.thr_verdict.proofs.laws.right_journals_have_texts_of_legal_histories.Goals as goal

pub returns-clause-place : goal.returns-clause-place
returns-clause-place c = right_text

pub returns-clause-line : goal.returns-clause-line
returns-clause-line c = journal_text

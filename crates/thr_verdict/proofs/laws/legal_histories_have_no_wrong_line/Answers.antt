use Rattle.thr_verdict.proofs.LegalLines.{none_wrong, no_line_differs, differs_not_legal}
use Rattle.thr_verdict.proofs.laws.legal_histories_have_no_wrong_line.Goals as goal

pub returns-clause-place : goal.returns-clause-place
returns-clause-place c = none_wrong

pub returns-clause-line : goal.returns-clause-line
returns-clause-line c = no_line_differs

pub returns-clause-differs : goal.returns-clause-differs
returns-clause-differs c = differs_not_legal

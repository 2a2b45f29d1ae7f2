-- The words that a definition of reports, verdicts, made scripts and formed journals unfolds to compute.
use Rattle.thr_syntax.specs.Computing.{tree_words}
use Rattle.thr_syntax.specs.Folds.{each_expr, each_stmt}
use Rattle.thr_text.specs.Computing.{text_words}
use Rattle.thr_model.specs.Computing.{model_words}
use Rattle.thr_verdict.specs.FirstWrong.{wrong_in}
use Rattle.thr_verdict.specs.Report.{counts_text}
use Rattle.thr_verdict.specs.Verdicts.{lines_below, verdict_text}
use Rattle.thr_verdict.specs.Made.{numbers_from}
use Rattle.thr_verdict.specs.FormedJournals.{is_formed_what}

unfoldable pub verdict_words : Unit {0}
unfolding tree_words each_expr each_stmt text_words model_words wrong_in counts_text lines_below verdict_text numbers_from is_formed_what
verdict_words = tt

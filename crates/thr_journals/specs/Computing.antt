-- The words that a definition of journals as texts unfolds to compute.
use Rattle.thr_text.specs.Computing.{text_words}
use Rattle.thr_journals.specs.Numbers.{is_shortest, number_of}
use Rattle.thr_journals.specs.Lines.{line_word, arguments, said_by, below}
use Rattle.thr_journals.specs.Faults.{history_faults, faults}
use Rattle.thr_journals.specs.Reading.{history_in}

unfoldable pub journal_words : Unit {0}
unfolding text_words is_shortest number_of line_word arguments said_by below history_faults faults history_in
journal_words = tt

-- What `run` writes (docs/journal.md, "The verdict").
use Rattle.std.specs.Prelude.{◌≡◌, ℕ, ◌≤◌, List}
use Rattle.thr_syntax.specs.declared.journal.Journal.{Journal}
use Rattle.thr_text.specs.Journals as journals
use Rattle.thr_text.specs.Reading.{Formed}
use Rattle.thr_model.specs.Histories.{Legal}

-- The bytes are the text of the journal of a legal history, of a script that keeps the rules and on 1 to 16 processors
-- (docs/journal.md, "The verdict").
pub record IsWritten (bytes : List ℕ) (j : Journal) : Type 0 where
  pub formed : Formed j.script
  pub some_worker : 1 ≤ j.workers
  pub few_workers : j.workers ≤ 16
  pub legal : Legal j.script j.workers j.entries j.stop
  pub text : bytes ≡ journals.text j.script j.workers j.entries j.stop

-- A journal on a book (docs/journal.md, "The verdict").
use Rattle.std.specs.Prelude.{◌≡◌, ℕ, suc, ◌+◌, ◌<◌, ◌≤◌, drop, length, Option, Some, None}
use Rattle.std.specs.Option.{option_map}
use Rattle.thr_values.specs.declared.event.Event.{Event}
use Rattle.thr_values.specs.declared.history.Who.{Who}
use Rattle.thr_syntax.specs.declared.journal.Journal.{Journal}
use Rattle.thr_text.specs.Reading.{Formed}
use Rattle.thr_verdict.specs.FirstWrong as verdict
use Rattle.thr_verdict.specs.FirstWrong.{event_of, wrong_in, wrong_of}
use Rattle.thr_machine.specs.Views.{BookView}
use Rattle.thr_machine.specs.Books.{Makes}
use Rattle.thr_comparing.specs.declared.wrong.Wrong.{Wrong}
use Rattle.thr_verify.specs.declared.replay.Step.{Step}
use Rattle.thr_verify.specs.declared.replay.Step.TheVariants as step
use Rattle.thr_comparing.specs.Wrongs.{told}

-- The event that this names was made.
pub record MakesNamed (old new : BookView) (w : Who) : Type 0 where
  pub event : Event
  pub named : event_of old.state w ≡ Some event
  pub makes : Makes old new event

-- How many lines a book has at most that made events where no stop held.
abbrev pub most_replayed : ℕ
most_replayed = 1001160

-- The book is over the journal's script and workers, goes on, and has no more lines than the journal.
pub record IsReplayed (j : Journal) (b : BookView) : Type 0 where
  pub formed : Formed j.script
  pub script : b.script ≡ j.script
  pub workers : b.workers ≡ j.workers
  pub going : b.stopped ≡ None
  pub fits : length b.entries ≤ length j.entries
  pub few : length b.entries ≤ most_replayed

-- What is wrong first from where the book is, where so many events may come.
abbrev pub left_wrong : Journal → BookView → ℕ → Option verdict.Wrong
left_wrong j b k = wrong_in k j.script j.workers j.stop (length b.entries) b.state (drop (length b.entries) j.entries)

-- The book made an event whose lines stand in the journal.
pub record GoesOn (j : Journal) (old new : BookView) : Type 0 where
  pub replayed : IsReplayed j new
  pub more : length old.entries < length new.entries
  pub same : (k : ℕ) → left_wrong j old (suc k) ≡ left_wrong j new k

-- The place is that of a line of the journal or of its stop.
abbrev pub IsPlaced : Journal → Option Wrong → Type 0
IsPlaced j None = Unit {0}
IsPlaced j (Some w) = (1 ≤ w.place) × (w.place ≤ length j.entries + 1) × (w.place ≤ most_replayed + 1161)

-- What is wrong first from where the book is.
pub record EndsWith (j : Journal) (b : BookView) (w : Option Wrong) : Type 0 where
  pub wrong : (k : ℕ) → left_wrong j b (suc k) ≡ option_map told w
  pub placed : IsPlaced j w

-- What comes of one event.
abbrev pub StepsSo : Journal → (old new : BookView) → Step → Type 0
StepsSo j old new step.Goes = GoesOn j old new
StepsSo j old new (step.Ends w) = EndsWith j old w

-- What is wrong first in the journal is what is wrong first from where the book is.
pub record IsLeft (j : Journal) (b : BookView) : Type 0 where
  pub events : ℕ
  pub enough : length j.entries < events + length b.entries
  pub same : wrong_of j.script j.workers j.entries j.stop ≡ left_wrong j b events

-- How a command ends (docs/theorems.md, "The top call").
use Rattle.std.specs.Prelude.{◌≡◌, ℕ, List, [], ◌∷◌, ◌++◌, take, Option}
use Rattle.std.specs.Io.KnownBytes.{Appends}

-- A text of one line.
abbrev pub one_line : List ℕ → List ℕ
one_line text = text ++ 10 ∷ []

-- The text was written and this is its status, or the write failed with a part of the text written, which is status 4.
pub data Writes (old new : Option (List ℕ)) (status wanted : ℕ) (written : List ℕ) : Type 0 where
  whole : status ≡ wanted → Appends old new written → Writes old new status wanted written
  failed : status ≡ 4 → (n : ℕ) → Appends old new (take n written) → Writes old new status wanted written

-- How a command ends, whose answers are these: its input was not read, or an answer was written.
pub data Ends (Answers : ℕ → List ℕ → Type 0) (old new : Option (List ℕ)) (status : ℕ) : Type 0 where
  unread : status ≡ 3 → Appends old new [] → Ends Answers old new status
  answered : (wanted : ℕ) (written : List ℕ) → Answers wanted written → Writes old new status wanted written → Ends Answers old new status

-- How a command ends that reads nothing, whose answers are these.
pub record Gives (Answers : ℕ → List ℕ → Type 0) (old new : Option (List ℕ)) (status : ℕ) : Type 0 where
  pub wanted : ℕ
  pub written : List ℕ
  pub answers : Answers wanted written
  pub writes : Writes old new status wanted written

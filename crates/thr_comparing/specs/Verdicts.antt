-- Verdicts as contracts see them (docs/journal.md, "The verdict").
use Rattle.std.specs.Prelude.{◌≡◌, ℕ, List, [], ◌∷◌, ◌++◌, codes, Option, Some, None}
use Rattle.std.specs.Fmt.{decimal}
use Rattle.std.specs.List.{join_with_byte}
use Rattle.std.specs.Option.{option_map}
use Rattle.thr_syntax.specs.declared.journal.Journal.{Journal}
use Rattle.thr_syntax.specs.Canon.{line}
use Rattle.thr_text.specs.Journals.{Names}
use Rattle.thr_verdict.specs.Verdicts as verdict
use Rattle.thr_verdict.specs.Verdicts.{JournalLine, line_words}
use Rattle.thr_verdict.specs.FirstWrong.{first_wrong}
use Rattle.thr_comparing.specs.declared.verdict.Differs.{Differs}
use Rattle.thr_comparing.specs.declared.verdict.Verdict.{Verdict}
use Rattle.thr_comparing.specs.declared.verdict.Verdict.TheVariants.{Legal, Illegal}

-- The text of a line without its end.
abbrev pub line_text : Names → JournalLine → List ℕ
line_text names l = join_with_byte 32 (line_words names l)

-- The value says which line differs, what stands there and what is to stand there.
pub record IsText (names : Names) (w : verdict.Differs) (d : Differs) : Type 0 where
  pub line : d.line ≡ w.line
  pub has : d.has ≡ line_text names w.has
  pub should : d.should ≡ option_map (line_text names) w.should

-- The first line of the journal that differs is told by this value.
pub record IsFirst (j : Journal) (d : Differs) : Type 0 where
  pub first : verdict.Differs
  pub is : first_wrong j ≡ Some first
  pub text : IsText j.script.names first d

-- The verdict on a journal: legal where no line differs, and else the first that does.
abbrev pub IsVerdict : Journal → Verdict → Type 0
IsVerdict j Legal = first_wrong j ≡ None
IsVerdict j (Illegal d) = IsFirst j d

-- ---- the text of a verdict

-- The line with the number of the line that differs.
abbrev pub number_line : ℕ → List ℕ
number_line n = line (codes "illegal" ∷ codes "line" ∷ decimal n ∷ [])

-- What is to stand there, or `nothing`.
abbrev pub should_text : Option (List ℕ) → List ℕ
should_text None = codes "nothing"
should_text (Some text) = text

-- The three lines of a verdict that isn't legal.
abbrev pub difference_text : Differs → List ℕ
difference_text d =
    number_line d.line
    ++ (line (codes "has" ∷ d.has ∷ [])
    ++ line (codes "should" ∷ should_text d.should ∷ []))

-- The text of a verdict.
abbrev pub text_of : Verdict → List ℕ
text_of Legal = line (codes "legal" ∷ [])
text_of (Illegal d) = difference_text d

-- What it is that a place of a line is read as it is printed (docs/journal.md, "The lines").
use Rattle.std.specs.Prelude.{◌≡◌, ℕ, ◌<◌, ◌^◌, List, ◌++◌, Some}
use Rattle.thr_values.specs.declared.number.Line.{Line}
use Rattle.thr_values.specs.declared.number.Tid.{Tid}
use Rattle.thr_journals.specs.Fields.{Field}

-- What is read has its form and stands there as it is printed, and what has its form is read where it is printed, whatever
-- stands behind it.
pub record IsReadAsPrinted {A : Type 0} (field : Field A) (print : A → List (List ℕ)) (Fits : A → Type 0) : Type 0 where
  pub taken : (ws : List (List ℕ)) (x : A × List (List ℕ)) → field ws ≡ Some x → (ws ≡ print x.0 ++ x.1) × Fits x.0
  pub again : (a : A) (rest : List (List ℕ)) → Fits a → field (print a ++ rest) ≡ Some (a, rest)

-- Numbers of 64 bits, and lines and threads with numbers of 32 bits.
abbrev pub IsLong : ℕ → Type 0
IsLong n = n < 2 ^ 64

abbrev pub IsPlace : Line → Type 0
IsPlace l = l.0 < 2 ^ 32

abbrev pub IsThread : Tid → Type 0
IsThread t = t.0 < 2 ^ 32

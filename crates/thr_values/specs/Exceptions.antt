-- Exceptions: which are built in, and which match.
use Rattle.std.specs.Prelude.{◌≡◌, ℕ, List, [], ◌∷◌, codes}
use Rattle.thr_values.specs.declared.exception.Exc.{Exc}
use Rattle.thr_values.specs.declared.exception.Exc.TheVariants.{Address, Status}

-- The built-in address exceptions in their order, which are the first ten names of each script (docs/script.md, "Names").
abbrev pub builtin_names : List (List ℕ)
builtin_names =
    codes "cancel_e" ∷ codes "badparam_e" ∷ codes "use_error_e" ∷ codes "existence_e" ∷ codes "in_use_e"
    ∷ codes "exhaust_e" ∷ codes "pipe_e" ∷ codes "intovf_e" ∷ codes "intdiv_e" ∷ codes "stackovf_e" ∷ []

abbrev pub builtin : ℕ → Exc
builtin n = Address (record { 0 = n })

abbrev pub cancel_e : Exc
cancel_e = builtin 0

abbrev pub badparam_e : Exc
badparam_e = builtin 1

abbrev pub use_error_e : Exc
use_error_e = builtin 2

abbrev pub existence_e : Exc
existence_e = builtin 3

abbrev pub in_use_e : Exc
in_use_e = builtin 4

abbrev pub exhaust_e : Exc
exhaust_e = builtin 5

abbrev pub pipe_e : Exc
pipe_e = builtin 6

abbrev pub intovf_e : Exc
intovf_e = builtin 7

abbrev pub intdiv_e : Exc
intdiv_e = builtin 8

abbrev pub stackovf_e : Exc
stackovf_e = builtin 9

-- Two address exceptions match if they are the same object, two status exceptions if their numbers are equal
-- (docs/machine.md, "Exceptions").
abbrev pub IsSame : Exc → Exc → Type 0
IsSame (Address a) (Address b) = a ≡ b
IsSame (Status m) (Status n) = m ≡ n
IsSame (Address a) (Status n) = ⊥
IsSame (Status m) (Address b) = ⊥

-- Tests on numbers and exceptions, and what they decide.
use Rattle.std.proofs.Common.{◌<◌, ◌^◌, ◌↔◌, ℕ, ℤ, pos, negsuc, IsTrue, nat_lt, ap, arith}
use Rattle.std.proofs.lemmas.Bool.{false≢true}
use Rattle.std.proofs.lemmas.Bool.Decides.{nat_tests}
use Rattle.std.specs.Prelude.{FitsSigned}
use Rattle.std.specs.Int.{w64}
use Rattle.std.specs.Cmp.{signed_Decides, unsigned_Decides}
use Rattle.thr_values.specs.declared.number.NameId.{NameId}
use Rattle.thr_values.specs.declared.exception.Exc.{Exc}
use Rattle.thr_values.specs.declared.exception.Exc.TheVariants.{Address, Status}
use Rattle.thr_values.specs.Exceptions.{IsSame}
use Rattle.thr_remainder.specs.Expressions.{is_same, fits}

pub is_same-IsSame : (x y : Exc) → IsTrue (is_same x y) ↔ IsSame x y
is_same-IsSame (Address a) (Address b) = (
  λ e. ap (λ (n : ℕ). let name : NameId = record { 0 = n } in name) ((unsigned_Decides a.0 b.0).0 e),
  λ e. (unsigned_Decides a.0 b.0).1 (ap (λ (name : NameId). name.0) e),
)
is_same-IsSame (Status m) (Status n) = signed_Decides m n
is_same-IsSame (Address a) (Status n) = (λ e. absurd (false≢true e), λ e. absurd e)
is_same-IsSame (Status m) (Address b) = (λ e. absurd (false≢true e), λ e. absurd e)

below : (n k : ℕ) → IsTrue (nat_lt n k) → n < k
below n k e = grind (arith, nat_tests)

test_below : (n k : ℕ) → n < k → IsTrue (nat_lt n k)
test_below n k e = grind (arith, nat_tests)

pub fits-FitsSigned : (z : ℤ) → IsTrue (fits z) ↔ FitsSigned w64 z
fits-FitsSigned (pos n) = (λ e. record { sfits = below n (2 ^ 63) e }, λ e. test_below n (2 ^ 63) e.sfits)
fits-FitsSigned (negsuc n) = (λ e. record { sfits = below n (2 ^ 63) e }, λ e. test_below n (2 ^ 63) e.sfits)

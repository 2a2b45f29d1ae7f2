-- In every history unwindings have numbers that were given.
use Rattle.std.proofs.Common.{◌≡◌, ℕ, List, ◌∷◌, Some, subst}
use Rattle.thr_values.specs.declared.number.Tid.{Tid}
use Rattle.thr_syntax.specs.declared.tree.Script.{Script}
use Rattle.thr_remainder.specs.declared.unwinding.Unwinding.{Unwinding}
use Rattle.thr_remainder.specs.Remainders.{Item, Setting, Remainder}
use Rattle.thr_remainder.specs.Outward.{outward, undone}
use Rattle.thr_remainder.proofs.StepsKept.{IsKeptBySteps}
use Rattle.thr_parts.specs.Tables.{get}
use Rattle.thr_parts.proofs.EachLaws.{Each}
use Rattle.thr_model.specs.States.{State, remainder_of}
use Rattle.thr_model.specs.Histories.{Execution, History}
use Rattle.thr_model.proofs.RemaindersKept.{IsKeptByTurns, remainder_has, history_has}
use Rattle.thr_cancels.proofs.Numbers.{AreItems, IsUnwinding, HasNumbers, IsOutward, quiet_keeps, shared_keeps, outward_out, once_keeps, destructor_keeps, raised_keeps, delivered_keeps, replied_keeps, fresh_has}

outward_keeps : (g : Setting) (u : Unwinding) (r : Remainder) → r.under_way ≡ Some u → HasNumbers r → HasNumbers (outward g u r).to
outward_keeps g u r e h = let out : IsOutward (outward g u r) = outward_out g u r (subst IsUnwinding e h.under) h in out.numbers

undone_keeps : (scope : ℕ) (i : Item) (u : Unwinding) (outer : List Item) (r : Remainder) → r.items ≡ i ∷ outer → HasNumbers r → HasNumbers (undone scope u outer r).to
undone_keeps scope i u outer r e h = let items : AreItems (i ∷ outer) = subst AreItems e h.items in record { items = items.1; under = h.under }

numbers_by_steps : IsKeptBySteps (λ s. HasNumbers)
numbers_by_steps = record {
  begins = fresh_has;
  steps = quiet_keeps;
  shares = shared_keeps;
  goes = outward_keeps;
  undoes = λ g scope block routine left u outer r e h. undone_keeps scope _ u outer r e h;
  replies = replied_keeps;
  runs = λ g block routine r after asks h more. once_keeps g block routine after more;
  destroys = destructor_keeps;
  raises = λ s. raised_keeps;
  delivers = λ s. delivered_keeps;
}

numbers_by_turns : IsKeptByTurns (λ s. HasNumbers)
numbers_by_turns = record { kept = numbers_by_steps; nothing = λ s. record { items = tt; under = tt } }

pub remainder_numbered : (s : Script) (st : State) (t : Tid) → Each HasNumbers st.remainders → HasNumbers (remainder_of st t)
remainder_numbered s st t h = remainder_has (λ s. HasNumbers) numbers_by_turns s st t h

-- In every history the unwindings of each thread have such numbers.
pub numbers-given : {s : Script} {n : ℕ} {x : Execution} → History s n x → (t : ℕ) (r : Remainder) → get x.state.remainders t ≡ Some r → HasNumbers r
numbers-given h = history_has (λ s. HasNumbers) numbers_by_turns h

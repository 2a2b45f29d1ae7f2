-- States in which threads that wait or owe have no unwinding under way (docs/machine.md, "What threads owe").
use Rattle.std.specs.Prelude.{◌≡◌, ℕ, ℤ, List, [], ◌∷◌, Option, Some, None}
use Rattle.thr_values.specs.declared.number.NameId.{NameId}
use Rattle.thr_values.specs.declared.number.Tid.{Tid}
use Rattle.thr_values.specs.declared.history.What.TheVariants as what
use Rattle.thr_values.specs.declared.history.Entry.{Entry}
use Rattle.thr_syntax.specs.declared.dce.DceCall.{DceCall}
use Rattle.thr_syntax.specs.declared.tree.Script.{Script}
use Rattle.thr_remainder.specs.Remainders.{Remainder}
use Rattle.thr_parts.specs.Tables.{get}
use Rattle.thr_parts.specs.Dispatch.{running}
use Rattle.thr_model.specs.States.{State, Debt}
use Rattle.thr_model.specs.Calls.{answered}
use Rattle.thr_model.specs.Turns.{thread_line, gift_lines}
use Rattle.thr_model.specs.Events.{clock_line, clock_to}
use Rattle.thr_model.specs.Histories.{Execution, History}

-- The thread has something left to do.
abbrev pub IsThere : State → ℕ → Type 0
IsThere st t = (r : Remainder) × (get st.remainders t ≡ Some r)

-- The thread has something left to do, and no unwinding is under way in it.
abbrev pub IsCalm : State → ℕ → Type 0
IsCalm st t = (r : Remainder) × (get st.remainders t ≡ Some r) × (r.under_way ≡ None)

-- The line is the clock's, or tells of a mutex that is given to such a thread.
pub data IsCalmGift (st : State) : Entry → Type 0 where
  of_clock : (n : ℤ) → IsCalmGift st (clock_line n)
  to_thread : (t : Tid) (m : Option NameId) → IsCalm st t.0 → IsCalmGift st (thread_line t (what.Gift m))

abbrev pub AreCalmGifts : State → List Entry → Type 0
AreCalmGifts st [] = Unit {0}
AreCalmGifts st (e ∷ entries) = IsCalmGift st e × AreCalmGifts st entries

-- Threads that run have something left to do, threads that owe have no unwinding under way, and mutexes are given to such threads
-- alone.
pub record IsSound (s : Script) (st : State) : Type 0 where
  pub runs : (p : ℕ) (t : Tid) → running st.rows p ≡ Some t → IsThere st t.0
  pub owes : (t : ℕ) (d : Debt) → get st.debts t ≡ Some d → IsCalm st t
  pub call_gifts : (p : ℕ) (t : Tid) (call : DceCall) (ns : List ℤ) → running st.rows p ≡ Some t → get st.debts t.0 ≡ None → AreCalmGifts st (gift_lines (answered s st t call ns).gifts)
  pub clock_gifts : (now : ℤ) → AreCalmGifts st (clock_to st now).lines

-- So it is in each history of the script on n processors.
pub record StaysSound (s : Script) (n : ℕ) : Type 0 where
  pub sound : (x : Execution) → History s n x → IsSound s x.state

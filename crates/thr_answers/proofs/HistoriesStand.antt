-- In every history what is left in each thread stands at its lines.
use Rattle.std.proofs.Common.{◌≡◌, ℕ, List, ◌∷◌, Some, subst}
use Rattle.thr_values.specs.declared.number.Tid.{Tid}
use Rattle.thr_values.specs.declared.scheduling.Mode.{Mode}
use Rattle.thr_syntax.specs.declared.tree.Script.{Script}
use Rattle.thr_syntax.specs.Lines.{lines_of}
use Rattle.thr_remainder.specs.declared.unwinding.Unwinding.{Unwinding}
use Rattle.thr_remainder.specs.Remainders.{Item, Setting, Remainder}
use Rattle.thr_remainder.specs.Outward.{undone}
use Rattle.thr_remainder.specs.Runs.{run_of}
use Rattle.thr_remainder.proofs.StepsKept.{IsKeptBySteps, RunKeeps, run_keeps}
use Rattle.thr_parts.specs.Tables.{get}
use Rattle.thr_parts.proofs.EachLaws.{Each}
use Rattle.thr_model.specs.States.{State, remainder_of}
use Rattle.thr_model.specs.Histories.{Execution, History}
use Rattle.thr_model.proofs.RemaindersKept.{IsKeptByTurns, remainder_has, history_has}
use Rattle.thr_answers.specs.Standing.{AreItems, StandsIn}
use Rattle.thr_answers.proofs.StepsStand.{fresh_stands, quiet_keeps, shared_keeps, outward_keeps, replied_keeps, once_keeps, destructor_keeps}

undone_keeps : (g : Setting) (scope : ℕ) (i : Item) (u : Unwinding) (outer : List Item) (r : Remainder) → r.items ≡ i ∷ outer → StandsIn g.script r → StandsIn g.script (undone scope u outer r).to
undone_keeps g scope i u outer r e h = let items : AreItems (lines_of g.script) (i ∷ outer) = subst (AreItems (lines_of g.script)) e h.items in record { items = items.2 }

stands_by_steps : IsKeptBySteps StandsIn
stands_by_steps = record {
  begins = fresh_stands;
  steps = quiet_keeps;
  shares = shared_keeps;
  goes = λ g u r e h. outward_keeps g u r h;
  undoes = λ g scope block routine left u outer r e h. undone_keeps g scope _ u outer r e h;
  replies = replied_keeps;
  runs = λ g block routine r after asks h more. once_keeps g block routine after more;
  destroys = destructor_keeps;
  raises = λ s x r h. record { items = h.items };
  delivers = λ s r h. record { items = h.items };
}

stands_by_turns : IsKeptByTurns StandsIn
stands_by_turns = record { kept = stands_by_steps; nothing = λ s. record { items = tt } }

-- What is left after the quiet part of a turn stands at its lines.
pub run_stands : (g : Setting) (n : ℕ) (mode : Mode) (r : Remainder) → StandsIn g.script r → StandsIn g.script (run_of n g mode r).to
run_stands g n mode r h = let x : RunKeeps StandsIn g (run_of n g mode r) = run_keeps StandsIn stands_by_steps n g mode r h in x.to

pub remainder_stands : (s : Script) (st : State) (t : Tid) → Each (StandsIn s) st.remainders → StandsIn s (remainder_of st t)
remainder_stands s st t h = remainder_has StandsIn stands_by_turns s st t h

-- In every history what is left in each thread stands at its lines of the script.
pub left-stands : {s : Script} {n : ℕ} {x : Execution} → History s n x → (t : ℕ) (r : Remainder) → get x.state.remainders t ≡ Some r → StandsIn s r
left-stands h = history_has StandsIn stands_by_turns h

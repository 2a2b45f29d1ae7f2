-- What is wrong first between two events.
use Rattle.std.proofs.Common.{◌≡◌, ℕ, suc, ◌+◌, List, [], ◌∷◌, length, Option, Some, None, Ok, Err, ◌∙◌, ap}
use Rattle.std.specs.Prelude.{if◌then◌else◌}
use Rattle.thr_values.specs.declared.event.Stop.{Stop}
use Rattle.thr_values.specs.declared.event.Stop.TheVariants as stops
use Rattle.thr_values.specs.declared.history.Entry.{Entry}
use Rattle.thr_syntax.specs.declared.tree.Script.{Script}
use Rattle.thr_model.specs.States.{State}
use Rattle.thr_model.specs.Turns.{Made}
use Rattle.thr_model.specs.Histories.{stop_at}
use Rattle.thr_verdict.specs.Verdicts.{Stopped}
use Rattle.thr_verdict.specs.FirstWrong.{Wrong, wrong_after, made_at, lines_after, is_same_stop, goes_on, after_event, at_boundary, wrong_in}

module _ (k : ℕ) (s : Script) (n : ℕ) (stop : Stop) (count : ℕ) (st : State) where
  here : (rest : List Entry) (o : Option Stop) → stop_at s st count ≡ o → wrong_in (suc k) s n stop count st rest ≡ at_boundary (wrong_in k s n stop) s n stop o count st rest
  unfolding wrong_in
  here rest o e = ap (λ (o : Option Stop). at_boundary (wrong_in k s n stop) s n stop o count st rest) e

  -- A stop holds.
  pub stop_at_end : (holds : Stop) → stop_at s st count ≡ Some holds
      → wrong_in (suc k) s n stop count st [] ≡ (let o : Option Wrong = if is_same_stop holds stop then None else Some (wrong_after count (Some (Stopped holds))) in o)
  stop_at_end holds e = here [] (Some holds) e

  pub stop_before : (holds : Stop) (e : Entry) (rest : List Entry) → stop_at s st count ≡ Some holds → wrong_in (suc k) s n stop count st (e ∷ rest) ≡ Some (wrong_after count (Some (Stopped holds)))
  stop_before holds e rest is = here (e ∷ rest) (Some holds) is

  -- No stop holds.
  pub early_end : stop_at s st count ≡ None
      → wrong_in (suc k) s n stop count st [] ≡ (let o : Option Wrong = if is_same_stop stops.Memory stop then None else Some (wrong_after count None) in o)
  early_end e = here [] None e

  pub no_event : (e : Entry) (rest : List Entry) → stop_at s st count ≡ None → made_at s n st e.who ≡ None → wrong_in (suc k) s n stop count st (e ∷ rest) ≡ Some (wrong_after count None)
  no_event e rest open_ is = here (e ∷ rest) None open_ ∙ ap (after_event (wrong_in k s n stop) s.names count (e ∷ rest)) is

  pub event_stands : (e : Entry) (rest left : List Entry) (made : Made) → stop_at s st count ≡ None → made_at s n st e.who ≡ Some made → lines_after s.names count made.lines (e ∷ rest) ≡ Ok left
      → wrong_in (suc k) s n stop count st (e ∷ rest) ≡ wrong_in k s n stop (count + length made.lines) made.state left
  event_stands e rest left made open_ is told =
      here (e ∷ rest) None open_ ∙ ap (after_event (wrong_in k s n stop) s.names count (e ∷ rest)) is ∙ ap (goes_on (wrong_in k s n stop) count made) told

  pub event_differs : (e : Entry) (rest : List Entry) (made : Made) (w : Wrong) → stop_at s st count ≡ None → made_at s n st e.who ≡ Some made → lines_after s.names count made.lines (e ∷ rest) ≡ Err w
      → wrong_in (suc k) s n stop count st (e ∷ rest) ≡ Some w
  event_differs e rest made w open_ is told =
      here (e ∷ rest) None open_ ∙ ap (after_event (wrong_in k s n stop) s.names count (e ∷ rest)) is ∙ ap (goes_on (wrong_in k s n stop) count made) told

-- How runs end.
use Rattle.std.proofs.Common.{◌≡◌, ◌<◌, ◌≤◌, ◌^◌, ℕ, List, [], ◌∷◌, ◌++◌, refl, sym, ap, ◌∙◌, subst, arith, append-nil, inl, inr}
use Rattle.std.proofs.lemmas.Fmt.{decimal_injective}
use Rattle.std.specs.Prelude.{◌≢◌, Option, Some, codes, ◌⊎◌}
use Rattle.std.specs.Fmt.{decimal, signed_decimal}
use Rattle.thr_values.specs.declared.event.Stop.{Stop}
use Rattle.thr_values.specs.declared.event.Stop.TheVariants as stops
use Rattle.thr_values.specs.declared.history.Entry.{Entry}
use Rattle.thr_syntax.specs.declared.tree.Script.{Script}
use Rattle.thr_text.specs.Reading.{Formed}
use Rattle.thr_model.specs.Histories.{Execution, History, Legal}
use Rattle.thr_machine.specs.Views.{BookView}
use Rattle.thr_holds.specs.Runs.{HasTurns, IsOver, HasCause}
use Rattle.thr_alone.specs.Only.{IsOnlyHistory}
use Rattle.thr_lawful.specs.Laws.{MeetsLaws}
use Rattle.thr_model.specs.States.{State, shared_values}
use Rattle.thr_verdict.specs.Made.{made, numbers_from, total, caught}
use Rattle.thr_endings.specs.Endings.{Ends, answered, unread, one_line}
use Rattle.thr_top.specs.Answers.{IsRun, IsRunStatus, Refuses, RunAnswers, CheckAnswers, IsMake, IsTrial, TrialAnswers, tried, status_of, no_memory, not_run, not_checked, shared_text, trial_workers}

pub no-memory-run : (n : ℕ) (input : List ℕ) → RunAnswers n input 5 []
no-memory-run n input = not_run (no_memory refl refl)

pub no-memory-check : (input : List ℕ) → CheckAnswers input 5 []
no-memory-check input = not_checked (no_memory refl refl)

-- An input that is refused for itself, by either command.
pub run-refused : (n : ℕ) (input : List ℕ) (old new : Option (List ℕ)) (status : ℕ) → Ends (Refuses input) old new status → Ends (RunAnswers n input) old new status
run-refused n input old new status (unread e a) = unread e a
run-refused n input old new status (answered w t r x) = answered w t (not_run r) x

pub check-refused : (input : List ℕ) (old new : Option (List ℕ)) (status : ℕ) → Ends (Refuses input) old new status → Ends (CheckAnswers input) old new status
check-refused input old new status (unread e a) = unread e a
check-refused input old new status (answered w t r x) = answered w t (not_checked r) x

-- ---- what a run meets

-- What holds of each legal history of a script holds of this one.
pub laws-of : ((s : Script) (n : ℕ) (es : List Entry) (stop : Stop) → Formed s → Legal s n es stop → MeetsLaws s es stop) → (s told : Script) (n : ℕ) (es : List Entry) (stop : Stop)
    → Formed s → told ≡ s → Legal told n es stop → MeetsLaws s es stop
laws-of laws s told n es stop formed same legal = laws s n es stop formed (subst (λ (x : Script). Legal x n es stop) same legal)

-- With one worker the history is the only one, where the law says so.
pub only-of : ((s : Script) (es : List Entry) (stop : Stop) → Legal s 1 es stop → stop ≢ stops.Memory → IsOnlyHistory s es stop) → (s told : Script) (n workers : ℕ) (es : List Entry) (stop : Stop) → told ≡ s → n ≡ workers
    → Legal told n es stop → stop ≢ stops.Memory → workers ≡ 1 → IsOnlyHistory s es stop
only-of law s told n workers es stop same count legal cause one =
    law s es stop (subst (λ (x : Script). Legal x 1 es stop) same (subst (λ (k : ℕ). Legal told k es stop) (count ∙ one) legal)) cause

-- a run's status, where the sink's fault is ruled out
pub runs-well : (status : ℕ) → IsRunStatus status ⊎ (status ≡ 4) → (status ≡ 4 → ⊥) → IsRunStatus status
runs-well status (inl e) never = e
runs-well status (inr e) never = absurd (never e)

-- ---- how many workers are asked for

second : List (List ℕ) → List ℕ
second [] = []
second (a ∷ []) = []
second (a ∷ b ∷ cs) = b

same-text : (words : List (List ℕ)) (a b : List ℕ) → words ≡ codes "run" ∷ a ∷ [] → words ≡ codes "run" ∷ b ∷ [] → a ≡ b
unfolding second
same-text words a b e f = ap second (sym e ∙ f)

-- The words ask for one number of workers.
pub one-number : (words : List (List ℕ)) (n m : ℕ) → IsRun words n → IsRun words m → n ≡ m
one-number words n m h g = decimal_injective n m (fits n h.few) (fits m g.few) (same-text words (decimal n) (decimal m) h.so g.so)
  where
    fits : (k : ℕ) → k ≤ 16 → k < 2 ^ 64
    fits k h = omega arith

-- What holds for the number that was read holds for each that the words ask for.
pub for-its-number : (words : List (List ℕ)) (n : ℕ) (P : ℕ → Type 0) → IsRun words n → P n → (m : ℕ) → IsRun words m → P m
for-its-number words n P h p m g = subst P (one-number words n m h g) p

-- ---- which script is to be made

third : List (List ℕ) → List ℕ
third [] = []
third (a ∷ []) = []
third (a ∷ b ∷ []) = []
third (a ∷ b ∷ c ∷ ds) = c

-- The words ask to make one script.
pub same-number : (words : List (List ℕ)) (n t m u : ℕ) → IsMake words n t → IsMake words m u → n ≡ m
unfolding second
same-number words n t m u h g = decimal_injective n m (omega (arith, h.fits)) (omega (arith, g.fits)) (ap second (sym h.so ∙ g.so))

pub same-workers : (words : List (List ℕ)) (n t m u : ℕ) → IsMake words n t → IsMake words m u → t ≡ u
unfolding third
same-workers words n t m u h g = decimal_injective t u (omega (arith, h.few)) (omega (arith, g.few)) (ap third (sym h.so ∙ g.so))

-- What holds for the numbers that were read holds for all that the words ask for.
pub for-its-script : (words : List (List ℕ)) (n t : ℕ) (P : ℕ → ℕ → Type 0) → IsMake words n t → P n t → (m u : ℕ) → IsMake words m u → P m u
for-its-script words n t P h p m u g = subst (λ (k : ℕ). P k u) (same-number words n t m u h g) (subst (P n) (same-workers words n t m u h g) p)

pub same-trial : (words : List (List ℕ)) (n t m u : ℕ) → IsTrial words n t → IsTrial words m u → n ≡ m
unfolding second
same-trial words n t m u h g = decimal_injective n m (omega (arith, h.fits)) (omega (arith, g.fits)) (ap second (sym h.so ∙ g.so))

pub same-runners : (words : List (List ℕ)) (n t m u : ℕ) → IsTrial words n t → IsTrial words m u → t ≡ u
unfolding third
same-runners words n t m u h g = decimal_injective t u (omega (arith, h.few)) (omega (arith, g.few)) (ap third (sym h.so ∙ g.so))

-- The same of a trial.
pub for-its-trial : (words : List (List ℕ)) (n t : ℕ) (P : ℕ → ℕ → Type 0) → IsTrial words n t → P n t → (m u : ℕ) → IsTrial words m u → P m u
for-its-trial words n t P h p m u g = subst (λ (k : ℕ). P k u) (same-trial words n t m u h g) (subst (P n) (same-runners words n t m u h g) p)

-- ---- the variables of a made script

-- The shared variables of a made script are its sum and what it counts.
pub two_variables : (number : ℕ) (st : State)
    → shared_text (made number trial_workers) st
    ≡ one_line (codes "total" ++ 32 ∷ signed_decimal (shared_values st total)) ++ (one_line (codes "caught" ++ 32 ∷ signed_decimal (shared_values st caught)) ++ [])
unfolding numbers_from
two_variables number st = refl

pub variables_told : (number : ℕ) (st : State) (text : List ℕ) → text ≡ ([] ++ one_line (codes "total" ++ 32 ∷ signed_decimal (shared_values st total))) ++ one_line (codes "caught" ++ 32 ∷ signed_decimal (shared_values st caught))
    → text ≡ shared_text (made number trial_workers) st
variables_told number st text e =
    let a : List ℕ = one_line (codes "total" ++ 32 ∷ signed_decimal (shared_values st total)) in
    let b : List ℕ = one_line (codes "caught" ++ 32 ∷ signed_decimal (shared_values st caught)) in
    e ∙ ap (λ (x : List ℕ). a ++ x) (sym (append-nil b)) ∙ sym (two_variables number st)

-- ---- what a trial answers

pub tried_by : (number workers : ℕ) (b : BookView) (count : ℕ) (why : Stop) (status : ℕ) (text : List ℕ) → HasTurns b count → IsOver b (made number trial_workers) workers → HasCause b → b.stopped ≡ Some why
    → Legal b.script b.workers b.entries why → status ≡ status_of why → text ≡ shared_text (made number trial_workers) b.state → TrialAnswers number workers status text
tried_by number workers b count why status text turns over cause stopped legal told written =
    let x : Execution = record { state = b.state; events = turns.events; entries = b.entries; turns = count } in
    let history : History (made number trial_workers) workers x =
    subst (λ (s : Script). History s workers x) over.script (subst (λ (n : ℕ). History b.script n x) over.workers turns.history) in
    let ends : Legal (made number trial_workers) workers b.entries why =
    subst (λ (s : Script). Legal s workers b.entries why) over.script (subst (λ (n : ℕ). Legal b.script n b.entries why) over.workers legal) in
    tried x history why ends (cause why stopped) told written

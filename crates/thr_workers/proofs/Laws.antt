-- What holds of each legal history holds of the one of a run.
use Rattle.std.specs.Prelude.{◌≡◌, ℕ, List, Option, Some, None, Result, Ok, Err, IfOk, IfSome}
use Rattle.std.proofs.Common.{subst}
use Rattle.thr_values.specs.declared.history.Entry.{Entry}
use Rattle.thr_values.specs.declared.event.Stop.{Stop}
use Rattle.thr_syntax.specs.declared.tree.Script.{Script}
use Rattle.thr_text.specs.Reading.{Formed}
use Rattle.thr_model.specs.Histories.{Legal}
use Rattle.thr_lawful.specs.Laws.{MeetsLaws}
use Rattle.thr_machine.specs.Views.{BookView}

met : ((s : Script) (n : ℕ) (entries : List Entry) (stop : Stop) → Formed s → Legal s n entries stop → MeetsLaws s entries stop) → (s told : Script) (n : ℕ) → Formed s → told ≡ s → (entries : List Entry) (o : Option Stop)
    → IfSome o (λ why. Legal told n entries why) → IfSome o (MeetsLaws s entries)
met laws s told n formed same entries (Some why) legal = laws s n entries why formed (subst (λ (x : Script). Legal x n entries why) same legal)
met laws s told n formed same entries None legal = tt

pub laws-met : {E : Type 0} → ((s : Script) (n : ℕ) (entries : List Entry) (stop : Stop) → Formed s → Legal s n entries stop → MeetsLaws s entries stop) → (s told : Script) (n : ℕ) → Formed s → told ≡ s
    → (o : Result (BookView × ℕ) E) → IfOk o (λ r. IfSome r.0.stopped (λ why. Legal told n r.0.entries why)) → IfOk o (λ r. IfSome r.0.stopped (MeetsLaws s r.0.entries))
laws-met laws s told n formed same (Ok r) legal = met laws s told n formed same r.0.entries r.0.stopped legal
laws-met laws s told n formed same (Err e) legal = tt

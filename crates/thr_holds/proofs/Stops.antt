-- A book that is stopped for the reason that holds.
use Rattle.std.proofs.Common.{◌≡◌, ◌≢◌, ℕ, List, [], ◌∷◌, Bool, true, false, length, sym, ◌∙◌, ap, Option, Some, None}
use Rattle.std.specs.Prelude.{IfNone}
use Rattle.thr_values.specs.declared.number.Tid.{Tid}
use Rattle.thr_values.specs.declared.event.Stop.{Stop}
use Rattle.thr_values.specs.declared.event.Stop.TheVariants as stops
use Rattle.thr_syntax.specs.declared.tree.Script.{Script}
use Rattle.thr_model.specs.States.{State}
use Rattle.thr_model.specs.Histories.{stop_with, stop_at}
use Rattle.thr_machine.specs.Views.{BookView}
use Rattle.thr_machine.specs.Books.{stop_of}
use Rattle.thr_holds.specs.Runs.{IsOver, HasCause}

pub stopped-over : (b after : BookView) (why : Stop) (s : Script) (n : ℕ) → after ≡ record b { stopped = Some why } → IsOver b s n → IsOver after s n
stopped-over b after why s n is o = record { script = ap (λ (v : BookView). v.script) is ∙ o.script; workers = ap (λ (v : BookView). v.workers) is ∙ o.workers }

not-memory : (ts : List Tid) (going full : Bool) (why : Stop) → stop_with ts going full ≡ Some why → why ≢ stops.Memory
not-memory [] going full why e m = absurd (cc)
not-memory (t ∷ ts) false full why e m = absurd (cc)
not-memory (t ∷ ts) true true why e m = absurd (cc)
not-memory (t ∷ ts) true false why e m = absurd (cc)

no-memory-stop : (s : Script) (st : State) (count : ℕ) (why : Stop) → stop_at s st count ≡ Some why → why ≢ stops.Memory
unfolding stop_at
no-memory-stop s st count why e = not-memory _ _ _ why e

pub stopped-cause : (b after : BookView) (why : Stop) → stop_of b ≡ Some why → after ≡ record b { stopped = Some why } → HasCause after
stopped-cause b after why holds is told e = no-memory-stop b.script b.state (length b.entries) told (holds ∙ sym (ap (λ (v : BookView). v.stopped) is) ∙ e)

-- What holds where nothing is there.
pub where-none : {A : Type 0} {T : Type 0} (o : Option A) → o ≡ None → IfNone o T → T
where-none None is t = t
where-none (Some a) is t = absurd (cc)

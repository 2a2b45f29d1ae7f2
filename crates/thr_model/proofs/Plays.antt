-- What is played is a history.
use Rattle.std.proofs.Common.{◌≡◌, ℕ, zero, suc, List, [], ◌∷◌, length, refl, sym, subst}
use Rattle.std.specs.Prelude.{Option, Some, None, is_none, unwrap_or, if◌then◌else◌}
use Rattle.std.specs.Option.{option_and_then, option_map}
use Rattle.thr_values.specs.declared.event.Event.{Event}
use Rattle.thr_values.specs.declared.event.Stop.{Stop}
use Rattle.thr_syntax.specs.declared.tree.Script.{Script}
use Rattle.thr_model.specs.Turns.{Made}
use Rattle.thr_model.specs.Events.{made_by}
use Rattle.thr_model.specs.Histories.{Execution, at_opening, after_event, History, opened, then_event, stop_at, StopsWith, Legal}
use Rattle.thr_model.specs.Play.{next, play, execution_by, only_event, goes_further, alone}

nothing_holds : {A : Type 0} (o : Option A) (x : Execution) (m : Option Execution) → (if is_none o then m else None) ≡ Some x → (o ≡ None) × (m ≡ Some x)
nothing_holds None x m e = (refl, e)
nothing_holds (Some why) x m e = absurd (cc)

was_made : (x after : Execution) (e : Event) (m : Option Made) → option_map (after_event x e) m ≡ Some after → (made : Made) × (m ≡ Some made) × (after ≡ after_event x e made)
was_made x after e None h = absurd (cc)
was_made x after e (Some made) h = (made, refl, cc)

pub next-history : (s : Script) (n : ℕ) (x after : Execution) (e : Event) → History s n x → next s n x e ≡ Some after → History s n after
next-history s n x after e h m =
    let open_ = nothing_holds (stop_at s x.state (length x.entries)) after (option_map (after_event x e) (made_by s n x.state e)) m in
    let made = was_made x after e (made_by s n x.state e) open_.1 in
    subst (History s n) (sym made.2) (then_event h open_.0 e made.0 made.1)

and_then_some : (s : Script) (n : ℕ) (events : List Event) (m : Option Execution) (after : Execution) → option_and_then (play s n events) m ≡ Some after → (mid : Execution) × (m ≡ Some mid) × (play s n events mid ≡ Some after)
and_then_some s n events None after e = absurd (cc)
and_then_some s n events (Some mid) after e = (mid, refl, e)

-- what is played from a history is a history
pub play-history : (s : Script) (n : ℕ) (events : List Event) (x after : Execution) → History s n x → play s n events x ≡ Some after → History s n after
unfolding play
play-history s n [] x after h m = subst (History s n) (cc) h
play-history s n (e ∷ events) x after h m =
    let mid = and_then_some s n events (next s n x e) after m in
    play-history s n events mid.0 after (next-history s n x mid.0 e h mid.1) mid.2

-- an execution where a stop may stand is legal
pub execution-legal : (s : Script) (n : ℕ) (x : Execution) (stop : Stop) → History s n x → StopsWith (stop_at s x.state (length x.entries)) stop → Legal s n x.entries stop
execution-legal s n x stop h stops = record { execution = x; history = h; lines = refl; stops = stops }

-- what is played up to where this stop may stand is legal
pub played-legal : (s : Script) (n : ℕ) (events : List Event) (x : Execution) (stop : Stop) → play s n events (at_opening s) ≡ Some x → StopsWith (stop_at s x.state (length x.entries)) stop → Legal s n x.entries stop
played-legal s n events x stop played stops = execution-legal s n x stop (play-history s n events (at_opening s) x opened played) stops

further-history : (s : Script) (further : Execution → Execution) (x : Execution) (o : Option Execution) → History s 1 x → ((after : Execution) → o ≡ Some after → History s 1 (further after)) → History s 1 (goes_further further x o)
further-history s f x None h more = h
further-history s f x (Some after) h more = more after refl

-- what is made on one processor from a history is a history
pub alone-history : (s : Script) (k : ℕ) (x : Execution) → History s 1 x → History s 1 (alone k s x)
unfolding alone
alone-history s zero x h = h
alone-history s (suc k) x h =
    further-history s (alone k s) x (next s 1 x (only_event x.state)) h
    (λ after m. alone-history s k after (next-history s 1 x after (only_event x.state) h m))

-- what is made on one processor up to where this stop may stand is legal
pub alone-legal : (s : Script) (k : ℕ) (stop : Stop) → (let x : Execution = alone k s (at_opening s) in StopsWith (stop_at s x.state (length x.entries)) stop → Legal s 1 x.entries stop)
alone-legal s k stop stops = execution-legal s 1 (alone k s (at_opening s)) stop (alone-history s k (at_opening s) opened) stops

or-opening : (s : Script) (n : ℕ) (o : Option Execution) → ((x : Execution) → o ≡ Some x → History s n x) → History s n (unwrap_or o (at_opening s))
or-opening s n None h = opened
or-opening s n (Some x) h = h x refl

-- what events make up to where this stop may stand is legal
pub by-legal : (s : Script) (n : ℕ) (events : List Event) (stop : Stop) → (let x : Execution = execution_by s n events in StopsWith (stop_at s x.state (length x.entries)) stop → Legal s n x.entries stop)
by-legal s n events stop stops =
    execution-legal s n (execution_by s n events) stop (or-opening s n (play s n events (at_opening s)) (λ x m. play-history s n events (at_opening s) x opened m)) stops

-- What a worker did in a hold of the lock, and that each answer tells of it in both directions.
use Rattle.std.proofs.Common.{◌≡◌, ℕ, ◌+◌, ◌<◌, ◌↔◌, inl, inr, ◌++◌, Bool, true, false, length, refl, sym, ◌∙◌, ap, subst, Option, None, Some, arith, length-append}
use Rattle.std.specs.Prelude.{IsSome, is_some}
use Rattle.thr_values.specs.declared.event.Event.{Event}
use Rattle.thr_values.specs.declared.event.Event.TheVariants as event
use Rattle.thr_parts.specs.Dispatch.{running}
use Rattle.thr_model.specs.Events.{made_by}
use Rattle.thr_machine.specs.Views.{BookView}
use Rattle.thr_holds.specs.Holds.{GoesOn, HasMade, Moves, HasMoved, IsStill, HasNothing, HasThread, SameRun, IsLeft, HasLeft, HasNoTurn}
use Rattle.thr_holds.specs.declared.locked.Found.{Found}
use Rattle.thr_holds.specs.declared.locked.Found.TheVariants as found

-- ---- one event more

made-longer : (old new : BookView) (e : Event) → HasMade old new e → length old.entries < length new.entries
made-longer old new e m =
    let written : new.entries ≡ m.ready.entries ++ m.makes.made.lines = ap (λ (b : BookView). b.entries) m.makes.after in
    let kept : m.ready.entries ≡ old.entries = ap (λ (b : BookView). b.entries) m.goes.same in
    let some : 0 < length m.makes.made.lines = m.makes.some in
    let counted : length new.entries ≡ length old.entries + length m.makes.made.lines = ap length (written ∙ ap (λ es. es ++ m.makes.made.lines) kept) ∙ length-append old.entries m.makes.made.lines in
    omega arith

not-made-as-long : (old new : BookView) (e : Event) → length new.entries ≡ length old.entries → HasMade old new e → ⊥
not-made-as-long old new e same m = let more : length old.entries < length new.entries = made-longer old new e m in absurd (omega arith)

not-made-same : (old new : BookView) (e : Event) → SameRun old new → HasMade old new e → ⊥
not-made-same old new e same m = not-made-as-long old new e (ap length same.entries) m

not-made-on : (old new : BookView) (e : Event) → GoesOn old new → HasMade old new e → ⊥
not-made-on old new e goes m = not-made-as-long old new e (ap (λ (b : BookView). length b.entries) goes.same) m

not-moved-same : (p : ℕ) (old new : BookView) → SameRun old new → HasMoved p old new → ⊥
not-moved-same p old new same (inl m) = not-made-same old new (event.Dispatch p) same m
not-moved-same p old new same (inr (unable, m)) = not-made-same old new event.Clock same m

not-moved-on : (p : ℕ) (old new : BookView) → GoesOn old new → HasMoved p old new → ⊥
not-moved-on p old new goes (inl m) = not-made-on old new (event.Dispatch p) goes m
not-moved-on p old new goes (inr (unable, m)) = not-made-on old new event.Clock goes m

-- ---- a book that goes on isn't left

none-is-not-some : {A : Type 0} (o : Option A) → o ≡ None → IsSome o → ⊥
none-is-not-some o is some = let e : true ≡ false = sym some ∙ ap is_some is in absurd (cc)

going-is-not-left : (b : BookView) (no_memory : Bool) → b.stopped ≡ None → no_memory ≡ false → IsLeft b no_memory → ⊥
going-is-not-left b no_memory going memory (inl stopped) = none-is-not-some b.stopped going stopped
going-is-not-left b no_memory going memory (inr none) = absurd (cc)

not-left : (old new : BookView) (no_memory : Bool) → GoesOn old new → no_memory ≡ false → HasLeft old new no_memory → ⊥
not-left old new no_memory goes memory left = going-is-not-left new no_memory goes.is_open.going memory left.left

-- ---- the parts of a hold

pub some-by-test : {A : Type 0} (o told : Option A) → o ≡ told → true ≡ is_some o → IsSome told
some-by-test o told is test = ap is_some (sym is) ∙ sym test

none-without : {A : Type 0} (o : Option A) → false ≡ is_some o → o ≡ None
none-without None test = refl
none-without (Some a) test = absurd (cc)

pub none-by-test : {A : Type 0} (o told : Option A) → o ≡ told → false ≡ is_some o → told ≡ None
none-by-test o told is test = sym is ∙ none-without o test

pub moved : (p : ℕ) (old ready new : BookView) → GoesOn old ready → Moves p ready new → HasMoved p old new
moved p old ready new goes (inl makes) = inl (record { ready = ready; goes = goes; makes = makes })
moved p old ready new goes (inr (unable, makes)) =
    inr (sym (ap (λ (b : BookView). made_by b.script b.workers b.state (event.Dispatch p)) goes.same) ∙ unable, record { ready = ready; goes = goes; makes = makes })

pub stayed : (p : ℕ) (old ready new : BookView) (memory no_memory : Bool) → GoesOn old ready → memory ≡ false → running ready.state.rows p ≡ None → IsStill p ready → new ≡ ready → no_memory ≡ memory
    → HasNothing p old new no_memory
stayed p old ready new memory no_memory goes found idle still same kept =
    subst (λ (b : BookView). HasNothing p old b no_memory) (sym same) (record { goes = goes; memory = kept ∙ found; idle = idle; still = still })

-- ---- what a look at the processor did

pub data Looked (p : ℕ) (old new : BookView) (no_memory : Bool) : Found → Type 0 where
  over : HasLeft old new no_memory → Looked p old new no_memory found.Over
  thread : HasThread p old new no_memory → Looked p old new no_memory found.Thread
  changed : HasMoved p old new → Looked p old new no_memory found.Changed
  nothing : HasNothing p old new no_memory → Looked p old new no_memory found.Nothing

pub over-just : (p : ℕ) (old new : BookView) (no_memory : Bool) (f : Found) → Looked p old new no_memory f → (f ≡ found.Over) ↔ HasLeft old new no_memory
over-just p old new no_memory f (over h) = (λ e. h, λ h. refl)
over-just p old new no_memory f (thread h) = (λ e. absurd (cc), λ left. absurd (not-left old new no_memory h.goes h.memory left))
over-just p old new no_memory f (changed h) = (λ e. absurd (cc), λ left. absurd (not-moved-same p old new left.same h))
over-just p old new no_memory f (nothing h) = (λ e. absurd (cc), λ left. absurd (not-left old new no_memory h.goes h.memory left))

pub thread-just : (p : ℕ) (old new : BookView) (no_memory : Bool) (f : Found) → Looked p old new no_memory f → (f ≡ found.Thread) ↔ HasThread p old new no_memory
thread-just p old new no_memory f (over h) = (λ e. absurd (cc), λ t. absurd (not-left old new no_memory t.goes t.memory h))
thread-just p old new no_memory f (thread h) = (λ e. h, λ h. refl)
thread-just p old new no_memory f (changed h) = (λ e. absurd (cc), λ t. absurd (not-moved-on p old new t.goes h))
thread-just p old new no_memory f (nothing h) = (λ e. absurd (cc), λ t. absurd (none-is-not-some (running new.state.rows p) h.idle t.runs))

pub changed-just : (p : ℕ) (old new : BookView) (no_memory : Bool) (f : Found) → Looked p old new no_memory f → (f ≡ found.Changed) ↔ HasMoved p old new
changed-just p old new no_memory f (over h) = (λ e. absurd (cc), λ m. absurd (not-moved-same p old new h.same m))
changed-just p old new no_memory f (thread h) = (λ e. absurd (cc), λ m. absurd (not-moved-on p old new h.goes m))
changed-just p old new no_memory f (changed h) = (λ e. h, λ h. refl)
changed-just p old new no_memory f (nothing h) = (λ e. absurd (cc), λ m. absurd (not-moved-on p old new h.goes m))

pub nothing-just : (p : ℕ) (old new : BookView) (no_memory : Bool) (f : Found) → Looked p old new no_memory f → (f ≡ found.Nothing) ↔ HasNothing p old new no_memory
nothing-just p old new no_memory f (over h) = (λ e. absurd (cc), λ n. absurd (not-left old new no_memory n.goes n.memory h))
nothing-just p old new no_memory f (thread h) = (λ e. absurd (cc), λ n. absurd (none-is-not-some (running new.state.rows p) n.idle h.runs))
nothing-just p old new no_memory f (changed h) = (λ e. absurd (cc), λ n. absurd (not-moved-on p old new n.goes h))
nothing-just p old new no_memory f (nothing h) = (λ e. h, λ h. refl)

-- ---- what a commit at the processor did

pub data Committed (p : ℕ) (old new : BookView) (no_memory : Bool) : Bool → Type 0 where
  turned : HasMade old new (event.Turn p) → Committed p old new no_memory true
  not_turned : HasNoTurn p old new no_memory → Committed p old new no_memory false

no-turn-no-turn : (p : ℕ) (old new : BookView) (no_memory : Bool) → HasNoTurn p old new no_memory → HasMade old new (event.Turn p) → ⊥
no-turn-no-turn p old new no_memory (inl left) m = not-made-same old new (event.Turn p) left.same m
no-turn-no-turn p old new no_memory (inr (goes, idle)) m = not-made-on old new (event.Turn p) goes m

pub turned-just : (p : ℕ) (old new : BookView) (no_memory b : Bool) → Committed p old new no_memory b → (b ≡ true) ↔ HasMade old new (event.Turn p)
turned-just p old new no_memory b (turned h) = (λ e. h, λ h. refl)
turned-just p old new no_memory b (not_turned h) = (λ e. absurd (cc), λ m. absurd (no-turn-no-turn p old new no_memory h m))

pub idle-just : (p : ℕ) (old new : BookView) (no_memory b : Bool) → Committed p old new no_memory b → (b ≡ false) ↔ HasNoTurn p old new no_memory
idle-just p old new no_memory b (turned h) = (λ e. absurd (cc), λ n. absurd (no-turn-no-turn p old new no_memory n h))
idle-just p old new no_memory b (not_turned h) = (λ e. h, λ h. refl)

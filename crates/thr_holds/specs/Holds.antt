-- What a worker does to the book in one hold of the lock: an event, the stop, or nothing (docs/theorems.md, "Workers").
use Rattle.std.specs.Prelude.{◌≡◌, ℕ, ◌⊎◌, Bool, true, false, IsSome, None}
use Rattle.thr_values.specs.declared.event.Event.{Event}
use Rattle.thr_values.specs.declared.event.Event.TheVariants as event
use Rattle.thr_parts.specs.Dispatch.{running}
use Rattle.thr_model.specs.Events.{made_by}
use Rattle.thr_machine.specs.Views.{BookView}
use Rattle.thr_machine.specs.Books.{IsOpen, Makes, RoomOnly}

-- ---- a hold in which an event may be made

-- No stop held in the old book. Memory for an event was taken, and nothing else has changed.
pub record GoesOn (old new : BookView) : Type 0 where
  pub same : RoomOnly old new
  pub is_open : IsOpen new

-- The hold made this event, which was legal in the old book, and nothing else but to take memory for it.
pub record HasMade (old new : BookView) (e : Event) : Type 0 where
  pub ready : BookView
  pub goes : GoesOn old ready
  pub makes : Makes ready new e

-- Between these books the processor took a thread, or, where it can't, the clock moved.
abbrev pub Moves : ℕ → BookView → BookView → Type 0
Moves p ready new = Makes ready new (event.Dispatch p) ⊎ ((made_by ready.script ready.workers ready.state (event.Dispatch p) ≡ None) × Makes ready new event.Clock)

-- The hold made a dispatch at the processor, or, where that isn't legal, a move of the clock.
abbrev pub HasMoved : ℕ → BookView → BookView → Type 0
HasMoved p old new = HasMade old new (event.Dispatch p) ⊎ ((made_by old.script old.workers old.state (event.Dispatch p) ≡ None) × HasMade old new event.Clock)

-- The processor can't take a thread, and the clock can't move.
pub record IsStill (p : ℕ) (b : BookView) : Type 0 where
  pub no_dispatch : made_by b.script b.workers b.state (event.Dispatch p) ≡ None
  pub no_clock : made_by b.script b.workers b.state event.Clock ≡ None

-- The hold made nothing: an event may be made, but none is legal for this processor, which has no thread and can't take one, and the
-- clock can't move.
pub record HasNothing (p : ℕ) (old new : BookView) (no_memory : Bool) : Type 0 where
  pub goes : GoesOn old new
  pub memory : no_memory ≡ false
  pub idle : running new.state.rows p ≡ None
  pub still : IsStill p new

-- The hold made nothing: an event may be made, and the processor has a thread.
pub record HasThread (p : ℕ) (old new : BookView) (no_memory : Bool) : Type 0 where
  pub goes : GoesOn old new
  pub memory : no_memory ≡ false
  pub runs : IsSome (running new.state.rows p)

-- ---- a hold in which none may be made

-- No event was made between these books.
pub record SameRun (old new : BookView) : Type 0 where
  pub state : new.state ≡ old.state
  pub entries : new.entries ≡ old.entries
  pub turns : new.turns ≡ old.turns

-- A worker leaves: the book is stopped, or no memory was found.
abbrev pub IsLeft : BookView → Bool → Type 0
IsLeft b no_memory = IsSome b.stopped ⊎ (no_memory ≡ true)

-- The hold made no event, and the worker leaves.
pub record HasLeft (old new : BookView) (no_memory : Bool) : Type 0 where
  pub same : SameRun old new
  pub left : IsLeft new no_memory

-- The hold made no turn of the processor: the worker leaves, or the processor has no thread.
abbrev pub HasNoTurn : ℕ → BookView → BookView → Bool → Type 0
HasNoTurn p old new no_memory = HasLeft old new no_memory ⊎ (GoesOn old new × (running new.state.rows p ≡ None))

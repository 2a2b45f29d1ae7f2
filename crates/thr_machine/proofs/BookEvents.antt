-- The events of a book, from what its parts give.
use Rattle.std.proofs.Common.{◌≡◌, ℕ, ◌+◌, ◌<◌, ◌≤◌, ℤ, List, [], ◌++◌, ◌∷◌, length, refl, sym, ◌∙◌, ap, subst, None, Some, true, false, arith}
use Rattle.std.specs.Prelude.{Option, IfSome, vec_len}
use Rattle.thr_values.specs.declared.event.Event.{Event}
use Rattle.thr_values.specs.declared.event.Event.TheVariants as event
use Rattle.thr_values.specs.declared.history.Entry.{Entry}
use Rattle.thr_values.specs.declared.number.Tid.{Tid}
use Rattle.thr_remainder.specs.Remainders.{Remainder}
use Rattle.std.proofs.lemmas.List.{length-append}
use Rattle.thr_parts.specs.Tables.{Table, IsCanonical}
use Rattle.thr_parts.specs.Dispatch.{running, dispatch, some_can_run}
use Rattle.thr_parts.specs.Expiry.{earliest}
use Rattle.thr_model.specs.States.{State}
use Rattle.thr_model.specs.Turns.{Made}
use Rattle.thr_model.specs.Events.{made_by, run_line, clock_to}
use Rattle.thr_model.specs.Histories.{turn_count}
use Rattle.thr_services.specs.Views.{state_with}
use Rattle.thr_frames.specs.Stacks.{StackView}
use Rattle.thr_stacks.specs.Stacks.{remainders_of, StacksStand}
use Rattle.thr_turns.specs.declared.workings.Workings.{Workings}
use Rattle.thr_turns.specs.declared.workings.Left.{Left}
use Rattle.thr_machine.specs.Views.{BookView}
use Rattle.thr_machine.specs.Books.{state_of, view_of, settings_in, most_lines, IsOpen, IsKept, IsSpare, Makes}
use Rattle.thr_machine.specs.Stepping.{TurnsInPlace, StacksAfter, MovesTo}
use Rattle.thr_machine.specs.declared.book.Book.TheInside.{Inside}
use Rattle.thr_machine.proofs.Keeping.{FollowStacks, StandOn, Restand, next_of, makes-event, kept-next, turn-settled, stands-after}
use Rattle.thr_machine.proofs.Dispatching.{dispatch-taken}
use Rattle.thr_machine.proofs.Stops.{clock-moves}

-- What a book keeps after an event.
pub kept-event : (a : Inside) (w : Workings) (stacks : Table StackView) (spare : Option StackView) (turns : ℕ) (e : Event) (ls : List Entry) → IsKept a → IsOpen (view_of a)
    → made_by a.lines a.workers (state_of a.lines a.workings a.stacks) e ≡ Some (record { state = state_of a.lines w stacks; lines = ls }) → 0 < length ls → length ls ≤ most_lines
    → w.entries.items ≡ a.workings.entries.items ++ ls → turns ≡ a.turns + turn_count e → StacksStand a.lines stacks (settings_in a.lines (state_of a.lines w stacks)) → w.interface ≡ a.workings.interface
    → IfSome spare IsSpare → turns ≤ vec_len w.entries → IsKept (next_of a w stacks spare turns)
kept-event a w stacks spare turns e ls k o is some few lines count stand interface spares counted =
    kept-next a w stacks spare turns e k o.no_stop o.going (makes-event a w stacks spare turns e ls is some few lines count) stand interface spares counted

pub no-turn : (n : ℕ) → n ≡ n + 0
no-turn n = omega arith

pub more-lines : (turns len more : ℕ) → turns ≤ len → turns ≤ len + more
more-lines turns len more h = omega (arith, h)

-- A dispatch.
pub dispatch-event : (a : Inside) (w : Workings) (p : ℕ) (t : Tid) → p < a.workers → Some t ≡ (dispatch a.workings.services.rows p).taken
    → ((remainders : Table Remainder) (shared : Table ℤ) → (let st : State = record (state_with a.workings.services remainders shared) { rows = (dispatch a.workings.services.rows p).rows } in st) ≡ state_with w.services remainders shared)
    → w.shared ≡ a.workings.shared → made_by a.lines a.workers (state_of a.lines a.workings a.stacks) (event.Dispatch p) ≡ Some (record { state = state_of a.lines w a.stacks; lines = run_line p t ∷ [] })
dispatch-event a w p t less taken is same =
    dispatch-taken a.lines a.workers p (state_of a.lines a.workings a.stacks) (state_of a.lines w a.stacks) t less taken
    (is (remainders_of a.lines a.stacks) a.workings.shared ∙ ap (λ (m : Table ℤ). state_with w.services (remainders_of a.lines a.stacks) m) (sym same))

-- A move of the clock.
pub clock-event : (a : Inside) (w : Workings) (now : ℤ) (moved : MovesTo now a.workings w) → some_can_run a.workings.services.rows ≡ false → earliest a.workings.services.conds ≡ Some now
    → made_by a.lines a.workers (state_of a.lines a.workings a.stacks) event.Clock ≡ Some (record { state = state_of a.lines w a.stacks; lines = moved.lines })
clock-event a w now moved still at =
    clock-moves a.lines a.workers (state_of a.lines a.workings a.stacks) now _ still at
    (moved.made (remainders_of a.lines a.stacks) a.workings.shared ∙ ap (λ (m : Table ℤ). let x : Made = record { state = state_with w.services (remainders_of a.lines a.stacks) m; lines = moved.lines } in x) (sym moved.shared))

-- Stacks that stay as they are go on standing.
pub stand-on : (a : Inside) (w : Workings) → FollowStacks a.lines → Restand a.lines (state_of a.lines a.workings a.stacks) (state_of a.lines w a.stacks) → IsKept a
    → StacksStand a.lines a.stacks (settings_in a.lines (state_of a.lines w a.stacks))
stand-on a w f again k = again a.stacks (λ q h. f.has_left a.stacks q ∙ h) (λ q h. f.has_left a.stacks q ∙ h) k.stand

-- ---- turns

counts : (turns old new more : ℕ) → turns ≤ old → new ≡ old + more → 0 < more → turns + 1 ≤ new
counts turns old new more h e some = omega (arith, h, e, some)

-- What laws give to a turn of a book.
pub record TurnLaws (a : Inside) (p : ℕ) (t : Tid) : Type 0 where
  pub follow : FollowStacks a.lines
  pub on : StandOn a.lines
  pub rises : IsCanonical (remainders_of a.lines a.stacks)
  pub below : t.0 < a.workings.services.threads.next
  pub lines : (made : Made) → made_by a.lines a.workers (state_of a.lines a.workings a.stacks) (event.Turn p) ≡ Some made → 0 < length made.lines
  pub again : (made : Made) → made_by a.lines a.workers (state_of a.lines a.workings a.stacks) (event.Turn p) ≡ Some made → Restand a.lines (state_of a.lines a.workings a.stacks) made.state

-- What a turn makes of a book, and what the book keeps.
pub book-turn : (a : Inside) (p : ℕ) (t : Tid) (w : Workings) (mid after : Table StackView) (spare : Option StackView) (l : Left) → IsKept a → IsOpen (view_of a) → TurnLaws a p t
    → running a.workings.services.rows p ≡ Some t → TurnsInPlace a.lines t a.workings w a.stacks mid l → StacksAfter a.lines w.services.threads t mid after l → IfSome spare IsSpare
    → vec_len a.workings.entries ≡ length a.workings.entries.items → vec_len w.entries ≡ length w.entries.items
    → Makes (view_of a) (view_of (next_of a w after spare (a.turns + 1))) (event.Turn p) × IsKept (next_of a w after spare (a.turns + 1))
book-turn a p t w mid after spare l k o laws runs turned settled spares len len' =
    let made : Made = record { state = state_of a.lines w after; lines = turned.turn.lines } in
    let is : made_by a.lines a.workers (state_of a.lines a.workings a.stacks) (event.Turn p) ≡ Some made =
    turn-settled a.lines a.workers p t a.workings w a.stacks mid after l laws.follow laws.rises runs laws.below turned settled in
    let some : 0 < length turned.turn.lines = laws.lines made is in
    let stand : StacksStand a.lines after (settings_in a.lines (state_of a.lines w after)) =
    stands-after a.lines t a.workings w a.stacks mid after l laws.follow laws.on (laws.again made is) turned settled k.stand in
    let count : vec_len w.entries ≡ vec_len a.workings.entries + length turned.turn.lines =
    len' ∙ ap length turned.turn.written ∙ length-append a.workings.entries.items turned.turn.lines ∙ ap (λ (n : ℕ). n + length turned.turn.lines) (sym len) in (
      makes-event a w after spare (a.turns + 1) (event.Turn p) turned.turn.lines is some turned.turn.few turned.turn.written refl,
      kept-event a w after spare (a.turns + 1) (event.Turn p) turned.turn.lines k o is some turned.turn.few turned.turn.written refl stand turned.turn.interface spares
          (counts a.turns (vec_len a.workings.entries) (vec_len w.entries) (length turned.turn.lines) k.counted count some),
    )

-- ---- dispatches

pub book-dispatch : (a : Inside) (p : ℕ) (t : Tid) (w : Workings) → IsKept a → IsOpen (view_of a) → FollowStacks a.lines
    → ((made : Made) → made_by a.lines a.workers (state_of a.lines a.workings a.stacks) (event.Dispatch p) ≡ Some made → Restand a.lines (state_of a.lines a.workings a.stacks) made.state)
    → made_by a.lines a.workers (state_of a.lines a.workings a.stacks) (event.Dispatch p) ≡ Some (record { state = state_of a.lines w a.stacks; lines = run_line p t ∷ [] })
    → w.entries.items ≡ a.workings.entries.items ++ run_line p t ∷ [] → w.interface ≡ a.workings.interface → vec_len w.entries ≡ vec_len a.workings.entries + 1
    → Makes (view_of a) (view_of (next_of a w a.stacks a.spare a.turns)) (event.Dispatch p) × IsKept (next_of a w a.stacks a.spare a.turns)
book-dispatch a p t w k o f again is items interface len = (
  makes-event a w a.stacks a.spare a.turns (event.Dispatch p) (run_line p t ∷ []) is (omega arith) (omega arith) items (no-turn a.turns),
  kept-event a w a.stacks a.spare a.turns (event.Dispatch p) (run_line p t ∷ []) k o is (omega arith) (omega arith) items (no-turn a.turns) (stand-on a w f (again _ is) k) interface k.spare
      (subst (λ (n : ℕ). a.turns ≤ n) (sym len) (more-lines a.turns (vec_len a.workings.entries) 1 k.counted)),
)

-- ---- moves of the clock

pub book-clock : (a : Inside) (now : ℤ) (w : Workings) (moved : MovesTo now a.workings w) → IsKept a → IsOpen (view_of a) → FollowStacks a.lines
    → ((made : Made) → made_by a.lines a.workers (state_of a.lines a.workings a.stacks) event.Clock ≡ Some made → Restand a.lines (state_of a.lines a.workings a.stacks) made.state)
    → ((made : Made) → made_by a.lines a.workers (state_of a.lines a.workings a.stacks) event.Clock ≡ Some made → 0 < length made.lines)
    → some_can_run a.workings.services.rows ≡ false → earliest a.workings.services.conds ≡ Some now
    → Makes (view_of a) (view_of (next_of a w a.stacks a.spare a.turns)) event.Clock × IsKept (next_of a w a.stacks a.spare a.turns)
book-clock a now w moved k o f again lines still at =
    let is : made_by a.lines a.workers (state_of a.lines a.workings a.stacks) event.Clock ≡ Some (record { state = state_of a.lines w a.stacks; lines = moved.lines }) = clock-event a w now moved still at in (
      makes-event a w a.stacks a.spare a.turns event.Clock moved.lines is (lines _ is) moved.few moved.written (no-turn a.turns),
      kept-event a w a.stacks a.spare a.turns event.Clock moved.lines k o is (lines _ is) moved.few moved.written (no-turn a.turns) (stand-on a w f (again _ is) k) moved.interface k.spare
          (subst (λ (n : ℕ). a.turns ≤ n) (sym moved.len) (more-lines a.turns (vec_len a.workings.entries) (length moved.lines) k.counted)),
    )

-- What isn't legal in the state for which a book stands isn't legal in the book.
pub not-made : (a : Inside) (b : BookView) (e : Event) → view_of a ≡ b → made_by a.lines a.workers (state_of a.lines a.workings a.stacks) e ≡ None → made_by b.script b.workers b.state e ≡ None
not-made a b e same h = subst (λ (v : BookView). made_by v.script v.workers v.state e ≡ None) same h

pub makes-in : (a : Inside) (b new : BookView) (e : Event) → view_of a ≡ b → Makes (view_of a) new e → Makes b new e
makes-in a b new e same m = subst (λ (v : BookView). Makes v new e) same m

-- A book whose memory alone has changed.
use Rattle.std.proofs.Common.{◌≡◌, ◌≤◌, ℤ, List, refl, sym, ◌∙◌, ap, subst, Ok, Err, Bool, true, false}
use Rattle.std.specs.Prelude.{Option, IfSome, None, Some, Result, OnErr, vec_len, ◌&&◌}
use Rattle.thr_values.specs.declared.event.Stop.{Stop}
use Rattle.thr_values.specs.declared.history.Entry.{Entry}
use Rattle.thr_remainder.specs.Remainders.{Remainder}
use Rattle.thr_parts.specs.Tables.{Table}
use Rattle.thr_model.specs.States.{State}
use Rattle.thr_model.specs.Histories.{StopsWith}
use Rattle.thr_services.specs.Views.{state_with}
use Rattle.thr_frames.specs.Stacks.{StackView}
use Rattle.thr_stacks.specs.Stacks.{remainders_of, StacksStand}
use Rattle.thr_turns.specs.declared.workings.Workings.{Workings}
use Rattle.thr_machine.specs.Views.{BookView}
use Rattle.thr_machine.specs.Books.{state_of, view_of, stop_of, has_memory, settings_in, RoomOnly, IsReached, IsKept, IsSpare}
use Rattle.thr_machine.specs.declared.book.Book.TheInside.{Inside}
use Rattle.thr_machine.proofs.Keeping.{next_of}

-- What stays where memory is taken.
pub record StaysSo (old new : Workings) : Type 0 where
  pub items : new.entries.items ≡ old.entries.items
  pub len : vec_len new.entries ≡ vec_len old.entries
  pub shared : new.shared ≡ old.shared
  pub interface : new.interface ≡ old.interface
  pub services : (remainders : Table Remainder) (shared : Table ℤ) → state_with new.services remainders shared ≡ state_with old.services remainders shared

same-state : (a : Inside) (w : Workings) → StaysSo a.workings w → state_of a.lines w a.stacks ≡ state_of a.lines a.workings a.stacks
same-state a w h = h.services (remainders_of a.lines a.stacks) w.shared ∙ ap (state_with a.workings.services (remainders_of a.lines a.stacks)) h.shared

abbrev seen : Inside → State → List Entry → Bool → BookView
seen a st es room = record {
  script = a.lines;
  workers = a.workers;
  state = st;
  entries = es;
  turns = a.turns;
  stopped = a.stopped;
  room = room;
}

pub room-view : (a : Inside) (w : Workings) (spare : Option StackView) → StaysSo a.workings w
    → view_of (next_of a w a.stacks spare a.turns) ≡ record (view_of a) { room = has_memory w spare }
room-view a w spare h =
    ap (λ (st : State). seen a st w.entries.items (has_memory w spare)) (same-state a w h)
    ∙ ap (λ (es : List Entry). seen a (state_of a.lines a.workings a.stacks) es (has_memory w spare)) h.items

reached-still : (b : BookView) (room : Bool) → IsReached b → IsReached (record b { room = room })
reached-still b room r = record { events = r.events; history = r.history }

pub kept-room : (a : Inside) (w : Workings) (spare : Option StackView) → StaysSo a.workings w → IfSome spare IsSpare → IsKept a → IsKept (next_of a w a.stacks spare a.turns)
kept-room a w spare h spares k = record {
  formed = k.formed;
  limit = k.limit;
  some = k.some;
  few = k.few;
  stand = subst (λ (st : State). StacksStand a.lines a.stacks (settings_in a.lines st)) (sym (same-state a w h)) k.stand;
  interface = h.interface ∙ k.interface;
  spare = spares;
  reached = subst IsReached (sym (room-view a w spare h)) (reached-still (view_of a) (has_memory w spare) k.reached);
  counted = subst (λ n. a.turns ≤ n) (sym h.len) k.counted;
  stopped = subst (λ (o : Option Stop). IfSome a.stopped (λ why. StopsWith o why)) (sym (ap stop_of (room-view a w spare h))) k.stopped;
}

pub room-only : (a : Inside) (b : BookView) (w : Workings) (spare : Option StackView) → StaysSo a.workings w → view_of a ≡ b → RoomOnly b (view_of (next_of a w a.stacks spare a.turns))
room-only a b w spare h same = room-view a w spare h ∙ ap (λ (v : BookView). let x : BookView = record v { room = has_memory w spare } in x) same

pub room-same : (a : Inside) (b : BookView) (w : Workings) (spare : Option StackView) → StaysSo a.workings w → view_of a ≡ b → has_memory w spare ≡ has_memory a.workings a.spare → view_of (next_of a w a.stacks spare a.turns) ≡ b
room-same a b w spare h same room = room-view a w spare h ∙ ap (λ (r : Bool). let x : BookView = record (view_of a) { room = r } in x) room ∙ same

pub on-err : {T E : Type 0} (r : Result T E) (P Q : Type 0) → (P → Q) → OnErr r P → OnErr r Q
on-err (Ok x) P Q f h = tt
on-err (Err e) P Q f h = f h

-- ---- where memory is wanting

-- there is no memory where one part of it is wanting
pub no-spare : (a c : Bool) → (a && (false && c)) ≡ false
no-spare true c = refl
no-spare false c = refl

pub no-value : (a b : Bool) → (a && (b && false)) ≡ false
no-value true true = refl
no-value true false = refl
no-value false b = refl

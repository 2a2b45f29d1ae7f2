-- What a turn finds in a book, and what can be settled after it.
use Rattle.std.proofs.Common.{◌≡◌, ℕ, ◌+◌, ◌-◌, ◌<◌, ◌≤◌, List, [], length, refl, sym, ◌∙◌, ap, subst, None, Some, Bool, true, false, arith}
use Rattle.std.specs.Prelude.{Option, is_some, is_none, nat_le, ◌&&◌, vec_len, vec_capacity}
use Rattle.std.specs.Option.{option_map}
use Rattle.std.proofs.lemmas.Bool.Decides.{nat_tests}
use Rattle.thr_values.specs.declared.event.Event.TheVariants as event
use Rattle.thr_values.specs.declared.number.Tid.{Tid}
use Rattle.thr_syntax.specs.declared.tree.Script.{Script}
use Rattle.thr_text.specs.Reading.{Formed}
use Rattle.thr_remainder.specs.Remainders.{Remainder}
use Rattle.thr_remainder.specs.Starts.{fresh}
use Rattle.thr_parts.specs.declared.row.Seat.{Seat}
use Rattle.thr_parts.specs.Tables.{Table, get, has, put, IsCanonical}
use Rattle.thr_parts.specs.declared.row.Place.{Place}
use Rattle.thr_parts.specs.declared.row.Place.TheVariants.{Runs, Stands}
use Rattle.thr_parts.specs.Rows.{Rows, most, seat_of, row_in, is_running}
use Rattle.thr_parts.specs.Dispatch.{runs_on, running}
use Rattle.thr_parts.proofs.RunningLaws.{HasProcessor, running_seat}
use Rattle.thr_parts.proofs.TableLaws.{canonical_put}
use Rattle.thr_tables.specs.Places.{has_place}
use Rattle.thr_model.specs.States.{State}
use Rattle.thr_model.specs.Turns.{Made}
use Rattle.thr_model.specs.Events.{made_by}
use Rattle.thr_model.specs.Histories.{Execution, History, then_event, after_event, stop_at}
use Rattle.thr_services.specs.Views.{ServicesView, state_with}
use Rattle.thr_frames.specs.Stacks.{StackView, remainder_of}
use Rattle.thr_stacks.specs.Stacks.{remainders_of, StacksStand}
use Rattle.thr_turns.specs.declared.workings.Workings.{Workings}
use Rattle.thr_turns.specs.declared.workings.Left.{Left}
use Rattle.thr_turns.specs.declared.workings.Left.TheVariants as left
use Rattle.thr_turns.specs.Ready.{IsReady}
use Rattle.thr_turns.specs.Steps.{left_in}
use Rattle.thr_machine.specs.Books.{state_of, has_memory, settings_in, most_lines, most_size}
use Rattle.thr_machine.specs.Stepping.{IsOwn, StandsIn, CanTurn, TurnsInPlace, CanSettle}
use Rattle.thr_machine.proofs.Tables.{has-some, some-has}
use Rattle.thr_machine.proofs.Keeping.{FollowStacks, put-still, put-here, turned-known, turn-made}

-- ---- memory

both-true : (a b : Bool) → (a && b) ≡ true → (a ≡ true) × (b ≡ true)
both-true true true e = (refl, refl)
both-true true false e = absurd (cc)
both-true false b e = absurd (cc)

at-most : (n m : ℕ) → nat_le n m ≡ true → n ≤ m
at-most n m e = grind (arith, nat_tests)

room-within : (n k m : ℕ) → n ≤ k - m → 1 ≤ n → m + n ≤ k
room-within n k m h some = omega arith

-- Where there is memory there is room for the lines, a spare stack, and room for a value of a key.
pub has-lines : (w : Workings) (spare : Option StackView) → has_memory w spare ≡ true → vec_len w.entries + most_lines ≤ vec_capacity w.entries
has-lines w spare h = room-within most_lines (vec_capacity w.entries) (vec_len w.entries) (at-most most_lines _ (both-true _ _ h).0) (omega arith)

pub has-spare : (w : Workings) (spare : Option StackView) → has_memory w spare ≡ true → is_some spare ≡ true
has-spare w spare h = (both-true _ _ (both-true _ _ h).1).0

pub has-value : (w : Workings) (spare : Option StackView) → has_memory w spare ≡ true → 1 ≤ w.services.onces.room
has-value w spare h = at-most 1 _ (both-true _ _ (both-true _ _ h).1).1

-- ---- what a turn finds

runs-so : (p : ℕ) (l : Place) → runs_on p l ≡ true → is_none (row_in l) ≡ true
runs-so p (Runs q slice) e = refl
runs-so p (Stands r arrival) e = absurd (cc)

runs-seat : (rs : Rows) (p : ℕ) (t : Tid) → IsCanonical rs.seats → running rs p ≡ Some t → is_running (seat_of rs t) ≡ true
runs-seat rs p t rises runs =
    let x : (s : Seat) × HasProcessor rs p t.0 s = running_seat rs p t rises runs in ap is_running x.1.at ∙ runs-so p x.0.place x.1.runs

pub runs-seated : (rs : Rows) (p : ℕ) (t : Tid) → IsCanonical rs.seats → running rs p ≡ Some t → has rs.seats t.0 ≡ true
runs-seated rs p t rises runs =
    let x : (s : Seat) × HasProcessor rs p t.0 s = running_seat rs p t rises runs in has-some rs.seats t.0 x.0 x.1.at

-- A thread that runs can make its turn.
pub can-turn : (s : Script) (w : Workings) (stacks : Table StackView) (p : ℕ) (t : Tid) → FollowStacks s → IsCanonical w.services.rows.seats → ((q : ℕ) → has (remainders_of s stacks) q ≡ has w.services.rows.seats q)
    → StacksStand s stacks (settings_in s (state_of s w stacks)) → running w.services.rows p ≡ Some t
    → ((k : StackView) → is_running (seat_of w.services.rows t) ≡ true → IsOwn s (state_of s w stacks) t k → IsReady s w.services k t) → CanTurn s w.services stacks t
can-turn s w stacks p t f rises seats stand runs ready =
    let seat : has w.services.rows.seats t.0 ≡ true = runs-seated w.services.rows p t rises runs in
    let own : (k : StackView) × (get stacks t.0 ≡ Some k) = some-has stacks t.0 (sym (f.has_left stacks t.0) ∙ seats t.0 ∙ seat) in record {
      own = own.0;
      is = own.1;
      stack = stand.stands t.0 own.0 own.1;
      setting = stand.set t.0 own.0 own.1;
      ready = ready own.0 (runs-seat w.services.rows p t rises runs) (record { left = f.get_left stacks t.0 ∙ ap (option_map (remainder_of s)) own.1; setting = stand.set t.0 own.0 own.1 });
    }

-- ---- what can be settled

-- What histories say of threads in which something is left to do.
pub record HaveFrames (s : Script) (n : ℕ) : Type 0 where
  pub some : (x : Execution) → History s n x → (t : ℕ) → has x.state.remainders t ≡ true → 2 ≤ (settings_in s x.state t).size
  pub few : (x : Execution) → History s n x → (t : ℕ) → has x.state.remainders t ≡ true → (settings_in s x.state t).size ≤ most_size
  pub place : (x : Execution) → History s n x → (stacks : Table StackView) → StandsIn s x.state stacks → (t : ℕ) → has x.state.remainders t ≡ true → has_place stacks t most ≡ true

one-of-two : (n : ℕ) → 2 ≤ n → 1 ≤ n
one-of-two n h = omega arith

pub can-settle : (s : Script) (n p : ℕ) (t : Tid) (old new : Workings) (stacks mid : Table StackView) (spare : Option StackView) (x : Execution) (l : Left) → FollowStacks s → HaveFrames s n → History s n x
    → stop_at s x.state (length x.entries) ≡ None → x.state ≡ state_of s old stacks → IsCanonical (remainders_of s stacks) → running old.services.rows p ≡ Some t → TurnsInPlace s t old new stacks mid l → is_some spare ≡ true
    → CanSettle s new.services.threads t mid spare l
can-settle s n p t old new stacks mid spare x left.Goes f frames h open_ same rises runs turned some = tt
can-settle s n p t old new stacks mid spare x (left.Begins u routine arg) f frames h open_ same rises runs turned some =
    let rest : Table Remainder = left_in s (remainders_of s stacks) t (remainder_of s turned.after) (left.Begins u routine arg) in
    let made : Made = record { state = state_with new.services rest new.shared; lines = turned.turn.lines } in
    let next : History s n (after_event x (event.Turn p) made) =
    then_event h open_ (event.Turn p) made (ap (λ (st : State). made_by s n st (event.Turn p)) same ∙ turn-made s n p t old new stacks mid (left.Begins u routine arg) f runs turned) in
    let here : has rest u.0 ≡ true = put-still _ t.0 u.0 (remainder_of s turned.after) (put-here (remainders_of s stacks) u.0 (fresh s routine arg)) in
    let stand : StandsIn s made.state mid = record {
      rises = subst IsCanonical (sym (ap (remainders_of s) turned.puts ∙ f.put_left stacks t.0 turned.after)) (canonical_put (remainders_of s stacks) t.0 (remainder_of s turned.after) rises);
      among = λ q there.
          put-still _ t.0 q (remainder_of s turned.after)
          (put-still (remainders_of s stacks) u.0 q (fresh s routine arg) (f.has_left stacks q ∙ turned-known s t old new stacks mid (left.Begins u routine arg) turned q there));
    } in (
      turned.turn.begun.1,
      one-of-two _ (frames.some (after_event x (event.Turn p) made) next u.0 here),
      frames.few (after_event x (event.Turn p) made) next u.0 here,
      frames.place (after_event x (event.Turn p) made) next mid stand u.0 here,
      some,
    )
can-settle s n p t old new stacks mid spare x left.Ended f frames h open_ same rises runs turned some = tt

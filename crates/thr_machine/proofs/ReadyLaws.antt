-- What a history gives to the event that goes on from it.
use Rattle.std.proofs.Common.{◌≡◌, ℕ, suc, ◌+◌, ◌*◌, ◌^◌, ◌<◌, ◌≤◌, ℤ, Bool, true, List, [], ◌∷◌, length, Option, Some, None, refl, sym, arith, ◌∙◌, ap, subst}
use Rattle.std.specs.Prelude.{IfSome, is_some, unwrap_or, ◌||◌, nat_lt}
use Rattle.thr_values.specs.declared.number.NameId.{NameId}
use Rattle.thr_values.specs.declared.number.Tid.{Tid}
use Rattle.thr_syntax.specs.declared.tree.Script.{Script}
use Rattle.thr_remainder.specs.Remainders.{Setting, Remainder, has_room}
use Rattle.thr_remainder.specs.Runs.{run_of, most_steps}
use Rattle.thr_parts.specs.declared.thread.Thread.{Thread}
use Rattle.thr_parts.specs.Tables.{Table, get, at, has, names}
use Rattle.thr_parts.specs.declared.row.Seat.{Seat}
use Rattle.thr_parts.specs.Rows.{thread, most, seat_of, is_running}
use Rattle.thr_parts.specs.Cancels.{mode_at}
use Rattle.thr_parts.specs.Mutexes.{owner}
use Rattle.thr_parts.specs.Keys.{DestructorCall, next_destructor}
use Rattle.thr_parts.specs.Threads.{record_at}
use Rattle.thr_parts.proofs.TableLaws.{at_get, has_get}
use Rattle.std.proofs.lemmas.Bool.Decides.{nat_tests}
use Rattle.thr_laws.specs.Known.{Known}
use Rattle.thr_cancels.proofs.Agreement.{KnowsOf}
use Rattle.thr_cancels.proofs.Records.{core, core_of}
use Rattle.thr_cancels.proofs.SpecialCalls.{made_some}
use Rattle.thr_conds.specs.Agreement.{WaitsAgree}
use Rattle.thr_pipes.specs.Agreement.{WritersAgree}
use Rattle.thr_tables.specs.Places.{has_place}
use Rattle.thr_model.specs.States.{State, frames_in, nothing_left, debt_of}
use Rattle.thr_model.specs.States as states
use Rattle.thr_model.specs.Turns.{turn_by}
use Rattle.thr_frames.specs.Stacks.{StackView, remainder_of, setting_of, CanNumber, IsRoutine}
use Rattle.thr_trees.specs.Routines as trees
use Rattle.thr_services.specs.declared.debt.Debt.{Debt}
use Rattle.thr_services.specs.Views.{ServicesView, all_owed, state_with}
use Rattle.thr_services.specs.Cancelling.{MutexesFit}
use Rattle.thr_stacks.specs.Stacks.{remainders_of, StacksStand}
use Rattle.thr_open_onces.specs.Blocks.{block_of}
use Rattle.thr_turns.specs.Ready.{IsReady}
use Rattle.thr_machine.specs.Books.{settings_in, most_size}
use Rattle.thr_machine.specs.Stepping.{IsOwn, CanMove, StandsIn}
use Rattle.thr_machine.proofs.Tables.{place-among, some-has}

-- ---- facts on a state after so many lines

-- Who waits, and how many there are.
pub record AreAgreed (st : State) : Type 0 where
  pub waits : WaitsAgree st.conds st.rows
  pub writers : WritersAgree st.pipes st.rows
  pub debts : (t : ℕ) → has st.debts t ≡ true → has st.rows.seats t ≡ true
  pub records : (t : ℕ) → has st.rows.seats t ≡ true → has st.threads.records t ≡ true
  pub few : length st.rows.seats ≤ most
  pub waits_few : length st.conds.waits ≤ most
  pub fit : MutexesFit st.conds

-- Counts after so many lines.
pub record AreCounted (st : State) (lines : ℕ) : Type 0 where
  pub below : lines < 1000000
  pub arrivals : st.rows.next_arrival ≤ 1 + 2049 * lines
  pub numbers : st.threads.next ≤ 2 + lines
  pub depths : (m : Option NameId) → IfSome (owner st.locks m) (λ h. h.depth ≤ lines)
  pub scopes : (t : ℕ) (r : Remainder) → get st.remainders t ≡ Some r → (r.scopes ≤ lines) × (r.unwindings ≤ lines)

-- What threads begin.
pub record AreBegun (s : Script) (st : State) : Type 0 where
  pub frames : (t : ℕ) → IfSome (get st.threads.records t) (λ th. (16 ≤ th.frames) × (th.frames ≤ 1024))
  pub destructors : (t : Tid) → IfSome (next_destructor st.onces t).call (λ c. trees.IsRoutine s c.1)
  pub running : (t : Tid) → debt_of st t ≡ Some states.Running → has_room (states.setting_of s st t) (states.remainder_of st t) 2 ≡ true
  pub blocks : (t : Tid) → IfSome (block_of (run_of most_steps (states.setting_of s st t) (mode_at st.threads t) (states.remainder_of st t)).halt) (λ o. o.0 < names)

-- What threads owe, as the state has it.
pub record AreOwed (debts : Table Debt) : Type 0 where
  pub has_owed : (t : ℕ) → has (all_owed debts) t ≡ has debts t

-- ---- what a turn asks

if-some : {A : Type 0} (o : Option A) (P Q : A → Type 0) → ((x : A) → P x → Q x) → IfSome o P → IfSome o Q
if-some None P Q f h = tt
if-some (Some x) P Q f h = f x h

depth-fits : (d lines : ℕ) → lines < 1000000 → d ≤ lines → d + 1 < 2 ^ 64
depth-fits d lines b h = omega (arith, b, h)

number-fits : (n lines : ℕ) → lines < 1000000 → n ≤ lines → n + 200 < 2 ^ 64
number-fits n lines b h = omega (arith, b, h)

next-fits : (n lines : ℕ) → lines < 1000000 → n ≤ 2 + lines → n + 1 < 2 ^ 32
next-fits n lines b h = omega (arith, b, h)

arrivals-fit : (n lines : ℕ) → lines < 1000000 → n ≤ 1 + 2049 * lines → n + 2 ^ 13 < 2 ^ 64
arrivals-fit n lines b h = omega (arith, b, h)

later-fits : (k n : ℕ) → n + 2 ^ 13 < 2 ^ 64 → k ≤ n + 2048 → k + 1 < 2 ^ 64
later-fits k n b h = omega (arith, b, h)

pub two-of-many : (n : ℕ) → 16 ≤ n → 2 ≤ n
two-of-many n h = omega (arith, h)

can-call : (s : Script) (name : NameId) → trees.IsRoutine s name → IsRoutine s name
can-call s name r = record { entry = r.entry; declared = r.declared; few = r.few }

some-frames : (o : Option Thread) → IfSome o (λ th. (16 ≤ th.frames) × (th.frames ≤ 1024)) → (th : Thread) → o ≡ Some th → (16 ≤ frames_in o) × (frames_in o ≤ 1024)
some-frames None h th e = absurd (cc)
some-frames (Some x) h th e = h

-- The frames of a thread that has a seat.
pub seated-frames : (s : Script) (st : State) (t : ℕ) → ((t : ℕ) → has st.rows.seats t ≡ true → has st.threads.records t ≡ true) → IfSome (get st.threads.records t) (λ th. (16 ≤ th.frames) × (th.frames ≤ 1024))
    → has st.rows.seats t ≡ true → (16 ≤ (settings_in s st t).size) × ((settings_in s st t).size ≤ most_size)
seated-frames s st t records frames seat =
    let r : (th : Thread) × (get st.threads.records t ≡ Some th) = some-has st.threads.records t (records t seat) in
    some-frames (get st.threads.records t) frames r.0 r.1

left-of : (st : State) (t : Tid) (r : Remainder) → get st.remainders t.0 ≡ Some r → states.remainder_of st t ≡ r
left-of st t r e = at_get st.remainders t.0 nothing_left ∙ ap (λ (o : Option Remainder). unwrap_or o nothing_left) e

runs-with-room : (s : Script) (st : State) (t : Tid) (k : StackView) → IsOwn s st t k → has_room (states.setting_of s st t) (states.remainder_of st t) 2 ≡ true → has_room (setting_of s k) (remainder_of s k) 2 ≡ true
runs-with-room s st t k own h =
    subst (λ (g : Setting). has_room g (remainder_of s k) 2 ≡ true) (sym own.setting)
    (subst (λ (r : Remainder). has_room (states.setting_of s st t) r 2 ≡ true) (left-of st t (remainder_of s k) own.left) h)

named-block : (s : Script) (st : State) (t : Tid) (k : StackView) → IsOwn s st t k → IfSome (block_of (run_of most_steps (states.setting_of s st t) (mode_at st.threads t) (states.remainder_of st t)).halt) (λ o. o.0 < names)
    → IfSome (block_of (run_of most_steps (setting_of s k) (mode_at st.threads t) (remainder_of s k)).halt) (λ o. o.0 < names)
named-block s st t k own h =
    subst (λ (g : Setting). IfSome (block_of (run_of most_steps g (mode_at st.threads t) (remainder_of s k)).halt) (λ o. o.0 < names)) (sym own.setting)
    (subst (λ (r : Remainder). IfSome (block_of (run_of most_steps (states.setting_of s st t) (mode_at st.threads t) r).halt) (λ o. o.0 < names)) (left-of st t (remainder_of s k) own.left) h)

running-some : (o : Option Seat) → is_running o ≡ true → is_some o ≡ true
running-some None e = absurd (cc)
running-some (Some x) e = refl

pub is-ready : (s : Script) (v : ServicesView) (remainders : Table Remainder) (shared : Table ℤ) (lines : ℕ) (t : Tid) (k : StackView)
    → (let st : State = state_with v remainders shared in AreAgreed st × AreCounted st lines × AreBegun s st) → AreOwed v.debts → ((remainders : Table Remainder) (shared : Table ℤ) (d : Option states.Debt) → (turn_by s (state_with v remainders shared) t d).state.rows.next_arrival ≤ v.rows.next_arrival + 2048)
    → 1 ≤ v.onces.room → is_running (seat_of v.rows t) ≡ true → IsOwn s (state_with v remainders shared) t k → IsReady s v k t
is-ready s v remainders shared lines t k facts owed turns room runs own =
    let st : State = state_with v remainders shared in
    let agreed : AreAgreed st = facts.0 in
    let counts : AreCounted st lines = facts.1 in
    let begun : AreBegun s st = facts.2 in
    let arrivals : v.rows.next_arrival + 2 ^ 13 < 2 ^ 64 = arrivals-fit v.rows.next_arrival lines counts.below counts.arrivals in
    let seat : has v.rows.seats t.0 ≡ true = has_get v.rows.seats t.0 ∙ running-some (seat_of v.rows t) runs in
    let scopes = counts.scopes t.0 (remainder_of s k) own.left in record {
      waits = agreed.waits;
      writers = agreed.writers;
      owers = record { stands = λ u h. agreed.debts u (owed.has_owed u ∙ h) };
      recorded = record { recorded = agreed.records };
      fit = agreed.fit;
      runs = runs;
      seats = agreed.few;
      arrival = arrivals;
      number = next-fits v.threads.next lines counts.below counts.numbers;
      depths = λ m. if-some (owner v.locks m) (λ h. h.depth ≤ lines) (λ h. h.depth + 1 < 2 ^ 64) (λ h e. depth-fits h.depth lines counts.below e) (counts.depths m);
      values = room;
      numbers = record { scopes = number-fits (remainder_of s k).scopes lines counts.below scopes.0; unwindings = number-fits (remainder_of s k).unwindings lines counts.below scopes.1 };
      destructors = if-some (next_destructor v.onces.state t).call (λ c. trees.IsRoutine s c.1) (λ c. IsRoutine s c.1) (λ c r. can-call s c.1 r) (begun.destructors t);
      frames = subst (λ (g : Setting). 2 ≤ g.size) (sym own.setting) (two-of-many _ (seated-frames s st t.0 agreed.records (begun.frames t.0) seat).0);
      running = λ e. runs-with-room s st t k own (begun.running t e);
      blocks = named-block s st t k own (begun.blocks t);
      later = λ rs vs d. later-fits (turn_by s (state_with v rs vs) t d).state.rows.next_arrival v.rows.next_arrival arrivals (turns rs vs d);
    }

-- ---- what a move of the clock asks

waits-fit : (n k lines : ℕ) → lines < 1000000 → n ≤ 1 + 2049 * lines → k ≤ 1024 → n + k < 2 ^ 64
waits-fit n k lines b h few = omega (arith, b, h, few)

pub can-move : (v : ServicesView) (remainders : Table Remainder) (shared : Table ℤ) (lines : ℕ) → AreAgreed (state_with v remainders shared) → lines < 1000000 → v.rows.next_arrival ≤ 1 + 2049 * lines → AreOwed v.debts → CanMove v
can-move v remainders shared lines agreed below arrivals owed = record {
  waits = agreed.waits;
  fit = agreed.fit;
  owers = record { stands = λ u h. agreed.debts u (owed.has_owed u ∙ h) };
  arrival = waits-fit v.rows.next_arrival (length v.conds.waits) lines below arrivals agreed.waits_few;
  few = agreed.waits_few;
  seats = agreed.few;
}

-- ---- a place for the stack of one thread more

as-many : (s : Script) (m : Table StackView) → length (remainders_of s m) ≡ length m
unfolding remainders_of
as-many s [] = refl
as-many s (e ∷ es) = ap suc (as-many s es)

pub has-stack-place : (s : Script) (st : State) (stacks : Table StackView) (t : ℕ) → ((q : ℕ) → has (remainders_of s stacks) q ≡ has stacks q) → ((q : ℕ) → has st.remainders q ≡ has st.rows.seats q) → length st.rows.seats ≤ most
    → StandsIn s st stacks → has st.remainders t ≡ true → has_place stacks t most ≡ true
has-stack-place s st stacks t same seats few stand here =
    subst (λ (b : Bool). (b || nat_lt (length stacks) most) ≡ true) (same t)
    (subst (λ (n : ℕ). (has (remainders_of s stacks) t || nat_lt n most) ≡ true) (as-many s stacks)
    (place-among (remainders_of s stacks) st.rows.seats t most stand.rises (sym (seats t) ∙ here) few (λ q h. sym (seats q) ∙ stand.among q (sym (same q) ∙ h))))

-- ---- numbers of threads

number-below : (n k : ℕ) → nat_lt n k ≡ true → n < k
number-below n k e = grind (arith, nat_tests)

-- A thread with a record has a number below the next.
pub numbered : (st : State) (t : ℕ) (k : Known) → KnowsOf t k st → has st.threads.records t ≡ true → t < st.threads.next
numbered st t k h here =
    let r : (th : Thread) × (get st.threads.records t ≡ Some th) = some-has st.threads.records t here in
    number-below t st.threads.next (made_some k (core (get st.threads.records t)) (nat_lt t st.threads.next) (core_of r.0) h.recorded (ap core r.1))

-- ---- stacks that go on standing

pub restand : (s : Script) (m : Table StackView) (old new : ℕ → Setting) → StacksStand s m old → ((t : ℕ) (k : StackView) → get m t ≡ Some k → new t ≡ old t) → StacksStand s m new
restand s m old new h same = record { stands = h.stands; set = λ t k e. h.set t k e ∙ sym (same t k e) }

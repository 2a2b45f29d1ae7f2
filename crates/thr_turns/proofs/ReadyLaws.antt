-- What holds in the state of a turn once its debt is taken, and whole turns.
use Rattle.std.proofs.Common.{rules, ◌≡◌, ℕ, ◌+◌, ◌≤◌, ◌<◌, ◌^◌, ℤ, Bool, true, false, not, cond, eqb, List, [], ◌∷◌, ◌++◌, length, refl, sym, ap, subst, ◌∙◌, arith, Option, Some, None}
use Rattle.std.specs.Prelude.{IfSome, ◌||◌, nat_lt, vec_len}
use Rattle.std.specs.List.{filter}
use Rattle.std.specs.Option.{option_map, is_some, unwrap_or}
use Rattle.std.proofs.lemmas.List.{length-append}
use Rattle.std.proofs.lemmas.Bool.Decides.{nat_tests}
use Rattle.thr_values.specs.declared.number.NameId.{NameId}
use Rattle.thr_values.specs.declared.number.Tid.{Tid}
use Rattle.thr_values.specs.declared.history.Entry.{Entry}
use Rattle.thr_syntax.specs.declared.tree.Script.{Script}
use Rattle.thr_remainder.specs.Remainders.{Remainder, Setting, has_room as room_for}
use Rattle.thr_remainder.specs.Runs.{run_of, most_steps}
use Rattle.thr_parts.specs.Tables.{Table, none, get, at, has, put, cut, names}
use Rattle.thr_parts.specs.Rows.{most, seat_of, is_running, has_room}
use Rattle.thr_parts.specs.Threads.{record_at}
use Rattle.thr_parts.specs.Mutexes.{owner}
use Rattle.thr_parts.specs.Cancels.{mode_at}
use Rattle.thr_parts.specs.Dispatch.{keeps}
use Rattle.thr_parts.specs.Keys.{next_destructor}
use Rattle.thr_parts.proofs.TableLaws.{has_get, get_cut, at_get}
use Rattle.thr_parts.proofs.EntryLaws.{get_cons, cut_is}
use Rattle.thr_conds.specs.Agreement.{WaitsAgree}
use Rattle.thr_pipes.specs.Agreement.{WritersAgree}
use Rattle.thr_model.specs.States.{State, Debt, nothing_left, frames_in, remainder_of as left_to, setting_of as setting_in, debt_of}
use Rattle.thr_model.specs.Turns.{Made, debt_made, run_made, is_fifo_in, turn_by, kept, turn_of}
use Rattle.thr_services.specs.declared.debt.Debt.{Debt as Owed}
use Rattle.thr_services.specs.declared.debt.Debt.TheVariants as owed
use Rattle.thr_services.specs.Views.{ServicesView, as_owed, all_owed, state_with}
use Rattle.thr_services.specs.Cancelling.{SeatsHaveRecords, MutexesFit}
use Rattle.thr_services.specs.Sound.{IsSound}
use Rattle.thr_frames.specs.Stacks.{StackView, remainder_of, setting_of, IsRoutine}
use Rattle.thr_turns.specs.declared.workings.Workings.{Workings}
use Rattle.thr_turns.specs.declared.workings.Left.{Left}
use Rattle.thr_turns.specs.declared.workings.Left.TheVariants.{Goes, Begins, Ended}
use Rattle.thr_turns.specs.Steps.{most_lines, left_in, IsBegun, StepsTo, Keeps, IsTurnBy, IsTurn}
use Rattle.thr_open_onces.specs.Blocks.{block_of}
use Rattle.thr_turns.specs.Ready.{IsReady}
use Rattle.thr_turns.proofs.AnswerLaws.{put-here}
use Rattle.thr_turns.proofs.OwedLaws.{has-owed}

-- ---- debts

-- The service has no longer what the thread owed, and is else the same.
abbrev pub DebtTaken : ServicesView → ServicesView → Tid → Type 0
DebtTaken v v' t = (rs : Table Remainder) (values : Table ℤ) → (let st : State = record (state_with v rs values) { debts = cut (all_owed v.debts) t.0 } in st) ≡ state_with v' rs values

cut-has : {A : Type 0} (m : Table A) (k q : ℕ) → has (cut m k) q ≡ true → has m q ≡ true
cut-has m k q h = has_get m q ∙ by (eqb k q) (get m q) (sym (ap is_some (get_cut m k q)) ∙ sym (has_get (cut m k) q) ∙ h)
  where
    by : {A : Type 0} (b : Bool) (o : Option A) → is_some (cond b None o) ≡ true → is_some o ≡ true
    by true o h = absurd (cc)
    by false o h = h

head-none : {A : Type 0} (b : Bool) (x : A) (o : Option A) → cond b (Some x) o ≡ None → (b ≡ false) × (o ≡ None)
head-none true x o h = absurd (cc)
head-none false x o h = (refl, h)

turned : (k n : ℕ) → eqb k n ≡ eqb n k
turned k n = grind (arith, nat_tests)

filter-absent : {A : Type 0} (k : ℕ) (m : Table A) → get m k ≡ None → filter (λ e. not (eqb k e.0)) m ≡ m
filter-absent k [] h = refl
filter-absent k (e ∷ es) h =
    let parts : (eqb e.0 k ≡ false) × (get es k ≡ None) = head-none (eqb e.0 k) e.1 (get es k) (sym (get_cons e es k) ∙ h) in
    ap (λ (b : Bool). cond (not b) (e ∷ filter (λ x. not (eqb k x.0)) es) (filter (λ x. not (eqb k x.0)) es)) (turned k e.0 ∙ parts.0)
    ∙ ap (λ (rest : Table _). e ∷ rest) (filter-absent k es parts.1)

cut-absent : {A : Type 0} (m : Table A) (k : ℕ) → get m k ≡ None → cut m k ≡ m
cut-absent m k h = cut_is m k ∙ filter-absent k m h

-- ---- what holds in the state

-- What a turn needs of a state.
record Holds (s : Script) (t : Tid) (st : State) : Type 0 where
  room : has_room st.rows t ≡ true
  seats : length st.rows.seats ≤ most
  arrival : st.rows.next_arrival + 2 ^ 13 < 2 ^ 64
  number : st.threads.next + 1 < 2 ^ 32
  depths : (m : Option NameId) → IfSome (owner st.locks m) (λ h. h.depth + 1 < 2 ^ 64)
  waits : WaitsAgree st.conds st.rows
  writers : WritersAgree st.pipes st.rows
  owers : (q : ℕ) → has st.debts q ≡ true → has st.rows.seats q ≡ true
  recorded : SeatsHaveRecords st.threads st.rows
  fit : MutexesFit st.conds
  destructors : IfSome (next_destructor st.onces t).call (λ c. IsRoutine s c.1)

true-or : (a b : Bool) → a ≡ true → (a || b) ≡ true
true-or a b h = rw h refl

holds-then : (s : Script) (v : ServicesView) (k : StackView) (t : Tid) → IsReady s v k t → Holds s t (record (state_with v none none) { debts = cut (all_owed v.debts) t.0 })
holds-then s v k t h = record {
  room = true-or (is_running (seat_of v.rows t)) (nat_lt (length v.rows.seats) most) h.runs;
  seats = h.seats;
  arrival = h.arrival;
  number = h.number;
  depths = h.depths;
  waits = h.waits;
  writers = h.writers;
  owers = λ q is. h.owers.stands q (sym (has-owed v.debts q) ∙ cut-has (all_owed v.debts) t.0 q is);
  recorded = h.recorded;
  fit = h.fit;
  destructors = h.destructors;
}

holds-now : (s : Script) (v v' : ServicesView) (k : StackView) (t : Tid) → IsReady s v k t → DebtTaken v v' t → Holds s t (state_with v' none none)
holds-now s v v' k t h taken = subst (Holds s t) (taken none none) (holds-then s v k t h)

-- The service is sound once the debt is taken.
pub sound-now : (s : Script) (v v' : ServicesView) (k : StackView) (t : Tid) → IsReady s v k t → DebtTaken v v' t → v'.onces.room ≡ v.onces.room → IsSound v' t
sound-now s v v' k t h taken same =
    let now = holds-now s v v' k t h taken in record {
      room = now.room;
      arrival = fewer v'.rows.next_arrival now.arrival;
      number = now.number;
      depths = now.depths;
      waits = now.waits;
      writers = now.writers;
      owers = record { stands = λ q is. now.owers q (has-owed v'.debts q ∙ is) };
      recorded = now.recorded;
      fit = now.fit;
      values = subst (λ (n : ℕ). 1 ≤ n) (sym same) h.values;
    }
  where
    fewer : (n : ℕ) → n + 2 ^ 13 < 2 ^ 64 → n + 2048 < 2 ^ 64
    fewer n h = omega arith

pub seats-now : (s : Script) (v v' : ServicesView) (k : StackView) (t : Tid) → IsReady s v k t → DebtTaken v v' t → length v'.rows.seats ≤ most
seats-now s v v' k t h taken = (holds-now s v v' k t h taken).seats

pub destructors-now : (s : Script) (v v' : ServicesView) (k : StackView) (t : Tid) → IsReady s v k t → DebtTaken v v' t → IfSome (next_destructor v'.onces.state t).call (λ c. IsRoutine s c.1)
destructors-now s v v' k t h taken = (holds-now s v v' k t h taken).destructors

pub blocks-now : (s : Script) (v v' : ServicesView) (k : StackView) (t : Tid) → IsReady s v k t → DebtTaken v v' t
    → IfSome (block_of (run_of most_steps (setting_of s k) (mode_at v'.threads t) (remainder_of s k)).halt) (λ o. o.0 < names)
blocks-now s v v' k t h taken =
    subst (λ (st : State). IfSome (block_of (run_of most_steps (setting_of s k) (mode_at st.threads t) (remainder_of s k)).halt) (λ o. o.0 < names)) (taken none none) h.blocks

-- ---- a turn but for the processor

remainder-is : (rs : Table Remainder) (t : Tid) (r d : Remainder) → get rs t.0 ≡ Some r → at rs t.0 d ≡ r
remainder-is rs t r d e = at_get rs t.0 d ∙ ap (λ (o : Option Remainder). unwrap_or o d) e

owed-turn : (s : Script) (st : State) (t : Tid) (g : Setting) (r : Remainder) (o : Option Debt) (d : Debt) → o ≡ Some d → setting_in s st t ≡ g → left_to st t ≡ r
    → turn_by s st t o ≡ debt_made (record st { debts = cut st.debts t.0 }) t g r d
owed-turn s st t g r o d e f h = rw (e, ← f, ← h) refl

free-turn : (s : Script) (st : State) (t : Tid) (g : Setting) (r : Remainder) (o : Option Debt) → o ≡ None → setting_in s st t ≡ g → left_to st t ≡ r
    → turn_by s st t o ≡ run_made s st t g (run_of most_steps g (mode_at st.threads t) r)
free-turn s st t g r o e f h = rw (e, ← f, ← h) refl

-- What the state owes is what was taken.
abbrev pub DebtIs : ServicesView → Tid → Option Owed → Type 0
DebtIs v t o = (rs : Table Remainder) (values : Table ℤ) → debt_of (state_with v rs values) t ≡ option_map as_owed o

abbrev SettingIs : Script → ServicesView → StackView → Tid → Type 0
SettingIs s v k t = setting_of s k ≡ record { script = s; me = t.0; size = frames_in (record_at v.threads t) }

-- How many lines were written.
wrote-few : (old new : Workings) (lines : List Entry) (most : ℕ) → most ≤ most_lines → new.entries.items ≡ old.entries.items ++ lines → Keeps old new most → length lines ≤ most_lines
wrote-few old new lines most h written kept =
    count (length lines) (vec_len old.entries) (vec_len new.entries) most (lengths old new lines written) kept.few h
  where
    count : (n a b most : ℕ) → b ≡ a + n → b ≤ a + most → most ≤ 1160 → n ≤ 1160
    count n a b most e f h = omega arith

    lengths : (old new : Workings) (lines : List Entry) → new.entries.items ≡ old.entries.items ++ lines → vec_len new.entries ≡ vec_len old.entries + length lines
    lengths old new lines e =
        let a : vec_len new.entries ≡ length new.entries.items = search rules in
        let b : vec_len old.entries ≡ length old.entries.items = search rules in
        a ∙ ap length e ∙ length-append old.entries.items lines ∙ ap (λ (n : ℕ). n + length lines) (sym b)

begun-from : (s : Script) (v v' : ServicesView) (left : Left) → v.threads.next ≡ v'.threads.next → IsBegun s v left → IsBegun s v' left
begun-from s v v' (Begins u routine n) e h = (h.0 ∙ e, h.1)
begun-from s v v' Goes e h = tt
begun-from s v v' Ended e h = tt

turn-by : (s : Script) (t : Tid) (old new : Workings) (v : ServicesView) (k k' : StackView) (left : Left) (most : ℕ) (word other : State → Made) → most ≤ most_lines → Keeps old new most
    → ((rs : Table Remainder) → get rs t.0 ≡ Some (remainder_of s k) → other (state_with old.services rs old.shared) ≡ word (state_with v rs old.shared))
    → StepsTo s t v new.services old.shared new.shared k k' old.entries.items new.entries.items left word → v.threads.next ≡ old.services.threads.next
    → IsTurnBy s t old new k k' left other
turn-by s t old new v k k' left most word other few kept same h next = record {
  lines = h.lines;
  written = h.written;
  few = wrote-few old new h.lines most few h.written kept;
  capacity = kept.capacity;
  interface = kept.interface;
  made = λ rs is. same rs is ∙ h.made rs;
  setting = h.setting;
  stack = h.stack;
  begun = begun-from s v old.services left next h.begun;
  over = h.over;
}

same-next : (v v' : ServicesView) (t : Tid) → DebtTaken v v' t → v'.threads.next ≡ v.threads.next
same-next v v' t taken = ap (λ (st : State). st.threads.next) (sym (taken none none))

-- The turn of a thread that owed something.
pub owed-makes : (s : Script) (t : Tid) (old new : Workings) (v : ServicesView) (k k' : StackView) (d : Owed) → SettingIs s old.services k t → DebtTaken old.services v t → DebtIs old.services t (Some d)
    → Keeps old new 3
    → StepsTo s t v new.services old.shared new.shared k k' old.entries.items new.entries.items Goes (λ st. debt_made st t (setting_of s k) (remainder_of s k) (as_owed d))
    → IsTurnBy s t old new k k' Goes (λ st. turn_by s st t (debt_of st t))
owed-makes s t old new v k k' d set taken is kept h =
    turn-by s t old new v k k' Goes 3 (λ st. debt_made st t (setting_of s k) (remainder_of s k) (as_owed d)) (λ st. turn_by s st t (debt_of st t)) (omega arith) kept
    (λ rs here. owed-turn s (state_with old.services rs old.shared) t (setting_of s k) (remainder_of s k) _ (as_owed d) (is rs old.shared) (sym set) (remainder-is rs t (remainder_of s k) nothing_left here)
    ∙ ap (λ (st : State). debt_made st t (setting_of s k) (remainder_of s k) (as_owed d)) (taken rs old.shared)) h (same-next old.services v t taken)

same-free : (v v' : ServicesView) (t : Tid) → DebtTaken v v' t → DebtIs v t None → (rs : Table Remainder) (values : Table ℤ) → state_with v rs values ≡ state_with v' rs values
same-free v v' t taken is rs values =
    ap (λ (debts : Table Debt). let st : State = record (state_with v rs values) { debts = debts } in st) (sym (cut-absent (all_owed v.debts) t.0 (is none none))) ∙ taken rs values

-- The turn of a thread that owed nothing.
pub free-makes : (s : Script) (t : Tid) (old new : Workings) (v : ServicesView) (k k' : StackView) (left : Left) → SettingIs s old.services k t → DebtTaken old.services v t → DebtIs old.services t None
    → Keeps old new 1158
    → StepsTo s t v new.services old.shared new.shared k k' old.entries.items new.entries.items left
    (λ st. run_made s st t (setting_of s k) (run_of most_steps (setting_of s k) (mode_at st.threads t) (remainder_of s k)))
    → IsTurnBy s t old new k k' left (λ st. turn_by s st t (debt_of st t))
free-makes s t old new v k k' left set taken is kept h =
    turn-by s t old new v k k' left 1158 (λ st. run_made s st t (setting_of s k) (run_of most_steps (setting_of s k) (mode_at st.threads t) (remainder_of s k))) (λ st. turn_by s st t (debt_of st t)) (omega arith) kept
    (λ rs here. free-turn s (state_with old.services rs old.shared) t (setting_of s k) (remainder_of s k) _ (is rs old.shared) (sym set) (remainder-is rs t (remainder_of s k) nothing_left here)
    ∙ ap (λ (st : State). run_made s st t (setting_of s k) (run_of most_steps (setting_of s k) (mode_at st.threads t) (remainder_of s k))) (same-free old.services v t taken is rs old.shared)) h
    (same-next old.services v t taken)

-- A thread that owed the running of its once block has room for it.
pub running-room : (s : Script) (v : ServicesView) (k : StackView) (t : Tid) (d : Owed) → IsReady s v k t → DebtIs v t (Some d) → d ≡ owed.Running → room_for (setting_of s k) (remainder_of s k) 2 ≡ true
running-room s v k t d h is e = h.running (is none none ∙ ap (λ (x : Owed). Some (as_owed x)) e)

-- ---- whole turns

-- After the turn there is an arrival for the thread that gives up its processor.
pub arrival-later : (s : Script) (t : Tid) (old new : Workings) (k k' : StackView) (left : Left) → IsReady s old.services k t → IsTurnBy s t old new k k' left (λ st. turn_by s st t (debt_of st t))
    → new.services.rows.next_arrival + 1 < 2 ^ 64
arrival-later s t old new k k' left h turn =
    let rs : Table Remainder = put none t.0 (remainder_of s k) in
    subst (λ (m : Made). m.state.rows.next_arrival + 1 < 2 ^ 64) (turn.made rs (put-here t.0 (remainder_of s k))) (h.later rs old.shared (debt_of (state_with old.services rs old.shared) t))

-- The thread keeps its processor or gives it up.
abbrev pub KeptSo : ServicesView → ServicesView → Tid → Type 0
KeptSo v v' t = (rs : Table Remainder) (values : Table ℤ)
    → (let st : State = record (state_with v rs values) { rows = (keeps v.rows t (is_fifo_in (record_at v.threads t))).rows } in st) ≡ state_with v' rs values

pub whole-turn : (s : Script) (t : Tid) (old mid : Workings) (v : ServicesView) (k k' : StackView) (left : Left) → IsTurnBy s t old mid k k' left (λ st. turn_by s st t (debt_of st t)) → KeptSo mid.services v t
    → IsTurn s t old (record mid { services = v }) k k' left
unfolding turn_of
whole-turn s t old mid v k k' left h kept_so = record {
  lines = h.lines;
  written = h.written;
  few = h.few;
  capacity = h.capacity;
  interface = h.interface;
  made = λ rs is. ap (kept t) (h.made rs is)
      ∙ ap (λ (st : State). let m : Made = record { state = st; lines = h.lines } in m) (kept_so (left_in s rs t (remainder_of s k') left) mid.shared);
  setting = h.setting;
  stack = h.stack;
  begun = h.begun;
  over = h.over;
}

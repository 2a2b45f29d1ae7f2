-- In every history of a script that keeps the rules the numbers that the state keeps and those of the lines are bounded.
use Rattle.std.proofs.Common.{◌≡◌, ℕ, ◌+◌, ◌*◌, ◌≤◌, ◌<◌, ℤ, pos, Bool, true, false, List, [], ◌∷◌, ◌++◌, length, length-append, Option, Some, None, refl, sym, ◌∙◌, ap, subst, arith}
use Rattle.std.specs.Prelude.{if◌then◌else◌, nat_lt, is_some, is_none}
use Rattle.std.specs.Option.{option_map, unwrap_or}
use Rattle.std.proofs.lemmas.Bool.Decides.{nat_tests}
use Rattle.thr_values.specs.declared.number.NameId.{NameId}
use Rattle.thr_values.specs.declared.number.Tid.{Tid}
use Rattle.thr_values.specs.declared.event.Event.{Event}
use Rattle.thr_values.specs.declared.event.Event.TheVariants as event
use Rattle.thr_values.specs.declared.history.Entry.{Entry}
use Rattle.thr_syntax.specs.declared.tree.Item.{Item}
use Rattle.thr_syntax.specs.declared.tree.Item.TheVariants as item
use Rattle.thr_syntax.specs.declared.tree.Script.{Script}
use Rattle.thr_syntax.specs.Lines.{lines_of}
use Rattle.thr_text.specs.Reading.{Formed}
use Rattle.thr_parts.specs.declared.row.RowId.TheVariants as row
use Rattle.thr_parts.specs.declared.row.Seat.{Seat}
use Rattle.thr_parts.specs.Tables.{Table, none, get, put, IsCanonical}
use Rattle.thr_parts.specs.Rows.{Rows, thread, standing, best_of, number_in}
use Rattle.thr_parts.specs.Dispatch.{Dispatched, running, some_can_run, dispatch}
use Rattle.thr_parts.specs.Expiry.{earliest, due_first, expire_all}
use Rattle.thr_parts.specs.Pipes.{declared_pipes, new_pipe}
use Rattle.thr_parts.proofs.EachLaws.{Each, IfThere, each_none, each_put}
use Rattle.thr_parts.proofs.RunningLaws.{HasProcessor, running_seat}
use Rattle.thr_parts.proofs.RowLaws.{best_stands}
use Rattle.thr_parts.proofs.TableLaws.{has_get}
use Rattle.thr_model.specs.States.{State, Debt, opening, main_of, nothing_left, rank_of}
use Rattle.thr_model.specs.Canonical.{IsCanonicalState}
use Rattle.thr_model.specs.Turns.{Made, turn_of}
use Rattle.thr_model.specs.Events.{dispatch_made, due_debt, due_owe, clock_to, clock_of, made_by}
use Rattle.thr_model.specs.Histories.{Execution, History, opened, then_event}
use Rattle.thr_model.proofs.StateTables.{canonical-state}
use Rattle.thr_answers.proofs.HistoriesStand.{remainder_stands, left-stands}
use Rattle.thr_counts.proofs.EventLines.{made_line}
use Rattle.thr_counts.proofs.Limits.{formed_below}
use Rattle.thr_counts.proofs.Numbered.{numbers_given}
use Rattle.thr_waiting.proofs.Living.{seat_recorded}
use Rattle.thr_waiting.proofs.SeatsStay.{row_sits}
use Rattle.thr_sizes.proofs.Values.{Fits, small_fits}
use Rattle.thr_sizes.proofs.Literals.{declared_fit}
use Rattle.thr_sizes.proofs.Fitting.{LeftFits, left_later, line_later}
use Rattle.thr_sizes.proofs.Steps.{fresh_fits}
use Rattle.thr_sizes.proofs.Parts.{ThreadFits, AttrFits, WaitFits, KeyFits, PipeFits, WritingFits, at_each, earliest_fits}
use Rattle.thr_sizes.proofs.Calls.{DebtFits, Holds, woken_waits}
use Rattle.thr_sizes.proofs.Turns.{EntriesFit, MadeFits, entries_append, gifts_fit, turn_fits}

-- ---- greater bounds

pub holds_later : (j k : ℕ) → j ≤ k → (st : State) → Holds j st → Holds k st
holds_later j k le st h = record {
  threads = h.threads;
  next = (let low = h.next in omega (arith, low, le));
  left = λ q r e. left_later j k le r (h.left q r e);
  debts = h.debts;
  waits = h.waits;
  keys = h.keys;
  pipes = h.pipes;
  shared = h.shared;
}

entries_later : (n j k : ℕ) → j ≤ k → (es : List Entry) → EntriesFit n j es → EntriesFit n k es
entries_later n j k le [] h = tt
entries_later n j k le (e ∷ es) h = ((h.0.0, line_later j k le e.what h.0.1), entries_later n j k le es h.1)

-- ---- the clock

due_fits : (debts : Table Debt) (ws : List (Tid × Option NameId)) → Each DebtFits debts → Each DebtFits (due_owe debts ws)
due_fits debts [] h = h
due_fits debts (w ∷ ws) h = due_fits (put debts w.0.0 (due_debt w.1)) ws (each_put DebtFits debts w.0.0 (due_debt w.1) (owed w.1) h)
  where
    owed : (m : Option NameId) → DebtFits (due_debt m)
    owed None = tt
    owed (Some m) = tt

-- ---- events

some_is : (m made : Made) → (let o : Option Made = Some m in o) ≡ Some made → m ≡ made
some_is m made e = ap (λ o. unwrap_or o m) e

module _ (n k : ℕ) where
  clock_fits : (st : State) (now : ℤ) → Fits now → Holds k st → MadeFits n k (clock_to st now)
  clock_fits st now f h = record {
    state = record {
      threads = h.threads;
      next = h.next;
      left = h.left;
      debts = due_fits st.debts (expire_all (rank_of st) st.conds st.locks st.rows now).woken h.debts;
      waits = woken_waits (rank_of st) st.conds st.locks st.rows (due_first st.conds st.rows now) h.waits;
      keys = h.keys;
      pipes = h.pipes;
      shared = h.shared;
    };
    lines = ((tt, f), gifts_fit n k _);
  }

  clock_at : (st : State) (o : Option ℤ) (made : Made) → IfThere Fits o → Holds k st → option_map (clock_to st) o ≡ Some made → MadeFits n k made
  clock_at st None made f h e = absurd (cc)
  clock_at st (Some now) made f h e = subst (MadeFits n k) (some_is (clock_to st now) made e) (clock_fits st now f h)

  clock_if : (st : State) (b : Bool) (made : Made) → IfThere Fits (earliest st.conds) → Holds k st → clock_of b st ≡ Some made → MadeFits n k made
  clock_if st true made f h e = absurd (cc)
  clock_if st false made f h e = clock_at st (earliest st.conds) made f h e

  dispatch_at : (st : State) (p : ℕ) (d : Dispatched) (o : Option Tid) (made : Made) → p < n → IfThere (λ (t : Tid). t.0 ≤ k) o → Holds k st → dispatch_made st p d o ≡ Some made → MadeFits n k made
  dispatch_at st p d None made low f h e = absurd (cc)
  dispatch_at st p d (Some t) made low f h e = subst (MadeFits n k) (some_is _ made e) (record { state = h; lines = ((low, f), tt) })

  dispatch_if : (st : State) (p : ℕ) (b : Bool) (made : Made) → (b ≡ true → p < n) → IfThere (λ (t : Tid). t.0 ≤ k) (dispatch st.rows p).taken → Holds k st
      → (let o : Option Made = if b then dispatch_made st p (dispatch st.rows p) (dispatch st.rows p).taken else None in o) ≡ Some made → MadeFits n k made
  dispatch_if st p true made low f h e = dispatch_at st p (dispatch st.rows p) (dispatch st.rows p).taken made (low refl) f h e
  dispatch_if st p false made low f h e = absurd (cc)

  turn_if : (s : Script) (st : State) (o : Option Tid) (made : Made) → ((t : Tid) → o ≡ Some t → MadeFits n k (turn_of s st t)) → option_map (turn_of s st) o ≡ Some made → MadeFits n k made
  turn_if s st None made f e = absurd (cc)
  turn_if s st (Some t) made f e = subst (MadeFits n k) (some_is (turn_of s st t) made e) (f t refl)

-- ---- threads that run or are ready have numbers that were given

given : {s : Script} {n : ℕ} {x : Execution} → History s n x → (t : ℕ) → is_some (get x.state.rows.seats t) ≡ true → t < x.state.threads.next
given {x = x} h t e =
    numbers_given h t (sym (has_get x.state.threads.records t) ∙ seat_recorded h t (has_get x.state.rows.seats t ∙ e))

next_given : (rs : Rows) (p : ℕ) (low : ℕ → Type 0) → IsCanonical rs.seats → ((t : ℕ) → is_some (get rs.seats t) ≡ true → low t) → IfThere (λ (t : Tid). low t.0) (dispatch rs p).taken
next_given rs p low sorted all = by (is_none (running rs p)) (best_of (standing rs row.Ready)) refl
  where
    there : (o : Option (ℕ × Seat)) → best_of (standing rs row.Ready) ≡ o → IfThere (λ (t : Tid). low t.0) (number_in o)
    there None e = tt
    there (Some w) e = all w.0 (row_sits (get rs.seats w.0) row.Ready (best_stands rs row.Ready (thread w.0) sorted (ap number_in e)))

    by : (b : Bool) (o : Option (ℕ × Seat)) → best_of (standing rs row.Ready) ≡ o → IfThere (λ (t : Tid). low t.0) (number_in (if b then o else None))
    by true o e = there o e
    by false o e = tt

below : (p n : ℕ) → nat_lt p n ≡ true → p < n
below p n e = grind (arith, nat_tests)

-- ---- histories

-- The bound after so many lines, of a script of so many.
abbrev pub bound : ℕ → ℕ → ℕ
bound lines count = lines + 3 + 140 * count

bound_two : (lines count : ℕ) → 2 ≤ bound lines count
bound_two lines count = omega arith

bound_room : (lines count : ℕ) → lines + 1 ≤ bound lines count
bound_room lines count = omega arith

bound_next : (lines count more all : ℕ) → all ≡ count + more → 0 < more → bound lines count + 140 ≤ bound lines all
bound_next lines count more all e some = omega (arith, e, some)

bound_small : (lines count : ℕ) → lines ≤ 20000 → count < 1000000 → bound lines count + 140 < 1000000000
bound_small lines count few low = omega (arith, few, low)

no_less : (a b : ℕ) → a + 140 ≤ b → a ≤ b
no_less a b le = omega (arith, le)

same_most : (a : ℕ) → a ≤ a
same_most a = omega arith

-- The numbers that the state keeps, and those of the lines, are bounded.
pub record HistoryFits (s : Script) (n : ℕ) (x : Execution) : Type 0 where
  pub state : Holds (bound (length (lines_of s)) (length x.entries)) x.state
  pub lines : EntriesFit n (bound (length (lines_of s)) (length x.entries)) x.entries

pipes_empty : (items : List Item) → Each PipeFits (declared_pipes items)
unfolding declared_pipes
pipes_empty [] = each_none PipeFits
pipes_empty (item.Pipe p capacity ∷ items) = each_put PipeFits (declared_pipes items) p.0 (new_pipe capacity) tt (pipes_empty items)
pipes_empty (_ ∷ items) = pipes_empty items

module _ (s : Script) (formed : Formed s) (few : length (lines_of s) ≤ 20000) where
  first_fits : (k : ℕ) → 2 ≤ k → Holds k (opening s)
  first_fits k le = record {
    threads = record { records = each_put ThreadFits none 1 _ (refl, tt) (each_none ThreadFits); attrs = each_none AttrFits };
    next = le;
    left = each_put (LeftFits k) none 1 _ (fresh_fits k s (main_of s) (pos 0) refl) (each_none (LeftFits k));
    debts = each_none DebtFits;
    waits = each_none WaitFits;
    keys = each_none KeyFits;
    pipes = record { pipes = pipes_empty s.items; writing = each_none WritingFits };
    shared = declared_fit s formed;
  }

  nothing_fits : (k : ℕ) → LeftFits k nothing_left
  nothing_fits k = record { items = tt; under = tt; value = refl; err = refl; scopes = omega arith; unwindings = omega arith }

  event_fits : {n : ℕ} (x : Execution) (h : History s n x) (j k : ℕ) → Holds j x.state → length (lines_of s) + 1 ≤ j → j + 140 ≤ k → k < 1000000000 → (e : Event) (made : Made) → made_by s n x.state e ≡ Some made → MadeFits n k made
  unfolding made_by
  event_fits {n} x h j k holds room le small (event.Dispatch p) made e =
      let tables : IsCanonicalState x.state = canonical-state h in
      let next = holds.next in
      dispatch_if n k x.state p (nat_lt p n) made (λ i. below p n i) (next_given x.state.rows p (λ t. t ≤ k) tables.seats (λ t i. let low = given h t i in omega (arith, low, next, le))) (holds_later j k (omega (arith, le)) x.state holds) e
  event_fits {n} x h j k holds room le small (event.Turn p) made e =
      let tables : IsCanonicalState x.state = canonical-state h in
      let next = holds.next in
      turn_if n k s x.state (running x.state.rows p) made
      (λ t i. (
      let seat : (y : Seat) × HasProcessor x.state.rows p t.0 y = running_seat x.state.rows p t tables.seats i in
      let low : t.0 < x.state.threads.next = given h t.0 (ap is_some seat.1.at) in
      turn_fits n j k le s x.state t (record {
        small = small;
        room = omega (arith, next, le);
        writing = tables.writing;
        keys = tables.keys;
        holds = holds_later j k (omega (arith, le)) x.state holds;
      }) (record { formed = formed; room = room; me = small_fits t.0 (omega (arith, low, next, le, small)) }) (record {
        stands = remainder_stands s x.state t (left-stands h);
        fits = at_each (LeftFits j) x.state.remainders t.0 nothing_left holds.left (nothing_fits j);
      })
      )) e
  event_fits {n} x h j k holds room le small event.Clock made e =
      let tables : IsCanonicalState x.state = canonical-state h in
      clock_if n k x.state (some_can_run x.state.rows) made (earliest_fits x.state.conds.waits tables.waits holds.waits) (holds_later j k (omega (arith, le)) x.state holds) e

  pub history_fits : {n : ℕ} {x : Execution} → History s n x → HistoryFits s n x
  history_fits opened = record { state = first_fits (bound (length (lines_of s)) 0) (bound_two (length (lines_of s)) 0); lines = tt }
  history_fits {n} (then_event {x} h open_ e made m) =
      let old : HistoryFits s n x = history_fits h in
      let count : length (x.entries ++ made.lines) ≡ length x.entries + length made.lines = length-append x.entries made.lines in
      let j : ℕ = bound (length (lines_of s)) (length x.entries) in
      let k : ℕ = bound (length (lines_of s)) (length (x.entries ++ made.lines)) in
      let small : j + 140 < 1000000000 = bound_small (length (lines_of s)) (length x.entries) few (formed_below s x.state (length x.entries) formed open_) in
      let le : j + 140 ≤ k = bound_next (length (lines_of s)) (length x.entries) (length made.lines) (length (x.entries ++ made.lines)) count (made_line s n x.state e made m) in
      let f : MadeFits n (j + 140) made = event_fits x h j (j + 140) old.state (bound_room (length (lines_of s)) (length x.entries)) (same_most (j + 140)) small e made m in record {
        state = holds_later (j + 140) k le made.state f.state;
        lines = entries_append n k x.entries made.lines (entries_later n j k (no_less j k le) x.entries old.lines) (entries_later n (j + 140) k le made.lines f.lines);
      }

-- In every history of a script that keeps the rules the names in its lines are of their kinds.
use Rattle.std.proofs.Common.{◌≡◌, ℕ, ℤ, pos, Bool, true, false, List, [], ◌∷◌, Option, Some, None, ap, subst}
use Rattle.std.specs.Prelude.{if◌then◌else◌, nat_lt}
use Rattle.std.specs.Option.{option_map, unwrap_or}
use Rattle.thr_values.specs.declared.number.NameId.{NameId}
use Rattle.thr_values.specs.declared.number.Tid.{Tid}
use Rattle.thr_values.specs.declared.event.Event.{Event}
use Rattle.thr_values.specs.declared.event.Event.TheVariants as event
use Rattle.thr_syntax.specs.declared.tree.Script.{Script}
use Rattle.thr_text.specs.Reading.{Formed}
use Rattle.thr_parts.specs.Tables.{none}
use Rattle.thr_parts.specs.Rows.{Rows}
use Rattle.thr_parts.specs.Mutexes.{Locks}
use Rattle.thr_parts.specs.Conditions.{Conds}
use Rattle.thr_parts.specs.Dispatch.{Dispatched, running, some_can_run, dispatch}
use Rattle.thr_parts.specs.Waking.{Woken}
use Rattle.thr_parts.specs.Expiry.{earliest, due_first, expire_all}
use Rattle.thr_parts.proofs.EachLaws.{each_none, each_put}
use Rattle.thr_model.specs.Canonical.{IsCanonicalState}
use Rattle.thr_model.specs.States.{State, opening, main_of, nothing_left, rank_of}
use Rattle.thr_model.specs.Turns.{Made, turn_of}
use Rattle.thr_model.specs.Events.{dispatch_made, clock_made, clock_to, clock_of, made_by}
use Rattle.thr_model.specs.Histories.{Execution, History, opened, then_event}
use Rattle.thr_model.proofs.StateTables.{canonical-state}
use Rattle.thr_answers.proofs.HistoriesStand.{remainder_stands, left-stands}
use Rattle.thr_sizes.proofs.Parts.{at_each}
use Rattle.thr_formed.proofs.Named.{LeftNamed, EntriesNamed, entries_append}
use Rattle.thr_formed.proofs.Moves.{fresh_named}
use Rattle.thr_formed.proofs.Given.{no_keys, WaitNamed, MutexGifts, woken_waits, woken_gifts}
use Rattle.thr_formed.proofs.Asked.{StateNamed}
use Rattle.thr_formed.proofs.Turns.{MadeNamed, turn_named}

some_is : (m made : Made) → (let o : Option Made = Some m in o) ≡ Some made → m ≡ made
some_is m made e = ap (λ o. unwrap_or o m) e

module _ (s : Script) where
  -- ---- the clock

  clock_lines : (st : State) (now : ℤ) (cs : Conds) (ls : Locks) (rs : Rows) (woken : List (Tid × Option NameId)) (gifts : List (Tid × NameId)) → MutexGifts s gifts
      → (let o : Woken = record { conds = cs; locks = ls; rows = rs; woken = woken; gifts = gifts } in EntriesNamed s (clock_made st now o).lines)
  clock_lines st now cs ls rs woken [] h = (tt, tt)
  clock_lines st now cs ls rs woken (g ∷ gs) h = let rest = clock_lines st now cs ls rs woken gs h.1 in (tt, (h.0, rest.1))

  clock_named : (st : State) (now : ℤ) → StateNamed s st → MadeNamed s (clock_to st now)
  clock_named st now h =
      let o : Woken = expire_all (rank_of st) st.conds st.locks st.rows now in record {
        state = record { left = h.left; waits = woken_waits s (rank_of st) st.conds st.locks st.rows (due_first st.conds st.rows now) h.waits; keys = h.keys };
        lines = clock_lines st now o.conds o.locks o.rows o.woken o.gifts (woken_gifts s (rank_of st) st.conds st.locks st.rows (due_first st.conds st.rows now) h.waits);
      }

  clock_at : (st : State) (o : Option ℤ) (made : Made) → StateNamed s st → option_map (clock_to st) o ≡ Some made → MadeNamed s made
  clock_at st None made h e = absurd (cc)
  clock_at st (Some now) made h e = subst (MadeNamed s) (some_is (clock_to st now) made e) (clock_named st now h)

  clock_if : (st : State) (b : Bool) (made : Made) → StateNamed s st → clock_of b st ≡ Some made → MadeNamed s made
  clock_if st true made h e = absurd (cc)
  clock_if st false made h e = clock_at st (earliest st.conds) made h e

  -- ---- dispatches

  dispatch_at : (st : State) (p : ℕ) (d : Dispatched) (o : Option Tid) (made : Made) → StateNamed s st → dispatch_made st p d o ≡ Some made → MadeNamed s made
  dispatch_at st p d None made h e = absurd (cc)
  dispatch_at st p d (Some t) made h e = subst (MadeNamed s) (some_is _ made e) (record { state = h; lines = (tt, tt) })

  dispatch_if : (st : State) (p : ℕ) (b : Bool) (made : Made) → StateNamed s st
      → (let o : Option Made = if b then dispatch_made st p (dispatch st.rows p) (dispatch st.rows p).taken else None in o) ≡ Some made → MadeNamed s made
  dispatch_if st p true made h e = dispatch_at st p (dispatch st.rows p) (dispatch st.rows p).taken made h e
  dispatch_if st p false made h e = absurd (cc)

  -- ---- turns

  turn_if : (st : State) (o : Option Tid) (made : Made) → ((t : Tid) → MadeNamed s (turn_of s st t)) → option_map (turn_of s st) o ≡ Some made → MadeNamed s made
  turn_if st None made f e = absurd (cc)
  turn_if st (Some t) made f e = subst (MadeNamed s) (some_is (turn_of s st t) made e) (f t)

  -- ---- histories

  module _ (formed : Formed s) where
    event_named : {n : ℕ} (x : Execution) (h : History s n x) → StateNamed s x.state → (e : Event) (made : Made) → made_by s n x.state e ≡ Some made → MadeNamed s made
    unfolding made_by
    event_named {n} x h holds (event.Dispatch p) made e = dispatch_if x.state p (nat_lt p n) made holds e
    event_named {n} x h holds (event.Turn p) made e =
        let tables : IsCanonicalState x.state = canonical-state h in
        turn_if x.state (running x.state.rows p) made
        (λ t. turn_named s x.state t formed tables.keys holds (record {
          stands = remainder_stands s x.state t (left-stands h);
          named = at_each (LeftNamed s) x.state.remainders t.0 nothing_left holds.left (record { items = tt; under = tt });
        })) e
    event_named {n} x h holds event.Clock made e = clock_if x.state (some_can_run x.state.rows) made holds e

    opening_named : StateNamed s (opening s)
    opening_named = record {
      left = each_put (LeftNamed s) none 1 _ (fresh_named s s (main_of s) (pos 0)) (each_none (LeftNamed s));
      waits = each_none (WaitNamed s);
      keys = no_keys s;
    }

    -- The state that a history has come to, and its lines.
    record HistoryNamed (x : Execution) : Type 0 where
      state : StateNamed s x.state
      lines : EntriesNamed s x.entries

    history_both : {n : ℕ} {x : Execution} → History s n x → HistoryNamed x
    history_both opened = record { state = opening_named; lines = tt }
    history_both {n} (then_event {x} h open_ e made m) =
        let old : HistoryNamed x = history_both h in
        let f : MadeNamed s made = event_named x h old.state e made m in record { state = f.state; lines = entries_append s x.entries made.lines old.lines f.lines }

    pub history_named : {n : ℕ} {x : Execution} → History s n x → EntriesNamed s x.entries
    history_named h = let both = history_both h in both.lines

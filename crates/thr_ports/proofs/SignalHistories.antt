-- In every history signals take waiters so that each wait on a condition ends as its signal, broadcast, time or cancel has it.
use Rattle.std.proofs.Common.{◌≡◌, ℕ, ℤ, Bool, true, false, eqb, List, [], ◌∷◌, ◌++◌, Option, Some, None, refl, sym, ap, ◌∙◌, subst, nat_lt}
use Rattle.std.proofs.lemmas.Bool.{eqb-true, false≢true}
use Rattle.std.proofs.lemmas.List.Sums.{fold-append}
use Rattle.std.specs.Prelude.{if◌then◌else◌, is_some, is_none, unwrap_or}
use Rattle.std.specs.List.{fold}
use Rattle.std.specs.Option.{option_map}
use Rattle.thr_values.specs.declared.number.Tid.{Tid}
use Rattle.thr_values.specs.declared.event.Event.{Event}
use Rattle.thr_values.specs.declared.event.Event.TheVariants as event
use Rattle.thr_values.specs.declared.event.Stop.{Stop}
use Rattle.thr_values.specs.declared.history.Entry.{Entry}
use Rattle.thr_syntax.specs.declared.tree.Script.{Script}
use Rattle.thr_parts.specs.declared.thread.Thread.{Thread}
use Rattle.thr_parts.specs.Tables.{get}
use Rattle.thr_parts.specs.Dispatch.{dispatch, running, some_can_run}
use Rattle.thr_parts.specs.Expiry.{earliest}
use Rattle.thr_parts.proofs.TableLaws.{get_none}
use Rattle.thr_laws.specs.Lines.{fits}
use Rattle.thr_model.specs.States.{State, Debt, opening}
use Rattle.thr_model.specs.Turns.{Made, turn_of}
use Rattle.thr_model.specs.Events.{run_line, dispatch_made, clock_to, clock_of, made_by}
use Rattle.thr_model.specs.Histories.{Execution, History, opened, then_event, Legal}
use Rattle.thr_model.proofs.RowsKept.{history_canonical}
use Rattle.thr_model.proofs.Legality.{of-legal}
use Rattle.thr_answers.proofs.StatusLives.{is_living}
use Rattle.thr_answers.proofs.StatusTurns.{has_run, absent_parts}
use Rattle.thr_answers.proofs.AnswerTurns.{agrees}
use Rattle.thr_waiting.proofs.WaitsKept.{history_waits}
use Rattle.thr_ports.specs.Signals.{Waiter, Elsewhere, Marked, entries_of, waiter_after, waits_rightly, SignalLaw}
use Rattle.thr_ports.proofs.Marking.{marked, marked_entries, Reads, reads_idle, reads_fit, fits_append}
use Rattle.thr_ports.proofs.Resting.{none_some, Knows, rests_on}
use Rattle.thr_ports.proofs.TurnsRest.{dispatch_rests}
use Rattle.thr_ports.proofs.CallsCome.{Fair}
use Rattle.thr_ports.proofs.OthersTurns.{other_reads}
use Rattle.thr_ports.proofs.OwnTurns.{no_wait, own_reads}
use Rattle.thr_ports.proofs.ClockMoves.{clock_reads}

-- ---- one event more

living_record : (o : Option Thread) → is_living o ≡ true → (th : Thread) × (o ≡ Some th) × (th.ended ≡ None)
living_record None e = absurd (false≢true e)
living_record (Some th) e = (th, refl, never_ended th.ended e)
  where
    never_ended : (v : Option ℤ) → is_none v ≡ true → v ≡ None
    never_ended None f = refl
    never_ended (Some n) f = absurd (false≢true f)

owes_something : (d : Option Debt) → is_some d ≡ true → d ≡ None → ⊥
owes_something None e f = false≢true e
owes_something (Some d) e f = none_some d (sym f)

fair : {s : Script} {n : ℕ} {x : Execution} → History s n x → (u : ℕ) → Fair u x.state
fair {x = x} h u = record {
  sorted = history_canonical h;
  agree = history_waits h;
  living = λ e. living_record (get x.state.threads.records u)
      ((agrees h).lives u (λ a. owes_something (get x.state.debts u) e (absent_parts (get x.state.debts u) (get x.state.rows.seats u) (get x.state.conds.waits u) a).0));
}

module _ {s : Script} {n : ℕ} {x : Execution} (h : History s n x) (u : ℕ) (w : Waiter) (knows : Knows u w x.state) where
  abbrev ReadsOn : Made → Type 0
  ReadsOn made = Reads u x.state (λ v. Knows u v made.state) w made.lines

  turn_reads : (t : Tid) (p : ℕ) (b : Bool) → eqb t.0 u ≡ b → running x.state.rows p ≡ Some t → ReadsOn (turn_of s x.state t)
  turn_reads t p true e at =
      subst (λ (q : ℕ). Knows q w x.state → Reads q x.state (λ v. Knows q v (turn_of s x.state t).state) w (turn_of s x.state t).lines) (eqb-true t.0 u e)
      (λ k. own_reads s x.state t (has_run x.state p t (history_canonical h) at) (agrees h).order (history_waits h) (history_canonical h) w k) knows
  turn_reads t p false e at = other_reads s x.state t u w e (fair h u) knows

  turn_at : (p : ℕ) (o : Option Tid) (made : Made) → running x.state.rows p ≡ o → option_map (turn_of s x.state) o ≡ Some made → ReadsOn made
  turn_at p None made at e = absurd (cc)
  turn_at p (Some t) made at e = subst ReadsOn (ap (λ o. unwrap_or o made) e) (turn_reads t p (eqb t.0 u) refl at)

  dispatch_reads : (p : ℕ) (o : Option Tid) (made : Made) → dispatch_made x.state p (dispatch x.state.rows p) o ≡ Some made → ReadsOn made
  dispatch_reads p None made e = absurd (cc)
  dispatch_reads p (Some t) made e =
      let after : State = record x.state { rows = (dispatch x.state.rows p).rows } in
      subst ReadsOn (ap (λ o. unwrap_or o made) e)
      (reads_idle u x.state (λ v. Knows u v after) w (run_line p t ∷ []) (record { own = refl; cancel = refl; signal = refl; broadcast = refl; time = refl }, tt)
      (rests_on u w x.state after (dispatch_rests u x.state p (history_canonical h)) knows))

  dispatch_if : (p : ℕ) (b : Bool) (made : Made) → (if b then dispatch_made x.state p (dispatch x.state.rows p) (dispatch x.state.rows p).taken else None) ≡ Some made → ReadsOn made
  dispatch_if p true made e = dispatch_reads p (dispatch x.state.rows p).taken made e
  dispatch_if p false made e = absurd (cc)

  clock_at : (o : Option ℤ) (made : Made) → option_map (clock_to x.state) o ≡ Some made → ReadsOn made
  clock_at None made e = absurd (cc)
  clock_at (Some now) made e = subst ReadsOn (ap (λ o. unwrap_or o made) e) (clock_reads u x.state now (history_canonical h) (history_waits h) w knows)

  clock_if : (b : Bool) (made : Made) → clock_of b x.state ≡ Some made → ReadsOn made
  clock_if true made e = absurd (cc)
  clock_if false made e = clock_at (earliest x.state.conds) made e

  event_reads : (e : Event) (made : Made) → made_by s n x.state e ≡ Some made → ReadsOn made
  unfolding made_by
  event_reads (event.Dispatch p) made m = dispatch_if p (nat_lt p n) made m
  event_reads (event.Turn p) made m = turn_at p (running x.state.rows p) made refl m
  event_reads event.Clock made m = clock_if (some_can_run x.state.rows) made m

-- ---- histories

-- The lines of a history with the waiters that its signals take.
abbrev takings : {s : Script} {n : ℕ} {x : Execution} → History s n x → List Marked
takings opened = []
takings (then_event {x} h goes e made m) = takings h ++ marked x.state made.lines

entries_append : (xs ys : List Marked) → entries_of (xs ++ ys) ≡ entries_of xs ++ entries_of ys
entries_append [] ys = refl
entries_append (x ∷ xs) ys = ap (λ l. x.entry ∷ l) (entries_append xs ys)

taken_entries : {s : Script} {n : ℕ} {x : Execution} (h : History s n x) → entries_of (takings h) ≡ x.entries
taken_entries opened = refl
taken_entries (then_event {x} h goes e made m) =
    entries_append (takings h) (marked x.state made.lines) ∙ ap (λ l. l ++ entries_of (marked x.state made.lines)) (taken_entries h)
    ∙ ap (λ l. x.entries ++ l) (marked_entries x.state made.lines)

-- All lines pass, and the state keeps what they tell.
record Told (u : ℕ) (lines : List Marked) (st : State) : Type 0 where
  passes : fits (waiter_after u) (waits_rightly u) Elsewhere lines ≡ true
  knows : Knows u (fold (waiter_after u) Elsewhere lines) st

history_told : {s : Script} {n : ℕ} {x : Execution} (h : History s n x) (u : ℕ) → Told u (takings h) x.state
history_told {s} opened u = record { passes = refl; knows = no_wait u (opening s) (get_none u) }
history_told (then_event {x} h goes e made m) u =
    let before : Told u (takings h) x.state = history_told h u in
    let w : Waiter = fold (waiter_after u) Elsewhere (takings h) in
    let r = reads_fit u x.state (λ v. Knows u v made.state) w made.lines (event_reads h u w before.knows e made m) in record {
      passes = fits_append u Elsewhere (takings h) (marked x.state made.lines) before.passes r.0;
      knows = subst (λ v. Knows u v made.state) (sym (fold-append (waiter_after u) Elsewhere (takings h) (marked x.state made.lines))) r.1;
    }

pub history_signals : {s : Script} {n : ℕ} {x : Execution} → History s n x → SignalLaw x.entries
history_signals h = record { lines = takings h; marked = taken_entries h; waits = λ t. (history_told h t).passes }

pub legal_signals : {s : Script} {n : ℕ} {entries : List Entry} {stop : Stop} → Legal s n entries stop → SignalLaw entries
legal_signals legal = of-legal (λ (es : List Entry). SignalLaw es) (λ x h. history_signals h) legal

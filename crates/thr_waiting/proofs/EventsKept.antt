-- What the state keeps in every history: a fact that stays whatever a thread does in its turn, at a dispatch and where the clock
-- moves is there after each event.
use Rattle.std.proofs.Common.{◌≡◌, ℕ, ℤ, Bool, true, false, List, [], ◌∷◌, Option, Some, None, Ok, Err, refl, ap, subst}
use Rattle.std.specs.Prelude.{if◌then◌else◌, nat_lt}
use Rattle.std.specs.Option.{option_map, unwrap_or}
use Rattle.thr_values.specs.declared.number.NameId.{NameId}
use Rattle.thr_values.specs.declared.number.Tid.{Tid}
use Rattle.thr_values.specs.declared.event.Event.{Event}
use Rattle.thr_values.specs.declared.event.Event.TheVariants as event
use Rattle.thr_values.specs.declared.reply.Reply.TheVariants as reply
use Rattle.thr_syntax.specs.declared.dce.DceCall.{DceCall}
use Rattle.thr_syntax.specs.declared.tree.Script.{Script}
use Rattle.thr_remainder.specs.Acts.{Act, Asks}
use Rattle.thr_remainder.specs.Remainders.{Setting, Remainder, Spot, At, place_in, act_at}
use Rattle.thr_remainder.specs.Starts.{raised, delivered, begins_destructor}
use Rattle.thr_remainder.specs.Steps.{shared_step, written}
use Rattle.thr_remainder.specs.Replies.{Values, asked, replied}
use Rattle.thr_remainder.specs.Runs.{Halt, Delivers, Shares, Undoes, Completes, Ends, Pauses, Run, run_of, most_steps}
use Rattle.thr_remainder.proofs.StepsKept.{IsNextCall, IsKeptBySteps, HaltKeeps, RunKeeps, run_keeps}
use Rattle.thr_parts.specs.declared.row.RowId.TheVariants as row
use Rattle.thr_parts.specs.Tables.{Table, get, cut}
use Rattle.thr_parts.specs.Moves.{free_row}
use Rattle.thr_parts.specs.Dispatch.{running, some_can_run, dispatch, keeps}
use Rattle.thr_parts.specs.Threads.{record_at}
use Rattle.thr_parts.specs.Cancels.{mode_at, deliver}
use Rattle.thr_parts.specs.Expiry.{earliest}
use Rattle.thr_parts.specs.Keys.{Onces, DestructorCall, NextDestructor, next_destructor}
use Rattle.thr_parts.specs.OnceBlocks as once
use Rattle.thr_parts.proofs.EachLaws.{Each}
use Rattle.thr_model.specs.States.{State, Debt, Return, Delivery, Running, rank_of, remainder_of, with_remainder, setting_of, debt_of, shared_values, with_writes, opening}
use Rattle.thr_model.specs.Calls.{Answered, answered}
use Rattle.thr_model.specs.Turns.{Made, with_stores, stores_of, after_reply, called, written_to, shared_made, handed_on, freed, thread_ended, end_made, begun_at, debt_made, halt_made, turn_by, is_fifo_in, turn_of}
use Rattle.thr_model.specs.Events.{dispatch_made, clock_to, clock_of, made_by}
use Rattle.thr_model.specs.Histories.{Execution, History, opened, then_event}
use Rattle.thr_model.specs.Canonical.{IsCanonicalState}
use Rattle.thr_model.proofs.StateTables.{canonical-state}
use Rattle.thr_answers.specs.Standing.{StandsIn}
use Rattle.thr_answers.proofs.HistoriesStand.{run_stands, remainder_stands, left-stands}
use Rattle.thr_answers.proofs.StatusTurns.{HasRun, has_run}

-- What is known of a state before an event.
pub record IsKnown (K : Script → State → Type 0) (s : Script) (st : State) : Type 0 where
  pub tables : IsCanonicalState st
  pub stands : Each (StandsIn s) st.remainders
  pub more : K s st

-- The thread runs and owes nothing, and makes this call, which stands at its line.
pub record IsCalled (s : Script) (st : State) (t : Tid) (call : DceCall) : Type 0 where
  pub run : HasRun st t.0
  pub owes_nothing : get st.debts t.0 ≡ None
  pub rest : Remainder
  pub stands : StandsIn s rest
  pub next : IsNextCall rest call

-- A fact that is there at the opening and that each event keeps, by what holds of the state and of the thread while the thread has
-- its turn.
pub record IsKeptByEvents (K P : Script → State → Type 0) (D : Script → Tid → State → Type 0) : Type 0 where
  pub opens : (s : Script) → P s (opening s)
  pub begins : (s : Script) (st : State) (t : Tid) → IsKnown K s st → HasRun st t.0 → P s st → D s t st
  pub pays : (s : Script) (st : State) (t : Tid) → D s t st → D s t (record st { debts = cut st.debts t.0 })
  pub calls : (s : Script) (st : State) (t : Tid) (call : DceCall) (ns : List ℤ) → IsKnown K s st → IsCalled s st t call → P s st → D s t (answered s st t call ns).state
  pub stores : (s : Script) (st : State) (t : Tid) (shared : Table ℤ) → D s t st → D s t (record st { shared = shared })
  pub delivers : (s : Script) (st : State) (t : Tid) → IsKnown K s st → HasRun st t.0 → P s st → D s t (record st { threads = deliver st.threads t })
  pub undoes : (s : Script) (st : State) (t : Tid) (block : NameId) → IsKnown K s st → HasRun st t.0 → P s st
      → (let o : once.Undone = once.undone st.onces st.rows block in D s t (handed_on st o o.runner))
  pub completes : (s : Script) (st : State) (t : Tid) (block : NameId) → IsKnown K s st → HasRun st t.0 → P s st
      → D s t (freed (record st { onces = once.done st.onces block }) reply.Done (free_row (rank_of st) st.rows (row.Once block)))
  pub destroys : (s : Script) (st : State) (t : Tid) (onces : Onces) → D s t st → D s t (record st { onces = onces })
  pub moves : (s : Script) (st : State) (t : Tid) (r : Remainder) → D s t st → P s (with_remainder st t r)
  pub ends : (s : Script) (st : State) (t : Tid) (v : ℤ) → IsKnown K s st → HasRun st t.0 → get st.debts t.0 ≡ None → P s st → P s (thread_ended st t v (free_row (rank_of st) st.rows (row.Join t)))
  pub keeps : (s : Script) (st : State) (t : Tid) (fifo : Bool) → P s st → P s (record st { rows = (keeps st.rows t fifo).rows })
  pub takes : (s : Script) (st : State) (p : ℕ) → IsKnown K s st → P s st → P s (record st { rows = (dispatch st.rows p).rows })
  pub passes : (s : Script) (st : State) (now : ℤ) → IsKnown K s st → P s st → P s (clock_to st now).state

-- ---- the quiet part of a turn

abbrev Anything : Script → Remainder → Type 0
Anything s r = Unit {0}

anything_by_steps : IsKeptBySteps Anything
anything_by_steps = record {
  begins = λ s routine n. tt;
  steps = λ g r h. tt;
  shares = λ g shared r h. tt;
  goes = λ g u r e h. tt;
  undoes = λ g scope block routine left u outer r e h. tt;
  replies = λ g y r h. tt;
  runs = λ g block routine r after asks h more. tt;
  destroys = λ g key routine n r h. tt;
  raises = λ s x r h. tt;
  delivers = λ s r h. tt;
}

module _ (K P : Script → State → Type 0) (D : Script → Tid → State → Type 0) (k : IsKeptByEvents K P D) where
  -- ---- turns

  called_kept : (s : Script) (st : State) (t : Tid) (g : Setting) (call : DceCall) (r : Remainder) (v : Values) → IsKnown K s st → IsCalled s st t call → P s st → P s (called s st t g call r v).state
  called_kept s st t g call r (Ok ns) i c h =
      let o : Answered = answered s st t call ns in
      k.moves s (with_stores o.state r o.reply) t (after_reply g call o.runs r o.reply).to
      (k.stores s o.state t (with_writes o.state.shared (stores_of r o.reply)) (k.calls s st t call ns i c h))
  called_kept s st t g call r (Err x) i c h = k.moves s st t (raised x r).to (k.begins s st t i c.run h)

  written_kept : (s : Script) (st : State) (t : Tid) (o : Option (NameId × ℤ)) → D s t st → D s t (written_to st o)
  written_kept s st t None h = h
  written_kept s st t (Some w) h = k.stores s st t (with_writes st.shared (w ∷ [])) h

  -- What is left of a thread that runs and owes nothing, after the quiet part of its turn.
  record IsQuiet (s : Script) (st : State) (t : Tid) (r : Remainder) : Type 0 where
    known : IsKnown K s st
    run : HasRun st t.0
    owes_nothing : get st.debts t.0 ≡ None
    stands : StandsIn s r
    fact : P s st

  began : (s : Script) (st : State) (t : Tid) (r : Remainder) → IsQuiet s st t r → D s t st
  began s st t r q = k.begins s st t q.known q.run q.fact

  shared_kept : (s : Script) (st : State) (t : Tid) (g : Setting) (r : Remainder) (spot : Spot) (act : Act) → place_in r.items ≡ At spot → act_at spot ≡ act → IsQuiet s st t r
      → P s (shared_made s st t g r act).state
  shared_kept s st t g r spot (Asks call) here asks q =
      called_kept s st t g call r (asked g (shared_values st) call r) q.known
      (record { run = q.run; owes_nothing = q.owes_nothing; rest = r; stands = q.stands; next = record { spot = spot; here = here; asks = asks } }) q.fact
  shared_kept s st t g r spot _ here asks q =
      k.moves s (written_to st (written g (shared_values st) r)) t (shared_step g (shared_values st) r).to
      (written_kept s st t (written g (shared_values st) r) (began s st t r q))

  end_kept : (s : Script) (st : State) (t : Tid) (g : Setting) (r : Remainder) (o : NextDestructor) (c : Option DestructorCall) → IsQuiet s st t r → P s (end_made st t g r o c).state
  end_kept s st t g r o (Some c) q = k.moves s (record st { onces = o.onces }) t (begins_destructor g c.0 c.1 c.2 r).to (k.destroys s st t o.onces (began s st t r q))
  end_kept s st t g r o None q = k.ends s st t r.value q.known q.run q.owes_nothing q.fact

  halt_kept : (s : Script) (st : State) (t : Tid) (g : Setting) (r : Remainder) (halt : Halt) → HaltKeeps Anything g r halt → IsQuiet s st t r → P s (halt_made s st t g r halt).state
  halt_kept s st t g r Delivers e q = k.moves s (record st { threads = deliver st.threads t }) t (delivered r).to (k.delivers s st t q.known q.run q.fact)
  halt_kept s st t g r (Shares spot) e q = shared_kept s st t g r spot (act_at spot) e refl q
  halt_kept s st t g r (Undoes block m) e q =
      let o : once.Undone = once.undone st.onces st.rows block in k.moves s (handed_on st o o.runner) t m.to (k.undoes s st t block q.known q.run q.fact)
  halt_kept s st t g r (Completes block m) e q =
      k.moves s (freed (record st { onces = once.done st.onces block }) reply.Done (free_row (rank_of st) st.rows (row.Once block))) t m.to (k.completes s st t block q.known q.run q.fact)
  halt_kept s st t g r Ends e q = let o : NextDestructor = next_destructor st.onces t in end_kept s st t g r o o.call q
  halt_kept s st t g r Pauses e q = k.moves s st t r (began s st t r q)

  debt_kept : (s : Script) (st : State) (t : Tid) (g : Setting) (r : Remainder) (d : Debt) → IsKnown K s st → HasRun st t.0 → P s st
      → (let now : State = record st { debts = cut st.debts t.0 } in P s (debt_made now t g r d).state)
  debt_kept s st t g r (Return y) i run h =
      let now : State = record st { debts = cut st.debts t.0 } in
      k.moves s (with_stores now r y) t (replied g y r).to (k.stores s now t (with_writes now.shared (stores_of r y)) (k.pays s st t (k.begins s st t i run h)))
  debt_kept s st t g r Delivery i run h =
      let now : State = record st { threads = deliver st.threads t } in
      k.moves s (record now { debts = cut now.debts t.0 }) t (delivered r).to (k.pays s now t (k.delivers s st t i run h))
  debt_kept s st t g r Running i run h =
      let now : State = record st { debts = cut st.debts t.0 } in k.moves s now t (begun_at g (place_in r.items) (replied g reply.Done r)).to (k.pays s st t (k.begins s st t i run h))

  by_kept : (s : Script) (st : State) (t : Tid) (d : Option Debt) → debt_of st t ≡ d → IsKnown K s st → HasRun st t.0 → P s st → P s (turn_by s st t d).state
  by_kept s st t (Some d) e i run h =
      debt_kept s st t (setting_of s st t) (remainder_of st t) d i run h
  by_kept s st t None e i run h =
      let g : Setting = setting_of s st t in
      let o : Run = run_of most_steps g (mode_at st.threads t) (remainder_of st t) in
      let x : RunKeeps Anything g o = run_keeps Anything anything_by_steps most_steps g (mode_at st.threads t) (remainder_of st t) tt in
      halt_kept s st t g o.to o.halt x.halt
      (record { known = i; run = run; owes_nothing = e; stands = run_stands g most_steps (mode_at st.threads t) (remainder_of st t) (remainder_stands s st t i.stands); fact = h })

  turn_kept : (s : Script) (st : State) (t : Tid) → IsKnown K s st → HasRun st t.0 → P s st → P s (turn_of s st t).state
  unfolding turn_of
  turn_kept s st t i run h =
      let made : Made = turn_by s st t (debt_of st t) in
      k.keeps s made.state t (is_fifo_in (record_at made.state.threads t)) (by_kept s st t (debt_of st t) refl i run h)

  -- ---- events

  dispatch_kept : (s : Script) (st : State) (p : ℕ) (o : Option Tid) (made : Made) → IsKnown K s st → P s st → dispatch_made st p (dispatch st.rows p) o ≡ Some made → P s made.state
  dispatch_kept s st p None made i h e = absurd (cc)
  dispatch_kept s st p (Some t) made i h e = subst (λ (m : Made). P s m.state) (ap (λ o. unwrap_or o made) e) (k.takes s st p i h)

  dispatch_if_kept : (s : Script) (st : State) (p : ℕ) (b : Bool) (made : Made) → IsKnown K s st → P s st
      → (if b then dispatch_made st p (dispatch st.rows p) (dispatch st.rows p).taken else None) ≡ Some made → P s made.state
  dispatch_if_kept s st p true made i h e = dispatch_kept s st p (dispatch st.rows p).taken made i h e
  dispatch_if_kept s st p false made i h e = absurd (cc)

  turn_if_kept : (s : Script) (st : State) (p : ℕ) (o : Option Tid) (made : Made) → running st.rows p ≡ o → IsKnown K s st → P s st → option_map (turn_of s st) o ≡ Some made → P s made.state
  turn_if_kept s st p None made is i h e = absurd (cc)
  turn_if_kept s st p (Some t) made is i h e =
      subst (λ (m : Made). P s m.state) (ap (λ o. unwrap_or o made) e) (turn_kept s st t i (has_run st p t i.tables.seats is) h)

  clock_at_kept : (s : Script) (st : State) (o : Option ℤ) (made : Made) → IsKnown K s st → P s st → option_map (clock_to st) o ≡ Some made → P s made.state
  clock_at_kept s st None made i h e = absurd (cc)
  clock_at_kept s st (Some now) made i h e = subst (λ (m : Made). P s m.state) (ap (λ o. unwrap_or o made) e) (k.passes s st now i h)

  clock_kept : (s : Script) (st : State) (b : Bool) (made : Made) → IsKnown K s st → P s st → clock_of b st ≡ Some made → P s made.state
  clock_kept s st true made i h e = absurd (cc)
  clock_kept s st false made i h e = clock_at_kept s st (earliest st.conds) made i h e

  made_kept : (s : Script) (n : ℕ) (st : State) (e : Event) (made : Made) → IsKnown K s st → P s st → made_by s n st e ≡ Some made → P s made.state
  unfolding made_by
  made_kept s n st (event.Dispatch p) made i h e = dispatch_if_kept s st p (nat_lt p n) made i h e
  made_kept s n st (event.Turn p) made i h e = turn_if_kept s st p (running st.rows p) made refl i h e
  made_kept s n st event.Clock made i h e = clock_kept s st (some_can_run st.rows) made i h e

  -- So the fact is there in every history of the script, where what it stands on is.
  pub history_kept : {s : Script} {n : ℕ} {x : Execution} → ((y : Execution) → History s n y → K s y.state) → History s n x → P s x.state
  history_kept {s} known opened = k.opens s
  history_kept {s} {n} known (then_event {x} h goes e made m) =
      made_kept s n x.state e made (record { tables = canonical-state h; stands = left-stands h; more = known x h }) (history_kept known h) m

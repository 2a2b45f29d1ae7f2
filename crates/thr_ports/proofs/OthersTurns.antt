-- Another thread's turn, read along one thread.
use Rattle.std.proofs.Common.{◌≡◌, ℕ, Bool, true, false, ◌==◌, List, ◌++◌, map, Option, Some, None, Ok, Err, refl}
use Rattle.thr_values.specs.declared.number.Tid.{Tid}
use Rattle.thr_values.specs.declared.history.What.{What}
use Rattle.thr_values.specs.declared.history.What.TheVariants as what
use Rattle.thr_values.specs.declared.reply.Reply.{Reply}
use Rattle.thr_values.specs.declared.reply.Reply.TheVariants as reply
use Rattle.thr_values.specs.declared.scheduling.Mode.{Mode}
use Rattle.thr_syntax.specs.declared.dce.DceCall.{DceCall}
use Rattle.thr_syntax.specs.declared.tree.Script.{Script}
use Rattle.thr_remainder.specs.Acts.{Act, Asks}
use Rattle.thr_remainder.specs.Calls.{shape_of, arguments}
use Rattle.thr_remainder.specs.Remainders.{Setting, Remainder, Move, place_in, act_at}
use Rattle.thr_remainder.specs.Starts.{raised, begins_destructor}
use Rattle.thr_remainder.specs.Steps.{shared_step, written}
use Rattle.thr_remainder.specs.Replies.{Values, asked, replied}
use Rattle.thr_remainder.specs.Runs.{Halt, Delivers, Shares, Undoes, Completes, Ends, Pauses, Run, run_of, most_steps}
use Rattle.thr_parts.specs.declared.row.RowId.TheVariants as row
use Rattle.thr_parts.specs.Tables.{cut}
use Rattle.thr_parts.specs.Rows.{best}
use Rattle.thr_parts.specs.Cancels as cancels
use Rattle.thr_parts.specs.Keys.{DestructorCall, NextDestructor, next_destructor}
use Rattle.thr_model.specs.States.{State, Debt, Return, Delivery, Running, remainder_of, setting_of, debt_of, shared_values}
use Rattle.thr_model.specs.Calls.{Answered, answered}
use Rattle.thr_model.specs.Turns.{Made, thread_line, gift_lines, moved, after_reply, runs_if, called, written_to, shared_made, end_made, begun_at, debt_made, halt_made, run_made, turn_by, kept, turn_of}
use Rattle.thr_answers.proofs.CallLines.{asked_values}
use Rattle.thr_cancels.proofs.InnerLines.{AreInner, replied_inner, routine_inner, begun_inner, shared_inner, HaltFits, RunFits, run_fits}
use Rattle.thr_ports.specs.Signals.{Waiter}
use Rattle.thr_ports.proofs.Marking.{Reads, reads_then, reads_append, AllIdle, reads_idle, no_call_says, away_idle, inner_idle, gifts_idle, idle_append}
use Rattle.thr_ports.proofs.Resting.{Knows, Rests, then_rests, rests_on}
use Rattle.thr_ports.proofs.CallsCome.{Fair, Comes, call_comes}
use Rattle.thr_ports.proofs.TurnsRest.{handed_rests, completed_rests, ended_rests, written_rests, paid_rests, keeps_rests}

runs_inner : (b : Bool) (g : Setting) (call : DceCall) (m : Move) → AreInner m.lines → AreInner (runs_if b g call m).lines
runs_inner true g call m h = routine_inner g call m h
runs_inner false g call m h = h

-- What a thread writes after the line of its call.
pub after_inner : (g : Setting) (call : DceCall) (runs : Bool) (r : Remainder) (y : Reply) → AreInner (after_reply g call runs r y).lines
after_inner g call runs r reply.Blocks = refl
after_inner g call runs r y = runs_inner runs g call (replied g y r) (replied_inner g y r)

module _ (s : Script) (st : State) (t : Tid) (u : ℕ) (w : Waiter) (other : (t.0 == u) ≡ false) (fair : Fair u st) (knows : Knows u w st) where
  abbrev ReadsTo : Made → Type 0
  ReadsTo made = Reads u st (λ v. Knows u v made.state) w made.lines

  -- Lines by which nothing comes, in a turn that leaves what the state keeps.
  idle_to : (made : Made) → AllIdle u made.lines → Rests u st made.state → ReadsTo made
  idle_to made i r = reads_idle u st (λ v. Knows u v made.state) w made.lines i (rests_on u w st made.state r knows)

  called_reads : (g : Setting) (call : DceCall) (r : Remainder) (v : Values) → asked g (shared_values st) call r ≡ v → ReadsTo (called s st t g call r v)
  called_reads g call r (Ok ns) is =
      let o : Answered = answered s st t call ns in
      let made : Made = called s st t g call r (Ok ns) in
      let ws : List What = (after_reply g call o.runs r o.reply).lines in
      let c : Comes u w st t (what.Call (shape_of call).word (arguments call ns) o.reply) o.state = call_comes u w s st t other fair knows call ns (asked_values g (shared_values st) call r ns is) in (
        c.passes,
        reads_idle u st (λ v. Knows u v made.state) _ (gift_lines o.gifts ++ map (thread_line t) ws)
            (idle_append u (gift_lines o.gifts) (map (thread_line t) ws) (gifts_idle u o.gifts) (inner_idle u t ws other (after_inner g call o.runs r o.reply)))
            (rests_on u _ o.state made.state (record { waits = refl; owes = λ d q. q }) c.knows),
      )
  called_reads g call r (Err x) is = idle_to (called s st t g call r (Err x)) (inner_idle u t (raised x r).lines other refl) (record { waits = refl; owes = λ d q. q })

  step_reads : (g : Setting) (r : Remainder) → ReadsTo (moved (written_to st (written g (shared_values st) r)) t (shared_step g (shared_values st) r))
  step_reads g r =
      let now : State = written_to st (written g (shared_values st) r) in
      let made : Made = moved now t (shared_step g (shared_values st) r) in
      idle_to made (inner_idle u t (shared_step g (shared_values st) r).lines other (shared_inner g (shared_values st) r))
      (then_rests u st now made.state (written_rests u st (written g (shared_values st) r)) (record { waits = refl; owes = λ d q. q }))

  shared_reads : (g : Setting) (r : Remainder) (act : Act) → ReadsTo (shared_made s st t g r act)
  shared_reads g r (Asks call) = called_reads g call r (asked g (shared_values st) call r) refl
  shared_reads g r _ = step_reads g r

  end_reads : (g : Setting) (r : Remainder) (o : NextDestructor) (c : Option DestructorCall) → ReadsTo (end_made st t g r o c)
  end_reads g r o (Some c) = idle_to (end_made st t g r o (Some c)) (inner_idle u t (begins_destructor g c.0 c.1 c.2 r).lines other refl) (ended_rests u st t g r o (Some c) other fair.sorted)
  end_reads g r o None = idle_to (end_made st t g r o None) (away_idle u t (what.End r.value) other (no_call_says u (what.End r.value) refl), tt) (ended_rests u st t g r o None other fair.sorted)

  halt_reads : (g : Setting) (r : Remainder) (halt : Halt) → HaltFits (cancels.mode_at st.threads t) halt → ReadsTo (halt_made s st t g r halt)
  halt_reads g r Delivers f = idle_to (halt_made s st t g r Delivers) (away_idle u t _ other (no_call_says u _ refl), tt) (record { waits = refl; owes = λ d q. q })
  halt_reads g r (Shares h) f = shared_reads g r (act_at h)
  halt_reads g r (Undoes block m) f =
      idle_to (halt_made s st t g r (Undoes block m)) (inner_idle u t m.lines other f)
      (then_rests u st _ _ (handed_rests u st block (best st.rows (row.Once block)) refl fair.sorted) (record { waits = refl; owes = λ d q. q }))
  halt_reads g r (Completes block m) f =
      idle_to (halt_made s st t g r (Completes block m)) (inner_idle u t m.lines other f) (then_rests u st _ _ (completed_rests u st block fair.sorted) (record { waits = refl; owes = λ d q. q }))
  halt_reads g r Ends f = let o : NextDestructor = next_destructor st.onces t in end_reads g r o o.call
  halt_reads g r Pauses f = idle_to (halt_made s st t g r Pauses) tt (record { waits = refl; owes = λ d q. q })

  run_reads : (g : Setting) (run : Run) → RunFits (cancels.mode_at st.threads t) run → ReadsTo (run_made s st t g run)
  run_reads g run f =
      let made : Made = run_made s st t g run in
      reads_append u st (λ v. Knows u v made.state) w (map (thread_line t) run.lines) (halt_made s st t g run.to run.halt).lines
      (reads_idle u st (λ v. Reads u st (λ x. Knows u x made.state) v (halt_made s st t g run.to run.halt).lines) w (map (thread_line t) run.lines)
      (inner_idle u t run.lines other f.lines)
      (halt_reads g run.to run.halt f.halt))

  -- What a thread owes.
  debt_idle : (now : State) (g : Setting) (r : Remainder) (d : Debt) → AllIdle u (debt_made now t g r d).lines
  debt_idle now g r (Return y) = (away_idle u t (what.Ret y) other (no_call_says u (what.Ret y) refl), inner_idle u t (replied g y r).lines other (replied_inner g y r))
  debt_idle now g r Delivery = (away_idle u t _ other (no_call_says u _ refl), tt)
  debt_idle now g r Running =
      (away_idle u t (what.Ret reply.Done) other (no_call_says u (what.Ret reply.Done) refl), inner_idle u t (begun_at g (place_in r.items) (replied g reply.Done r)).lines other (begun_inner g (place_in r.items) (replied g reply.Done r) (replied_inner g reply.Done r)))

  debt_rests : (now : State) (g : Setting) (r : Remainder) (d : Debt) → Rests u now (debt_made now t g r d).state
  debt_rests now g r (Return y) = record { waits = refl; owes = λ d q. q }
  debt_rests now g r Delivery = record { waits = refl; owes = λ d q. q }
  debt_rests now g r Running = record { waits = refl; owes = λ d q. q }

  by_reads : (d : Option Debt) → ReadsTo (turn_by s st t d)
  by_reads (Some d) =
      let now : State = record st { debts = cut st.debts t.0 } in
      idle_to (turn_by s st t (Some d)) (debt_idle now (setting_of s st t) (remainder_of st t) d)
      (then_rests u st now _ (paid_rests u st t other) (debt_rests now (setting_of s st t) (remainder_of st t) d))
  by_reads None =
      let g : Setting = setting_of s st t in
      let mode : Mode = cancels.mode_at st.threads t in
      run_reads g (run_of most_steps g mode (remainder_of st t)) (run_fits most_steps g mode (remainder_of st t))

  -- A turn of another thread.
  pub other_reads : ReadsTo (turn_of s st t)
  unfolding turn_of
  other_reads =
      let made : Made = turn_by s st t (debt_of st t) in
      reads_then u st (λ v. Knows u v made.state) (λ v. Knows u v (kept t made).state) (λ v k. rests_on u v made.state (kept t made).state (keeps_rests u t made other) k) w made.lines
      (by_reads (debt_of st t))

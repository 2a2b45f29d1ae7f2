-- The names that a turn leaves are of their kinds, and so are those of its lines.
use Rattle.std.proofs.Common.{◌≡◌, ℤ, Bool, true, false, List, [], ◌∷◌, map, Option, Some, None, Ok, Err, refl, subst}
use Rattle.thr_values.specs.declared.number.NameId.{NameId}
use Rattle.thr_values.specs.declared.number.Tid.{Tid}
use Rattle.thr_values.specs.declared.history.Entry.{Entry}
use Rattle.thr_values.specs.declared.history.What.{What}
use Rattle.thr_values.specs.declared.history.What.TheVariants as what
use Rattle.thr_values.specs.declared.reply.Reply.{Reply}
use Rattle.thr_values.specs.declared.reply.Reply.TheVariants as reply
use Rattle.thr_syntax.specs.declared.dce.DceCall.{DceCall}
use Rattle.thr_syntax.specs.declared.dce.DceCall.TheVariants as dce
use Rattle.thr_syntax.specs.declared.tree.Script.{Script}
use Rattle.thr_syntax.specs.Lines.{lines_of}
use Rattle.thr_text.specs.declared.object.Object.TheVariants as object
use Rattle.thr_text.specs.Reading.{Formed}
use Rattle.thr_trees.specs.Kinds.{is_name_of}
use Rattle.thr_trees.specs.Names.{named_in_call, AreOfKinds}
use Rattle.thr_remainder.specs.Acts.{Act, Asks}
use Rattle.thr_remainder.specs.Remainders.{Setting, Remainder, Move, Spot, Place, At, place_in, act_at}
use Rattle.thr_remainder.specs.Starts.{still, delivered, raised, begins_once, begins_destructor}
use Rattle.thr_remainder.specs.Steps.{shared_step, written}
use Rattle.thr_remainder.specs.Calls.{shape_of, arguments}
use Rattle.thr_remainder.specs.Replies.{Values, asked, replied}
use Rattle.thr_remainder.specs.Runs.{Halt, Delivers, Shares, Undoes, Completes, Ends, Pauses, Run, run_of, most_steps}
use Rattle.thr_parts.specs.declared.row.RowId.TheVariants as row
use Rattle.thr_parts.specs.Tables.{cut, IsCanonical}
use Rattle.thr_parts.specs.Moves.{free_row}
use Rattle.thr_parts.specs.Cancels.{mode_at, deliver}
use Rattle.thr_parts.specs.Keys.{DestructorCall, NextDestructor, first_call, keys_called, next_destructor}
use Rattle.thr_parts.specs.OnceBlocks as once
use Rattle.thr_parts.proofs.EachLaws.{IfThere, each_put, each_cut}
use Rattle.thr_model.specs.States.{State, Debt, Return, Delivery, Running, rank_of, remainder_of, setting_of, debt_of, shared_values}
use Rattle.thr_model.specs.Calls.{Answered, answered}
use Rattle.thr_model.specs.Turns.{Made, thread_line, gift_lines, moved, after_entries, then_move, runs_routine, runs_if, after_reply, with_stores, called, written_to, shared_made, handed_on, freed, end_made, begun_by, begun_at, debt_made, halt_made, run_made, turn_by, turn_of}
use Rattle.thr_answers.specs.Standing.{StandsIn}
use Rattle.thr_answers.proofs.CallLines.{AreValues, asked_values}
use Rattle.thr_answers.proofs.StepsStand.{place_stands, IsPlace}
use Rattle.thr_formed.proofs.Named.{LeftNamed, LinesNamed, MoveNamed, EntriesNamed, lines_append, entries_append}
use Rattle.thr_formed.proofs.Statements.{act_names, spot_named}
use Rattle.thr_formed.proofs.Faults.{ValuesNamed, asked_named}
use Rattle.thr_formed.proofs.Moves.{raised_named, delivered_named, still_named, once_named, destructor_named, replied_named, shared_named}
use Rattle.thr_formed.proofs.Quiet.{Sound, HaltNamed, RunNamed, run_named}
use Rattle.thr_formed.proofs.Given.{KeysNamed, DestructorNamed, first_call_named, key_put_if, gifts_lines}
use Rattle.thr_formed.proofs.Asked.{StateNamed, AnswerNamed, answered_named}

-- The state after an event, and its lines.
pub record MadeNamed (s : Script) (made : Made) : Type 0 where
  pub state : StateNamed s made.state
  pub lines : EntriesNamed s made.lines

module _ (s : Script) where
  own_lines : (t : Tid) (ws : List What) → LinesNamed s ws → EntriesNamed s (map (thread_line t) ws)
  own_lines t [] h = tt
  own_lines t (w ∷ ws) h = (h.0, own_lines t ws h.1)

  moved_named : (st : State) (t : Tid) (m : Move) → StateNamed s st → MoveNamed s m → MadeNamed s (moved st t m)
  moved_named st t m h f = record {
    state = record { left = each_put (LeftNamed s) st.remainders t.0 m.to f.to h.left; waits = h.waits; keys = h.keys };
    lines = own_lines t m.lines f.lines;
  }

  after_named : (es : List Entry) (made : Made) → EntriesNamed s es → MadeNamed s made → MadeNamed s (after_entries es made)
  after_named es made h f = record { state = f.state; lines = entries_append s es made.lines h f.lines }

module _ (g : Setting) where
  -- ---- calls

  then_once : (block routine : NameId) (m : Move) → is_name_of g.script object.Once block ≡ true → MoveNamed g.script m → MoveNamed g.script (then_move m (begins_once g block routine m.to))
  then_once block routine m k h =
      let next : Move = begins_once g block routine m.to in
      let more : MoveNamed g.script next = once_named g.script g block routine m.to k h.to in record { to = more.to; lines = lines_append g.script m.lines next.lines h.lines more.lines }

  routine_named : (call : DceCall) (m : Move) → AreOfKinds g.script (named_in_call call) → MoveNamed g.script m → MoveNamed g.script (runs_routine g call m)
  routine_named (dce.Once block routine) m k h = then_once block routine m k.0 h
  routine_named _ m k h = h

  runs_named : (b : Bool) (call : DceCall) (m : Move) → AreOfKinds g.script (named_in_call call) → MoveNamed g.script m → MoveNamed g.script (runs_if b g call m)
  runs_named true call m k h = routine_named call m k h
  runs_named false call m k h = h

  reply_named : (call : DceCall) (runs : Bool) (r : Remainder) (y : Reply) → AreOfKinds g.script (named_in_call call) → LeftNamed g.script r → MoveNamed g.script (after_reply g call runs r y)
  reply_named call runs r reply.Blocks k h = still_named g.script r h
  reply_named call runs r y k h = runs_named runs call (replied g y r) k (replied_named g.script g y r h)

  module _ (formed : Formed g.script) (st : State) (t : Tid) (sorted : IsCanonical st.onces.keys) (holds : StateNamed g.script st) where
    called_named : (call : DceCall) (r : Remainder) (values : Values) → AreOfKinds g.script (named_in_call call) → LeftNamed g.script r → ((ns : List ℤ) → values ≡ Ok ns → AreValues call ns) → ValuesNamed g.script values
        → MadeNamed g.script (called g.script st t g call r values)
    called_named call r (Ok ns) k h are f =
        let o : Answered = answered g.script st t call ns in
        let a : AnswerNamed g.script o = answered_named g.script st t holds ns call k in
        after_named g.script (thread_line t (what.Call (shape_of call).word (arguments call ns) o.reply) ∷ gift_lines o.gifts) (moved (with_stores o.state r o.reply) t (after_reply g call o.runs r o.reply))
        (record { call = call; values = ns; is_word = refl; are_arguments = refl; are_values = are ns refl; names = k }, gifts_lines g.script o.gifts a.gifts)
        (moved_named g.script (with_stores o.state r o.reply) t (after_reply g call o.runs r o.reply) a.state (reply_named call o.runs r o.reply k h))
    called_named call r (Err x) k h are f = moved_named g.script st t (raised x r) holds (raised_named g.script x r h f)

    written_holds : (o : Option (NameId × ℤ)) → StateNamed g.script (written_to st o)
    written_holds None = holds
    written_holds (Some w) = holds

    shared_made_named : (act : Act) (r : Remainder) → AreOfKinds g.script (act_names act) → StandsIn g.script r → LeftNamed g.script r → MadeNamed g.script (shared_made g.script st t g r act)
    shared_made_named (Asks call) r names stand h =
        called_named call r (asked g (shared_values st) call r) names h (λ ns e. asked_values g (shared_values st) call r ns e) (asked_named g.script g (shared_values st) call r)
    shared_made_named _ r names stand h =
        moved_named g.script (written_to st (written g (shared_values st) r)) t (shared_step g (shared_values st) r) (written_holds (written g (shared_values st) r))
        (shared_named g (shared_values st) r formed stand h)

    delivers_named : (r : Remainder) → LeftNamed g.script r → MadeNamed g.script (moved (record st { threads = deliver st.threads t }) t (delivered r))
    delivers_named r h = moved_named g.script (record st { threads = deliver st.threads t }) t (delivered r) holds (delivered_named g.script r h)

    handed_holds : (o : once.Undone) (w : Option Tid) → KeysNamed g.script o.onces.keys → StateNamed g.script (handed_on st o w)
    handed_holds o None f = record { left = holds.left; waits = holds.waits; keys = f }
    handed_holds o (Some u) f = record { left = holds.left; waits = holds.waits; keys = f }

    -- ---- the end step

    keys_kept : (c : Option DestructorCall) → IfThere (DestructorNamed g.script) c → KeysNamed g.script (keys_called st.onces.keys t c)
    keys_kept None v = holds.keys
    keys_kept (Some c) v = key_put_if g.script st.onces.keys c.0 _ v holds.keys

    end_named : (r : Remainder) (o : NextDestructor) (c : Option DestructorCall) → KeysNamed g.script o.onces.keys → IfThere (DestructorNamed g.script) c → LeftNamed g.script r → MadeNamed g.script (end_made st t g r o c)
    end_named r o (Some c) f v h =
        moved_named g.script (record st { onces = o.onces }) t (begins_destructor g c.0 c.1 c.2 r) (record { left = holds.left; waits = holds.waits; keys = f })
        (destructor_named g.script g c.0 c.1 c.2 r v h)
    end_named r o None f v h = record {
      state = record { left = each_cut (LeftNamed g.script) st.remainders t.0 holds.left; waits = holds.waits; keys = holds.keys };
      lines = (tt, tt);
    }

    -- ---- what a thread owes

    begun_by_named : (act : Act) (m : Move) → AreOfKinds g.script (act_names act) → MoveNamed g.script m → MoveNamed g.script (begun_by g act m)
    begun_by_named (Asks call) m k h = routine_named call m k h
    begun_by_named _ m k h = h

    begun_named : (p : Place) (m : Move) → IsPlace (lines_of g.script) p → MoveNamed g.script m → MoveNamed g.script (begun_at g p m)
    begun_named (At x) m stand h = begun_by_named (act_at x) m (spot_named g.script formed x stand) h
    begun_named _ m stand h = h

    debt_named : (r : Remainder) (d : Debt) → StandsIn g.script r → LeftNamed g.script r → MadeNamed g.script (debt_made st t g r d)
    debt_named r (Return y) stand h =
        after_named g.script (thread_line t (what.Ret y) ∷ []) (moved (with_stores st r y) t (replied g y r)) (tt, tt)
        (moved_named g.script (with_stores st r y) t (replied g y r) holds (replied_named g.script g y r h))
    debt_named r Delivery stand h = delivers_named r h
    debt_named r Running stand h =
        let m : Move = begun_at g (place_in r.items) (replied g reply.Done r) in
        after_named g.script (thread_line t (what.Ret reply.Done) ∷ []) (moved st t m) (tt, tt)
        (moved_named g.script st t m holds (begun_named (place_in r.items) (replied g reply.Done r) (place_stands (lines_of g.script) r.items stand.items) (replied_named g.script g reply.Done r h)))

    -- ---- what ends the quiet part

    spot_says : (r : Remainder) (h : Spot) → place_in r.items ≡ At h → StandsIn g.script r → AreOfKinds g.script (act_names (act_at h))
    spot_says r h e stand = spot_named g.script formed h (subst (IsPlace (lines_of g.script)) e (place_stands (lines_of g.script) r.items stand.items))

    halt_named : (r : Remainder) (halt : Halt) → HaltNamed g r halt → StandsIn g.script r → LeftNamed g.script r → MadeNamed g.script (halt_made g.script st t g r halt)
    halt_named r Delivers x stand h = delivers_named r h
    halt_named r (Shares spot) x stand h = shared_made_named (act_at spot) r (spot_says r spot x stand) stand h
    halt_named r (Undoes block m) x stand h =
        let o : once.Undone = once.undone st.onces st.rows block in moved_named g.script (handed_on st o o.runner) t m (handed_holds o o.runner holds.keys) x
    halt_named r (Completes block m) x stand h =
        moved_named g.script (freed (record st { onces = once.done st.onces block }) reply.Done (free_row (rank_of st) st.rows (row.Once block))) t m holds x
    halt_named r Ends x stand h =
        let o : NextDestructor = next_destructor st.onces t in
        let v : IfThere (DestructorNamed g.script) (first_call t st.onces.keys) = first_call_named g.script t st.onces.keys sorted holds.keys in
        end_named r o o.call (keys_kept (first_call t st.onces.keys) v) v h
    halt_named r Pauses x stand h = moved_named g.script st t (still r) holds (still_named g.script r h)

    run_made_named : (run : Run) → RunNamed g run → MadeNamed g.script (run_made g.script st t g run)
    run_made_named run f =
        after_named g.script (map (thread_line t) run.lines) (halt_made g.script st t g run.to run.halt) (own_lines g.script t run.lines f.lines) (halt_named run.to run.halt f.halt f.stands f.to)

-- ---- turns

by_named : (s : Script) (st : State) (t : Tid) (d : Option Debt) → Formed s → IsCanonical st.onces.keys → StateNamed s st → Sound (setting_of s st t) (remainder_of st t) → MadeNamed s (turn_by s st t d)
by_named s st t (Some d) formed sorted holds sound =
    debt_named (setting_of s st t) formed (record st { debts = cut st.debts t.0 }) t sorted holds (remainder_of st t) d sound.stands sound.named
by_named s st t None formed sorted holds sound =
    let g : Setting = setting_of s st t in
    run_made_named g formed st t sorted holds (run_of most_steps g (mode_at st.threads t) (remainder_of st t)) (run_named g formed most_steps (mode_at st.threads t) (remainder_of st t) sound)

pub turn_named : (s : Script) (st : State) (t : Tid) → Formed s → IsCanonical st.onces.keys → StateNamed s st → Sound (setting_of s st t) (remainder_of st t) → MadeNamed s (turn_of s st t)
unfolding turn_of
turn_named s st t formed sorted holds sound = let f = by_named s st t (debt_of st t) formed sorted holds sound in record { state = f.state; lines = f.lines }

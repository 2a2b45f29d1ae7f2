-- The numbers that a turn leaves and those of its lines are bounded.
use Rattle.std.proofs.Common.{◌≡◌, ℕ, ◌+◌, ◌≤◌, ◌<◌, ℤ, pos, Bool, true, false, List, [], ◌∷◌, ◌++◌, length, map, Option, Some, None, Ok, Err, refl, subst, arith}
use Rattle.thr_values.specs.declared.number.NameId.{NameId}
use Rattle.thr_values.specs.declared.number.Tid.{Tid}
use Rattle.thr_values.specs.declared.exception.Exc.{Exc}
use Rattle.thr_values.specs.declared.history.Entry.{Entry}
use Rattle.thr_values.specs.declared.history.What.{What}
use Rattle.thr_values.specs.declared.history.What.TheVariants as what
use Rattle.thr_values.specs.declared.history.Who.{Who}
use Rattle.thr_values.specs.declared.history.Who.TheVariants as who
use Rattle.thr_values.specs.declared.reply.Reply.{Reply}
use Rattle.thr_values.specs.declared.reply.Reply.TheVariants as reply
use Rattle.thr_syntax.specs.declared.dce.DceCall.{DceCall}
use Rattle.thr_syntax.specs.declared.dce.DceCall.TheVariants as dce
use Rattle.thr_syntax.specs.declared.form.Form.{Form}
use Rattle.thr_syntax.specs.declared.tree.Script.{Script}
use Rattle.thr_syntax.specs.Lines.{lines_of}
use Rattle.thr_text.specs.Numbers.{AreSigned}
use Rattle.thr_remainder.specs.Acts.{Act, Asks}
use Rattle.thr_remainder.specs.Remainders.{Setting, Remainder, Move, Spot, Place, At, place_in, act_at}
use Rattle.thr_remainder.specs.Starts.{still, delivered, raised, begins_once, begins_destructor}
use Rattle.thr_remainder.specs.Steps.{shared_step, written}
use Rattle.thr_remainder.specs.Calls.{shape_of, arguments}
use Rattle.thr_remainder.specs.Replies.{Values, asked, replied, writes}
use Rattle.thr_remainder.specs.Runs.{Halt, Delivers, Shares, Undoes, Completes, Ends, Pauses, Run, run_of, most_steps}
use Rattle.thr_parts.specs.declared.row.RowId.TheVariants as row
use Rattle.thr_parts.specs.Tables.{Table, get, put, cut, IsCanonical}
use Rattle.thr_parts.specs.Moves.{free_row}
use Rattle.thr_parts.specs.Cancels.{mode_at}
use Rattle.thr_parts.specs.Cancels as cancels
use Rattle.thr_parts.specs.Keys.{DestructorCall, NextDestructor, first_call, keys_called, next_destructor}
use Rattle.thr_parts.specs.OnceBlocks as once
use Rattle.thr_parts.proofs.EachLaws.{Each, IfThere, each_put, each_cut}
use Rattle.thr_model.specs.States.{State, Debt, Return, Delivery, Running, rank_of, remainder_of, setting_of, debt_of, shared_values, with_writes}
use Rattle.thr_model.specs.Calls.{Gifts, Answered, answered}
use Rattle.thr_model.specs.Turns.{Made, thread_line, gift_lines, moved, after_entries, then_move, runs_routine, runs_if, after_reply, stores_of, with_stores, called, written_to, shared_made, handed_on, freed, end_made, begun_by, begun_at, debt_made, halt_made, run_made, turn_by, turn_of}
use Rattle.thr_answers.specs.Standing.{AreItems, StandsIn}
use Rattle.thr_answers.proofs.StepsStand.{place_stands, IsPlace}
use Rattle.thr_sizes.proofs.Values.{Fits, ExcFits}
use Rattle.thr_sizes.proofs.Literals.{act_numbers, spot_numbers}
use Rattle.thr_sizes.proofs.Fitting.{LeftFits, ReplyFits, LineFits, LinesFit, MoveFits, left_later, lines_later, move_later, lines_append}
use Rattle.thr_sizes.proofs.Steps.{SettingFits, SharedFit, WritesFit, ValuesFit, delivered_fits, still_fits, raised_fits, once_fits, destructor_fits, shared_fits, replied_fits, writes_fit, written_fits, asked_fit}
use Rattle.thr_sizes.proofs.Quiet.{Sound, RunFits, HaltFits, grown, run_fits}
use Rattle.thr_sizes.proofs.Parts.{KeyFits, DestructorFits, ThreadsFit, at_each, mode_fit, set_keys, first_call_fits, ended_fit}
use Rattle.thr_sizes.proofs.Calls.{DebtFits, Holds, with_ths, with_left, with_debts, with_keys, with_shared, AnswerFits, all_owe_fits, answered_fits}

-- ---- lines

-- A processor is one of so many.
abbrev pub WhoFits : ℕ → Who → Type 0
WhoFits n (who.Proc p) = p < n
WhoFits n (who.Thread t) = Unit {0}
WhoFits n who.Clock = Unit {0}

-- The numbers in lines are bounded.
abbrev pub EntriesFit : ℕ → ℕ → List Entry → Type 0
EntriesFit n k [] = Unit {0}
EntriesFit n k (e ∷ es) = (WhoFits n e.who × LineFits k e.what) × EntriesFit n k es

-- And so are those that the state keeps after them.
pub record MadeFits (n k : ℕ) (made : Made) : Type 0 where
  pub state : Holds k made.state
  pub lines : EntriesFit n k made.lines

-- The numbers of the state are bounded, so that a turn can be made.
pub record CanTurn (k : ℕ) (st : State) : Type 0 where
  pub small : k < 1000000000
  pub room : st.threads.next + 1 ≤ k
  pub writing : IsCanonical st.pipes.writing
  pub keys : IsCanonical st.onces.keys
  pub holds : Holds k st

apart : (a b c k : ℕ) → a + b + c ≤ k → a + b ≤ k
apart a b c k h = omega (arith, h)

module _ (n k : ℕ) where
  pub entries_append : (es fs : List Entry) → EntriesFit n k es → EntriesFit n k fs → EntriesFit n k (es ++ fs)
  entries_append [] fs h i = i
  entries_append (e ∷ es) fs h i = (h.0, entries_append es fs h.1 i)

  own_lines : (t : Tid) (ws : List What) → LinesFit k ws → EntriesFit n k (map (thread_line t) ws)
  own_lines t [] h = tt
  own_lines t (w ∷ ws) h = ((tt, h.0), own_lines t ws h.1)

  pub gifts_fit : (gs : Gifts) → EntriesFit n k (gift_lines gs)
  gifts_fit [] = tt
  gifts_fit (g ∷ gs) = ((tt, tt), gifts_fit gs)

  moved_fits : (st : State) (t : Tid) (m : Move) → Holds k st → MoveFits k m → MadeFits n k (moved st t m)
  moved_fits st t m h f = record {
    state = with_left k st h (put st.remainders t.0 m.to) (each_put (LeftFits k) st.remainders t.0 m.to f.to h.left);
    lines = own_lines t m.lines f.lines;
  }

  after_fits : (es : List Entry) (made : Made) → EntriesFit n k es → MadeFits n k made → MadeFits n k (after_entries es made)
  after_fits es made h f = record { state = f.state; lines = entries_append es made.lines h f.lines }

  -- ---- shared variables

  writes_kept : (vs : Table ℤ) (ws : List (NameId × ℤ)) → WritesFit ws → Each Fits vs → Each Fits (with_writes vs ws)
  writes_kept vs [] f h = h
  writes_kept vs (w ∷ ws) f h = writes_kept (put vs w.0.0 w.1) ws f.1 (each_put Fits vs w.0.0 w.1 f.0 h)

  stores_kept : (vs : Table ℤ) (r : Remainder) (y : Reply) → ReplyFits y → Each Fits vs → Each Fits (with_writes vs (stores_of r y))
  stores_kept vs r reply.Blocks f h = h
  stores_kept vs r y f h = writes_kept vs (writes r y) (writes_fit r y f) h

  stores_hold : (st : State) (r : Remainder) (y : Reply) → ReplyFits y → Holds k st → Holds k (with_stores st r y)
  stores_hold st r y f h = with_shared k st h _ (stores_kept st.shared r y f h.shared)

  pub values_fit : (st : State) → Holds k st → SharedFit (shared_values st)
  values_fit st h name = at_each Fits st.shared name.0 (pos 0) h.shared refl

  -- ---- calls

  module _ (i : ℕ) (le : i + 2 ≤ k) where
    near : i + 1 ≤ k
    near = omega (arith, le)

    here : i ≤ k
    here = omega (arith, le)

    two : i + 1 + 1 ≤ k
    two = omega (arith, le)

    then_once : (g : Setting) (block routine : NameId) (m : Move) → MoveFits (i + 1) m → MoveFits k (then_move m (begins_once g block routine m.to))
    then_once g block routine m h =
        let next : Move = begins_once g block routine m.to in
        let more : MoveFits (i + 1 + 1) next = once_fits (i + 1) g block routine m.to h.to in record {
          to = left_later (i + 1 + 1) k two next.to more.to;
          lines = lines_append k m.lines next.lines (lines_later (i + 1) k near m.lines h.lines) (lines_later (i + 1 + 1) k two next.lines more.lines);
        }

    routine_fits : (g : Setting) (call : DceCall) (m : Move) → MoveFits (i + 1) m → MoveFits k (runs_routine g call m)
    routine_fits g (dce.Once block routine) m h = then_once g block routine m h
    routine_fits g _ m h = move_later (i + 1) k near m h

    runs_fits : (b : Bool) (g : Setting) (call : DceCall) (m : Move) → MoveFits (i + 1) m → MoveFits k (runs_if b g call m)
    runs_fits true g call m h = routine_fits g call m h
    runs_fits false g call m h = move_later (i + 1) k near m h

    reply_fits : (g : Setting) (call : DceCall) (runs : Bool) (r : Remainder) (y : Reply) → ReplyFits y → LeftFits i r → MoveFits k (after_reply g call runs r y)
    reply_fits g call runs r reply.Blocks f h = move_later (i + 1) k near (still r) (still_fits i r h)
    reply_fits g call runs r y f h = runs_fits runs g call (replied g y r) (replied_fits i g y r f h)

    raise_fits : (x : Exc) (r : Remainder) → LeftFits i r → ExcFits x → MoveFits k (raised x r)
    raise_fits x r h e = move_later (i + 1) k near (raised x r) (raised_fits i x r h e)

    deliver_fits : (text : List Form) (r : Remainder) → length text + 1 ≤ i → AreItems text r.items → LeftFits i r → MoveFits k (delivered r)
    deliver_fits text r room stand h = move_later (i + 1) k near (delivered r) (delivered_fits i text r room stand h)

    module _ (s : Script) (st : State) (t : Tid) (can : CanTurn k st) (g : Setting) (fits : SettingFits i g) where
      holds : Holds k st
      holds = can.holds

      all : SharedFit (shared_values st)
      all = values_fit st holds

      called_fits : (call : DceCall) (r : Remainder) (values : Values) → LeftFits i r → ValuesFit values → MadeFits n k (called s st t g call r values)
      called_fits call r (Ok ns) h f =
          let o : Answered = answered s st t call ns in
          let a : AnswerFits k (shape_of call).word o = answered_fits k can.small s st t can.room can.writing holds call ns f in
          after_fits (thread_line t (what.Call (shape_of call).word (arguments call ns) o.reply) ∷ gift_lines o.gifts) (moved (with_stores o.state r o.reply) t (after_reply g call o.runs r o.reply))
          ((tt, record { call = call; values = ns; is_word = refl; are_arguments = refl; fit = f; says = a.says; short = a.short }), gifts_fit o.gifts)
          (moved_fits (with_stores o.state r o.reply) t (after_reply g call o.runs r o.reply) (stores_hold o.state r o.reply a.says a.state) (reply_fits g call o.runs r o.reply a.says h))
      called_fits call r (Err x) h f = moved_fits st t (raised x r) holds (raise_fits x r h f)

      written_holds : (o : Option (NameId × ℤ)) → IfThere (λ (x : NameId × ℤ). Fits x.1) o → Holds k (written_to st o)
      written_holds None f = holds
      written_holds (Some w) f = with_shared k st holds _ (writes_kept st.shared (w ∷ []) (f, tt) (let h = holds in h.shared))

      shared_made_fits : (act : Act) (r : Remainder) → AreSigned (act_numbers act) → StandsIn g.script r → LeftFits i r → MadeFits n k (shared_made s st t g r act)
      shared_made_fits (Asks call) r numbers stand h = called_fits call r (asked g (shared_values st) call r) h (asked_fit i g fits (shared_values st) all r h call numbers)
      shared_made_fits _ r numbers stand h =
          moved_fits (written_to st (written g (shared_values st) r)) t (shared_step g (shared_values st) r)
          (written_holds (written g (shared_values st) r) (written_fits i g fits (shared_values st) all r h stand))
          (move_later (i + 1) k near (shared_step g (shared_values st) r) (shared_fits i g (shared_values st) r fits all stand h))

      delivery_holds : Holds k (record st { threads = cancels.deliver st.threads t })
      delivery_holds = let h = holds in with_ths k st holds _ (mode_fit st.threads t (cancels.with_mode (record (mode_at st.threads t) { pending = false })) (λ th x. x) h.threads) h.next

      delivers_fits : (r : Remainder) → StandsIn g.script r → LeftFits i r → MadeFits n k (moved (record st { threads = cancels.deliver st.threads t }) t (delivered r))
      delivers_fits r stand h = moved_fits _ t (delivered r) delivery_holds (deliver_fits (lines_of g.script) r fits.room stand.items h)

      handed_holds : (o : once.Undone) (w : Option Tid) → Each KeyFits o.onces.keys → Holds k (handed_on st o w)
      handed_holds o None f = with_keys k st holds _ f
      handed_holds o (Some u) f =
          let h = holds in record {
            threads = h.threads;
            next = h.next;
            left = h.left;
            debts = each_put DebtFits st.debts u.0 Running tt h.debts;
            waits = h.waits;
            keys = f;
            pipes = h.pipes;
            shared = h.shared;
          }

      -- ---- the end step

      keys_kept : (c : Option DestructorCall) → Each KeyFits (keys_called st.onces.keys t c)
      keys_kept None = let h = holds in h.keys
      keys_kept (Some c) = let h = holds in set_keys st.onces.keys c.0.0 t (pos 0) refl h.keys

      end_fits : (r : Remainder) (o : NextDestructor) (c : Option DestructorCall) → Each KeyFits o.onces.keys → IfThere DestructorFits c → LeftFits i r → MadeFits n k (end_made st t g r o c)
      end_fits r o (Some c) f v h =
          moved_fits (record st { onces = o.onces }) t (begins_destructor g c.0 c.1 c.2 r) (with_keys k st holds _ f)
          (move_later (i + 1) k near (begins_destructor g c.0 c.1 c.2 r) (destructor_fits i g c.0 c.1 c.2 r v h))
      end_fits r o None f v h =
          let x = holds in
          let ths : ThreadsFit st.threads = x.threads in record {
            state = record {
              threads = record { records = ended_fit st.threads t r.value h.value ths; attrs = ths.attrs };
              next = x.next;
              left = each_cut (LeftFits k) st.remainders t.0 x.left;
              debts = all_owe_fits st.debts (Return (reply.Value r.value)) (free_row (rank_of st) st.rows (row.Join t)).woken h.value x.debts;
              waits = x.waits;
              keys = x.keys;
              pipes = x.pipes;
              shared = x.shared;
            };
            lines = ((tt, h.value), tt);
          }

      -- ---- what a thread owes

      begun_by_fits : (act : Act) (m : Move) → MoveFits (i + 1) m → MoveFits k (begun_by g act m)
      begun_by_fits (Asks call) m h = routine_fits g call m h
      begun_by_fits _ m h = move_later (i + 1) k near m h

      begun_fits : (p : Place) (m : Move) → MoveFits (i + 1) m → MoveFits k (begun_at g p m)
      begun_fits (At x) m h = begun_by_fits (act_at x) m h
      begun_fits _ m h = move_later (i + 1) k near m h

      debt_fits : (r : Remainder) (d : Debt) → DebtFits d → StandsIn g.script r → LeftFits i r → MadeFits n k (debt_made st t g r d)
      debt_fits r (Return y) f stand h =
          after_fits (thread_line t (what.Ret y) ∷ []) (moved (with_stores st r y) t (replied g y r)) ((tt, f), tt)
          (moved_fits (with_stores st r y) t (replied g y r) (stores_hold st r y f holds) (move_later (i + 1) k near (replied g y r) (replied_fits i g y r f h)))
      debt_fits r Delivery f stand h = delivers_fits r stand h
      debt_fits r Running f stand h =
          let m : Move = begun_at g (place_in r.items) (replied g reply.Done r) in
          after_fits (thread_line t (what.Ret reply.Done) ∷ []) (moved st t m) ((tt, tt), tt)
          (moved_fits st t m holds (begun_fits (place_in r.items) (replied g reply.Done r) (replied_fits i g reply.Done r tt h)))

      -- ---- what ends the quiet part

      spot_says : (r : Remainder) (h : Spot) → place_in r.items ≡ At h → StandsIn g.script r → AreSigned (act_numbers (act_at h))
      spot_says r h e stand = spot_numbers g.script fits.formed h (subst (IsPlace (lines_of g.script)) e (place_stands (lines_of g.script) r.items stand.items))

      halt_fits : (r : Remainder) (halt : Halt) → HaltFits i r halt → StandsIn g.script r → LeftFits i r → MadeFits n k (halt_made s st t g r halt)
      halt_fits r Delivers x stand h = delivers_fits r stand h
      halt_fits r (Shares spot) x stand h = shared_made_fits (act_at spot) r (spot_says r spot x stand) stand h
      halt_fits r (Undoes block m) x stand h =
          let o : once.Undone = once.undone st.onces st.rows block in moved_fits (handed_on st o o.runner) t m (handed_holds o o.runner (let v = holds in v.keys)) (move_later i k here m x)
      halt_fits r (Completes block m) x stand h =
          let v = holds in
          moved_fits (freed (record st { onces = once.done st.onces block }) reply.Done (free_row (rank_of st) st.rows (row.Once block))) t m (record {
            threads = v.threads;
            next = v.next;
            left = v.left;
            debts = all_owe_fits st.debts (Return reply.Done) (free_row (rank_of st) st.rows (row.Once block)).woken tt v.debts;
            waits = v.waits;
            keys = v.keys;
            pipes = v.pipes;
            shared = v.shared;
          }) (move_later i k here m x)
      halt_fits r Ends x stand h =
          let o : NextDestructor = next_destructor st.onces t in
          let v = holds in end_fits r o o.call (keys_kept (first_call t st.onces.keys)) (first_call_fits t st.onces.keys can.keys v.keys) h
      halt_fits r Pauses x stand h = moved_fits st t (still r) holds (move_later (i + 1) k near (still r) (still_fits i r h))

      run_made_fits : (run : Run) → RunFits i g run → MadeFits n k (run_made s st t g run)
      run_made_fits run f =
          after_fits (map (thread_line t) run.lines) (halt_made s st t g run.to run.halt) (own_lines t run.lines (lines_later i k here run.lines f.lines)) (halt_fits run.to run.halt f.halt f.stands f.to)

-- ---- turns

-- A fact of the parts of the state, without what this thread owes.
unowed : (k : ℕ) (st : State) (t : Tid) → CanTurn k st → CanTurn k (record st { debts = cut st.debts t.0 })
unowed k st t can = let h = can.holds in record {
  small = can.small;
  room = can.room;
  writing = can.writing;
  keys = can.keys;
  holds = with_debts k st h _ (each_cut DebtFits st.debts t.0 h.debts);
}

grown_room : (j k : ℕ) → j + 140 ≤ k → grown most_steps j + 2 ≤ k
grown_room j k le = omega (arith, le)

grown_lines : (lines j : ℕ) → lines + 1 ≤ j → lines + 1 ≤ grown most_steps j
grown_lines lines j le = omega (arith, le)

two_more : (j k : ℕ) → j + 140 ≤ k → j + 2 ≤ k
two_more j k le = omega (arith, le)

owed_fits : (k : ℕ) (st : State) (t : Tid) (d : Debt) → get st.debts t.0 ≡ Some d → Holds k st → DebtFits d
owed_fits k st t d e h = h.debts t.0 d e

by_fits : (n j k : ℕ) → j + 140 ≤ k → (s : Script) (st : State) (t : Tid) (d : Option Debt) → debt_of st t ≡ d → CanTurn k st → SettingFits j (setting_of s st t) → Sound j (setting_of s st t) (remainder_of st t)
    → MadeFits n k (turn_by s st t d)
by_fits n j k le s st t (Some d) e can fits sound =
    debt_fits n k j (two_more j k le) s (record st { debts = cut st.debts t.0 }) t (unowed k st t can) (setting_of s st t) fits (remainder_of st t) d (owed_fits k st t d e can.holds) sound.stands sound.fits
by_fits n j k le s st t None e can fits sound =
    let g : Setting = setting_of s st t in
    run_made_fits n k (grown most_steps j) (grown_room j k le) s st t can g (record { formed = fits.formed; room = grown_lines (length (lines_of g.script)) j fits.room; me = fits.me })
    (run_of most_steps g (mode_at st.threads t) (remainder_of st t)) (run_fits most_steps j g (mode_at st.threads t) (remainder_of st t) fits sound)

pub turn_fits : (n j k : ℕ) → j + 140 ≤ k → (s : Script) (st : State) (t : Tid) → CanTurn k st → SettingFits j (setting_of s st t) → Sound j (setting_of s st t) (remainder_of st t) → MadeFits n k (turn_of s st t)
unfolding turn_of
turn_fits n j k le s st t can fits sound = let f = by_fits n j k le s st t (debt_of st t) refl can fits sound in record { state = f.state; lines = f.lines }

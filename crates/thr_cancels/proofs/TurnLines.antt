-- The lines of a turn.
use Rattle.std.proofs.Common.{◌≡◌, ℕ, suc, ℤ, Bool, true, false, ◌&&◌, ◌||◌, cond, eqb, List, [], ◌∷◌, map, Option, Some, None, Ok, Err, refl, sym, ◌∙◌, ap, subst}
use Rattle.std.proofs.lemmas.Bool.{eqb-true, false≢true}
use Rattle.std.specs.Prelude.{if◌then◌else◌, is_some, is_none, nat_lt}
use Rattle.thr_values.specs.declared.number.NameId.{NameId}
use Rattle.thr_values.specs.declared.number.Tid.{Tid}
use Rattle.thr_values.specs.declared.number.Line.{Line}
use Rattle.thr_parts.proofs.EntryLaws.{itself}
use Rattle.thr_cancels.proofs.Owed as owed
use Rattle.thr_cancels.proofs.Owed.{owes_delivery}
use Rattle.thr_values.specs.declared.reply.Effect.TheVariants as effect
use Rattle.thr_values.specs.declared.reply.Reply.{Reply}
use Rattle.thr_values.specs.declared.reply.Reply.TheVariants as reply
use Rattle.thr_values.specs.declared.scheduling.Mode.{Mode}
use Rattle.thr_values.specs.declared.history.What.{What}
use Rattle.thr_values.specs.declared.history.What.TheVariants as what
use Rattle.thr_values.specs.declared.history.Entry.{Entry}
use Rattle.thr_syntax.specs.declared.expr.Expr.{Expr}
use Rattle.thr_syntax.specs.declared.dce.DceCall.{DceCall}
use Rattle.thr_syntax.specs.declared.dce.DceCall.TheVariants as dce
use Rattle.thr_syntax.specs.declared.tree.Script.{Script}
use Rattle.thr_remainder.specs.Calls.{shape_of, arguments, is_point}
use Rattle.thr_parts.specs.declared.row.Seat.{Seat}
use Rattle.thr_parts.specs.declared.thread.Thread.{Thread}
use Rattle.thr_parts.specs.Tables.{get, put, IsCanonical}
use Rattle.thr_parts.specs.Replies.{is_blocks}
use Rattle.thr_parts.specs.Rows.{Rows, thread, row_at}
use Rattle.thr_parts.specs.Threads as threads
use Rattle.thr_parts.specs.Threads.{Threads, ThreadsReply, natural, record_at, rank_at}
use Rattle.thr_parts.specs.Cancels as cancels
use Rattle.thr_parts.specs.Cancels.{mode_in, mode_at, with_mode, set_mode}
use Rattle.thr_laws.specs.Lines.{implies, own_line, line_but_gift}
use Rattle.thr_laws.specs.Known.{Known, known_with, known_after}
use Rattle.thr_laws.specs.CancelLaw.{can_deliver, delivers_outstanding, passes_no_point, delivers_when_woken}
use Rattle.thr_model.specs.States.{State, rank_of}
use Rattle.thr_model.specs.Calls.{cancelled, Answered, answered, first}
use Rattle.thr_model.specs.Turns.{thread_line}
use Rattle.thr_cancels.proofs.Seats as seats
use Rattle.thr_cancels.proofs.Seats.{Moves, then_moves, wakes_best, free_row_moves, leave_moves, keeps_moves, IsMoved, is_calm, calm_no_point, same_row, cancel_wait_moves, is_calm_row}
use Rattle.thr_cancels.proofs.CallOwed.{IsLeft}
use Rattle.thr_cancels.proofs.Records as records
use Rattle.thr_cancels.proofs.Records.{with_new, with_new_recorded, new_record, not_yet, IsNewRecord, put_core_here, put_core_other, core_of, IsRecorded, Core, core, is_alive, changes_records, answered_recorded}
use Rattle.thr_cancels.proofs.CallLines.{CallTold, IsAsking, plain_told}
use Rattle.thr_cancels.proofs.SpecialCalls.{create_told, setcancel_told, setasync_told, mode_running, mode_is, core_with, with_mode_of, matches_some, made_some}
use Rattle.thr_cancels.proofs.CancelLines.{cancel_told}
use Rattle.thr_cancels.proofs.InnerLines.{AreInner, shared_inner, replied_inner, routine_inner}
use Rattle.thr_cancels.proofs.Owed.{all_owes, put_owes, best_free, row_free}
use Rattle.thr_remainder.specs.Acts.{Act, Sets, Says, Chooses, Repeats, Tries, Raises, RaisesAgain, Calls, Returns, Exits, Asks}
use Rattle.thr_remainder.specs.Expressions.{Value, SharedValues, value_of}
use Rattle.thr_remainder.specs.Remainders.{Setting, Remainder, Move}
use Rattle.thr_remainder.specs.Replies.{Values, value_then, asked, replied}
use Rattle.thr_remainder.specs.Starts.{raised}
use Rattle.thr_remainder.specs.Steps.{shared_step, written}
use Rattle.thr_parts.specs.Moves.{free_row, leave, make_all_ready, make_ready, take_out}
use Rattle.thr_parts.specs.Tables.{Table, cut, cut_if}
use Rattle.thr_parts.specs.Rows.{best_first, is_among, is_running, is_in_row, seat_of}
use Rattle.thr_parts.specs.Threads.{set_ended, records_ended, as_ended}
use Rattle.thr_parts.specs.Cancels.{deliver}
use Rattle.thr_parts.specs.declared.row.RowId.{RowId}
use Rattle.thr_parts.specs.declared.row.RowId.TheVariants as row
use Rattle.thr_parts.specs.declared.row.Place.TheVariants.{Stands}
use Rattle.thr_parts.proofs.TableLaws.{get_put, get_cut}
use Rattle.thr_parts.proofs.StandingLaws.{among_is}
use Rattle.thr_model.specs.States.{Return, shared_values, owes}
use Rattle.thr_model.specs.Calls.{Gifts}
use Rattle.thr_model.specs.Turns.{gift_lines, after_reply, runs_if, called, call_made, written_to, shared_made, thread_ended}
use Rattle.thr_cancels.proofs.Agreement.{owed_not, AllAway, Told, told_then, told_append, told_away, told_inner, away_line, away_inner, and_true, or_false, passes_others, Matches, KnownBy, KnowsOf, IsPassed, IsRunning, implied_false, still_running, by_itself, and_false}

-- ---- the line of each call

one_value : (v : Value) (ns : List ℤ) → value_then v (Ok []) ≡ Ok ns → (n : ℤ) × (ns ≡ n ∷ [])
one_value (Err x) ns e = absurd (cc)
one_value (Ok n) ns e = (n, sym (ap (λ (v : Values). values_in v) e))
  where
    values_in : Values → List ℤ
    values_in (Ok ns) = ns
    values_in (Err x) = []

asked_one : (g : Setting) (shared : SharedValues) (e : Expr) (r : Remainder) (ns : List ℤ) → asked g shared (dce.Cancel e) r ≡ Ok ns → (n : ℤ) × (ns ≡ n ∷ [])
unfolding asked shape_of
asked_one g shared e r ns f = one_value (value_of g shared r e) ns f

abbrev call_line : DceCall → List ℤ → Reply → What
call_line call ns y = what.Call (shape_of call).word (arguments call ns) y

abbrev ToldBy : Script → State → Tid → DceCall → List ℤ → ℕ → Known → Bool → Type 0
ToldBy s st t call ns u k blocks = CallTold t.0 u k (thread_line t (call_line call ns (answered s st t call ns).reply)) blocks (answered s st t call ns).state

cancel_blocks : (s : Script) (st : State) (t : Tid) (e : Expr) (ns : List ℤ) → is_blocks (answered s st t (dce.Cancel e) ns).reply ≡ false
unfolding answered
cancel_blocks s st t e ns =
    let who : Tid = thread (natural (first ns)) in
    let o : ThreadsReply = cancels.cancel st.threads (first ns) (cancels.waits_at_point st.rows who) in
    ap is_blocks (is_reply who o o.reply) ∙ no_block (threads.record_of st.threads (first ns)) (cancels.waits_at_point st.rows who)
  where
    is_reply : (target : Tid) (o : ThreadsReply) (y : Reply) → (cancelled st target o y).reply ≡ o.reply
    is_reply target o (reply.Effect effect.Wakes) = refl
    is_reply target o (reply.Effect effect.Ended) = refl
    is_reply target o (reply.Effect effect.Merged) = refl
    is_reply target o (reply.Effect effect.Pending) = refl
    is_reply target o _ = refl

    no_block : (o : Option Thread) (at : Bool) → is_blocks (cancels.cancel_reply o at) ≡ false
    no_block None at = refl
    no_block (Some th) at = refl

each_told : (s : Script) (st : State) (t : Tid) (call : DceCall) (ns : List ℤ) (u : ℕ) (k : Known) (g : Setting) (shared : SharedValues) (r : Remainder) → asked g shared call r ≡ Ok ns → IsCanonical st.rows.seats
    → IsAsking t.0 u k st call → KnowsOf u k st → ToldBy s st t call ns u k (is_blocks (answered s st t call ns).reply)
unfolding answered shape_of
each_told s st t (dce.Create v a routine e) ns u k g shared r f canonical asks h = create_told s st t v a routine e ns u k asks h
each_told s st t (dce.Cancel e) ns u k g shared r f canonical asks h =
    let x : (n : ℤ) × (ns ≡ n ∷ []) = asked_one g shared e r ns f in
    subst (λ (l : List ℤ). ToldBy s st t (dce.Cancel e) l u k (is_blocks (answered s st t (dce.Cancel e) l).reply)) (sym x.1)
    (subst (λ (b : Bool). ToldBy s st t (dce.Cancel e) (x.0 ∷ []) u k b) (sym (cancel_blocks s st t e (x.0 ∷ []))) (cancel_told s st t e x.0 [] u k canonical asks h))
each_told s st t (dce.Setcancel on v) ns u k g shared r f canonical asks h = setcancel_told t u k on (eqb t.0 u) _ _ st refl asks.there asks.runs h
each_told s st t (dce.Setasynccancel on v) ns u k g shared r f canonical asks h = setasync_told t u k on (eqb t.0 u) _ _ st refl asks.there asks.runs h
each_told s st t call ns u k g shared r f canonical asks h = plain_told s st t call ns u k refl refl refl refl canonical asks h

-- ---- a call

pub gifts_away : (u : ℕ) (gs : Gifts) → AllAway u (gift_lines gs)
gifts_away u [] = tt
gifts_away u (g ∷ gs) = (record { own = gift (eqb g.0.0 u); cancel = refl }, gifts_away u gs)
  where
    gift : (b : Bool) → line_but_gift b (what.Gift g.1) ≡ None
    gift true = refl
    gift false = refl

inner_after : (t : Tid) (u : ℕ) (st' : State) (k : Known) (ws : List What) (self : Bool) → eqb t.0 u ≡ self → AreInner ws → KnowsOf u k st' → (self ≡ true → IsRunning u k st') → Told u (λ l. KnowsOf u l st') k (map (thread_line t) ws)
inner_after t u st' k ws false e inner h runs = told_away u (λ l. KnowsOf u l st') k (map (thread_line t) ws) (away_inner u t ws e inner) h
inner_after t u st' k ws true e inner h runs =
    told_then u (λ l. IsRunning u l st') (λ l. KnowsOf u l st') (λ l x. x.knows) k (map (thread_line t) ws) (told_inner u t st' ws e inner k (runs refl))

runs_inner : (b : Bool) (g : Setting) (call : DceCall) (m : Move) → AreInner m.lines → AreInner (runs_if b g call m).lines
runs_inner true g call m h = routine_inner g call m h
runs_inner false g call m h = h

after_told : (t : Tid) (u : ℕ) (g : Setting) (call : DceCall) (runs : Bool) (r : Remainder) (y : Reply) (k : Known) (e : Entry) (st' : State) → CallTold t.0 u k e (is_blocks y) st'
    → Told u (λ l. KnowsOf u l st') (known_after u k e) (map (thread_line t) (after_reply g call runs r y).lines)
after_told t u g call runs r reply.Blocks k e st' c = c.knows
after_told t u g call runs r y k e st' c =
    inner_after t u st' (known_after u k e) _ (eqb t.0 u) refl (runs_inner runs g call (replied g y r) (replied_inner g y r)) c.knows (λ f. c.runs f refl)

pub call_made_told : (s : Script) (st : State) (t : Tid) (g : Setting) (call : DceCall) (ns : List ℤ) (r : Remainder) (u : ℕ) (k : Known) (shared : SharedValues) → asked g shared call r ≡ Ok ns → IsCanonical st.rows.seats
    → IsAsking t.0 u k st call → KnowsOf u k st
    → Told u (λ l. KnowsOf u l (call_made t g call ns r (answered s st t call ns)).state) k (call_made t g call ns r (answered s st t call ns)).lines
call_made_told s st t g call ns r u k shared f canonical asks h =
    let o : Answered = answered s st t call ns in
    let e : Entry = thread_line t (call_line call ns o.reply) in
    let c : CallTold t.0 u k e (is_blocks o.reply) o.state = each_told s st t call ns u k g shared r f canonical asks h in
    let ws : List Entry = map (thread_line t) (after_reply g call o.runs r o.reply).lines in
    told_append u (λ l. KnowsOf u l o.state) k (e ∷ gift_lines o.gifts) ws
    (c.fine, told_away u (λ l. Told u (λ m. KnowsOf u m o.state) l ws) (known_after u k e) (gift_lines o.gifts) (gifts_away u o.gifts) (after_told t u g call o.runs r o.reply k e o.state c))

-- ---- what ends the quiet part

-- The thread whose turn it is runs.
pub record HasTurn (t u : ℕ) (k : Known) (st : State) : Type 0 where
  pub canonical : IsCanonical st.rows.seats
  pub there : eqb t u ≡ true → is_some (get st.rows.seats u) ≡ true
  pub runs : eqb t u ≡ true → IsRunning u k st
  pub row : row_at (get st.rows.seats t) ≡ None
  pub knows : KnowsOf u k st

pub passed_told : (t : Tid) (u : ℕ) (k : Known) (st st' : State) (ws : List What) (self : Bool) → eqb t.0 u ≡ self → AreInner ws → IsPassed t.0 u false st st' → HasTurn t.0 u k st → Told u (λ l. KnowsOf u l st') k (map (thread_line t) ws)
passed_told t u k st st' ws false e inner p h = told_away u (λ l. KnowsOf u l st') k (map (thread_line t) ws) (away_inner u t ws e inner) (passes_others t.0 u false k st st' e p h.knows)
passed_told t u k st st' ws true e inner p h =
    told_then u (λ l. IsRunning u l st) (λ l. KnowsOf u l st') (λ l x. (still_running t.0 u l st st' p (h.there e) x).knows) k (map (thread_line t) ws) (told_inner u t st ws e inner k (h.runs e))

pub same_state : (t u : ℕ) (st : State) → IsPassed t u false st st
same_state t u st = record { moved = seats.same refl; left = record { debts = owed.stays refl; waits = λ _ x. x }; recorded = records.stays refl refl }

asks_there : (t : Tid) (u : ℕ) (k : Known) (st : State) (call : DceCall) → HasTurn t.0 u k st → (eqb t.0 u ≡ true → is_point (shape_of call).word ≡ true → can_deliver k ≡ false) → IsAsking t.0 u k st call
asks_there t u k st call h p = record { there = h.there; runs = h.runs; point = p }

called_told : (s : Script) (st : State) (t : Tid) (g : Setting) (call : DceCall) (r : Remainder) (u : ℕ) (k : Known) (shared : SharedValues) (v : Values) → asked g shared call r ≡ v
    → (eqb t.0 u ≡ true → is_point (shape_of call).word ≡ true → can_deliver k ≡ false) → HasTurn t.0 u k st → Told u (λ l. KnowsOf u l (called s st t g call r v).state) k (called s st t g call r v).lines
called_told s st t g call r u k shared (Ok ns) e p h = call_made_told s st t g call ns r u k shared e h.canonical (asks_there t u k st call h p) h.knows
called_told s st t g call r u k shared (Err x) e p h = passed_told t u k st st (raised x r).lines (eqb t.0 u) refl refl (same_state t.0 u st) h

written_passed : (t u : ℕ) (st : State) (o : Option (NameId × ℤ)) → IsPassed t u false st (written_to st o)
written_passed t u st None = same_state t u st
written_passed t u st (Some w) = record { moved = seats.same refl; left = record { debts = owed.stays refl; waits = λ _ x. x }; recorded = records.stays refl refl }

step_told : (t : Tid) (u : ℕ) (k : Known) (st : State) (g : Setting) (r : Remainder) → HasTurn t.0 u k st
    → Told u (λ l. KnowsOf u l (written_to st (written g (shared_values st) r))) k (map (thread_line t) (shared_step g (shared_values st) r).lines)
step_told t u k st g r h =
    passed_told t u k st (written_to st (written g (shared_values st) r)) _ (eqb t.0 u) refl (shared_inner g (shared_values st) r) (written_passed t.0 u st (written g (shared_values st) r)) h

pub shared_told : (s : Script) (st : State) (t : Tid) (g : Setting) (r : Remainder) (act : Act) (u : ℕ) (k : Known)
    → ((call : DceCall) → act ≡ Asks call → eqb t.0 u ≡ true → is_point (shape_of call).word ≡ true → can_deliver k ≡ false) → HasTurn t.0 u k st
    → Told u (λ l. KnowsOf u l (shared_made s st t g r act).state) k (shared_made s st t g r act).lines
shared_told s st t g r (Asks call) u k p h = called_told s st t g call r u k (shared_values st) (asked g (shared_values st) call r) refl (p call refl) h
shared_told s st t g r (Sets v e) u k p h = step_told t u k st g r h
shared_told s st t g r (Says e) u k p h = step_told t u k st g r h
shared_told s st t g r (Chooses e body other) u k p h = step_told t u k st g r h
shared_told s st t g r (Repeats e again) u k p h = step_told t u k st g r h
shared_told s st t g r (Tries body ways) u k p h = step_told t u k st g r h
shared_told s st t g r (Raises name) u k p h = step_told t u k st g r h
shared_told s st t g r RaisesAgain u k p h = step_told t u k st g r h
shared_told s st t g r (Calls routine e place) u k p h = step_told t u k st g r h
shared_told s st t g r (Returns e) u k p h = step_told t u k st g r h
shared_told s st t g r (Exits e) u k p h = step_told t u k st g r h

-- ---- deliveries

pub and_of : (a b c d : Bool) → a ≡ c → b ≡ d → (a && b) ≡ (c && d)
and_of a b c d e f = ap (λ x. x && b) e ∙ ap (λ x. c && x) f

pub can_deliver_is : (k : Known) (c : Core) → Matches k c → can_deliver k ≡ (c.mode.pending && c.mode.general)
can_deliver_is k c m = and_of k.outstanding k.general c.mode.pending c.mode.general m.outstanding m.general

delivered_matches : (st : State) (t : Tid) (k : Known) (n : ℕ) (line : Line) (c : Core) → core (get st.threads.records t.0) ≡ Some c → Matches k c
    → Matches (known_with k (Some (what.Deliver n line)) None) (core_with (record (cancels.mode_at st.threads t) { pending = false }) c)
delivered_matches st t k n line c e m = record {
  outstanding = and_false k.outstanding;
  general = m.general ∙ ap (λ (x : Mode). x.general) (sym (mode_is c (record_at st.threads t) e));
  asynchronous = m.asynchronous ∙ ap (λ (x : Mode). x.asynchronous) (sym (mode_is c (record_at st.threads t) e));
  ended = or_false k.ended ∙ m.ended;
}

implied_true : (a : Bool) → implies a true ≡ true
implied_true true = refl
implied_true false = refl

-- The thread whose turn it is delivers a cancel that can be delivered.
pub delivers_itself : (t : Tid) (k : Known) (st : State) (n : ℕ) (line : Line) → can_deliver k ≡ true → is_alive (core (get st.threads.records t.0)) ≡ true
    → KnownBy k (core (get st.threads.records t.0)) (nat_lt t.0 st.threads.next) → owes_delivery (get st.debts t.0) ≡ false → cancels.is_point (row_at (get st.rows.seats t.0)) ≡ false
    → Told t.0 (λ l. KnowsOf t.0 l (with_mode_of st t (record (cancels.mode_at st.threads t) { pending = false }))) k (thread_line t (what.Deliver n line) ∷ [])
delivers_itself t k st n line can alive known owes runs =
    let w : What = what.Deliver n line in
    let own : own_line t.0 (thread_line t w) ≡ Some w = by_itself t.0 t w (itself t.0) in
    let running : IsRunning t.0 (known_with k (Some w) None) (with_mode_of st t (record (cancels.mode_at st.threads t) { pending = false })) =
    mode_running st t k (known_with k (Some w) None) _ alive known owes runs (delivered_matches st t k n line) (and_false k.woken) in (
      record {
        outstanding = ap (delivers_outstanding k) own ∙ can;
        effects = refl;
        points = ap (passes_no_point k) own;
        woken = ap (delivers_when_woken k) own ∙ implied_true k.woken;
      },
      subst (λ (l : Known). KnowsOf t.0 l (with_mode_of st t (record (cancels.mode_at st.threads t) { pending = false })))
          (sym (ap (λ o. known_with k o None) own)) running.knows,
    )

-- ---- the end

all_ready_other : (rank : Tid → ℕ) (rs : Rows) (ws : List Tid) (u : ℕ) → is_among (record { 0 = u }) ws ≡ false → get (make_all_ready rank rs ws).seats u ≡ get rs.seats u
unfolding make_all_ready
all_ready_other rank rs [] u e = refl
all_ready_other rank rs (w ∷ ws) u e =
    let x : (eqb w.0 u ≡ false) × (is_among (record { 0 = u }) ws ≡ false) = neither (eqb w.0 u) (is_among (record { 0 = u }) ws) e in
    let s : Seat = record { rank = rank w; place = Stands row.Ready rs.next_arrival } in
    all_ready_other rank (make_ready rank (take_out rs w).rows w) ws u x.1
    ∙ (get_put (take_out rs w).rows.seats w.0 u s ∙ ap (λ b. cond b (Some s) (get (take_out rs w).rows.seats u)) x.0
    ∙ cut_if_other (is_in_row (seat_of rs w)) rs.seats w.0 u x.0)
  where
    neither : (a b : Bool) → (a || b) ≡ false → (a ≡ false) × (b ≡ false)
    neither true b f = absurd (false≢true (sym f))
    neither false b f = (refl, f)

    cut_if_other : (b : Bool) (m : Table Seat) (k u : ℕ) → eqb k u ≡ false → get (cut_if b m k) u ≡ get m u
    cut_if_other true m k u f = get_cut m k u ∙ ap (λ x. cond x None (get m u)) f
    cut_if_other false m k u f = refl

not_among : (rs : Rows) (r : RowId) (u : ℕ) (b : Bool) → is_among (record { 0 = u }) (best_first rs r) ≡ b → IsCanonical rs.seats → row_at (get rs.seats u) ≡ None → is_among (record { 0 = u }) (best_first rs r) ≡ false
not_among rs r u false e h none = e
not_among rs r u true e h none = absurd (never (sym none ∙ (among_is rs r (record { 0 = u }) h).0 e))
  where
    never : (let o : Option RowId = None in o) ≡ Some r → ⊥
    never f = cc

free_row_itself : (rank : Tid → ℕ) (rs : Rows) (r : RowId) (u : ℕ) → IsCanonical rs.seats → row_at (get rs.seats u) ≡ None → get (free_row rank rs r).rows.seats u ≡ get rs.seats u
free_row_itself rank rs r u h none = all_ready_other rank rs (best_first rs r) u (not_among rs r u _ refl h none)

running_none : (o : Option Seat) → is_some o ≡ true → row_at o ≡ None → is_running o ≡ true
running_none None e f = absurd (false≢true e)
running_none (Some s) e f = ap is_none f

left_none : (rs : Rows) (t : Tid) (b : Bool) → is_running (seat_of rs t) ≡ b → b ≡ true → get (leave rs t).seats t.0 ≡ None
left_none rs t b e f = ap (λ x. get (cut_if x rs.seats t.0) t.0) (e ∙ f) ∙ get_cut rs.seats t.0 t.0 ∙ ap (λ x. cond x None (get rs.seats t.0)) (itself t.0)

ended_other : (ths : Threads) (t : Tid) (u : ℕ) (v : ℤ) (o : Option Thread) → eqb t.0 u ≡ false → core (get (records_ended ths t v o) u) ≡ core (get ths.records u)
ended_other ths t u v None e = refl
ended_other ths t u v (Some th) e = by_detached th.detached
  where
    by_detached : (b : Bool) → core (get (if b then cut ths.records t.0 else put ths.records t.0 (as_ended v th)) u) ≡ core (get ths.records u)
    by_detached true = ap core (get_cut ths.records t.0 u ∙ ap (λ x. cond x None (get ths.records u)) e)
    by_detached false = put_core_other ths.records t.0 u (as_ended v th) e

-- What is known of a thread that has just ended.
ended_matches : (k : Known) (v w : ℤ) (c : Core) → Matches k c → (let d : Core = record { mode = c.mode; ended = Some w } in Matches (known_with k (Some (what.End v)) None) d)
ended_matches k v w c m = record {
  outstanding = and_true k.outstanding ∙ m.outstanding;
  general = m.general;
  asynchronous = m.asynchronous;
  ended = or_true k.ended;
}
  where
    or_true : (b : Bool) → (b || true) ≡ true
    or_true true = refl
    or_true false = refl

ended_known : (k : Known) (ths : Threads) (t : Tid) (v : ℤ) (o : Option Thread) → get ths.records t.0 ≡ o → is_alive (core (get ths.records t.0)) ≡ true → KnownBy k (core (get ths.records t.0)) (nat_lt t.0 ths.next)
    → KnownBy (known_with k (Some (what.End v)) None) (core (get (records_ended ths t v o) t.0)) (nat_lt t.0 ths.next)
ended_known k ths t v None e alive h = absurd (false≢true (sym (ap (λ x. is_alive (core x)) e) ∙ alive))
ended_known k ths t v (Some th) e alive h =
    let made : nat_lt t.0 ths.next ≡ true = made_some k _ (nat_lt t.0 ths.next) (core_of th) h (ap core e) in
    by_detached th.detached made (ended_matches k v v (core_of th) (matches_some k _ (nat_lt t.0 ths.next) (core_of th) h (ap core e)))
  where
    by_detached : (b : Bool) → nat_lt t.0 ths.next ≡ true → (let d : Core = record { mode = th.mode; ended = Some v } in Matches (known_with k (Some (what.End v)) None) d)
        → KnownBy (known_with k (Some (what.End v)) None) (core (get (if b then cut ths.records t.0 else put ths.records t.0 (as_ended v th)) t.0)) (nat_lt t.0 ths.next)
    by_detached true made m =
        subst (λ (x : Option Core). KnownBy (known_with k (Some (what.End v)) None) x (nat_lt t.0 ths.next)) (sym (ap core (get_cut ths.records t.0 t.0 ∙ ap (λ x. cond x None (get ths.records t.0)) (itself t.0))))
        (subst (λ (b : Bool). KnownBy (known_with k (Some (what.End v)) None) None b) (sym made) tt)
    by_detached false made m =
        subst (λ (x : Option Core). KnownBy (known_with k (Some (what.End v)) None) x (nat_lt t.0 ths.next)) (sym (put_core_here ths.records t.0 t.0 (as_ended v th) (itself t.0)))
        (subst (λ (b : Bool). KnownBy (known_with k (Some (what.End v)) None) (Some (core_of (as_ended v th))) b) (sym made) m)

abbrev ended_state : State → Tid → ℤ → State
ended_state st t v = thread_ended st t v (free_row (rank_of st) st.rows (row.Join t))

ended_left : (st : State) (t : Tid) (u : ℕ) (v : ℤ) → IsCanonical st.rows.seats → IsLeft t.0 u st (ended_state st t v)
ended_left st t u v h = record {
  debts = all_owes u (get st.rows.seats u) (get st.conds.waits u) st.debts st.debts (Return (reply.Value v)) _ refl (row_free u (get st.debts u) st.rows (get st.conds.waits u) (row.Join t) refl h) (owed.stays refl);
  waits = λ _ x. x;
}

pub ended_told : (t : Tid) (u : ℕ) (k : Known) (st : State) (v : ℤ) (self : Bool) → eqb t.0 u ≡ self → HasTurn t.0 u k st → Told u (λ l. KnowsOf u l (ended_state st t v)) k (thread_line t (what.End v) ∷ [])
ended_told t u k st v false e h =
    told_away u (λ l. KnowsOf u l (ended_state st t v)) k (thread_line t (what.End v) ∷ []) (away_line u t (what.End v) e refl, tt)
    (passes_others t.0 u false k st (ended_state st t v) e
    (record {
      moved = then_moves t.0 (suc u) u false st.rows (free_row (rank_of st) st.rows (row.Join t)).rows (leave (free_row (rank_of st) st.rows (row.Join t)).rows t)
          (free_row_moves t.0 (suc u) u false (rank_of st) st.rows (row.Join t) h.canonical) (leave_moves t.0 (suc u) u false (free_row (rank_of st) st.rows (row.Join t)).rows t refl);
      left = ended_left st t u v h.canonical;
      recorded = records.stays (ended_other st.threads t u v (record_at st.threads t) e) refl;
    }) h.knows)
ended_told t u k st v true e h =
    subst (λ (q : ℕ). (eqb t.0 q ≡ true → is_some (get st.rows.seats q) ≡ true) → (eqb t.0 q ≡ true → IsRunning q k st) → Told q (λ l. KnowsOf q l (ended_state st t v)) k (thread_line t (what.End v) ∷ []))
    (eqb-true t.0 u e) (λ there runs. itself_told (there (itself t.0)) (runs (itself t.0))) h.there h.runs
  where
    itself_told : is_some (get st.rows.seats t.0) ≡ true → IsRunning t.0 k st → Told t.0 (λ l. KnowsOf t.0 l (ended_state st t v)) k (thread_line t (what.End v) ∷ [])
    itself_told there r =
        let w : What = what.End v in
        let own : own_line t.0 (thread_line t w) ≡ Some w = by_itself t.0 t w (itself t.0) in
        let freed_rows : Rows = (free_row (rank_of st) st.rows (row.Join t)).rows in
        let seat : get freed_rows.seats t.0 ≡ get st.rows.seats t.0 = free_row_itself (rank_of st) st.rows (row.Join t) t.0 h.canonical h.row in
        let gone : get (leave freed_rows t).seats t.0 ≡ None =
        left_none freed_rows t (is_running (seat_of freed_rows t)) refl (ap is_running seat ∙ running_none (get st.rows.seats t.0) there h.row) in
        let off : owes_delivery (get (ended_state st t v).debts t.0) ≡ false = owed_not _ _ _ _ (ended_left st t t.0 v h.canonical).debts r.owes in (
          record {
            outstanding = ap (delivers_outstanding k) own;
            effects = refl;
            points = ap (passes_no_point k) own;
            woken = ap (delivers_when_woken k) own ∙ implied_false k.woken false r.quiet;
          },
          subst (λ (l : Known). KnowsOf t.0 l (ended_state st t v)) (sym (ap (λ o. known_with k o None) own)) (record {
            recorded = ended_known k st.threads t v (record_at st.threads t) refl (r.knows.seated there) r.knows.recorded;
            seated = λ f. absurd (false≢true (sym (ap is_some gone) ∙ f));
            cancelled = λ f. absurd (false≢true (sym off ∙ f));
            calm = λ f. absurd (false≢true (sym off ∙ f));
            free = λ f. absurd (false≢true (sym off ∙ f));
            woken = λ f. absurd (false≢true (sym (and_false k.woken) ∙ f));
            waiting = λ f. absurd (false≢true (sym (ap (λ o. cancels.is_point (row_at o)) gone) ∙ f));
          }),
        )

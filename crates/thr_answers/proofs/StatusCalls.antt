-- What each call does to the statuses of threads: its caller waits where its reply is `blocks`, and else is as it was; all
-- others are as they were.
use Rattle.std.proofs.Common.{◌≡◌, ℕ, ℤ, Bool, true, false, not, ◌&&◌, ◌||◌, List, [], Option, Some, None, refl, sym, ap, ◌∙◌, subst}
use Rattle.std.specs.Prelude.{if◌then◌else◌, is_some, ◌+ℤ◌}
use Rattle.std.specs.Option.{option_map, option_and_then}
use Rattle.thr_values.specs.declared.number.NameId.{NameId}
use Rattle.thr_values.specs.declared.number.Tid.{Tid}
use Rattle.thr_values.specs.declared.reply.Effect.{Effect}
use Rattle.thr_values.specs.declared.reply.Effect.TheVariants as effect
use Rattle.thr_values.specs.declared.reply.Kind.{Kind}
use Rattle.thr_values.specs.declared.reply.Reply.{Reply}
use Rattle.thr_values.specs.declared.reply.Reply.TheVariants as reply
use Rattle.thr_syntax.specs.declared.dce.DceCall.{DceCall}
use Rattle.thr_syntax.specs.declared.dce.DceCall.TheVariants as dce
use Rattle.thr_syntax.specs.declared.tree.Script.{Script}
use Rattle.thr_parts.specs.declared.mutex.Mutex.{Mutex}
use Rattle.thr_parts.specs.declared.row.RowId.{RowId}
use Rattle.thr_parts.specs.declared.row.RowId.TheVariants as row
use Rattle.thr_parts.specs.declared.row.Seat.{Seat}
use Rattle.thr_parts.specs.declared.thread.Thread.{Thread}
use Rattle.thr_parts.specs.declared.wait.Wait.{Wait}
use Rattle.thr_parts.specs.declared.wait.Wait.TheVariants.{Cond}
use Rattle.thr_parts.specs.Tables.{Table, get, put, put_if, has, keep_if, IsCanonical}
use Rattle.thr_parts.specs.Replies.{is_done, is_value, is_blocks, making_reply, made_reply}
use Rattle.thr_parts.specs.Rows.{Rows, thread, seat_of, row_at, row_of, best, best_first, is_in_row}
use Rattle.thr_parts.specs.Moves.{as_ranked, take_out, take_out_if, block_if}
use Rattle.thr_parts.specs.Threads.{Threads, ThreadsReply, natural, rank_at, record_of, detach_reply}
use Rattle.thr_parts.specs.Scheduling.{getprio, getscheduler, setprio, setscheduler, set_reply, prio_reply, policy_reply, is_prio}
use Rattle.thr_parts.specs.Cancels.{waits_at_point, is_point, cancel_reply, effect_on}
use Rattle.thr_parts.specs.Cancels as cancels
use Rattle.thr_parts.specs.Mutexes.{init_reply, destroy_reply, mutex_at, waiters_row, kind_at, is_used, owner}
use Rattle.thr_parts.specs.Locking.{lock_reply, trylock_reply, unlock, unlock_reply, is_held_by, is_last}
use Rattle.thr_parts.specs.Times.{is_no_interval, expiration}
use Rattle.thr_parts.specs.Conditions.{Conds, cond_destroy_reply, is_waited_on, Waited, begin_wait, wait_reply, waits_with}
use Rattle.thr_parts.specs.Waking.{Signalled, signal, thread_in, without_wait, next_waiter, beside_mutex, mutex_with}
use Rattle.thr_parts.specs.Keys.{Key, value_reply}
use Rattle.thr_parts.specs.Pipes.{Pipes, Pipe, pipe_at, read, write, write_reply, has_room}
use Rattle.thr_parts.specs.Closing.{close_reply, free_if}
use Rattle.thr_parts.proofs.RowLaws.{best_stands}
use Rattle.thr_parts.proofs.KeptLaws.{kept_block_if, kept_free_row, canonical_is_kept}
use Rattle.thr_laws.proofs.ReadingLaws.{AllLines}
use Rattle.thr_model.specs.States.{State, Debt, Return, Delivery, rank_of, owes_more, all_owe}
use Rattle.thr_model.specs.Calls.{Answered, answered, rank_if, cancelled, given_state, signals_one, woken_state, first, second}
use Rattle.thr_answers.specs.Statuses.{Status, Calm, Waiting, Astray, by_row, by_wait_row, status, status_of, status_after}
use Rattle.thr_answers.proofs.StatusMoves.{IsWith, with_same, with_known, with_put, with_cut, with_put_cut, Becomes, Stays, becomes, stays, becomes_again, woken_stays}
use Rattle.thr_answers.proofs.StatusRows.{all_map, all_stand, NoneAstray, stays_so, becomes_so, in_row_waits, IsCaller, block_becomes, block_if_becomes, wait_becomes, WaitsElsewhere, elsewhere, ready_stays, free_row_stays, without_is, resumed_seat, notified_stay}

-- ---- replies that aren't `blocks`

making_not : (b : Bool) → is_blocks (making_reply b) ≡ false
making_not true = refl
making_not false = refl

made_not : (b : Bool) → is_blocks (made_reply b) ≡ false
made_not true = refl
made_not false = refl

if_not : (b : Bool) (x y : Reply) → is_blocks x ≡ false → is_blocks y ≡ false → is_blocks (if b then x else y) ≡ false
if_not true x y h k = h
if_not false x y h k = k

detach_not : (o : Option Thread) → is_blocks (detach_reply o) ≡ false
detach_not None = refl
detach_not (Some th) = if_not th.detached reply.Einval reply.Done refl refl

prio_not : (o : Option Thread) → is_blocks (prio_reply o) ≡ false
prio_not None = refl
prio_not (Some th) = refl

policy_not : (o : Option Thread) → is_blocks (policy_reply o) ≡ false
policy_not None = refl
policy_not (Some th) = refl

set_not : (o : Option Thread) (b : Bool) (old : Reply) → is_blocks old ≡ false → is_blocks (set_reply o b old) ≡ false
set_not None b old h = refl
set_not (Some th) false old h = refl
set_not (Some th) true old h = h

init_not : (o : Option Kind) (b : Bool) → is_blocks (init_reply o b) ≡ false
init_not None b = refl
init_not (Some kind) b = making_not b

destroy_not : (b c : Bool) → is_blocks (destroy_reply b c) ≡ false
destroy_not false c = refl
destroy_not true true = refl
destroy_not true false = refl

cond_destroy_not : (b c : Bool) → is_blocks (cond_destroy_reply b c) ≡ false
cond_destroy_not false c = refl
cond_destroy_not true true = refl
cond_destroy_not true false = refl

trylock_not : (y : Reply) → is_blocks (trylock_reply y) ≡ false
trylock_not reply.Done = refl
trylock_not reply.Einval = refl
trylock_not _ = refl

unlock_not : (o : Option Mutex) (t : Tid) → is_blocks (unlock_reply o t) ≡ false
unlock_not None t = refl
unlock_not (Some x) t = if_not (is_held_by x.held t) reply.Done reply.Eperm refl refl

value_not : (o : Option Key) (t : Tid) → is_blocks (value_reply o t) ≡ false
value_not None t = refl
value_not (Some k) t = refl

close_not : (b : Bool) → is_blocks (close_reply b) ≡ false
close_not true = refl
close_not false = refl

cancel_not : (o : Option Thread) (b : Bool) → is_blocks (cancel_reply o b) ≡ false
cancel_not None b = refl
cancel_not (Some th) b = refl

expiration_not : (ticks now : ℤ) → is_blocks (expiration ticks now) ≡ false
expiration_not ticks now = if_not (is_no_interval ticks now) reply.Einval (reply.Value (now +ℤ ticks)) refl refl

-- ---- a state in which a thread calls

-- The thread runs and owes nothing, and the tables are in order.
pub record IsCalling (st : State) (t : ℕ) : Type 0 where
  pub caller : IsCaller st.debts st.rows.seats st.conds.waits t
  pub none_astray : NoneAstray st.debts st.rows.seats st.conds.waits
  pub sorted : IsCanonical st.rows.seats

-- From one state to another a thread comes to this status, and the others are as they were.
abbrev pub GoesTo : State → ℕ → Status → State → Type 0
GoesTo st t y after = Becomes st.debts st.rows.seats st.conds.waits t y after.debts after.rows.seats after.conds.waits

-- All threads are as they were.
abbrev pub Leaves : State → State → Type 0
Leaves st after = Stays st.debts st.rows.seats st.conds.waits after.debts after.rows.seats after.conds.waits

by_reply : (st after : State) (t : ℕ) (y : Reply) → is_blocks y ≡ false → GoesTo st t Calm after → GoesTo st t (status_after (is_blocks y)) after
by_reply st after t y e h = subst (λ b. GoesTo st t (status_after b) after) (sym e) h

goes_by : (st after : State) (t : ℕ) → IsCalling st t → Leaves st after → GoesTo st t Calm after
goes_by st after t c h = becomes_again st.debts after.debts st.rows.seats after.rows.seats st.conds.waits after.conds.waits t Calm h c.caller.calm

-- Where nothing of it changes and the reply isn't `blocks`.
plain : (st after : State) (t : ℕ) (y : Reply) → IsCalling st t → Leaves st after → is_blocks y ≡ false → GoesTo st t (status_after (is_blocks y)) after
plain st after t y c h e = by_reply st after t y e (goes_by st after t c h)

-- The same of what a call answers.
plain_answer : (st : State) (t : ℕ) (o : Answered) → IsCalling st t → Leaves st o.state → is_blocks o.reply ≡ false → GoesTo st t (status_after (is_blocks o.reply)) o.state
plain_answer st t o c h e = plain st o.state t o.reply c h e

-- ---- ranks

ranked_status : (o : Option Debt) (x : Seat) (rank : ℕ) (z : Option Wait) → status o (Some x) z ≡ status o (Some (as_ranked rank x)) z
ranked_status o x rank (Some w) = refl
ranked_status (Some d) x rank None = refl
ranked_status None x rank None = refl

ranked_stays : (d : Table Debt) (s : Table Seat) (v : Table Wait) (w rank : ℕ) (o : Option Seat) → get s w ≡ o → Stays d s v d (put_if s w (option_map (as_ranked rank) o)) v
ranked_stays d s v w rank None e = λ u. refl
ranked_stays d s v w rank (Some x) e =
    stays d d s (put s w (as_ranked rank x)) v v w (status (get d w) (Some (as_ranked rank x)) (get v w))
    (becomes d d s (put s w (as_ranked rank x)) v v w (get d w) (Some (as_ranked rank x)) (get v w) (with_same d w) (with_put s w (as_ranked rank x)) (with_same v w))
    (ap (λ q. status (get d w) q (get v w)) e ∙ ranked_status (get d w) x rank (get v w))

rank_if_stays : (b : Bool) (d : Table Debt) (v : Table Wait) (ths : Threads) (rs : Rows) (w : Tid) → Stays d rs.seats v d (rank_if b ths rs w).seats v
rank_if_stays true d v ths rs w = ranked_stays d rs.seats v w.0 (rank_at ths w) (get rs.seats w.0) refl
rank_if_stays false d v ths rs w = λ u. refl

-- ---- the best of a row

pub kept_is : {A : Type 0} (b : Bool) (o : Option A) (w : A) → keep_if b o ≡ Some w → o ≡ Some w
kept_is true o w e = e
kept_is false o w e = absurd (cc)

pub best_elsewhere : (d : Table Debt) (v : Table Wait) (rs : Rows) (r : RowId) → NoneAstray d rs.seats v → IsCanonical rs.seats → by_row (Some r) ≡ Waiting → by_wait_row (Some r) ≡ Astray
    → (b : Bool) (w : Tid) → keep_if b (best rs r) ≡ Some w → WaitsElsewhere d rs.seats v w.0
best_elsewhere d v rs r n h k a b w e = elsewhere d rs.seats v w.0 r n (best_stands rs r w h (kept_is b (best rs r) w e)) k a

pub mutex_row : (m : Option NameId) → by_row (Some (waiters_row m)) ≡ Waiting
mutex_row None = refl
mutex_row (Some m) = refl

pub mutex_astray : (m : Option NameId) → by_wait_row (Some (waiters_row m)) ≡ Astray
mutex_astray None = refl
mutex_astray (Some m) = refl

-- ---- threads that are given a mutex

keeps_debt : (d : Table Debt) (o : Option Debt) (x : Debt) (w : Tid) → get d w.0 ≡ o → (e : Debt) × IsWith d (owes_more d o x w) w.0 (Some e)
keeps_debt d None x w e = (x, with_put d w.0 x)
keeps_debt d (Some earlier) x w e = (earlier, with_known d w.0 (Some earlier) e)

given_stays : (st : State) (rs : Rows) (o : Option Tid) → ((w : Tid) → o ≡ Some w → WaitsElsewhere st.debts rs.seats st.conds.waits w.0)
    → (let after : State = given_state st (take_out_if rs o) o in Stays st.debts rs.seats st.conds.waits after.debts after.rows.seats after.conds.waits)
given_stays st rs None h = λ u. refl
given_stays st rs (Some w) h =
    let k = h w refl in
    let x = keeps_debt st.debts (get st.debts w.0) (Return reply.Done) w refl in
    let after : State = given_state st (take_out_if rs (Some w)) (Some w) in
    woken_stays st.debts after.debts rs.seats after.rows.seats st.conds.waits st.conds.waits w.0 x.0 _ x.1 (with_put_cut (is_in_row (seat_of rs w)) rs.seats w.0 _) (with_known st.conds.waits w.0 None k.no_wait) k.waits

unlocks_stay : (st : State) (t : Tid) (m : Option NameId) → IsCalling st t.0 → (let o = unlock st.locks st.rows m t in Leaves st (given_state (record st { locks = o.locks }) o.rows o.given))
unlocks_stay st t m c =
    let o = unlock st.locks st.rows m t in
    given_stays (record st { locks = o.locks }) st.rows o.given (best_elsewhere st.debts st.conds.waits st.rows (waiters_row m) c.none_astray c.sorted (mutex_row m) (mutex_astray m) (is_done o.reply && is_last (owner st.locks m)))

after_not_astray : (b : Bool) → status_after b ≡ Astray → ⊥
after_not_astray true e = absurd (cc)
after_not_astray false e = absurd (cc)

waits_become : (st : State) (t : Tid) (c m : NameId) (until : Option ℤ) (rank : ℕ) (said : Reply) → IsCalling st t.0
    → (let o : Waited = begin_wait st.conds st.locks st.rows c m until t rank said in GoesTo st t.0 (status_after (is_blocks said)) (given_state (record st { conds = o.conds; locks = o.locks }) o.rows o.given))
waits_become st t c m until rank said k =
    let b : Bool = is_blocks said in
    let o : Waited = begin_wait st.conds st.locks st.rows c m until t rank said in
    let waiting : Rows = block_if b st.rows (row.Cond c) t rank in
    let one : Becomes st.debts st.rows.seats st.conds.waits t.0 (status_after b) st.debts waiting.seats o.conds.waits = wait_becomes b st.debts st.conds.waits st.rows (row.Cond c) (Cond c m until) t rank refl k.caller in
    let none : NoneAstray st.debts waiting.seats o.conds.waits = becomes_so st.debts st.debts st.rows.seats waiting.seats st.conds.waits o.conds.waits t.0 (status_after b) k.none_astray (after_not_astray b) one in
    let sorted : IsCanonical waiting.seats = kept_block_if (IsCanonical {A = Seat}) canonical_is_kept b st.rows (row.Cond c) t rank k.sorted in
    λ u. given_stays (record st { conds = o.conds; locks = o.locks }) waiting o.given (best_elsewhere st.debts o.conds.waits waiting (row.Mutex m) none sorted refl refl b) u ∙ one u

-- ---- signals

signal_stays : (st : State) (y : Reply) (next : Option (Tid × NameId)) → ((w : Tid × NameId) → next ≡ Some w → status_of st w.0.0 ≡ Waiting)
    → (let o : Signalled = record { reply = y; conds = without_wait st.conds (thread_in next); rows = take_out_if st.rows (thread_in next); waiter = next } in Leaves st (signals_one st o next).state)
signal_stays st y None h = λ u. refl
signal_stays st y (Some w) h =
    let o : Signalled = record { reply = y; conds = without_wait st.conds (Some w.0); rows = take_out_if st.rows (Some w.0); waiter = Some w } in
    let after : State = (signals_one st o (Some w)).state in
    woken_stays st.debts after.debts st.rows.seats after.rows.seats st.conds.waits after.conds.waits w.0.0 (Return reply.Done) _ (with_put st.debts w.0.0 _) (with_put_cut (is_in_row (seat_of st.rows w.0)) st.rows.seats w.0.0 _)
    (with_cut st.conds.waits w.0.0) (h w refl)

signals_reply : (st : State) (o : Signalled) (w : Option (Tid × NameId)) → (signals_one st o w).reply ≡ o.reply
signals_reply st o None = refl
signals_reply st o (Some w) = refl

beside_is : (t : Tid) (q : Option NameId) (w : Tid × NameId) → option_map (λ m. (t, m)) q ≡ Some w → Some t ≡ Some w.0
beside_is t None w e = absurd (cc)
beside_is t (Some m) w e = ap (λ (o : Option (Tid × NameId)). option_map (λ (p : Tid × NameId). p.0) o) e

next_is : (cs : Conds) (o : Option Tid) (w : Tid × NameId) → option_and_then (beside_mutex cs) o ≡ Some w → o ≡ Some w.0
next_is cs None w e = absurd (cc)
next_is cs (Some t) w e = beside_is t (mutex_with cs t) w e

pub signalled_waits : (st : State) (t : ℕ) (c : NameId) (w : Tid × NameId) → IsCalling st t → (signal st.conds st.rows c).waiter ≡ Some w → status_of st w.0.0 ≡ Waiting
signalled_waits st t c w k e =
    in_row_waits (get st.debts w.0.0) (get st.rows.seats w.0.0) (get st.conds.waits w.0.0) (row.Cond c)
    (best_stands st.rows (row.Cond c) w.0 k.sorted (next_is st.conds (best st.rows (row.Cond c)) w (kept_is (has st.conds.made c.0) (next_waiter st.conds st.rows c) w e))) refl (k.none_astray w.0.0)

pub cond_waiters : (st : State) (t : ℕ) (c : NameId) (b : Bool) → IsCalling st t → AllLines (λ (w : Tid). status_of st w.0 ≡ Waiting) (if b then best_first st.rows (row.Cond c) else [])
cond_waiters st t c true k =
    all_map (λ (w : Tid). row_at (get st.rows.seats w.0) ≡ Some (row.Cond c)) (λ (w : Tid). status_of st w.0 ≡ Waiting)
    (λ w e. in_row_waits (get st.debts w.0) (get st.rows.seats w.0) (get st.conds.waits w.0) (row.Cond c) e refl (k.none_astray w.0)) (best_first st.rows (row.Cond c)) (all_stand st.rows (row.Cond c) k.sorted)
cond_waiters st t c false k = tt

-- ---- cancels

pub point_waits : (o : Option Debt) (x : Option Seat) (z : Option Wait) (q : Option RowId) → row_at x ≡ q → is_point q ≡ true → (status o x z ≡ Astray → ⊥) → status o x z ≡ Waiting
point_waits o x z None e p h = absurd (cc)
point_waits o x z (Some row.Ready) e p h = absurd (cc)
point_waits o x z (Some (row.Mutex m)) e p h = absurd (cc)
point_waits o x z (Some row.Global) e p h = absurd (cc)
point_waits o x z (Some (row.Once n)) e p h = absurd (cc)
point_waits o x z (Some (row.Cond c)) e p h = in_row_waits o x z (row.Cond c) e refl h
point_waits o x z (Some (row.Join t)) e p h = in_row_waits o x z (row.Join t) e refl h
point_waits o x z (Some (row.Reader n)) e p h = in_row_waits o x z (row.Reader n) e refl h
point_waits o x z (Some (row.Writer n)) e p h = in_row_waits o x z (row.Writer n) e refl h
point_waits o x z (Some row.Time) e p h = in_row_waits o x z row.Time e refl h

wakes_at : (ended pending general at_point : Bool)
    → (let y : Effect = if ended then effect.Ended else (if pending then effect.Merged else (if general && at_point then effect.Wakes else effect.Pending)) in y ≡ effect.Wakes) → at_point ≡ true
wakes_at true p g a e = absurd (cc)
wakes_at false true g a e = absurd (cc)
wakes_at false false true true e = refl
wakes_at false false true false e = absurd (cc)
wakes_at false false false a e = absurd (cc)

is_wakes_reply : (a b : Effect) → reply.Effect a ≡ reply.Effect b → a ≡ b
is_wakes_reply a b e = cc

pub woken_at_point : (o : Option Thread) (b : Bool) → cancel_reply o b ≡ reply.Effect effect.Wakes → b ≡ true
woken_at_point None b e = absurd (cc)
woken_at_point (Some th) b e = wakes_at (is_some th.ended) th.mode.pending th.mode.general b (is_wakes_reply (effect_on th b) effect.Wakes e)

cancel_stays : (st : State) (w : Tid) (o : ThreadsReply) (y : Reply) → (y ≡ reply.Effect effect.Wakes → status_of st w.0 ≡ Waiting) → Leaves st (cancelled st w o y).state
cancel_stays st w o (reply.Effect effect.Wakes) h =
    let after : State = (cancelled st w o (reply.Effect effect.Wakes)).state in
    let x = resumed_seat (rank_of st) st.locks (take_out st.rows w).rows w (mutex_with st.conds w) in
    woken_stays st.debts after.debts st.rows.seats after.rows.seats st.conds.waits after.conds.waits w.0 Delivery (Some x.0) (with_put st.debts w.0 Delivery)
    (subst (λ m. IsWith st.rows.seats m w.0 (Some x.0)) (sym x.1) (with_put_cut (is_in_row (seat_of st.rows w)) st.rows.seats w.0 x.0)) (without_is (get st.conds.waits w.0) st.conds.waits w refl) (h refl)
cancel_stays st w o (reply.Effect _) h = λ u. refl
cancel_stays st w o _ h = λ u. refl

cancels_stay : (st : State) (t : ℕ) (target : ℤ) → IsCalling st t → (let who : Tid = thread (natural target) in let o : ThreadsReply = cancels.cancel st.threads target (waits_at_point st.rows who) in Leaves st (cancelled st who o o.reply).state)
cancels_stay st t target k =
    let who : Tid = thread (natural target) in
    let o : ThreadsReply = cancels.cancel st.threads target (waits_at_point st.rows who) in
    cancel_stays st who o o.reply
    (λ e. point_waits (get st.debts who.0) (get st.rows.seats who.0) (get st.conds.waits who.0) (row_of st.rows who) refl (woken_at_point (record_of st.threads target) (waits_at_point st.rows who) e) (k.none_astray who.0))

pub cancelled_reply : (st : State) (w : Tid) (o : ThreadsReply) (y : Reply) → y ≡ o.reply → (cancelled st w o y).reply ≡ o.reply
cancelled_reply st w o (reply.Effect effect.Wakes) e = refl
cancelled_reply st w o (reply.Effect _) e = refl
cancelled_reply st w o _ e = refl

-- ---- pipes

woken_state_stays : (st : State) (rs : Rows) (y : Reply) (o : Option Tid) → ((w : Tid) → o ≡ Some w → WaitsElsewhere st.debts rs.seats st.conds.waits w.0)
    → (let after : State = woken_state st (take_out_if rs o) y o in Stays st.debts rs.seats st.conds.waits after.debts after.rows.seats after.conds.waits)
woken_state_stays st rs y None h = λ u. refl
woken_state_stays st rs y (Some w) h = ready_stays st.debts st.conds.waits rs w (Return y) (rank_of st) (h w refl)

value_not_blocks : (y : Reply) (o : Option Tid) (w : Tid) → keep_if (is_value y) o ≡ Some w → is_blocks y ≡ false
value_not_blocks reply.Blocks o w e = absurd (cc)
value_not_blocks _ o w e = refl

not_blocked : (b : Bool) (rs : Rows) (r : RowId) (t : Tid) (rank : ℕ) → b ≡ false → (block_if b rs r t rank).seats ≡ rs.seats
not_blocked true rs r t rank e = absurd (cc)
not_blocked false rs r t rank e = refl

reads_become : (st : State) (p : NameId) (t : Tid) (y : Reply) → IsCalling st t.0
    → (let o = read st.pipes st.rows p t (rank_of st t) in GoesTo st t.0 (status_after (is_blocks o.reply)) (woken_state (record st { pipes = o.pipes }) o.rows y o.relieved))
reads_become st p t y k =
    let o = read st.pipes st.rows p t (rank_of st t) in
    let rs : Rows = block_if (is_blocks o.reply) st.rows (row.Reader p) t (rank_of st t) in
    let one : Becomes st.debts st.rows.seats st.conds.waits t.0 (status_after (is_blocks o.reply)) st.debts rs.seats st.conds.waits = block_if_becomes (is_blocks o.reply) st.debts st.conds.waits st.rows (row.Reader p) t (rank_of st t) refl k.caller in
    λ u. woken_state_stays (record st { pipes = o.pipes }) rs y o.relieved
    (λ w e. subst (λ m. WaitsElsewhere st.debts m st.conds.waits w.0) (sym (not_blocked (is_blocks o.reply) st.rows (row.Reader p) t (rank_of st t) (value_not_blocks o.reply (best st.rows (row.Writer p)) w e)))
    (best_elsewhere st.debts st.conds.waits st.rows (row.Writer p) k.none_astray k.sorted refl refl (is_value o.reply) w e)) u ∙ one u

given_not : (open_ : Bool) (room : Bool) → is_blocks (if not open_ then reply.Epipe else (if true || room then reply.Done else reply.Blocks)) ≡ false
given_not true room = refl
given_not false room = refl

handed_stays : (st : State) (rs : Rows) (p : NameId) (t w : Tid) (rank : ℕ) (y : Reply) (b : Bool) → b ≡ false → WaitsElsewhere st.debts rs.seats st.conds.waits w.0
    → (let after : State = woken_state st (block_if b (take_out_if rs (Some w)) (row.Writer p) t rank) y (Some w) in Stays st.debts rs.seats st.conds.waits after.debts after.rows.seats after.conds.waits)
handed_stays st rs p t w rank y true e k = absurd (cc)
handed_stays st rs p t w rank y false e k = ready_stays st.debts st.conds.waits rs w (Return y) (rank_of st) k

writes_at : (st : State) (pipes : Pipes) (p : NameId) (t : Tid) (y : Reply) (x : Pipe) (o : Option Tid) → IsCalling st t.0
    → ((w : Tid) → o ≡ Some w → WaitsElsewhere st.debts st.rows.seats st.conds.waits w.0)
    → (let said : Reply = write_reply x o in GoesTo st t.0 (status_after (is_blocks said)) (woken_state (record st { pipes = pipes }) (block_if (is_blocks said) (take_out_if st.rows o) (row.Writer p) t (rank_of st t)) y o))
writes_at st pipes p t y x None k h = block_if_becomes (is_blocks (write_reply x None)) st.debts st.conds.waits st.rows (row.Writer p) t (rank_of st t) refl k.caller
writes_at st pipes p t y x (Some w) k h =
    plain st (woken_state (record st { pipes = pipes }) (block_if (is_blocks (write_reply x (Some w))) (take_out_if st.rows (Some w)) (row.Writer p) t (rank_of st t)) y (Some w)) t.0 (write_reply x (Some w)) k
    (handed_stays (record st { pipes = pipes }) st.rows p t w (rank_of st t) y (is_blocks (write_reply x (Some w))) (given_not x.is_open (has_room x)) (h w refl)) (given_not x.is_open (has_room x))

closes_stay : (st : State) (t : ℕ) (p : NameId) (a b : Debt) (opened : Bool) → IsCalling st t
    → (let readers = free_if opened (rank_of st) st.rows (row.Reader p) in let writers = free_if opened (rank_of st) readers.rows (row.Writer p) in
    Stays st.debts st.rows.seats st.conds.waits (all_owe (all_owe st.debts a readers.woken) b writers.woken) writers.rows.seats st.conds.waits)
closes_stay st t p a b false k u = refl
closes_stay st t p a b true k u =
    let rank : Tid → ℕ = rank_of st in
    let readers = free_if true rank st.rows (row.Reader p) in
    let one : Stays st.debts st.rows.seats st.conds.waits (all_owe st.debts a readers.woken) readers.rows.seats st.conds.waits =
    free_row_stays st.debts st.conds.waits st.rows (row.Reader p) a rank k.none_astray k.sorted refl refl in
    let none : NoneAstray (all_owe st.debts a readers.woken) readers.rows.seats st.conds.waits = stays_so st.debts (all_owe st.debts a readers.woken) st.rows.seats readers.rows.seats st.conds.waits st.conds.waits k.none_astray one in
    free_row_stays (all_owe st.debts a readers.woken) st.conds.waits readers.rows (row.Writer p) b rank none (kept_free_row (IsCanonical {A = Seat}) canonical_is_kept rank st.rows (row.Reader p) k.sorted) refl refl u ∙ one u

-- ---- the calls

-- The call creates no thread.
abbrev pub IsNoCreation : DceCall → Type 0
IsNoCreation (dce.Create v a routine e) = ⊥
IsNoCreation _ = Unit {0}

module _ (s : Script) (st : State) (t : Tid) (ns : List ℤ) (k : IsCalling st t.0) where
  -- The caller waits where the reply is `blocks`, and all others are as they were.
  pub answered_goes : (call : DceCall) → IsNoCreation call → GoesTo st t.0 (status_after (is_blocks (answered s st t call ns).reply)) (answered s st t call ns).state
  unfolding answered
  answered_goes (dce.AttrCreate a) i = plain_answer st t.0 (answered s st t (dce.AttrCreate a) ns) k (λ u. refl) (making_not (has st.threads.attrs a.0))
  answered_goes (dce.AttrDelete a) i = plain_answer st t.0 (answered s st t (dce.AttrDelete a) ns) k (λ u. refl) (made_not (has st.threads.attrs a.0))
  answered_goes (dce.AttrSetsched a policy) i = plain_answer st t.0 (answered s st t (dce.AttrSetsched a policy) ns) k (λ u. refl) (made_not _)
  answered_goes (dce.AttrSetprio a e) i = plain_answer st t.0 (answered s st t (dce.AttrSetprio a e) ns) k (λ u. refl) (made_not _)
  answered_goes (dce.AttrSetinheritsched a inherits) i = plain_answer st t.0 (answered s st t (dce.AttrSetinheritsched a inherits) ns) k (λ u. refl) (made_not _)
  answered_goes (dce.AttrSetstacksize a e) i = plain_answer st t.0 (answered s st t (dce.AttrSetstacksize a e) ns) k (λ u. refl) (made_not _)
  answered_goes (dce.Create v a routine e) i = absurd i
  answered_goes (dce.Join e v) i = block_if_becomes _ st.debts st.conds.waits st.rows (row.Join (thread (natural (first ns)))) t (rank_of st t) refl k.caller
  answered_goes (dce.Detach e) i = plain_answer st t.0 (answered s st t (dce.Detach e) ns) k (λ u. refl) (detach_not (record_of st.threads (first ns)))
  answered_goes dce.Yield i = block_becomes st.debts st.conds.waits st.rows row.Ready t (rank_of st t) k.caller
  answered_goes (dce.Cancel e) i =
      let who : Tid = thread (natural (first ns)) in
      let o : ThreadsReply = cancels.cancel st.threads (first ns) (waits_at_point st.rows who) in
      plain st (cancelled st who o o.reply).state t.0 (cancelled st who o o.reply).reply k (cancels_stay st t.0 (first ns) k)
      (ap is_blocks (cancelled_reply st who o o.reply refl) ∙ cancel_not (record_of st.threads (first ns)) (waits_at_point st.rows who))
  answered_goes dce.Testcancel i = plain_answer st t.0 (answered s st t dce.Testcancel ns) k (λ u. refl) refl
  answered_goes (dce.Setcancel on v) i = plain_answer st t.0 (answered s st t (dce.Setcancel on v) ns) k (λ u. refl) refl
  answered_goes (dce.Setasynccancel on v) i = plain_answer st t.0 (answered s st t (dce.Setasynccancel on v) ns) k (λ u. refl) refl
  answered_goes (dce.Setprio e f v) i =
      let o : ThreadsReply = setprio st.threads (first ns) (second ns) in
      plain_answer st t.0 (answered s st t (dce.Setprio e f v) ns) k (rank_if_stays (is_value o.reply) st.debts st.conds.waits o.threads st.rows (thread (natural (first ns))))
      (set_not (record_of st.threads (first ns)) (is_prio (second ns)) (getprio st.threads (first ns)) (prio_not (record_of st.threads (first ns))))
  answered_goes (dce.Getprio e v) i = plain_answer st t.0 (answered s st t (dce.Getprio e v) ns) k (λ u. refl) (prio_not (record_of st.threads (first ns)))
  answered_goes (dce.Setscheduler e policy f v) i =
      let o : ThreadsReply = setscheduler st.threads (first ns) policy (second ns) in
      plain_answer st t.0 (answered s st t (dce.Setscheduler e policy f v) ns) k (rank_if_stays (is_value o.reply) st.debts st.conds.waits o.threads st.rows (thread (natural (first ns))))
      (set_not (record_of st.threads (first ns)) (is_prio (second ns)) (getscheduler st.threads (first ns)) (policy_not (record_of st.threads (first ns))))
  answered_goes (dce.Getscheduler e v) i = plain_answer st t.0 (answered s st t (dce.Getscheduler e v) ns) k (λ u. refl) (policy_not (record_of st.threads (first ns)))
  answered_goes (dce.DelayNp e) i = wait_becomes _ st.debts st.conds.waits st.rows row.Time _ t (rank_of st t) refl k.caller
  answered_goes (dce.GetExpirationNp e v) i = plain_answer st t.0 (answered s st t (dce.GetExpirationNp e v) ns) k (λ u. refl) (expiration_not (first ns) st.clock)
  answered_goes (dce.MutexattrCreate a) i = plain_answer st t.0 (answered s st t (dce.MutexattrCreate a) ns) k (λ u. refl) (making_not _)
  answered_goes (dce.MutexattrSetkindNp a kind) i = plain_answer st t.0 (answered s st t (dce.MutexattrSetkindNp a kind) ns) k (λ u. refl) (made_not _)
  answered_goes (dce.MutexattrDelete a) i = plain_answer st t.0 (answered s st t (dce.MutexattrDelete a) ns) k (λ u. refl) (made_not _)
  answered_goes (dce.MutexInit m a) i = plain_answer st t.0 (answered s st t (dce.MutexInit m a) ns) k (λ u. refl) (init_not (kind_at st.locks a) (has st.locks.mutexes m.0))
  answered_goes (dce.MutexDestroy m) i = plain_answer st t.0 (answered s st t (dce.MutexDestroy m) ns) k (λ u. refl) (destroy_not (has st.locks.mutexes m.0) (is_used st.locks st.rows m (waits_with st.conds m)))
  answered_goes (dce.MutexLock m) i = block_if_becomes _ st.debts st.conds.waits st.rows (row.Mutex m) t (rank_of st t) refl k.caller
  answered_goes (dce.MutexTrylock m v) i = plain_answer st t.0 (answered s st t (dce.MutexTrylock m v) ns) k (λ u. refl) (trylock_not (lock_reply (mutex_at st.locks (Some m)) t))
  answered_goes (dce.MutexUnlock m) i = plain_answer st t.0 (answered s st t (dce.MutexUnlock m) ns) k (unlocks_stay st t (Some m) k) (unlock_not (mutex_at st.locks (Some m)) t)
  answered_goes dce.LockGlobalNp i = block_if_becomes _ st.debts st.conds.waits st.rows row.Global t (rank_of st t) refl k.caller
  answered_goes dce.UnlockGlobalNp i = plain_answer st t.0 (answered s st t dce.UnlockGlobalNp ns) k (unlocks_stay st t None k) (unlock_not (mutex_at st.locks None) t)
  answered_goes (dce.CondInit c) i = plain_answer st t.0 (answered s st t (dce.CondInit c) ns) k (λ u. refl) (making_not _)
  answered_goes (dce.CondDestroy c) i = plain_answer st t.0 (answered s st t (dce.CondDestroy c) ns) k (λ u. refl) (cond_destroy_not (has st.conds.made c.0) (is_waited_on st.conds c))
  answered_goes (dce.CondWait c m) i = waits_become st t c m None (rank_of st t) (wait_reply st.conds st.locks c m t) k
  answered_goes (dce.CondTimedwait c m e) i = waits_become st t c m (Some (first ns)) (rank_of st t) _ k
  answered_goes (dce.CondSignal c) i =
      let o : Signalled = signal st.conds st.rows c in
      plain st (signals_one st o o.waiter).state t.0 (signals_one st o o.waiter).reply k (signal_stays st (made_reply (has st.conds.made c.0)) o.waiter (λ w e. signalled_waits st t.0 c w k e))
      (ap is_blocks (signals_reply st o o.waiter) ∙ made_not (has st.conds.made c.0))
  answered_goes (dce.CondBroadcast c) i =
      plain_answer st t.0 (answered s st t (dce.CondBroadcast c) ns) k (notified_stay (if has st.conds.made c.0 then best_first st.rows (row.Cond c) else []) st.debts st.conds st.locks st.rows (Return reply.Done) (rank_of st) (cond_waiters st t.0 c (has st.conds.made c.0) k)) (made_not (has st.conds.made c.0))
  answered_goes (dce.Once o routine) i = block_if_becomes _ st.debts st.conds.waits st.rows (row.Once o) t (rank_of st t) refl k.caller
  answered_goes (dce.Keycreate key destructor) i = plain_answer st t.0 (answered s st t (dce.Keycreate key destructor) ns) k (λ u. refl) (making_not _)
  answered_goes (dce.Setspecific key e) i = plain_answer st t.0 (answered s st t (dce.Setspecific key e) ns) k (λ u. refl) (made_not _)
  answered_goes (dce.Getspecific key v) i = plain_answer st t.0 (answered s st t (dce.Getspecific key v) ns) k (λ u. refl) (value_not (get st.onces.keys key.0) t)
  answered_goes (dce.Read p v w) i = reads_become st p t reply.Done k
  answered_goes (dce.Write p e) i =
      let o = write st.pipes st.rows p (first ns) t (rank_of st t) in
      writes_at st o.pipes p t (reply.Value (first ns)) (pipe_at st.pipes p) o.reader k
      (best_elsewhere st.debts st.conds.waits st.rows (row.Reader p) k.none_astray k.sorted refl refl (pipe_at st.pipes p).is_open)
  answered_goes (dce.Close p) i = plain_answer st t.0 (answered s st t (dce.Close p) ns) k (closes_stay st t.0 p (Return reply.Eof) (Return reply.Epipe) (pipe_at st.pipes p).is_open k) (close_not (pipe_at st.pipes p).is_open)

-- Cancels.
use Rattle.std.proofs.Common.{◌≡◌, ℕ, ℤ, ◌+◌, ◌^◌, ◌<◌, Bool, true, false, ◌&&◌, cond, map, Option, Some, None, refl, sym, ◌∙◌, ap, subst}
use Rattle.std.specs.Option.{is_some}
use Rattle.thr_values.specs.declared.number.Tid.{Tid}
use Rattle.thr_values.specs.declared.number.NameId.{NameId}
use Rattle.thr_values.specs.declared.reply.Effect.{Effect}
use Rattle.thr_values.specs.declared.reply.Effect.TheVariants as effect
use Rattle.thr_values.specs.declared.reply.Reply.{Reply}
use Rattle.thr_values.specs.declared.reply.Reply.TheVariants as reply
use Rattle.thr_parts.specs.declared.row.RowId.{RowId}
use Rattle.thr_parts.specs.declared.thread.Thread.{Thread}
use Rattle.thr_parts.specs.Tables.{Table, put}
use Rattle.thr_parts.specs.Rows.{Rows, thread, row_of}
use Rattle.thr_parts.specs.Moves.{take_out}
use Rattle.thr_parts.specs.Threads.{Threads, ThreadsReply, natural, record_of, rank_at}
use Rattle.thr_parts.specs.Mutexes.{Locks}
use Rattle.thr_parts.specs.Locking.{Regained}
use Rattle.thr_parts.specs.Conditions.{Conds}
use Rattle.thr_parts.specs.Waking.{mutex_with, resume, gift_of}
use Rattle.thr_parts.specs.Waking as waking
use Rattle.thr_parts.specs.Pipes.{Pipes}
use Rattle.thr_parts.specs.Closing as closing
use Rattle.thr_parts.specs.Cancels.{is_point, waits_at_point, cancel_reply, cancel}
use Rattle.thr_parts.specs.CancelledWaits.{Cancelled, cancel_wait}
use Rattle.thr_remainder.specs.Remainders.{Remainder}
use Rattle.thr_model.specs.States.{State}
use Rattle.thr_model.specs.States as states
use Rattle.thr_model.specs.Calls.{Gifts, Answered, wakes, cancelled, cancels_thread}
use Rattle.thr_services.specs.declared.answer.Answer.{Answer}
use Rattle.thr_services.specs.declared.debt.Debt.{Debt}
use Rattle.thr_services.specs.declared.debt.Debt.TheVariants as debt
use Rattle.thr_services.specs.Views.{ServicesView, all_owed, state_with}
use Rattle.thr_services.specs.Ready.{CanBeReady}
use Rattle.thr_services.specs.Cancelling.{is_wakes}
use Rattle.thr_services.specs.Answers.{plain, Answers}
use Rattle.thr_services.proofs.DebtLaws.{put_owed}
use Rattle.thr_services.proofs.SeatLaws.{standing_can}
use Rattle.thr_services.proofs.GivenLaws.{HasPlaces, IsAnswer, as_answered}

-- ---- a cancel that ends a wait

wakes_if : (a b c d : Bool) → is_wakes (reply.Effect (cond a effect.Ended (cond b effect.Merged (cond (c && d) effect.Wakes effect.Pending)))) ≡ true → d ≡ true
wakes_if true b c d e = absurd (cc)
wakes_if false true c d e = absurd (cc)
wakes_if false false true true e = refl
wakes_if false false true false e = absurd (cc)
wakes_if false false false d e = absurd (cc)

wakes_at : (o : Option Thread) (at : Bool) → is_wakes (cancel_reply o at) ≡ true → at ≡ true
wakes_at None at e = absurd (cc)
wakes_at (Some th) at e = wakes_if (is_some th.ended) th.mode.pending th.mode.general at e

row_there : (o : Option RowId) → is_point o ≡ true → (r : RowId) × (o ≡ Some r)
row_there None e = absurd (cc)
row_there (Some r) e = (r, refl)

-- It is one at a point, so that its thread can be ready.
pub cancel_can : (v : ServicesView) (target : ℤ) (t : Tid) (at : Bool) (y : Reply) (ths : Threads) (rs : Rows)
    → (let o : ThreadsReply = record { reply = y; threads = ths } in o) ≡ cancel v.threads target at → is_wakes y ≡ true → at ≡ is_point (row_of v.rows t)
    → rs ≡ (take_out v.rows t).rows → HasPlaces v → v.rows.next_arrival + 1 < 2 ^ 64 → CanBeReady rs v.debts t
cancel_can v target t at y ths rs e is point out h arrival =
    let here : at ≡ true = wakes_at (record_of v.threads target) at (sym (ap (λ (o : ThreadsReply). is_wakes o.reply) e) ∙ is) in
    let r : (x : RowId) × (row_of v.rows t ≡ Some x) = row_there (row_of v.rows t) (sym point ∙ here) in
    subst (λ (x : Rows). CanBeReady x v.debts t) (sym out) (standing_can v.debts v.rows r.0 t h.seats h.debts h.owers h.within arrival r.1)

effect_wakes : (x : Effect) → is_wakes (reply.Effect x) ≡ true → x ≡ effect.Wakes
effect_wakes effect.Wakes e = refl
effect_wakes _ e = absurd (cc)

is_that : (y : Reply) → is_wakes y ≡ true → y ≡ reply.Effect effect.Wakes
is_that (reply.Effect x) e = ap reply.Effect (effect_wakes x e)
is_that reply.Done e = absurd (cc)
is_that _ e = absurd (cc)

-- What there is after the wait.
pub record HasLeft (v : ServicesView) (t : Tid) (cs : Conds) (ps : Pipes) (ls : Locks) (rs new : Rows) (m : Option NameId) (r : ℕ) (gets : Bool) : Type 0 where
  pub conds : cs ≡ (waking.pull_out v.conds v.rows t).conds
  pub pipes : ps ≡ (closing.pull_out v.pipes v.rows t).pipes
  pub rows : rs ≡ (take_out v.rows t).rows
  pub mutex : m ≡ mutex_with v.conds t
  pub ranked : r ≡ rank_at v.threads t
  pub back : (let o : Regained = record { locks = ls; rows = new; gets = gets } in o) ≡ resume (λ _. r) v.locks rs t m

ranked_by : (f : Tid → ℕ) (ls : Locks) (rs : Rows) (t : Tid) (m : Option NameId) → resume (λ _. f t) ls rs t m ≡ resume f ls rs t m
ranked_by f ls rs t None = refl
ranked_by f ls rs t (Some m) = refl

abbrev left_with : Conds → Pipes → Tid → Option NameId → Regained → Cancelled
left_with cs ps t m o = record { conds = cs; pipes = ps; locks = o.locks; rows = o.rows; gifts = gift_of t m o.gets }

has_left : (v : ServicesView) (t : Tid) (cs : Conds) (ps : Pipes) (ls : Locks) (rs new : Rows) (m : Option NameId) (r : ℕ) (gets : Bool) → HasLeft v t cs ps ls rs new m r gets
    → left_with cs ps t m (record { locks = ls; rows = new; gets = gets }) ≡ cancel_wait (rank_at v.threads) v.conds v.pipes v.locks v.rows t
has_left v t cs ps ls rs new m r gets h =
    let o : Regained = resume (rank_at v.threads) v.locks (take_out v.rows t).rows t (mutex_with v.conds t) in
    let back : (let x : Regained = record { locks = ls; rows = new; gets = gets } in x) ≡ o =
    h.back ∙ ap (λ (n : ℕ). resume (λ _. n) v.locks rs t m) h.ranked ∙ ranked_by (rank_at v.threads) v.locks rs t m
    ∙ ap (λ (x : Rows). resume (rank_at v.threads) v.locks x t m) h.rows ∙ ap (resume (rank_at v.threads) v.locks (take_out v.rows t).rows t) h.mutex in
    ap (left_with cs ps t m) back ∙ ap (λ (x : Conds). left_with x ps t m o) h.conds ∙ ap (λ (x : Pipes). left_with (waking.pull_out v.conds v.rows t).conds x t m o) h.pipes
    ∙ ap (λ (x : Option NameId). left_with (waking.pull_out v.conds v.rows t).conds (closing.pull_out v.pipes v.rows t).pipes t x o) h.mutex

-- A cancel of the thread of this number, as the state has it.
abbrev cancelled_by : State → ℤ → Tid → Answered
cancelled_by st target t = let o : ThreadsReply = cancel st.threads target (waits_at_point st.rows t) in cancelled st t o o.reply

by_number : (t : Tid) (target : ℤ) → t.0 ≡ natural target → thread (natural target) ≡ t
by_number t target e = ap thread (sym e)

said_so : (v : ServicesView) (remainders : Table Remainder) (shared : Table ℤ) (target : ℤ) (t : Tid) (at : Bool) (y : Reply) (ths : Threads) → t.0 ≡ natural target
    → (let o : ThreadsReply = record { reply = y; threads = ths } in o) ≡ cancel v.threads target at → at ≡ is_point (row_of v.rows t)
    → cancels_thread (state_with v remainders shared) target ≡ cancelled (state_with v remainders shared) t (record { reply = y; threads = ths }) y
said_so v remainders shared target t at y ths number e point =
    ap (cancelled_by (state_with v remainders shared) target) (by_number t target number)
    ∙ sym (ap (λ (o : ThreadsReply). cancelled (state_with v remainders shared) t o o.reply) (e ∙ ap (cancel v.threads target) point))

pub cancel_wakes : (old w : ServicesView) (target : ℤ) (t : Tid) (at : Bool) (y : Reply) (ths : Threads) (cs : Conds) (ps : Pipes) (ls : Locks) (rs new : Rows) (m : Option NameId) (r : ℕ) (gets : Bool) (debts' : Table Debt) (a : Answer) (before after : Gifts)
    → t.0 ≡ natural target → (let o : ThreadsReply = record { reply = y; threads = ths } in o) ≡ cancel old.threads target at → at ≡ is_point (row_of old.rows t) → is_wakes y ≡ true
    → HasLeft old t cs ps ls rs new m r gets → debts' ≡ put old.debts t.0 debt.Delivery → IsAnswer old w a before after (plain y) (map (λ g. (g.0, Some g.1)) (gift_of t m gets))
    → Answers w (record old { threads = ths; conds = cs; pipes = ps; locks = ls; rows = new; debts = debts' }) a after (λ s st. cancels_thread st target)
cancel_wakes old w target t at y ths cs ps ls rs new m r gets debts' a before after number e point is left debts h =
    as_answered (λ s st. cancels_thread st target) old w (record old { threads = ths; conds = cs; pipes = ps; locks = ls; rows = new; debts = debts' }) (plain y) a before after (map (λ g. (g.0, Some g.1)) (gift_of t m gets)) (λ s remainders shared.
    said_so old remainders shared target t at y ths number e point
    ∙ ap (cancelled (state_with old remainders shared) t (record { reply = y; threads = ths })) (is_that y is)
    ∙ sym (ap (wakes (state_with old remainders shared) t (record { reply = y; threads = ths })) (has_left old t cs ps ls rs new m r gets left))
    ∙ ap (λ (d : Table states.Debt). let o : Answered = record { reply = y; state = record (state_with old remainders shared) { threads = ths; conds = cs; pipes = ps; locks = ls; rows = new; debts = d }; gifts = map (λ g. (g.0, Some g.1)) (gift_of t m gets); runs = false } in o)
    (put_owed old.debts t.0 debt.Delivery ∙ ap all_owed (sym debts))) h

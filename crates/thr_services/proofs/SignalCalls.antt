-- Signals.
use Rattle.std.proofs.Common.{◌≡◌, ℕ, ◌+◌, ◌^◌, ◌<◌, Bool, true, false, [], ◌∷◌, cond, map, Option, Some, IfSome, refl, sym, ◌∙◌, ap, subst}
use Rattle.thr_values.specs.declared.number.Tid.{Tid}
use Rattle.thr_values.specs.declared.number.NameId.{NameId}
use Rattle.thr_values.specs.declared.reply.Reply.{Reply}
use Rattle.thr_values.specs.declared.reply.Reply.TheVariants as reply
use Rattle.thr_parts.specs.declared.row.RowId.TheVariants as row
use Rattle.thr_parts.specs.Tables.{Table, names, has, put, keep_if}
use Rattle.thr_parts.specs.Rows.{Rows, best}
use Rattle.thr_parts.specs.Moves.{take_out_if}
use Rattle.thr_parts.specs.Threads.{rank_at}
use Rattle.thr_parts.specs.Mutexes.{Locks}
use Rattle.thr_parts.specs.Locking.{Regained}
use Rattle.thr_parts.specs.Conditions.{Conds}
use Rattle.thr_parts.specs.Waking.{Signalled, next_waiter, thread_in, resume, gift_of, signal}
use Rattle.thr_parts.proofs.RowLaws.{best_stands}
use Rattle.thr_conds.proofs.TakingLaws.{IsNext, next_by}
use Rattle.thr_model.specs.States.{State}
use Rattle.thr_model.specs.States as states
use Rattle.thr_model.specs.Calls.{Gifts, Answered, regains, signals}
use Rattle.thr_services.specs.declared.answer.Answer.{Answer}
use Rattle.thr_services.specs.declared.debt.Debt.{Debt}
use Rattle.thr_services.specs.declared.debt.Debt.TheVariants as debt
use Rattle.thr_services.specs.Views.{ServicesView, all_owed, state_with}
use Rattle.thr_services.specs.Ready.{CanBeReady}
use Rattle.thr_services.specs.Cancelling.{MutexesFit}
use Rattle.thr_services.specs.Answers.{plain, Answers}
use Rattle.thr_services.proofs.DebtLaws.{put_owed}
use Rattle.thr_services.proofs.SeatLaws.{standing_can}
use Rattle.thr_services.proofs.GivenLaws.{HasPlaces, IsAnswer, as_answered}

some_inside : {A : Type 0} (b : Bool) (o : Option A) (x : A) → Some x ≡ keep_if b o → o ≡ Some x
some_inside true o x e = sym e
some_inside false o x e = absurd (cc)

-- A signal that took the waiter that is there.
pub took : (v : ServicesView) (c : NameId) (y : Reply) (cs : Conds) (rs : Rows) (o : Option (Tid × NameId)) (w : Tid) (m : NameId)
    → (let p : Signalled = record { reply = y; conds = cs; rows = rs; waiter = o } in p) ≡ signal v.conds v.rows c → o ≡ Some (w, m)
    → (let p : Signalled = record { reply = y; conds = cs; rows = rs; waiter = Some (w, m) } in p) ≡ signal v.conds v.rows c
took v c y cs rs o w m e is = ap (λ (x : Option (Tid × NameId)). let p : Signalled = record { reply = y; conds = cs; rows = rs; waiter = x } in p) (sym is) ∙ e

-- The waiter is the best of the condition, with its mutex.
signalled : (v : ServicesView) (c : NameId) (y : Reply) (cs : Conds) (rs : Rows) (w : Tid) (m : NameId)
    → (let o : Signalled = record { reply = y; conds = cs; rows = rs; waiter = Some (w, m) } in o) ≡ signal v.conds v.rows c → IsNext v.conds v.rows c w m
signalled v c y cs rs w m e =
    next_by v.conds v.rows c w m (best v.rows (row.Cond c)) refl (some_inside (has v.conds.made c.0) (next_waiter v.conds v.rows c) (w, m) (ap (λ (o : Signalled). o.waiter) e))

-- It can be ready.
pub signal_can : (v : ServicesView) (c : NameId) (y : Reply) (cs : Conds) (rs : Rows) (w : Tid) (m : NameId)
    → (let o : Signalled = record { reply = y; conds = cs; rows = rs; waiter = Some (w, m) } in o) ≡ signal v.conds v.rows c
    → HasPlaces v → v.rows.next_arrival + 1 < 2 ^ 64 → CanBeReady rs v.debts w
signal_can v c y cs rs w m e h arrival =
    let given : Some (w, m) ≡ _ = ap (λ (o : Signalled). o.waiter) e in
    subst (λ (x : Rows). CanBeReady x v.debts w) (ap (λ (o : Option (Tid × NameId)). take_out_if v.rows (thread_in o)) given ∙ sym (ap (λ (o : Signalled). o.rows) e))
    (standing_can v.debts v.rows (row.Cond c) w h.seats h.debts h.owers h.within arrival (best_stands v.rows (row.Cond c) w h.seats (signalled v c y cs rs w m e).best))

-- Its mutex fits tables by names.
pub signal_fits : (v : ServicesView) (c : NameId) (y : Reply) (cs : Conds) (rs : Rows) (w : Tid) (m : NameId)
    → (let o : Signalled = record { reply = y; conds = cs; rows = rs; waiter = Some (w, m) } in o) ≡ signal v.conds v.rows c
    → MutexesFit v.conds → m.0 < names
signal_fits v c y cs rs w m e h = subst (λ (o : Option NameId). IfSome o (λ n. n.0 < names)) (signalled v c y cs rs w m e).mutex (h.fits w)

abbrev gift_now : Bool → Tid → NameId → Gifts
gift_now b w m = cond b ((w, Some m) ∷ []) []

gift_is : (w : Tid) (m : NameId) (b : Bool) → gift_now b w m ≡ map (λ g. (g.0, Some g.1)) (gift_of w (Some m) b)
gift_is w m true = refl
gift_is w m false = refl

pub signal_is : (old w : ServicesView) (c : NameId) (y : Reply) (cs : Conds) (ls : Locks) (rs rs' : Rows) (debts' : Table Debt) (t : Tid) (m : NameId) (gets : Bool) (r : ℕ) (a : Answer) (before after : Gifts)
    → (let o : Signalled = record { reply = y; conds = cs; rows = rs; waiter = Some (t, m) } in o) ≡ signal old.conds old.rows c
    → (let o : Regained = record { locks = ls; rows = rs'; gets = gets } in o) ≡ resume (λ _. r) old.locks rs t (Some m) → r ≡ rank_at old.threads t
    → debts' ≡ put old.debts t.0 (debt.Return reply.Done) → IsAnswer old w a before after (plain y) (map (λ g. (g.0, Some g.1)) (gift_of t (Some m) gets))
    → Answers w (record old { conds = cs; locks = ls; rows = rs'; debts = debts' }) a after (λ s st. signals st (signal st.conds st.rows c))
signal_is old w c y cs ls rs rs' debts' t m gets r a before after e back ranked debts h =
    as_answered (λ s st. signals st (signal st.conds st.rows c)) old w (record old { conds = cs; locks = ls; rows = rs'; debts = debts' }) (plain y) a before after (map (λ g. (g.0, Some g.1)) (gift_of t (Some m) gets)) (λ s remainders shared.
    sym (ap (signals (state_with old remainders shared)) e)
    ∙ sym (ap (regains y (record (state_with old remainders shared) { conds = cs }) t m) (back ∙ ap (λ (n : ℕ). resume (λ _. n) old.locks rs t (Some m)) ranked))
    ∙ ap (λ (d : Table states.Debt). let o : Answered = record { reply = y; state = record (state_with old remainders shared) { conds = cs; locks = ls; rows = rs'; debts = d }; gifts = gift_now gets t m; runs = false } in o)
    (put_owed old.debts t.0 (debt.Return reply.Done) ∙ ap all_owed (sym debts))
    ∙ ap (λ (l : Gifts). let o : Answered = record { reply = y; state = state_with (record old { conds = cs; locks = ls; rows = rs'; debts = debts' }) remainders shared; gifts = l; runs = false } in o) (gift_is t m gets)) h

-- Broadcasts.
use Rattle.std.proofs.Common.{◌≡◌, ℕ, true, false, Bool, cond, List, [], Option, refl, sym, ◌∙◌, ap}
use Rattle.thr_values.specs.declared.number.Tid.{Tid}
use Rattle.thr_values.specs.declared.number.NameId.{NameId}
use Rattle.thr_values.specs.declared.reply.Reply.TheVariants as reply
use Rattle.thr_parts.specs.declared.row.RowId.TheVariants as row
use Rattle.thr_parts.specs.Tables.{Table, has}
use Rattle.thr_parts.specs.Replies.{made_reply}
use Rattle.thr_parts.specs.Rows.{Rows, best_first}
use Rattle.thr_parts.specs.Threads.{rank_at}
use Rattle.thr_parts.specs.Mutexes.{Locks}
use Rattle.thr_parts.specs.Conditions.{Conds}
use Rattle.thr_parts.specs.Waking.{Woken, Notified, wake_all, broadcast}
use Rattle.thr_model.specs.States.{State, rank_of, all_owe}
use Rattle.thr_model.specs.States as states
use Rattle.thr_model.specs.Calls.{Gifts, Answered, notifies}
use Rattle.thr_services.specs.declared.answer.Answer.{Answer}
use Rattle.thr_services.specs.declared.debt.Debt.{Debt}
use Rattle.thr_services.specs.declared.debt.Debt.TheVariants as debt
use Rattle.thr_services.specs.Views.{ServicesView, all_owed, state_with}
use Rattle.thr_services.specs.Answers.{plain, Answers}
use Rattle.thr_services.proofs.DebtLaws.{all_owe_is}
use Rattle.thr_services.proofs.GivenLaws.{as_answered}
use Rattle.thr_services.proofs.WakingLaws.{all_given, woken_by, threads_of, HasWoken}

abbrev notified_as : (Tid → ℕ) → Conds → Locks → Rows → NameId → Bool → Notified
notified_as rank cs ls rs c made = record { reply = made_reply made; woken = wake_all rank cs ls rs (cond made (best_first rs (row.Cond c)) []) }

abbrev woken_with : Conds → Locks → Rows → List (Tid × Option NameId) → Gifts → Table states.Debt → State → Answered
woken_with cs ls rs ws gifts debts st = record { reply = reply.Done; state = record st { conds = cs; locks = ls; rows = rs; debts = debts }; gifts = gifts; runs = false }

pub broadcast_is : (old w : ServicesView) (c : NameId) (cs : Conds) (ls : Locks) (rs : Rows) (debts' : Table Debt) (a : Answer) (after : Gifts)
    → has old.conds.made c.0 ≡ true → HasWoken (rank_at old.threads) c old.conds old.locks old.rows old.debts cs ls rs debts' after → old ≡ w → a ≡ plain reply.Done
    → Answers w (record old { conds = cs; locks = ls; rows = rs; debts = debts' }) a after (λ s st. notifies st (broadcast (rank_of st) st.conds st.locks st.rows c))
broadcast_is old w c cs ls rs debts' a after made h same answer =
    let o : Woken = woken_by (rank_at old.threads) c old.conds old.locks old.rows in
    as_answered (λ s st. notifies st (broadcast (rank_of st) st.conds st.locks st.rows c)) old w (record old { conds = cs; locks = ls; rows = rs; debts = debts' }) (plain reply.Done) a [] after after (λ s remainders shared.
    ap (λ b. notifies (state_with old remainders shared) (notified_as (rank_at old.threads) old.conds old.locks old.rows c b)) made
    ∙ ap (λ (d : Table states.Debt). woken_with o.conds o.locks o.rows o.woken (all_given o.gifts) d (state_with old remainders shared))
    (all_owe_is old.debts (debt.Return reply.Done) (threads_of o.woken) ∙ ap all_owed (sym h.debts_are))
    ∙ ap (λ (x : Conds). woken_with x o.locks o.rows o.woken (all_given o.gifts) (all_owed debts') (state_with old remainders shared)) (sym h.conds_are)
    ∙ ap (λ (x : Locks). woken_with cs x o.rows o.woken (all_given o.gifts) (all_owed debts') (state_with old remainders shared)) (sym h.locks_are)
    ∙ ap (λ (x : Rows). woken_with cs ls x o.woken (all_given o.gifts) (all_owed debts') (state_with old remainders shared)) (sym h.rows_are)
    ∙ ap (λ (x : Gifts). woken_with cs ls rs o.woken x (all_owed debts') (state_with old remainders shared)) (sym h.gifts_are))
    (record { same = same; answer = answer; gifts = refl; nothing = refl })

-- A condition that isn't made.
pub not_made : (old w : ServicesView) (c : NameId) (a : Answer) (after : Gifts) → has old.conds.made c.0 ≡ false → old ≡ w → a ≡ plain reply.Einval → after ≡ []
    → Answers w old a after (λ s st. notifies st (broadcast (rank_of st) st.conds st.locks st.rows c))
unfolding wake_all
not_made old w c a after made same answer nothing =
    as_answered (λ s st. notifies st (broadcast (rank_of st) st.conds st.locks st.rows c)) old w old (plain reply.Einval) a [] after [] (λ s remainders shared.
    ap (λ b. notifies (state_with old remainders shared) (notified_as (rank_at old.threads) old.conds old.locks old.rows c b)) made)
    (record { same = same; answer = answer; gifts = nothing; nothing = refl })

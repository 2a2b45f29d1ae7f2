-- Broadcasts, related to calls that take one waiter at a time.
use Rattle.std.proofs.Common.{◌≡◌, ℕ, Bool, true, false, cond, [], Some, None, sym, ◌∙◌, ap}
use Rattle.thr_values.specs.declared.number.Tid.{Tid}
use Rattle.thr_values.specs.declared.number.NameId.{NameId}
use Rattle.thr_values.specs.declared.reply.Reply.TheVariants as reply
use Rattle.thr_parts.specs.declared.row.RowId.TheVariants as row
use Rattle.thr_parts.specs.Tables.{has, IsCanonical}
use Rattle.thr_parts.specs.Replies.{made_reply}
use Rattle.thr_parts.specs.Rows.{Rows, best_first}
use Rattle.thr_parts.specs.Mutexes.{Locks}
use Rattle.thr_parts.specs.Locking.{Regained, regain}
use Rattle.thr_parts.specs.Conditions.{Conds}
use Rattle.thr_parts.specs.Waking.{Woken, woken_first, Notified, take_next, wake_all, broadcast}
use Rattle.thr_conds.specs.Agreement.{WaitsAgree}
use Rattle.thr_conds.specs.Taking.{nobody_woken, taken_then_broadcast}
use Rattle.thr_conds.proofs.TakingLaws.{broadcast_none, broadcast_next}

-- What is woken on a condition that is made or isn't.
abbrev woken_if : Bool → (Tid → ℕ) → Conds → Locks → Rows → NameId → Woken
woken_if made rank cs ls rs c = wake_all rank cs ls rs (cond made (best_first rs (row.Cond c)) [])

abbrev broadcast_if : Bool → (Tid → ℕ) → Conds → Locks → Rows → NameId → Notified
broadcast_if made rank cs ls rs c = record { reply = made_reply made; woken = woken_if made rank cs ls rs c }

abbrev done : Woken → Notified
done woken = record { reply = reply.Done; woken = woken }

-- What is woken where this thread was taken, on a condition that is made or isn't.
abbrev taken_then_if : Bool → (Tid → ℕ) → Conds → Locks → Rows → Tid → NameId → NameId → Woken
taken_then_if made rank cs ls rs t m c =
    let o : Regained = regain ls rs m t (rank t) in
    woken_first t (Some m) o.gets (woken_if made rank cs o.locks o.rows c)

pub unmade : (rank : Tid → ℕ) (cs : Conds) (ls : Locks) (rs : Rows) (c : NameId) → has cs.made c.0 ≡ false
    → broadcast rank cs ls rs c ≡ record { reply = reply.Einval; woken = nobody_woken cs ls rs }
unfolding wake_all
unmade rank cs ls rs c e = ap (λ (b : Bool). broadcast_if b rank cs ls rs c) e

pub nobody : (rank : Tid → ℕ) (cs : Conds) (ls : Locks) (rs : Rows) (c : NameId) → IsCanonical rs.seats → WaitsAgree cs rs → has cs.made c.0 ≡ true → (take_next cs rs c).waiter ≡ None
    → broadcast rank cs ls rs c ≡ record { reply = reply.Done; woken = nobody_woken cs ls rs }
nobody rank cs ls rs c h agrees made e = ap (λ (b : Bool). broadcast_if b rank cs ls rs c) made ∙ ap done (broadcast_none rank cs ls rs c h agrees e)

pub next : (rank : Tid → ℕ) (cs : Conds) (ls : Locks) (rs : Rows) (c : NameId) (t : Tid) (m : NameId) → IsCanonical rs.seats → has cs.made c.0 ≡ true → (take_next cs rs c).waiter ≡ Some (t, m)
    → broadcast rank cs ls rs c
    ≡ record { reply = reply.Done; woken = taken_then_broadcast rank (take_next cs rs c).conds ls (take_next cs rs c).rows t m c }
next rank cs ls rs c t m h made e =
    ap (λ (b : Bool). broadcast_if b rank cs ls rs c) made ∙ ap done (broadcast_next rank cs ls rs c t m h e)
    ∙ ap (λ (b : Bool). done (taken_then_if b rank (take_next cs rs c).conds ls (take_next cs rs c).rows t m c)) (sym made)

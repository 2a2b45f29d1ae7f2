-- What is woken where one thread leaves its wait at a time (docs/machine.md, "Waits that end").
use Rattle.std.specs.Prelude.{ℕ, List, [], Option, Some}
use Rattle.thr_values.specs.declared.number.Tid.{Tid}
use Rattle.thr_values.specs.declared.number.NameId.{NameId}
use Rattle.thr_parts.specs.Rows.{Rows}
use Rattle.thr_parts.specs.Mutexes.{Locks}
use Rattle.thr_parts.specs.Locking.{Regained, regain}
use Rattle.thr_parts.specs.Conditions.{Conds}
use Rattle.thr_parts.specs.Waking.{resume, Woken, woken_first, wake_all, broadcast}

-- This thread has left its wait, with its mutex if it waited on a condition, and conditions and rows are so after it. It
-- comes to stand anew, and then the others leave their waits that conditions and rows tell (docs/machine.md, "Waits that
-- end").
abbrev pub taken_then : (Tid → ℕ) → Conds → Locks → Rows → Tid → Option NameId → (Conds → Rows → List Tid) → Woken
taken_then rank cs ls rs t m others =
    let o : Regained = resume rank ls rs t m in
    woken_first t m o.gets (wake_all rank cs o.locks o.rows (others cs o.rows))

-- Nobody is woken (docs/machine.md, "Waits that end").
abbrev pub nobody_woken : Conds → Locks → Rows → Woken
nobody_woken cs ls rs = record { conds = cs; locks = ls; rows = rs; woken = []; gifts = [] }

-- This thread was the best waiter of the condition and has left it, and conditions and rows are so after it. It gets its mutex
-- or waits for it, and then a broadcast wakes the rest (docs/machine.md, "Waits that end").
abbrev pub taken_then_broadcast : (Tid → ℕ) → Conds → Locks → Rows → Tid → NameId → NameId → Woken
taken_then_broadcast rank cs ls rs t m c =
    let o : Regained = regain ls rs m t (rank t) in
    woken_first t (Some m) o.gets (broadcast rank cs o.locks o.rows c).woken

-- Waits whose time has come (docs/machine.md, "Times").
use Rattle.std.specs.Prelude.{ℕ, Bool, false, if◌then◌else◌, int_le, int_lt, ℤ, List, [], ◌∷◌, Option, Some, None}
use Rattle.std.specs.List.{filter}
use Rattle.std.specs.Option.{option_map, option_and_then}
use Rattle.thr_values.specs.declared.number.Tid.{Tid}
use Rattle.thr_values.specs.declared.number.NameId.{NameId}
use Rattle.thr_parts.specs.declared.wait.Wait.{Wait}
use Rattle.thr_parts.specs.Tables.{Table, get}
use Rattle.thr_parts.specs.Rows.{Rows, Seated, best_of, in_order, numbers_of, number_in}
use Rattle.thr_parts.specs.Moves.{take_out_if}
use Rattle.thr_parts.specs.Mutexes.{Locks}
use Rattle.thr_parts.specs.Conditions.{Conds, time_of}
use Rattle.thr_parts.specs.Waking.{without_wait, beside_wait, Woken, wake_all}

-- The sooner of two times that may be there.
abbrev pub sooner : Option ℤ → Option ℤ → Option ℤ
sooner None b = b
sooner (Some a) None = Some a
sooner (Some a) (Some b) = Some (if int_lt b a then b else a)

-- The earliest time of these waits.
unfoldable pub earliest_in : Table Wait → Option ℤ
earliest_in [] = None
earliest_in (e ∷ es) = sooner (time_of e.1) (earliest_in es)

-- The earliest time for which a thread waits (docs/machine.md, "Times").
abbrev pub earliest : Conds → Option ℤ
earliest cs = earliest_in cs.waits

-- The time that is there has come.
abbrev pub has_come : ℤ → Option ℤ → Bool
has_come now None = false
has_come now (Some time) = int_le time now

-- The time has come for which the thread of this number waits.
abbrev pub is_due : Conds → ℤ → ℕ → Bool
is_due cs now t = has_come now (option_and_then time_of (get cs.waits t))

-- The threads whose time has come, whatever rows they stand in.
unfoldable pub due : Conds → Rows → ℤ → Seated
due cs rs now = filter (λ e. is_due cs now e.0) rs.seats

-- The same, the best first (docs/machine.md, "Times").
abbrev pub due_first : Conds → Rows → ℤ → List Tid
due_first cs rs now = numbers_of (in_order (due cs rs now))

-- Conditions and rows after the best thread whose time has come was to leave its wait, and that thread with its mutex, if it
-- waited on a condition (docs/machine.md, "Times").
pub record Expired : Type 0 where
  pub conds : Conds
  pub rows : Rows
  pub who : Option (Tid × Option NameId)

-- The best thread whose time has come leaves its wait (docs/machine.md, "Times").
abbrev pub expire : Conds → Rows → ℤ → Expired
expire cs rs now =
    let next : Option Tid = number_in (best_of (due cs rs now)) in record {
      conds = without_wait cs next;
      rows = take_out_if rs next;
      who = option_map (beside_wait cs) next;
    }

-- Every thread whose time has come leaves its wait, the best of them all first (docs/machine.md, "Times").
abbrev pub expire_all : (Tid → ℕ) → Conds → Locks → Rows → ℤ → Woken
expire_all rank cs ls rs now = wake_all rank cs ls rs (due_first cs rs now)

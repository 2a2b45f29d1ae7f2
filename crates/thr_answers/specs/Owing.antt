-- What a thread owes and where it goes on (docs/machine.md, "What threads owe").
use Rattle.std.specs.Prelude.{ℕ, Bool, true, false, Option, Some, None, unwrap_or}
use Rattle.thr_remainder.specs.Starts.{line_of_next}
use Rattle.thr_parts.specs.Tables.{at}
use Rattle.thr_model.specs.States.{State, Debt, Return, Delivery, Running, nothing_left}

-- A delivery is owed.
abbrev pub delivers : Option Debt → Bool
delivers None = false
delivers (Some (Return y)) = false
delivers (Some Delivery) = true
delivers (Some Running) = false

-- The line of the thread's next step, where an item is left.
abbrev pub line_at : State → ℕ → ℕ
line_at st u = unwrap_or (line_of_next (at st.remainders u nothing_left)) 0

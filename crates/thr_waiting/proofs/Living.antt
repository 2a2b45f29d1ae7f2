-- In every history each thread that has a seat has a record and has not ended, and there are few of them.
use Rattle.std.proofs.Common.{◌≡◌, ℕ, ◌≤◌, ℤ, true, length, Option, Some, None, arith, refl, sym, ◌∙◌, ap}
use Rattle.std.proofs.lemmas.Bool.{false≢true}
use Rattle.std.specs.Option.{is_some, is_none}
use Rattle.thr_syntax.specs.declared.tree.Script.{Script}
use Rattle.thr_parts.specs.declared.row.Seat.{Seat}
use Rattle.thr_parts.specs.declared.thread.Thread.{Thread}
use Rattle.thr_parts.specs.declared.wait.Wait.{Wait}
use Rattle.thr_parts.specs.Tables.{get, has}
use Rattle.thr_parts.specs.Rows.{most}
use Rattle.thr_parts.proofs.LengthLaws.{not_longer}
use Rattle.thr_parts.proofs.TableLaws.{has_get}
use Rattle.thr_model.specs.States.{Debt}
use Rattle.thr_model.specs.Histories.{Execution, History}
use Rattle.thr_model.specs.Canonical.{IsCanonicalState}
use Rattle.thr_model.proofs.StateTables.{canonical-state}
use Rattle.thr_answers.specs.Statuses.{Absent, status}
use Rattle.thr_answers.proofs.AnswerTurns.{agrees}
use Rattle.thr_answers.proofs.StatusLives.{is_living}
use Rattle.thr_waiting.proofs.Seatless.{no_seat}
use Rattle.thr_waiting.proofs.Few.{history_few}

-- ---- records

not_absent : (o : Option Debt) (x : Option Seat) (z : Option Wait) → is_some x ≡ true → status o x z ≡ Absent → ⊥
not_absent o x z is e = false≢true (sym (ap is_some (no_seat o x z e)) ∙ is)

seat_lives : {s : Script} {n : ℕ} {x : Execution} → History s n x → (t : ℕ) → has x.state.rows.seats t ≡ true → is_living (get x.state.threads.records t) ≡ true
seat_lives {x = x} h t e =
    (agrees h).lives t (not_absent (get x.state.debts t) (get x.state.rows.seats t) (get x.state.conds.waits t) (sym (has_get x.state.rows.seats t) ∙ e))

living_is : (o : Option Thread) → is_living o ≡ true → is_some o ≡ true
living_is None e = absurd (false≢true e)
living_is (Some th) e = refl

pub seat_recorded : {s : Script} {n : ℕ} {x : Execution} → History s n x → (t : ℕ) → has x.state.rows.seats t ≡ true → has x.state.threads.records t ≡ true
seat_recorded {x = x} h t e = has_get x.state.threads.records t ∙ living_is (get x.state.threads.records t) (seat_lives h t e)

none_of : (o : Option ℤ) → is_none o ≡ true → o ≡ None
none_of None e = refl
none_of (Some v) e = absurd (false≢true e)

pub seat_not_ended : {s : Script} {n : ℕ} {x : Execution} → History s n x → (t : ℕ) (th : Thread) → has x.state.rows.seats t ≡ true → get x.state.threads.records t ≡ Some th → th.ended ≡ None
seat_not_ended h t th e is = none_of th.ended (sym (ap is_living is) ∙ seat_lives h t e)

-- ---- how many

pub at_most : (a b c : ℕ) → a ≤ b → b ≤ c → a ≤ c
at_most a b c h k = omega (arith, h, k)

pub few_seats : {s : Script} {n : ℕ} {x : Execution} → History s n x → length x.state.rows.seats ≤ most
few_seats {x = x} h =
    let tables : IsCanonicalState x.state = canonical-state h in
    at_most (length x.state.rows.seats) (length x.state.threads.records) most
    (not_longer x.state.rows.seats x.state.threads.records tables.seats (seat_recorded h)) (history_few h)

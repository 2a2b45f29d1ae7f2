-- What follows where conditions and rows agree on who waits.
use Rattle.std.proofs.Common.{◌≡◌, ℕ, ℤ, ◌≤◌, true, length, Option, Some, None, refl, sym, subst}
use Rattle.std.specs.Option.{option_map, is_some}
use Rattle.thr_values.specs.declared.number.Tid.{Tid}
use Rattle.thr_values.specs.declared.number.NameId.{NameId}
use Rattle.thr_parts.specs.declared.wait.Wait.{Wait}
use Rattle.thr_parts.specs.Tables.{IsCanonical}
use Rattle.thr_parts.specs.Rows.{Rows, best_of, number_in, most}
use Rattle.thr_parts.specs.Moves.{take_out_if}
use Rattle.thr_parts.specs.Conditions.{Conds, wait_of, mutex_of}
use Rattle.thr_parts.specs.Waking.{some_if, pull_out}
use Rattle.thr_parts.specs.Expiry.{due, expire}
use Rattle.thr_tables.specs.Places.{has_place}
use Rattle.thr_rows.specs.Room.{HasRoom}
use Rattle.thr_rows.proofs.AgreementLaws as rows
use Rattle.thr_rows.proofs.RoomLaws.{room_of_row}
use Rattle.thr_conds.specs.Agreement.{WaitsAgree}
use Rattle.thr_conds.proofs.KeepLaws.{wait_rows, agree_in}
use Rattle.thr_conds.proofs.TakingLaws.{first_by, first_waits}

-- There is room for one wait more.
pub place_for_wait : (cs : Conds) (rs : Rows) (t : ℕ) → WaitsAgree cs rs → IsCanonical cs.waits → length rs.seats ≤ most → has_place cs.waits t 4096 ≡ true
place_for_wait cs rs t h rises within = rows.place_for_wait wait_rows cs.waits rs t (agree_in cs rs h) rises within

-- ---- room for a thread that leaves its wait

room_of_waiter : (cs : Conds) (rs : Rows) (t : Tid) → IsCanonical rs.seats → length rs.seats ≤ most → WaitsAgree cs rs → is_some (wait_of cs t) ≡ true → HasRoom (take_out_if rs (Some t))
room_of_waiter cs rs t h within agrees is = room_of_row rs t h within (rows.waits_in_row wait_rows cs.waits rs t (agree_in cs rs agrees) is)

left_wait : (w : Option Wait) (m : Option NameId) → option_map mutex_of w ≡ Some m → is_some w ≡ true
left_wait None m e = absurd (cc)
left_wait (Some w) m e = refl

pub room_of_pull_out : (cs : Conds) (rs : Rows) (t : Tid) (m : Option NameId) → IsCanonical rs.seats → length rs.seats ≤ most → WaitsAgree cs rs → (pull_out cs rs t).left ≡ Some m → HasRoom (pull_out cs rs t).rows
room_of_pull_out cs rs t m h within agrees e =
    let waits : is_some (wait_of cs t) ≡ true = left_wait (wait_of cs t) m e in
    subst (λ b. HasRoom (take_out_if rs (some_if b t))) (sym waits) (room_of_waiter cs rs t h within agrees waits)

pub room_of_expire : (cs : Conds) (rs : Rows) (now : ℤ) (t : Tid) (m : Option NameId) → IsCanonical rs.seats → length rs.seats ≤ most → WaitsAgree cs rs → (expire cs rs now).who ≡ Some (t, m) → HasRoom (expire cs rs now).rows
room_of_expire cs rs now t m h within agrees e =
    let is : number_in (best_of (due cs rs now)) ≡ Some t = (first_by cs rs now t m (number_in (best_of (due cs rs now))) refl e).best in
    subst (λ o. HasRoom (take_out_if rs o)) (sym is) (room_of_waiter cs rs t h within agrees (first_waits cs rs now t (best_of (due cs rs now)) h refl is))

-- Processors that take no thread.
use Rattle.std.proofs.Common.{◌≡◌, ℕ, Option, Some, None, sym, ◌∙◌, ap, refl}
use Rattle.std.specs.Prelude.{IfNone}
use Rattle.thr_values.specs.declared.number.Tid.{Tid}
use Rattle.thr_parts.specs.declared.row.Seat.{Seat}
use Rattle.thr_parts.specs.Rows.{Rows, number_in}
use Rattle.thr_parts.specs.Dispatch.{Dispatched, dispatch, next_for, with_processor}
use Rattle.thr_services.specs.Views.{ServicesView}

nothing_moves : (o : Option (ℕ × Seat)) (rs : Rows) (p : ℕ) → number_in o ≡ None → (let x : Rows = record { seats = with_processor o rs.seats p; next_arrival = rs.next_arrival } in x) ≡ rs
nothing_moves None rs p e = refl
nothing_moves (Some x) rs p e = absurd (cc)

-- Where no thread is taken nothing changes.
pub none_taken : (old w : ServicesView) (p : ℕ) (rs : Rows) (o : Option Tid) → (let x : Dispatched = record { rows = rs; taken = o } in x) ≡ dispatch old.rows p → old ≡ w
    → IfNone o ((let v : ServicesView = record old { rows = rs } in v) ≡ w)
none_taken old w p rs (Some t) e same = tt
none_taken old w p rs None e same =
    ap (λ (x : Rows). let v : ServicesView = record old { rows = x } in v)
    (ap (λ (x : Dispatched). x.rows) e ∙ nothing_moves (next_for old.rows p) old.rows p (sym (ap (λ (x : Dispatched). x.taken) e))) ∙ same

-- Who owes something, as the service and as the state have it.
use Rattle.std.proofs.Common.{◌≡◌, ℕ, ◌+◌, ◌<◌, ◌^◌, ℤ, true, refl, sym, ap, subst, ◌∙◌, Option, Some, None}
use Rattle.std.specs.Option.{option_map, is_some}
use Rattle.thr_values.specs.declared.number.Tid.{Tid}
use Rattle.thr_remainder.specs.Remainders.{Remainder}
use Rattle.thr_parts.specs.Tables.{Table, none, get, has}
use Rattle.thr_parts.specs.Rows.{Rows}
use Rattle.thr_parts.specs.Keys.{next_destructor}
use Rattle.thr_parts.proofs.TableLaws.{has_get}
use Rattle.thr_model.specs.States.{State, Debt}
use Rattle.thr_services.specs.declared.debt.Debt.{Debt as Owed}
use Rattle.thr_services.specs.Views.{ServicesView, as_owed, all_owed, state_with}
use Rattle.thr_services.specs.Ready.{OwersStand}
use Rattle.thr_services.proofs.DebtLaws.{get_owed}

some-mapped : {A B : Type 0} (f : A → B) (o : Option A) → is_some (option_map f o) ≡ is_some o
some-mapped f None = refl
some-mapped f (Some x) = refl

pub has-owed : (debts : Table Owed) (q : ℕ) → has (all_owed debts) q ≡ has debts q
has-owed debts q = has_get (all_owed debts) q ∙ ap is_some (get_owed debts q) ∙ some-mapped as_owed (get debts q) ∙ sym (has_get debts q)

-- The service with the keys as the next destructor leaves them, and else the same.
abbrev pub AskedNext : ServicesView → ServicesView → Tid → Type 0
AskedNext v v' t = (rs : Table Remainder) (values : Table ℤ) → (let st : State = record (state_with v rs values) { onces = (next_destructor v.onces.state t).onces } in st) ≡ state_with v' rs values

-- Whoever owes something after the next destructor was asked for stands.
pub owers-next : (v v' : ServicesView) (t : Tid) → AskedNext v v' t → OwersStand v.debts v.rows → OwersStand v'.debts v'.rows
owers-next v v' t asked h = record {
  stands = λ q is.
      let before : has v.rows.seats q ≡ true = h.stands q (sym (has-owed v.debts q) ∙ ap (λ (m : Table Debt). has m q) (ap (λ (st : State). st.debts) (asked none none)) ∙ has-owed v'.debts q ∙ is) in
      subst (λ (rs : Rows). has rs.seats q ≡ true) (ap (λ (st : State). st.rows) (asked none none)) before;
}

pub arrival-next : (v v' : ServicesView) (t : Tid) → AskedNext v v' t → v.rows.next_arrival + 1024 < 2 ^ 64 → v'.rows.next_arrival + 1024 < 2 ^ 64
arrival-next v v' t asked h = subst (λ (rs : Rows). rs.next_arrival + 1024 < 2 ^ 64) (ap (λ (st : State). st.rows) (asked none none)) h

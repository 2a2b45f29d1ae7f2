-- What turns do beside calls.
use Rattle.std.proofs.Common.{◌≡◌, ℕ, ℤ, ◌+◌, ◌^◌, ◌<◌, true, Option, Some, sym, ◌∙◌, ap, subst}
use Rattle.std.specs.Option.{option_map}
use Rattle.thr_values.specs.declared.number.Tid.{Tid}
use Rattle.thr_values.specs.declared.number.NameId.{NameId}
use Rattle.thr_values.specs.declared.reply.Reply.TheVariants as reply
use Rattle.thr_remainder.specs.Remainders.{Remainder}
use Rattle.thr_parts.specs.declared.row.RowId.TheVariants as row
use Rattle.thr_parts.specs.Tables.{Table, get, put, cut}
use Rattle.thr_parts.specs.Rows.{Rows, best}
use Rattle.thr_parts.specs.Moves.{take_out_if, put_in_row, leave, free_row}
use Rattle.thr_parts.specs.Threads.{Threads, rank_at, set_ended}
use Rattle.thr_parts.specs.Keys.{Onces}
use Rattle.thr_parts.specs.OnceBlocks.{Undone, done, undone}
use Rattle.thr_once.specs.Views.{OncesView}
use Rattle.thr_model.specs.States.{State, debt_of, rank_of}
use Rattle.thr_model.specs.States as states
use Rattle.thr_model.specs.Turns.{freed, thread_ended, handed_on}
use Rattle.thr_services.specs.declared.debt.Debt.{Debt}
use Rattle.thr_services.specs.declared.debt.Debt.TheVariants as debt
use Rattle.thr_services.specs.Views.{ServicesView, as_owed, all_owed, state_with}
use Rattle.thr_services.specs.Ready.{debts_all, CanBeReady}
use Rattle.thr_services.proofs.DebtLaws.{get_owed, put_owed, cut_owed, all_owe_is}
use Rattle.thr_services.proofs.SeatLaws.{taken_can}
use Rattle.thr_services.proofs.GivenLaws.{HasPlaces}

-- ---- what a thread owes

pub debt_is : (old w : ServicesView) (t : Tid) (d : Option Debt) → d ≡ get old.debts t.0 → old ≡ w
    → (remainders : Table Remainder) (shared : Table ℤ) → debt_of (state_with w remainders shared) t ≡ option_map as_owed d
debt_is old w t d e same remainders shared =
    subst (λ (v : ServicesView). get (all_owed v.debts) t.0 ≡ option_map as_owed d) same (get_owed old.debts t.0 ∙ ap (option_map as_owed) (sym e))

pub debt_taken : (old w : ServicesView) (t : Tid) (debts' : Table Debt) → debts' ≡ cut old.debts t.0 → old ≡ w
    → (remainders : Table Remainder) (shared : Table ℤ)
    → (let st : State = record (state_with w remainders shared) { debts = cut (all_owed w.debts) t.0 } in st) ≡ state_with (record old { debts = debts' }) remainders shared
debt_taken old w t debts' e same remainders shared =
    subst (λ (v : ServicesView). (let st : State = record (state_with v remainders shared) { debts = cut (all_owed v.debts) t.0 } in st) ≡ state_with (record old { debts = debts' }) remainders shared) same
    (ap (λ (d : Table states.Debt). let st : State = record (state_with old remainders shared) { debts = d } in st) (cut_owed old.debts t.0 ∙ ap all_owed (sym e)))

-- ---- once blocks

abbrev with_parts : State → Onces → Rows → Table states.Debt → State
with_parts st os rs debts = record st { onces = os; rows = rs; debts = debts }

pub completed : (old w : ServicesView) (o : NameId) (os : OncesView) (rs : Rows) (debts' : Table Debt) → os.state ≡ done old.onces.state o
    → rs ≡ (free_row (rank_at old.threads) old.rows (row.Once o)).rows → debts' ≡ debts_all old.debts (debt.Return reply.Done) (free_row (rank_at old.threads) old.rows (row.Once o)).woken → old ≡ w
    → (remainders : Table Remainder) (shared : Table ℤ)
    → freed (record (state_with w remainders shared) { onces = done w.onces.state o }) reply.Done (free_row (rank_of (state_with w remainders shared)) w.rows (row.Once o))
    ≡ state_with (record old { onces = os; rows = rs; debts = debts' }) remainders shared
completed old w o os rs debts' onces rows debts same remainders shared =
    subst (λ (v : ServicesView). freed (record (state_with v remainders shared) { onces = done v.onces.state o }) reply.Done (free_row (rank_of (state_with v remainders shared)) v.rows (row.Once o))
    ≡ state_with (record old { onces = os; rows = rs; debts = debts' }) remainders shared) same
    (ap (with_parts (state_with old remainders shared) (done old.onces.state o) (free_row (rank_at old.threads) old.rows (row.Once o)).rows)
    (all_owe_is old.debts (debt.Return reply.Done) (free_row (rank_at old.threads) old.rows (row.Once o)).woken ∙ ap all_owed (sym debts))
    ∙ ap (λ (x : Onces). with_parts (state_with old remainders shared) x (free_row (rank_at old.threads) old.rows (row.Once o)).rows (all_owed debts')) (sym onces)
    ∙ ap (λ (x : Rows). with_parts (state_with old remainders shared) os.state x (all_owed debts')) (sym rows))

-- The next runner can be ready.
pub runner_can : (v : ServicesView) (o : NameId) (os : Onces) (rs : Rows) (t : Tid) → (let u : Undone = record { onces = os; rows = rs; runner = Some t } in u) ≡ undone v.onces.state v.rows o
    → HasPlaces v → v.rows.next_arrival + 1 < 2 ^ 64 → CanBeReady rs v.debts t
runner_can v o os rs t e h arrival =
    let given : Some t ≡ best v.rows (row.Once o) = ap (λ (u : Undone). u.runner) e in
    taken_can v.debts v.rows rs (row.Once o) true (Some t) given (ap (λ (u : Undone). u.rows) e ∙ ap (take_out_if v.rows) (sym given)) h.seats h.debts h.owers h.within arrival

pub handed : (old w : ServicesView) (o : NameId) (os : OncesView) (rs new : Rows) (debts' : Table Debt) (t : Tid) (r : ℕ)
    → (let u : Undone = record { onces = os.state; rows = rs; runner = Some t } in u) ≡ undone old.onces.state old.rows o
    → r ≡ rank_at old.threads t → new ≡ put_in_row rs row.Ready t r → debts' ≡ put old.debts t.0 debt.Running → old ≡ w
    → (remainders : Table Remainder) (shared : Table ℤ)
    → handed_on (state_with w remainders shared) (undone w.onces.state w.rows o) (undone w.onces.state w.rows o).runner ≡ state_with (record old { onces = os; rows = new; debts = debts' }) remainders shared
handed old w o os rs new debts' t r e ranked rows debts same remainders shared =
    subst (λ (v : ServicesView). handed_on (state_with v remainders shared) (undone v.onces.state v.rows o) (undone v.onces.state v.rows o).runner ≡ state_with (record old { onces = os; rows = new; debts = debts' }) remainders shared) same
    (sym (ap (λ (u : Undone). handed_on (state_with old remainders shared) u u.runner) e)
    ∙ ap (with_parts (state_with old remainders shared) os.state (put_in_row rs row.Ready t (rank_at old.threads t))) (put_owed old.debts t.0 debt.Running ∙ ap all_owed (sym debts))
    ∙ ap (λ (x : Rows). with_parts (state_with old remainders shared) os.state x (all_owed debts')) (sym (rows ∙ ap (put_in_row rs row.Ready t) ranked)))

-- ---- ends

abbrev ended_with : State → Table Remainder → Threads → Rows → Table states.Debt → State
ended_with st remainders ths rs debts = record st { threads = ths; remainders = remainders; rows = rs; debts = debts }

pub ended : (old w : ServicesView) (t : Tid) (value : ℤ) (ths : Threads) (mid rs : Rows) (debts' : Table Debt) → mid ≡ (free_row (rank_at old.threads) old.rows (row.Join t)).rows
    → debts' ≡ debts_all old.debts (debt.Return (reply.Value value)) (free_row (rank_at old.threads) old.rows (row.Join t)).woken → rs ≡ leave mid t → ths ≡ set_ended old.threads t value → old ≡ w
    → (remainders : Table Remainder) (shared : Table ℤ)
    → thread_ended (state_with w remainders shared) t value (free_row (rank_of (state_with w remainders shared)) w.rows (row.Join t)) ≡ state_with (record old { threads = ths; rows = rs; debts = debts' }) (cut remainders t.0) shared
ended old w t value ths mid rs debts' freed_rows debts left threads same remainders shared =
    subst (λ (v : ServicesView). thread_ended (state_with v remainders shared) t value (free_row (rank_of (state_with v remainders shared)) v.rows (row.Join t))
    ≡ state_with (record old { threads = ths; rows = rs; debts = debts' }) (cut remainders t.0) shared) same
    (ap (ended_with (state_with old remainders shared) (cut remainders t.0) (set_ended old.threads t value) (leave (free_row (rank_at old.threads) old.rows (row.Join t)).rows t))
    (all_owe_is old.debts (debt.Return (reply.Value value)) (free_row (rank_at old.threads) old.rows (row.Join t)).woken ∙ ap all_owed (sym debts))
    ∙ ap (λ (x : Threads). ended_with (state_with old remainders shared) (cut remainders t.0) x (leave (free_row (rank_at old.threads) old.rows (row.Join t)).rows t) (all_owed debts')) (sym threads)
    ∙ ap (λ (x : Rows). ended_with (state_with old remainders shared) (cut remainders t.0) ths x (all_owed debts')) (sym (left ∙ ap (λ (x : Rows). leave x t) freed_rows)))

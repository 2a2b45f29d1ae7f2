-- The service at the opening.
use Rattle.std.proofs.Common.{◌≡◌, ℕ, ℤ, pos, ◌<◌, List, length, refl, sym, arith, ◌∙◌, ap, subst}
use Rattle.thr_syntax.specs.declared.tree.Item.{Item}
use Rattle.thr_remainder.specs.Remainders.{Remainder}
use Rattle.thr_parts.specs.declared.row.RowId.TheVariants as row
use Rattle.thr_parts.specs.Tables.{Table, none}
use Rattle.thr_parts.specs.Rows.{Rows, no_rows, thread, most}
use Rattle.thr_parts.specs.Moves.{put_in_row}
use Rattle.thr_parts.specs.Threads.{Threads, first_threads, rank_at}
use Rattle.thr_parts.specs.Mutexes.{Locks, no_locks}
use Rattle.thr_parts.specs.Conditions.{Conds, no_conds}
use Rattle.thr_parts.specs.Keys.{Onces, no_onces}
use Rattle.thr_parts.specs.Pipes.{Pipes, first_pipes}
use Rattle.thr_once.specs.Views.{OncesView}
use Rattle.thr_model.specs.States.{State}
use Rattle.thr_model.specs.States as states
use Rattle.thr_services.specs.declared.debt.Debt.{Debt}
use Rattle.thr_services.specs.Views.{ServicesView, all_owed, state_with, opened}

none_owed : all_owed none ≡ none
unfolding all_owed none
none_owed = refl

few_at_first : length no_rows.seats < most
unfolding none
few_at_first = omega arith

-- There is room for the first thread.
pub first_has_room : (rs : Rows) → rs ≡ no_rows → length rs.seats < most
first_has_room rs e = subst (λ (x : Rows). length x.seats < most) (sym e) few_at_first

abbrev parts : Threads → Table states.Debt → Rows → Locks → Conds → Onces → Pipes → Table Remainder → Table ℤ → State
parts ths debts rs ls cs os ps remainders shared = record {
  threads = ths;
  remainders = remainders;
  debts = debts;
  rows = rs;
  locks = ls;
  conds = cs;
  onces = os;
  pipes = ps;
  shared = shared;
  clock = pos 0;
}

-- What each object opens with.
pub record AreOpened (items : List Item) (ths : Threads) (debts : Table Debt) (before rs : Rows) (ls : Locks) (cs : Conds) (os : Onces) (ps : Pipes) (r : ℕ) : Type 0 where
  pub first : ths ≡ first_threads
  pub owed : debts ≡ none
  pub nobody : before ≡ no_rows
  pub ranked : r ≡ rank_at ths (thread 1)
  pub ready : rs ≡ put_in_row before row.Ready (thread 1) r
  pub locked : ls ≡ no_locks
  pub waiting : cs ≡ no_conds
  pub once : os ≡ no_onces
  pub piped : ps ≡ first_pipes items

pub opened_is : (items : List Item) (ths : Threads) (debts : Table Debt) (before rs : Rows) (ls : Locks) (cs : Conds) (os : OncesView) (ps : Pipes) (r : ℕ) → AreOpened items ths debts before rs ls cs os.state ps r
    → (remainders : Table Remainder) (shared : Table ℤ)
    → (let v : ServicesView = record { threads = ths; debts = debts; rows = rs; locks = ls; conds = cs; onces = os; pipes = ps; clock = pos 0 } in state_with v remainders shared) ≡ opened items remainders shared
opened_is items ths debts before rs ls cs os ps r h remainders shared =
    let at : rs ≡ put_in_row no_rows row.Ready (thread 1) (rank_at first_threads (thread 1)) =
    h.ready ∙ ap (λ (x : Rows). put_in_row x row.Ready (thread 1) r) h.nobody ∙ ap (put_in_row no_rows row.Ready (thread 1)) (h.ranked ∙ ap (λ (x : Threads). rank_at x (thread 1)) h.first) in
    ap (λ (x : Threads). parts x (all_owed debts) rs ls cs os.state ps remainders shared) h.first
    ∙ ap (λ (x : Table states.Debt). parts first_threads x rs ls cs os.state ps remainders shared) (ap all_owed h.owed ∙ none_owed)
    ∙ ap (λ (x : Rows). parts first_threads none x ls cs os.state ps remainders shared) at
    ∙ ap (λ (x : Locks). parts first_threads none (put_in_row no_rows row.Ready (thread 1) (rank_at first_threads (thread 1))) x cs os.state ps remainders shared) h.locked
    ∙ ap (λ (x : Conds). parts first_threads none (put_in_row no_rows row.Ready (thread 1) (rank_at first_threads (thread 1))) no_locks x os.state ps remainders shared) h.waiting
    ∙ ap (λ (x : Onces). parts first_threads none (put_in_row no_rows row.Ready (thread 1) (rank_at first_threads (thread 1))) no_locks no_conds x ps remainders shared) h.once
    ∙ ap (λ (x : Pipes). parts first_threads none (put_in_row no_rows row.Ready (thread 1) (rank_at first_threads (thread 1))) no_locks no_conds no_onces x remainders shared) h.piped

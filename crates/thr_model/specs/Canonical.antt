-- The tables of a state have their numbers in order (docs/machine.md, "Tables").
use Rattle.std.specs.Prelude.{◌≡◌, ℕ, Some}
use Rattle.thr_parts.specs.Tables.{get, IsCanonical}
use Rattle.thr_parts.specs.Keys.{Key}
use Rattle.thr_model.specs.States.{State}

-- The numbers rise in each table of the state, in those of the values of keys too. So two such states that have the same at
-- each number of each table have equal tables (docs/machine.md, "Tables").
pub record IsCanonicalState (st : State) : Type 0 where
  pub records : IsCanonical st.threads.records
  pub attrs : IsCanonical st.threads.attrs
  pub remainders : IsCanonical st.remainders
  pub debts : IsCanonical st.debts
  pub seats : IsCanonical st.rows.seats
  pub kinds : IsCanonical st.locks.kinds
  pub mutexes : IsCanonical st.locks.mutexes
  pub made : IsCanonical st.conds.made
  pub waits : IsCanonical st.conds.waits
  pub blocks : IsCanonical st.onces.blocks
  pub keys : IsCanonical st.onces.keys
  pub values : (k : ℕ) (key : Key) → get st.onces.keys k ≡ Some key → IsCanonical key.values
  pub pipes : IsCanonical st.pipes.pipes
  pub writing : IsCanonical st.pipes.writing
  pub shared : IsCanonical st.shared

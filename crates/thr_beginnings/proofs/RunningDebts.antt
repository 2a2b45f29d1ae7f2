-- Threads that owe the running of a once block: a fact that follows for a thread that owes it follows whatever else becomes owed.
use Rattle.std.proofs.Common.{◌≡◌, ℕ, Bool, true, false, cond, eqb, List, [], ◌∷◌, Option, Some, None, refl, sym, ◌∙◌, ap}
use Rattle.std.proofs.lemmas.Bool.{false≢true}
use Rattle.thr_values.specs.declared.number.Tid.{Tid}
use Rattle.thr_values.specs.declared.number.NameId.{NameId}
use Rattle.thr_parts.specs.Tables.{Table, get, put, cut}
use Rattle.thr_parts.proofs.TableLaws.{get_put, get_cut}
use Rattle.thr_model.specs.States.{Debt, Running, owes_more, all_owe}
use Rattle.thr_model.specs.Events.{due_debt, due_owe}

-- The debt that is there is the running of a once block.
abbrev pub owes_running : Option Debt → Bool
owes_running (Some Running) = true
owes_running _ = false

module _ (u : ℕ) (A : Type 0) where
  -- The fact follows where the thread owes it.
  abbrev pub FollowsOwed : Table Debt → Type 0
  FollowsOwed m = owes_running (get m u) ≡ true → A

  put_by : (b : Bool) (x : Debt) (o : Option Debt) → (owes_running (Some x) ≡ true → b ≡ true → A) → (owes_running o ≡ true → A) → owes_running (cond b (Some x) o) ≡ true → A
  put_by true x o here h e = here e refl
  put_by false x o here h e = h e

  pub owe_follows : (m : Table Debt) (k : ℕ) (x : Debt) → (owes_running (Some x) ≡ true → eqb k u ≡ true → A) → FollowsOwed m → FollowsOwed (put m k x)
  owe_follows m k x here h e = put_by (eqb k u) x (get m u) here h (sym (ap owes_running (get_put m k u x)) ∙ e)

  -- Another debt.
  pub other_follows : (m : Table Debt) (k : ℕ) (x : Debt) → owes_running (Some x) ≡ false → FollowsOwed m → FollowsOwed (put m k x)
  other_follows m k x n h = owe_follows m k x (λ e. absurd (false≢true (sym n ∙ e))) h

  cut_by : (b : Bool) (o : Option Debt) → (b ≡ false → owes_running o ≡ true → A) → owes_running (cond b None o) ≡ true → A
  cut_by true o h e = absurd (false≢true e)
  cut_by false o h e = h refl e

  -- A debt that is paid, whatever it was.
  pub paid_follows : (m : Table Debt) (k : ℕ) → (eqb k u ≡ false → FollowsOwed m) → FollowsOwed (cut m k)
  paid_follows m k h e = cut_by (eqb k u) (get m u) h (sym (ap owes_running (get_cut m k u)) ∙ e)

  pub more_follows : (m : Table Debt) (o : Option Debt) (x : Debt) (t : Tid) → owes_running (Some x) ≡ false → FollowsOwed m → FollowsOwed (owes_more m o x t)
  more_follows m None x t n h = other_follows m t.0 x n h
  more_follows m (Some earlier) x t n h = h

  pub all_follows : (ts : List Tid) (m : Table Debt) (x : Debt) → owes_running (Some x) ≡ false → FollowsOwed m → FollowsOwed (all_owe m x ts)
  all_follows [] m x n h = h
  all_follows (t ∷ ts) m x n h = all_follows ts (put m t.0 x) x n (other_follows m t.0 x n h)

  due_not : (m : Option NameId) → owes_running (Some (due_debt m)) ≡ false
  due_not None = refl
  due_not (Some m) = refl

  pub due_follows : (ws : List (Tid × Option NameId)) (m : Table Debt) → FollowsOwed m → FollowsOwed (due_owe m ws)
  due_follows [] m h = h
  due_follows (w ∷ ws) m h = due_follows ws (put m w.0.0 (due_debt w.1)) (other_follows m w.0.0 (due_debt w.1) (due_not w.1) h)

-- What moves of one thread do to the statuses of threads.
use Rattle.std.proofs.Common.{◌≡◌, ℕ, Bool, true, false, cond, eqb, Option, Some, None, refl, sym, ap, ◌∙◌, subst}
use Rattle.std.proofs.lemmas.Bool.{eqb-true}
use Rattle.thr_parts.specs.declared.row.Seat.{Seat}
use Rattle.thr_parts.specs.declared.wait.Wait.{Wait}
use Rattle.thr_parts.specs.Tables.{Table, get, put, cut, cut_if}
use Rattle.thr_parts.specs.Rows.{row_at}
use Rattle.thr_parts.proofs.TableLaws.{get_put, get_cut}
use Rattle.thr_model.specs.States.{Debt}
use Rattle.thr_answers.specs.Statuses.{Status, Waiting, Astray, by_wait_row, status, status_in}

-- ---- tables that change at one number

-- The one table is the other with this at the number.
abbrev pub IsWith : {A : Type 0} → Table A → Table A → ℕ → Option A → Type 0
IsWith m after w o = (u : ℕ) → get after u ≡ cond (eqb w u) o (get m u)

as_it_is : {A : Type 0} (w u : ℕ) (b : Bool) (m : Table A) → eqb w u ≡ b → get m u ≡ cond b (get m w) (get m u)
as_it_is w u true m e = ap (get m) (sym (eqb-true w u e))
as_it_is w u false m e = refl

pub with_same : {A : Type 0} (m : Table A) (w : ℕ) → IsWith m m w (get m w)
with_same m w u = as_it_is w u (eqb w u) m refl

-- What is known to stand there stands there.
pub with_known : {A : Type 0} (m : Table A) (w : ℕ) (o : Option A) → get m w ≡ o → IsWith m m w o
with_known m w o e = subst (IsWith m m w) e (with_same m w)

pub with_put : {A : Type 0} (m : Table A) (w : ℕ) (v : A) → IsWith m (put m w v) w (Some v)
with_put m w v u = get_put m w u v

pub with_cut : {A : Type 0} (m : Table A) (w : ℕ) → IsWith m (cut m w) w None
with_cut m w u = get_cut m w u

twice : {A : Type 0} (b : Bool) (x y o : Option A) → cond b x (cond b y o) ≡ cond b x o
twice true x y o = refl
twice false x y o = refl

pub with_put_cut : {A : Type 0} (b : Bool) (m : Table A) (w : ℕ) (v : A) → IsWith m (put (cut_if b m w) w v) w (Some v)
with_put_cut true m w v u = get_put (cut m w) w u v ∙ ap (cond (eqb w u) (Some v)) (get_cut m w u) ∙ twice (eqb w u) (Some v) None (get m u)
with_put_cut false m w v u = get_put m w u v

-- ---- statuses

status_cond : (b : Bool) (d x : Option Debt) (s y : Option Seat) (v z : Option Wait) → status (cond b d x) (cond b s y) (cond b v z) ≡ cond b (status d s v) (status x y z)
status_cond true d x s y v z = refl
status_cond false d x s y v z = refl

-- Threads but this one are as they were, and this one has this status.
abbrev pub Becomes : Table Debt → Table Seat → Table Wait → ℕ → Status → Table Debt → Table Seat → Table Wait → Type 0
Becomes d s v w y d' s' v' = (u : ℕ) → status_in d' s' v' u ≡ cond (eqb w u) y (status_in d s v u)

-- All threads are as they were.
abbrev pub Stays : Table Debt → Table Seat → Table Wait → Table Debt → Table Seat → Table Wait → Type 0
Stays d s v d' s' v' = (u : ℕ) → status_in d' s' v' u ≡ status_in d s v u

module _ (d d' : Table Debt) (s s' : Table Seat) (v v' : Table Wait) (w : ℕ) where
  pub becomes : (o : Option Debt) (x : Option Seat) (z : Option Wait) → IsWith d d' w o → IsWith s s' w x → IsWith v v' w z → Becomes d s v w (status o x z) d' s' v'
  becomes o x z i j k u =
      ap (λ e. status e (get s' u) (get v' u)) (i u) ∙ ap (λ e. status (cond (eqb w u) o (get d u)) e (get v' u)) (j u)
      ∙ ap (λ e. status (cond (eqb w u) o (get d u)) (cond (eqb w u) x (get s u)) e) (k u)
      ∙ status_cond (eqb w u) o (get d u) x (get s u) z (get v u)

  as_before : (u : ℕ) (b : Bool) (y : Status) → eqb w u ≡ b → status_in d s v w ≡ y → cond b y (status_in d s v u) ≡ status_in d s v u
  as_before u true y e h = sym h ∙ ap (status_in d s v) (eqb-true w u e)
  as_before u false y e h = refl

  -- Where its status is what it was, all are as they were.
  pub stays : (y : Status) → Becomes d s v w y d' s' v' → status_in d s v w ≡ y → Stays d s v d' s' v'
  stays y h e u = h u ∙ as_before u (eqb w u) y refl e

  pub becomes_again : (y : Status) → Stays d s v d' s' v' → status_in d s v w ≡ y → Becomes d s v w y d' s' v'
  becomes_again y h e u = h u ∙ sym (as_before u (eqb w u) y refl e)

-- ---- threads that are woken

-- A thread that waits in a row of another kind has no wait on a condition or for a time.
pub no_wait : (o : Option Debt) (x : Option Seat) (z : Option Wait) → by_wait_row (row_at x) ≡ Astray → status o x z ≡ Waiting → z ≡ None
no_wait o x None a e = refl
no_wait o x (Some w) a e = absurd (cc)

-- A thread that waited and owes something now.
pub woken_stays : (d d' : Table Debt) (s s' : Table Seat) (v v' : Table Wait) (w : ℕ) (o : Debt) (x : Option Seat) → IsWith d d' w (Some o) → IsWith s s' w x → IsWith v v' w None
    → status_in d s v w ≡ Waiting → Stays d s v d' s' v'
woken_stays d d' s s' v v' w o x i j k e = stays d d' s s' v v' w Waiting (becomes d d' s s' v v' w (Some o) x None i j k) e

-- What the state keeps for a thread that waits on a condition or has left it, and what leaves that as it is.
use Rattle.std.proofs.Common.{◌≡◌, ℕ, suc, Bool, true, false, ◌||◌, cond, eqb, List, [], ◌∷◌, Option, Some, None, refl, sym, ap, ◌∙◌, arith}
use Rattle.std.proofs.lemmas.Bool.{eqb-true, false≢true}
use Rattle.std.proofs.lemmas.Bool.Decides.{nat_tests}
use Rattle.thr_values.specs.declared.number.Tid.{Tid}
use Rattle.thr_values.specs.declared.reply.Reply.TheVariants as reply
use Rattle.thr_parts.specs.declared.row.RowId.{RowId}
use Rattle.thr_parts.specs.declared.row.Seat.{Seat}
use Rattle.thr_parts.specs.declared.wait.Wait.{Wait}
use Rattle.thr_parts.specs.declared.wait.Wait.TheVariants.{Cond, Delay}
use Rattle.thr_parts.specs.Tables.{Table, get, put, put_if, cut, IsCanonical}
use Rattle.thr_parts.specs.Rows.{Rows, thread, row_at, best, best_first, is_among}
use Rattle.thr_parts.proofs.TableLaws.{get_put, get_cut}
use Rattle.thr_parts.proofs.RowLaws.{best_stands}
use Rattle.thr_parts.proofs.StandingLaws.{among_is}
use Rattle.thr_model.specs.States.{State, Debt, Return, Delivery, owes, owes_more, owes_or_keeps, all_owe}
use Rattle.thr_cancels.proofs.Seats.{is_calm, is_calm_row, same_row, IsMoved, same, woken, stopped, created}
use Rattle.thr_ports.specs.Signals.{Waiter, Elsewhere, StandsOn, SignalCame, TimeCame, CancelCame}

-- What the state keeps of a wait on a condition.
abbrev pub standing : Option Wait → Waiter
standing None = Elsewhere
standing (Some (Cond c m until)) = StandsOn c until
standing (Some (Delay until)) = Elsewhere

-- What it keeps where the lines tell this.
abbrev pub kept : Waiter → Waiter
kept (StandsOn c until) = StandsOn c until
kept _ = Elsewhere

-- What a thread owes that has left its condition.
abbrev pub debt_after : Waiter → Option Debt
debt_after SignalCame = Some (Return reply.Done)
debt_after TimeCame = Some (Return reply.Eagain)
debt_after CancelCame = Some Delivery
debt_after _ = None

-- The thread owes this, and is ready, runs, or waits for a mutex.
abbrev pub OwesCalmly : ℕ → State → Debt → Type 0
OwesCalmly u st d = (get st.debts u ≡ Some d) × (is_calm (row_at (get st.rows.seats u)) ≡ true)

-- What the lines tell of a thread's wait is what the state keeps of it.
pub record Knows (u : ℕ) (w : Waiter) (st : State) : Type 0 where
  pub waits : standing (get st.conds.waits u) ≡ kept w
  pub owes : (d : Debt) → debt_after w ≡ Some d → OwesCalmly u st d

pub none_some : (d : Debt) → (let o : Option Debt = None in o) ≡ Some d → ⊥
none_some d f = absurd (cc)

-- From the one state to the other the thread's wait stays, and so does what it owes where it has left a condition.
pub record Rests (u : ℕ) (st st' : State) : Type 0 where
  pub waits : standing (get st'.conds.waits u) ≡ standing (get st.conds.waits u)
  pub owes : (d : Debt) → OwesCalmly u st d → OwesCalmly u st' d

pub rests_on : (u : ℕ) (w : Waiter) (st st' : State) → Rests u st st' → Knows u w st → Knows u w st'
rests_on u w st st' r k = record { waits = r.waits ∙ k.waits; owes = λ d e. r.owes d (k.owes d e) }

pub same_rests : (u : ℕ) (st : State) → Rests u st st
same_rests u st = record { waits = refl; owes = λ d o. o }

pub then_rests : (u : ℕ) (a b c : State) → Rests u a b → Rests u b c → Rests u a c
then_rests u a b c r q = record { waits = q.waits ∙ r.waits; owes = λ d o. q.owes d (r.owes d o) }

-- ---- rows

pub not_true : (b : Bool) → (b ≡ true → ⊥) → b ≡ false
not_true true h = absurd (h refl)
not_true false h = refl

-- A thread that was calm is so after another's turn.
pub moved_calm : (caller next u : ℕ) (waits : Bool) (a b : Option Seat) → IsMoved caller next u waits a b → eqb caller u ≡ false → is_calm (row_at a) ≡ true → is_calm (row_at b) ≡ true
moved_calm caller next u waits a b (same e) other c = ap is_calm (same_row a b e) ∙ c
moved_calm caller next u waits a b (woken s k) other c = k
moved_calm caller next u waits a b (stopped e k) other c = absurd (false≢true (sym other ∙ e))
moved_calm caller next u waits a b (created e k) other c = k

pub never_next : (u : ℕ) → eqb (suc u) u ≡ false
never_next u = not_true (eqb (suc u) u) (λ e. absurd (never e))
  where
    never : eqb (suc u) u ≡ true → ⊥
    never e = grind (arith, nat_tests)

-- One that is calm stands in no other row.
pub calm_elsewhere : (o : Option RowId) (r : RowId) → is_calm_row r ≡ false → is_calm o ≡ true → o ≡ Some r → ⊥
calm_elsewhere o r apart c e = false≢true (sym (ap is_calm e ∙ apart) ∙ c)

pub calm_not_best : (u : ℕ) (rs : Rows) (r : RowId) (k : Tid) → is_calm_row r ≡ false → IsCanonical rs.seats → best rs r ≡ Some k → is_calm (row_at (get rs.seats u)) ≡ true → eqb k.0 u ≡ true → ⊥
calm_not_best u rs r k apart sorted e c i =
    calm_elsewhere (row_at (get rs.seats u)) r apart c (ap (λ (q : ℕ). row_at (get rs.seats q)) (sym (eqb-true k.0 u i)) ∙ best_stands rs r k sorted e)

pub calm_not_among : (u : ℕ) (rs : Rows) (r : RowId) → is_calm_row r ≡ false → IsCanonical rs.seats → is_calm (row_at (get rs.seats u)) ≡ true → is_among (thread u) (best_first rs r) ≡ true → ⊥
calm_not_among u rs r apart sorted c i = calm_elsewhere (row_at (get rs.seats u)) r apart c ((among_is rs r (thread u) sorted).0 i)

-- ---- debts

put_by : (b : Bool) (x d : Debt) (o : Option Debt) → (b ≡ true → ⊥) → o ≡ Some d → cond b (Some x) o ≡ Some d
put_by true x d o n e = absurd (n refl)
put_by false x d o n e = e

pub put_keeps : (debts : Table Debt) (k u : ℕ) (x d : Debt) → (eqb k u ≡ true → ⊥) → get debts u ≡ Some d → get (put debts k x) u ≡ Some d
put_keeps debts k u x d n e = get_put debts k u x ∙ put_by (eqb k u) x d (get debts u) n e

more_by : (debts : Table Debt) (k : Tid) (u : ℕ) (x d : Debt) (old : Option Debt) → get debts k.0 ≡ old → get debts u ≡ Some d → get (owes_more debts old x k) u ≡ Some d
more_by debts k u x d None is e = put_keeps debts k.0 u x d (λ i. none_some d (sym is ∙ ap (get debts) (eqb-true k.0 u i) ∙ e)) e
more_by debts k u x d (Some earlier) is e = e

-- A debt gives way to an earlier one.
pub more_keeps : (debts : Table Debt) (k : Tid) (u : ℕ) (x d : Debt) → get debts u ≡ Some d → get (owes_or_keeps debts x k) u ≡ Some d
more_keeps debts k u x d e = more_by debts k u x d (get debts k.0) refl e

among_head : (k : Tid) (ts : List Tid) (u : ℕ) → eqb k.0 u ≡ true → is_among (thread u) (k ∷ ts) ≡ true
among_head k ts u e = ap (λ b. b || is_among (thread u) ts) e

among_tail : (k : Tid) (ts : List Tid) (u : ℕ) → is_among (thread u) ts ≡ true → is_among (thread u) (k ∷ ts) ≡ true
among_tail k ts u e = second (eqb k.0 u) (is_among (thread u) ts) e
  where
    second : (a b : Bool) → b ≡ true → (a || b) ≡ true
    second true b e = refl
    second false b e = e

pub all_keep : (ts : List Tid) (debts : Table Debt) (u : ℕ) (x d : Debt) → (is_among (thread u) ts ≡ true → ⊥) → get debts u ≡ Some d → get (all_owe debts x ts) u ≡ Some d
all_keep [] debts u x d n e = e
all_keep (k ∷ ts) debts u x d n e =
    all_keep ts (owes debts x k) u x d (λ i. n (among_tail k ts u i)) (put_keeps debts k.0 u x d (λ i. n (among_head k ts u i)) e)

either_head : (a b : Bool) → (a || b) ≡ true → b ≡ false → a ≡ true
either_head true b e f = refl
either_head false b e f = absurd (false≢true (sym f ∙ e))

later_owes : (k : Tid) (ts : List Tid) (debts : Table Debt) (u : ℕ) (x : Debt) → is_among (thread u) (k ∷ ts) ≡ true → (b : Bool) → is_among (thread u) ts ≡ b
    → (is_among (thread u) ts ≡ true → get (all_owe (owes debts x k) x ts) u ≡ Some x) → get (all_owe (owes debts x k) x ts) u ≡ Some x
later_owes k ts debts u x i true e f = f e
later_owes k ts debts u x i false e f =
    all_keep ts (owes debts x k) u x x (λ j. false≢true (sym e ∙ j))
    (get_put debts k.0 u x ∙ ap (λ b. cond b (Some x) (get debts u)) (either_head (eqb k.0 u) (is_among (thread u) ts) i e))

-- Those that are named owe it.
pub all_owe_it : (ts : List Tid) (debts : Table Debt) (u : ℕ) (x : Debt) → is_among (thread u) ts ≡ true → get (all_owe debts x ts) u ≡ Some x
all_owe_it [] debts u x i = absurd (false≢true i)
all_owe_it (k ∷ ts) debts u x i = later_owes k ts debts u x i (is_among (thread u) ts) refl (λ e. all_owe_it ts (owes debts x k) u x e)

-- ---- waits

pub put_elsewhere : (v : Table Wait) (k u : ℕ) (o : Option Wait) → eqb k u ≡ false → get (put_if v k o) u ≡ get v u
put_elsewhere v k u None e = refl
put_elsewhere v k u (Some x) e = get_put v k u x ∙ ap (λ b. cond b (Some x) (get v u)) e

pub cut_elsewhere : {A : Type 0} (m : Table A) (k u : ℕ) → eqb k u ≡ false → get (cut m k) u ≡ get m u
cut_elsewhere m k u e = get_cut m k u ∙ ap (λ b. cond b None (get m u)) e

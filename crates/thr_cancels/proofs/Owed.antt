-- What a thread owes, and whether it has a wait, before and after an event.
use Rattle.std.proofs.Common.{◌≡◌, ℕ, Bool, true, false, ◌&&◌, ◌||◌, cond, eqb, List, [], ◌∷◌, map, Option, Some, None, refl, sym, ◌∙◌, ap, subst}
use Rattle.std.proofs.lemmas.Bool.{eqb-true, false≢true}
use Rattle.std.specs.Prelude.{is_some, is_none}
use Rattle.thr_values.specs.declared.number.NameId.{NameId}
use Rattle.thr_values.specs.declared.number.Tid.{Tid}
use Rattle.thr_parts.specs.declared.row.RowId.{RowId}
use Rattle.thr_parts.specs.declared.row.Seat.{Seat}
use Rattle.thr_parts.specs.declared.wait.Wait.{Wait}
use Rattle.thr_parts.specs.Tables.{Table, get, put, put_if, IsCanonical}
use Rattle.thr_parts.specs.Rows.{Rows, row_at, best, best_first, is_among}
use Rattle.thr_parts.specs.Mutexes.{Locks}
use Rattle.thr_parts.specs.Conditions.{Conds, wait_of}
use Rattle.thr_parts.specs.Waking.{without_wait, pull_out, some_if, mutex_with, resume, wake_all}
use Rattle.thr_parts.proofs.TableLaws.{get_put, get_cut}
use Rattle.thr_parts.proofs.RowLaws.{best_stands}
use Rattle.thr_parts.proofs.StandingLaws.{among_is}
use Rattle.thr_model.specs.States.{Debt, Delivery, owes, owes_more, owes_or_keeps, all_owe}
use Rattle.thr_parts.proofs.EntryLaws.{itself}
use Rattle.thr_model.specs.Events.{due_debt, due_owe}
use Rattle.thr_cancels.proofs.Seats.{is_calm, is_calm_row}

-- The thread owes the delivery of a cancel.
abbrev pub owes_delivery : Option Debt → Bool
owes_delivery (Some Delivery) = true
owes_delivery _ = false

-- It owes the delivery, is calm, and has no wait.
abbrev pub is_bound : Option Debt → Option Seat → Option Wait → Bool
is_bound d o w = owes_delivery d && (is_calm (row_at o) && is_none w)

-- What becomes of what a thread owes, which stands so and has this wait: it stays; or it is no delivery, and the thread wasn't
-- bound to one.
pub data IsOwed (a b : Option Debt) (o : Option Seat) (w : Option Wait) : Type 0 where
  stays : b ≡ a → IsOwed a b o w
  freed : owes_delivery b ≡ false → is_bound a o w ≡ false → IsOwed a b o w

pub not_calm : (a : Option Debt) (o : Option Seat) (w : Option Wait) (r : RowId) → row_at o ≡ Some r → is_calm_row r ≡ false → is_bound a o w ≡ false
not_calm a o w r e k = third (owes_delivery a) (is_calm (row_at o)) (is_none w) (ap is_calm e ∙ k)
  where
    third : (x y z : Bool) → y ≡ false → (x && (y && z)) ≡ false
    third true y z e = ap (λ b. b && z) e
    third false y z e = refl

pub has_wait : (a : Option Debt) (o : Option Seat) (w : Option Wait) → is_some w ≡ true → is_bound a o w ≡ false
has_wait a o None e = absurd (false≢true e)
has_wait a o (Some x) e = third (owes_delivery a) (is_calm (row_at o))
  where
    third : (x y : Bool) → (x && (y && false)) ≡ false
    third true true = refl
    third true false = refl
    third false y = refl

module _ (u : ℕ) (o : Option Seat) (w : Option Wait) where
  abbrev pub Owes : Table Debt → Table Debt → Type 0
  Owes before after = IsOwed (get before u) (get after u) o w

  put_by : (before now : Table Debt) (k : ℕ) (d : Debt) (b : Bool) → eqb k u ≡ b → owes_delivery (Some d) ≡ false → (eqb k u ≡ true → is_bound (get before u) o w ≡ false) → Owes before now
      → IsOwed (get before u) (cond b (Some d) (get now u)) o w
  put_by before now k d true e apart free x = freed apart (free e)
  put_by before now k d false e apart free x = x

  pub put_owes : (before now : Table Debt) (k : ℕ) (d : Debt) → owes_delivery (Some d) ≡ false → (eqb k u ≡ true → is_bound (get before u) o w ≡ false) → Owes before now
      → Owes before (put now k d)
  put_owes before now k d apart free x = subst (λ (y : Option Debt). IsOwed (get before u) y o w) (sym (get_put now k u d)) (put_by before now k d (eqb k u) refl apart free x)

  more_owes : (debts : Table Debt) (k : Tid) (d : Debt) (old : Option Debt) → get debts k.0 ≡ old → owes_delivery (Some d) ≡ false → Owes debts (owes_more debts old d k)
  more_owes debts k d (Some earlier) e apart = stays refl
  more_owes debts k d None e apart =
      put_owes debts debts k.0 d apart (λ f. ap (λ (x : Option Debt). is_bound x o w) (sym (ap (get debts) (eqb-true k.0 u f)) ∙ e)) (stays refl)

  -- A debt that gives way to an earlier one.
  pub keeps_owes : (debts : Table Debt) (k : Tid) (d : Debt) → owes_delivery (Some d) ≡ false → Owes debts (owes_or_keeps debts d k)
  keeps_owes debts k d apart = more_owes debts k d (get debts k.0) refl apart

  among_tail : (k : Tid) (ts : List Tid) → is_among (record { 0 = u }) ts ≡ true → is_among (record { 0 = u }) (k ∷ ts) ≡ true
  among_tail k ts e = second (eqb k.0 u) (is_among (record { 0 = u }) ts) e
    where
      second : (a b : Bool) → b ≡ true → (a || b) ≡ true
      second true b e = refl
      second false b e = e

  among_head : (k : Tid) (ts : List Tid) → eqb k.0 u ≡ true → is_among (record { 0 = u }) (k ∷ ts) ≡ true
  among_head k ts e = ap (λ x. x || is_among (record { 0 = u }) ts) e

  pub all_owes : (before now : Table Debt) (d : Debt) (ts : List Tid) → owes_delivery (Some d) ≡ false → (is_among (record { 0 = u }) ts ≡ true → is_bound (get before u) o w ≡ false)
      → Owes before now → Owes before (all_owe now d ts)
  all_owes before now d [] apart free x = x
  all_owes before now d (k ∷ ts) apart free x =
      all_owes before (owes now d k) d ts apart (λ e. free (among_tail k ts e)) (put_owes before now k.0 d apart (λ e. free (among_head k ts e)) x)

  pub due_owes : (before now : Table Debt) (ws : List (Tid × Option NameId)) → (is_among (record { 0 = u }) (map (λ p. p.0) ws) ≡ true → is_bound (get before u) o w ≡ false)
      → Owes before now → Owes before (due_owe now ws)
  due_owes before now [] free x = x
  due_owes before now (p ∷ ws) free x =
      due_owes before (owes now (due_debt p.1) p.0) ws (λ e. free (among_tail p.0 (map (λ p. p.0) ws) e))
      (put_owes before now p.0.0 (due_debt p.1) (due_return p.1) (λ e. free (among_head p.0 (map (λ p. p.0) ws) e)) x)
    where
      due_return : (m : Option NameId) → owes_delivery (Some (due_debt m)) ≡ false
      due_return None = refl
      due_return (Some m) = refl

-- ---- who is woken

-- The best of a row that isn't calm isn't bound.
pub best_free : (u : ℕ) (d : Option Debt) (rs : Rows) (x : Option Wait) (r : RowId) (k : Tid) → is_calm_row r ≡ false → IsCanonical rs.seats → best rs r ≡ Some k → eqb k.0 u ≡ true
    → is_bound d (get rs.seats u) x ≡ false
best_free u d rs x r k apart h e f =
    not_calm d (get rs.seats u) x r (ap (λ (q : ℕ). row_at (get rs.seats q)) (sym (eqb-true k.0 u f)) ∙ best_stands rs r k h e) apart

-- Nor is any of it.
pub row_free : (u : ℕ) (d : Option Debt) (rs : Rows) (x : Option Wait) (r : RowId) → is_calm_row r ≡ false → IsCanonical rs.seats → is_among (record { 0 = u }) (best_first rs r) ≡ true
    → is_bound d (get rs.seats u) x ≡ false
row_free u d rs x r apart h e = not_calm d (get rs.seats u) x r ((among_is rs r (record { 0 = u }) h).0 e) apart

pub woken_are : (rank : Tid → ℕ) (cs : Conds) (ls : Locks) (rs : Rows) (ts : List Tid) → map (λ p. p.0) (wake_all rank cs ls rs ts).woken ≡ ts
unfolding wake_all
woken_are rank cs ls rs [] = refl
woken_are rank cs ls rs (t ∷ ts) = ap (λ l. t ∷ l) (woken_are rank (pull_out cs rs t).conds (resume rank ls (pull_out cs rs t).rows t (mutex_with cs t)).locks (resume rank ls (pull_out cs rs t).rows t (mutex_with cs t)).rows ts)

-- ---- waits

-- A thread without a wait has none afterwards.
abbrev pub StaysFree : ℕ → Conds → Conds → Type 0
StaysFree u cs cs' = get cs.waits u ≡ None → get cs'.waits u ≡ None

cut_none : (b : Bool) (x : Option Wait) → x ≡ None → cond b None x ≡ None
cut_none true x e = refl
cut_none false x e = e

pub without_free : (u : ℕ) (cs : Conds) (k : Option Tid) → StaysFree u cs (without_wait cs k)
without_free u cs None e = e
without_free u cs (Some k) e = get_cut cs.waits k.0 u ∙ cut_none (eqb k.0 u) (get cs.waits u) e

pub put_free : (u : ℕ) (m : Table Wait) (k : ℕ) (x : Option Wait) → eqb k u ≡ false → get m u ≡ None → get (put_if m k x) u ≡ None
put_free u m k None apart e = e
put_free u m k (Some x) apart e = get_put m k u x ∙ ap (λ b. cond b (Some x) (get m u)) apart ∙ e

pub wake_all_free : (u : ℕ) (rank : Tid → ℕ) (cs : Conds) (ls : Locks) (rs : Rows) (ts : List Tid) → StaysFree u cs (wake_all rank cs ls rs ts).conds
unfolding wake_all
wake_all_free u rank cs ls rs [] e = e
wake_all_free u rank cs ls rs (t ∷ ts) e =
    wake_all_free u rank (pull_out cs rs t).conds (resume rank ls (pull_out cs rs t).rows t (mutex_with cs t)).locks (resume rank ls (pull_out cs rs t).rows t (mutex_with cs t)).rows ts
    (without_free u cs (some_if (is_some (wait_of cs t)) t) e)

-- One that leaves its wait has none.
pub out_free : (cs : Conds) (rs : Rows) (k : Tid) (x : Option Wait) → get cs.waits k.0 ≡ x → get (without_wait cs (some_if (is_some x) k)).waits k.0 ≡ None
out_free cs rs k None e = e
out_free cs rs k (Some x) e = get_cut cs.waits k.0 k.0 ∙ ap (λ b. cond b None (get cs.waits k.0)) (itself k.0)

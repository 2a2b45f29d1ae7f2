-- Whoever comes to owe something has a seat.
use Rattle.std.proofs.Common.{◌≡◌, ℕ, Bool, true, false, cond, eqb, List, [], ◌∷◌, map, Option, Some, None, refl, sym, ◌∙◌, ap, subst}
use Rattle.std.proofs.lemmas.Bool.{eqb-true, false≢true}
use Rattle.std.specs.Option.{is_some}
use Rattle.thr_values.specs.declared.number.Tid.{Tid}
use Rattle.thr_values.specs.declared.number.NameId.{NameId}
use Rattle.thr_parts.specs.Tables.{Table, get, put, cut}
use Rattle.thr_parts.specs.Rows.{Rows}
use Rattle.thr_parts.specs.Mutexes.{Locks}
use Rattle.thr_parts.specs.Conditions.{Conds}
use Rattle.thr_parts.specs.Waking.{pull_out, mutex_with, resume, wake_all}
use Rattle.thr_parts.proofs.TableLaws.{get_put, get_cut}
use Rattle.thr_model.specs.States.{Debt, owes, owes_more, all_owe}
use Rattle.thr_model.specs.Events.{due_debt, due_owe}
use Rattle.thr_waiting.proofs.SeatsStay.{Sits, Stay, AllSit}

-- Each thread that owes something stands in a row or runs.
abbrev pub OwersSit : Table Debt → Rows → Type 0
OwersSit debts rs = (u : ℕ) → is_some (get debts u) ≡ true → Sits rs u

pub put_sits : (debts : Table Debt) (rs : Rows) (w : ℕ) (d : Debt) → Sits rs w → OwersSit debts rs → OwersSit (put debts w d) rs
put_sits debts rs w d s h u e = by_number (eqb w u) refl (sym (ap is_some (get_put debts w u d)) ∙ e)
  where
    by_number : (b : Bool) → eqb w u ≡ b → is_some (cond b (Some d) (get debts u)) ≡ true → Sits rs u
    by_number true i f = subst (Sits rs) (eqb-true w u i) s
    by_number false i f = h u f

pub cut_sits : (debts : Table Debt) (rs : Rows) (w : ℕ) → OwersSit debts rs → OwersSit (cut debts w) rs
cut_sits debts rs w h u e = by_number (eqb w u) (sym (ap is_some (get_cut debts w u)) ∙ e)
  where
    by_number : (b : Bool) → is_some (cond b None (get debts u)) ≡ true → Sits rs u
    by_number true f = absurd (false≢true f)
    by_number false f = h u f

pub more_sits : (debts : Table Debt) (rs : Rows) (earlier : Option Debt) (d : Debt) (t : Tid) → Sits rs t.0 → OwersSit debts rs → OwersSit (owes_more debts earlier d t) rs
more_sits debts rs None d t s h = put_sits debts rs t.0 d s h
more_sits debts rs (Some earlier) d t s h = h

pub all_owe_sits : (ts : List Tid) (debts : Table Debt) (rs : Rows) (d : Debt) → AllSit rs ts → OwersSit debts rs → OwersSit (all_owe debts d ts) rs
all_owe_sits [] debts rs d all h = h
all_owe_sits (t ∷ ts) debts rs d all h = all_owe_sits ts (owes debts d t) rs d all.1 (put_sits debts rs t.0 d all.0 h)

pub due_owe_sits : (ws : List (Tid × Option NameId)) (debts : Table Debt) (rs : Rows) → AllSit rs (map (λ w. w.0) ws) → OwersSit debts rs → OwersSit (due_owe debts ws) rs
due_owe_sits [] debts rs all h = h
due_owe_sits (w ∷ ws) debts rs all h = due_owe_sits ws (owes debts (due_debt w.1) w.0) rs all.1 (put_sits debts rs w.0.0 (due_debt w.1) all.0 h)

-- Those that are woken are those that were to be.
pub woken_are : (ts : List Tid) (rank : Tid → ℕ) (cs : Conds) (ls : Locks) (rs : Rows) → map (λ w. w.0) (wake_all rank cs ls rs ts).woken ≡ ts
unfolding wake_all
woken_are [] rank cs ls rs = refl
woken_are (t ∷ ts) rank cs ls rs =
    let out : Rows = (pull_out cs rs t).rows in
    ap (λ l. t ∷ l) (woken_are ts rank (pull_out cs rs t).conds (resume rank ls out t (mutex_with cs t)).locks (resume rank ls out t (mutex_with cs t)).rows)

-- Where the seats are moved about.
pub moved_sits : (debts : Table Debt) (rs after : Rows) → Stay rs after → OwersSit debts rs → OwersSit debts after
moved_sits debts rs after h o u e = h u ∙ o u e

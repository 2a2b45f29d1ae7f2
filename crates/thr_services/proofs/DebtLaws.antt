-- What threads owe, as the service and as the state have it.
use Rattle.std.proofs.Common.{◌≡◌, ℕ, Bool, true, false, not, cond, eqb, List, [], ◌∷◌, Option, Some, None, refl, sym, ◌∙◌, ap}
use Rattle.std.specs.List.{filter}
use Rattle.std.specs.Option.{option_map}
use Rattle.std.specs.Ordering.{nat_cmp}
use Rattle.std.specs.declared.cmp.Ordering.{Ordering}
use Rattle.std.specs.declared.cmp.Ordering.TheVariants.{Less, Equal, Greater}
use Rattle.std.specs.FinMap.Entries as entries
use Rattle.thr_values.specs.declared.number.Tid.{Tid}
use Rattle.thr_parts.specs.Tables.{Table, get, put, cut}
use Rattle.thr_parts.proofs.EntryLaws.{get_cons, get_empty, cut_is}
use Rattle.thr_model.specs.States.{owes_more, owes_or_keeps, all_owe}
use Rattle.thr_model.specs.States as states
use Rattle.thr_services.specs.declared.debt.Debt.{Debt}
use Rattle.thr_services.specs.Views.{as_owed, all_owed}
use Rattle.thr_services.specs.Ready.{owing, debts_all}

found_head : (d : Debt) (o : Option Debt) (b : Bool) → cond b (Some (as_owed d)) (option_map as_owed o) ≡ option_map as_owed (cond b (Some d) o)
found_head d o true = refl
found_head d o false = refl

-- What a thread owes.
pub get_owed : (debts : Table Debt) (q : ℕ) → get (all_owed debts) q ≡ option_map as_owed (get debts q)
unfolding all_owed
get_owed [] q = get_empty q ∙ sym (ap (option_map as_owed) (get_empty q))
get_owed (e ∷ es) q =
    get_cons (e.0, as_owed e.1) (all_owed es) q ∙ ap (cond (eqb e.0 q) (Some (as_owed e.1))) (get_owed es q) ∙ found_head e.1 (get es q) (eqb e.0 q)
    ∙ sym (ap (option_map as_owed) (get_cons e es q))

ordered : (t : ℕ) (d : Debt) (e : ℕ × Debt) (es : Table Debt) (o : Ordering) → entries.put nat_cmp t (as_owed d) (all_owed es) ≡ all_owed (entries.put nat_cmp t d es)
    → entries.by_order o ((t, as_owed d) ∷ (e.0, as_owed e.1) ∷ all_owed es) ((e.0, as_owed d) ∷ all_owed es) ((e.0, as_owed e.1) ∷ entries.put nat_cmp t (as_owed d) (all_owed es))
    ≡ all_owed (entries.by_order o ((t, d) ∷ e ∷ es) ((e.0, d) ∷ es) (e ∷ entries.put nat_cmp t d es))
unfolding all_owed
ordered t d e es Less rest = refl
ordered t d e es Equal rest = refl
ordered t d e es Greater rest = ap (λ (m : Table states.Debt). (e.0, as_owed e.1) ∷ m) rest

-- A thread that owes something more.
pub put_owed : (debts : Table Debt) (t : ℕ) (d : Debt) → put (all_owed debts) t (as_owed d) ≡ all_owed (put debts t d)
unfolding all_owed put
put_owed [] t d = refl
put_owed (e ∷ es) t d = ordered t d e es (nat_cmp t e.0) (put_owed es t d)

owed_by : (debts : Table Debt) (o : Option Debt) (d : Debt) (t : Tid) → owes_more (all_owed debts) (option_map as_owed o) (as_owed d) t ≡ all_owed (owing debts o d t)
owed_by debts None d t = put_owed debts t.0 d
owed_by debts (Some earlier) d t = refl

-- A thread that owes something more, unless it owes something earlier.
pub keep_owed : (debts : Table Debt) (d : Debt) (t : Tid) → owes_or_keeps (all_owed debts) (as_owed d) t ≡ all_owed (owing debts (get debts t.0) d t)
keep_owed debts d t = ap (λ o. owes_more (all_owed debts) o (as_owed d) t) (get_owed debts t.0) ∙ owed_by debts (get debts t.0) d t

-- Several threads that owe something more.
pub all_owe_is : (debts : Table Debt) (d : Debt) (ts : List Tid) → all_owe (all_owed debts) (as_owed d) ts ≡ all_owed (debts_all debts d ts)
all_owe_is debts d [] = refl
all_owe_is debts d (t ∷ ts) = ap (λ (m : Table states.Debt). all_owe m (as_owed d) ts) (put_owed debts t.0 d) ∙ all_owe_is (put debts t.0 d) d ts

cut_by : (t : ℕ) (e : ℕ × Debt) (es : Table Debt) (b : Bool) → filter (λ x. not (eqb t x.0)) (all_owed es) ≡ all_owed (filter (λ x. not (eqb t x.0)) es)
    → cond b ((e.0, as_owed e.1) ∷ filter (λ x. not (eqb t x.0)) (all_owed es)) (filter (λ x. not (eqb t x.0)) (all_owed es))
    ≡ all_owed (cond b (e ∷ filter (λ x. not (eqb t x.0)) es) (filter (λ x. not (eqb t x.0)) es))
unfolding all_owed
cut_by t e es true rest = ap (λ (m : Table states.Debt). (e.0, as_owed e.1) ∷ m) rest
cut_by t e es false rest = rest

filter_owed : (t : ℕ) (debts : Table Debt) → filter (λ x. not (eqb t x.0)) (all_owed debts) ≡ all_owed (filter (λ x. not (eqb t x.0)) debts)
unfolding all_owed
filter_owed t [] = refl
filter_owed t (e ∷ es) = cut_by t e es (not (eqb t e.0)) (filter_owed t es)

-- A thread that owes nothing more.
pub cut_owed : (debts : Table Debt) (t : ℕ) → cut (all_owed debts) t ≡ all_owed (cut debts t)
cut_owed debts t = cut_is (all_owed debts) t ∙ filter_owed t debts ∙ sym (ap all_owed (cut_is debts t))

-- A fact about each value of a table stays where a value that has it is put, and where one is cut.
use Rattle.std.proofs.Common.{◌≡◌, ℕ, Bool, true, false, cond, eqb, Option, Some, None, sym, ◌∙◌, ap, subst}
use Rattle.std.specs.Option.{unwrap_or}
use Rattle.thr_parts.specs.Tables.{Table, none, get, put, put_if, cut, cut_if}
use Rattle.thr_parts.proofs.TableLaws.{get_none, get_put, get_cut}

-- Each value of the table has it.
abbrev pub Each : {A : Type 0} → (A → Type 0) → Table A → Type 0
Each {A} P m = (q : ℕ) (v : A) → get m q ≡ Some v → P v

-- The value that is there has it.
abbrev pub IfThere : {A : Type 0} → (A → Type 0) → Option A → Type 0
IfThere P None = Unit {0}
IfThere P (Some v) = P v

module _ {A : Type 0} (P : A → Type 0) where
  pub each_none : Each P none
  each_none q v e = absurd (cc (get_none {A = A} q))

  put_either : (x v : A) (o : Option A) (b : Bool) → P x → (o ≡ Some v → P v) → cond b (Some x) o ≡ Some v → P v
  put_either x v o true here rest e = subst P (ap (λ y. unwrap_or y x) e) here
  put_either x v o false here rest e = rest e

  pub each_put : (m : Table A) (k : ℕ) (x : A) → P x → Each P m → Each P (put m k x)
  each_put m k x here h = λ q v e. put_either x v (get m q) (eqb k q) here (h q v) (sym (get_put m k q x) ∙ e)

  pub each_put_if : (m : Table A) (k : ℕ) (o : Option A) → IfThere P o → Each P m → Each P (put_if m k o)
  each_put_if m k None here h = h
  each_put_if m k (Some x) here h = each_put m k x here h

  cut_either : (v : A) (o : Option A) (b : Bool) → (o ≡ Some v → P v) → cond b None o ≡ Some v → P v
  cut_either v o true rest e = absurd (cc)
  cut_either v o false rest e = rest e

  pub each_cut : (m : Table A) (k : ℕ) → Each P m → Each P (cut m k)
  each_cut m k h = λ q v e. cut_either v (get m q) (eqb k q) (h q v) (sym (get_cut m k q) ∙ e)

  pub each_cut_if : (b : Bool) (m : Table A) (k : ℕ) → Each P m → Each P (cut_if b m k)
  each_cut_if true m k h = each_cut m k h
  each_cut_if false m k h = h

  pub if_there : (m : Table A) (q : ℕ) (o : Option A) → get m q ≡ o → Each P m → IfThere P o
  if_there m q None e h = tt
  if_there m q (Some v) e h = h q v e

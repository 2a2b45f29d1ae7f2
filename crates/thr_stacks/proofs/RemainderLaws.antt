-- What tables of stacks stand for after a change.
use Rattle.std.proofs.Common.{◌≡◌, ℕ, Bool, true, false, not, cond, eqb, [], ◌∷◌, Option, Some, None, refl, sym, arith, ◌∙◌, ap, subst}
use Rattle.std.proofs.lemmas.Bool.Decides.{nat_tests}
use Rattle.std.specs.List.{filter}
use Rattle.std.specs.Option.{is_some, option_map}
use Rattle.std.specs.Ordering.{nat_cmp}
use Rattle.std.specs.declared.cmp.Ordering.{Ordering}
use Rattle.std.specs.declared.cmp.Ordering.TheVariants.{Less, Equal, Greater}
use Rattle.std.specs.FinMap.Entries as entries
use Rattle.thr_syntax.specs.declared.tree.Script.{Script}
use Rattle.thr_remainder.specs.Remainders.{Remainder, Setting}
use Rattle.thr_parts.specs.Tables.{Table, none, get, has, put, cut}
use Rattle.thr_parts.proofs.TableLaws.{get_none, get_put, get_cut, has_get}
use Rattle.thr_parts.proofs.EntryLaws.{get_cons, get_empty, cut_is}
use Rattle.thr_frames.specs.Stacks.{StackView, IsStack, remainder_of, setting_of}
use Rattle.thr_stacks.specs.Stacks.{remainders_of, StacksStand}

-- ---- what is left to do

found_head : (s : Script) (k : StackView) (o : Option StackView) (b : Bool) → cond b (Some (remainder_of s k)) (option_map (remainder_of s) o) ≡ option_map (remainder_of s) (cond b (Some k) o)
found_head s k o true = refl
found_head s k o false = refl

pub none_left : (s : Script) → remainders_of s none ≡ none
unfolding remainders_of none
none_left s = refl

pub get_left : (s : Script) (m : Table StackView) (q : ℕ) → get (remainders_of s m) q ≡ option_map (remainder_of s) (get m q)
unfolding remainders_of
get_left s [] q = get_empty q ∙ sym (ap (option_map (remainder_of s)) (get_empty q))
get_left s (e ∷ es) q =
    get_cons (e.0, remainder_of s e.1) (remainders_of s es) q ∙ ap (cond (eqb e.0 q) (Some (remainder_of s e.1))) (get_left s es q)
    ∙ found_head s e.1 (get es q) (eqb e.0 q) ∙ sym (ap (option_map (remainder_of s)) (get_cons e es q))

some_mapped : (s : Script) (o : Option StackView) → is_some (option_map (remainder_of s) o) ≡ is_some o
some_mapped s None = refl
some_mapped s (Some k) = refl

pub has_left : (s : Script) (m : Table StackView) (q : ℕ) → has (remainders_of s m) q ≡ has m q
has_left s m q = has_get (remainders_of s m) q ∙ ap is_some (get_left s m q) ∙ some_mapped s (get m q) ∙ sym (has_get m q)

ordered : (s : Script) (t : ℕ) (k : StackView) (e : ℕ × StackView) (es : Table StackView) (o : Ordering)
    → remainders_of s (entries.put nat_cmp t k es) ≡ entries.put nat_cmp t (remainder_of s k) (remainders_of s es)
    → remainders_of s (entries.by_order o ((t, k) ∷ e ∷ es) ((e.0, k) ∷ es) (e ∷ entries.put nat_cmp t k es))
    ≡ entries.by_order o ((t, remainder_of s k) ∷ (e.0, remainder_of s e.1) ∷ remainders_of s es) ((e.0, remainder_of s k) ∷ remainders_of s es) ((e.0, remainder_of s e.1) ∷ entries.put nat_cmp t (remainder_of s k) (remainders_of s es))
unfolding remainders_of
ordered s t k e es Less rest = refl
ordered s t k e es Equal rest = refl
ordered s t k e es Greater rest = ap (λ (m : Table Remainder). (e.0, remainder_of s e.1) ∷ m) rest

pub put_left : (s : Script) (m : Table StackView) (t : ℕ) (k : StackView) → remainders_of s (put m t k) ≡ put (remainders_of s m) t (remainder_of s k)
unfolding remainders_of put
put_left s [] t k = refl
put_left s (e ∷ es) t k = ordered s t k e es (nat_cmp t e.0) (put_left s es t k)

cut_by : (s : Script) (t : ℕ) (e : ℕ × StackView) (es : Table StackView) (b : Bool) → remainders_of s (filter (λ x. not (eqb t x.0)) es) ≡ filter (λ x. not (eqb t x.0)) (remainders_of s es)
    → remainders_of s (cond b (e ∷ filter (λ x. not (eqb t x.0)) es) (filter (λ x. not (eqb t x.0)) es))
    ≡ cond b ((e.0, remainder_of s e.1) ∷ filter (λ x. not (eqb t x.0)) (remainders_of s es)) (filter (λ x. not (eqb t x.0)) (remainders_of s es))
unfolding remainders_of
cut_by s t e es true rest = ap (λ (m : Table Remainder). (e.0, remainder_of s e.1) ∷ m) rest
cut_by s t e es false rest = rest

filter_left : (s : Script) (t : ℕ) (m : Table StackView) → remainders_of s (filter (λ x. not (eqb t x.0)) m) ≡ filter (λ x. not (eqb t x.0)) (remainders_of s m)
unfolding remainders_of
filter_left s t [] = refl
filter_left s t (e ∷ es) = cut_by s t e es (not (eqb t e.0)) (filter_left s t es)

pub cut_left : (s : Script) (m : Table StackView) (t : ℕ) → remainders_of s (cut m t) ≡ cut (remainders_of s m) t
cut_left s m t = ap (remainders_of s) (cut_is m t) ∙ filter_left s t m ∙ sym (cut_is (remainders_of s m) t)

-- ---- stacks that stand

same_number : (x y : ℕ) → eqb x y ≡ true → x ≡ y
same_number x y e = grind (arith, nat_tests)

some_inside : (x y : StackView) → Some x ≡ Some y → x ≡ y
some_inside x y e = cc

-- What holds of each stack that is there.
abbrev Holds : (ℕ → StackView → Type 0) → Table StackView → Type 0
Holds P m = (t : ℕ) (k : StackView) → get m t ≡ Some k → P t k

module _ (P : ℕ → StackView → Type 0) where
  put_by : (m : Table StackView) (t q : ℕ) (k x : StackView) (b : Bool) → Holds P m → P t k → eqb t q ≡ b → cond b (Some k) (get m q) ≡ Some x → P q x
  put_by m t q k x true h new is e = subst (P q) (some_inside k x e) (subst (λ (j : ℕ). P j k) (same_number t q is) new)
  put_by m t q k x false h new is e = h q x e

  holds_put : (m : Table StackView) (t : ℕ) (k : StackView) → Holds P m → P t k → Holds P (put m t k)
  holds_put m t k h new q x e = put_by m t q k x (eqb t q) h new refl (sym (get_put m t q k) ∙ e)

  cut_by_test : (m : Table StackView) (t q : ℕ) (x : StackView) (b : Bool) → Holds P m → cond b None (get m q) ≡ Some x → P q x
  cut_by_test m t q x true h e = absurd (cc)
  cut_by_test m t q x false h e = h q x e

  holds_cut : (m : Table StackView) (t : ℕ) → Holds P m → Holds P (cut m t)
  holds_cut m t h q x e = cut_by_test m t q x (eqb t q) h (sym (get_cut m t q) ∙ e)

  holds_none : Holds P none
  holds_none q x e = absurd (nothing (get none q) x (get_none q) e)
    where
      nothing : (o : Option StackView) (x : StackView) → o ≡ None → o ≡ Some x → ⊥
      nothing o x e f = absurd (cc)

abbrev Stands : Script → ℕ → StackView → Type 0
Stands s t k = IsStack s k

abbrev HasSetting : Script → (ℕ → Setting) → ℕ → StackView → Type 0
HasSetting s setting t k = setting_of s k ≡ setting t

pub none_stand : (s : Script) (setting : ℕ → Setting) → StacksStand s none setting
none_stand s setting = record { stands = holds_none (Stands s); set = holds_none (HasSetting s setting) }

pub put_stand : (s : Script) (m : Table StackView) (setting : ℕ → Setting) (t : ℕ) (k : StackView) → StacksStand s m setting → IsStack s k → setting_of s k ≡ setting t → StacksStand s (put m t k) setting
put_stand s m setting t k h good is = record { stands = holds_put (Stands s) m t k h.stands good; set = holds_put (HasSetting s setting) m t k h.set is }

pub cut_stand : (s : Script) (m : Table StackView) (setting : ℕ → Setting) (t : ℕ) → StacksStand s m setting → StacksStand s (cut m t) setting
cut_stand s m setting t h = record { stands = holds_cut (Stands s) m t h.stands; set = holds_cut (HasSetting s setting) m t h.set }

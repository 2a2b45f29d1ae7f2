-- Tables by names.
use Rattle.std.proofs.Common.{◌≡◌, ℕ, zero, suc, ◌+◌, ◌<◌, ◌≤◌, ◌==◌, Bool, true, false, if◌then◌else◌, List, [], ◌∷◌, ◌++◌, length, get_or, drop, Option, Some, None, refl, ap, sym, ◌∙◌, arith, inl, inr}
use Rattle.std.specs.Option.{option_or, option_map}
use Rattle.std.proofs.Math.Seq.{drop-cons}
use Rattle.std.proofs.Math.ListN.{drop_of_length-le}
use Rattle.std.proofs.lemmas.Bool.Decides.{nat_tests}
use Rattle.std.proofs.lemmas.Bool.{cases_eq}
use Rattle.thr_values.specs.declared.number.NameId.{NameId}
use Rattle.thr_values.specs.declared.exception.Exc.{Exc}
use Rattle.thr_values.specs.declared.exception.Exc.TheVariants.{Address, Status}
use Rattle.thr_syntax.specs.declared.tree.Item.{Item}
use Rattle.thr_syntax.specs.declared.tree.Item.TheVariants as item
use Rattle.thr_syntax.specs.declared.tree.Routine.{Routine}
use Rattle.thr_syntax.specs.Lines.{item_lines, routine_lines}
use Rattle.thr_remainder.specs.Places.{body_size}
use Rattle.thr_remainder.specs.Starts.{at}
use Rattle.thr_remainder.specs.Declarations.{Entry, is_same_name, entry_at, entry_here, entry_in, exception_here, exception_in}
use Rattle.thr_lines.specs.declared.start.Start.{Start}
use Rattle.thr_lines.proofs.ItemLaws.{routine_size}
use Rattle.thr_lines.specs.Tables.{found, only, start_of, start_here, start_in}

module _ {T : Type 0} where
  pub found-grown : (slots : List (Option T)) (k : ℕ) → found (slots ++ None ∷ []) k ≡ found slots k
  found-grown [] zero = refl
  found-grown [] (suc k) = refl
  found-grown (x ∷ slots) zero = refl
  found-grown (x ∷ slots) (suc k) = found-grown slots k

  pub or_none : (o : Option T) → option_or o None ≡ o
  or_none None = refl
  or_none (Some x) = refl

  pub or_assoc : (a b c : Option T) → option_or (option_or a b) c ≡ option_or a (option_or b c)
  or_assoc None b c = refl
  or_assoc (Some x) b c = refl

-- ---- declarations

abbrev line_after : ℕ → Item → ℕ
line_after l i = l + length (item_lines i)

map-or : (a b : Option Entry) → option_map start_of (option_or a b) ≡ option_or (option_map start_of a) (option_map start_of b)
map-or None b = refl
map-or (Some x) b = refl

pub start-cons : (l : ℕ) (i : Item) (items : List Item) (k : NameId) → start_in l (i ∷ items) k ≡ option_or (start_here l i k) (start_in (line_after l i) items k)
start-cons l i items k = map-or (entry_here l i k) (entry_in (line_after l i) items k)

differs : (n m : ℕ) → (n ≡ m → ⊥) → (n == m) ≡ false
differs n m h = grind (arith, nat_tests)

pub only_address : (name k : NameId) → only name.0 (Address name) k.0 ≡ exception_here (item.Exception name) k
only_address name k =
    elim (cases_eq name.0 k.0) [
      | inl e ↦ (
          let same : name ≡ k = ap (λ (n : ℕ). let x : NameId = record { 0 = n } in x) e in
          ap (λ (x : NameId). if is_same_name name k then Some (Address x) else None) same
          )
      | inr e ↦ ap (λ b. if b then Some (Address name) else None) (differs name.0 k.0 e) ∙ sym (ap (λ b. if b then Some (Address k) else None) (differs name.0 k.0 e))
    ]

map_if : (b : Bool) (e : Entry) → option_map start_of (if b then Some e else None) ≡ (if b then Some (start_of e) else None)
map_if true e = refl
map_if false e = refl

pub only_start : (l last : ℕ) (r : Routine) (k : NameId) → l + length (routine_lines r) ≡ last + 1 →
    only r.name.0 (record { line = at l; body = at (l + length r.locals); close = at last }) k.0 ≡ start_here l (item.Routine r) k
only_start l last r k h =
    let close_is : last ≡ l + length r.locals + body_size r.body = omega (arith, h, routine_size r) in
    ap (λ n. only r.name.0 (record { line = at l; body = at (l + length r.locals); close = at n }) k.0) close_is
    ∙ sym (map_if (is_same_name r.name k) (entry_at l r))

-- ---- one more declaration

module _ (items : List Item) (i : ℕ) (x : Item) where
  split_at : i < length items → x ≡ get_or items i x → drop i items ≡ x ∷ drop (i + 1) items
  split_at h g = let e : i + 1 ≡ suc i = omega arith in drop-cons items i x h ∙ (λ j. sym g j ∷ drop (sym e j) items)

  pub routines_more : (now new : List (Option Start)) (all : NameId → Option Start) (line next : ℕ) → i < length items → x ≡ get_or items i x → next ≡ line + length (item_lines x) →
      ((k : NameId) → option_or (found now k.0) (start_in line (drop i items) k) ≡ all k) → ((k : NameId) → found new k.0 ≡ option_or (found now k.0) (start_here line x k)) →
      (k : NameId) → option_or (found new k.0) (start_in next (drop (i + 1) items) k) ≡ all k
  routines_more now new all line next h g e inv n k =
      (λ j. option_or (n k j) (start_in (e j) (drop (i + 1) items) k))
      ∙ or_assoc (found now k.0) (start_here line x k) (start_in (line + length (item_lines x)) (drop (i + 1) items) k)
      ∙ ap (option_or (found now k.0)) (sym (start-cons line x (drop (i + 1) items) k))
      ∙ ap (λ is. option_or (found now k.0) (start_in line is k)) (sym (split_at h g))
      ∙ inv k

  pub exceptions_more : (now new : List (Option Exc)) (all : NameId → Option Exc) → i < length items → x ≡ get_or items i x →
      ((k : NameId) → option_or (found now k.0) (exception_in (drop i items) k) ≡ all k) → ((k : NameId) → found new k.0 ≡ option_or (found now k.0) (exception_here x k)) →
      (k : NameId) → option_or (found new k.0) (exception_in (drop (i + 1) items) k) ≡ all k
  exceptions_more now new all h g inv n k =
      ap (λ o. option_or o (exception_in (drop (i + 1) items) k)) (n k)
      ∙ or_assoc (found now k.0) (exception_here x k) (exception_in (drop (i + 1) items) k)
      ∙ ap (λ is. option_or (found now k.0) (exception_in is k)) (sym (split_at h g))
      ∙ inv k

pub routines_end : (now : List (Option Start)) (items : List Item) (i line : ℕ) (all : NameId → Option Start) → length items ≤ i →
    ((k : NameId) → option_or (found now k.0) (start_in line (drop i items) k) ≡ all k) → (k : NameId) → found now k.0 ≡ all k
routines_end now items i line all h inv k = sym (ap (λ is. option_or (found now k.0) (start_in line is k)) (drop_of_length-le items {i = i} h) ∙ or_none (found now k.0)) ∙ inv k

pub exceptions_end : (now : List (Option Exc)) (items : List Item) (i : ℕ) (all : NameId → Option Exc) → length items ≤ i →
    ((k : NameId) → option_or (found now k.0) (exception_in (drop i items) k) ≡ all k) → (k : NameId) → found now k.0 ≡ all k
exceptions_end now items i all h inv k = sym (ap (λ is. option_or (found now k.0) (exception_in is k)) (drop_of_length-le items {i = i} h) ∙ or_none (found now k.0)) ∙ inv k

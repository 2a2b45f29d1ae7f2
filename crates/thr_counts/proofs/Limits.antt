-- A history that goes on has fewer lines than the limit of its script.
use Rattle.std.proofs.Common.{◌≡◌, ℕ, ◌<◌, ◌≤◌, Bool, true, false, List, [], ◌∷◌, None, refl, subst, arith}
use Rattle.std.proofs.lemmas.Bool.Decides.{nat_tests}
use Rattle.std.specs.Prelude.{◌&&◌, nat_le}
use Rattle.std.specs.List.{list_all}
use Rattle.thr_values.specs.declared.number.Tid.{Tid}
use Rattle.thr_syntax.specs.declared.tree.Item.{Item}
use Rattle.thr_syntax.specs.declared.tree.Item.TheVariants as item
use Rattle.thr_syntax.specs.declared.tree.Script.{Script}
use Rattle.thr_text.specs.Reading.{Formed}
use Rattle.thr_limits.specs.Limits.{is_shallow, has_few_locals, is_in_range, has_few_names, has_few_lines, has_short_lines}
use Rattle.thr_limits.proofs.FormedLimits.{formed_within}
use Rattle.thr_parts.specs.Threads.{live}
use Rattle.thr_model.specs.States.{State}
use Rattle.thr_model.specs.Histories.{limit_in, limit_of, limit_stop, goes_on, stop_with, stop_at}

-- ---- the limit

within : (n : ℕ) → (nat_le 1 n && nat_le n 1000000) ≡ true → n ≤ 1000000
within n e = grind (arith, nat_tests)

both : (a b : Bool) → (a && b) ≡ true → (a ≡ true) × (b ≡ true)
both true b e = (refl, e)
both false b e = absurd (cc)

limit_at : (i : Item) (items : List Item) → is_in_range i ≡ true → limit_in items ≤ 1000000 → limit_in (i ∷ items) ≤ 1000000
limit_at (item.Limit n) items e rest = within n e
limit_at _ items e rest = rest

limit_within : (items : List Item) → list_all is_in_range items ≡ true → limit_in items ≤ 1000000
limit_within [] e = omega arith
limit_within (i ∷ items) e = let parts = both (is_in_range i) (list_all is_in_range items) e in limit_at i items parts.0 (limit_within items parts.1)

third : (a b c d e f : Bool) → (a && (b && (c && (d && (e && f))))) ≡ true → c ≡ true
third true true true d e f h = refl
third true true false d e f h = absurd (cc)
third true false c d e f h = absurd (cc)
third false b c d e f h = absurd (cc)

limit_is : (s : Script) → limit_in s.items ≡ limit_of s
unfolding limit_of
limit_is s = refl

formed_limit : (s : Script) → Formed s → limit_of s ≤ 1000000
formed_limit s h =
    subst (λ (n : ℕ). n ≤ 1000000) (limit_is s)
    (limit_within s.items (third (list_all is_shallow s.items) (list_all has_few_locals s.items) (list_all is_in_range s.items) (has_few_names s) (has_few_lines s) (has_short_lines s) (formed_within s h)))

-- ---- the stop

not_full : (full : Bool) → limit_stop full ≡ None → full ≡ false
not_full true e = absurd (cc)
not_full false e = refl

going : (ts : List Tid) (goes full : Bool) → stop_with ts goes full ≡ None → full ≡ false
going [] goes full e = absurd (cc)
going (t ∷ ts) false full e = absurd (cc)
going (t ∷ ts) true full e = not_full full e

below : (limit count : ℕ) → nat_le limit count ≡ false → count < limit
below limit count e = grind (arith, nat_tests)

pub lines_below : (s : Script) (st : State) (count : ℕ) → stop_at s st count ≡ None → count < limit_of s
unfolding stop_at
lines_below s st count e = below (limit_of s) count (going (live st.threads) (goes_on st) (nat_le (limit_of s) count) e)

pub formed_below : (s : Script) (st : State) (count : ℕ) → Formed s → stop_at s st count ≡ None → count < 1000000
formed_below s st count h e = let under = lines_below s st count e in let most = formed_limit s h in omega (arith, under, most)

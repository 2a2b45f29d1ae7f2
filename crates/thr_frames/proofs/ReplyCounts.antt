-- How many lines a reply writes, and how many items are left.
use Rattle.std.proofs.Common.{◌≡◌, ℕ, suc, ◌+◌, ◌≤◌, ℤ, Bool, true, false, List, [], ◌∷◌, length, length-append, if◌then◌else◌, Option, Some, None, refl, ap, ◌∙◌, arith}
use Rattle.thr_values.specs.declared.exception.Exc.{Exc}
use Rattle.thr_values.specs.declared.history.What.{What}
use Rattle.thr_values.specs.declared.reply.Reply.{Reply}
use Rattle.thr_values.specs.Replies.{errno_of}
use Rattle.thr_syntax.specs.declared.expr.Var.{Var}
use Rattle.thr_syntax.specs.declared.expr.Var.TheVariants.{Local, Shared}
use Rattle.thr_syntax.specs.declared.tree.Script.{Script}
use Rattle.thr_remainder.specs.Places.{Placed}
use Rattle.thr_remainder.specs.Acts.{Act, Sets, Says, Chooses, Repeats, Tries, Raises, RaisesAgain, Calls, Returns, Exits, Asks}
use Rattle.thr_remainder.specs.Calls.{stores}
use Rattle.thr_remainder.specs.Declarations.{interface_of}
use Rattle.thr_remainder.specs.Remainders.{Item, Role, Setting, Remainder, Spot, Place, Nowhere, AtEnd, At, place_in, place_inside, act_at, is_call, with_local, passed}
use Rattle.thr_remainder.specs.Replies.{stored_in, raised_by, raised_if, replied_by, replied_at, replied}
use Rattle.thr_stack.specs.declared.context.Context.{Context}
use Rattle.thr_stack.specs.Standing.{Makes, remainder_of, setting_of}

-- ---- items

count_if : (b : Bool) (x y : List Item) → length y ≡ length x → length (if b then x else y) ≡ length x
count_if true x y e = refl
count_if false x y e = e

count_local : (p : ℕ) (n : ℤ) (items : List Item) → length (with_local p n items) ≡ length items
count_local p n [] = refl
count_local p n (i ∷ items) = ap suc (count_if (is_call i.role) items (with_local p n items) (count_local p n items))

count_stored : (xs : List (Var × ℤ)) (items : List Item) → length (stored_in xs items) ≡ length items
count_stored [] items = refl
count_stored ((Local p, n) ∷ xs) items = count_stored xs (with_local p n items) ∙ count_local p n items
count_stored ((Shared name, n) ∷ xs) items = count_stored xs items

-- How many items there are at a place.
abbrev count_at : Place → ℕ
count_at Nowhere = 0
count_at (AtEnd close x outer) = suc (length outer)
count_at (At h) = suc (length h.outer)

count_inside : (todo : List Placed) (close : ℕ) (x : Role) (outer : List Item) → count_at (place_inside todo close x outer) ≡ suc (length outer)
count_inside [] close x outer = refl
count_inside (p ∷ todo) close x outer = refl

count_place : (items : List Item) → count_at (place_in items) ≡ length items
count_place [] = refl
count_place (i ∷ items) = count_inside i.inside.todo i.inside.close i.role items

-- ---- replies

raised_items : (o : Option Exc) (r : Remainder) → (raised_if o r).to.items ≡ r.items
raised_items None r = refl
raised_items (Some x) r = refl

raised_lines : (o : Option Exc) (r : Remainder) → length (raised_if o r).lines ≤ 1
raised_lines None r = omega arith
raised_lines (Some x) r = omega arith

items_by : (g : Setting) (a : Act) (h : Spot) (r : Remainder) (reply : Reply) → suc (length h.outer) ≡ length r.items → length (replied_by g a h r reply).to.items ≡ length r.items
items_by g (Sets v e) h r reply n = refl
items_by g (Says e) h r reply n = refl
items_by g (Chooses e body other) h r reply n = refl
items_by g (Repeats e again) h r reply n = refl
items_by g (Tries body ways) h r reply n = refl
items_by g (Raises name) h r reply n = refl
items_by g RaisesAgain h r reply n = refl
items_by g (Calls routine e place) h r reply n = refl
items_by g (Returns e) h r reply n = refl
items_by g (Exits e) h r reply n = refl
items_by g (Asks call) h r reply n =
    let to : Remainder = record r { items = stored_in (stores call reply) (passed h); err = errno_of reply } in
    ap length (raised_items (raised_by (interface_of g.script) call reply) to) ∙ count_stored (stores call reply) (passed h) ∙ n

lines_by : (g : Setting) (a : Act) (h : Spot) (r : Remainder) (reply : Reply) → length (replied_by g a h r reply).lines ≤ 1
lines_by g (Sets v e) h r reply = omega arith
lines_by g (Says e) h r reply = omega arith
lines_by g (Chooses e body other) h r reply = omega arith
lines_by g (Repeats e again) h r reply = omega arith
lines_by g (Tries body ways) h r reply = omega arith
lines_by g (Raises name) h r reply = omega arith
lines_by g RaisesAgain h r reply = omega arith
lines_by g (Calls routine e place) h r reply = omega arith
lines_by g (Returns e) h r reply = omega arith
lines_by g (Exits e) h r reply = omega arith
lines_by g (Asks call) h r reply = raised_lines (raised_by (interface_of g.script) call reply) (record r { items = stored_in (stores call reply) (passed h); err = errno_of reply })

items_at : (g : Setting) (p : Place) (r : Remainder) (reply : Reply) → count_at p ≡ length r.items → length (replied_at g p r reply).to.items ≡ length r.items
items_at g Nowhere r reply n = refl
items_at g (AtEnd close x outer) r reply n = refl
items_at g (At h) r reply n = items_by g (act_at h) h r reply n

lines_at : (g : Setting) (p : Place) (r : Remainder) (reply : Reply) → length (replied_at g p r reply).lines ≤ 1
lines_at g Nowhere r reply = omega arith
lines_at g (AtEnd close x outer) r reply = omega arith
lines_at g (At h) r reply = lines_by g (act_at h) h r reply

-- ---- replies that were given

module _ (s : Script) (old new : Context) (reply : Reply) (before after : List What) (m : Makes s (replied (setting_of s old) reply (remainder_of s old)) old new before after) where
  pub reply_items : length (remainder_of s new).items ≡ length (remainder_of s old).items
  unfolding replied
  reply_items =
      let r = remainder_of s old in
      ap (λ (x : Remainder). length x.items) m.to ∙ items_at (setting_of s old) (place_in r.items) r reply (count_place r.items)

  pub reply_lines : length after ≤ length before + 1
  unfolding replied
  reply_lines =
      let g = setting_of s old in
      let r = remainder_of s old in
      let p = place_in r.items in
      omega (arith, ap length m.lines, length-append before (replied_at g p r reply).lines, lines_at g p r reply)

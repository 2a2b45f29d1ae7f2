-- What replies change of a thread, and what they leave.
use Rattle.std.proofs.Common.{◌≡◌, ℕ, suc, ◌+◌, ◌≤◌, ℤ, Bool, true, false, List, [], ◌∷◌, length, refl, sym, ap, ◌∙◌, subst, arith, Option, Some, None}
use Rattle.std.specs.Prelude.{if◌then◌else◌}
use Rattle.thr_values.specs.declared.number.Tid.{Tid}
use Rattle.thr_values.specs.declared.exception.Exc.{Exc}
use Rattle.thr_values.specs.declared.history.What.{What}
use Rattle.thr_values.specs.declared.history.Entry.{Entry}
use Rattle.thr_values.specs.declared.reply.Reply.{Reply}
use Rattle.thr_values.specs.declared.reply.Reply.TheVariants as reply
use Rattle.thr_values.specs.Replies.{errno_of}
use Rattle.thr_syntax.specs.declared.expr.Var.{Var}
use Rattle.thr_syntax.specs.declared.expr.Var.TheVariants.{Local, Shared}
use Rattle.thr_syntax.specs.declared.dce.DceCall.TheVariants as dce
use Rattle.thr_syntax.specs.declared.tree.Script.{Script}
use Rattle.thr_remainder.specs.Places.{Placed}
use Rattle.thr_remainder.specs.Acts.{Act, Sets, Says, Chooses, Repeats, Tries, Raises, RaisesAgain, Calls, Returns, Exits, Asks}
use Rattle.thr_remainder.specs.Calls.{stores}
use Rattle.thr_remainder.specs.Declarations.{interface_in, interface_of}
use Rattle.thr_remainder.specs.Remainders.{Role, Item, Setting, Remainder, Spot, Place, Nowhere, AtEnd, At, place_inside, place_in, act_at, passed, is_call, with_local, has_room}
use Rattle.thr_remainder.specs.Replies.{stored_in, raised_if, raised_by, replied_by, replied_at, replied, writes_by, writes_at, writes}
use Rattle.thr_remainder.specs.Replies as replies
use Rattle.thr_model.specs.Turns.{stores_of}
use Rattle.thr_frames.specs.Stacks.{StackView, remainder_of, setting_of, CanNumber}
use Rattle.thr_turns.specs.Steps.{HasMoved}

-- ---- as many items as before

local-length-by : (b : Bool) (p : ℕ) (n : ℤ) (items : List Item) → length (with_local p n items) ≡ length items → length (if b then items else with_local p n items) ≡ length items
local-length-by true p n items h = refl
local-length-by false p n items h = h

local-length : (p : ℕ) (n : ℤ) (items : List Item) → length (with_local p n items) ≡ length items
local-length p n [] = refl
local-length p n (i ∷ items) = ap suc (local-length-by (is_call i.role) p n items (local-length p n items))

stored-length : (xs : List (Var × ℤ)) (items : List Item) → length (stored_in xs items) ≡ length items
stored-length [] items = refl
stored-length ((Local p, n) ∷ xs) items = stored-length xs (with_local p n items) ∙ local-length p n items
stored-length ((Shared name, n) ∷ xs) items = stored-length xs items

abbrev outer-at : Place → List Item → List Item
outer-at (At h) other = h.outer
outer-at _ other = other

passed-inside : (todo : List Placed) (close : ℕ) (role : Role) (outer : List Item) (h : Spot) → place_inside todo close role outer ≡ At h → h.outer ≡ outer
passed-inside [] close role outer h e = absurd (cc)
passed-inside (p ∷ todo) close role outer h e = sym (ap (λ (x : Place). outer-at x []) e)

passed-length : (items : List Item) (h : Spot) → place_in items ≡ At h → length (passed h) ≡ length items
passed-length [] h e = absurd (cc)
passed-length (i ∷ items) h e = ap (λ (x : List Item). suc (length x)) (passed-inside i.inside.todo i.inside.close i.role items h e)

-- ---- what a reply keeps

-- A reply leaves as many items and scopes, and sets out one unwinding at most.
pub record RepliesKeep (r new : Remainder) : Type 0 where
  pub items : length new.items ≡ length r.items
  pub scopes : new.scopes ≡ r.scopes
  pub unwindings : new.unwindings ≤ r.unwindings + 1

raised-keeps : (x : Option Exc) (r : Remainder) → RepliesKeep r (raised_if x r).to
raised-keeps None r = record { items = refl; scopes = refl; unwindings = omega arith }
raised-keeps (Some x) r = record { items = refl; scopes = refl; unwindings = omega arith }

still-keeps : (r : Remainder) → RepliesKeep r r
still-keeps r = record { items = refl; scopes = refl; unwindings = omega arith }

keeps-from : (r mid new : Remainder) → length mid.items ≡ length r.items → mid.scopes ≡ r.scopes → mid.unwindings ≡ r.unwindings → RepliesKeep mid new → RepliesKeep r new
keeps-from r mid new items scopes unwindings h = record {
  items = h.items ∙ items;
  scopes = h.scopes ∙ scopes;
  unwindings = subst (λ (n : ℕ). new.unwindings ≤ n + 1) unwindings h.unwindings;
}

act-keeps : (g : Setting) (act : Act) (h : Spot) (r : Remainder) (y : Reply) → length (passed h) ≡ length r.items → RepliesKeep r (replied_by g act h r y).to
act-keeps g (Asks call) h r y e =
    let mid : Remainder = record r { items = stored_in (stores call y) (passed h); err = errno_of y } in
    keeps-from r mid _ (stored-length (stores call y) (passed h) ∙ e) refl refl (raised-keeps (raised_by (interface_of g.script) call y) mid)
act-keeps g (Sets v x) h r y e = still-keeps r
act-keeps g (Says x) h r y e = still-keeps r
act-keeps g (Chooses x body other) h r y e = still-keeps r
act-keeps g (Repeats x again) h r y e = still-keeps r
act-keeps g (Tries body ways) h r y e = still-keeps r
act-keeps g (Raises name) h r y e = still-keeps r
act-keeps g RaisesAgain h r y e = still-keeps r
act-keeps g (Calls routine x place) h r y e = still-keeps r
act-keeps g (Returns x) h r y e = still-keeps r
act-keeps g (Exits x) h r y e = still-keeps r

place-keeps : (g : Setting) (p : Place) (r : Remainder) (y : Reply) → place_in r.items ≡ p → RepliesKeep r (replied_at g p r y).to
place-keeps g (At h) r y e = act-keeps g (act_at h) h r y (passed-length r.items h e)
place-keeps g Nowhere r y e = still-keeps r
place-keeps g (AtEnd close role outer) r y e = still-keeps r

pub reply-keeps : (g : Setting) (r : Remainder) (y : Reply) → RepliesKeep r (replied g y r).to
unfolding replied
reply-keeps g r y = place-keeps g (place_in r.items) r y refl

room-kept : (g g' : Setting) (r r' : Remainder) → g' ≡ g → length r'.items ≡ length r.items → has_room g r 2 ≡ true → has_room g' r' 2 ≡ true
room-kept g g' r r' same items h = rw (same, items) h

-- After a reply there is as much room.
pub room-after : (s : Script) (t : Tid) (y : Reply) (k k' : StackView) (before after : List Entry) → HasMoved s t (replied (setting_of s k) y (remainder_of s k)) k k' before after
    → has_room (setting_of s k) (remainder_of s k) 2 ≡ true → has_room (setting_of s k') (remainder_of s k') 2 ≡ true
room-after s t y k k' before after m h =
    room-kept (setting_of s k) (setting_of s k') (remainder_of s k) (remainder_of s k') m.setting (ap (λ (r : Remainder). length r.items) m.to ∙ (reply-keeps (setting_of s k) (remainder_of s k) y).items) h

-- After a reply there are numbers for one scope and unwinding less.
pub numbers-after : (s : Script) (t : Tid) (y : Reply) (k k' : StackView) (before after : List Entry) → HasMoved s t (replied (setting_of s k) y (remainder_of s k)) k k' before after
    → CanNumber (remainder_of s k) 2 → CanNumber (remainder_of s k') 1
numbers-after s t y k k' before after m h =
    let kept = reply-keeps (setting_of s k) (remainder_of s k) y in record {
      scopes = omega (arith, ap (λ (r : Remainder). r.scopes) m.to ∙ kept.scopes, h.scopes);
      unwindings = omega (arith, ap (λ (r : Remainder). r.unwindings) m.to, kept.unwindings, h.unwindings);
    }

-- ---- what a reply stores

none-by : (act : Act) → writes_by act reply.Blocks ≡ []
unfolding stores
none-by (Asks (dce.Read n v w)) = refl
none-by (Asks _) = refl
none-by _ = refl

none-at : (p : Place) → writes_at p reply.Blocks ≡ []
none-at (At h) = none-by (act_at h)
none-at Nowhere = refl
none-at (AtEnd close role outer) = refl

blocks-writes : (r : Remainder) → writes r reply.Blocks ≡ []
unfolding writes
blocks-writes r = none-at (place_in r.items)

-- What a reply stores is what it writes.
pub stores-are : (r : Remainder) (y : Reply) → stores_of r y ≡ writes r y
stores-are r reply.Blocks = sym (blocks-writes r)
stores-are r _ = refl

done-by : (act : Act) → writes_by act reply.Done ≡ []
unfolding stores
done-by (Asks (dce.Read n v w)) = refl
done-by (Asks _) = refl
done-by _ = refl

done-at : (p : Place) → writes_at p reply.Done ≡ []
done-at (At h) = done-by (act_at h)
done-at Nowhere = refl
done-at (AtEnd close role outer) = refl

-- The reply `ok` stores nothing.
pub done-stores : (r : Remainder) → stores_of r reply.Done ≡ []
unfolding writes
done-stores r = done-at (place_in r.items)

-- ---- the interface

pub interface-is : (s : Script) → interface_in s.items ≡ interface_of s
unfolding interface_of
interface-is s = refl

-- What a thread does with the reply of a call (docs/machine.md, "Replies").
use Rattle.std.specs.Prelude.{◌≡◌, ℤ, List, [], ◌∷◌, Option, Some, None}
use Rattle.thr_values.specs.declared.number.NameId.{NameId}
use Rattle.thr_values.specs.declared.reply.Reply.{Reply}
use Rattle.thr_values.specs.Replies.{errno_of}
use Rattle.thr_syntax.specs.declared.expr.Var.{Var}
use Rattle.thr_syntax.specs.declared.expr.Var.TheVariants.{Local, Shared}
use Rattle.thr_syntax.specs.declared.dce.DceCall.{DceCall}
use Rattle.thr_syntax.specs.declared.tree.Script.{Script}
use Rattle.thr_remainder.specs.Acts.{Act, Asks}
use Rattle.thr_remainder.specs.Calls.{stores}
use Rattle.thr_remainder.specs.Remainders.{Spot, Place, At, place_in, act_at, passed}
use Rattle.thr_remainder.specs.Replies.{stored_in}
use Rattle.thr_stack.specs.declared.context.Context.{Context}
use Rattle.thr_stack.specs.FrameLists.{set_in}
use Rattle.thr_stack.specs.Standing.{IsGood, remainder_of, setting_of}
use Rattle.thr_frames.specs.declared.reply.Writes.{Writes}
use Rattle.thr_frames.specs.declared.stores.Stores.{Stores}
use Rattle.thr_frames.specs.declared.stores.Stores.TheVariants.{Nothing, One, Two}

-- What the call of this act stores of the reply; another act stores nothing (docs/machine.md, "Replies").
abbrev pub stores_by : Act → Reply → List (Var × ℤ)
stores_by (Asks call) reply = stores call reply
stores_by _ reply = []

-- The same of the statement at this place, if one is next.
abbrev pub stores_at : Place → Reply → List (Var × ℤ)
stores_at (At h) reply = stores_by (act_at h) reply
stores_at _ reply = []

-- The shared variable that takes this value, if the variable is shared.
abbrev pub shared_store : Var × ℤ → Option (NameId × ℤ)
shared_store (Local p, n) = None
shared_store (Shared name, n) = Some (name, n)

-- The shared variable that takes the first of these values, if there is one and its variable is shared.
abbrev pub first_store : List (Var × ℤ) → Option (NameId × ℤ)
first_store [] = None
first_store (x ∷ xs) = shared_store x

-- The same of the second.
abbrev pub second_store : List (Var × ℤ) → Option (NameId × ℤ)
second_store [] = None
second_store (x ∷ xs) = first_store xs

-- ---- what the program keeps of a reply

-- What a call stores, as a list (docs/machine.md, "Replies").
abbrev pub listed_stores : Stores → List (Var × ℤ)
listed_stores Nothing = []
listed_stores (One v n) = (v, n) ∷ []
listed_stores (Two v n w m) = (v, n) ∷ (w, m) ∷ []

-- This value before others, if there is one.
abbrev pub before_others : Option (NameId × ℤ) → List (NameId × ℤ) → List (NameId × ℤ)
before_others None xs = xs
before_others (Some x) xs = x ∷ xs

-- What a call writes to shared variables, as a list: the first before the second, each where it is there (docs/machine.md,
-- "Replies").
abbrev pub listed_writes : Writes → List (NameId × ℤ)
listed_writes w = before_others w.first (before_others w.second [])

-- The locals of calls, where those of the innermost take these values, in their order (docs/machine.md, "Replies").
abbrev pub calls_with : List (Var × ℤ) → List (List ℤ) → List (List ℤ)
calls_with [] calls = calls
calls_with ((Local p, n) ∷ xs) calls = calls_with xs (set_in calls p n)
calls_with ((Shared name, n) ∷ xs) calls = calls_with xs calls

-- The call that is next is behind: its values are in the local variables, and `err` is the reply's number (docs/machine.md,
-- "Replies").
pub record IsBehind (s : Script) (call : DceCall) (reply : Reply) (old new : Context) : Type 0 where
  pub spot : Spot
  pub here : place_in (remainder_of s old).items ≡ At spot
  pub acts : act_at spot ≡ Asks call
  pub to : remainder_of s new ≡ record (remainder_of s old) { items = stored_in (stores call reply) (passed spot); err = errno_of reply }
  pub setting : setting_of s new ≡ setting_of s old
  pub good : IsGood s new

-- The numbers of open scopes rise inward (docs/machine.md, "Handlers").
use Rattle.std.specs.Prelude.{ℕ, ◌+◌, ◌<◌, List, [], ◌∷◌, Option, Some, None, ⊤}
use Rattle.thr_remainder.specs.Remainders.{Item, Role, Calling, Trying, Catching, Finishing, Doing, Barrier, Remainder}

-- The scope of an item. A call has none.
abbrev pub scope_of : Role → Option ℕ
scope_of (Calling locals place) = None
scope_of (Trying scope ways) = Some scope
scope_of (Catching scope caught) = Some scope
scope_of (Finishing scope pending) = Some scope
scope_of (Doing scope block routine) = Some scope
scope_of (Barrier scope key routine) = Some scope

-- A scope, if one is there, has a number below this one (docs/machine.md, "Handlers").
abbrev pub IsBelow : ℕ → Option ℕ → Type 0
IsBelow n None = ⊤
IsBelow n (Some scope) = scope < n

-- The bound of what stands outside a scope.
abbrev pub bound : ℕ → Option ℕ → ℕ
bound n None = n
bound n (Some scope) = scope

-- The scopes of the items are below this number, and each is below those inside it.
abbrev pub AreScopes : ℕ → List Item → Type 0
AreScopes n [] = ⊤
AreScopes n (i ∷ items) = IsBelow n (scope_of i.role) × AreScopes (bound n (scope_of i.role)) items

-- The open scopes have numbers that were given, and they rise inward.
pub record HasScopes (r : Remainder) : Type 0 where
  pub open_scopes : AreScopes (r.scopes + 1) r.items

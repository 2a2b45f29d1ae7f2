-- In every history the open scopes of each thread are in order.
use Rattle.std.proofs.Common.{◌≡◌, ℕ, Some}
use Rattle.thr_syntax.specs.declared.tree.Script.{Script}
use Rattle.thr_remainder.specs.Remainders.{Remainder}
use Rattle.thr_remainder.specs.Scopes.{HasScopes}
use Rattle.thr_remainder.proofs.ScopeLaws.{scopes_are_kept}
use Rattle.thr_parts.specs.Tables.{get}
use Rattle.thr_model.specs.Histories.{Execution, History}
use Rattle.thr_model.proofs.RemaindersKept.{IsKeptByTurns, history_has}

in_order_by_turns : IsKeptByTurns (λ s. HasScopes)
in_order_by_turns = record { kept = scopes_are_kept; nothing = λ s. record { open_scopes = tt } }

pub scopes-in-order : {s : Script} {n : ℕ} {x : Execution} → History s n x → (t : ℕ) (r : Remainder) → get x.state.remainders t ≡ Some r → HasScopes r
scopes-in-order h = history_has (λ s. HasScopes) in_order_by_turns h

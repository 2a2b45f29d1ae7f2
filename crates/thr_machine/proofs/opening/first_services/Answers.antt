use Rattle.std.proofs.Common.{◌≡◌, ℤ, List, subst}
use Rattle.std.specs.Prelude.{IfOk}
use Rattle.thr_syntax.specs.declared.tree.Item.{Item}
use Rattle.thr_remainder.specs.Remainders.{Remainder}
use Rattle.thr_parts.specs.Tables.{Table}
use Rattle.thr_services.specs.Views.{state_with, opened}
use Rattle.thr_machine.proofs.opening.first_services.Goals as goal

pub returns : goal.returns
returns c =
    subst (λ (items : List Item). IfOk c.new.result (λ v. (remainders : Table Remainder) (shared : Table ℤ) → state_with v remainders shared ≡ opened items remainders shared)) c.as_slice.ensures c.new.ensures

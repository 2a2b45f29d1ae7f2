-- What threads owe, as the service and as the state have it.
use Rattle.std.proofs.Common.{◌≡◌, ℕ, Option, Some, None, is_some, refl, sym, ◌∙◌, ap}
use Rattle.std.specs.Option.{option_map}
use Rattle.thr_parts.specs.Tables.{Table, get, has}
use Rattle.thr_parts.proofs.TableLaws.{has_get}
use Rattle.thr_services.specs.declared.debt.Debt.{Debt}
use Rattle.thr_services.specs.Views.{as_owed, all_owed}
use Rattle.thr_services.proofs.DebtLaws.{get_owed, cut_owed}

some_owed : (o : Option Debt) → is_some (option_map as_owed o) ≡ is_some o
some_owed None = refl
some_owed (Some d) = refl

-- Whether a thread owes something.
pub has_owed : (debts : Table Debt) (t : ℕ) → has (all_owed debts) t ≡ has debts t
has_owed debts t = has_get (all_owed debts) t ∙ ap is_some (get_owed debts t) ∙ some_owed (get debts t) ∙ sym (has_get debts t)

pub ruleset owed_laws = (has_owed, get_owed, cut_owed)

use Rattle.std.proofs.Common.{◌≡◌, ap, rules}
use Rattle.thr_values.specs.declared.number.NameId.{NameId}
use Rattle.thr_shared.proofs.SharedLaws.{zeros-are}
use Rattle.thr_shared.proofs.shared.SharedVariables.none.Goals as goal

pub invariant_of-result : goal.invariant_of-result
invariant_of-result c = (search rules, λ name. rw (c.in-Ok.ensures.items_if_clones_equal, c.in_ok-declared.ensures) (zeros-are 1010 name))

-- The writers that wait at other pipes, as a filter.
use Rattle.std.proofs.Common.{◌≡◌, not, eqb, refl}
use Rattle.std.specs.List.{filter}
use Rattle.thr_values.specs.declared.number.NameId.{NameId}
use Rattle.thr_parts.specs.declared.pipe.Writing.{Writing}
use Rattle.thr_parts.specs.Tables.{Table}
use Rattle.thr_parts.specs.Closing.{writing_elsewhere}

pub elsewhere_is : (m : Table Writing) (p : NameId) → writing_elsewhere m p ≡ filter (λ e. not (eqb e.1.pipe.0 p.0)) m
unfolding writing_elsewhere
elsewhere_is m p = refl

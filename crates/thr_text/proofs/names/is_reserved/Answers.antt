use Rattle.std.proofs.Common.{refl}
use Rattle.thr_text.specs.Names.{is_reserved, reserved_words}
use Rattle.thr_text.proofs.GroupLaws.{is_reserved_told}
use Rattle.thr_text.proofs.names.is_reserved.Goals as goal

pub returns : goal.returns
unfolding is_reserved reserved_words
returns c = is_reserved_told _ _ _ _ _ c.is_in_group.ensures refl refl refl

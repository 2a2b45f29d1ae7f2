use Rattle.std.proofs.Common.{refl}
use Rattle.thr_values.specs.Words.{call_word}
use Rattle.thr_text.specs.Heads.{head_word, all_heads, head_in}
use Rattle.thr_text.proofs.HeadGroups.{head_told}
use Rattle.thr_text.proofs.head.Head.of.Goals as goal

pub returns : goal.returns
unfolding call_word head_word all_heads head_in
returns c = head_told _ _ _ c.find_by_length.ensures refl

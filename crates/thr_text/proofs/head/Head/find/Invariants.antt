use Rattle.std.proofs.Common.{◌≡◌, drop}
use Rattle.thr_text.specs.Heads.{head_in}
use Rattle.thr_text.proofs.head.Head.find.Given as goal

abbrev pub invariant-loop-head : goal.invariant-loop-head
invariant-loop-head l = head_in (drop l.head-index l.heads) l.text ≡ head_in l.heads l.text

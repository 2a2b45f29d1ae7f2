use Rattle.std.proofs.Common.{◌≡◌, ◌++◌, map, drop}
use Rattle.thr_text.specs.Slots.{slots_of}
use Rattle.thr_text.specs.Tables.{placed}
use Rattle.thr_naming.specs.Placing.{seen}
use Rattle.thr_naming.proofs.places.place.Given as goal

abbrev pub invariant-loop-word : goal.invariant-loop-word
invariant-loop-word l = map seen l.all.items ++ placed l.left (drop l.word-index l.words) ≡ placed (slots_of l.fn.head) l.words

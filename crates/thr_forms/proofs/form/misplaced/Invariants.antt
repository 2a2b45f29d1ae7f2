use Rattle.std.proofs.Common.{◌≡◌, ◌≤◌, ◌*◌, drop}
use Rattle.thr_text.specs.Slots.{misplaced}
use Rattle.thr_forms.specs.Pending.{pending}
use Rattle.thr_forms.proofs.form.misplaced.Given as goal

abbrev pub invariant-loop-word : goal.invariant-loop-word
invariant-loop-word l = record {
  same : misplaced (pending l.left) (drop l.word-index l.words) ≡ misplaced l.slots l.words;
  few : l.left.expressions ≤ 2 * l.word-index;
}

use Rattle.std.proofs.Common.{◌≡◌, true, ◌∙◌, ap, subst, sym}
use Rattle.thr_parts.specs.Tables.{Table, put}
use Rattle.thr_parts.specs.Rows.{most}
use Rattle.thr_tables.specs.Places.{has_place}
use Rattle.thr_frames.specs.Stacks.{StackView}
use Rattle.thr_machine.proofs.OpeningLaws.{first-place}
use Rattle.thr_machine.proofs.opening.first_stacks.Goals as goal

pub put-requires : goal.put-requires
put-requires c = record { room = subst (λ (m : Table StackView). has_place m 1 most ≡ true) (sym c.in_ok-stacks.ensures) first-place }

pub returns : goal.returns
returns c = record {
  first = c.in_ok-stack.stack;
  alone = c.put.ensures ∙ ap (λ (m : Table StackView). put m 1 c.in_ok-stack.stack) c.in_ok-stacks.ensures;
  begun = c.in_ok-stack.ensures;
}

use Rattle.std.proofs.Common.{sym, ◌∙◌}
use Rattle.thr_text.proofs.HeadLaws.{in_group_at}
use Rattle.thr_text.proofs.head.Head.find_by_length.Goals as goal

pub returns-then-text-groups : goal.returns-then-text-groups
returns-then-text-groups c = c.find.ensures ∙ sym (in_group_at c.args.groups.now (λ g. g.now) c.args.text.now _ c.if-text-groups.true)

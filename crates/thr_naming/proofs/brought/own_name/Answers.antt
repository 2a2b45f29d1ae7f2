use Rattle.std.proofs.Common.{ℕ, Option, sym, ap, ◌∙◌}
use Rattle.thr_naming.specs.Placing.{name_by}
use Rattle.thr_naming.proofs.LineLaws.{own_law}
use Rattle.thr_naming.proofs.brought.own_name.Goals as goal

pub returns-in-Some : goal.returns-in-Some
returns-in-Some c = sym (own_law c.args.line.now.1 c.head.result c.head.ensures.head ∙ ap (λ (o : Option ℕ). name_by o c.args.line.now.1) (sym c.own_place.ensures ∙ c.in-Some.is) ∙ sym c.name_at.ensures)

pub returns-in-None : goal.returns-in-None
returns-in-None c = sym (own_law c.args.line.now.1 c.head.result c.head.ensures.head ∙ ap (λ (o : Option ℕ). name_by o c.args.line.now.1) (sym c.own_place.ensures ∙ c.in-None.is))

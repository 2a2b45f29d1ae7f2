use Rattle.std.proofs.Common.{Option, Some, sym, ap, ◌∙◌, slice_get}
use Rattle.thr_text.specs.declared.object.Object as kinds
use Rattle.thr_naming.specs.Placing.{entry_by, name_at_place}
use Rattle.thr_naming.proofs.LineLaws.{declared_law}
use Rattle.thr_naming.proofs.brought.declared.Goals as goal

pub returns-in-Some : goal.returns-in-Some
returns-in-Some c =
    let law = declared_law c.args.line.now.1 c.head.result c.head.ensures.head in
    let kind = sym c.declared_kind.ensures ∙ c.in-Some.is in
    sym (law ∙ ap (λ (o : Option kinds.Object). entry_by o (name_at_place (slice_get c.args.line.now.1 1))) kind
    ∙ ap (entry_by (Some c.in-Some.kind)) (sym c.name_at.ensures) ∙ sym c.with_kind.ensures)

pub returns-in-None : goal.returns-in-None
returns-in-None c =
    let law = declared_law c.args.line.now.1 c.head.result c.head.ensures.head in
    sym (law ∙ ap (λ (o : Option kinds.Object). entry_by o (name_at_place (slice_get c.args.line.now.1 1))) (sym c.declared_kind.ensures ∙ c.in-None.is))

use Rattle.std.proofs.Common.{Bool, ◌∙◌, ap, sym, refl}
use Rattle.std.specs.Prelude.{◌&&◌}
use Rattle.thr_limits.specs.Walks.{is_body_short}
use Rattle.thr_limits.proofs.ShortLaws.{routine_parts}
use Rattle.thr_limits.proofs.limits.is_routine_short.Goals as goal

pub returns-then-is_head_short : goal.returns-then-is_head_short
returns-then-is_head_short c =
    let parts = routine_parts c.args.names.now c.as_slice.result.now c.args.routine.now c.as_slice-then-is_head_short.result.now c.is_head_short.result c.is_body_short.result
    c.as_slice.ensures c.as_slice-then-is_head_short.ensures c.is_head_short.ensures c.is_body_short.ensures in
    sym (parts ∙ ap (λ (b : Bool). b && c.is_body_short.result) c.if-is_head_short.true)

pub returns-else-is_head_short : goal.returns-else-is_head_short
returns-else-is_head_short c =
    let rest = is_body_short (record { names = c.args.names.now; locals = c.as_slice.result.now }) c.args.routine.now.body in
    let parts = routine_parts c.args.names.now c.as_slice.result.now c.args.routine.now c.args.routine.now.body c.is_head_short.result rest
    c.as_slice.ensures refl c.is_head_short.ensures refl in
    c.if-is_head_short.false ∙ sym (parts ∙ ap (λ (b : Bool). b && rest) c.if-is_head_short.false)

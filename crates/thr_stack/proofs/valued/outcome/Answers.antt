use Rattle.std.proofs.Common.{◌≡◌, ◌<◌, ◌∙◌, sym, length, rules}
use Rattle.thr_stack.specs.Forms.{needs_frame}
use Rattle.thr_stack.specs.Sights.{shared_of}
use Rattle.thr_stack.proofs.Outcomes.{outcome_full, outcome_room, outcome_plain}
use Rattle.thr_stack.proofs.valued.outcome.Goals.{else-needs_frame-via-then-needs_frame+else-is_full, else-needs_frame-via-else-needs_frame}
use Rattle.thr_stack.proofs.valued.outcome.Goals as goal

pub returns-then-is_full-clause-value : goal.returns-then-is_full-clause-value
returns-then-is_full-clause-value c =
    let full : length c.args.context.now.frames.items ≡ c.args.context.now.frames.size = search rules in
    outcome_full c.args.lines.now c.args.context.now (shared_of c.args.shared.now) (needs_frame c.args.form.now) c.args.e.now (sym c.needs_frame.ensures ∙ c.if-needs_frame.true) full

pub returns-clause-value : goal.returns-clause-value
returns-clause-value c =
    let s = c.args.lines.now in
    let k = c.args.context.now in
    c.value.ensures ∙ elim c.else-needs_frame.branch [
      | else-needs_frame-via-then-needs_frame+else-is_full w ↦
          let room : length k.frames.items < k.frames.size = search rules in
          outcome_room s k (shared_of c.args.shared.now) (needs_frame c.args.form.now) c.args.e.now (sym c.needs_frame.ensures ∙ w.if-needs_frame.true) room
      | else-needs_frame-via-else-needs_frame w ↦ outcome_plain s k (shared_of c.args.shared.now) (needs_frame c.args.form.now) c.args.e.now (sym c.needs_frame.ensures ∙ w.if-needs_frame.false)
    ]

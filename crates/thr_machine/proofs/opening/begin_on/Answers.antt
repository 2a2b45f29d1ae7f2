use Rattle.std.proofs.Common.{◌≡◌, ◌<◌, ◌∙◌, ap, subst, sym}
use Rattle.std.proofs.lemmas.Int.{to_z-of_z}
use mir.Syntax.{w64}
use Rattle.thr_remainder.specs.Remainders.{Setting}
use Rattle.thr_remainder.specs.Starts.{fresh}
use Rattle.thr_frames.specs.Stacks.{setting_of}
use Rattle.thr_machine.proofs.opening.begin_on.Goals as goal

pub start-requires-clause-room : goal.start-requires-clause-room
start-requires-clause-room c =
    let is : setting_of c.args.lines.now c.set_me.new.self ≡ record { script = c.args.lines.now; me = c.args.u.0; size = c.args.size } =
    c.set_me.ensures.setting c.args.lines.now ∙ ap (λ (g : Setting). record g { me = c.args.u.0 }) (c.set_size.ensures.setting c.args.lines.now) in
    subst (λ (g : Setting). 0 < g.size) (sym is) c.requires.some

pub returns : goal.returns
returns c =
    let is : setting_of c.args.lines.now c.set_me.new.self ≡ record { script = c.args.lines.now; me = c.args.u.0; size = c.args.size } =
    c.set_me.ensures.setting c.args.lines.now ∙ ap (λ (g : Setting). record g { me = c.args.u.0 }) (c.set_size.ensures.setting c.args.lines.now) in
    record { stack = c.start.ensures.stack; begins = c.start.ensures.fresh ∙ ap (fresh c.args.lines.now c.args.routine) (to_z-of_z w64 c.args.arg c.ranges.arg); setting = c.start.ensures.setting ∙ is }

use Rattle.std.proofs.Common.{◌∙◌, ap}
use Rattle.thr_parts.specs.Pipes.{Pipe, has_room}
use Rattle.thr_pipes.proofs.PipeLaws.{pipe_there, no_pipe_there}
use Rattle.thr_pipes.proofs.pipes.Pipes.has_room.Goals as goal

pub returns-in-None : goal.returns-in-None
returns-in-None c =
    ap (λ (x : Pipe). has_room x) (no_pipe_there c.self.inside.pipes c.self.inside.writing c.args.self.now c.args.p c.self.view_is c.in-None.ensures.value)

pub returns-in-Some : goal.returns-in-Some
returns-in-Some c =
    c.has_room.ensures
    ∙ ap (λ (x : Pipe). has_room x) (pipe_there c.self.inside.pipes c.self.inside.writing c.args.self.now c.args.p c.in-Some.pipe.now c.self.view_is c.in-Some.ensures.value)

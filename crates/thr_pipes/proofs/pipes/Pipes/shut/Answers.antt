use Rattle.std.proofs.Common.{◌∙◌, ap}
use Rattle.thr_parts.specs.Pipes.{Pipe}
use Rattle.thr_parts.specs.Closing.{as_closed}
use Rattle.thr_pipes.proofs.PipeLaws.{no_pipe_there, put_back}
use Rattle.thr_pipes.proofs.pipes.Pipes.shut.Goals as goal

pub returns-in-None : goal.returns-in-None
returns-in-None c =
    absurd (cc (ap (λ (x : Pipe). x.is_open) (no_pipe_there c.self.inside.pipes c.self.inside.writing c.args.self.now c.args.p c.self.view_is c.in-None.ensures.value) ∙ c.requires.open))

pub returns-in-Some : goal.returns-in-Some
returns-in-Some c =
    put_back c.self.inside.pipes c.take.new.self c.put.new.self c.self.inside.writing c.args.self.now c.args.p c.in-Some.pipe c.close.new.self (λ x. as_closed x) c.self.view_is c.in-Some.ensures.value
    c.in-Some.ensures.back c.close.ensures c.put.ensures

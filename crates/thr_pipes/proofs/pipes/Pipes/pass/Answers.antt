use Rattle.std.proofs.Common.{◌∙◌, ap, ◌++◌}
use Rattle.thr_parts.specs.Replies.{is_value}
use Rattle.thr_parts.specs.Pipes.{Pipe, with_items, behind, read_reply}
use Rattle.thr_pipes.specs.Entering.{entering}
use Rattle.thr_pipes.proofs.PipeLaws.{pipe_there, no_pipe_there, put_back}
use Rattle.thr_pipes.proofs.pipes.Pipes.pass.Goals as goal

pub pass-requires : goal.pass-requires
pass-requires c = record {
  front = ap (λ (x : Pipe). is_value (read_reply x.items x.is_open))
      (pipe_there c.self.inside.pipes c.self.inside.writing c.args.self.now c.args.p c.in-Some.pipe c.self.view_is c.in-Some.ensures.value)
      ∙ c.requires.front;
}

pub returns-in-None : goal.returns-in-None
returns-in-None c =
    absurd (cc (ap (λ (x : Pipe). is_value (read_reply x.items x.is_open))
    (no_pipe_there c.self.inside.pipes c.self.inside.writing c.args.self.now c.args.p c.self.view_is c.in-None.ensures.value)
    ∙ c.requires.front))

pub returns-in-Some : goal.returns-in-Some
returns-in-Some c =
    put_back c.self.inside.pipes c.take.new.self c.put.new.self c.self.inside.writing c.args.self.now c.args.p c.in-Some.pipe c.pass.new.self
    (λ x. with_items x (behind x.items ++ entering c.args.item)) c.self.view_is c.in-Some.ensures.value c.in-Some.ensures.back c.pass.ensures c.put.ensures

use Rattle.std.proofs.Common.{◌∙◌, ap, ◌++◌, ◌∷◌, [], ℤ, w64}
use Rattle.std.proofs.lemmas.Int.{to_z-of_z}
use Rattle.thr_parts.specs.Pipes.{Pipe, has_room, with_items}
use Rattle.thr_pipes.proofs.PipeLaws.{pipe_there, no_pipe_there, put_back}
use Rattle.thr_pipes.proofs.pipes.Pipes.enter.Goals as goal

pub enter-requires : goal.enter-requires
enter-requires c = record {
  room = ap (λ (x : Pipe). has_room x) (pipe_there c.self.inside.pipes c.self.inside.writing c.args.self.now c.args.p c.in-Some.pipe c.self.view_is c.in-Some.ensures.value) ∙ c.requires.room;
}

pub returns-in-None : goal.returns-in-None
returns-in-None c =
    absurd (cc (ap (λ (x : Pipe). has_room x) (no_pipe_there c.self.inside.pipes c.self.inside.writing c.args.self.now c.args.p c.self.view_is c.in-None.ensures.value) ∙ c.requires.room))

pub returns-in-Some : goal.returns-in-Some
returns-in-Some c =
    put_back c.self.inside.pipes c.take.new.self c.put.new.self c.self.inside.writing c.args.self.now c.args.p c.in-Some.pipe c.enter.new.self
    (λ x. with_items x (x.items ++ c.args.item ∷ [])) c.self.view_is c.in-Some.ensures.value c.in-Some.ensures.back
    (c.enter.ensures ∙ ap (λ (v : ℤ). with_items c.in-Some.pipe (c.in-Some.pipe.items ++ v ∷ [])) (to_z-of_z w64 c.args.item c.ranges.item)) c.put.ensures

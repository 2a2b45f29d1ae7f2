use Rattle.std.proofs.Common.{ℤ, [], ◌∷◌, ◌++◌, ◌∙◌, ap, to_z, of_z, w64}
use Rattle.std.proofs.lemmas.Int.{to_z-of_z}
use Rattle.thr_values.specs.declared.history.What.TheVariants as what
use Rattle.thr_model.specs.Turns.{thread_line}
use Rattle.thr_turns.proofs.OwedLaws.{owers-next, arrival-next}
use Rattle.thr_turns.proofs.EndLaws.{destructor-step, end-step}
use Rattle.thr_turns.proofs.ends.end_thread.Goals as goal

pub end-requires-clause-arrival : goal.end-requires-clause-arrival
end-requires-clause-arrival c = arrival-next c.args.workings.now.services c.next_destructor.new.self c.args.t c.in-None.ensures.state c.requires.arrival

pub end-requires-clause-owers : goal.end-requires-clause-owers
end-requires-clause-owers c = owers-next c.args.workings.now.services c.next_destructor.new.self c.args.t c.in-None.ensures.state c.requires.owers

pub returns-in-Some-clause-steps : goal.returns-in-Some-clause-steps
returns-in-Some-clause-steps c =
    destructor-step c.args.lines.now c.args.t c.args.workings.now.services _ _ c.args.stack.now _ _ _ _ c.in-Some.ensures.state c.in-Some.ensures.call c.begin_destructor.ensures.moved

pub returns-in-None-clause-steps : goal.returns-in-None-clause-steps
returns-in-None-clause-steps c =
    end-step c.args.lines.now c.args.t c.args.workings.now.services c.next_destructor.new.self c.end.new.self c.args.workings.now.shared c.args.stack.now _ _ _ c.args.value (to_z w64 (of_z w64 c.args.value))
    c.in-None.ensures.state c.in-None.ensures.call (to_z-of_z w64 c.args.value c.ranges.value) c.end.ensures c.requires.value
    (c.write.ensures.items ∙ ap (λ (n : ℤ). c.args.workings.now.entries.items ++ thread_line c.args.t (what.End n) ∷ []) (to_z-of_z w64 c.args.value c.ranges.value))
    c.clear.ensures.no_frame (c.clear.ensures.stack c.args.lines.now) (c.clear.ensures.setting c.args.lines.now)

use Rattle.thr_turns.proofs.ReadyLaws.{sound-now, seats-now, destructors-now, blocks-now, running-room, owed-makes, free-makes}
use Rattle.thr_turns.proofs.turns.make.Goals as goal

pub make_debt-requires-clause-running : goal.make_debt-requires-clause-running
make_debt-requires-clause-running c = running-room c.args.lines.now c.args.workings.now.services c.args.stack.now c.args.t _ c.requires.ready c.in-Some.ensures.debt

pub run-requires-clause-sound : goal.run-requires-clause-sound
run-requires-clause-sound c = sound-now c.args.lines.now c.args.workings.now.services c.take_debt.new.self c.args.stack.now c.args.t c.requires.ready c.in-None.ensures.state c.in-None.ensures.room

pub run-requires-clause-seats : goal.run-requires-clause-seats
run-requires-clause-seats c = seats-now c.args.lines.now c.args.workings.now.services c.take_debt.new.self c.args.stack.now c.args.t c.requires.ready c.in-None.ensures.state

pub run-requires-clause-destructors : goal.run-requires-clause-destructors
run-requires-clause-destructors c = destructors-now c.args.lines.now c.args.workings.now.services c.take_debt.new.self c.args.stack.now c.args.t c.requires.ready c.in-None.ensures.state

pub run-requires-clause-blocks : goal.run-requires-clause-blocks
run-requires-clause-blocks c = blocks-now c.args.lines.now c.args.workings.now.services c.take_debt.new.self c.args.stack.now c.args.t c.requires.ready c.in-None.ensures.state

pub returns-in-Some : goal.returns-in-Some
returns-in-Some c =
    let kept = c.make_debt.ensures.keeps in
    owed-makes c.args.lines.now c.args.t c.args.workings.now _ _ c.args.stack.now _ _ c.requires.setting c.in-Some.ensures.state c.in-Some.ensures.debt
    (record { few = kept.few; capacity = kept.capacity; interface = kept.interface }) c.make_debt.ensures.steps

pub returns-in-None : goal.returns-in-None
returns-in-None c =
    let kept = c.run.ensures.keeps in
    free-makes c.args.lines.now c.args.t c.args.workings.now _ _ c.args.stack.now _ _ c.requires.setting c.in-None.ensures.state c.in-None.ensures.debt
    (record { few = kept.few; capacity = kept.capacity; interface = kept.interface }) c.run.ensures.steps

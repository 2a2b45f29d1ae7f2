use Rattle.std.proofs.Common.{◌≡◌, ◌<◌, length, rules}
use Rattle.thr_stack.proofs.Statements.{enters_full, enters}
use Rattle.thr_stack.proofs.statement.enter_try.Goals as goal

pub returns-then-is_full : goal.returns-then-is_full
returns-then-is_full c =
    let full : length c.args.context.now.frames.items ≡ c.args.context.now.frames.size = search rules in
    enters_full c.args.lines.now c.args.context.now c.requires.ready.stands c.args.notes.now c.args.row.now c.requires.at _ _ full (c.raise.ensures _ c.requires.ready.stands.good)

pub returns : goal.returns
returns c =
    let room : length c.args.context.now.frames.items < c.args.context.now.frames.size = search rules in
    enters c.args.lines.now c.args.context.now c.requires.ready.stands c.args.notes.now c.args.row.now c.requires.at _ _ _ _ room c.in-Some-Some.is-0 c.in-Some-Some.is-1 c.push.ensures c.push-in-Some-Some.ensures

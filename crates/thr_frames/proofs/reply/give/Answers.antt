use Rattle.std.proofs.Common.{◌≡◌, ◌≢◌, ◌∙◌, [], ap, sym, subst, refl, rules}
use Rattle.thr_lines.specs.declared.row.Row.{Row}
use Rattle.thr_remainder.specs.Remainders.{Remainder, place_in}
use Rattle.thr_remainder.specs.Replies.{replied}
use Rattle.thr_stack.specs.Standing.{IsPlace, remainder_of}
use Rattle.thr_frames.specs.Replies.{stores_at, first_store, second_store}
use Rattle.thr_frames.proofs.StackLaws.{nowhere_asks, none_asked}
use Rattle.thr_frames.proofs.ReplyLaws.{gives_nothing, stores_nothing, writes_are}
use Rattle.thr_frames.proofs.StackLaws.{made_from}
use Rattle.thr_frames.proofs.reply.give.Goals as goal

pub returns-then-is_empty-clause-replied : goal.returns-then-is_empty-clause-replied
returns-then-is_empty-clause-replied c =
    let s = c.args.lines.now in
    let k = c.args.context.now in gives_nothing s k c.args.reply.now c.args.notes.now c.requires.good (nowhere_asks s k (c.if-is_empty.ensures.0 refl))

pub returns-then-is_empty-clause-writes : goal.returns-then-is_empty-clause-writes
returns-then-is_empty-clause-writes c =
    let s = c.args.lines.now in
    let k = c.args.context.now in
    let r = remainder_of s k in
    let reply = c.args.reply.now in
    c.shared_writes.ensures.writes ∙ writes_are r reply [] (stores_nothing (place_in r.items) reply (nowhere_asks s k (c.if-is_empty.ensures.0 refl)))

pub returns-in_default : goal.returns-in_default
returns-in_default c =
    let s = c.args.lines.now in
    let old = c.args.context.now in
    let k = c.go_to_step.new.context in
    let reply = c.args.reply.now in
    let notes = c.args.notes.now in
    let at = c.go_to_step.ensures in
    let some : k.frames.items ≢ [] = search rules in
    let row = c.row.result.now in
    let none = none_asked s k some row row.form c.row.ensures.at (subst (λ (x : Row). IsPlace s k.line x.form) (sym c.row.ensures.row) (at.line some).place) c.in_default.not-Dce in
    let same : stores_at (place_in (remainder_of s old).items) reply ≡ [] =
    ap (λ (r : Remainder). stores_at (place_in r.items) reply) (sym at.to) ∙ stores_nothing (place_in (remainder_of s k).items) reply none in
    record {
      replied = made_from s old k k notes notes at (λ g r. replied g reply r) (gives_nothing s k reply notes at.good none);
      first = c.shared_writes-in_default.ensures.first ∙ sym (ap first_store same);
      second = c.shared_writes-in_default.ensures.second ∙ sym (ap second_store same);
      writes = c.shared_writes-in_default.ensures.writes ∙ writes_are (remainder_of s old) reply [] same;
    }

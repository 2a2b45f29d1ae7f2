use Rattle.std.proofs.Common.{◌≡◌, ◌∙◌, List, Some, ap, sym, subst}
use Rattle.thr_values.specs.declared.history.What.{What}
use Rattle.thr_syntax.specs.declared.tree.Interface.{Interface}
use Rattle.thr_remainder.specs.Declarations.{interface_of}
use Rattle.thr_remainder.specs.Replies.{raised_by, replied}
use Rattle.thr_stack.specs.declared.context.Context.{Context}
use Rattle.thr_stack.specs.Standing.{Makes, remainder_of, setting_of}
use Rattle.thr_frames.specs.Replies.{listed_stores}
use Rattle.thr_frames.proofs.ReplyLaws.{gives, gives_quietly, stores_are, writes_are}
use Rattle.thr_frames.proofs.reply.give_here.Goals.{in-Some, in_default}
use Rattle.thr_frames.proofs.reply.give_here.Goals as goal

pub returns-clause-replied : goal.returns-clause-replied
returns-clause-replied c =
    let s = c.args.lines.now in
    let k = c.args.context.now in
    let mid = c.go_past.new.context in
    let call = c.args.call.now in
    let reply = c.args.reply.now in
    let before = c.args.notes.now in
    let h = c.go_past.ensures in
    let raised_is : raised_by (interface_of s) call reply ≡ c.raised.result = ap (λ (i : Interface). raised_by i call reply) (sym c.requires.interface) ∙ sym c.raised.ensures in
    let move = replied (setting_of s k) reply (remainder_of s k) in
    elim c.match-raised.branch [
      | in-Some w ↦
          let made = gives s k mid call reply h w.raise.new.context before w.raise.new.notes (Some w.in-Some.x) (raised_is ∙ w.in-Some.is) (w.raise.ensures s h.good) in
          subst (λ (x : Context). Makes s move k x before c.match-raised.notes) (sym w.context-is)
          (subst (λ (n : List What). Makes s move k w.raise.new.context before n) (sym w.notes-is) made)
      | in_default w ↦
          let made = gives_quietly s k mid call reply h before (raised_is ∙ w.in_default.is) in
          subst (λ (x : Context). Makes s move k x before c.match-raised.notes) (sym w.context-is)
          (subst (λ (n : List What). Makes s move k mid before n) (sym w.notes-is) made)
    ]

pub returns-clause-writes : goal.returns-clause-writes
returns-clause-writes c =
    let s = c.args.lines.now in
    let k = c.args.context.now in
    let reply = c.args.reply.now in
    c.shared_writes.ensures.writes
    ∙ writes_are (remainder_of s k) reply (listed_stores c.stores-stores.result) (stores_are s k c.go_past.new.context c.args.call.now reply c.go_past.ensures ∙ sym c.stores-stores.ensures)

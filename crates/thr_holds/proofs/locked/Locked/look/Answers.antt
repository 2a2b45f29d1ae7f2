use Rattle.std.proofs.Common.{refl}
use Rattle.thr_holds.specs.declared.locked.Found.TheVariants as found
use Rattle.thr_holds.proofs.Holds.{Looked, over, thread, changed, nothing, over-just, thread-just, changed-just, nothing-just, moved, stayed, some-by-test, none-by-test}
use Rattle.thr_holds.proofs.locked.Locked.look.Goals as goal

pub returns-then-not-opens : goal.returns-then-not-opens
returns-then-not-opens g c =
    let h : Looked c.args.p c.args.self.now.book c.opens.new.self.book c.opens.new.self.no_memory found.Over =
    over (c.if-not-opens.ensures.left refl) in
    record { over = over-just _ _ _ _ _ h; thread = thread-just _ _ _ _ _ h; changed = changed-just _ _ _ _ _ h; nothing = nothing-just _ _ _ _ _ h }

pub returns-then-is_some : goal.returns-then-is_some
returns-then-is_some g c =
    let h : Looked c.args.p c.args.self.now.book c.opens.new.self.book c.opens.new.self.no_memory found.Thread =
    thread (record {
      goes = c.if-not-opens.ensures.goes refl;
      memory = c.if-not-opens.ensures.memory refl;
      runs = some-by-test _ _ c.running.ensures c.if-is_some.ensures;
    }) in
    record { over = over-just _ _ _ _ _ h; thread = thread-just _ _ _ _ _ h; changed = changed-just _ _ _ _ _ h; nothing = nothing-just _ _ _ _ _ h }

pub returns-then-move_on : goal.returns-then-move_on
returns-then-move_on g c =
    let h : Looked c.args.p c.args.self.now.book c.move_on.new.self.book c.move_on.new.self.no_memory found.Changed =
    changed (moved c.args.p c.args.self.now.book c.opens.new.self.book c.move_on.new.self.book (c.if-not-opens.ensures.goes refl) (c.if-move_on.ensures.moves refl)) in
    record { over = over-just _ _ _ _ _ h; thread = thread-just _ _ _ _ _ h; changed = changed-just _ _ _ _ _ h; nothing = nothing-just _ _ _ _ _ h }

pub returns : goal.returns
returns g c =
    let h : Looked c.args.p c.args.self.now.book c.move_on.new.self.book c.move_on.new.self.no_memory found.Nothing =
    let still = c.if-move_on.ensures.still refl in
    nothing (stayed c.args.p c.args.self.now.book c.opens.new.self.book c.move_on.new.self.book c.opens.new.self.no_memory c.move_on.new.self.no_memory
    (c.if-not-opens.ensures.goes refl) (c.if-not-opens.ensures.memory refl) (none-by-test _ _ c.running.ensures c.if-is_some.ensures) still.0 still.1 c.move_on.ensures.memory) in
    record { over = over-just _ _ _ _ _ h; thread = thread-just _ _ _ _ _ h; changed = changed-just _ _ _ _ _ h; nothing = nothing-just _ _ _ _ _ h }

-- What a table of stacks ends as, where one of them is lent (docs/machine.md, "Tables").
use Rattle.std.specs.Prelude.{ℕ, Option}
use Rattle.std.specs.Borrow.{Fml, MutBor, LendsIf}
use Rattle.thr_parts.specs.Tables.{Table, put}
use Rattle.thr_frames.specs.Stacks.{StackView}
use Rattle.thr_frames.specs.contracts.stack.Stack as stack
use Rattle.thr_stacks.specs.contracts.stacks.Stacks.{the_row}

-- At the end of the loan the thread has the stack that was last behind it; where none was lent the table stays (docs/machine.md,
-- "Tables").
abbrev pub lends_stack : MutBor (Table StackView) → ℕ → Option (MutBor StackView) → Fml
lends_stack stacks t r = LendsIf the_row stack.the_row stacks r (put stacks.now t) stacks.now

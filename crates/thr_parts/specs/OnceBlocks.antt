-- Once blocks (docs/machine.md, "Once blocks").
use Rattle.std.specs.Prelude.{ℕ, ◌==◌, Bool, if◌then◌else◌, is_none, Option, Some, None}
use Rattle.thr_values.specs.declared.number.Tid.{Tid}
use Rattle.thr_values.specs.declared.number.NameId.{NameId}
use Rattle.thr_values.specs.declared.reply.Reply.{Reply}
use Rattle.thr_values.specs.declared.reply.Reply.TheVariants as reply
use Rattle.thr_parts.specs.declared.once.OnceBlock.{OnceBlock}
use Rattle.thr_parts.specs.declared.once.OnceBlock.TheVariants as block
use Rattle.thr_parts.specs.declared.row.RowId.TheVariants as row
use Rattle.thr_parts.specs.Tables.{Table, get, put, put_if, cut, keep_if}
use Rattle.thr_parts.specs.Replies.{is_blocks}
use Rattle.thr_parts.specs.Keys.{Onces}
use Rattle.thr_parts.specs.Rows.{Rows, best}
use Rattle.thr_parts.specs.Moves.{block_if, take_out_if}

-- The same keys with these once blocks.
abbrev pub with_blocks : Onces → Table OnceBlock → Onces
with_blocks os blocks = record { blocks = blocks; keys = os.keys }

-- A reply, once blocks and rows after it, and whether the caller is to run the routine (docs/machine.md, "Once blocks").
pub record Entered : Type 0 where
  pub reply : Reply
  pub onces : Onces
  pub rows : Rows
  pub runs : Bool

-- What entering a once block replies. One that isn't there is not run yet (docs/machine.md, "Once blocks").
abbrev pub enter_reply : Option OnceBlock → Tid → Reply
enter_reply None t = reply.Done
enter_reply (Some block.Done) t = reply.Done
enter_reply (Some (block.Running u)) t = if u.0 == t.0 then reply.Edeadlk else reply.Blocks

-- A thread enters a once block (docs/machine.md, "Once blocks").
abbrev pub enter : Onces → Rows → NameId → Tid → ℕ → Entered
enter os rs o t rank =
    let found : Option OnceBlock = get os.blocks o.0 in record {
      reply = enter_reply found t;
      onces = with_blocks os (put_if os.blocks o.0 (keep_if (is_none found) (Some (block.Running t))));
      rows = block_if (is_blocks (enter_reply found t)) rs (row.Once o) t rank;
      runs = is_none found;
    }

-- The routine has ended. Those that wait for the block become ready after it (docs/machine.md, "Once blocks").
abbrev pub done : Onces → NameId → Onces
done os o = with_blocks os (put os.blocks o.0 block.Done)

-- The blocks with this one run by the thread that is there, and else not run.
abbrev pub blocks_undone : Table OnceBlock → NameId → Option Tid → Table OnceBlock
blocks_undone blocks o None = cut blocks o.0
blocks_undone blocks o (Some t) = put blocks o.0 (block.Running t)

-- Once blocks and rows after a routine was unwound, and the thread that holds the block now, taken out of its row
-- (docs/machine.md, "Once blocks").
pub record Undone : Type 0 where
  pub onces : Onces
  pub rows : Rows
  pub runner : Option Tid

-- The routine was unwound: the best waiter holds the block, and without one it is as not run (docs/machine.md, "Once
-- blocks").
abbrev pub undone : Onces → Rows → NameId → Undone
undone os rs o =
    let next : Option Tid = best rs (row.Once o) in record {
      onces = with_blocks os (blocks_undone os.blocks o next);
      rows = take_out_if rs next;
      runner = next;
    }

use Rattle.std.proofs.Common.{◌+◌, arith, Some, None}
use Rattle.thr_lines.proofs.Builds.{as_many}
use Rattle.thr_lines.proofs.build.close_try.Goals as goal

pub close_at-requires : goal.close_at-requires
close_at-requires c =
    omega (arith, c.requires.place, as_many c.args.rows.now c.set_after.new.rows c.args.half (c.args.half + 1) c.args.clauses.now None _ c.requires.made c.set_after.ensures)

use Rattle.std.proofs.Common.{◌≤◌, ◌+◌, ◌++◌, length, take, arith}
use Rattle.std.proofs.KnownBytes.{Consumes-trans}
use Rattle.std.proofs.lemmas.Grind.{common_steps}
use Rattle.thr_wire.proofs.Pieces.{taken-at-most, taken-no-more, piece-length}
use Rattle.thr_wire.proofs.whole.read_all.Goals as goal

pub returns-then-n-room-clause-at_most : goal.returns-then-n-room-clause-at_most
returns-then-n-room-clause-at_most g c =
    let n : length c.loop.bytes.items + c.in-Ok.n ≤ c.args.max + 1 = grind (arith, common_steps) in
    taken-at-most (c.args.max + 1) (g.S.Source.left c.args.source.now) (g.S.Source.left c.read.new.self) (c.loop.bytes.items ++ take c.in-Ok.n c.read.new.buf)
    (Consumes-trans _ (g.S.Source.left c.loop.source) _ _ _ c.loop.invariant.taken c.in-Ok.ensures.bytes.0) (piece-length c.loop.bytes.items c.read.new.buf c.in-Ok.n (c.args.max + 1) n)

pub returns-then-is_err-clause-only_long : goal.returns-then-is_err-clause-only_long
returns-then-is_err-clause-only_long g c =
    let n : length c.loop.bytes.items + c.in-Ok.n ≤ c.args.max = grind (arith, common_steps) in
    taken-no-more _ c.args.max (g.S.Source.left c.args.source.now) (g.S.Source.left c.read.new.self) (c.loop.bytes.items ++ take c.in-Ok.n c.read.new.buf)
    (Consumes-trans _ (g.S.Source.left c.loop.source) _ _ _ c.loop.invariant.taken c.in-Ok.ensures.bytes.0) (piece-length c.loop.bytes.items c.read.new.buf c.in-Ok.n c.args.max n)

pub returns-then-is_err-clause-at_most : goal.returns-then-is_err-clause-at_most
returns-then-is_err-clause-at_most g c =
    let n : length c.loop.bytes.items + c.in-Ok.n ≤ c.args.max + 1 = grind (arith, common_steps) in
    taken-at-most (c.args.max + 1) (g.S.Source.left c.args.source.now) (g.S.Source.left c.read.new.self) (c.loop.bytes.items ++ take c.in-Ok.n c.read.new.buf)
    (Consumes-trans _ (g.S.Source.left c.loop.source) _ _ _ c.loop.invariant.taken c.in-Ok.ensures.bytes.0) (piece-length c.loop.bytes.items c.read.new.buf c.in-Ok.n (c.args.max + 1) n)

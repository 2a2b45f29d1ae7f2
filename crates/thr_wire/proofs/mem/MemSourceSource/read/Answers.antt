use Rattle.std.proofs.Common.{sym, ◌∙◌, ap, arith}
use Rattle.std.proofs.lemmas.Grind.{common_steps}
use Rattle.thr_wire.specs.Devices.{MemSourceDevice}
use Rattle.thr_wire.proofs.Pieces.{piece-taken, none-left}
use Rattle.thr_wire.proofs.mem.MemSourceSource.read.Goals as goal

pub returns-clause-bytes : goal.returns-clause-bytes
returns-clause-bytes c =
    (ap (λ (d : MemSourceDevice). d.bytes) (sym c.self.view_is) ∙ piece-taken c.self.inside.bytes.items c.args.buf.now c.copy_from_slice.new.self c.self.inside.at c.min-n.result (grind (arith, common_steps)) (grind (arith, common_steps)), λ e h. grind (arith, common_steps, none-left))

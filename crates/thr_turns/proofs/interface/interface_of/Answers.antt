use Rattle.std.proofs.Common.{◌∙◌, ap}
use Rattle.thr_remainder.specs.Declarations.{interface_in}
use Rattle.thr_turns.proofs.ReplyLaws.{interface-is}
use Rattle.thr_turns.proofs.interface.interface_of.Goals as goal

pub returns : goal.returns
returns c = c.interface_in.ensures ∙ ap interface_in c.as_slice.ensures ∙ interface-is c.args.script.now

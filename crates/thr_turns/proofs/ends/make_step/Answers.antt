use Rattle.thr_turns.proofs.StoreLaws.{set-fits}
use Rattle.thr_turns.proofs.ends.make_step.Goals as goal

pub put-requires : goal.put-requires
put-requires c =
    let s = c.args.lines.now in record {
      fit = set-fits s c.shared_step-written.result (c.names_are_of_their_kinds.ensures.line s c.requires.formed) (c.lines_and_names_are_few.ensures.below s c.requires.formed) (c.lines_and_names_are_few.ensures.names s c.requires.formed) c.shared_step-written.ensures.set;
    }

use Rattle.thr_counts.proofs.StackSizes.{stack_sizes}
use Rattle.thr_counts.proofs.Settings.{setting_stays}
use Rattle.thr_counts.proofs.laws.stacks_keep_their_size.Goals as goal

pub returns-clause-frames : goal.returns-clause-frames
returns-clause-frames c = stack_sizes

pub returns-clause-settings : goal.returns-clause-settings
returns-clause-settings c = setting_stays

-- The words that a definition of remainders unfolds to compute.
use Rattle.thr_syntax.specs.declared.tree.Stmt.{out-Stmt}
use Rattle.thr_syntax.specs.Computing.{tree_words}
use Rattle.thr_syntax.specs.Folds.{each_expr, each_stmt}
use Rattle.thr_remainder.specs.Places.{size, body_size}
use Rattle.thr_remainder.specs.Acts.{act_of}
use Rattle.thr_remainder.specs.Declarations.{interface_of, exception_of, routine_of}
use Rattle.thr_remainder.specs.Expressions.{value_in}
use Rattle.thr_remainder.specs.Calls.{shape_of, stores}
use Rattle.thr_remainder.specs.Steps.{quiet, shared_step, written}
use Rattle.thr_remainder.specs.Outward.{outward}
use Rattle.thr_remainder.specs.Replies.{asked, replied, writes}
use Rattle.thr_remainder.specs.Next.{next}
use Rattle.thr_remainder.specs.Runs.{run_of}
use Rattle.thr_remainder.specs.Alone.{tale}

unfoldable pub remainder_words : Unit {0}
unfolding tree_words each_expr each_stmt out-Stmt denote.Hole.Carrier.out size body_size act_of interface_of exception_of routine_of value_in shape_of stores quiet shared_step written outward asked replied writes next run_of tale
remainder_words = tt

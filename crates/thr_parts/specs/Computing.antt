-- The words that a definition of the parts unfolds to compute.
use Rattle.thr_parts.specs.Tables.{none, get, at, has, put, cut, present}
use Rattle.thr_parts.specs.Rows.{best_of, placed, in_order, standing}
use Rattle.thr_parts.specs.Moves.{make_all_ready}
use Rattle.thr_parts.specs.Dispatch.{running}
use Rattle.thr_parts.specs.Waking.{wake_all}
use Rattle.thr_parts.specs.Expiry.{earliest_in, due}
use Rattle.thr_parts.specs.Keys.{first_call}
use Rattle.thr_parts.specs.Pipes.{declared_pipes}
use Rattle.thr_parts.specs.Closing.{writing_elsewhere}

unfoldable pub parts_words : Unit {0}
unfolding none get at has put cut present best_of placed in_order standing make_all_ready running earliest_in due wake_all first_call declared_pipes writing_elsewhere
parts_words = tt

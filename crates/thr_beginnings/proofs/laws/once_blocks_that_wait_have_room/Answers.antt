use Rattle.thr_beginnings.proofs.Room.{runners_have_room}
use Rattle.thr_beginnings.proofs.laws.once_blocks_that_wait_have_room.Goals as goal

pub returns : goal.returns
returns c = runners_have_room

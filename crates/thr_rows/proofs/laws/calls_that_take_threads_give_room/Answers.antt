use Rattle.thr_rows.proofs.RoomLaws.{room_of_timedwait, room_of_undone, room_of_write, room_of_pull_out}
use Rattle.thr_rows.proofs.laws.calls_that_take_threads_give_room.Goals as goal

pub returns-clause-timedwait : goal.returns-clause-timedwait
returns-clause-timedwait c = room_of_timedwait

pub returns-clause-undone : goal.returns-clause-undone
returns-clause-undone c = room_of_undone

pub returns-clause-write : goal.returns-clause-write
returns-clause-write c = room_of_write

pub returns-clause-pull_out : goal.returns-clause-pull_out
returns-clause-pull_out c = room_of_pull_out

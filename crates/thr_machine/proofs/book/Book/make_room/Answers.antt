use Rattle.thr_machine.proofs.Rooms.{kept-room, room-only, room-same, on-err}
use Rattle.thr_machine.proofs.book.Book.make_room.Goals as goal

pub invariant_of-self : goal.invariant_of-self
invariant_of-self c =
    kept-room c.self.inside c.take_memory.new.workings c.take_memory.new.spare
    (record {
      items = c.take_memory.ensures.items;
      len = c.take_memory.ensures.len;
      shared = c.take_memory.ensures.shared;
      interface = c.take_memory.ensures.interface;
      services = c.take_memory.ensures.same;
    }) c.take_memory.ensures.kept c.self.invariant

pub returns-clause-same : goal.returns-clause-same
returns-clause-same c =
    room-only c.self.inside c.args.self.now c.take_memory.new.workings c.take_memory.new.spare
    (record {
      items = c.take_memory.ensures.items;
      len = c.take_memory.ensures.len;
      shared = c.take_memory.ensures.shared;
      interface = c.take_memory.ensures.interface;
      services = c.take_memory.ensures.same;
    }) c.self.view_is

pub returns-clause-err : goal.returns-clause-err
returns-clause-err c =
    on-err c.take_memory.result _ _
    (room-same c.self.inside c.args.self.now c.take_memory.new.workings c.take_memory.new.spare
    (record {
      items = c.take_memory.ensures.items;
      len = c.take_memory.ensures.len;
      shared = c.take_memory.ensures.shared;
      interface = c.take_memory.ensures.interface;
      services = c.take_memory.ensures.same;
    }) c.self.view_is) c.take_memory.ensures.err

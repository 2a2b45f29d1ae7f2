use Rattle.thr_verify.proofs.Making.{Opens, none_here, goes_here, ends_here}
use Rattle.thr_verify.proofs.replay.make_next.Goals as goal

pub returns-then-not-make : goal.returns-then-not-make
returns-then-not-make c =
    let x : Opens c.args.j.now c.args.book.now c.make_room.new.self c.entries-count.result.now c.as_slice-entries.result.now = record {
      replayed = c.requires.at;
      open_ = c.requires.open;
      more = c.requires.more;
      room = c.make_room.ensures.same;
      few = c.lines_stay_below_the_limit.ensures.formed;
      lines_are = c.entries-count.ensures;
      entries_are = c.as_slice-entries.ensures;
    } in
    none_here c.args.j.now c.args.book.now c.make_room.new.self c.entries-count.result.now c.as_slice-entries.result.now x _ (c.make.ensures.none c.if-not-make.true).0

pub returns-in-None : goal.returns-in-None
returns-in-None c =
    let x : Opens c.args.j.now c.args.book.now c.make_room.new.self c.entries-count.result.now c.as_slice-entries.result.now = record {
      replayed = c.requires.at;
      open_ = c.requires.open;
      more = c.requires.more;
      room = c.make_room.ensures.same;
      few = c.lines_stay_below_the_limit.ensures.formed;
      lines_are = c.entries-count.ensures;
      entries_are = c.as_slice-entries.ensures;
    } in
    goes_here c.args.j.now c.args.book.now c.make_room.new.self c.entries-count.result.now c.as_slice-entries.result.now x _ c.make.new.book (c.make.ensures.made c.if-not-make.false) c.as_slice.result.now
    c.entries-made.result.now c.as_slice.ensures c.entries-made.ensures c.in_ok-first_other.field-0 c.in-None.is c.in_ok-first_other.ensures

pub returns-in-Some : goal.returns-in-Some
returns-in-Some c =
    let x : Opens c.args.j.now c.args.book.now c.make_room.new.self c.entries-count.result.now c.as_slice-entries.result.now = record {
      replayed = c.requires.at;
      open_ = c.requires.open;
      more = c.requires.more;
      room = c.make_room.ensures.same;
      few = c.lines_stay_below_the_limit.ensures.formed;
      lines_are = c.entries-count.ensures;
      entries_are = c.as_slice-entries.ensures;
    } in
    ends_here c.args.j.now c.args.book.now c.make_room.new.self c.entries-count.result.now c.as_slice-entries.result.now x _ c.make.new.book (c.make.ensures.made c.if-not-make.false) c.as_slice.result.now
    c.entries-made.result.now c.as_slice.ensures c.entries-made.ensures c.in-Some.i _ c.in_ok-first_other.field-0 c.in-Some.is c.in_ok-first_other.ensures

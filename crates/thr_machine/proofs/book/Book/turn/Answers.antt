use Rattle.std.proofs.Common.{◌≡◌, length, refl, sym, ◌∙◌, rules}
use Rattle.std.specs.Prelude.{vec_len}
use Rattle.thr_values.specs.declared.event.Event.TheVariants as event
use Rattle.thr_machine.specs.Books.{view_of, state_of, IsOpen}
use Rattle.thr_stacks.specs.Stacks.{remainders_of}
use Rattle.thr_machine.specs.declared.book.Book.TheInside.{Inside}
use Rattle.thr_machine.proofs.Keeping.{FollowStacks, StandOn, is-open, execution_of}
use Rattle.thr_machine.proofs.Turning.{HaveFrames, has-lines, has-spare, has-value, runs-seated, can-turn, can-settle}
use Rattle.thr_machine.proofs.BookEvents.{TurnLaws, book-turn, makes-in}
use Rattle.thr_machine.proofs.book.Book.turn.Goals as goal

pub turn_in_place-left-requires-clause-can : goal.turn_in_place-left-requires-clause-can
turn_in_place-left-requires-clause-can c =
    let a : Inside = c.self.inside in
    let o : IsOpen (view_of a) = is-open a c.args.self.now c.self.view_is c.requires.open in
    let x = execution_of (view_of a) c.self.invariant.reached in
    let h = c.self.invariant.reached.history in
    let follow : FollowStacks a.lines = record {
      put_left = c.remainders_change_with_stacks.ensures.put a.lines;
      cut_left = c.remainders_change_with_stacks.ensures.cut a.lines;
      get_left = c.remainders_change_with_stacks.ensures.get a.lines;
      has_left = c.remainders_change_with_stacks.ensures.has a.lines;
    } in
    can-turn a.lines a.workings a.stacks c.args.p c.in-Some.t follow (c.states_stay_canonical.ensures a.lines a.workers x h).seats
    (c.threads_have_frames_and_places.ensures.seats a.lines a.workers x h) c.self.invariant.stand (sym c.in-Some.ensures) (λ k runs own.
    c.turns_find_what_they_ask.ensures a.lines a.workers x c.self.invariant.formed h o.no_stop a.workings.services (remainders_of a.lines a.stacks) a.workings.shared refl (has-value a.workings a.spare o.room) c.in-Some.t k runs own)

pub turn_in_place-left-requires-clause-room : goal.turn_in_place-left-requires-clause-room
turn_in_place-left-requires-clause-room c = has-lines c.self.inside.workings c.self.inside.spare (is-open c.self.inside c.args.self.now c.self.view_is c.requires.open).room

pub settle-requires-clause-can : goal.settle-requires-clause-can
settle-requires-clause-can c =
    let a : Inside = c.self.inside in
    let o : IsOpen (view_of a) = is-open a c.args.self.now c.self.view_is c.requires.open in
    let x = execution_of (view_of a) c.self.invariant.reached in
    let h = c.self.invariant.reached.history in
    let follow : FollowStacks a.lines = record {
      put_left = c.remainders_change_with_stacks.ensures.put a.lines;
      cut_left = c.remainders_change_with_stacks.ensures.cut a.lines;
      get_left = c.remainders_change_with_stacks.ensures.get a.lines;
      has_left = c.remainders_change_with_stacks.ensures.has a.lines;
    } in
    let frames : HaveFrames a.lines a.workers = record {
      some = c.threads_have_frames_and_places.ensures.some a.lines a.workers;
      few = c.threads_have_frames_and_places.ensures.few a.lines a.workers;
      place = c.threads_have_frames_and_places.ensures.place a.lines a.workers;
    } in
    can-settle a.lines a.workers c.args.p c.in-Some.t a.workings c.turn_in_place-left.new.workings a.stacks c.turn_in_place-left.new.stacks a.spare x c.turn_in_place-left.result follow frames h o.no_stop refl
    (c.states_stay_canonical.ensures a.lines a.workers x h).remainders (sym c.in-Some.ensures) c.turn_in_place-left.ensures (has-spare a.workings a.spare o.room)

pub invariant_of-self : goal.invariant_of-self
invariant_of-self c =
    let a : Inside = c.self.inside in
    let o : IsOpen (view_of a) = is-open a c.args.self.now c.self.view_is c.requires.open in
    let x = execution_of (view_of a) c.self.invariant.reached in
    let h = c.self.invariant.reached.history in
    let canonical = c.states_stay_canonical.ensures a.lines a.workers x h in
    let follow : FollowStacks a.lines = record {
      put_left = c.remainders_change_with_stacks.ensures.put a.lines;
      cut_left = c.remainders_change_with_stacks.ensures.cut a.lines;
      get_left = c.remainders_change_with_stacks.ensures.get a.lines;
      has_left = c.remainders_change_with_stacks.ensures.has a.lines;
    } in
    let on : StandOn a.lines = record { put_stands = c.stacks_go_on_standing.ensures.put a.lines; cut_stands = c.stacks_go_on_standing.ensures.cut a.lines } in
    let seat = runs-seated a.workings.services.rows c.args.p c.in-Some.t canonical.seats (sym c.in-Some.ensures) in
    let laws : TurnLaws a c.args.p c.in-Some.t = record {
      follow = follow;
      on = on;
      rises = canonical.remainders;
      below = c.threads_have_frames_and_places.ensures.below a.lines a.workers x h c.in-Some.t.0 (c.threads_have_frames_and_places.ensures.seats a.lines a.workers x h c.in-Some.t.0 ∙ seat);
      lines = λ made is. c.counts_rise_with_the_lines.ensures.lines a.lines a.workers (state_of a.lines a.workings a.stacks) (event.Turn c.args.p) made is;
      again = λ made is. c.stacks_stand_after_events.ensures a.lines a.workers x h (event.Turn c.args.p) made is;
    } in
    let before : vec_len a.workings.entries ≡ length a.workings.entries.items = search rules in
    let after : vec_len c.turn_in_place-left.new.workings.entries ≡ length c.turn_in_place-left.new.workings.entries.items = search rules in
    (book-turn a c.args.p c.in-Some.t c.turn_in_place-left.new.workings c.turn_in_place-left.new.stacks c.settle.new.stacks c.settle.new.spare c.turn_in_place-left.result c.self.invariant o laws
    (sym c.in-Some.ensures) c.turn_in_place-left.ensures c.settle.ensures.stacks c.settle.ensures.spare before after).1

pub returns : goal.returns
returns c =
    let a : Inside = c.self.inside in
    let o : IsOpen (view_of a) = is-open a c.args.self.now c.self.view_is c.requires.open in
    let x = execution_of (view_of a) c.self.invariant.reached in
    let h = c.self.invariant.reached.history in
    let canonical = c.states_stay_canonical.ensures a.lines a.workers x h in
    let follow : FollowStacks a.lines = record {
      put_left = c.remainders_change_with_stacks.ensures.put a.lines;
      cut_left = c.remainders_change_with_stacks.ensures.cut a.lines;
      get_left = c.remainders_change_with_stacks.ensures.get a.lines;
      has_left = c.remainders_change_with_stacks.ensures.has a.lines;
    } in
    let on : StandOn a.lines = record { put_stands = c.stacks_go_on_standing.ensures.put a.lines; cut_stands = c.stacks_go_on_standing.ensures.cut a.lines } in
    let seat = runs-seated a.workings.services.rows c.args.p c.in-Some.t canonical.seats (sym c.in-Some.ensures) in
    let laws : TurnLaws a c.args.p c.in-Some.t = record {
      follow = follow;
      on = on;
      rises = canonical.remainders;
      below = c.threads_have_frames_and_places.ensures.below a.lines a.workers x h c.in-Some.t.0 (c.threads_have_frames_and_places.ensures.seats a.lines a.workers x h c.in-Some.t.0 ∙ seat);
      lines = λ made is. c.counts_rise_with_the_lines.ensures.lines a.lines a.workers (state_of a.lines a.workings a.stacks) (event.Turn c.args.p) made is;
      again = λ made is. c.stacks_stand_after_events.ensures a.lines a.workers x h (event.Turn c.args.p) made is;
    } in
    let before : vec_len a.workings.entries ≡ length a.workings.entries.items = search rules in
    let after : vec_len c.turn_in_place-left.new.workings.entries ≡ length c.turn_in_place-left.new.workings.entries.items = search rules in
    makes-in a c.args.self.now _ (event.Turn c.args.p) c.self.view_is
    (book-turn a c.args.p c.in-Some.t c.turn_in_place-left.new.workings c.turn_in_place-left.new.stacks c.settle.new.stacks c.settle.new.spare c.turn_in_place-left.result c.self.invariant o laws
    (sym c.in-Some.ensures) c.turn_in_place-left.ensures c.settle.ensures.stacks c.settle.ensures.spare before after).0

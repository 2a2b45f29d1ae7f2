use Rattle.std.proofs.Common.{◌≡◌, ◌≤◌, ◌++◌, ◌∷◌, [], ℤ, length, refl, ap, subst}
use Rattle.std.proofs.lemmas.Int.{to_z-of_z}
use mir.Val.{to_z, of_z}
use mir.Syntax.{w64}
use Rattle.thr_remainder.specs.Remainders.{Remainder}
use Rattle.thr_parts.specs.Tables.{Table, none}
use Rattle.thr_parts.specs.Rows.{most}
use Rattle.thr_model.specs.Turns.{Made, gift_lines}
use Rattle.thr_model.specs.Events.{clock_line, clock_to}
use Rattle.thr_services.specs.Views.{state_with}
use Rattle.thr_machine.proofs.Clocks.{IsMoved, gifts-few, written-so, lines-few, lines-len, room-left}
use Rattle.thr_machine.proofs.stepping.move_clock.Goals as goal

pub write_gifts-requires : goal.write_gifts-requires
write_gifts-requires c =
    let back : to_z w64 (of_z w64 c.args.now) ≡ c.args.now = to_z-of_z w64 c.args.now c.ranges.now in
    let made : IsMoved c.args.workings.now.services c.move_clock.new.self c.args.now c.move_clock.new.gifts =
    subst (λ (n : ℤ). IsMoved c.args.workings.now.services c.move_clock.new.self n c.move_clock.new.gifts) back c.move_clock.ensures in
    let few : length c.move_clock.new.gifts ≤ most =
    gifts-few (state_with c.args.workings.now.services none none) c.args.now c.move_clock.new.gifts (clock_line c.args.now ∷ gift_lines c.move_clock.new.gifts) (ap (λ (m : Made). m.lines) (made none none)) refl c.requires.can.seats in
    room-left _ _ _ _ c.move_clock.new.gifts c.given.result.now c.requires.room c.write.ensures.len c.write.ensures.capacity few c.given.ensures

pub returns : goal.returns
returns c =
    let back : to_z w64 (of_z w64 c.args.now) ≡ c.args.now = to_z-of_z w64 c.args.now c.ranges.now in
    let made : IsMoved c.args.workings.now.services c.move_clock.new.self c.args.now c.move_clock.new.gifts =
    subst (λ (n : ℤ). IsMoved c.args.workings.now.services c.move_clock.new.self n c.move_clock.new.gifts) back c.move_clock.ensures in
    let few : length c.move_clock.new.gifts ≤ most =
    gifts-few (state_with c.args.workings.now.services none none) c.args.now c.move_clock.new.gifts (clock_line c.args.now ∷ gift_lines c.move_clock.new.gifts) (ap (λ (m : Made). m.lines) (made none none)) refl c.requires.can.seats in
    let first : c.write.new.entries.items ≡ c.args.workings.now.entries.items ++ clock_line c.args.now ∷ [] =
    subst (λ (n : ℤ). c.write.new.entries.items ≡ c.args.workings.now.entries.items ++ clock_line n ∷ []) back c.write.ensures.items in
    record {
      lines = clock_line c.args.now ∷ gift_lines c.move_clock.new.gifts;
      written = written-so _ _ _ (clock_line c.args.now) c.move_clock.new.gifts c.given.result.now first c.write_gifts.ensures.items c.given.ensures;
      few = lines-few (clock_line c.args.now) c.move_clock.new.gifts few;
      len = lines-len _ _ _ (clock_line c.args.now) c.move_clock.new.gifts c.given.result.now c.write.ensures.len c.write_gifts.ensures.len c.given.ensures;
      shared = refl;
      interface = refl;
      made = made;
    }

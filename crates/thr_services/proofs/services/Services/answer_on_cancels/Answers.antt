use Rattle.std.proofs.Common.{[], refl, ◌≡◌, ℤ, SFits, to_z, of_z, w64, arith, ◌∙◌, subst}
use Rattle.std.proofs.lemmas.Int.{to_z-of_z, ints}
use Rattle.thr_model.specs.Calls.{answered, cancels_thread, first}
use Rattle.thr_services.specs.Answers.{listed, Answers}
use Rattle.thr_services.proofs.Known.{as_call}
use Rattle.thr_services.proofs.services.Services.answer_on_cancels.Goals as goal

pub returns-in-Cancel : goal.returns-in-Cancel
unfolding answered
returns-in-Cancel c =
    let fits1 : SFits w64 c.first.result = search (arith, ints) in
    let is1 : to_z w64 (of_z w64 c.first.result) ≡ first (listed c.args.ns) = to_z-of_z w64 c.first.result fits1 ∙ c.first.ensures in
    as_call c.args.self.now c.cancel.new.self _ c.cancel.new.gifts _ c.args.t (listed c.args.ns) _ _ c.in-Cancel.is refl (subst (λ (n : ℤ). Answers c.args.self.now c.cancel.new.self c.cancel.result c.cancel.new.gifts (λ s st. cancels_thread st n)) is1 c.cancel.ensures)

pub returns-in-Testcancel : goal.returns-in-Testcancel
unfolding answered
returns-in-Testcancel c =
    as_call c.args.self.now c.args.self.now _ [] _ c.args.t (listed c.args.ns) _ _ c.in-Testcancel.is c.requires.gifts c.testcancel.ensures

pub returns-in-Setcancel : goal.returns-in-Setcancel
unfolding answered
returns-in-Setcancel c =
    as_call c.args.self.now c.setcancel.new.self _ [] _ c.args.t (listed c.args.ns) _ _ c.in-Setcancel.is c.requires.gifts c.setcancel.ensures

pub returns-in-Setasynccancel : goal.returns-in-Setasynccancel
unfolding answered
returns-in-Setasynccancel c =
    as_call c.args.self.now c.setasynccancel.new.self _ [] _ c.args.t (listed c.args.ns) _ _ c.in-Setasynccancel.is c.requires.gifts c.setasynccancel.ensures

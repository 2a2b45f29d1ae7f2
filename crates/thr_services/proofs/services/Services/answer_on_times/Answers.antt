use Rattle.std.proofs.Common.{[], refl, ◌≡◌, ℤ, SFits, to_z, of_z, w64, arith, ◌∙◌, subst}
use Rattle.std.proofs.lemmas.Int.{to_z-of_z, ints}
use Rattle.thr_model.specs.States.{rank_of}
use Rattle.thr_parts.specs.Conditions.{delay}
use Rattle.thr_parts.specs.Times.{expiration}
use Rattle.thr_model.specs.Calls.{answered, answers, delays, first}
use Rattle.thr_services.specs.Answers.{listed, Answers}
use Rattle.thr_services.proofs.Known.{as_call}
use Rattle.thr_services.proofs.services.Services.answer_on_times.Goals as goal

pub returns-in-DelayNp : goal.returns-in-DelayNp
unfolding answered
returns-in-DelayNp c =
    let fits1 : SFits w64 c.first.result = search (arith, ints) in
    let is1 : to_z w64 (of_z w64 c.first.result) ≡ first (listed c.args.ns) = to_z-of_z w64 c.first.result fits1 ∙ c.first.ensures in
    as_call c.args.self.now c.delay.new.self _ [] _ c.args.t (listed c.args.ns) _ _ c.in-DelayNp.is refl (subst (λ (n : ℤ). Answers c.args.self.now c.delay.new.self c.delay.result [] (λ s st. delays st (delay st.conds st.rows n st.clock c.args.t (rank_of st c.args.t)))) is1 c.delay.ensures)

pub returns-in-GetExpirationNp : goal.returns-in-GetExpirationNp
unfolding answered
returns-in-GetExpirationNp c =
    let fits1 : SFits w64 c.first-in-GetExpirationNp.result = search (arith, ints) in
    let is1 : to_z w64 (of_z w64 c.first-in-GetExpirationNp.result) ≡ first (listed c.args.ns) = to_z-of_z w64 c.first-in-GetExpirationNp.result fits1 ∙ c.first-in-GetExpirationNp.ensures in
    as_call c.args.self.now c.args.self.now _ [] _ c.args.t (listed c.args.ns) _ _ c.in-GetExpirationNp.is refl (subst (λ (n : ℤ). Answers c.args.self.now c.args.self.now c.get_expiration.result [] (λ s st. answers (expiration n st.clock) st)) is1 c.get_expiration.ensures)

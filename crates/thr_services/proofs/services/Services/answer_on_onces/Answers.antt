use Rattle.std.proofs.Common.{[], refl, ◌≡◌, ℤ, SFits, to_z, of_z, w64, arith, ◌∙◌, subst}
use Rattle.std.proofs.lemmas.Int.{to_z-of_z, ints}
use Rattle.thr_parts.specs.Keys.{setspecific}
use Rattle.thr_model.specs.Calls.{answered, first, on_onces}
use Rattle.thr_services.specs.Answers.{listed, Answers}
use Rattle.thr_services.proofs.Known.{as_call}
use Rattle.thr_services.proofs.services.Services.answer_on_onces.Goals as goal

pub returns-in-Once : goal.returns-in-Once
unfolding answered
returns-in-Once c =
    as_call c.args.self.now c.once.new.self _ [] _ c.args.t (listed c.args.ns) _ _ c.in-Once.is refl c.once.ensures

pub returns-in-Keycreate : goal.returns-in-Keycreate
unfolding answered
returns-in-Keycreate c =
    as_call c.args.self.now c.keycreate.new.self _ [] _ c.args.t (listed c.args.ns) _ _ c.in-Keycreate.is refl c.keycreate.ensures

pub returns-in-Setspecific : goal.returns-in-Setspecific
unfolding answered
returns-in-Setspecific c =
    let fits1 : SFits w64 c.first.result = search (arith, ints) in
    let is1 : to_z w64 (of_z w64 c.first.result) ≡ first (listed c.args.ns) = to_z-of_z w64 c.first.result fits1 ∙ c.first.ensures in
    as_call c.args.self.now c.setspecific.new.self _ [] _ c.args.t (listed c.args.ns) _ _ c.in-Setspecific.is refl (subst (λ (n : ℤ). Answers c.args.self.now c.setspecific.new.self c.setspecific.result [] (λ s st. on_onces st (setspecific st.onces c.in-Setspecific.k c.args.t n))) is1 c.setspecific.ensures)

pub returns-in-Getspecific : goal.returns-in-Getspecific
unfolding answered
returns-in-Getspecific c =
    as_call c.args.self.now c.args.self.now _ [] _ c.args.t (listed c.args.ns) _ _ c.in-Getspecific.is refl c.getspecific.ensures

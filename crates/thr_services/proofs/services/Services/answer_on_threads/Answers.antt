use Rattle.std.proofs.Common.{[], refl, ◌≡◌, ℤ, SFits, to_z, of_z, w64, arith, ◌∙◌, subst}
use Rattle.std.proofs.lemmas.Int.{to_z-of_z, ints}
use Rattle.thr_parts.specs.Threads.{create, detach, join}
use Rattle.thr_model.specs.Calls.{answered, creates, first, joins, on_threads}
use Rattle.thr_services.specs.Answers.{listed, Answers}
use Rattle.thr_services.proofs.Known.{as_call}
use Rattle.thr_services.proofs.services.Services.answer_on_threads.Goals as goal

pub returns-in-Create : goal.returns-in-Create
unfolding answered
returns-in-Create c =
    let fits1 : SFits w64 c.first.result = search (arith, ints) in
    let is1 : to_z w64 (of_z w64 c.first.result) ≡ first (listed c.args.ns) = to_z-of_z w64 c.first.result fits1 ∙ c.first.ensures in
    as_call c.args.self.now c.create.new.self _ [] _ c.args.t (listed c.args.ns) _ _ c.in-Create.is refl (subst (λ (n : ℤ). Answers c.args.self.now c.create.new.self c.create.result [] (λ s st. creates s st c.in-Create.routine n (create st.threads c.args.t c.in-Create.a))) is1 c.create.ensures)

pub returns-in-Join : goal.returns-in-Join
unfolding answered
returns-in-Join c =
    let fits1 : SFits w64 c.first-in-Join.result = search (arith, ints) in
    let is1 : to_z w64 (of_z w64 c.first-in-Join.result) ≡ first (listed c.args.ns) = to_z-of_z w64 c.first-in-Join.result fits1 ∙ c.first-in-Join.ensures in
    as_call c.args.self.now c.join.new.self _ [] _ c.args.t (listed c.args.ns) _ _ c.in-Join.is refl (subst (λ (n : ℤ). Answers c.args.self.now c.join.new.self c.join.result [] (λ s st. joins st c.args.t n (join st.threads c.args.t n))) is1 c.join.ensures)

pub returns-in-Detach : goal.returns-in-Detach
unfolding answered
returns-in-Detach c =
    let fits1 : SFits w64 c.first-in-Detach.result = search (arith, ints) in
    let is1 : to_z w64 (of_z w64 c.first-in-Detach.result) ≡ first (listed c.args.ns) = to_z-of_z w64 c.first-in-Detach.result fits1 ∙ c.first-in-Detach.ensures in
    as_call c.args.self.now c.detach.new.self _ [] _ c.args.t (listed c.args.ns) _ _ c.in-Detach.is refl (subst (λ (n : ℤ). Answers c.args.self.now c.detach.new.self c.detach.result [] (λ s st. on_threads st (detach st.threads n))) is1 c.detach.ensures)

pub returns-in-Yield : goal.returns-in-Yield
unfolding answered
returns-in-Yield c =
    as_call c.args.self.now c.give_way.new.self _ [] _ c.args.t (listed c.args.ns) _ _ c.in-Yield.is refl c.give_way.ensures

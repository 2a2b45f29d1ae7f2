use Rattle.std.proofs.Common.{[], refl, ◌≡◌, ℤ, SFits, to_z, of_z, w64, arith, ◌∙◌, subst}
use Rattle.std.proofs.lemmas.Int.{to_z-of_z, ints}
use Rattle.thr_parts.specs.Scheduling.{getprio, getscheduler, setprio, setscheduler}
use Rattle.thr_model.specs.Calls.{answered, answers, first, ranks, second}
use Rattle.thr_services.specs.Answers.{listed, Answers}
use Rattle.thr_services.proofs.Known.{as_call}
use Rattle.thr_services.proofs.services.Services.answer_on_ranks.Goals as goal

pub returns-in-Setprio : goal.returns-in-Setprio
unfolding answered
returns-in-Setprio c =
    let fits1 : SFits w64 c.first.result = search (arith, ints) in
    let is1 : to_z w64 (of_z w64 c.first.result) ≡ first (listed c.args.ns) = to_z-of_z w64 c.first.result fits1 ∙ c.first.ensures in
    let fits2 : SFits w64 c.second.result = search (arith, ints) in
    let is2 : to_z w64 (of_z w64 c.second.result) ≡ second (listed c.args.ns) = to_z-of_z w64 c.second.result fits2 ∙ c.second.ensures in
    as_call c.args.self.now c.setprio.new.self _ [] _ c.args.t (listed c.args.ns) _ _ c.in-Setprio.is refl (subst (λ (n : ℤ). Answers c.args.self.now c.setprio.new.self c.setprio.result [] (λ s st. ranks st (first (listed c.args.ns)) (setprio st.threads (first (listed c.args.ns)) n))) is2 (subst (λ (n : ℤ). Answers c.args.self.now c.setprio.new.self c.setprio.result [] (λ s st. ranks st n (setprio st.threads n (to_z w64 (of_z w64 c.second.result))))) is1 c.setprio.ensures))

pub returns-in-Getprio : goal.returns-in-Getprio
unfolding answered
returns-in-Getprio c =
    let fits1 : SFits w64 c.first-in-Getprio.result = search (arith, ints) in
    let is1 : to_z w64 (of_z w64 c.first-in-Getprio.result) ≡ first (listed c.args.ns) = to_z-of_z w64 c.first-in-Getprio.result fits1 ∙ c.first-in-Getprio.ensures in
    as_call c.args.self.now c.args.self.now _ [] _ c.args.t (listed c.args.ns) _ _ c.in-Getprio.is refl (subst (λ (n : ℤ). Answers c.args.self.now c.args.self.now c.getprio.result [] (λ s st. answers (getprio st.threads n) st)) is1 c.getprio.ensures)

pub returns-in-Setscheduler : goal.returns-in-Setscheduler
unfolding answered
returns-in-Setscheduler c =
    let fits1 : SFits w64 c.first-in-Setscheduler.result = search (arith, ints) in
    let is1 : to_z w64 (of_z w64 c.first-in-Setscheduler.result) ≡ first (listed c.args.ns) = to_z-of_z w64 c.first-in-Setscheduler.result fits1 ∙ c.first-in-Setscheduler.ensures in
    let fits2 : SFits w64 c.second-in-Setscheduler.result = search (arith, ints) in
    let is2 : to_z w64 (of_z w64 c.second-in-Setscheduler.result) ≡ second (listed c.args.ns) = to_z-of_z w64 c.second-in-Setscheduler.result fits2 ∙ c.second-in-Setscheduler.ensures in
    as_call c.args.self.now c.setscheduler.new.self _ [] _ c.args.t (listed c.args.ns) _ _ c.in-Setscheduler.is refl (subst (λ (n : ℤ). Answers c.args.self.now c.setscheduler.new.self c.setscheduler.result [] (λ s st. ranks st (first (listed c.args.ns)) (setscheduler st.threads (first (listed c.args.ns)) c.in-Setscheduler.policy n))) is2 (subst (λ (n : ℤ). Answers c.args.self.now c.setscheduler.new.self c.setscheduler.result [] (λ s st. ranks st n (setscheduler st.threads n c.in-Setscheduler.policy (to_z w64 (of_z w64 c.second-in-Setscheduler.result))))) is1 c.setscheduler.ensures))

pub returns-in-Getscheduler : goal.returns-in-Getscheduler
unfolding answered
returns-in-Getscheduler c =
    let fits1 : SFits w64 c.first-in-Getscheduler.result = search (arith, ints) in
    let is1 : to_z w64 (of_z w64 c.first-in-Getscheduler.result) ≡ first (listed c.args.ns) = to_z-of_z w64 c.first-in-Getscheduler.result fits1 ∙ c.first-in-Getscheduler.ensures in
    as_call c.args.self.now c.args.self.now _ [] _ c.args.t (listed c.args.ns) _ _ c.in-Getscheduler.is refl (subst (λ (n : ℤ). Answers c.args.self.now c.args.self.now c.getscheduler.result [] (λ s st. answers (getscheduler st.threads n) st)) is1 c.getscheduler.ensures)

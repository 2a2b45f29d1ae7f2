use Rattle.std.proofs.Common.{[], refl, ◌≡◌, ℤ, SFits, to_z, of_z, w64, arith, ◌∙◌, subst}
use Rattle.std.proofs.lemmas.Int.{to_z-of_z, ints}
use Rattle.thr_model.specs.States.{rank_of}
use Rattle.thr_parts.specs.Pipes.{write}
use Rattle.thr_model.specs.Calls.{answered, first, writes}
use Rattle.thr_services.specs.Answers.{listed, Answers}
use Rattle.thr_services.proofs.Known.{as_call}
use Rattle.thr_services.proofs.services.Services.answer_on_pipes.Goals as goal

pub returns-in-Read : goal.returns-in-Read
unfolding answered
returns-in-Read c =
    as_call c.args.self.now c.read.new.self _ [] _ c.args.t (listed c.args.ns) _ _ c.in-Read.is refl c.read.ensures

pub returns-in-Write : goal.returns-in-Write
unfolding answered
returns-in-Write c =
    let fits1 : SFits w64 c.first.result = search (arith, ints) in
    let is1 : to_z w64 (of_z w64 c.first.result) ≡ first (listed c.args.ns) = to_z-of_z w64 c.first.result fits1 ∙ c.first.ensures in
    as_call c.args.self.now c.write.new.self _ [] _ c.args.t (listed c.args.ns) _ _ c.in-Write.is refl (subst (λ (n : ℤ). Answers c.args.self.now c.write.new.self c.write.result [] (λ s st. writes st n (write st.pipes st.rows c.in-Write.p n c.args.t (rank_of st c.args.t)))) is1 c.write.ensures)

pub returns-in-Close : goal.returns-in-Close
unfolding answered
returns-in-Close c =
    as_call c.args.self.now c.close.new.self _ [] _ c.args.t (listed c.args.ns) _ _ c.in-Close.is refl c.close.ensures

use Rattle.std.proofs.Common.{[], refl, ◌≡◌, ℤ, SFits, to_z, of_z, w64, arith, ◌∙◌, subst}
use Rattle.std.proofs.lemmas.Int.{to_z-of_z, ints}
use Rattle.thr_parts.specs.Scheduling.{attr_setprio, attr_setstack}
use Rattle.thr_model.specs.Calls.{answered, first, on_threads}
use Rattle.thr_services.specs.Answers.{listed, Answers}
use Rattle.thr_services.proofs.Known.{as_call}
use Rattle.thr_services.proofs.services.Services.answer_on_cells.Goals as goal

pub returns-in-AttrCreate : goal.returns-in-AttrCreate
unfolding answered
returns-in-AttrCreate c =
    as_call c.args.self.now c.attr_create.new.self _ [] _ c.args.t (listed c.args.ns) _ _ c.in-AttrCreate.is refl c.attr_create.ensures

pub returns-in-AttrDelete : goal.returns-in-AttrDelete
unfolding answered
returns-in-AttrDelete c =
    as_call c.args.self.now c.attr_delete.new.self _ [] _ c.args.t (listed c.args.ns) _ _ c.in-AttrDelete.is refl c.attr_delete.ensures

pub returns-in-AttrSetsched : goal.returns-in-AttrSetsched
unfolding answered
returns-in-AttrSetsched c =
    as_call c.args.self.now c.attr_setsched.new.self _ [] _ c.args.t (listed c.args.ns) _ _ c.in-AttrSetsched.is refl c.attr_setsched.ensures

pub returns-in-AttrSetprio : goal.returns-in-AttrSetprio
unfolding answered
returns-in-AttrSetprio c =
    let fits1 : SFits w64 c.first.result = search (arith, ints) in
    let is1 : to_z w64 (of_z w64 c.first.result) ≡ first (listed c.args.ns) = to_z-of_z w64 c.first.result fits1 ∙ c.first.ensures in
    as_call c.args.self.now c.attr_setprio.new.self _ [] _ c.args.t (listed c.args.ns) _ _ c.in-AttrSetprio.is refl (subst (λ (n : ℤ). Answers c.args.self.now c.attr_setprio.new.self c.attr_setprio.result [] (λ s st. on_threads st (attr_setprio st.threads c.in-AttrSetprio.a n))) is1 c.attr_setprio.ensures)

pub returns-in-AttrSetinheritsched : goal.returns-in-AttrSetinheritsched
unfolding answered
returns-in-AttrSetinheritsched c =
    as_call c.args.self.now c.attr_setinherit.new.self _ [] _ c.args.t (listed c.args.ns) _ _ c.in-AttrSetinheritsched.is refl c.attr_setinherit.ensures

pub returns-in-AttrSetstacksize : goal.returns-in-AttrSetstacksize
unfolding answered
returns-in-AttrSetstacksize c =
    let fits1 : SFits w64 c.first-in-AttrSetstacksize.result = search (arith, ints) in
    let is1 : to_z w64 (of_z w64 c.first-in-AttrSetstacksize.result) ≡ first (listed c.args.ns) = to_z-of_z w64 c.first-in-AttrSetstacksize.result fits1 ∙ c.first-in-AttrSetstacksize.ensures in
    as_call c.args.self.now c.attr_setstack.new.self _ [] _ c.args.t (listed c.args.ns) _ _ c.in-AttrSetstacksize.is refl (subst (λ (n : ℤ). Answers c.args.self.now c.attr_setstack.new.self c.attr_setstack.result [] (λ s st. on_threads st (attr_setstack st.threads c.in-AttrSetstacksize.a n))) is1 c.attr_setstack.ensures)

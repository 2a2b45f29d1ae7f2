use Rattle.std.proofs.Common.{[], refl, ◌≡◌, ℤ, SFits, to_z, of_z, w64, arith, ◌∙◌, subst}
use Rattle.std.proofs.lemmas.Int.{to_z-of_z, ints}
use Rattle.thr_model.specs.States.{rank_of}
use Rattle.thr_parts.specs.Conditions.{timedwait}
use Rattle.thr_model.specs.Calls.{answered, first, waits}
use Rattle.thr_services.specs.Answers.{listed, Answers}
use Rattle.thr_services.proofs.Known.{as_call}
use Rattle.thr_services.proofs.services.Services.answer_on_conds.Goals as goal

pub returns-in-CondInit : goal.returns-in-CondInit
unfolding answered
returns-in-CondInit c =
    as_call c.args.self.now c.cond_init.new.self _ [] _ c.args.t (listed c.args.ns) _ _ c.in-CondInit.is c.requires.gifts c.cond_init.ensures

pub returns-in-CondDestroy : goal.returns-in-CondDestroy
unfolding answered
returns-in-CondDestroy c =
    as_call c.args.self.now c.cond_destroy.new.self _ [] _ c.args.t (listed c.args.ns) _ _ c.in-CondDestroy.is c.requires.gifts c.cond_destroy.ensures

pub returns-in-CondWait : goal.returns-in-CondWait
unfolding answered
returns-in-CondWait c =
    as_call c.args.self.now c.cond_wait.new.self _ c.cond_wait.new.gifts _ c.args.t (listed c.args.ns) _ _ c.in-CondWait.is refl c.cond_wait.ensures

pub returns-in-CondTimedwait : goal.returns-in-CondTimedwait
unfolding answered
returns-in-CondTimedwait c =
    let fits1 : SFits w64 c.first.result = search (arith, ints) in
    let is1 : to_z w64 (of_z w64 c.first.result) ≡ first (listed c.args.ns) = to_z-of_z w64 c.first.result fits1 ∙ c.first.ensures in
    as_call c.args.self.now c.cond_timedwait.new.self _ c.cond_timedwait.new.gifts _ c.args.t (listed c.args.ns) _ _ c.in-CondTimedwait.is refl (subst (λ (n : ℤ). Answers c.args.self.now c.cond_timedwait.new.self c.cond_timedwait.result c.cond_timedwait.new.gifts (λ s st. waits st c.in-CondTimedwait.m (timedwait st.conds st.locks st.rows c.in-CondTimedwait.c c.in-CondTimedwait.m n st.clock c.args.t (rank_of st c.args.t)))) is1 c.cond_timedwait.ensures)

pub returns-in-CondSignal : goal.returns-in-CondSignal
unfolding answered
returns-in-CondSignal c =
    as_call c.args.self.now c.cond_signal.new.self _ c.cond_signal.new.gifts _ c.args.t (listed c.args.ns) _ _ c.in-CondSignal.is refl c.cond_signal.ensures

pub returns-in-CondBroadcast : goal.returns-in-CondBroadcast
unfolding answered
returns-in-CondBroadcast c =
    as_call c.args.self.now c.cond_broadcast.new.self _ c.cond_broadcast.new.gifts _ c.args.t (listed c.args.ns) _ _ c.in-CondBroadcast.is refl c.cond_broadcast.ensures

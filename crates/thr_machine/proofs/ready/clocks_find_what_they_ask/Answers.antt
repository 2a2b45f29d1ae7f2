use Rattle.std.proofs.Common.{◌+◌, ◌*◌, ◌≤◌, length, subst}
use Rattle.thr_model.specs.States.{State}
use Rattle.thr_services.specs.Views.{state_with}
use Rattle.thr_machine.proofs.ReadyLaws.{AreAgreed, can-move}
use Rattle.thr_machine.proofs.ready.clocks_find_what_they_ask.Goals as goal

pub returns : goal.returns
returns c = λ s n x formed h open_ v remainders shared same.
    let agree = c.parts_agree_on_who_waits.ensures in
    let agreed : AreAgreed x.state = record {
      waits = agree.waits s n x h;
      writers = agree.writers s n x h;
      debts = agree.debts s n x h;
      records = agree.records s n x h;
      few = agree.few s n x h;
      waits_few = agree.waits_few s n x h;
      fit = record { fits = c.mutexes_of_waits_are_names.ensures s n x formed h };
    } in
    can-move v remainders shared (length x.entries) (subst AreAgreed same agreed) (c.lines_stay_below_the_limit.ensures.formed s x.state (length x.entries) formed open_)
    (subst (λ (st : State). st.rows.next_arrival ≤ 1 + 2049 * length x.entries) same (c.arrivals_of_one_turn_are_few.ensures.all s n (agree.few s n) x h))
    (record { has_owed = c.threads_owe_the_same_in_the_state.ensures.has v.debts })

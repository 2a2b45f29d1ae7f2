use Rattle.std.proofs.Common.{◌≡◌, ◌≤◌, true, length, subst}
use Rattle.thr_parts.specs.Tables.{IsCanonical}
use Rattle.thr_parts.specs.Rows.{most, seat_of, is_running}
use Rattle.thr_model.specs.States.{State}
use Rattle.thr_services.specs.Views.{state_with}
use Rattle.thr_machine.specs.Stepping.{IsOwn}
use Rattle.thr_machine.proofs.ReadyLaws.{AreAgreed, AreCounted, AreBegun, is-ready}
use Rattle.thr_machine.proofs.ready.turns_find_what_they_ask.Goals as goal

pub returns : goal.returns
returns c = λ s n x formed h open_ v remainders shared same room t k seat own.
    let agree = c.parts_agree_on_who_waits.ensures in
    let count = c.counts_rise_with_the_lines.ensures in
    let agreed : AreAgreed x.state = record {
      waits = agree.waits s n x h;
      writers = agree.writers s n x h;
      debts = agree.debts s n x h;
      records = agree.records s n x h;
      few = agree.few s n x h;
      waits_few = agree.waits_few s n x h;
      fit = record { fits = c.mutexes_of_waits_are_names.ensures s n x formed h };
    } in
    let counted : AreCounted x.state (length x.entries) = record {
      below = c.lines_stay_below_the_limit.ensures.formed s x.state (length x.entries) formed open_;
      arrivals = c.arrivals_of_one_turn_are_few.ensures.all s n (agree.few s n) x h;
      numbers = count.numbers s n x h;
      depths = count.depths s n x h;
      scopes = count.scopes s n x h;
    } in
    let begun : AreBegun s x.state = record {
      frames = c.stacks_keep_their_size.ensures.frames s n x h;
      destructors = c.what_begins_is_a_routine.ensures s n x formed h;
      running = c.once_blocks_that_wait_have_room.ensures s n x h;
      blocks = λ w. c.open_once_blocks_are_names.ensures.halts s n x formed h w.0;
    } in
    let state : State = state_with v remainders shared in
    let canonical = c.states_stay_canonical.ensures s n x h in
    is-ready s v remainders shared (length x.entries) t k
    (subst AreAgreed same agreed, subst (λ (st : State). AreCounted st (length x.entries)) same counted, subst (AreBegun s) same begun)
    (record { has_owed = c.threads_owe_the_same_in_the_state.ensures.has v.debts })
    (λ rs vs d. c.arrivals_of_one_turn_are_few.ensures.turn s (state_with v rs vs) t d (subst (λ (st : State). IsCanonical st.rows.seats) same canonical.seats) (subst (λ (st : State). length st.rows.seats ≤ most) same (agree.few s n x h)))
    room (subst (λ (st : State). is_running (seat_of st.rows t) ≡ true) same seat) (subst (λ (st : State). IsOwn s st t k) same own)

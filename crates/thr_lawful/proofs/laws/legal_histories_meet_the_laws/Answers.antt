use Rattle.thr_lawful.proofs.laws.legal_histories_meet_the_laws.Goals as goal

pub returns : goal.returns
returns c s n entries stop formed legal = record {
  routes = c.each_unwinding_takes_its_route.ensures s n entries stop formed legal;
  owners = c.no_mutex_has_two_owners.ensures.legal s n entries stop legal;
  cancels = c.cancels_are_delivered_when_they_must_and_may_be.ensures s n entries stop legal;
  calls = c.each_call_is_answered_once.ensures s n entries stop legal;
}

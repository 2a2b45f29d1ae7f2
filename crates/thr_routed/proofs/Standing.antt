-- What a thread can come to have still to do stands at its lines, and so its tries have the ways that the lines tell.
use Rattle.std.proofs.Common.{◌≡◌, ℕ, List, ◌∷◌, sym, subst}
use Rattle.thr_syntax.specs.Lines.{lines_of}
use Rattle.thr_syntax.specs.declared.tree.Script.{Script}
use Rattle.thr_remainder.specs.Acts.{Act, Tries, Returns}
use Rattle.thr_remainder.specs.Remainders.{Item, Setting, Remainder, Role, Place, Nowhere, AtEnd, At, place_in, act_at}
use Rattle.thr_remainder.specs.Steps.{quiet, shared_step}
use Rattle.thr_remainder.specs.Starts.{begins_once, begins_destructor}
use Rattle.thr_remainder.specs.Outward.{outward}
use Rattle.thr_remainder.specs.Replies.{replied}
use Rattle.thr_answers.specs.Standing.{AreItems, StandsIn}
use Rattle.thr_answers.proofs.StepsStand.{IsPlace, place_stands, fresh_stands, quiet_keeps, shared_keeps, outward_keeps, replied_keeps, once_keeps, destructor_keeps}
use Rattle.thr_routed.specs.Courses.{HasClauses}
use Rattle.thr_routed.specs.Reaching.{Reached, freshly, quietly, by_shared_step, outwardly, by_undoing, by_reply, by_raise, by_delivery, by_once, by_destructor, AnyWays, TellsWays, IsRightAct, IsRightAt, IsRight}
use Rattle.thr_routed.proofs.TryLines.{tries_tell}

of_script : (g : Setting) (s : Script) (r m : Remainder) → g.script ≡ s → (StandsIn g.script r → StandsIn g.script m) → StandsIn s r → StandsIn s m
of_script g s r m e f h = subst (λ x. StandsIn x m) e (f (subst (λ x. StandsIn x r) (sym e) h))

outer_stand : (s : Script) (items outer : List Item) (i : Item) → items ≡ i ∷ outer → AreItems (lines_of s) items → AreItems (lines_of s) outer
outer_stand s items outer i e h = (let k : AreItems (lines_of s) (i ∷ outer) = subst (AreItems (lines_of s)) e h in k.2)

pub reached_stands : (s : Script) (r : Remainder) → Reached s r → StandsIn s r
reached_stands s r (freshly routine n) = fresh_stands s routine n
reached_stands s m (quietly g r e h) = of_script g s r (quiet g r).to e (quiet_keeps g r) (reached_stands s r h)
reached_stands s m (by_shared_step g shared r e h) = of_script g s r (shared_step g shared r).to e (shared_keeps g shared r) (reached_stands s r h)
reached_stands s m (outwardly g u r e h under) = of_script g s r (outward g u r).to e (outward_keeps g u r) (reached_stands s r h)
reached_stands s m (by_undoing scope u i outer r e h) = (let has : StandsIn s r = reached_stands s r h in record { items = outer_stand s r.items outer i e has.items })
reached_stands s m (by_reply g y r e h) = of_script g s r (replied g y r).to e (replied_keeps g y r) (reached_stands s r h)
reached_stands s m (by_raise x r h) = (let has : StandsIn s r = reached_stands s r h in record { items = has.items })
reached_stands s m (by_delivery r h) = (let has : StandsIn s r = reached_stands s r h in record { items = has.items })
reached_stands s m (by_once g block routine r e h) = of_script g s r (begins_once g block routine r).to e (once_keeps g block routine r) (reached_stands s r h)
reached_stands s m (by_destructor g key routine n r e h) = of_script g s r (begins_destructor g key routine n r).to e (destructor_keeps g key routine n r) (reached_stands s r h)

right_act : (s : Script) (line : ℕ) (role : Role) (act : Act) → TellsWays s line act → IsRightAct AnyWays ⊥ line role act → IsRightAct (HasClauses s) ⊥ line role act
right_act s line role (Tries body ways) tells h = tells
right_act s line role (Returns e) tells h = h
right_act s line role _ tells h = tt

right_at : (s : Script) (p : Place) → IsPlace (lines_of s) p → IsRightAt AnyWays ⊥ p → IsRightAt (HasClauses s) ⊥ p
right_at s Nowhere here h = tt
right_at s (AtEnd close role outer) here h = tt
right_at s (At x) here h = right_act s x.line x.role (act_at x) (tries_tell s x.stmt x.line x.rest here.here) h

-- Where returns leave no scope, tries and returns are right.
pub right_ways : (s : Script) → IsRight s AnyWays ⊥ → IsRight s (HasClauses s) ⊥
right_ways s right = record { at = λ r h. (let has : StandsIn s r = reached_stands s r h in right_at s (place_in r.items) (place_stands (lines_of s) r.items has.items) (right.at r h)) }

use Rattle.std.proofs.Common.{◌≡◌, None, Some, ◌∙◌, ap, sym, inr}
use Rattle.std.specs.Option.{is_some, option_copied_mut, ghost_name_of}
use borrow.Follows.Closed.{read_of}
use Rattle.thr_parts.specs.Tables.{get, put}
use Rattle.thr_parts.proofs.TableLaws.{has_get}
use Rattle.thr_stacks.proofs.KeyLaws.{kept_written, written_values, lent, missed, mutably_some}
use Rattle.thr_stacks.proofs.stacks.Stacks.lend_mut.Goals as goal

pub invariant_of-self-lent : goal.invariant_of-self-lent
invariant_of-self-lent c = λ r. ((λ w. kept_written c.self.inside.keys c.self.inside.slab c.args.t.0 c.in-Some.key w c.self.invariant (sym c.in-Some.ensures.value)), c.self.invariant)

pub returns-in-None : goal.returns-in-None
returns-in-None c =
    let value : None ≡ get c.args.self.now c.args.t.0 =
    sym (missed c.self.inside.keys c.self.inside.slab c.args.t.0 c.self.invariant (sym c.in-None.ensures.value)) ∙ ap (λ m. get m c.args.t.0) c.self.view_is in
    ((λ i. inr (c.self.view_is i)), record { writes_back = tt; value = value; known = ap is_some value ∙ sym (has_get c.args.self.now c.args.t.0) })

pub returns-in-Some : goal.returns-in-Some
returns-in-Some c =
    let stood : get c.self.inside.keys c.args.t.0 ≡ Some c.in-Some.key = sym c.in-Some.ensures.value in
    let value : option_copied_mut c.get_mut.result ≡ get c.args.self.now c.args.t.0 =
    c.get_mut.ensures.value ∙ lent c.self.inside.keys c.self.inside.slab c.args.t.0 c.in-Some.key c.self.invariant stood ∙ ap (λ m. get m c.args.t.0) c.self.view_is in (
      (λ i. read_of (ghost_name_of c.get_mut.result)
          (λ w. (written_values c.self.inside.keys c.self.inside.slab c.args.t.0 c.in-Some.key w c.self.invariant stood ∙ ap (λ m. put m c.args.t.0 w) c.self.view_is) i) (c.self.view_is i)),
      record { writes_back = tt; value = value; known = mutably_some c.get_mut.result (get c.args.self.now c.args.t.0) value ∙ sym (has_get c.args.self.now c.args.t.0) },
    )

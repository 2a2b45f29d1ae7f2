use Rattle.std.proofs.Common.{◌≡◌, ℕ, ◌+◌, ◌∙◌, ap, sym, subst, arith, length, None, Some}
use Rattle.thr_parts.specs.Tables.{Table, get, put}
use Rattle.thr_tables.specs.Places.{has_place}
use Rattle.thr_stacks.specs.Keys.{IsKept, values_by}
use Rattle.thr_stacks.proofs.KeyLaws.{room_for_key, place_values, put_same, longer, no_number, put_values, kept_put}
use Rattle.thr_stacks.proofs.stacks.Stacks.put.Goals as goal

pub replace-requires : goal.replace-requires
replace-requires c = record { stands = c.self.invariant.stored c.args.t.0 c.in-Some.key (sym c.in-Some.ensures.value) }

pub insert_reserved-key-requires : goal.insert_reserved-key-requires
insert_reserved-key-requires c =
    room_for_key c.self.inside.keys c.self.inside.slab c.args.self.now c.args.t.0 c.self.invariant c.self.view_is (sym c.in-None.ensures.value) c.requires.room

pub put-requires : goal.put-requires
put-requires c = (
  omega arith,
  sym (place_values c.self.inside.keys c.self.inside.slab c.args.t.0 1024 c.self.invariant) ∙ ap (λ m. has_place m c.args.t.0 1024) c.self.view_is ∙ c.requires.room,
)

pub invariant_of-self : goal.invariant_of-self
invariant_of-self c =
    let key = c.in-Some.key in
    let stood : get c.self.inside.keys c.args.t.0 ≡ Some key = sym c.in-Some.ensures.value in
    let same : put c.self.inside.keys c.args.t.0 key ≡ c.self.inside.keys = put_same c.self.inside.keys c.args.t.0 key c.self.invariant.rises stood in
    subst (λ (keys : Table ℕ). IsKept keys c.replace.new.slab) same
    (kept_put c.self.inside.keys c.self.inside.slab c.replace.new.slab c.args.t.0 key c.args.stack c.self.invariant c.replace.ensures.updates
    (λ q e. c.self.invariant.alone c.args.t.0 q key stood e) (c.replace.ensures.as_many ∙ c.self.invariant.as_many ∙ ap length (sym same)) c.replace.ensures.capacity)

pub returns-in-Some : goal.returns-in-Some
returns-in-Some c =
    let key = c.in-Some.key in
    let stood : get c.self.inside.keys c.args.t.0 ≡ Some key = sym c.in-Some.ensures.value in
    ap (λ (keys : Table ℕ). values_by keys c.replace.new.slab) (sym (put_same c.self.inside.keys c.args.t.0 key c.self.invariant.rises stood))
    ∙ put_values c.self.inside.keys c.self.inside.slab c.replace.new.slab c.args.t.0 key c.args.stack c.self.invariant c.replace.ensures.updates
    (λ q e. c.self.invariant.alone c.args.t.0 q key stood e)
    ∙ ap (λ m. put m c.args.t.0 c.args.stack) c.self.view_is

pub invariant_of-self-in-None : goal.invariant_of-self-in-None
invariant_of-self-in-None c =
    let key = c.insert_reserved-key.result in
    let missing : get c.self.inside.keys c.args.t.0 ≡ None = sym c.in-None.ensures.value in
    subst (λ (keys : Table ℕ). IsKept keys c.insert_reserved-key.new.self) (sym c.put.ensures)
    (kept_put c.self.inside.keys c.self.inside.slab c.insert_reserved-key.new.self c.args.t.0 key c.args.stack c.self.invariant c.insert_reserved-key.ensures.updates
    (λ q e. no_number c.self.inside.keys c.self.inside.slab c.args.t.0 q key c.self.invariant c.insert_reserved-key.ensures.was_vacant e)
    (c.insert_reserved-key.ensures.len ∙ ap (λ n. n + 1) c.self.invariant.as_many ∙ sym (longer c.self.inside.keys c.args.t.0 key c.self.invariant.rises missing))
    c.insert_reserved-key.ensures.capacity)

pub returns-in-None : goal.returns-in-None
returns-in-None c =
    let key = c.insert_reserved-key.result in
    ap (λ (keys : Table ℕ). values_by keys c.insert_reserved-key.new.self) c.put.ensures
    ∙ put_values c.self.inside.keys c.self.inside.slab c.insert_reserved-key.new.self c.args.t.0 key c.args.stack c.self.invariant c.insert_reserved-key.ensures.updates
    (λ q e. no_number c.self.inside.keys c.self.inside.slab c.args.t.0 q key c.self.invariant c.insert_reserved-key.ensures.was_vacant e)
    ∙ ap (λ m. put m c.args.t.0 c.args.stack) c.self.view_is

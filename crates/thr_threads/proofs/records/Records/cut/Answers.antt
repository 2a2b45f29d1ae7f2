use Rattle.std.proofs.Common.{◌≡◌, ℕ, ◌+◌, ◌∙◌, ap, sym, subst, arith, length, true, Some}
use Rattle.std.specs.Option.{is_some, option_map}
use Rattle.thr_parts.specs.Tables.{Table, get, has, cut}
use Rattle.thr_parts.proofs.TableLaws.{has_get}
use Rattle.thr_threads.specs.Records.{IsKept, record_under, records_by}
use Rattle.thr_threads.proofs.RecordLaws.{has_key, get_records, canonical_records, cut_same, cut_records, kept_cut}
use Rattle.thr_threads.proofs.records.Records.cut.Goals as goal

pub remove-requires : goal.remove-requires
remove-requires c = has_key c.self.inside.keys c.self.inside.slab c.args.t.0 c.in-Some.key c.self.invariant (sym c.in-Some.ensures.value)

pub invariant_of-self : goal.invariant_of-self
invariant_of-self c =
    let stood : get c.self.inside.keys c.args.t.0 ≡ Some c.in-Some.key = sym c.in-Some.ensures.value in
    let known : has c.self.inside.keys c.args.t.0 ≡ true = has_get c.self.inside.keys c.args.t.0 ∙ ap is_some stood in
    let count : length c.cut.new.self + 1 ≡ length c.self.inside.keys = c.cut.ensures.one_fewer known in
    subst (λ (keys : Table ℕ). IsKept keys c.remove.new.self) (sym c.cut.ensures.value)
    (kept_cut c.self.inside.keys c.self.inside.slab c.remove.new.self c.args.t.0 c.in-Some.key c.self.invariant c.remove.ensures.updates stood
    (omega (arith, c.remove.ensures.len, c.self.invariant.as_many, count) ∙ ap length c.cut.ensures.value) c.remove.ensures.capacity)

pub returns-in-None : goal.returns-in-None
returns-in-None c =
    let missing = get_records c.self.inside.keys c.self.inside.slab c.args.t.0 ∙ ap (option_map (record_under c.self.inside.slab)) (sym c.in-None.ensures.value) in
    rw (← c.self.view_is) (cut_same (records_by c.self.inside.keys c.self.inside.slab) c.args.t.0 (canonical_records c.self.inside.keys c.self.inside.slab c.self.invariant.rises) missing)

pub returns-in-Some : goal.returns-in-Some
returns-in-Some c =
    ap (λ (keys : Table ℕ). records_by keys c.remove.new.self) c.cut.ensures.value
    ∙ cut_records c.self.inside.keys c.self.inside.slab c.remove.new.self c.args.t.0 c.in-Some.key c.self.invariant c.remove.ensures.updates (sym c.in-Some.ensures.value)
    ∙ ap (λ m. cut m c.args.t.0) c.self.view_is

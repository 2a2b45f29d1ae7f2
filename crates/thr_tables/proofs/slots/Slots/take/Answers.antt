use Rattle.std.proofs.Common.{rules, ◌<◌, ap, ◌∙◌, sym, subst, length, is_some, set}
use Rattle.thr_parts.specs.Tables.{present, put, IsCanonical}
use Rattle.thr_parts.proofs.TableLaws.{has_get, cut_present, put_cut, canonical_present}
use Rattle.thr_tables.proofs.SlotLaws.{get_slot, cut_absent}
use Rattle.thr_tables.proofs.slots.Slots.take.Goals as goal

pub returns-clause-value : goal.returns-clause-value
returns-clause-value g c =
    let h : c.args.name.0 < length c.self.inside.items.items = search rules in
    c.replace.ensures.value ∙ rw (← c.self.view_is) (get_slot c.self.inside.items.items c.args.name.0 c.index_mut.result.now h c.index_mut.ensures.value)

pub returns-clause-known : goal.returns-clause-known
returns-clause-known g c = ap is_some (returns-clause-value g c) ∙ sym (has_get c.args.self.now c.args.name.0)

pub returns-clause-table : goal.returns-clause-table
returns-clause-table g c =
    let h : c.args.name.0 < length c.self.inside.items.items = search rules in
    ap (λ o. present 0 (set c.self.inside.items.items c.args.name.0 o)) c.replace.ensures.after
    ∙ rw (← c.self.view_is) (sym (cut_present c.self.inside.items.items c.args.name.0 h))

pub returns-clause-absent : goal.returns-clause-absent
returns-clause-absent g c =
    cut_absent c.args.self.now _ c.args.name.0 c.replace.result (subst IsCanonical c.self.view_is (canonical_present 0 c.self.inside.items.items)) (returns-clause-value g c) (returns-clause-table g c)

pub returns-clause-back : goal.returns-clause-back
returns-clause-back g c = λ v.
    ap (λ m. put m c.args.name.0 v) (returns-clause-table g c)
    ∙ rw (← c.self.view_is) (put_cut (present 0 c.self.inside.items.items) c.args.name.0 v (canonical_present 0 c.self.inside.items.items))

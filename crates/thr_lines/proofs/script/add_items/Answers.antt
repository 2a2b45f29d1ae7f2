use Rattle.std.proofs.Common.{◌≡◌, ◌+◌, nat_lt, length, refl, arith, ap, drop, ◌∙◌}
use Rattle.std.specs.Option.{option_or}
use Rattle.thr_syntax.specs.Lines.{item_lines}
use Rattle.thr_remainder.specs.Declarations.{exception_in}
use Rattle.thr_lines.specs.Tables.{found, start_in}
use Rattle.thr_lines.proofs.ItemLaws.{item_more, items_end, item_step}
use Rattle.thr_lines.proofs.TableLaws.{routines_more, exceptions_more, routines_end, exceptions_end}
use Rattle.thr_lines.proofs.script.add_items.Goals as goal

pub note-requires : goal.note-requires
note-requires c =
    let x = c.index-items-i.result in
    omega (arith, c.len-line.ensures.count, c.len.ensures.count, item_step c.loop-i.rows c.add_item.new.rows x (nat_lt (c.loop-i.i + 1) (length c.args.items.now)) c.in_ok-add_item.ensures)

pub loop-i-preserved : goal.loop-i-preserved
loop-i-preserved c =
    let x = c.index-items-i.result in
    let more = nat_lt (c.loop-i.i + 1) (length c.args.items.now) in
    let line : c.len-line.result + 1 ≡ length c.loop-i.rows + 1 = ap (λ n. n + 1) c.len-line.ensures.count in
    let next : length c.add_item.new.rows + 1 ≡ c.len-line.result + 1 + length (item_lines x) = omega (arith, c.len-line.ensures.count, item_step c.loop-i.rows c.add_item.new.rows x more c.in_ok-add_item.ensures) in
    record {
      rows = item_more c.args.rows.now c.loop-i.rows c.add_item.new.rows c.args.items.now c.loop-i.i x more c.loop-i-test.true c.index-items-i.is refl c.loop-i.invariant.rows c.in_ok-add_item.ensures;
      routines = routines_more c.args.items.now c.loop-i.i x c.loop-i.names.routines.slots.items c.note.new.self.routines.slots.items
          (λ k. option_or (found c.args.names.now.routines.slots.items k.0) (start_in (length c.args.rows.now + 1) c.args.items.now k)) (c.len-line.result + 1) (length c.add_item.new.rows + 1)
          c.loop-i-test.true c.index-items-i.is next (λ k. ap (λ n. option_or (found c.loop-i.names.routines.slots.items k.0) (start_in n (drop c.loop-i.i c.args.items.now) k)) line ∙ c.loop-i.invariant.routines k) c.in_ok-note.ensures.routines;
      exceptions = exceptions_more c.args.items.now c.loop-i.i x c.loop-i.names.exceptions.slots.items c.note.new.self.exceptions.slots.items
          (λ k. option_or (found c.args.names.now.exceptions.slots.items k.0) (exception_in c.args.items.now k))
          c.loop-i-test.true c.index-items-i.is c.loop-i.invariant.exceptions c.in_ok-note.ensures.exceptions;
    }

pub returns-clause-rows : goal.returns-clause-rows
returns-clause-rows c = items_end c.args.rows.now c.loop-i.rows c.args.items.now c.loop-i.i c.loop-i-test.false c.loop-i.invariant.rows

pub returns-clause-routines : goal.returns-clause-routines
returns-clause-routines c =
    routines_end c.loop-i.names.routines.slots.items c.args.items.now c.loop-i.i (length c.loop-i.rows + 1) (λ k. option_or (found c.args.names.now.routines.slots.items k.0) (start_in (length c.args.rows.now + 1) c.args.items.now k))
    c.loop-i-test.false c.loop-i.invariant.routines

pub returns-clause-exceptions : goal.returns-clause-exceptions
returns-clause-exceptions c =
    exceptions_end c.loop-i.names.exceptions.slots.items c.args.items.now c.loop-i.i (λ k. option_or (found c.args.names.now.exceptions.slots.items k.0) (exception_in c.args.items.now k)) c.loop-i-test.false c.loop-i.invariant.exceptions

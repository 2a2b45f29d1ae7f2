use Rattle.std.proofs.Common.{◌≡◌, ℕ, ◌+◌, length, ap, sym, ◌∙◌}
use Rattle.std.proofs.lemmas.Result.{on_ok_weaker}
use Rattle.std.specs.Option.{option_or}
use Rattle.thr_syntax.specs.declared.tree.Item.{Item}
use Rattle.thr_syntax.specs.Lines.{item_lines, routine_lines}
use Rattle.thr_remainder.specs.Starts.{at}
use Rattle.thr_lines.specs.declared.start.Start.{Start}
use Rattle.thr_lines.specs.Tables.{found, only, start_here}
use Rattle.thr_lines.proofs.TableLaws.{only_start}
use Rattle.thr_lines.proofs.names.Names.note.Goals as goal

pub returns-in-Routine-clause-routines : goal.returns-in-Routine-clause-routines
returns-in-Routine-clause-routines c =
    let r = c.in-Routine.routine in
    let before = λ (n : ℕ). found c.args.self.now.routines.slots.items n in
    let start : ℕ → Start = λ count. record { line = at c.args.line; body = at (c.args.line + count); close = at c.args.last } in
    let size : c.args.line + length (routine_lines r) ≡ c.args.last + 1 = ap (λ (i : Item). c.args.line + length (item_lines i)) (sym c.in-Routine.is) ∙ c.requires in
    on_ok_weaker c.note-in-Routine.result (λ f k.
    f k.0
    ∙ ap (λ count. option_or (before k.0) (only r.name.0 (start count) k.0)) c.len-locals.ensures
    ∙ ap (option_or (before k.0)) (only_start c.args.line c.args.last r k size)
    ∙ ap (λ (i : Item). option_or (before k.0) (start_here c.args.line i k)) (sym c.in-Routine.is)) c.note-in-Routine.ensures

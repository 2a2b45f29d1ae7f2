use Rattle.std.proofs.Common.{◌≡◌, ◌∙◌, ap, subst, pos}
use Rattle.thr_values.specs.declared.number.NameId.{NameId}
use Rattle.thr_syntax.specs.declared.tree.Script.{Script}
use Rattle.thr_parts.specs.Rows.{thread}
use Rattle.thr_machine.specs.Books.{main_in}
use Rattle.thr_machine.specs.Stepping.{HasBegun}
use Rattle.thr_machine.proofs.OpeningLaws.{main-is}
use Rattle.thr_machine.proofs.opening.first_stack.Goals as goal

pub returns : goal.returns
returns c =
    subst (λ (name : NameId). HasBegun c.args.lines.now (thread 1) 256 name (pos 0) c.begin_on.new.stack)
    (c.main_of-main.ensures ∙ ap main_in c.as_slice.ensures ∙ ap (λ (s : Script). main_in s.names) c.script.ensures ∙ main-is c.args.lines.now) c.begin_on.ensures

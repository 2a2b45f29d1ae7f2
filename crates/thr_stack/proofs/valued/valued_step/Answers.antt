use Rattle.std.proofs.Common.{◌≡◌, ◌∙◌, ℤ, ap, sym, subst, Ok, Err, arith, w64}
use Rattle.std.proofs.lemmas.Int.{to_z-of_z, ints}
use mir.Val.{SFits, to_z, of_z}
use Rattle.thr_stack.specs.Forms.{write_from}
use Rattle.thr_stack.specs.Sights.{shared_of}
use Rattle.thr_stack.specs.Statements.{Carries}
use Rattle.thr_stack.proofs.Outcomes.{valued_raises, valued_goes, valued_writes, fault_writes}
use Rattle.thr_stack.proofs.valued.valued_step.Goals as goal

pub returns-in-Err-clause-steps : goal.returns-in-Err-clause-steps
returns-in-Err-clause-steps c =
    let s = c.args.lines.now in
    let row = c.args.row.now in
    valued_raises s c.args.context.now c.raise.new.context c.args.notes.now c.raise.new.notes row row.form c.args.e.now c.args.tells (shared_of c.args.shared.now) c.requires.ready.stands c.requires.at c.requires.expression
    c.in-Err.x (sym c.outcome.ensures.value ∙ c.in-Err.is) (c.raise.ensures s c.requires.ready.stands.good)

pub returns-in-Err-clause-written : goal.returns-in-Err-clause-written
returns-in-Err-clause-written c =
    let row = c.args.row.now in
    sym (valued_writes c.args.lines.now c.args.context.now c.raise.new.context c.args.notes.now c.raise.new.notes row row.form c.args.e.now c.args.tells (shared_of c.args.shared.now) c.requires.ready.stands c.requires.at c.requires.expression
    (Err c.in-Err.x) (sym c.outcome.ensures.value ∙ c.in-Err.is) ∙ fault_writes row.form c.in-Err.x)

pub returns-in-Ok-clause-steps : goal.returns-in-Ok-clause-steps
returns-in-Ok-clause-steps c =
    let s = c.args.lines.now in
    let k = c.args.context.now in
    let row = c.args.row.now in
    let n = c.in-Ok.n in
    let fits : SFits w64 n = search (arith, ints) in
    let back : to_z w64 (of_z w64 n) ≡ n = to_z-of_z w64 n fits in
    valued_goes s k c.carry_out.new.context c.args.notes.now c.carry_out.new.notes row row.form c.args.e.now c.args.tells (shared_of c.args.shared.now) c.requires.ready.stands c.requires.at c.requires.expression
    n (sym c.outcome.ensures.value ∙ c.in-Ok.is) (subst (λ (m : ℤ). Carries s c.args.tells m k c.carry_out.new.context c.args.notes.now c.carry_out.new.notes) back c.carry_out.ensures)

pub returns-in-Ok-clause-written : goal.returns-in-Ok-clause-written
returns-in-Ok-clause-written c =
    let row = c.args.row.now in
    let n = c.in-Ok.n in
    let fits : SFits w64 n = search (arith, ints) in
    let back : to_z w64 (of_z w64 n) ≡ n = to_z-of_z w64 n fits in
    c.write_of.ensures ∙ ap (λ (m : ℤ). write_from row.form (Ok m)) back
    ∙ sym (valued_writes c.args.lines.now c.args.context.now c.carry_out.new.context c.args.notes.now c.carry_out.new.notes row row.form c.args.e.now c.args.tells (shared_of c.args.shared.now) c.requires.ready.stands c.requires.at c.requires.expression
    (Ok n) (sym c.outcome.ensures.value ∙ c.in-Ok.is))

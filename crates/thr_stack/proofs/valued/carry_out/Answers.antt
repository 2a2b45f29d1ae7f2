use Rattle.std.proofs.Common.{◌≡◌, ◌∙◌, ◌++◌, ℤ, [], if◌then◌else◌, sym, subst, append-nil, arith, w64}
use Rattle.std.proofs.lemmas.Int.{to_z-of_z, ints}
use mir.Val.{SFits, to_z, of_z}
use Rattle.thr_remainder.specs.Starts.{exited}
use Rattle.thr_lines.specs.Layout.{line_at, last_line}
use Rattle.thr_lines.specs.AtLines.{FormAt}
use Rattle.thr_stack.specs.Forms.{told_by}
use Rattle.thr_stack.specs.Statements.{GoesOn}
use Rattle.thr_stack.specs.Standing.{Makes, remainder_of}
use Rattle.thr_stack.proofs.Outcomes.{is_carried, carries, carries_exit}
use Rattle.thr_stack.proofs.valued.carry_out.Goals as goal

pub returns-in-Exit : goal.returns-in-Exit
returns-in-Exit c =
    let s = c.args.lines.now in
    let k = c.args.context.now in
    let row = c.args.row.now in
    let at = subst (FormAt (line_at s) (last_line s) k.line row) c.in-Exit.is c.requires.at in
    let fits : SFits w64 c.args.n = search (arith, ints) in
    let back : to_z w64 (of_z w64 c.args.n) ≡ c.args.n = to_z-of_z w64 c.args.n fits in
    carries_exit s k c.exit.new.context c.args.notes.now c.exit.new.notes row c.in-Exit.field-0 c.args.tells c.args.n c.requires.ready.stands at
    (subst (λ (m : ℤ). Makes s (exited m (remainder_of s k)) k c.exit.new.context c.args.notes.now c.exit.new.notes) back (c.exit.ensures s c.requires.ready.stands.good))

pub returns-then-tells : goal.returns-then-tells
returns-then-tells c =
    let s = c.args.lines.now in
    let k = c.args.context.now in
    let row = c.args.row.now in
    let before = c.args.notes.now in
    let fits : SFits w64 c.args.n = search (arith, ints) in
    let back : to_z w64 (of_z w64 c.args.n) ≡ c.args.n = to_z-of_z w64 c.args.n fits in
    carries s k c.go_on.new.context before c.tell.new.notes row row.form c.args.tells c.args.n c.requires.ready.stands c.requires.at c.requires.expression (is_carried row.form c.requires.expression c.in_default.not-Exit)
    (subst (λ (m : ℤ). GoesOn s m k c.go_on.new.context) back c.go_on.ensures)
    (c.tell.ensures ∙ (λ i. before ++ (if sym c.if-tells.true i then told_by row.form k.line (back i) else [])))

pub returns-else-tells : goal.returns-else-tells
returns-else-tells c =
    let s = c.args.lines.now in
    let k = c.args.context.now in
    let row = c.args.row.now in
    let before = c.args.notes.now in
    let fits : SFits w64 c.args.n = search (arith, ints) in
    let back : to_z w64 (of_z w64 c.args.n) ≡ c.args.n = to_z-of_z w64 c.args.n fits in
    carries s k c.go_on.new.context before before row row.form c.args.tells c.args.n c.requires.ready.stands c.requires.at c.requires.expression (is_carried row.form c.requires.expression c.in_default.not-Exit)
    (subst (λ (m : ℤ). GoesOn s m k c.go_on.new.context) back c.go_on.ensures)
    (sym (append-nil before) ∙ (λ i. before ++ (if sym c.if-tells.false i then told_by row.form k.line c.args.n else [])))

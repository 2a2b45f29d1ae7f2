use Rattle.std.proofs.Common.{◌∙◌, ◌++◌, ◌∷◌, [], List, ℕ, ℤ, ap, arith}
use Rattle.std.specs.Fmt.{signed_decimal}
use Rattle.std.proofs.lemmas.Int.{to_z-of_z, ints}
use mir.Val.{SFits}
use mir.Syntax.{w64}
use Rattle.std.proofs.lemmas.Result.{on_ok_weaker}
use Rattle.thr_syntax.specs.declared.expr.Expr.{Expr}
use Rattle.thr_syntax.specs.Spelling.{expr_words}
use Rattle.thr_grammar.specs.Printing.{scope_of, spaced}
use Rattle.thr_grammar.proofs.SpacedLaws.{adds-Num, adds-Var, adds-Me, adds-Err, adds-Two, adds-Not, adds-GetStatus, adds-Matches}
use Rattle.thr_grammar.proofs.printing.expression.+add_expression.Goals as goal

pub returns-in-Num : goal.returns-in-Num
returns-in-Num t c =
    let fits : SFits w64 c.in-Num.n = search (arith, ints) in
    on_ok_weaker c.add_number.result
    (λ adds. adds-Num (scope_of c.args.scope.now) c.args.out.now.items c.add_number.new.out.items c.args.e.now c.in-Num.n c.in-Num.is (adds ∙ ap (λ (n : ℤ). c.args.out.now.items ++ spaced (signed_decimal n ∷ [])) (to_z-of_z w64 c.in-Num.n fits)))
    c.add_number.ensures

pub returns-in-Var : goal.returns-in-Var
returns-in-Var t c =
    on_ok_weaker c.add_word.result
    (λ adds. adds-Var (scope_of c.args.scope.now) c.args.out.now.items c.add_word.new.out.items c.args.e.now c.in-Var.v c.in-Var.is (adds ∙ ap (λ (w : List ℕ). c.args.out.now.items ++ spaced (w ∷ [])) c.variable.ensures))
    c.add_word.ensures

pub returns-in-Me : goal.returns-in-Me
returns-in-Me t c = on_ok_weaker c.add_word-in-Me.result (adds-Me (scope_of c.args.scope.now) c.args.out.now.items c.add_word-in-Me.new.out.items c.args.e.now c.in-Me.is) c.add_word-in-Me.ensures

pub returns-in-Err : goal.returns-in-Err
returns-in-Err t c = on_ok_weaker c.add_word-in-Err.result (adds-Err (scope_of c.args.scope.now) c.args.out.now.items c.add_word-in-Err.new.out.items c.args.e.now c.in-Err.is) c.add_word-in-Err.ensures

pub returns-in_ok-add_expression-in-Two : goal.returns-in_ok-add_expression-in-Two
returns-in_ok-add_expression-in-Two t c =
    on_ok_weaker c.add_expression-in-Two.result
    (λ adds. adds-Two (scope_of c.args.scope.now) c.args.out.now.items c.add_word-in-Two.new.out.items c.add_expression.new.out.items c.add_expression-in-Two.new.out.items c.operator_text.result.now c.args.e.now c.in-Two.a c.in-Two.b c.in-Two.op
    c.in-Two.is c.operator_text.ensures c.in_ok-add_word-in-Two.ensures
    (c.in_ok-add_expression-in-Two.ensures ∙ ap (λ (a : Expr). c.add_word-in-Two.new.out.items ++ spaced (expr_words (scope_of c.args.scope.now) a)) c.get.ensures)
    (adds ∙ ap (λ (b : Expr). c.add_expression.new.out.items ++ spaced (expr_words (scope_of c.args.scope.now) b)) c.get-in-Two.ensures))
    c.add_expression-in-Two.ensures

pub returns-in_ok-add_word-in-Not : goal.returns-in_ok-add_word-in-Not
returns-in_ok-add_word-in-Not t c =
    on_ok_weaker c.add_expression-in-Not.result
    (λ adds. adds-Not (scope_of c.args.scope.now) c.args.out.now.items c.add_word-in-Not.new.out.items c.add_expression-in-Not.new.out.items c.args.e.now c.in-Not.a c.in-Not.is c.in_ok-add_word-in-Not.ensures
    (adds ∙ ap (λ (a : Expr). c.add_word-in-Not.new.out.items ++ spaced (expr_words (scope_of c.args.scope.now) a)) c.get-in-Not.ensures))
    c.add_expression-in-Not.ensures

pub returns-in_ok-add_word-in-GetStatus : goal.returns-in_ok-add_word-in-GetStatus
returns-in_ok-add_word-in-GetStatus t c =
    on_ok_weaker c.add_word-in-GetStatus-2.result
    (adds-GetStatus (scope_of c.args.scope.now) c.args.out.now.items c.add_word-in-GetStatus.new.out.items c.add_word-in-GetStatus-2.new.out.items c.exception.result.now c.args.e.now c.in-GetStatus.x
    c.in-GetStatus.is c.exception.ensures c.in_ok-add_word-in-GetStatus.ensures)
    c.add_word-in-GetStatus-2.ensures

pub returns-in_ok-add_word-in-Matches-2 : goal.returns-in_ok-add_word-in-Matches-2
returns-in_ok-add_word-in-Matches-2 t c =
    on_ok_weaker c.add_word-in-Matches-3.result
    (adds-Matches (scope_of c.args.scope.now) c.args.out.now.items c.add_word-in-Matches.new.out.items c.add_word-in-Matches-2.new.out.items c.add_word-in-Matches-3.new.out.items c.exception-in-Matches.result.now c.exception-in-Matches-2.result.now c.args.e.now c.in-Matches.x c.in-Matches.y
    c.in-Matches.is c.exception-in-Matches.ensures c.exception-in-Matches-2.ensures c.in_ok-add_word-in-Matches.ensures c.in_ok-add_word-in-Matches-2.ensures)
    c.add_word-in-Matches-3.ensures

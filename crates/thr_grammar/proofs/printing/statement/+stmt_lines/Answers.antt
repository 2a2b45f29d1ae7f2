use Rattle.std.proofs.Common.{◌∙◌, ◌++◌, ◌∷◌, [], List, ℕ, Option, ap}
use Rattle.std.proofs.lemmas.Result.{on_ok_weaker}
use Rattle.thr_text.specs.Heads.{head_word}
use Rattle.thr_text.specs.declared.head.Head.TheVariants as head
use Rattle.thr_syntax.specs.declared.form.Form.TheVariants as form
use Rattle.thr_syntax.specs.declared.tree.Stmt.{Stmt, If}
use Rattle.thr_syntax.specs.Lines.{stmt_step, clause_step, stmt_lines}
use Rattle.thr_syntax.specs.Spelling.{expr_words, value_words}
use Rattle.thr_syntax.specs.Canon.{line}
use Rattle.thr_syntax.proofs.FoldLaws.{each_stmt-Set, each_stmt-Say, each_stmt-Raise, each_stmt-Reraise, each_stmt-Call, each_stmt-Return, each_stmt-Exit, each_stmt-Dce}
use Rattle.thr_grammar.specs.Printing.{scope_of}
use Rattle.thr_grammar.proofs.TreeTexts.{adds-one, adds-If, adds-If-else, adds-While, adds-TryCatch, adds-TryFinally, of_body, of_clauses, more_body, more_clauses}
use Rattle.thr_grammar.proofs.printing.statement.+stmt_lines.Goals as goal

pub add_body-loop-stmt-preserved : goal.add_body-loop-stmt-preserved
add_body-loop-stmt-preserved t c =
    more_body (scope_of c.args.scope.now) c.args.out.now.items c.loop-stmt.out.items c.add_stmt.new.out.items c.args.body.now c.loop-stmt.stmt-index c.stmt-item.result c.loop-stmt-test.true c.stmt-item.is c.loop-stmt.invariant c.in_ok-add_stmt.ensures

pub add_clauses-loop-clause-preserved : goal.add_clauses-loop-clause-preserved
add_clauses-loop-clause-preserved t c =
    more_clauses (scope_of c.args.scope.now) c.args.out.now.items c.loop-clause.out.items c.add_clause_line.new.out.items c.add_body.new.out.items c.args.clauses.now c.loop-clause.clause-index c.clause-item.result c.loop-clause-test.true c.clause-item.is c.loop-clause.invariant
    c.in_ok-add_clause_line.ensures (of_body (scope_of c.args.scope.now) c.add_clause_line.new.out.items c.add_body.new.out.items c.as_slice.result.now c.clause-item.result.body c.in_ok-add_body.ensures c.as_slice.ensures)

pub add_stmt-returns-in-Set : goal.add_stmt-returns-in-Set
unfolding head_word
add_stmt-returns-in-Set t c =
    on_ok_weaker c.add_with_value.result
    (λ adds. adds-one (scope_of c.args.scope.now) c.args.out.now.items c.add_with_value.new.out.items c.args.stmt.now (form.Set c.in-Set.v c.in-Set.e) (ap stmt_lines c.in-Set.is ∙ each_stmt-Set stmt_step clause_step c.in-Set.v c.in-Set.e) (adds ∙ ap (λ (w : List ℕ). c.args.out.now.items ++ line (head_word head.Set ∷ w ∷ expr_words (scope_of c.args.scope.now) c.in-Set.e)) c.variable.ensures))
    c.add_with_value.ensures

pub add_stmt-returns-in-Say : goal.add_stmt-returns-in-Say
unfolding head_word
add_stmt-returns-in-Say t c =
    on_ok_weaker c.add_value.result
    (adds-one (scope_of c.args.scope.now) c.args.out.now.items c.add_value.new.out.items c.args.stmt.now (form.Say c.in-Say.e) (ap stmt_lines c.in-Say.is ∙ each_stmt-Say stmt_step clause_step c.in-Say.e))
    c.add_value.ensures

pub add_stmt-returns-in-Raise : goal.add_stmt-returns-in-Raise
unfolding head_word
add_stmt-returns-in-Raise t c =
    on_ok_weaker c.add_with.result
    (λ adds. adds-one (scope_of c.args.scope.now) c.args.out.now.items c.add_with.new.out.items c.args.stmt.now (form.Raise c.in-Raise.name) (ap stmt_lines c.in-Raise.is ∙ each_stmt-Raise stmt_step clause_step c.in-Raise.name) (adds ∙ ap (λ (w : List ℕ). c.args.out.now.items ++ line (head_word head.Raise ∷ w ∷ [])) c.name.ensures))
    c.add_with.ensures

pub add_stmt-returns-in-Reraise : goal.add_stmt-returns-in-Reraise
unfolding head_word
add_stmt-returns-in-Reraise t c =
    on_ok_weaker c.add_bare-in-Reraise.result
    (adds-one (scope_of c.args.scope.now) c.args.out.now.items c.add_bare-in-Reraise.new.out.items c.args.stmt.now form.Reraise (ap stmt_lines c.in-Reraise.is ∙ each_stmt-Reraise stmt_step clause_step))
    c.add_bare-in-Reraise.ensures

pub add_stmt-returns-in-Call : goal.add_stmt-returns-in-Call
unfolding head_word
add_stmt-returns-in-Call t c =
    on_ok_weaker c.add_call_line.result
    (λ adds. adds-one (scope_of c.args.scope.now) c.args.out.now.items c.add_call_line.new.out.items c.args.stmt.now (form.Call c.in-Call.name c.in-Call.e c.in-Call.v) (ap stmt_lines c.in-Call.is ∙ each_stmt-Call stmt_step clause_step c.in-Call.name c.in-Call.e c.in-Call.v) (adds ∙ ap (λ (w : List ℕ). c.args.out.now.items ++ line (head_word head.Call ∷ w ∷ (expr_words (scope_of c.args.scope.now) c.in-Call.e ++ value_words (scope_of c.args.scope.now) c.in-Call.v))) c.name-in-Call.ensures))
    c.add_call_line.ensures

pub add_stmt-returns-in-Return : goal.add_stmt-returns-in-Return
unfolding head_word
add_stmt-returns-in-Return t c =
    on_ok_weaker c.add_value-in-Return.result
    (adds-one (scope_of c.args.scope.now) c.args.out.now.items c.add_value-in-Return.new.out.items c.args.stmt.now (form.Return c.in-Return.e) (ap stmt_lines c.in-Return.is ∙ each_stmt-Return stmt_step clause_step c.in-Return.e))
    c.add_value-in-Return.ensures

pub add_stmt-returns-in-Exit : goal.add_stmt-returns-in-Exit
unfolding head_word
add_stmt-returns-in-Exit t c =
    on_ok_weaker c.add_value-in-Exit.result
    (adds-one (scope_of c.args.scope.now) c.args.out.now.items c.add_value-in-Exit.new.out.items c.args.stmt.now (form.Exit c.in-Exit.e) (ap stmt_lines c.in-Exit.is ∙ each_stmt-Exit stmt_step clause_step c.in-Exit.e))
    c.add_value-in-Exit.ensures

pub add_stmt-returns-in-Dce : goal.add_stmt-returns-in-Dce
unfolding head_word
add_stmt-returns-in-Dce t c =
    on_ok_weaker c.add_dce.result
    (adds-one (scope_of c.args.scope.now) c.args.out.now.items c.add_dce.new.out.items c.args.stmt.now (form.Dce c.in-Dce.call) (ap stmt_lines c.in-Dce.is ∙ each_stmt-Dce stmt_step clause_step c.in-Dce.call))
    c.add_dce.ensures

pub add_stmt-returns-in-None : goal.add_stmt-returns-in-None
unfolding head_word
add_stmt-returns-in-None t c =
    on_ok_weaker c.add_bare.result
    (adds-If (scope_of c.args.scope.now) c.args.out.now.items c.add_value-in-If.new.out.items c.add_body.new.out.items c.add_bare.new.out.items c.args.stmt.now c.in-If.e c.in-If.body
    (c.in-If.is ∙ ap (λ (o : Option (List Stmt)). If c.in-If.e c.in-If.body o) c.in-None.is)
    c.in_ok-add_value-in-If.ensures (of_body (scope_of c.args.scope.now) c.add_value-in-If.new.out.items c.add_body.new.out.items c.as_slice.result.now c.in-If.body c.in_ok-add_body-in-If.ensures c.as_slice.ensures))
    c.add_bare.ensures

pub add_stmt-returns-in_ok-add_body-in-Some : goal.add_stmt-returns-in_ok-add_body-in-Some
unfolding head_word
add_stmt-returns-in_ok-add_body-in-Some t c =
    on_ok_weaker c.add_bare-in-Some-2.result
    (adds-If-else (scope_of c.args.scope.now) c.args.out.now.items c.add_value-in-If.new.out.items c.add_body.new.out.items c.add_bare-in-Some.new.out.items c.add_body-in-Some.new.out.items c.add_bare-in-Some-2.new.out.items c.args.stmt.now c.in-If.e c.in-If.body c.in-Some.other
    (c.in-If.is ∙ ap (λ (o : Option (List Stmt)). If c.in-If.e c.in-If.body o) c.in-Some.is)
    c.in_ok-add_value-in-If.ensures (of_body (scope_of c.args.scope.now) c.add_value-in-If.new.out.items c.add_body.new.out.items c.as_slice.result.now c.in-If.body c.in_ok-add_body-in-If.ensures c.as_slice.ensures)
    c.in_ok-add_bare-in-Some.ensures (of_body (scope_of c.args.scope.now) c.add_bare-in-Some.new.out.items c.add_body-in-Some.new.out.items c.as_slice-in-Some.result.now c.in-Some.other c.in_ok-add_body-in-Some.ensures c.as_slice-in-Some.ensures))
    c.add_bare-in-Some-2.ensures

pub add_stmt-returns-in_ok-add_body-in-While : goal.add_stmt-returns-in_ok-add_body-in-While
unfolding head_word
add_stmt-returns-in_ok-add_body-in-While t c =
    on_ok_weaker c.add_bare-in-While.result
    (adds-While (scope_of c.args.scope.now) c.args.out.now.items c.add_value-in-While.new.out.items c.add_body-in-While.new.out.items c.add_bare-in-While.new.out.items c.args.stmt.now c.in-While.e c.in-While.body c.in-While.is
    c.in_ok-add_value-in-While.ensures (of_body (scope_of c.args.scope.now) c.add_value-in-While.new.out.items c.add_body-in-While.new.out.items c.as_slice-in-While.result.now c.in-While.body c.in_ok-add_body-in-While.ensures c.as_slice-in-While.ensures))
    c.add_bare-in-While.ensures

pub add_stmt-returns-in_ok-add_clauses-in-TryCatch : goal.add_stmt-returns-in_ok-add_clauses-in-TryCatch
unfolding head_word
add_stmt-returns-in_ok-add_clauses-in-TryCatch t c =
    on_ok_weaker c.add_bare-in-TryCatch-2.result
    (adds-TryCatch (scope_of c.args.scope.now) c.args.out.now.items c.add_bare-in-TryCatch.new.out.items c.add_body-in-TryCatch.new.out.items c.add_clauses.new.out.items c.add_bare-in-TryCatch-2.new.out.items c.args.stmt.now c.in-TryCatch.body c.in-TryCatch.clauses c.in-TryCatch.is
    c.in_ok-add_bare-in-TryCatch.ensures (of_body (scope_of c.args.scope.now) c.add_bare-in-TryCatch.new.out.items c.add_body-in-TryCatch.new.out.items c.as_slice-in-TryCatch.result.now c.in-TryCatch.body c.in_ok-add_body-in-TryCatch.ensures c.as_slice-in-TryCatch.ensures)
    (of_clauses (scope_of c.args.scope.now) c.add_body-in-TryCatch.new.out.items c.add_clauses.new.out.items c.as_slice-in-TryCatch-2.result.now c.in-TryCatch.clauses c.in_ok-add_clauses-in-TryCatch.ensures c.as_slice-in-TryCatch-2.ensures))
    c.add_bare-in-TryCatch-2.ensures

pub add_stmt-returns-in_ok-add_body-in-TryFinally-2 : goal.add_stmt-returns-in_ok-add_body-in-TryFinally-2
unfolding head_word
add_stmt-returns-in_ok-add_body-in-TryFinally-2 t c =
    on_ok_weaker c.add_bare-in-TryFinally-3.result
    (adds-TryFinally (scope_of c.args.scope.now) c.args.out.now.items c.add_bare-in-TryFinally.new.out.items c.add_body-in-TryFinally.new.out.items c.add_bare-in-TryFinally-2.new.out.items c.add_body-in-TryFinally-2.new.out.items c.add_bare-in-TryFinally-3.new.out.items c.args.stmt.now c.in-TryFinally.body c.in-TryFinally.last c.in-TryFinally.is
    c.in_ok-add_bare-in-TryFinally.ensures (of_body (scope_of c.args.scope.now) c.add_bare-in-TryFinally.new.out.items c.add_body-in-TryFinally.new.out.items c.as_slice-in-TryFinally.result.now c.in-TryFinally.body c.in_ok-add_body-in-TryFinally.ensures c.as_slice-in-TryFinally.ensures)
    c.in_ok-add_bare-in-TryFinally-2.ensures (of_body (scope_of c.args.scope.now) c.add_bare-in-TryFinally-2.new.out.items c.add_body-in-TryFinally-2.new.out.items c.as_slice-in-TryFinally-2.result.now c.in-TryFinally.last c.in_ok-add_body-in-TryFinally-2.ensures c.as_slice-in-TryFinally-2.ensures))
    c.add_bare-in-TryFinally-3.ensures

-- Scripts, and what they are made of, may go to another thread.
use denote.RattleType.{RattleType}
use denote.Param.Send.{IsSend, sendable}
use Rattle.std.proofs.Crossing.{crosses}
use Rattle.std.proofs.option.Option.TheSendSync as option
use Rattle.sqlite_items.proofs.items.Items.TheSendSync as items
use Rattle.sqlite_items.specs.contracts.items.Items as Items
use Rattle.thr_values.proofs.number.NameId.TheSendSync as name_id
use Rattle.thr_values.proofs.scheduling.Policy.TheSendSync as policy
use Rattle.thr_values.proofs.name.Name.TheSendSync as name
use Rattle.thr_syntax.proofs.expr.Var.TheSendSync as variable
use Rattle.thr_syntax.proofs.expr.Expr.TheLaws.TheKnot as expr_knot
use Rattle.thr_syntax.proofs.tree.Stmt.TheLaws.TheKnot as stmt_knot
use Rattle.thr_syntax.proofs.tree.Interface.TheSendSync as interface
use Rattle.thr_syntax.specs.contracts.expr.Expr as expr
use Rattle.thr_syntax.specs.contracts.dce.DceCall as dce
use Rattle.thr_syntax.specs.contracts.form.Form as form
use Rattle.thr_syntax.specs.contracts.tree.Stmt as stmt
use Rattle.thr_syntax.specs.contracts.tree.Item as item
use Rattle.thr_syntax.specs.contracts.tree.Script as script

-- ---- by stages: a type may go where each type in it may

pub expr_send : IsSend (expr.the_field).row
expr_send = search (expr_knot.crosses, crosses, sendable) depth 60 fits 20000

pub dce_send : IsSend (dce.the_field).row
dce_send = search (expr_send, variable.the_field_send, name_id.the_field_send, policy.the_field_send, crosses, sendable) depth 60 fits 20000

pub stmt_send : IsSend (stmt.the_field).row
stmt_send =
    let rows : (T : RattleType) → IsSend T → IsSend (Items.the_row T) = λ T s. search (s, items.the_send, crosses, sendable) depth 60 fits 20000 in
    stmt_knot.send-Stmt variable.the_field_send expr_send rows (λ T s. option.the_send (Items.the_row T) (rows T s)) name_id.the_field_send (search (option.the_field_send, crosses, sendable) depth 60 fits 20000) dce_send (search (name_id.the_send, option.the_field_send, crosses, sendable) depth 60 fits 20000)

pub stmt_row_send : IsSend stmt.the_row
stmt_row_send = search (stmt_send, crosses, sendable) depth 60 fits 20000

pub item_send : IsSend (item.the_field).row
item_send = search (name_id.the_field_send, interface.the_field_send, name.the_send, stmt_row_send, items.the_send, crosses, sendable) depth 60 fits 20000

pub item_row_send : IsSend item.the_row
item_row_send = search (item_send, crosses, sendable) depth 60 fits 20000

pub script_send : IsSend (script.the_field).row
script_send = search (item_row_send, name.the_send, items.the_send, crosses, sendable) depth 60 fits 20000

-- A line of a script, by its form.
pub form_send : IsSend (form.the_field).row
form_send = search (expr_send, dce_send, variable.the_field_send, name_id.the_field_send, name.the_send, interface.the_field_send, option.the_field_send, crosses, sendable) depth 60 fits 20000

-- The lines of a script may go to another thread, and threads may share them.
use denote.RattleType.{RattleType}
use denote.Param.Send.{IsSend, IsSync, sendable}
use Rattle.std.proofs.Crossing.{crosses}
use Rattle.std.proofs.option.Option.TheSendSync as option
use Rattle.sqlite_items.proofs.items.Items.TheSendSync as items
use Rattle.sqlite_items.specs.contracts.items.Items as Items
use Rattle.thr_values.proofs.number.NameId.TheSendSync as name_id
use Rattle.thr_values.proofs.number.Line.TheSendSync as line
use Rattle.thr_values.proofs.exception.Exc.TheSendSync as exc
use Rattle.thr_values.proofs.scheduling.Policy.TheSendSync as policy
use Rattle.thr_values.proofs.name.Name.TheSendSync as name
use Rattle.thr_syntax.proofs.expr.Var.TheSendSync as variable
use Rattle.thr_syntax.proofs.expr.Expr.TheLaws.TheKnot as expr_knot
use Rattle.thr_syntax.proofs.tree.Stmt.TheLaws.TheKnot as stmt_knot
use Rattle.thr_syntax.proofs.tree.Interface.TheSendSync as interface
use Rattle.thr_syntax.proofs.Crossing.{form_send, script_send}
use Rattle.thr_syntax.specs.contracts.expr.Expr as expr
use Rattle.thr_syntax.specs.contracts.dce.DceCall as dce
use Rattle.thr_syntax.specs.contracts.form.Form as form
use Rattle.thr_syntax.specs.contracts.tree.Stmt as stmt
use Rattle.thr_syntax.specs.contracts.tree.Item as item
use Rattle.thr_syntax.specs.contracts.tree.Script as script
use Rattle.thr_lines.specs.contracts.start.Start as start
use Rattle.thr_lines.specs.contracts.row.Row as row
use Rattle.thr_lines.specs.contracts.rows.Rows as rows
use Rattle.thr_lines.specs.contracts.names.Names as names
use Rattle.thr_lines.specs.contracts.lines.Lines as lines

-- ---- to another thread

pub row_send : IsSend (row.the_field).row
row_send = search (form_send, line.the_field_send, option.the_field_send, crosses, sendable) depth 60 fits 20000

pub rows_send : IsSend (rows.the_field).row
rows_send = search (row_send, crosses, sendable) depth 60 fits 20000

pub start_send : IsSend (start.the_field).row
start_send = search (line.the_field_send, crosses, sendable) depth 60 fits 20000

pub names_send : IsSend (names.the_field).row
names_send = search (start_send, exc.the_send, option.the_send, crosses, sendable) depth 60 fits 20000

pub lines_send : IsSend (lines.the_field).row
lines_send = search (script_send, rows_send, names_send, crosses, sendable) depth 60 fits 20000

-- ---- between threads, by stages: a type may be shared where each type in it may

pub expr_sync : IsSync (expr.the_field).row
expr_sync = search (expr_knot.crosses, crosses, sendable) depth 60 fits 20000

pub dce_sync : IsSync (dce.the_field).row
dce_sync = search (expr_sync, variable.the_field_sync, name_id.the_field_sync, policy.the_field_sync, crosses, sendable) depth 60 fits 20000

pub stmt_sync : IsSync (stmt.the_field).row
stmt_sync =
    let rows_of : (T : RattleType) → IsSync T → IsSync (Items.the_row T) = λ T s. search (s, items.the_sync, crosses, sendable) depth 60 fits 20000 in
    stmt_knot.sync-Stmt variable.the_field_sync expr_sync rows_of (λ T s. option.the_sync (Items.the_row T) (rows_of T s)) name_id.the_field_sync (search (option.the_field_sync, crosses, sendable) depth 60 fits 20000) dce_sync (search (name_id.the_sync, option.the_field_sync, crosses, sendable) depth 60 fits 20000)

pub stmt_row_sync : IsSync stmt.the_row
stmt_row_sync = search (stmt_sync, crosses, sendable) depth 60 fits 20000

pub item_sync : IsSync (item.the_field).row
item_sync = search (name_id.the_field_sync, interface.the_field_sync, name.the_sync, stmt_row_sync, items.the_sync, crosses, sendable) depth 60 fits 20000

pub item_row_sync : IsSync item.the_row
item_row_sync = search (item_sync, crosses, sendable) depth 60 fits 20000

pub script_sync : IsSync (script.the_field).row
script_sync = search (item_row_sync, name.the_sync, items.the_sync, crosses, sendable) depth 60 fits 20000

pub form_sync : IsSync (form.the_field).row
form_sync = search (expr_sync, dce_sync, variable.the_field_sync, name_id.the_field_sync, name.the_sync, interface.the_field_sync, option.the_field_sync, crosses, sendable) depth 60 fits 20000

pub row_sync : IsSync (row.the_field).row
row_sync = search (form_sync, line.the_field_sync, option.the_field_sync, crosses, sendable) depth 60 fits 20000

pub rows_sync : IsSync (rows.the_field).row
rows_sync = search (row_sync, crosses, sendable) depth 60 fits 20000

pub start_sync : IsSync (start.the_field).row
start_sync = search (line.the_field_sync, crosses, sendable) depth 60 fits 20000

pub names_sync : IsSync (names.the_field).row
names_sync = search (start_sync, exc.the_sync, option.the_sync, crosses, sendable) depth 60 fits 20000

pub lines_sync : IsSync (lines.the_field).row
lines_sync = search (script_sync, rows_sync, names_sync, crosses, sendable) depth 60 fits 20000

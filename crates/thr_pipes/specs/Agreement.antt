-- Who waits as a writer, by the pipes and by the rows (docs/machine.md, "Pipes").
use Rattle.std.specs.Prelude.{◌≡◌, Option, Some, None}
use Rattle.std.specs.Option.{option_map}
use Rattle.thr_values.specs.declared.number.Tid.{Tid}
use Rattle.thr_parts.specs.declared.pipe.Writing.{Writing}
use Rattle.thr_parts.specs.declared.row.RowId.{RowId}
use Rattle.thr_parts.specs.declared.row.RowId.TheVariants as row
use Rattle.thr_parts.specs.Tables.{get}
use Rattle.thr_parts.specs.Rows.{Rows, row_of}
use Rattle.thr_parts.specs.Pipes.{Pipes}

-- The wait of a thread as a writer, unless it has none (docs/machine.md, "Pipes").
abbrev pub writing_of : Pipes → Tid → Option Writing
writing_of ps t = get ps.writing t.0

-- The row in which a thread stands that waits so (docs/machine.md, "Rows").
abbrev pub writer_row : Writing → RowId
writer_row w = row.Writer w.pipe

-- The row that is there, where threads stand in it that wait as writers.
abbrev pub if_writing : Option RowId → Option RowId
if_writing (Some (row.Writer p)) = Some (row.Writer p)
if_writing _ = None

-- A thread stands in the row of a pipe's writers exactly where its item is kept (docs/machine.md, "Pipes").
pub record WritersAgree (ps : Pipes) (rs : Rows) : Type 0 where
  pub same : (t : Tid) → option_map writer_row (writing_of ps t) ≡ if_writing (row_of rs t)

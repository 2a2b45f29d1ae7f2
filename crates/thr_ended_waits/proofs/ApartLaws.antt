-- No thread has a wait on a condition or for a time and one as a writer.
use Rattle.std.proofs.Common.{◌≡◌, Option, Some, None, refl, sym, ◌∙◌, ap}
use Rattle.std.specs.Option.{option_map}
use Rattle.thr_values.specs.declared.number.Tid.{Tid}
use Rattle.thr_parts.specs.declared.row.RowId.{RowId}
use Rattle.thr_parts.specs.declared.row.RowId.TheVariants as row
use Rattle.thr_parts.specs.declared.pipe.Writing.{Writing}
use Rattle.thr_parts.specs.declared.wait.Wait.{Wait}
use Rattle.thr_parts.specs.Rows.{Rows, row_of}
use Rattle.thr_parts.specs.Conditions.{Conds, wait_of}
use Rattle.thr_parts.specs.Pipes.{Pipes}
use Rattle.thr_conds.specs.Agreement.{waiting_row, if_waiting, WaitsAgree}
use Rattle.thr_pipes.specs.Agreement.{writing_of, writer_row, if_writing, WritersAgree}

no_writer_row : (r : Option RowId) (a : RowId) → if_waiting r ≡ Some a → if_writing r ≡ None
no_writer_row None a e = refl
no_writer_row (Some row.Ready) a e = refl
no_writer_row (Some (row.Mutex m)) a e = refl
no_writer_row (Some row.Global) a e = refl
no_writer_row (Some (row.Cond c)) a e = refl
no_writer_row (Some (row.Join t)) a e = refl
no_writer_row (Some (row.Once o)) a e = refl
no_writer_row (Some (row.Reader p)) a e = refl
no_writer_row (Some (row.Writer p)) a e = absurd (cc)
no_writer_row (Some row.Time) a e = refl

no_wait_by : {A : Type 0} (f : A → RowId) (o : Option A) → option_map f o ≡ None → o ≡ None
no_wait_by f None e = refl
no_wait_by f (Some x) e = absurd (cc)

pub waits_or_writes : (cs : Conds) (ps : Pipes) (rs : Rows) (t : Tid) (w : Wait) → WaitsAgree cs rs → WritersAgree ps rs → wait_of cs t ≡ Some w → writing_of ps t ≡ None
waits_or_writes cs ps rs t w waits writes e =
    no_wait_by writer_row (writing_of ps t)
    (writes.same t ∙ no_writer_row (row_of rs t) (waiting_row w) (sym (waits.same t) ∙ ap (option_map waiting_row) e))

never_both : {A B : Type 0} (o : Option A) (p : Option B) (y : B) → p ≡ Some y → ((x : A) → o ≡ Some x → p ≡ None) → o ≡ None
never_both None p y e apart = refl
never_both (Some x) p y e apart = absurd (cc (sym e ∙ apart x refl))

pub writes_or_waits : (cs : Conds) (ps : Pipes) (rs : Rows) (t : Tid) (w : Writing) → WaitsAgree cs rs → WritersAgree ps rs → writing_of ps t ≡ Some w → wait_of cs t ≡ None
writes_or_waits cs ps rs t w waits writes e =
    never_both (wait_of cs t) (writing_of ps t) w e (λ v is. waits_or_writes cs ps rs t v waits writes is)

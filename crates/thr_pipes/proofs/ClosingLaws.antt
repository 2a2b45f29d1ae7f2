-- A pipe that is closed, and its rows that are freed after it.
use Rattle.std.proofs.Common.{◌≡◌, ℕ, Bool, true, false, cond, [], Some, refl, ap}
use Rattle.thr_values.specs.declared.number.Tid.{Tid}
use Rattle.thr_values.specs.declared.number.NameId.{NameId}
use Rattle.thr_parts.specs.declared.row.RowId.TheVariants as row
use Rattle.thr_parts.specs.Tables.{put_if, keep_if}
use Rattle.thr_parts.specs.Replies.{is_done}
use Rattle.thr_parts.specs.Rows.{Rows}
use Rattle.thr_parts.specs.Moves.{free_row}
use Rattle.thr_parts.specs.Pipes.{Pipes, pipe_at}
use Rattle.thr_parts.specs.Closing.{close_reply, as_closed, writing_elsewhere, free_if, close, Closed, close_out}

-- What is closed out of a pipe that was open or wasn't.
abbrev closed_as : Bool → (Tid → ℕ) → Pipes → Rows → NameId → Closed
closed_as opened rank ps rs p = record {
  reply = (close ps p).reply;
  pipes = (close ps p).pipes;
  rows = (free_if opened rank (free_if opened rank rs (row.Reader p)).rows (row.Writer p)).rows;
  readers = (free_if opened rank rs (row.Reader p)).woken;
  writers = (free_if opened rank (free_if opened rank rs (row.Reader p)).rows (row.Writer p)).woken;
}

was_open : (b : Bool) → is_done (close_reply b) ≡ true → b ≡ true
was_open true e = refl
was_open false e = absurd (cc)

wasnt_open : (b : Bool) → is_done (close_reply b) ≡ false → b ≡ false
wasnt_open true e = absurd (cc)
wasnt_open false e = refl

pub closed_then_freed : (rank : Tid → ℕ) (ps : Pipes) (rs : Rows) (p : NameId) → is_done (close ps p).reply ≡ true
    → close_out rank ps rs p
    ≡ record {
      reply = (close ps p).reply;
      pipes = (close ps p).pipes;
      rows = (free_row rank (free_row rank rs (row.Reader p)).rows (row.Writer p)).rows;
      readers = (free_row rank rs (row.Reader p)).woken;
      writers = (free_row rank (free_row rank rs (row.Reader p)).rows (row.Writer p)).woken;
    }
closed_then_freed rank ps rs p e = ap (λ b. closed_as b rank ps rs p) (was_open (pipe_at ps p).is_open e)

-- What is closed out of a pipe and of pipes, where that was open or wasn't.
abbrev refused_as : Bool → (Tid → ℕ) → Pipes → Rows → NameId → Closed
refused_as opened rank ps rs p = record {
  reply = (close ps p).reply;
  pipes = record {
    pipes = put_if ps.pipes p.0 (keep_if opened (Some (as_closed (pipe_at ps p))));
    writing = cond opened (writing_elsewhere ps.writing p) ps.writing;
  };
  rows = (free_if opened rank (free_if opened rank rs (row.Reader p)).rows (row.Writer p)).rows;
  readers = (free_if opened rank rs (row.Reader p)).woken;
  writers = (free_if opened rank (free_if opened rank rs (row.Reader p)).rows (row.Writer p)).woken;
}

pub not_closed : (rank : Tid → ℕ) (ps : Pipes) (rs : Rows) (p : NameId) → is_done (close ps p).reply ≡ false
    → close_out rank ps rs p ≡ record { reply = (close ps p).reply; pipes = ps; rows = rs; readers = []; writers = [] }
not_closed rank ps rs p e = ap (λ b. refused_as b rank ps rs p) (wasnt_open (pipe_at ps p).is_open e)

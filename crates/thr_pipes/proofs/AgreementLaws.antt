-- What follows where pipes and rows agree on who waits as a writer.
use Rattle.std.proofs.Common.{◌≡◌, ℕ, ◌≤◌, true, length}
use Rattle.thr_parts.specs.Tables.{IsCanonical}
use Rattle.thr_parts.specs.Rows.{Rows, most}
use Rattle.thr_parts.specs.Pipes.{Pipes}
use Rattle.thr_tables.specs.Places.{has_place}
use Rattle.thr_rows.proofs.AgreementLaws.{place_for_wait}
use Rattle.thr_pipes.specs.Agreement.{WritersAgree}
use Rattle.thr_pipes.proofs.KeepLaws.{writer_rows, agree_in}

-- There is room for one writer more.
pub place_for_writer : (ps : Pipes) (rs : Rows) (t : ℕ) → WritersAgree ps rs → IsCanonical ps.writing → length rs.seats ≤ most → has_place ps.writing t 4096 ≡ true
place_for_writer ps rs t h rises within = place_for_wait writer_rows ps.writing rs t (agree_in ps rs h) rises within

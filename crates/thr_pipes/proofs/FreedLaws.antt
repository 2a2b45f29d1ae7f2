-- Writers of a pipe that is closed: their waits end, and their row becomes ready.
use Rattle.std.proofs.Common.{◌≡◌, ℕ, Bool, true, false, not, ◌||◌, cond, eqb, List, [], ◌∷◌, Option, Some, None, refl, sym, arith, ◌∙◌, ap}
use Rattle.std.proofs.lemmas.Bool.Decides.{nat_tests}
use Rattle.std.proofs.lemmas.Bool.{false≢true}
use Rattle.std.specs.Option.{option_map, unwrap_or}
use Rattle.thr_values.specs.declared.number.Tid.{Tid}
use Rattle.thr_values.specs.declared.number.NameId.{NameId}
use Rattle.thr_parts.specs.declared.pipe.Writing.{Writing}
use Rattle.thr_parts.specs.declared.row.RowId.{RowId}
use Rattle.thr_parts.specs.declared.row.RowId.TheVariants as row
use Rattle.thr_parts.specs.declared.row.Seat.{Seat}
use Rattle.thr_parts.specs.Tables.{Table, get, cut_if, IsCanonical}
use Rattle.thr_parts.specs.Rows.{Rows, thread, seat_of, row_at, row_of, is_in_row, best_first, is_among}
use Rattle.thr_parts.specs.Moves.{take_out, make_ready, make_all_ready, free_row}
use Rattle.thr_parts.specs.Pipes.{Pipe, Pipes, pipe_at}
use Rattle.thr_parts.specs.Closing.{writing_elsewhere, free_if, close_out}
use Rattle.thr_parts.proofs.TableLaws.{get_put, get_cut}
use Rattle.thr_parts.proofs.EntryLaws.{pass, get_filter}
use Rattle.thr_parts.proofs.PartLaws.{canonical_free_row}
use Rattle.thr_parts.proofs.StandingLaws.{among_is}
use Rattle.thr_pipes.specs.Agreement.{writer_row, if_writing, WritersAgree}
use Rattle.thr_pipes.proofs.KeepLaws.{agree_free_row}
use Rattle.thr_pipes.proofs.WriterLaws.{elsewhere_is}

-- The row in which a seat that is there keeps a thread that waits.
abbrev writing_at : Option Seat → Option RowId
writing_at s = if_writing (row_at s)

-- ---- threads that become ready

get_cut_if : {A : Type 0} (b : Bool) (m : Table A) (t q : ℕ) → eqb t q ≡ false → get (cut_if b m t) q ≡ get m q
get_cut_if true m t q e = get_cut m t q ∙ ap (λ b. cond b None (get m q)) e
get_cut_if false m t q e = refl

-- One of two seats, of which the first is in the row of ready threads.
ready_by : (b c : Bool) (ready old new : Option Seat) → writing_at ready ≡ None → (c ≡ false → new ≡ old) → cond b None (writing_at (cond c ready new)) ≡ cond (c || b) None (writing_at old)
ready_by true true ready old new e same = refl
ready_by true false ready old new e same = refl
ready_by false true ready old new e same = e
ready_by false false ready old new e same = ap writing_at (same refl)

-- Who waits as a writer where these threads have become ready.
ready_at : (rank : Tid → ℕ) (rs : Rows) (ts : List Tid) (q : ℕ) → writing_at (get (make_all_ready rank rs ts).seats q) ≡ cond (is_among (thread q) ts) None (writing_at (get rs.seats q))
unfolding make_all_ready
ready_at rank rs [] q = refl
ready_at rank rs (t ∷ ts) q =
    ready_at rank (make_ready rank (take_out rs t).rows t) ts q
    ∙ ap (λ (s : Option Seat). cond (is_among (thread q) ts) None (writing_at s)) (get_put (take_out rs t).rows.seats t.0 q _)
    ∙ ready_by (is_among (thread q) ts) (eqb t.0 q) _ (get rs.seats q) (get (take_out rs t).rows.seats q) refl (get_cut_if (is_in_row (seat_of rs t)) rs.seats t.0 q)

-- ---- the waits of one pipe end

abbrev writes_elsewhere : NameId → ℕ × Writing → Bool
writes_elsewhere p e = not (eqb e.1.pipe.0 p.0)

same_some : {A : Type 0} (x y : A) → Some x ≡ Some y → x ≡ y
same_some x y e = ap (λ o. unwrap_or o x) e

same_pipe : (a b : NameId) → eqb a.0 b.0 ≡ true → a ≡ b
same_pipe a b e = ap (λ (n : ℕ). let p : NameId = record { 0 = n } in p) (same_number a.0 b.0 e)
  where
    same_number : (x y : ℕ) → eqb x y ≡ true → x ≡ y
    same_number x y e = grind (arith, nat_tests)

itself : (x : ℕ) → eqb x x ≡ true
itself x = grind (arith, nat_tests)

abbrev name_in : Option RowId → ℕ → ℕ
name_in (Some (row.Writer p)) n = p.0
name_in _ n = n

-- A thread of the row has a wait at the pipe.
freed_by : (w : Option Writing) (p : NameId) (q : ℕ) → option_map writer_row w ≡ Some (row.Writer p) → option_map writer_row (pass (writes_elsewhere p) q w) ≡ None
unfolding pass
freed_by None p q e = absurd (cc)
freed_by (Some w) p q e =
    let here : eqb w.pipe.0 p.0 ≡ true = ap (λ (n : ℕ). eqb n p.0) (ap (λ (o : Option RowId). name_in o w.pipe.0) e) ∙ itself p.0 in
    ap (λ (b : Bool). option_map writer_row (cond (not b) (Some w) None)) here

kept_at : (w : Writing) (p : NameId) (o : Option RowId) (b : Bool) → eqb w.pipe.0 p.0 ≡ b → Some (row.Writer w.pipe) ≡ o → (o ≡ Some (row.Writer p) → ⊥) → option_map writer_row (cond (not b) (Some w) None) ≡ o
kept_at w p o true at is other = absurd (other (sym is ∙ ap (λ (n : NameId). Some (row.Writer n)) (same_pipe w.pipe p at)))
kept_at w p o false at is other = is

-- Another one has none there.
kept_by : (w : Option Writing) (p : NameId) (q : ℕ) (o : Option RowId) → option_map writer_row w ≡ o → (o ≡ Some (row.Writer p) → ⊥) → option_map writer_row (pass (writes_elsewhere p) q w) ≡ o
unfolding pass
kept_by None p q o is other = is
kept_by (Some w) p q o is other = kept_at w p o (eqb w.pipe.0 p.0) refl is other

if_writer : (o : Option RowId) (p : NameId) → if_writing o ≡ Some (row.Writer p) → o ≡ Some (row.Writer p)
if_writer None p e = absurd (cc)
if_writer (Some (row.Writer r)) p e = e
if_writer (Some row.Ready) p e = absurd (cc)
if_writer (Some (row.Mutex m)) p e = absurd (cc)
if_writer (Some row.Global) p e = absurd (cc)
if_writer (Some (row.Cond c)) p e = absurd (cc)
if_writer (Some (row.Join t)) p e = absurd (cc)
if_writer (Some (row.Once o)) p e = absurd (cc)
if_writer (Some (row.Reader r)) p e = absurd (cc)
if_writer (Some row.Time) p e = absurd (cc)

freed_at : (ps : Pipes) (rs : Rows) (p : NameId) (q : ℕ) (b : Bool) → is_among (thread q) (best_first rs (row.Writer p)) ≡ b → IsCanonical rs.seats → WritersAgree ps rs
    → option_map writer_row (pass (writes_elsewhere p) q (get ps.writing q)) ≡ cond b None (writing_at (get rs.seats q))
freed_at ps rs p q true among h agrees =
    freed_by (get ps.writing q) p q (agrees.same (thread q) ∙ ap if_writing ((among_is rs (row.Writer p) (thread q) h).0 among))
freed_at ps rs p q false among h agrees =
    kept_by (get ps.writing q) p q (writing_at (get rs.seats q)) (agrees.same (thread q)) (λ e.
    false≢true (sym among ∙ (among_is rs (row.Writer p) (thread q) h).1 (if_writer (row_of rs (thread q)) p e)))

-- Who waits at the pipe no more, and whose row has become ready.
freed : (rank : Tid → ℕ) (ps : Pipes) (m : Table Pipe) (rs : Rows) (p : NameId) → IsCanonical rs.seats → IsCanonical ps.writing → WritersAgree ps rs
    → WritersAgree (record { pipes = m; writing = writing_elsewhere ps.writing p }) (free_row rank rs (row.Writer p)).rows
freed rank ps m rs p h rises agrees =
    record {
      same = λ t. ap (λ (w : Table Writing). option_map writer_row (get w t.0)) (elsewhere_is ps.writing p)
          ∙ ap (option_map writer_row) (get_filter (writes_elsewhere p) t.0 ps.writing rises)
          ∙ freed_at ps rs p t.0 (is_among (thread t.0) (best_first rs (row.Writer p))) refl h agrees
          ∙ sym (ready_at rank rs (best_first rs (row.Writer p)) t.0);
    }

-- ---- pipes that are closed

closed_if : (b : Bool) (rank : Tid → ℕ) (ps : Pipes) (m : Table Pipe) (rs : Rows) (p : NameId) → IsCanonical rs.seats → IsCanonical ps.writing → WritersAgree ps rs
    → WritersAgree (record { pipes = m; writing = cond b (writing_elsewhere ps.writing p) ps.writing }) (free_if b rank (free_if b rank rs (row.Reader p)).rows (row.Writer p)).rows
closed_if true rank ps m rs p h rises agrees =
    let readers : Rows = (free_row rank rs (row.Reader p)).rows in
    let after : WritersAgree (record { pipes = m; writing = writing_elsewhere ps.writing p }) (free_row rank readers (row.Writer p)).rows =
    freed rank ps m readers p (canonical_free_row rank rs (row.Reader p) h) rises (agree_free_row rank ps rs (row.Reader p) h agrees refl) in record { same = after.same }
closed_if false rank ps m rs p h rises agrees = record { same = agrees.same }

pub agree_close_out : (rank : Tid → ℕ) (ps : Pipes) (rs : Rows) (p : NameId) → IsCanonical rs.seats → IsCanonical ps.writing → WritersAgree ps rs
    → WritersAgree (close_out rank ps rs p).pipes (close_out rank ps rs p).rows
agree_close_out rank ps rs p h rises agrees = closed_if (pipe_at ps p).is_open rank ps (close_out rank ps rs p).pipes.pipes rs p h rises agrees

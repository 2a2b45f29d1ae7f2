-- Pipes and rows go on to agree on who waits as a writer where waits on conditions and for times end.
use Rattle.std.proofs.Common.{◌≡◌, ℕ, ℤ, Bool, true, false, ◌||◌, cond, eqb, List, [], ◌∷◌, Option, Some, None, refl, sym, arith, ◌∙◌, ap}
use Rattle.std.proofs.lemmas.Bool.Decides.{nat_tests}
use Rattle.std.specs.List.{filter}
use Rattle.std.specs.Option.{option_and_then, is_some}
use Rattle.thr_values.specs.declared.number.Tid.{Tid}
use Rattle.thr_values.specs.declared.number.NameId.{NameId}
use Rattle.thr_parts.specs.declared.row.RowId.TheVariants as row
use Rattle.thr_parts.specs.declared.row.Seat.{Seat}
use Rattle.thr_parts.specs.declared.pipe.Writing.{Writing}
use Rattle.thr_parts.specs.declared.wait.Wait.{Wait}
use Rattle.thr_parts.specs.Tables.{Table, get, has, IsCanonical}
use Rattle.thr_parts.specs.Rows.{Rows, Seated, thread, is_before, best_of, placed, in_order, numbers_of, number_in, best_first, is_among}
use Rattle.thr_parts.specs.Moves.{take_out_if}
use Rattle.thr_parts.specs.Mutexes.{Locks}
use Rattle.thr_parts.specs.Conditions.{Conds, wait_of, time_of}
use Rattle.thr_parts.specs.Waking.{some_if, mutex_with, pull_out, resume, wake_all, broadcast}
use Rattle.thr_parts.specs.Expiry.{has_come, is_due, due, due_first, expire, expire_all}
use Rattle.thr_parts.specs.Pipes.{Pipes}
use Rattle.thr_rows.proofs.AgreementLaws.{Agree, NoneWaits, none_head, none_later, none_in_row, agree_take_out, agree_take_out_if}
use Rattle.thr_rows.proofs.AgreedCalls.{agree_resume}
use Rattle.thr_conds.specs.Agreement.{WaitsAgree}
use Rattle.thr_conds.proofs.TakingLaws.{first_by, first_waits}
use Rattle.thr_pipes.specs.Agreement.{writing_of, WritersAgree}
use Rattle.thr_pipes.proofs.KeepLaws.{writer_rows, are_other, agree_in, agree_of}
use Rattle.thr_ended_waits.proofs.ApartLaws.{waits_or_writes}

there : {A : Type 0} (o : Option A) → is_some o ≡ true → (x : A) × (o ≡ Some x)
there None e = absurd (cc)
there (Some x) e = (x, refl)

-- A thread that has a wait on a condition or for a time has none as a writer.
writes_not : (cs : Conds) (ps : Pipes) (rs : Rows) (t : Tid) → WaitsAgree cs rs → WritersAgree ps rs → is_some (wait_of cs t) ≡ true → writing_of ps t ≡ None
writes_not cs ps rs t waits writes is =
    let w : (w : Wait) × (wait_of cs t ≡ Some w) = there (wait_of cs t) is in waits_or_writes cs ps rs t w.0 waits writes w.1

-- ---- one wait that ends

out_if : (m : Table Writing) (rs : Rows) (t : Tid) (b : Bool) → Agree writer_rows m rs → (b ≡ true → get m t.0 ≡ None) → Agree writer_rows m (take_out_if rs (some_if b t))
out_if m rs t true h alone = agree_take_out writer_rows m rs t h (alone refl)
out_if m rs t false h alone = record { same = h.same }

pub agree_pull_out : (cs : Conds) (ps : Pipes) (rs : Rows) (t : Tid) → WaitsAgree cs rs → WritersAgree ps rs → WritersAgree ps (pull_out cs rs t).rows
agree_pull_out cs ps rs t waits writes =
    agree_of ps (pull_out cs rs t).rows (out_if ps.writing rs t (is_some (wait_of cs t)) (agree_in ps rs writes) (writes_not cs ps rs t waits writes))

due_writes_not : (cs : Conds) (ps : Pipes) (rs : Rows) (now : ℤ) (t : Tid) → IsCanonical rs.seats → WaitsAgree cs rs → WritersAgree ps rs → number_in (best_of (due cs rs now)) ≡ Some t → writing_of ps t ≡ None
due_writes_not cs ps rs now t h waits writes e = writes_not cs ps rs t waits writes (first_waits cs rs now t (best_of (due cs rs now)) h refl e)

pub agree_expire : (cs : Conds) (ps : Pipes) (rs : Rows) (now : ℤ) → IsCanonical rs.seats → WaitsAgree cs rs → WritersAgree ps rs → WritersAgree ps (expire cs rs now).rows
agree_expire cs ps rs now h waits writes =
    agree_of ps (expire cs rs now).rows
    (agree_take_out_if writer_rows ps.writing rs (number_in (best_of (due cs rs now))) (agree_in ps rs writes) (λ t e. due_writes_not cs ps rs now t h waits writes e))

pub expired_writes_not : (cs : Conds) (ps : Pipes) (rs : Rows) (now : ℤ) (t : Tid) (m : Option NameId) → IsCanonical rs.seats → WaitsAgree cs rs → WritersAgree ps rs → (expire cs rs now).who ≡ Some (t, m)
    → writing_of ps t ≡ None
expired_writes_not cs ps rs now t m h waits writes e =
    due_writes_not cs ps rs now t h waits writes (first_by cs rs now t m (number_in (best_of (due cs rs now))) refl e).best

-- ---- several waits that end

agree_wake_all : (rank : Tid → ℕ) (cs : Conds) (m : Table Writing) (ls : Locks) (rs : Rows) (ts : List Tid) → Agree writer_rows m rs → NoneWaits m ts → Agree writer_rows m (wake_all rank cs ls rs ts).rows
unfolding wake_all
agree_wake_all rank cs m ls rs [] h alone = h
agree_wake_all rank cs m ls rs (t ∷ ts) h alone =
    let here : get m t.0 ≡ None = none_head m t ts alone in
    agree_wake_all rank (pull_out cs rs t).conds m (resume rank ls (pull_out cs rs t).rows t (mutex_with cs t)).locks (resume rank ls (pull_out cs rs t).rows t (mutex_with cs t)).rows ts
    (agree_resume writer_rows m rank ls (pull_out cs rs t).rows t (mutex_with cs t) are_other (out_if m rs t (is_some (wait_of cs t)) h (λ _. here)) here)
    (none_later m t ts alone)

none_if : (b : Bool) (m : Table Writing) (ts : List Tid) → NoneWaits m ts → NoneWaits m (cond b ts [])
none_if true m ts alone = alone
none_if false m ts alone = λ t e. absurd (cc)

pub agree_broadcast : (rank : Tid → ℕ) (cs : Conds) (ps : Pipes) (ls : Locks) (rs : Rows) (c : NameId) → IsCanonical rs.seats → WritersAgree ps rs → WritersAgree ps (broadcast rank cs ls rs c).woken.rows
agree_broadcast rank cs ps ls rs c h writes =
    let ts : List Tid = cond (has cs.made c.0) (best_first rs (row.Cond c)) [] in
    agree_of ps (broadcast rank cs ls rs c).woken.rows
    (agree_wake_all rank cs ps.writing ls rs ts (agree_in ps rs writes)
    (none_if (has cs.made c.0) ps.writing (best_first rs (row.Cond c)) (none_in_row writer_rows ps.writing rs (row.Cond c) h (agree_in ps rs writes) refl)))

-- ---- whose time has come

-- Each of these threads has a wait.
abbrev WaitEach : Conds → Seated → Type 0
WaitEach cs es = (t : Tid) → is_among t (numbers_of es) ≡ true → is_some (wait_of cs t) ≡ true

nobody : (cs : Conds) → WaitEach cs []
nobody cs t e = absurd (cc)

same_number : (x y : ℕ) → eqb x y ≡ true → x ≡ y
same_number x y e = grind (arith, nat_tests)

first_or_later : (cs : Conds) (q : ℕ) (t : Tid) (b c : Bool) → eqb q t.0 ≡ b → (b || c) ≡ true → is_some (get cs.waits q) ≡ true → (c ≡ true → is_some (wait_of cs t) ≡ true) → is_some (wait_of cs t) ≡ true
first_or_later cs q t true c at e here later = ap (λ n. is_some (get cs.waits n)) (sym (same_number q t.0 at)) ∙ here
first_or_later cs q t false c at e here later = later e

one_more : (cs : Conds) (e : ℕ × Seat) (es : Seated) → is_some (get cs.waits e.0) ≡ true → WaitEach cs es → WaitEach cs (e ∷ es)
one_more cs e es here rest = λ t is. first_or_later cs e.0 t (eqb e.0 t.0) (is_among t (numbers_of es)) refl is here (rest t)

head_of : (cs : Conds) (e : ℕ × Seat) (es : Seated) → WaitEach cs (e ∷ es) → is_some (get cs.waits e.0) ≡ true
head_of cs e es h = h (thread e.0) (among_head e.0 (is_among (thread e.0) (numbers_of es)))
  where
    among_head : (n : ℕ) (b : Bool) → (eqb n n || b) ≡ true
    among_head n b = grind (arith, nat_tests)

rest_of : (cs : Conds) (e : ℕ × Seat) (es : Seated) → WaitEach cs (e ∷ es) → WaitEach cs es
rest_of cs e es h = λ t is. h t (or_later (eqb e.0 t.0) (is_among t (numbers_of es)) is)
  where
    or_later : (a b : Bool) → b ≡ true → (a || b) ≡ true
    or_later true b e = refl
    or_later false b e = e

placed_if : (cs : Conds) (b : Bool) (e f : ℕ × Seat) (fs : Seated) → is_some (get cs.waits e.0) ≡ true → WaitEach cs (f ∷ fs) → WaitEach cs (placed e fs)
    → WaitEach cs (cond b (e ∷ f ∷ fs) (f ∷ placed e fs))
placed_if cs true e f fs here rest more = one_more cs e (f ∷ fs) here rest
placed_if cs false e f fs here rest more = one_more cs f (placed e fs) (head_of cs f fs rest) more

placed_each : (cs : Conds) (e : ℕ × Seat) (es : Seated) → is_some (get cs.waits e.0) ≡ true → WaitEach cs es → WaitEach cs (placed e es)
unfolding placed
placed_each cs e [] here rest = one_more cs e [] here rest
placed_each cs e (f ∷ fs) here rest = placed_if cs (is_before e.1 f.1) e f fs here rest (placed_each cs e fs here (rest_of cs f fs rest))

ordered_each : (cs : Conds) (es : Seated) → WaitEach cs es → WaitEach cs (in_order es)
unfolding in_order
ordered_each cs [] h = h
ordered_each cs (e ∷ es) h = placed_each cs e (in_order es) (head_of cs e es h) (ordered_each cs es (rest_of cs e es h))

waits_if_due : (now : ℤ) (w : Option Wait) → has_come now (option_and_then time_of w) ≡ true → is_some w ≡ true
waits_if_due now None e = absurd (cc)
waits_if_due now (Some w) e = refl

due_if : (cs : Conds) (now : ℤ) (b : Bool) (e : ℕ × Seat) (es : Seated) → is_due cs now e.0 ≡ b → WaitEach cs es → WaitEach cs (cond b (e ∷ es) es)
due_if cs now true e es is rest = one_more cs e es (waits_if_due now (get cs.waits e.0) is) rest
due_if cs now false e es is rest = rest

due_each : (cs : Conds) (now : ℤ) (es : Seated) → WaitEach cs (filter (λ e. is_due cs now e.0) es)
due_each cs now [] = nobody cs
due_each cs now (e ∷ es) = due_if cs now (is_due cs now e.0) e (filter (λ e. is_due cs now e.0) es) refl (due_each cs now es)

due_wait : (cs : Conds) (rs : Rows) (now : ℤ) → WaitEach cs (in_order (due cs rs now))
unfolding due
due_wait cs rs now = ordered_each cs (filter (λ e. is_due cs now e.0) rs.seats) (due_each cs now rs.seats)

pub agree_expire_all : (rank : Tid → ℕ) (cs : Conds) (ps : Pipes) (ls : Locks) (rs : Rows) (now : ℤ) → IsCanonical rs.seats → WaitsAgree cs rs → WritersAgree ps rs → WritersAgree ps (expire_all rank cs ls rs now).rows
agree_expire_all rank cs ps ls rs now h waits writes =
    agree_of ps (expire_all rank cs ls rs now).rows
    (agree_wake_all rank cs ps.writing ls rs (due_first cs rs now) (agree_in ps rs writes) (λ t e. writes_not cs ps rs t waits writes (due_wait cs rs now t e)))

-- What a thread that blocks, and threads that are woken, do to the statuses of threads.
use Rattle.std.proofs.Common.{◌≡◌, ℕ, Bool, true, false, cond, eqb, List, [], ◌∷◌, map, Option, Some, None, refl, sym, ap, ◌∙◌, subst}
use Rattle.std.specs.Option.{is_some}
use Rattle.std.specs.Ordering.{nat_cmp}
use Rattle.std.specs.FinMap.Entries as entries
use Rattle.std.specs.Prelude.{if◌then◌else◌}
use Rattle.thr_values.specs.declared.number.Tid.{Tid}
use Rattle.thr_values.specs.declared.number.NameId.{NameId}
use Rattle.thr_parts.specs.declared.row.RowId.{RowId}
use Rattle.thr_parts.specs.declared.row.RowId.TheVariants as row
use Rattle.thr_parts.specs.declared.row.Place.TheVariants.{Stands}
use Rattle.thr_parts.specs.declared.row.Seat.{Seat}
use Rattle.thr_parts.specs.declared.wait.Wait.{Wait}
use Rattle.thr_parts.specs.Tables.{Table, get, put, put_if, keep_if, IsCanonical}
use Rattle.thr_parts.specs.Rows.{Rows, Seated, thread, seat_of, is_before, is_in_row, is_running, row_at, placed, in_order, standing, numbers_of, best_first}
use Rattle.thr_parts.specs.Moves.{take_out, take_out_if, block_in, block_if, make_ready, make_all_ready, free_row}
use Rattle.thr_parts.specs.Mutexes.{Locks}
use Rattle.thr_parts.specs.Locking.{Regained}
use Rattle.thr_parts.specs.Conditions.{Conds, wait_of}
use Rattle.thr_parts.specs.Waking.{LeftWait, pull_out, some_if, waits_without, resume, mutex_with, Woken, wake_all}
use Rattle.thr_parts.proofs.EntryLaws.{both_true, get_first, get_behind}
use Rattle.thr_parts.proofs.RowLaws.{canonical_standing, has_seat, row_of_seat}
use Rattle.thr_laws.proofs.ReadingLaws.{AllLines}
use Rattle.thr_model.specs.States.{Debt, all_owe}
use Rattle.thr_model.specs.Events.{due_debt, due_owe}
use Rattle.thr_answers.specs.Statuses.{Status, Calm, Waiting, Astray, by_row, by_wait_row, status, status_in, status_after}
use Rattle.thr_answers.proofs.StatusMoves.{IsWith, with_known, with_put, with_cut, with_put_cut, Becomes, Stays, becomes, becomes_again, no_wait, woken_stays}

-- ---- lists

pub all_map : {A : Type 0} (P Q : A → Type 0) → ((x : A) → P x → Q x) → (xs : List A) → AllLines P xs → AllLines Q xs
all_map P Q f [] h = tt
all_map P Q f (x ∷ xs) h = (f x h.0, all_map P Q f xs h.1)

pub all_numbers : (P : Tid → Type 0) (es : Seated) → AllLines (λ e. P (thread e.0)) es → AllLines P (numbers_of es)
all_numbers P [] h = tt
all_numbers P (e ∷ es) h = (h.0, all_numbers P es h.1)

placed_by : (P : ℕ × Seat → Type 0) (e f : ℕ × Seat) (fs gs : Seated) (b : Bool) → P e → P f → AllLines P fs → AllLines P gs → AllLines P (if b then e ∷ f ∷ fs else f ∷ gs)
placed_by P e f fs gs true h k hs gs' = (h, (k, hs))
placed_by P e f fs gs false h k hs gs' = (k, gs')

all_placed : (P : ℕ × Seat → Type 0) (e : ℕ × Seat) (es : Seated) → P e → AllLines P es → AllLines P (placed e es)
unfolding placed
all_placed P e [] h hs = (h, tt)
all_placed P e (f ∷ fs) h hs = placed_by P e f fs (placed e fs) (is_before e.1 f.1) h hs.0 hs.1 (all_placed P e fs h hs.1)

pub all_in_order : (P : ℕ × Seat → Type 0) (es : Seated) → AllLines P es → AllLines P (in_order es)
unfolding in_order
all_in_order P [] h = tt
all_in_order P (e ∷ es) h = all_placed P e (in_order es) h.0 (all_in_order P es h.1)

-- Each entry of a table whose numbers rise stands at its number.
abbrev IsFound : Seated → ℕ × Seat → Type 0
IsFound es e = get es e.0 ≡ Some e.1

pub all_found : (es : Seated) → IsCanonical es → AllLines (IsFound es) es
all_found [] h = tt
all_found (e ∷ es) h =
    let parts : (entries.below_all nat_cmp e.0 es ≡ true) × (entries.is_sorted nat_cmp es ≡ true) = both_true _ _ h in
    (get_first e es, all_map (IsFound es) (IsFound (e ∷ es)) (λ f k. get_behind e es f.0 f.1 parts.0 k) es (all_found es parts.1))

-- The threads of a row stand in it.
pub all_stand : (rs : Rows) (r : RowId) → IsCanonical rs.seats → AllLines (λ (t : Tid). row_at (get rs.seats t.0) ≡ Some r) (best_first rs r)
all_stand rs r h =
    all_numbers (λ (t : Tid). row_at (get rs.seats t.0) ≡ Some r) (in_order (standing rs r))
    (all_in_order (λ e. row_at (get rs.seats e.0) ≡ Some r) (standing rs r)
    (all_map (IsFound (standing rs r)) (λ e. row_at (get rs.seats e.0) ≡ Some r) (λ e k. row_of_seat rs (thread e.0) r e.1 (has_seat rs r e.0 e.1 h k)) (standing rs r) (all_found (standing rs r) (canonical_standing rs r h))))

-- ---- who waits

-- Nobody is astray.
abbrev pub NoneAstray : Table Debt → Table Seat → Table Wait → Type 0
NoneAstray d s v = (u : ℕ) → status_in d s v u ≡ Astray → ⊥

pub stays_so : (d d' : Table Debt) (s s' : Table Seat) (v v' : Table Wait) → NoneAstray d s v → Stays d s v d' s' v' → NoneAstray d' s' v'
stays_so d d' s s' v v' n h u e = n u (sym (h u) ∙ e)

either_astray : (b : Bool) (x y : Status) → (x ≡ Astray → ⊥) → (y ≡ Astray → ⊥) → cond b x y ≡ Astray → ⊥
either_astray true x y h k e = h e
either_astray false x y h k e = k e

pub becomes_so : (d d' : Table Debt) (s s' : Table Seat) (v v' : Table Wait) (w : ℕ) (y : Status) → NoneAstray d s v → (y ≡ Astray → ⊥) → Becomes d s v w y d' s' v' → NoneAstray d' s' v'
becomes_so d d' s s' v v' w y n k h u e = either_astray (eqb w u) y (status_in d s v u) k (n u) (sym (h u) ∙ e)

pub waits_or_astray : (r : Option RowId) → (by_wait_row r ≡ Astray → ⊥) → by_wait_row r ≡ Waiting
waits_or_astray None h = absurd (h refl)
waits_or_astray (Some row.Ready) h = absurd (h refl)
waits_or_astray (Some (row.Mutex m)) h = absurd (h refl)
waits_or_astray (Some row.Global) h = absurd (h refl)
waits_or_astray (Some (row.Cond c)) h = refl
waits_or_astray (Some (row.Join t)) h = absurd (h refl)
waits_or_astray (Some (row.Once o)) h = absurd (h refl)
waits_or_astray (Some (row.Reader p)) h = absurd (h refl)
waits_or_astray (Some (row.Writer p)) h = absurd (h refl)
waits_or_astray (Some row.Time) h = refl

-- A thread that is on record as waiting on a condition or for a time waits.
pub with_wait_waits : (o : Option Debt) (x : Option Seat) (z : Option Wait) → is_some z ≡ true → (status o x z ≡ Astray → ⊥) → status o x z ≡ Waiting
with_wait_waits o x None e h = absurd (cc)
with_wait_waits o x (Some w) e h = waits_or_astray (row_at x) h

-- A thread that stands in a row where threads wait waits.
pub in_row_waits : (o : Option Debt) (x : Option Seat) (z : Option Wait) (r : RowId) → row_at x ≡ Some r → by_row (Some r) ≡ Waiting → (status o x z ≡ Astray → ⊥) → status o x z ≡ Waiting
in_row_waits o x (Some w) r e k h = waits_or_astray (row_at x) h
in_row_waits (Some d) x None r e k h = refl
in_row_waits None None None r e k h = absurd (cc)
in_row_waits None (Some s) None r e k h = ap by_row e ∙ k

-- ---- a caller that blocks

-- The thread runs, owes nothing, and is on record as waiting for nothing.
pub record IsCaller (d : Table Debt) (s : Table Seat) (v : Table Wait) (t : ℕ) : Type 0 where
  pub owes_nothing : get d t ≡ None
  pub has_no_wait : get v t ≡ None
  pub calm : status_in d s v t ≡ Calm

pub unchanged : (d : Table Debt) (s : Table Seat) (v : Table Wait) (t : ℕ) → status_in d s v t ≡ Calm → Becomes d s v t Calm d s v
unchanged d s v t e = becomes_again d d s s v v t Calm (λ u. refl) e

pub block_becomes : (d : Table Debt) (v : Table Wait) (rs : Rows) (r : RowId) (t : Tid) (rank : ℕ) → IsCaller d rs.seats v t.0 → Becomes d rs.seats v t.0 (by_row (Some r)) d (block_in rs r t rank).seats v
block_becomes d v rs r t rank c =
    becomes d d rs.seats (block_in rs r t rank).seats v v t.0 None (Some (record { rank = rank; place = Stands r rs.next_arrival })) None
    (with_known d t.0 None c.owes_nothing) (with_put_cut (is_running (seat_of rs t)) rs.seats t.0 _) (with_known v t.0 None c.has_no_wait)

pub block_if_becomes : (b : Bool) (d : Table Debt) (v : Table Wait) (rs : Rows) (r : RowId) (t : Tid) (rank : ℕ) → by_row (Some r) ≡ Waiting → IsCaller d rs.seats v t.0
    → Becomes d rs.seats v t.0 (status_after b) d (block_if b rs r t rank).seats v
block_if_becomes true d v rs r t rank w c = subst (λ y. Becomes d rs.seats v t.0 y d (block_in rs r t rank).seats v) w (block_becomes d v rs r t rank c)
block_if_becomes false d v rs r t rank w c = unchanged d rs.seats v t.0 c.calm

-- The same of one that is on record as waiting, too.
pub wait_becomes : (b : Bool) (d : Table Debt) (v : Table Wait) (rs : Rows) (r : RowId) (w : Wait) (t : Tid) (rank : ℕ) → by_wait_row (Some r) ≡ Waiting → IsCaller d rs.seats v t.0
    → Becomes d rs.seats v t.0 (status_after b) d (block_if b rs r t rank).seats (put_if v t.0 (keep_if b (Some w)))
wait_becomes true d v rs r w t rank e c =
    subst (λ y. Becomes d rs.seats v t.0 y d (block_in rs r t rank).seats (put v t.0 w)) e
    (becomes d d rs.seats (block_in rs r t rank).seats v (put v t.0 w) t.0 None (Some (record { rank = rank; place = Stands r rs.next_arrival })) (Some w)
    (with_known d t.0 None c.owes_nothing) (with_put_cut (is_running (seat_of rs t)) rs.seats t.0 _) (with_put v t.0 w))
wait_becomes false d v rs r w t rank e c = unchanged d rs.seats v t.0 c.calm

-- ---- threads that are woken out of a row

-- The thread waits in a row that is none of a condition or of times.
pub record WaitsElsewhere (d : Table Debt) (s : Table Seat) (v : Table Wait) (t : ℕ) : Type 0 where
  pub waits : status_in d s v t ≡ Waiting
  pub no_wait : get v t ≡ None

pub elsewhere : (d : Table Debt) (s : Table Seat) (v : Table Wait) (t : ℕ) (r : RowId) → NoneAstray d s v → row_at (get s t) ≡ Some r → by_row (Some r) ≡ Waiting → by_wait_row (Some r) ≡ Astray
    → WaitsElsewhere d s v t
elsewhere d s v t r n e w a =
    let is : status_in d s v t ≡ Waiting = in_row_waits (get d t) (get s t) (get v t) r e w (n t) in
    record { waits = is; no_wait = no_wait (get d t) (get s t) (get v t) (ap by_wait_row e ∙ a) is }

-- It leaves the row, is ready, and owes this.
pub ready_stays : (d : Table Debt) (v : Table Wait) (rs : Rows) (t : Tid) (o : Debt) (rank : Tid → ℕ) → WaitsElsewhere d rs.seats v t.0
    → Stays d rs.seats v (put d t.0 o) (make_ready rank (take_out rs t).rows t).seats v
ready_stays d v rs t o rank w =
    woken_stays d (put d t.0 o) rs.seats (make_ready rank (take_out rs t).rows t).seats v v t.0 o _ (with_put d t.0 o) (with_put_cut (is_in_row (seat_of rs t)) rs.seats t.0 _)
    (with_known v t.0 None w.no_wait) w.waits

still_elsewhere : (d d' : Table Debt) (s s' : Table Seat) (v : Table Wait) (ts : List Tid) → Stays d s v d' s' v → AllLines (λ (t : Tid). WaitsElsewhere d s v t.0) ts → AllLines (λ (t : Tid). WaitsElsewhere d' s' v t.0) ts
still_elsewhere d d' s s' v ts h all =
    all_map (λ (t : Tid). WaitsElsewhere d s v t.0) (λ (t : Tid). WaitsElsewhere d' s' v t.0) (λ t k. record { waits = h t.0 ∙ k.waits; no_wait = k.no_wait }) ts all

pub all_ready_stay : (ts : List Tid) (d : Table Debt) (v : Table Wait) (rs : Rows) (o : Debt) (rank : Tid → ℕ) → AllLines (λ (t : Tid). WaitsElsewhere d rs.seats v t.0) ts
    → Stays d rs.seats v (all_owe d o ts) (make_all_ready rank rs ts).seats v
unfolding make_all_ready
all_ready_stay [] d v rs o rank all u = refl
all_ready_stay (t ∷ ts) d v rs o rank all u =
    let rows : Rows = make_ready rank (take_out rs t).rows t in
    let one : Stays d rs.seats v (put d t.0 o) rows.seats v = ready_stays d v rs t o rank all.0 in
    all_ready_stay ts (put d t.0 o) v rows o rank (still_elsewhere d (put d t.0 o) rs.seats rows.seats v ts one all.1) u ∙ one u

-- A whole row becomes ready.
pub free_row_stays : (d : Table Debt) (v : Table Wait) (rs : Rows) (r : RowId) (o : Debt) (rank : Tid → ℕ) → NoneAstray d rs.seats v → IsCanonical rs.seats → by_row (Some r) ≡ Waiting → by_wait_row (Some r) ≡ Astray
    → Stays d rs.seats v (all_owe d o (free_row rank rs r).woken) (free_row rank rs r).rows.seats v
free_row_stays d v rs r o rank n h w a =
    all_ready_stay (best_first rs r) d v rs o rank
    (all_map (λ (t : Tid). row_at (get rs.seats t.0) ≡ Some r) (λ (t : Tid). WaitsElsewhere d rs.seats v t.0) (λ t k. elsewhere d rs.seats v t.0 r n k w a) (best_first rs r) (all_stand rs r h))

-- ---- threads that are woken from a condition or at a time

out_is : (b : Bool) (rs : Rows) (t : Tid) (x : Seat) → IsWith rs.seats (put (take_out_if rs (some_if b t)).seats t.0 x) t.0 (Some x)
out_is true rs t x = with_put_cut (is_in_row (seat_of rs t)) rs.seats t.0 x
out_is false rs t x = with_put rs.seats t.0 x

pub without_is : (o : Option Wait) (v : Table Wait) (t : Tid) → get v t.0 ≡ o → IsWith v (waits_without v (some_if (is_some o) t)) t.0 None
without_is None v t e = with_known v t.0 None e
without_is (Some w) v t e = with_cut v t.0

pub resumed_seat : (rank : Tid → ℕ) (ls : Locks) (rs : Rows) (t : Tid) (m : Option NameId) → (x : Seat) × ((resume rank ls rs t m).rows.seats ≡ put rs.seats t.0 x)
resumed_seat rank ls rs t None = (_, refl)
resumed_seat rank ls rs t (Some m) = (_, refl)

-- The rows and waits after a thread has left its wait and is ready or waits for its mutex.
abbrev pub rows_resumed : (Tid → ℕ) → Conds → Locks → Rows → Tid → Rows
rows_resumed rank cs ls rs t = (resume rank ls (pull_out cs rs t).rows t (mutex_with cs t)).rows

pub pulled_stays : (d : Table Debt) (cs : Conds) (ls : Locks) (rs : Rows) (t : Tid) (o : Debt) (rank : Tid → ℕ) → status_in d rs.seats cs.waits t.0 ≡ Waiting
    → Stays d rs.seats cs.waits (put d t.0 o) (rows_resumed rank cs ls rs t).seats (pull_out cs rs t).conds.waits
pulled_stays d cs ls rs t o rank e =
    let x : (x : Seat) × ((rows_resumed rank cs ls rs t).seats ≡ put (pull_out cs rs t).rows.seats t.0 x) = resumed_seat rank ls (pull_out cs rs t).rows t (mutex_with cs t) in
    woken_stays d (put d t.0 o) rs.seats (rows_resumed rank cs ls rs t).seats cs.waits (pull_out cs rs t).conds.waits t.0 o (Some x.0) (with_put d t.0 o)
    (subst (λ m. IsWith rs.seats m t.0 (Some x.0)) (sym x.1) (out_is (is_some (wait_of cs t)) rs t x.0)) (without_is (wait_of cs t) cs.waits t refl) e

still_wait : (d d' : Table Debt) (s s' : Table Seat) (v v' : Table Wait) (ts : List Tid) → Stays d s v d' s' v' → AllLines (λ (t : Tid). status_in d s v t.0 ≡ Waiting) ts → AllLines (λ (t : Tid). status_in d' s' v' t.0 ≡ Waiting) ts
still_wait d d' s s' v v' ts h all = all_map (λ (t : Tid). status_in d s v t.0 ≡ Waiting) (λ (t : Tid). status_in d' s' v' t.0 ≡ Waiting) (λ t k. h t.0 ∙ k) ts all

-- Threads that are woken owe one reply.
pub notified_stay : (ts : List Tid) (d : Table Debt) (cs : Conds) (ls : Locks) (rs : Rows) (o : Debt) (rank : Tid → ℕ) → AllLines (λ (t : Tid). status_in d rs.seats cs.waits t.0 ≡ Waiting) ts
    → (let w : Woken = wake_all rank cs ls rs ts in Stays d rs.seats cs.waits (all_owe d o (map (λ w. w.0) w.woken)) w.rows.seats w.conds.waits)
unfolding wake_all
notified_stay [] d cs ls rs o rank all u = refl
notified_stay (t ∷ ts) d cs ls rs o rank all u =
    let left : LeftWait = pull_out cs rs t in
    let now : Regained = resume rank ls left.rows t (mutex_with cs t) in
    let one : Stays d rs.seats cs.waits (put d t.0 o) now.rows.seats left.conds.waits = pulled_stays d cs ls rs t o rank all.0 in
    notified_stay ts (put d t.0 o) left.conds now.locks now.rows o rank (still_wait d (put d t.0 o) rs.seats now.rows.seats cs.waits left.conds.waits ts one all.1) u ∙ one u

-- Threads whose time has come owe each its own.
pub expired_stay : (ts : List Tid) (d : Table Debt) (cs : Conds) (ls : Locks) (rs : Rows) (rank : Tid → ℕ) → AllLines (λ (t : Tid). status_in d rs.seats cs.waits t.0 ≡ Waiting) ts
    → (let w : Woken = wake_all rank cs ls rs ts in Stays d rs.seats cs.waits (due_owe d w.woken) w.rows.seats w.conds.waits)
unfolding wake_all
expired_stay [] d cs ls rs rank all u = refl
expired_stay (t ∷ ts) d cs ls rs rank all u =
    let left : LeftWait = pull_out cs rs t in
    let now : Regained = resume rank ls left.rows t (mutex_with cs t) in
    let o : Debt = due_debt (mutex_with cs t) in
    let one : Stays d rs.seats cs.waits (put d t.0 o) now.rows.seats left.conds.waits = pulled_stays d cs ls rs t o rank all.0 in
    expired_stay ts (put d t.0 o) left.conds now.locks now.rows rank (still_wait d (put d t.0 o) rs.seats now.rows.seats cs.waits left.conds.waits ts one all.1) u ∙ one u

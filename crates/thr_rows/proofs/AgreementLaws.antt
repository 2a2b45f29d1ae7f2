-- An object that keeps waits by the numbers of threads goes on to agree with the rows on who waits, whatever becomes of
-- threads in rows and on processors.
use Rattle.std.proofs.Common.{◌≡◌, ℕ, ◌≤◌, Bool, true, false, ◌||◌, cond, eqb, ltb, length, List, [], ◌∷◌, Option, Some, None, refl, sym, arith, ◌∙◌, ap}
use Rattle.std.proofs.lemmas.Bool.Decides.{nat_tests}
use Rattle.std.specs.Option.{option_map, is_some, is_none}
use Rattle.thr_values.specs.declared.number.Tid.{Tid}
use Rattle.thr_parts.specs.declared.row.RowId.{RowId}
use Rattle.thr_parts.specs.declared.row.RowId.TheVariants as row
use Rattle.thr_parts.specs.declared.row.Place.{Place}
use Rattle.thr_parts.specs.declared.row.Place.TheVariants.{Runs, Stands}
use Rattle.thr_parts.specs.declared.row.Seat.{Seat}
use Rattle.thr_parts.specs.Tables.{Table, none, get, put, put_if, cut, cut_if, has, keep_if, IsCanonical}
use Rattle.thr_parts.specs.Rows.{Rows, no_rows, thread, seat_of, row_in, row_at, row_of, is_in_row, is_running, standing, best_of, best, best_first, is_among, most}
use Rattle.thr_parts.specs.Moves.{as_ranked, put_in_row, take_out, take_out_if, leave, block_in, block_if, set_rank, make_ready, make_all_ready, free_row}
use Rattle.thr_parts.specs.Dispatch.{running, next_for, with_processor, dispatch, gives_way, a_turn_later, as_kept, keeps}
use Rattle.thr_parts.specs.Closing.{free_if}
use Rattle.thr_parts.proofs.TableLaws.{get_none, get_put, get_cut, has_get}
use Rattle.thr_parts.proofs.LengthLaws.{not_longer}
use Rattle.thr_parts.proofs.RowLaws.{best_stands}
use Rattle.thr_parts.proofs.StandingLaws.{among_is}
use Rattle.thr_tables.specs.Places.{has_place}

-- How the waits of an object stand in rows: the row in which a thread stands that waits so, and the row that is there, where
-- threads stand in it that have such a wait. No thread has one that is ready or stands nowhere.
pub record Waits (W : Type 0) : Type 0 where
  pub stands : W → RowId
  pub its : Option RowId → Option RowId
  pub nowhere : its None ≡ None
  pub ready : its (Some row.Ready) ≡ None
  pub own : (w : W) → its (Some (stands w)) ≡ Some (stands w)

-- A thread stands in a row of the object exactly where it is kept as waiting there.
pub record Agree {W : Type 0} (o : Waits W) (m : Table W) (rs : Rows) : Type 0 where
  pub same : (q : ℕ) → option_map o.stands (get m q) ≡ o.its (row_at (get rs.seats q))

-- ---- one number

-- The row in which a seat that is there keeps a thread that waits.
abbrev waiting_at : {W : Type 0} → Waits W → Option Seat → Option RowId
waiting_at o s = o.its (row_at s)

same_number : (x y : ℕ) → eqb x y ≡ true → x ≡ y
same_number x y e = grind (arith, nat_tests)

changed_at : {W : Type 0} (o : Waits W) (w v : Option W) (s r : Option Seat) (b : Bool) → option_map o.stands w ≡ waiting_at o s → option_map o.stands v ≡ waiting_at o r
    → option_map o.stands (cond b w v) ≡ waiting_at o (cond b s r)
changed_at o w v s r true here rest = here
changed_at o w v s r false here rest = rest

-- Where one thread comes to wait elsewhere, by both.
pub changed : {W : Type 0} (o : Waits W) (m after : Table W) (rs new : Rows) (t : ℕ) (w : Option W) (s : Option Seat) → Agree o m rs → option_map o.stands w ≡ waiting_at o s
    → ((q : ℕ) → get after q ≡ cond (eqb t q) w (get m q)) → ((q : ℕ) → get new.seats q ≡ cond (eqb t q) s (get rs.seats q)) → Agree o after new
changed o m after rs new t w s h here waits seats = record {
  same = λ q. ap (option_map o.stands) (waits q) ∙ changed_at o w (get m q) s (get rs.seats q) (eqb t q) here (h.same q) ∙ sym (ap (waiting_at o) (seats q));
}

itself_at : {A : Type 0} (m : Table A) (t q : ℕ) (b : Bool) → eqb t q ≡ b → get m q ≡ cond b (get m t) (get m q)
itself_at m t q true at = ap (get m) (sym (same_number t q at))
itself_at m t q false at = refl

-- Where one thread comes to a place at which it waits as before.
pub moved : {W : Type 0} (o : Waits W) (m : Table W) (rs new : Rows) (t : ℕ) (s : Option Seat) → Agree o m rs → waiting_at o s ≡ waiting_at o (get rs.seats t)
    → ((q : ℕ) → get new.seats q ≡ cond (eqb t q) s (get rs.seats q)) → Agree o m new
moved o m rs new t s h here seats = changed o m m rs new t (get m t) s h (h.same t ∙ sym here) (λ q. itself_at m t q (eqb t q) refl) seats

-- ---- who doesn't wait

no_wait_by : {W : Type 0} (f : W → RowId) (w : Option W) → option_map f w ≡ None → w ≡ None
no_wait_by f None e = refl
no_wait_by f (Some w) e = absurd (cc)

-- A thread that stands in another row, or in none, has no wait.
pub no_wait : {W : Type 0} (o : Waits W) (m : Table W) (rs : Rows) (t : Tid) → Agree o m rs → o.its (row_of rs t) ≡ None → get m t.0 ≡ None
no_wait o m rs t h e = no_wait_by o.stands (get m t.0) (h.same t.0 ∙ e)

-- And one that has no wait stands in another row, or in none.
elsewhere : {W : Type 0} (o : Waits W) (m : Table W) (rs : Rows) (t : Tid) → Agree o m rs → get m t.0 ≡ None → waiting_at o (seat_of rs t) ≡ None
elsewhere o m rs t h e = sym (h.same t.0) ∙ ap (option_map o.stands) e

pub best_waits_not : {W : Type 0} (o : Waits W) (m : Table W) (rs : Rows) (r : RowId) (t : Tid) → IsCanonical rs.seats → Agree o m rs → o.its (Some r) ≡ None → best rs r ≡ Some t → get m t.0 ≡ None
best_waits_not o m rs r t h agrees other is = no_wait o m rs t agrees (ap o.its (best_stands rs r t h is) ∙ other)

-- ---- the opening

pub agree_opening : {W : Type 0} (o : Waits W) → Agree o none no_rows
agree_opening o = record { same = λ q. ap (option_map o.stands) (get_none q) ∙ sym (ap (waiting_at o) (get_none q) ∙ o.nowhere) }

-- ---- threads that come and go

pub agree_put : {W : Type 0} (o : Waits W) (m : Table W) (rs : Rows) (r : RowId) (t : Tid) (rank : ℕ) → Agree o m rs → get m t.0 ≡ None → o.its (Some r) ≡ None → Agree o m (put_in_row rs r t rank)
agree_put o m rs r t rank h alone other =
    moved o m rs (put_in_row rs r t rank) t.0 (Some (record { rank = rank; place = Stands r rs.next_arrival })) h (other ∙ sym (elsewhere o m rs t h alone)) (λ q. get_put rs.seats t.0 q _)

agree_cut_if : {W : Type 0} (o : Waits W) (b : Bool) (m : Table W) (rs : Rows) (t n : ℕ) → Agree o m rs → (b ≡ true → waiting_at o (get rs.seats t) ≡ None)
    → Agree o m (record { seats = cut_if b rs.seats t; next_arrival = n })
agree_cut_if o true m rs t n h here =
    moved o m rs (record { seats = cut_if true rs.seats t; next_arrival = n }) t None h (o.nowhere ∙ sym (here refl)) (λ q. get_cut rs.seats t q)
agree_cut_if o false m rs t n h here = record { same = h.same }

pub agree_take_out : {W : Type 0} (o : Waits W) (m : Table W) (rs : Rows) (t : Tid) → Agree o m rs → get m t.0 ≡ None → Agree o m (take_out rs t).rows
agree_take_out o m rs t h alone = agree_cut_if o (is_in_row (seat_of rs t)) m rs t.0 rs.next_arrival h (λ _. elsewhere o m rs t h alone)

pub agree_take_out_if : {W : Type 0} (o : Waits W) (m : Table W) (rs : Rows) (who : Option Tid) → Agree o m rs → ((t : Tid) → who ≡ Some t → get m t.0 ≡ None) → Agree o m (take_out_if rs who)
agree_take_out_if o m rs None h alone = record { same = h.same }
agree_take_out_if o m rs (Some t) h alone = agree_take_out o m rs t h (alone t refl)

pub from_kept : {A : Type 0} (b : Bool) (o : Option A) (x : A) → keep_if b o ≡ Some x → o ≡ Some x
from_kept true o x e = e
from_kept false o x e = absurd (cc)

-- The best of another row may leave it.
pub agree_take_best : {W : Type 0} (o : Waits W) (b : Bool) (m : Table W) (rs : Rows) (r : RowId) → IsCanonical rs.seats → Agree o m rs → o.its (Some r) ≡ None
    → Agree o m (take_out_if rs (keep_if b (best rs r)))
agree_take_best o b m rs r h agrees other =
    agree_take_out_if o m rs (keep_if b (best rs r)) agrees (λ t e. best_waits_not o m rs r t h agrees other (from_kept b (best rs r) t e))

no_row : (o : Option RowId) → is_none o ≡ true → o ≡ None
no_row None e = refl
no_row (Some r) e = absurd (cc)

running_row : {W : Type 0} (o : Waits W) (s : Option Seat) → is_running s ≡ true → waiting_at o s ≡ None
running_row o None e = absurd (cc)
running_row o (Some s) e = ap o.its (no_row (row_in s.place) e) ∙ o.nowhere

pub agree_leave : {W : Type 0} (o : Waits W) (m : Table W) (rs : Rows) (t : Tid) → Agree o m rs → Agree o m (leave rs t)
agree_leave o m rs t h = agree_cut_if o (is_running (seat_of rs t)) m rs t.0 rs.next_arrival h (running_row o (seat_of rs t))

pub agree_block_in : {W : Type 0} (o : Waits W) (m : Table W) (rs : Rows) (r : RowId) (t : Tid) (rank : ℕ) → Agree o m rs → get m t.0 ≡ None → o.its (Some r) ≡ None → Agree o m (block_in rs r t rank)
agree_block_in o m rs r t rank h alone other = agree_put o m (leave rs t) r t rank (agree_leave o m rs t h) alone other

pub agree_block_if : {W : Type 0} (o : Waits W) (b : Bool) (m : Table W) (rs : Rows) (r : RowId) (t : Tid) (rank : ℕ) → Agree o m rs → get m t.0 ≡ None → o.its (Some r) ≡ None
    → Agree o m (block_if b rs r t rank)
agree_block_if o true m rs r t rank h alone other =
    let after : Agree o m (block_in rs r t rank) = agree_block_in o m rs r t rank h alone other in record { same = after.same }
agree_block_if o false m rs r t rank h alone other = record { same = h.same }

-- ---- seats that are replaced

agree_replaced : {W : Type 0} (o : Waits W) (f : Seat → Seat) (m : Table W) (rs : Rows) (t n : ℕ) (p : Option Seat) → get rs.seats t ≡ p → Agree o m rs
    → ((s : Seat) → p ≡ Some s → waiting_at o (Some (f s)) ≡ waiting_at o (Some s)) → Agree o m (record { seats = put_if rs.seats t (option_map f p); next_arrival = n })
agree_replaced o f m rs t n None at h here = record { same = h.same }
agree_replaced o f m rs t n (Some s) at h here =
    moved o m rs (record { seats = put_if rs.seats t (Some (f s)); next_arrival = n }) t (Some (f s)) h (here s refl ∙ sym (ap (waiting_at o) at)) (λ q. get_put rs.seats t q (f s))

pub agree_set_rank : {W : Type 0} (o : Waits W) (m : Table W) (rs : Rows) (t : Tid) (rank : ℕ) → Agree o m rs → Agree o m (set_rank rs t rank)
agree_set_rank o m rs t rank h = agree_replaced o (as_ranked rank) m rs t.0 rs.next_arrival (seat_of rs t) refl h (λ s _. refl)

stays_or_ready : {W : Type 0} (o : Waits W) (b : Bool) (n : ℕ) (q : Place) → row_in q ≡ None → o.its (row_in (cond b (Stands row.Ready n) q)) ≡ None
stays_or_ready o true n q e = o.ready
stays_or_ready o false n q e = ap o.its e ∙ o.nowhere

kept_place : {W : Type 0} (o : Waits W) (rs : Rows) (fifo : Bool) (rank : ℕ) (p : Place) → o.its (row_in (cond (gives_way rs fifo rank p) (Stands row.Ready rs.next_arrival) (a_turn_later fifo p))) ≡ o.its (row_in p)
kept_place o rs fifo rank (Runs p slice) =
    stays_or_ready o (gives_way rs fifo rank (Runs p slice)) rs.next_arrival (a_turn_later fifo (Runs p slice)) refl ∙ sym o.nowhere
kept_place o rs fifo rank (Stands r arrival) = refl

pub agree_keeps : {W : Type 0} (o : Waits W) (m : Table W) (rs : Rows) (t : Tid) (fifo : Bool) → Agree o m rs → Agree o m (keeps rs t fifo).rows
agree_keeps o m rs t fifo h =
    agree_replaced o (as_kept rs fifo) m rs t.0 (keeps rs t fifo).rows.next_arrival (seat_of rs t) refl h (λ s _. kept_place o rs fifo s.rank s.place)

-- ---- dispatch

best_number : (rs : Rows) (r : RowId) (e : ℕ × Seat) → best_of (standing rs r) ≡ Some e → best rs r ≡ Some (thread e.0)
best_number rs r e is = ap (option_map (λ (x : ℕ × Seat). thread x.0)) is

if_free : (b : Bool) (o : Option (ℕ × Seat)) (e : ℕ × Seat) → cond b o None ≡ Some e → o ≡ Some e
if_free true o e is = is
if_free false o e is = absurd (cc)

agree_processor : {W : Type 0} (o : Waits W) (m : Table W) (rs : Rows) (p n : ℕ) (next : Option (ℕ × Seat)) → Agree o m rs → ((e : ℕ × Seat) → next ≡ Some e → waiting_at o (get rs.seats e.0) ≡ None)
    → Agree o m (record { seats = with_processor next rs.seats p; next_arrival = n })
agree_processor o m rs p n None h here = record { same = h.same }
agree_processor o m rs p n (Some e) h here =
    moved o m rs (record { seats = with_processor (Some e) rs.seats p; next_arrival = n }) e.0 (Some (record { rank = e.1.rank; place = Runs p 8 })) h (o.nowhere ∙ sym (here e refl)) (λ q. get_put rs.seats e.0 q _)

pub agree_dispatch : {W : Type 0} (o : Waits W) (m : Table W) (rs : Rows) (p : ℕ) → IsCanonical rs.seats → Agree o m rs → Agree o m (dispatch rs p).rows
agree_dispatch o m rs p h agrees =
    agree_processor o m rs p rs.next_arrival (next_for rs p) agrees (λ e is.
    ap o.its (best_stands rs row.Ready (thread e.0) h (best_number rs row.Ready e (if_free (is_none (running rs p)) (best_of (standing rs row.Ready)) e is))) ∙ o.ready)

-- ---- rows that become ready

among_head : (t : Tid) (ts : List Tid) → is_among t (t ∷ ts) ≡ true
among_head t ts = grind (arith, nat_tests)

or_later : (a b : Bool) → b ≡ true → (a || b) ≡ true
or_later true b e = refl
or_later false b e = e

among_later : (u t : Tid) (ts : List Tid) → is_among u ts ≡ true → is_among u (t ∷ ts) ≡ true
among_later u t ts e = or_later (eqb t.0 u.0) (is_among u ts) e

-- Whether none of these threads has a wait.
abbrev pub NoneWaits : {W : Type 0} → Table W → List Tid → Type 0
NoneWaits m ts = (t : Tid) → is_among t ts ≡ true → get m t.0 ≡ None

pub none_head : {W : Type 0} (m : Table W) (t : Tid) (ts : List Tid) → NoneWaits m (t ∷ ts) → get m t.0 ≡ None
none_head m t ts alone = alone t (among_head t ts)

pub none_later : {W : Type 0} (m : Table W) (t : Tid) (ts : List Tid) → NoneWaits m (t ∷ ts) → NoneWaits m ts
none_later m t ts alone = λ u e. alone u (among_later u t ts e)

agree_all_ready : {W : Type 0} (o : Waits W) (rank : Tid → ℕ) (m : Table W) (rs : Rows) (ts : List Tid) → Agree o m rs → NoneWaits m ts → Agree o m (make_all_ready rank rs ts)
unfolding make_all_ready
agree_all_ready o rank m rs [] h alone = h
agree_all_ready o rank m rs (t ∷ ts) h alone =
    agree_all_ready o rank m (make_ready rank (take_out rs t).rows t) ts
    (agree_put o m (take_out rs t).rows row.Ready t (rank t) (agree_take_out o m rs t h (none_head m t ts alone)) (none_head m t ts alone) o.ready)
    (none_later m t ts alone)

-- No thread of another row has a wait.
pub none_in_row : {W : Type 0} (o : Waits W) (m : Table W) (rs : Rows) (r : RowId) → IsCanonical rs.seats → Agree o m rs → o.its (Some r) ≡ None → NoneWaits m (best_first rs r)
none_in_row o m rs r h agrees other = λ t e. no_wait o m rs t agrees (ap o.its ((among_is rs r t h).0 e) ∙ other)

pub agree_free_row : {W : Type 0} (o : Waits W) (rank : Tid → ℕ) (m : Table W) (rs : Rows) (r : RowId) → IsCanonical rs.seats → Agree o m rs → o.its (Some r) ≡ None → Agree o m (free_row rank rs r).rows
agree_free_row o rank m rs r h agrees other = agree_all_ready o rank m rs (best_first rs r) agrees (none_in_row o m rs r h agrees other)

pub agree_free_if : {W : Type 0} (o : Waits W) (b : Bool) (rank : Tid → ℕ) (m : Table W) (rs : Rows) (r : RowId) → IsCanonical rs.seats → Agree o m rs → o.its (Some r) ≡ None
    → Agree o m (free_if b rank rs r).rows
agree_free_if o true rank m rs r h agrees other =
    let after : Agree o m (free_row rank rs r).rows = agree_free_row o rank m rs r h agrees other in record { same = after.same }
agree_free_if o false rank m rs r h agrees other = record { same = agrees.same }

-- ---- waits that begin and end

begun : {W : Type 0} (o : Waits W) (m : Table W) (rs : Rows) (w : W) (t : Tid) (rank : ℕ) → Agree o m rs → Agree o (put m t.0 w) (block_in rs (o.stands w) t rank)
begun o m rs w t rank h =
    changed o m (put m t.0 w) (leave rs t) (block_in rs (o.stands w) t rank) t.0 (Some w) (Some (record { rank = rank; place = Stands (o.stands w) rs.next_arrival }))
    (agree_leave o m rs t h) (sym (o.own w)) (λ q. get_put m t.0 q w) (λ q. get_put (leave rs t).seats t.0 q _)

pub agree_begun_if : {W : Type 0} (o : Waits W) (b : Bool) (m : Table W) (rs : Rows) (w : W) (t : Tid) (rank : ℕ) → Agree o m rs
    → Agree o (put_if m t.0 (keep_if b (Some w))) (block_if b rs (o.stands w) t rank)
agree_begun_if o true m rs w t rank h =
    let after : Agree o (put m t.0 w) (block_in rs (o.stands w) t rank) = begun o m rs w t rank h in record { same = after.same }
agree_begun_if o false m rs w t rank h = record { same = h.same }

-- A thread that stands in a row leaves it, and its wait if it has one.
pub agree_left : {W : Type 0} (o : Waits W) (m : Table W) (rs : Rows) (t : Tid) → Agree o m rs → is_in_row (seat_of rs t) ≡ true → Agree o (cut m t.0) (take_out_if rs (Some t))
agree_left o m rs t h is =
    changed o m (cut m t.0) rs (take_out_if rs (Some t)) t.0 None None h (sym o.nowhere) (λ q. get_cut m t.0 q) (λ q.
    ap (λ (b : Bool). get (cut_if b rs.seats t.0) q) is ∙ get_cut rs.seats t.0 q)

-- A thread that has a wait stands in a row.
in_row_by : {W : Type 0} (o : Waits W) (w : Option W) (r : Option RowId) → option_map o.stands w ≡ o.its r → is_some w ≡ true → is_some r ≡ true
in_row_by o None r e is = absurd (cc)
in_row_by o (Some w) None e is = absurd (cc (e ∙ o.nowhere))
in_row_by o (Some w) (Some r) e is = refl

pub waits_in_row : {W : Type 0} (o : Waits W) (m : Table W) (rs : Rows) (t : Tid) → Agree o m rs → is_some (get m t.0) ≡ true → is_in_row (seat_of rs t) ≡ true
waits_in_row o m rs t h is = in_row_by o (get m t.0) (row_of rs t) (h.same t.0) is

itself : (x : ℕ) → eqb x x ≡ true
itself x = grind (arith, nat_tests)

-- A wait that has ended isn't there any more.
pub gone : {W : Type 0} (m : Table W) (t : ℕ) → get (cut m t) t ≡ None
gone m t = get_cut m t t ∙ ap (λ (b : Bool). cond b None (get m t)) (itself t)

-- ---- room for one wait more

seat_by : {W : Type 0} (o : Waits W) (w : Option W) (s : Option Seat) → option_map o.stands w ≡ waiting_at o s → is_some w ≡ true → is_some s ≡ true
seat_by o None s e is = absurd (cc)
seat_by o (Some w) None e is = absurd (cc (e ∙ o.nowhere))
seat_by o (Some w) (Some s) e is = refl

-- A thread that waits has a seat.
pub are_seated : {W : Type 0} (o : Waits W) (m : Table W) (rs : Rows) (q : ℕ) → Agree o m rs → has m q ≡ true → has rs.seats q ≡ true
are_seated o m rs q h is = has_get rs.seats q ∙ seat_by o (get m q) (get rs.seats q) (h.same q) (sym (has_get m q) ∙ is)

or_true : (a b : Bool) → b ≡ true → (a || b) ≡ true
or_true true b e = refl
or_true false b e = e

few : (n k : ℕ) → n ≤ k → k ≤ most → ltb n 4096 ≡ true
few n k h g = grind (arith, nat_tests)

-- So there is room for one wait more.
pub place_for_wait : {W : Type 0} (o : Waits W) (m : Table W) (rs : Rows) (t : ℕ) → Agree o m rs → IsCanonical m → length rs.seats ≤ most → has_place m t 4096 ≡ true
place_for_wait o m rs t h rises within =
    or_true (has m t) (ltb (length m) 4096)
    (few (length m) (length rs.seats) (not_longer m rs.seats rises (λ q is. are_seated o m rs q h is)) within)

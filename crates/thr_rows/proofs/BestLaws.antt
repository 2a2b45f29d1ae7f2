-- The best of a row and the first on a processor, as the code finds them.
use Rattle.std.proofs.Common.{◌≡◌, ℕ, ◌+◌, ◌-◌, ◌<◌, ◌≤◌, get_or, drop, slice_get, Bool, true, false, ◌&&◌, ◌||◌, cond, if◌then◌else◌, ◌∷◌, length, Option, Some, None, IfSome, refl, sym, arith, ◌∙◌, ap, is_some, is_none, not}
use Rattle.std.proofs.lemmas.List.{drop_more, drop_all}
use Rattle.std.proofs.lemmas.Option.{slice_get_past, slice_get-get_or}
use Rattle.std.specs.List.{filter}
use Rattle.thr_parts.specs.declared.row.RowId.{RowId}
use Rattle.thr_parts.specs.declared.row.RowId.TheVariants as row
use Rattle.thr_parts.specs.declared.row.Seat.{Seat}
use Rattle.thr_values.specs.declared.number.Tid.{Tid}
use Rattle.std.specs.Option.{option_map}
use Rattle.thr_parts.specs.declared.row.Place.{Place}
use Rattle.thr_parts.specs.declared.row.Place.TheVariants.{Runs, Stands}
use Rattle.thr_parts.specs.Tables.{Table, get, has, put, put_if, cut_if, IsCanonical}
use Rattle.thr_parts.specs.Moves.{put_in_row, block_in}
use Rattle.thr_tables.specs.Places.{has_place}
use Rattle.std.specs.Prelude.{nat_lt}
use Rattle.thr_parts.specs.Rows.{Rows, Seated, is_before, place_in, better, best_of, standing, number_in, best, is_running, row_in, seat_of, has_room, most}
use Rattle.thr_parts.specs.Dispatch.{runs_on, first, running, is_outranked, is_matched, outranks, matches_rank, does_give_way, as_kept, Kept, keeps}
use Rattle.thr_parts.proofs.TableLaws.{has_get, put_cut}
use Rattle.thr_parts.proofs.EntryLaws.{pass, canonical_filter, get_filter}
use Rattle.thr_parts.proofs.BestLaws.{best_empty, found}
use Rattle.thr_parts.proofs.RowLaws.{standing_is}
use Rattle.thr_parts.proofs.StandingLaws.{any_greater, any_equal}
use Rattle.thr_rows.proofs.RememberedLaws.{put_same}

abbrev in_row : RowId → ℕ × Seat → Bool
in_row r e = place_in r e.1.place

best_cons : (e : ℕ × Seat) (es : Seated) → best_of (e ∷ es) ≡ Some (better e (best_of es))
unfolding best_of
best_cons e es = refl

-- ---- the best and the first, entry by entry

pub best_whole : (p : ℕ × Seat → Bool) (xs : Seated) (i : ℕ) → length xs ≤ i → None ≡ best_of (filter p (drop i xs))
best_whole p xs i h = sym (ap (λ l. best_of (filter p l)) (drop_all i xs h) ∙ best_empty)

pub best_taken : (p : ℕ × Seat → Bool) (xs : Seated) (i : ℕ) (d r : ℕ × Seat) (found : Option (ℕ × Seat)) → 0 < i → i ≤ length xs → p (get_or xs (i - 1) d) ≡ true
    → found ≡ best_of (filter p (drop i xs)) → r ≡ better (get_or xs (i - 1) d) found → Some r ≡ best_of (filter p (drop (i - 1) xs))
best_taken p xs i d r found a b is ih e =
    let n : (i - 1) + 1 ≡ i = omega arith in
    let x : ℕ × Seat = get_or xs (i - 1) d in
    sym (ap (λ l. best_of (filter p l)) (drop_more xs (i - 1) d (omega arith) ∙ ap (λ k. x ∷ drop k xs) n)
    ∙ ap (λ c. best_of (cond c (x ∷ filter p (drop i xs)) (filter p (drop i xs)))) is ∙ best_cons x (filter p (drop i xs))
    ∙ ap (λ o. Some (better x o)) (sym ih) ∙ ap Some (sym e))

pub best_passed : (p : ℕ × Seat → Bool) (xs : Seated) (i : ℕ) (d : ℕ × Seat) (found : Option (ℕ × Seat)) → 0 < i → i ≤ length xs → p (get_or xs (i - 1) d) ≡ false
    → found ≡ best_of (filter p (drop i xs)) → found ≡ best_of (filter p (drop (i - 1) xs))
best_passed p xs i d found a b is ih =
    let n : (i - 1) + 1 ≡ i = omega arith in
    let x : ℕ × Seat = get_or xs (i - 1) d in
    sym (ap (λ l. best_of (filter p l)) (drop_more xs (i - 1) d (omega arith) ∙ ap (λ k. x ∷ drop k xs) n)
    ∙ ap (λ c. best_of (cond c (x ∷ filter p (drop i xs)) (filter p (drop i xs)))) is ∙ sym ih)

-- The place of the best so far, which is past the end where none was found.
pub best_nowhere : (p : ℕ × Seat → Bool) (xs : Seated) (i : ℕ) → length xs ≤ i → slice_get xs i ≡ best_of (filter p (drop i xs))
best_nowhere p xs i h = slice_get_past xs i h ∙ best_whole p xs i h

pub best_first : (p : ℕ × Seat → Bool) (xs : Seated) (i at : ℕ) (d : ℕ × Seat) → 0 < i → i ≤ length xs → p (get_or xs (i - 1) d) ≡ true → slice_get xs at ≡ best_of (filter p (drop i xs)) → at ≡ length xs
    → slice_get xs (i - 1) ≡ best_of (filter p (drop (i - 1) xs))
best_first p xs i at d a b is ih e =
    slice_get-get_or xs (i - 1) d (omega arith) ∙ best_taken p xs i d (get_or xs (i - 1) d) None a b is (sym (slice_get_past xs at (omega arith)) ∙ ih) refl

-- The better of two that are there is the one or the other.
better_first : (e f : ℕ × Seat) → is_before e.1 f.1 ≡ true → e ≡ better e (Some f)
better_first e f is = sym (ap (λ b. if b then e else f) is)

better_second : (e f : ℕ × Seat) → is_before e.1 f.1 ≡ false → f ≡ better e (Some f)
better_second e f is = sym (ap (λ b. if b then e else f) is)

pub best_before : (p : ℕ × Seat → Bool) (xs : Seated) (i at : ℕ) (d : ℕ × Seat) → 0 < i → i ≤ length xs → p (get_or xs (i - 1) d) ≡ true → slice_get xs at ≡ best_of (filter p (drop i xs)) → at < length xs
    → is_before (get_or xs (i - 1) d).1 (get_or xs at d).1 ≡ true → slice_get xs (i - 1) ≡ best_of (filter p (drop (i - 1) xs))
best_before p xs i at d a b is ih h e =
    slice_get-get_or xs (i - 1) d (omega arith)
    ∙ best_taken p xs i d (get_or xs (i - 1) d) (Some (get_or xs at d)) a b is (sym (slice_get-get_or xs at d h) ∙ ih) (better_first (get_or xs (i - 1) d) (get_or xs at d) e)

pub best_stays : (p : ℕ × Seat → Bool) (xs : Seated) (i at : ℕ) (d : ℕ × Seat) → 0 < i → i ≤ length xs → p (get_or xs (i - 1) d) ≡ true → slice_get xs at ≡ best_of (filter p (drop i xs)) → at < length xs
    → is_before (get_or xs (i - 1) d).1 (get_or xs at d).1 ≡ false → slice_get xs at ≡ best_of (filter p (drop (i - 1) xs))
best_stays p xs i at d a b is ih h e =
    slice_get-get_or xs at d h
    ∙ best_taken p xs i d (get_or xs at d) (Some (get_or xs at d)) a b is (sym (slice_get-get_or xs at d h) ∙ ih) (better_second (get_or xs (i - 1) d) (get_or xs at d) e)

pub first_taken : (p : ℕ × Seat → Bool) (xs : Seated) (i : ℕ) (d : ℕ × Seat) → i < length xs → p (get_or xs i d) ≡ true → Some (get_or xs i d) ≡ first (filter p (drop i xs))
first_taken p xs i d h is = sym (ap (λ l. first (filter p l)) (drop_more xs i d h) ∙ ap (λ c. first (cond c (get_or xs i d ∷ filter p (drop (i + 1) xs)) (filter p (drop (i + 1) xs)))) is)

pub first_passed : (p : ℕ × Seat → Bool) (xs : Seated) (i : ℕ) (d : ℕ × Seat) → i < length xs → p (get_or xs i d) ≡ false → first (filter p (drop i xs)) ≡ first (filter p (drop (i + 1) xs))
first_passed p xs i d h is = ap (λ l. first (filter p l)) (drop_more xs i d h) ∙ ap (λ c. first (cond c (get_or xs i d ∷ filter p (drop (i + 1) xs)) (filter p (drop (i + 1) xs)))) is

pub first_none : (p : ℕ × Seat → Bool) (xs : Seated) (i : ℕ) → length xs ≤ i → first (filter p (drop i xs)) ≡ None
first_none p xs i h = ap (λ l. first (filter p l)) (drop_all i xs h)

-- ---- the best of a row

pub best_standing : (rs : Rows) (r : RowId) (xs : Seated) (o : Option (ℕ × Seat)) → xs ≡ rs.seats → o ≡ best_of (filter (in_row r) xs) → o ≡ best_of (standing rs r)
best_standing rs r xs o same e = e ∙ ap (λ l. best_of (filter (in_row r) l)) same ∙ sym (ap best_of (standing_is rs r))

pub best_is : (rs : Rows) (r : RowId) (xs : Seated) (o : Option (ℕ × Seat)) → xs ≡ rs.seats → o ≡ best_of (filter (in_row r) xs) → number_in o ≡ best rs r
best_is rs r xs o same e = ap number_in (best_standing rs r xs o same e)

pub running_is : (rs : Rows) (p : ℕ) (xs : Seated) (o : Option (ℕ × Seat)) → xs ≡ rs.seats → o ≡ first (filter (λ (e : ℕ × Seat). runs_on p e.1.place) xs) → number_in o ≡ running rs p
unfolding running
running_is rs p xs o same e = ap number_in (e ∙ ap (λ l. first (filter (λ (e : ℕ × Seat). runs_on p e.1.place) l)) same)

passed : (p : ℕ × Seat → Bool) (q : ℕ) (o : Option Seat) (s : Seat) → pass p q o ≡ Some s → is_some o ≡ true
unfolding pass
passed p q None s e = absurd (cc)
passed p q (Some v) s e = refl

-- The best is in the table.
pub best_known : (xs : Seated) (r : RowId) (o : Option (ℕ × Seat)) → IsCanonical xs → o ≡ best_of (filter (in_row r) xs) → IfSome o (λ e. has xs e.0 ≡ true)
best_known xs r None h e = tt
best_known xs r (Some w) h e =
    has_get xs w.0 ∙ passed (in_row r) w.0 (get xs w.0) w.1 (sym (get_filter (in_row r) w.0 xs h) ∙ found (filter (in_row r) xs) w (canonical_filter (in_row r) xs h) (sym e))

-- ---- a rank beside those of the ready threads

either : (a b c d s : Bool) → a ≡ b → (a ≡ false → c ≡ d) → (b || (s && d)) ≡ (a || (s && c))
either true b c d s e f = ap (λ x. x || (s && d)) (sym e)
either false b c d s e f = ap (λ x. x || (s && d)) (sym e) ∙ ap (λ x. s && x) (sym (f refl))

-- A thread gives way as the best ready thread says.
pub yields : (rs : Rows) (rank : ℕ) (spent : Bool) (o : Option (ℕ × Seat)) → o ≡ best_of (standing rs row.Ready)
    → (outranks rank o || (spent && matches_rank rank o)) ≡ (is_outranked rs rank || (spent && is_matched rs rank))
yields rs rank spent o e =
    ap (λ (x : Option (ℕ × Seat)). outranks rank x || (spent && matches_rank rank x)) e
    ∙ either (is_outranked rs rank) (outranks rank (best_of (standing rs row.Ready))) (is_matched rs rank) (matches_rank rank (best_of (standing rs row.Ready))) spent
    (any_greater rank (standing rs row.Ready)) (any_equal rank (standing rs row.Ready))

-- ---- a thread that doesn't run

abbrev kept_as : Rows → Tid → Bool → Option Seat → Kept
kept_as rs t fifo o =
    let gives : Bool = does_give_way rs fifo o in record {
      rows = record {
        seats = put_if rs.seats t.0 (option_map (as_kept rs fifo) o);
        next_arrival = if gives then rs.next_arrival + 1 else rs.next_arrival;
      };
      stays = is_running o && not gives;
    }

kept_at : (rs : Rows) (t : Tid) (fifo : Bool) (rank : ℕ) (p : Place) → IsCanonical rs.seats → get rs.seats t.0 ≡ Some (record { rank = rank; place = p }) → is_none (row_in p) ≡ false
    → (let k : Kept = record { rows = rs; stays = false } in k) ≡ kept_as rs t fifo (Some (record { rank = rank; place = p }))
kept_at rs t fifo rank (Runs p slice) h at stands = absurd (cc)
kept_at rs t fifo rank (Stands r arrival) h at stands =
    ap (λ (m : Seated). let k : Kept = record { rows = record { seats = m; next_arrival = rs.next_arrival }; stays = false } in k)
    (put_same rs.seats t.0 (record { rank = rank; place = Stands r arrival }) h at)

-- A thread that stands in a row isn't changed by a turn.
pub standing_kept : (rs : Rows) (t : Tid) (fifo : Bool) (s : Seat) → IsCanonical rs.seats → Some s ≡ get rs.seats t.0 → is_none (row_in s.place) ≡ false
    → (let k : Kept = record { rows = rs; stays = false } in k) ≡ keeps rs t fifo
standing_kept rs t fifo s h at stands =
    kept_at rs t fifo s.rank s.place h (sym at) stands ∙ ap (kept_as rs t fifo) at

-- ---- a thread that blocks

put_after : (m : Table Seat) (k : ℕ) (s : Seat) (b : Bool) → IsCanonical m → put m k s ≡ put (cut_if b m k) k s
put_after m k s true h = sym (put_cut m k s h)
put_after m k s false h = refl

-- A thread that blocks has its new place at once.
pub blocked : (rs : Rows) (r : RowId) (t : Tid) (rank : ℕ) → IsCanonical rs.seats → put_in_row rs r t rank ≡ block_in rs r t rank
blocked rs r t rank h =
    ap (λ (m : Table Seat). let x : Rows = record { seats = m; next_arrival = rs.next_arrival + 1 } in x)
    (put_after rs.seats t.0 (record { rank = rank; place = Stands r rs.next_arrival }) (is_running (seat_of rs t)) h)

runs_there : (o : Option Seat) → is_running o ≡ true → is_some o ≡ true
runs_there None h = absurd (cc)
runs_there (Some s) h = refl

either_place : (a b c : Bool) → (a ≡ true → b ≡ true) → (a || c) ≡ true → (b || c) ≡ true
either_place true b c f h = ap (λ x. x || c) (f refl)
either_place false true c f h = refl
either_place false false c f h = h

pub place_to_wait : (rs : Rows) (t : Tid) → has_room rs t ≡ true → has_place rs.seats t.0 most ≡ true
place_to_wait rs t h =
    either_place (is_running (seat_of rs t)) (has rs.seats t.0) (nat_lt (length rs.seats) most) (λ a. has_get rs.seats t.0 ∙ runs_there (seat_of rs t) a) h

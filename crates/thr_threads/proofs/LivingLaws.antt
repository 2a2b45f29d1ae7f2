-- The threads that have not ended, record by record.
use Rattle.std.proofs.Common.{◌≡◌, ℕ, ◌+◌, ◌-◌, ◌<◌, ◌≤◌, Bool, true, false, cond, List, [], ◌∷◌, map, length, get_or, drop, Option, Some, None, refl, sym, arith, ◌∙◌, ap}
use Rattle.std.proofs.lemmas.List.{drop_more, drop_all}
use Rattle.std.specs.List.{filter}
use Rattle.std.specs.Option.{is_none}
use Rattle.slab.specs.Slab.{Slab}
use Rattle.thr_values.specs.declared.number.Tid.{Tid}
use Rattle.thr_parts.specs.declared.thread.Thread.{Thread}
use Rattle.thr_parts.specs.Tables.{Table}
use Rattle.thr_parts.specs.Rows.{thread}
use Rattle.thr_parts.specs.Threads.{is_live}
use Rattle.thr_threads.specs.Records.{record_under, records_by}
use Rattle.thr_threads.specs.Living.{living, count_and_first}

-- So many threads, and the first of them.
abbrev pub counted : Table ℕ → Slab Thread → ℕ × Option Tid
counted keys s = count_and_first (living (records_by keys s))

abbrev pub nobody : Option Tid
nobody = None

pub none_counted : (keys : Table ℕ) (s : Slab Thread) (i : ℕ) → length keys ≤ i → (0, nobody) ≡ counted (drop i keys) s
unfolding records_by
none_counted keys s i h = sym (ap (λ (ks : Table ℕ). counted ks s) (drop_all i keys h))

as_many : (ts : List Tid) → (count_and_first ts).0 ≡ length ts
as_many [] = refl
as_many (t ∷ ts) = omega arith

one_more : (count : ℕ) (first : Option Tid) (t : Tid) (ts : List Tid) → (count, first) ≡ count_and_first ts → (count + 1, Some t) ≡ count_and_first (t ∷ ts)
one_more count first t ts e =
    let n : count ≡ length ts = ap (λ (p : ℕ × Option Tid). p.0) e ∙ as_many ts in
    ap (λ n. (n + 1, Some t)) n

head_counted : (e : ℕ × ℕ) (es : Table ℕ) (s : Slab Thread) (b : Bool) → is_none (record_under s e.1).ended ≡ b
    → counted (e ∷ es) s ≡ count_and_first (cond b (thread e.0 ∷ living (records_by es s)) (living (records_by es s)))
unfolding records_by
head_counted e es s true is = ap (λ b. count_and_first (map (λ (x : ℕ × Thread). thread x.0) (cond b ((e.0, record_under s e.1) ∷ filter is_live (records_by es s)) (filter is_live (records_by es s))))) is
head_counted e es s false is = ap (λ b. count_and_first (map (λ (x : ℕ × Thread). thread x.0) (cond b ((e.0, record_under s e.1) ∷ filter is_live (records_by es s)) (filter is_live (records_by es s))))) is

next : (keys : Table ℕ) (s : Slab Thread) (i : ℕ) (d : ℕ × ℕ) → 0 < i → i ≤ length keys → counted (drop (i - 1) keys) s ≡ counted (get_or keys (i - 1) d ∷ drop i keys) s
next keys s i d a b =
    let n : (i - 1) + 1 ≡ i = omega arith in
    let x : ℕ × ℕ = get_or keys (i - 1) d in
    ap (λ (ks : Table ℕ). counted ks s) (drop_more keys (i - 1) d (omega arith) ∙ ap (λ k. x ∷ drop k keys) n)

-- The thread of an entry has not ended.
pub lives : (keys : Table ℕ) (s : Slab Thread) (i count : ℕ) (d : ℕ × ℕ) (first : Option Tid) → 0 < i → i ≤ length keys
    → is_none (record_under s (get_or keys (i - 1) d).1).ended ≡ true → (count, first) ≡ counted (drop i keys) s
    → (count + 1, Some (thread (get_or keys (i - 1) d).0)) ≡ counted (drop (i - 1) keys) s
lives keys s i count d first a b is e =
    one_more count first (thread (get_or keys (i - 1) d).0) (living (records_by (drop i keys) s)) e
    ∙ sym (next keys s i d a b ∙ head_counted (get_or keys (i - 1) d) (drop i keys) s true is)

-- The thread of an entry has ended.
pub has_ended : (keys : Table ℕ) (s : Slab Thread) (i count : ℕ) (d : ℕ × ℕ) (first : Option Tid) → 0 < i → i ≤ length keys
    → is_none (record_under s (get_or keys (i - 1) d).1).ended ≡ false → (count, first) ≡ counted (drop i keys) s → (count, first) ≡ counted (drop (i - 1) keys) s
has_ended keys s i count d first a b is e = e ∙ sym (next keys s i d a b ∙ head_counted (get_or keys (i - 1) d) (drop i keys) s false is)

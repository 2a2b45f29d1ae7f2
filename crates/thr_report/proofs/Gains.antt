-- Mutexes that threads got, counted line by line.
use Rattle.std.proofs.Common.{◌≡◌, ℕ, ◌+◌, ◌<◌, ◌≤◌, ◌^◌, Bool, List, length, get_or, take, ◌∙◌, ap, arith, length-take-le}
use Rattle.std.proofs.lemmas.List.Filters.{length-filter_more}
use Rattle.std.proofs.lemmas.List.Sums.{length-filter, count_by-le-length}
use Rattle.thr_values.specs.declared.history.Entry.{Entry}
use Rattle.thr_values.specs.declared.history.What.{What}
use Rattle.thr_verdict.specs.Report.{how_many, acquires}
use Rattle.thr_report.specs.Counting.{name_of, one_if, times}

pub times_more : (es : List Entry) (i k : ℕ) (e : Entry) → i < length es → times (take (i + 1) es) k ≡ times (take i es) k + one_if (acquires (name_of k) (get_or es i e).what)
times_more es i k e low = length-filter_more (λ (x : Entry). acquires (name_of k) x.what) es i e low

-- A mutex is got at most once in each line.
times_few : (es : List Entry) (i k : ℕ) → i ≤ length es → times (take i es) k ≤ i
times_few es i k low =
    let few = count_by-le-length (λ (x : Entry). acquires (name_of k) x.what) (take i es) in
    let same = length-filter (λ (x : Entry). acquires (name_of k) x.what) (take i es) in
    let len : length (take i es) ≡ i = length-take-le i es low in omega (arith, few, same, len)

pub room : (table slice : List ℕ) (es : List Entry) (i count k : ℕ) → slice ≡ table → length table ≡ count → ((q : ℕ) → q < count → get_or table q 0 ≡ times (take i es) q) → i < length es
    → length es < 2 ^ 64 → k < length slice → get_or slice k 0 + 1 < 2 ^ 64
room table slice es i count k same len each low fits there =
    let inside : k < count = (let e : length slice ≡ length table = ap length same in omega (arith, e, len, there)) in
    let is : get_or slice k 0 ≡ times (take i es) k = ap (λ t. get_or t k 0) same ∙ each k inside in
    let few : times (take i es) k ≤ i = times_few es i k (omega (arith, low)) in omega (arith, is, few, low, fits)

pub inside : (count n k : ℕ) → n ≡ count → k < count → k < n
inside count n k e low = omega (arith, e, low)

pub join_counts : (a b t u o : ℕ) → a ≡ b + o → b ≡ t → u ≡ t + o → a ≡ u
join_counts a b t u o h e f = omega (arith, h, e, f)

pub how_many_few : (test : What → Bool) (es : List Entry) → how_many test es ≤ length es
how_many_few test es =
    let few = count_by-le-length (λ (x : Entry). test x.what) es in
    let same = length-filter (λ (x : Entry). test x.what) es in omega (arith, few, same)

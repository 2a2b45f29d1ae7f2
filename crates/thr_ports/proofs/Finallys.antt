-- Lines that keep to routes begin FINALLY bodies inner first, and of each open scope once.
use Rattle.std.proofs.Common.{◌≡◌, ℕ, ◌==◌, true, false, List, [], ◌∷◌, Option, Some, None, refl, sym, ap, subst, ◌∙◌}
use Rattle.std.proofs.lemmas.Bool.{false≢true, eqb-true, eq-eqb}
use Rattle.std.specs.Prelude.{if◌then◌else◌}
use Rattle.std.specs.List.{list_all}
use Rattle.thr_values.specs.declared.event.Stop.{Stop}
use Rattle.thr_values.specs.declared.history.What.{What}
use Rattle.thr_values.specs.declared.history.Entry.{Entry}
use Rattle.thr_syntax.specs.declared.tree.Script.{Script}
use Rattle.thr_text.specs.Reading.{Formed}
use Rattle.thr_remainder.specs.declared.unwinding.Cause.{Cause}
use Rattle.thr_laws.specs.Lines.{lines_of_thread}
use Rattle.thr_laws.specs.Scopes.{Open, Stage, InBody, InCatch, InFinally, InOnce, InDestructor}
use Rattle.thr_laws.specs.Handlers.{Clause, Catch, CatchAll, Finally, first_clause}
use Rattle.thr_laws.specs.Routes.{Carried, Catches, RunsFinally, Undoes, Loses, Leaves, is_same_entry, value_left, at_clause, at_scope, route}
use Rattle.thr_laws.specs.Routed.{Routed, Making, makings, route_of, entries_of, is_prefix}
use Rattle.thr_laws.proofs.ReadingLaws.{both, and_both}
use Rattle.thr_model.specs.Histories.{Legal}
use Rattle.thr_routed.proofs.ReturnSteps.{returns_leave_none}
use Rattle.thr_routed.proofs.Histories.{legal_routed}
use Rattle.thr_routed.proofs.Tries.{tries_clean}
use Rattle.thr_ports.specs.Finallys.{final_in, with_final, finals_in, begun_for, is_within, numbers_of, begin_inner_first}

-- ---- numbers among others

abbrev Within : List ℕ → List ℕ → Type 0
Within xs ys = is_within xs ys ≡ true

skip_by : (ys : List ℕ) → ((x : ℕ) (xs : List ℕ) → Within (x ∷ xs) ys → Within xs ys) → (xs : List ℕ) (y : ℕ) → Within xs ys → Within xs (y ∷ ys)
skip_by ys shorter [] y h = refl
skip_by ys shorter (x ∷ xs) y h =
    elim (x == y) as (λ b. (if b then is_within xs ys else is_within (x ∷ xs) ys) ≡ true) [
      | true ↦ shorter x xs h
      | false ↦ h
    ]

shorter : (ys : List ℕ) (x : ℕ) (xs : List ℕ) → Within (x ∷ xs) ys → Within xs ys
shorter [] x xs h = absurd (false≢true h)
shorter (y ∷ ys) x xs h =
    elim (x == y) as (λ b. (if b then is_within xs ys else is_within (x ∷ xs) ys) ≡ true → Within xs (y ∷ ys)) [
      | true ↦ λ i. skip_by ys (shorter ys) xs y i
      | false ↦ λ i. skip_by ys (shorter ys) xs y (shorter ys x xs i)
    ] h

skip : (xs ys : List ℕ) (y : ℕ) → Within xs ys → Within xs (y ∷ ys)
skip xs ys y h = skip_by ys (shorter ys) xs y h

at_front : (x : ℕ) (xs ys : List ℕ) → Within xs ys → Within (x ∷ xs) (x ∷ ys)
at_front x xs ys h = subst (λ b. (if b then is_within xs ys else is_within (x ∷ xs) ys) ≡ true) (sym (eq-eqb x x refl)) h

-- ---- entries

same_final : (c r : Carried) → is_same_entry c r ≡ true → final_in c ≡ final_in r
same_final (RunsFinally a) (RunsFinally b) h = ap (λ (n : ℕ). let o : Option ℕ = Some n in o) (eqb-true a b h)
same_final (RunsFinally a) (Catches b m) h = absurd (false≢true h)
same_final (RunsFinally a) (Undoes b) h = absurd (false≢true h)
same_final (RunsFinally a) (Loses b) h = absurd (false≢true h)
same_final (RunsFinally a) (Leaves v) h = absurd (false≢true h)
same_final (Catches a l) (RunsFinally b) h = absurd (false≢true h)
same_final (Catches a l) _ h = refl
same_final (Undoes a) (RunsFinally b) h = absurd (false≢true h)
same_final (Undoes a) _ h = refl
same_final (Loses a) (RunsFinally b) h = absurd (false≢true h)
same_final (Loses a) _ h = refl
same_final (Leaves v) (RunsFinally b) h = absurd (false≢true h)
same_final (Leaves v) _ h = refl

-- What holds of each start of a route.
abbrev Starts : List Carried → List ℕ → Type 0
Starts route ys = (es : List Carried) → is_prefix es route ≡ true → Within (finals_in es) ys

none_starts : (ys : List ℕ) → Starts [] ys
none_starts ys [] h = refl
none_starts ys (c ∷ es) h = absurd (false≢true h)

-- An entry at which no FINALLY body runs.
other_starts : (r : Carried) (rest : List Carried) (ys : List ℕ) → final_in r ≡ None → Starts rest ys → Starts (r ∷ rest) ys
other_starts r rest ys n i [] h = refl
other_starts r rest ys n i (c ∷ es) h =
    let b = both (is_same_entry c r) (is_prefix es rest) h in
    subst (λ f. Within (with_final f (finals_in es)) ys) (sym (same_final c r b.0 ∙ n)) (i es b.1)

final_starts : (scope : ℕ) (rest : List Carried) (ys : List ℕ) → Starts rest ys → Starts (RunsFinally scope ∷ rest) (scope ∷ ys)
final_starts scope rest ys i [] h = refl
final_starts scope rest ys i (c ∷ es) h =
    let b = both (is_same_entry c (RunsFinally scope)) (is_prefix es rest) h in
    subst (λ f. Within (with_final f (finals_in es)) (scope ∷ ys)) (sym (same_final c (RunsFinally scope) b.0)) (at_front scope (finals_in es) ys (i es b.1))

skip_starts : (rest : List Carried) (ys : List ℕ) (y : ℕ) → Starts rest ys → Starts rest (y ∷ ys)
skip_starts rest ys y i es h = skip (finals_in es) ys y (i es h)

-- ---- routes

clause_starts : (scope : ℕ) (clause : Option Clause) (rest : List Carried) (ys : List ℕ) → Starts rest ys → Starts (at_clause scope clause rest) (scope ∷ ys)
clause_starts scope None rest ys i = skip_starts rest ys scope i
clause_starts scope (Some (Catch line name)) rest ys i = other_starts (Catches scope line) [] (scope ∷ ys) refl (none_starts (scope ∷ ys))
clause_starts scope (Some (CatchAll line)) rest ys i = other_starts (Catches scope line) [] (scope ∷ ys) refl (none_starts (scope ∷ ys))
clause_starts scope (Some Finally) rest ys i = final_starts scope rest ys i

scope_starts : (s : Script) (cause : Cause) (scope : ℕ) (stage : Stage) (rest : List Carried) (ys : List ℕ) → Starts rest ys → Starts (at_scope s cause scope stage rest) (scope ∷ ys)
scope_starts s cause scope (InBody line) rest ys i = clause_starts scope (first_clause s line cause) rest ys i
scope_starts s cause scope InCatch rest ys i = skip_starts rest ys scope i
scope_starts s cause scope (InFinally n) rest ys i = skip_starts rest ys scope i
scope_starts s cause scope InOnce rest ys i = other_starts (Undoes scope) rest (scope ∷ ys) refl (skip_starts rest ys scope i)
scope_starts s cause scope InDestructor rest ys i = other_starts (Loses scope) [] (scope ∷ ys) refl (none_starts (scope ∷ ys))

route_starts : (s : Script) (scopes : List Open) (cause : Cause) → Starts (route s scopes cause) (numbers_of scopes)
route_starts s [] cause = other_starts (Leaves (value_left cause)) [] [] refl (none_starts [])
route_starts s (o ∷ scopes) cause = scope_starts s cause o.scope o.stage (route s scopes cause) (numbers_of scopes) (route_starts s scopes cause)

-- ---- histories

each_begins : (s : Script) (lines : List What) (ms : List Making) → list_all (λ (m : Making). is_prefix (entries_of m.number lines) (route_of s m)) ms ≡ true
    → list_all (λ (m : Making). is_within (begun_for m.number lines) (numbers_of m.scopes)) ms ≡ true
each_begins s lines [] h = refl
each_begins s lines (m ∷ ms) h =
    let b = both (is_prefix (entries_of m.number lines) (route_of s m)) (list_all (λ (m : Making). is_prefix (entries_of m.number lines) (route_of s m)) ms) h in
    and_both (is_within (begun_for m.number lines) (numbers_of m.scopes)) (list_all (λ (m : Making). is_within (begun_for m.number lines) (numbers_of m.scopes)) ms)
    (route_starts s m.scopes m.cause (entries_of m.number lines) b.0) (each_begins s lines ms b.1)

pub routed_begin : (s : Script) (entries : List Entry) → Routed s entries → (t : ℕ) → begin_inner_first (lines_of_thread t entries) ≡ true
routed_begin s entries routed t = each_begins s (lines_of_thread t entries) (makings (lines_of_thread t entries)) (routed.kept t)

pub legal_begin : (s : Script) (n : ℕ) (entries : List Entry) (stop : Stop) → Formed s → Legal s n entries stop → (t : ℕ) → begin_inner_first (lines_of_thread t entries) ≡ true
legal_begin s n entries stop formed legal t = routed_begin s entries (legal_routed s n entries stop (returns_leave_none s (tries_clean s formed)) legal) t

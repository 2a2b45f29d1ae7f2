-- The laws hold exactly where they are passed.
use Rattle.std.proofs.Common.{◌≡◌, ℕ, ◌↔◌, IsTrue, Bool, true, false, not, cond, ◌&&◌, List, [], ◌∷◌, ◌++◌, Option, None, refl, ap, subst, sym, ◌∙◌}
use Rattle.std.specs.List.{list_all, filter}
use Rattle.std.proofs.lemmas.List.Folds.{list_all-append}
use Rattle.thr_values.specs.declared.event.Stop.{Stop}
use Rattle.thr_values.specs.declared.history.What.{What}
use Rattle.thr_values.specs.declared.history.Entry.{Entry}
use Rattle.thr_syntax.specs.declared.tree.Script.{Script}
use Rattle.thr_laws.specs.Lines.{lines_of_thread}
use Rattle.thr_laws.specs.Known.{Known, known_at_first, cancel_of, known_after}
use Rattle.thr_laws.specs.Routed.{Routed, numbers_count_up, only_made_are_carried, keep_to_routes, take_whole_routes, go_straight_on}
use Rattle.thr_laws.specs.Owners.{Lock, OneOwner, has_one_owner}
use Rattle.thr_laws.specs.CancelLaw.{CancelLaw, each_own_line, delivers_outstanding, has_effect, cancels_have_their_effects, passes_no_point, delivers_at_once, delivers_when_woken, waits_end_with_the_mutex}
use Rattle.thr_laws.specs.CallsOnce.{CallsOnce, is_answered, answers_a_call, names_its_statement, is_woken_from_it, ends_answered}
use Rattle.thr_laws.specs.Passing.{each_thread, each_lock, threads_in, locks_in, passes, meets_routed, meets_one_owner, meets_cancel_law, meets_calls_once, HasOneOwner, routed_parts, cancel_parts, calls_parts, all_parts, failing}
use Rattle.thr_laws.proofs.ReadingLaws.{both, and_both, each_passes, AllLines, fits_always}
use Rattle.thr_laws.proofs.NamedThreads.{IsForeign, no_lines, foreign_fits, foreign_ends, all_threads}
use Rattle.thr_laws.proofs.NamedLocks.{away_has_one, away_ends, foreign_waits, all_locks}

-- ---- parts

-- A test of a thread's lines that no lines pass.
of_lines : (q : List What → Bool) (entries : List Entry) → q [] ≡ true → each_thread entries (λ t. q (lines_of_thread t entries)) ≡ true
    → (t : ℕ) → q (lines_of_thread t entries) ≡ true
of_lines q entries none h = all_threads (λ t. q (lines_of_thread t entries)) entries (λ t f. subst (λ lines. q lines ≡ true) (sym (no_lines t entries f)) none) h

-- A test of what a thread does that is passed where it does nothing.
of_own : (test : Known → Option What → Bool) (entries : List Entry) → ((k : Known) → test k None ≡ true)
    → each_thread entries (λ t. each_own_line test t entries) ≡ true → (t : ℕ) → each_own_line test t entries ≡ true
of_own test entries none h = all_threads (λ t. each_own_line test t entries) entries (λ t f. foreign_fits test none t entries f) h

foreign_effects : (t : ℕ) (entries : List Entry) → AllLines (IsForeign t) entries → cancels_have_their_effects t entries ≡ true
foreign_effects t entries h =
    fits_always (known_after t) (λ k e. has_effect k (cancel_of t e.what)) (IsForeign t) (λ k e f. ap (has_effect k) f.cancel) known_at_first entries h

-- ---- routes

pub routed_passed : (s : Script) (entries : List Entry) → IsTrue (meets_routed s entries) ↔ Routed s entries
routed_passed s entries = (
  λ h.
      let a = both _ _ h in
      let b = both _ _ a.1 in
      let c = both _ _ b.1 in
      let d = both _ _ c.1 in
      let e = both _ _ d.1 in
      record {
        numbered = of_lines numbers_count_up entries refl a.0;
        made = of_lines only_made_are_carried entries refl b.0;
        kept = of_lines (keep_to_routes s) entries refl c.0;
        whole = of_lines (take_whole_routes s) entries refl d.0;
        straight = of_lines (go_straight_on s) entries refl e.0;
      },
  λ r.
      and_both _ _ (each_passes _ r.numbered (threads_in entries))
      (and_both _ _ (each_passes _ r.made (threads_in entries))
      (and_both _ _ (each_passes _ r.kept (threads_in entries))
      (and_both _ _ (each_passes _ r.whole (threads_in entries))
      (and_both _ _ (each_passes _ r.straight (threads_in entries)) refl)))),
)

-- ---- owners

pub owners_passed : (entries : List Entry) → IsTrue (meets_one_owner entries) ↔ OneOwner entries
owners_passed entries = (
  λ h. record { one = all_locks (λ lock. has_one_owner lock entries) entries (λ lock a. away_has_one lock entries a) h },
  λ r. each_passes (λ lock. has_one_owner lock entries) r.one (locks_in entries),
)

-- ---- cancels

mutexes : (entries : List Entry) → each_thread entries (λ t. each_lock entries (λ lock. waits_end_with_the_mutex t lock entries)) ≡ true
    → (t : ℕ) (lock : Lock) → waits_end_with_the_mutex t lock entries ≡ true
mutexes entries h t =
    all_locks (λ lock. waits_end_with_the_mutex t lock entries) entries (λ lock a. away_ends t lock entries a)
    (all_threads (λ t. each_lock entries (λ lock. waits_end_with_the_mutex t lock entries)) entries
    (λ t f. each_passes (λ lock. waits_end_with_the_mutex t lock entries) (λ lock. foreign_waits t lock entries f) (locks_in entries)) h t)

pub cancels_passed : (s : Script) (entries : List Entry) → IsTrue (meets_cancel_law s entries) ↔ CancelLaw s entries
cancels_passed s entries = (
  λ h.
      let a = both _ _ h in
      let b = both _ _ a.1 in
      let c = both _ _ b.1 in
      let d = both _ _ c.1 in
      let e = both _ _ d.1 in
      let f = both _ _ e.1 in
      record {
        outstanding = of_own delivers_outstanding entries (λ k. refl) a.0;
        effects = all_threads (λ t. cancels_have_their_effects t entries) entries (λ t f. foreign_effects t entries f) b.0;
        points = of_own passes_no_point entries (λ k. refl) c.0;
        at_once = of_own (delivers_at_once s) entries (λ k. refl) d.0;
        woken = of_own delivers_when_woken entries (λ k. refl) e.0;
        mutexes = mutexes entries f.0;
      },
  λ r.
      and_both _ _ (each_passes _ r.outstanding (threads_in entries))
      (and_both _ _ (each_passes _ r.effects (threads_in entries))
      (and_both _ _ (each_passes _ r.points (threads_in entries))
      (and_both _ _ (each_passes _ r.at_once (threads_in entries))
      (and_both _ _ (each_passes _ r.woken (threads_in entries))
      (and_both _ _ (each_passes _ (λ t. each_passes _ (r.mutexes t) (locks_in entries)) (threads_in entries)) refl))))),
)

-- ---- calls

pub calls_passed : (s : Script) (entries : List Entry) (stop : Stop) → IsTrue (meets_calls_once s entries stop) ↔ CallsOnce s entries stop
calls_passed s entries stop = (
  λ h.
      let a = both _ _ h in
      let b = both _ _ a.1 in
      let c = both _ _ b.1 in
      let d = both _ _ c.1 in
      let e = both _ _ d.1 in
      record {
        answered = of_own is_answered entries (λ k. refl) a.0;
        returns = of_own answers_a_call entries (λ k. refl) b.0;
        statements = of_own (names_its_statement s) entries (λ k. refl) c.0;
        woken = of_own is_woken_from_it entries (λ k. refl) d.0;
        finished = all_threads (λ t. ends_answered stop t entries) entries (λ t f. foreign_ends stop t entries f) e.0;
      },
  λ r.
      and_both _ _ (each_passes _ r.answered (threads_in entries))
      (and_both _ _ (each_passes _ r.returns (threads_in entries))
      (and_both _ _ (each_passes _ r.statements (threads_in entries))
      (and_both _ _ (each_passes _ r.woken (threads_in entries))
      (and_both _ _ (each_passes _ r.finished (threads_in entries)) refl)))),
)

-- ---- all laws

none_fail : {A : Type 0} (p : A → Bool) (xs : List A) → filter (λ x. not (p x)) xs ≡ [] → list_all p xs ≡ true
none_fail p [] e = refl
none_fail p (x ∷ xs) e =
    elim (p x) as (λ b. cond (not b) (x ∷ filter (λ x. not (p x)) xs) (filter (λ x. not (p x)) xs) ≡ [] → (b && list_all p xs) ≡ true) [
      | true ↦ λ f. none_fail p xs f
      | false ↦ λ f. absurd (cc)
    ] e

all_pass : {A : Type 0} (p : A → Bool) (xs : List A) → list_all p xs ≡ true → filter (λ x. not (p x)) xs ≡ []
all_pass p [] e = refl
all_pass p (x ∷ xs) e = let b = both (p x) (list_all p xs) e in rw b.0 (all_pass p xs b.1)

appended : {A : Type 0} (p : A → Bool) (xs ys : List A) → list_all p (xs ++ ys) ≡ true → (list_all p xs ≡ true) × (list_all p ys ≡ true)
appended p xs ys h = both (list_all p xs) (list_all p ys) (sym (list_all-append p xs ys) ∙ h)

append_all : {A : Type 0} (p : A → Bool) (xs ys : List A) → list_all p xs ≡ true → list_all p ys ≡ true → list_all p (xs ++ ys) ≡ true
append_all p xs ys h k = list_all-append p xs ys ∙ and_both (list_all p xs) (list_all p ys) h k

pub all_met : (s : Script) (entries : List Entry) (stop : Stop)
    → failing s entries stop ≡ [] ↔ (Routed s entries × OneOwner entries × CancelLaw s entries × CallsOnce s entries stop)
all_met s entries stop = (
  λ h.
      let p = passes s entries stop in
      let a = appended p routed_parts (HasOneOwner ∷ (cancel_parts ++ calls_parts)) (none_fail p all_parts h) in
      let b = both (p HasOneOwner) (list_all p (cancel_parts ++ calls_parts)) a.1 in
      let c = appended p cancel_parts calls_parts b.1 in
      ((routed_passed s entries).0 a.0, (owners_passed entries).0 b.0, (cancels_passed s entries).0 c.0, (calls_passed s entries stop).0 c.1),
  λ m.
      let p = passes s entries stop in
      all_pass p all_parts
      (append_all p routed_parts (HasOneOwner ∷ (cancel_parts ++ calls_parts)) ((routed_passed s entries).1 m.0)
      (and_both (p HasOneOwner) (list_all p (cancel_parts ++ calls_parts)) ((owners_passed entries).1 m.1)
      (append_all p cancel_parts calls_parts ((cancels_passed s entries).1 m.2) ((calls_passed s entries stop).1 m.3)))),
)

-- Threads that lines don't name fit of themselves.
use Rattle.std.proofs.Common.{◌≡◌, ℕ, ◌==◌, ℤ, pos, negsuc, Bool, true, false, not, ◌||◌, List, [], ◌∷◌, Option, Some, None, refl, sym, ap, ◌∙◌, subst}
use Rattle.std.proofs.lemmas.Bool.{eqb-true, eq-eqb, false≢true}
use Rattle.std.specs.List.{list_all, fold}
use Rattle.std.specs.Ordering.{int_eq}
use Rattle.std.specs.Cmp.{signed_Decides}
use Rattle.thr_values.specs.declared.call.Arg.TheVariants as arg
use Rattle.thr_values.specs.declared.call.CallWord.TheVariants as word
use Rattle.thr_values.specs.declared.event.Stop.{Stop}
use Rattle.thr_values.specs.declared.event.Stop.TheVariants as stops
use Rattle.thr_values.specs.declared.history.Who.{Who}
use Rattle.thr_values.specs.declared.history.Who.TheVariants as who
use Rattle.thr_values.specs.declared.history.What.{What}
use Rattle.thr_values.specs.declared.history.What.TheVariants as what
use Rattle.thr_values.specs.declared.history.Entry.{Entry}
use Rattle.thr_laws.specs.Lines.{is_by, lines_of_thread, line_but_gift, own_line, is_some_line, is_waiting_call, with_line}
use Rattle.thr_laws.specs.Known.{Known, known_at_first, cancel_of, reply_if, known_after}
use Rattle.thr_laws.specs.CancelLaw.{each_own_line}
use Rattle.thr_laws.specs.CallsOnce.{ends_answered}
use Rattle.thr_laws.specs.Passing.{thread_of, numbered, cancelled_in, is_one_of, added_if, with_thread, threads_in, each_thread}
use Rattle.thr_laws.proofs.ReadingLaws.{both, neither, AllLines, fits_always}

-- The line is none of the thread, and cancels it not.
pub record IsForeign (t : ℕ) (e : Entry) : Type 0 where
  pub who : is_by t e.who ≡ false
  pub cancel : cancel_of t e.what ≡ None

-- ---- threads that are left out

added : (t u : ℕ) (ts : List ℕ) (b : Bool) → is_one_of u ts ≡ b → is_one_of t (added_if b u ts) ≡ false → ((u == t) ≡ false) × (is_one_of t ts ≡ false)
added t u ts false e h = neither (u == t) (is_one_of t ts) h
added t u ts true e h =
    elim (u == t) as (λ b. (u == t) ≡ b → (b ≡ false) × (is_one_of t ts ≡ false)) [
      | true ↦ λ s. absurd (false≢true (sym h ∙ subst (λ v. is_one_of v ts ≡ true) (eqb-true u t s) e))
      | false ↦ λ s. (refl, h)
    ] refl

left_out : (t u : ℕ) (ts : List ℕ) → is_one_of t (with_thread (Some u) ts) ≡ false → ((u == t) ≡ false) × (is_one_of t ts ≡ false)
left_out t u ts h = added t u ts (is_one_of u ts) refl h

foreign_who : (t : ℕ) (w : Who) (ts : List ℕ) → is_one_of t (with_thread (thread_of w) ts) ≡ false → (is_by t w ≡ false) × (is_one_of t ts ≡ false)
foreign_who t (who.Thread u) ts h = left_out t u.0 ts h
foreign_who t (who.Proc p) ts h = (refl, h)
foreign_who t who.Clock ts h = (refl, h)

other_number : (n : ℤ) (t : ℕ) (b : Bool) → int_eq n (pos t) ≡ b → (n ≡ pos t → b ≡ false) → b ≡ false
other_number n t false e h = refl
other_number n t true e h = h ((signed_Decides n (pos t)).0 e)

pos_injective : (n t : ℕ) → pos n ≡ pos t → n ≡ t
pos_injective n t e = cc

foreign_number : (t : ℕ) (n : ℤ) (ts : List ℕ) → is_one_of t (with_thread (numbered n) ts) ≡ false → (int_eq n (pos t) ≡ false) × (is_one_of t ts ≡ false)
foreign_number t (pos n) ts h =
    let l = left_out t n ts h in
    (other_number (pos n) t (int_eq (pos n) (pos t)) refl (λ e. absurd (false≢true (sym l.0 ∙ eq-eqb n t (pos_injective n t e)))), l.1)
foreign_number t (negsuc n) ts h = (refl, h)

foreign_cancel : (t : ℕ) (w : What) (ts : List ℕ) → is_one_of t (with_thread (cancelled_in w) ts) ≡ false → (cancel_of t w ≡ None) × (is_one_of t ts ≡ false)
foreign_cancel t (what.Call word.Cancel (arg.Num n ∷ args) r) ts h =
    let l = foreign_number t n ts h in (ap (λ b. reply_if b r) l.0, l.1)
foreign_cancel t _ ts h = (refl, h)

-- What a list of lines doesn't name is foreign to each of them.
pub foreign : (t : ℕ) (entries : List Entry) → is_one_of t (threads_in entries) ≡ false → AllLines (IsForeign t) entries
foreign t [] h = tt
foreign t (e ∷ entries) h =
    let w = foreign_who t e.who (with_thread (cancelled_in e.what) (threads_in entries)) h in
    let c = foreign_cancel t e.what (threads_in entries) w.1 in
    (record { who = w.0; cancel = c.0 }, foreign t entries c.1)

-- ---- tests of foreign threads

pub no_lines : (t : ℕ) (entries : List Entry) → AllLines (IsForeign t) entries → lines_of_thread t entries ≡ []
no_lines t [] h = refl
no_lines t (e ∷ entries) h = ap (λ b. with_line b e.what (lines_of_thread t entries)) h.0.who ∙ no_lines t entries h.1

pub own_none : (t : ℕ) (e : Entry) → IsForeign t e → own_line t e ≡ None
own_none t e h = ap (λ b. line_but_gift b e.what) h.who

-- A test that passes where the thread does nothing.
pub foreign_fits : (test : Known → Option What → Bool) → ((k : Known) → test k None ≡ true) → (t : ℕ) (entries : List Entry)
    → AllLines (IsForeign t) entries → each_own_line test t entries ≡ true
foreign_fits test passes t entries h =
    fits_always (known_after t) (λ k e. test k (own_line t e)) (IsForeign t) (λ k e f. ap (test k) (own_none t e f) ∙ passes k) known_at_first entries h

last_stays : (t : ℕ) (k : Known) (entries : List Entry) → k.last ≡ None → AllLines (IsForeign t) entries → (fold (known_after t) k entries).last ≡ None
last_stays t k [] e h = e
last_stays t k (w ∷ entries) e h = last_stays t (known_after t k w) entries (rw (own_none t w h.0) e) h.1

pub foreign_ends : (stop : Stop) (t : ℕ) (entries : List Entry) → AllLines (IsForeign t) entries → ends_answered stop t entries ≡ true
foreign_ends stops.Finished t entries h = ap (λ last. not (is_some_line is_waiting_call last)) (last_stays t known_at_first entries refl h)
foreign_ends (stops.Deadlock n u) t entries h = refl
foreign_ends stops.Limit t entries h = refl
foreign_ends stops.Memory t entries h = refl

-- ---- all threads

among : (p : ℕ → Bool) (t : ℕ) (ts : List ℕ) → list_all p ts ≡ true → is_one_of t ts ≡ true → p t ≡ true
among p t [] h i = absurd (false≢true i)
among p t (u ∷ ts) h i =
    let b = both (p u) (list_all p ts) h in
    elim (u == t) as (λ x. (u == t) ≡ x → (x || is_one_of t ts) ≡ true → p t ≡ true) [
      | true ↦ λ e j. subst (λ v. p v ≡ true) (eqb-true u t e) b.0
      | false ↦ λ e j. among p t ts b.1 j
    ] refl i

-- A test that the named threads pass and foreign ones pass of themselves.
pub all_threads : (p : ℕ → Bool) (entries : List Entry) → ((t : ℕ) → AllLines (IsForeign t) entries → p t ≡ true) → each_thread entries p ≡ true
    → (t : ℕ) → p t ≡ true
all_threads p entries others h t =
    elim (is_one_of t (threads_in entries)) as (λ x. is_one_of t (threads_in entries) ≡ x → p t ≡ true) [
      | true ↦ λ e. among p t (threads_in entries) h e
      | false ↦ λ e. others t (foreign t entries e)
    ] refl

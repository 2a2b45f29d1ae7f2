-- What the lines alone tell of waits that broadcasts end follows from what they tell with the waiters that signals take.
use Rattle.std.proofs.Common.{◌≡◌, ℕ, ℤ, Bool, true, false, ◌&&◌, ◌||◌, List, [], ◌∷◌, Option, Some, None, refl, sym, ap, ◌∙◌, subst}
use Rattle.std.proofs.lemmas.Bool.{false≢true}
use Rattle.thr_values.specs.declared.number.NameId.{NameId}
use Rattle.thr_values.specs.declared.history.What.{What}
use Rattle.thr_values.specs.declared.history.Entry.{Entry}
use Rattle.thr_laws.specs.Lines.{fits, implies, own_line}
use Rattle.thr_laws.specs.Known.{cancel_of, is_wakes}
use Rattle.thr_laws.proofs.ReadingLaws.{both, and_both}
use Rattle.thr_ports.specs.Signals.{Waiter, Elsewhere, StandsOn, SignalCame, TimeCame, CancelCame, Marked, entries_of, signalled_in, notified_in, time_in, stands_on, is_notified, is_due, woken, is_taken, after_own, after_other, after_line, waiter_after, takes_a_waiter, stays_pending, goes_on, waits_rightly, SignalLaw}
use Rattle.thr_ports.specs.Broadcasts.{without_time, told_by, told_after, is_signalled, returns_from_it, broadcasts_end_waits}

-- What broadcasts tell of a wait, and what has come of it.
abbrev Fits : Waiter → Waiter → Type 0
Fits (StandsOn c None) (StandsOn d None) = c ≡ d
Fits (StandsOn c None) SignalCame = Unit {0}
Fits (StandsOn c None) _ = ⊥
Fits (StandsOn c (Some until)) w = ⊥
Fits SignalCame SignalCame = Unit {0}
Fits SignalCame _ = ⊥
Fits TimeCame w = ⊥
Fits Elsewhere w = Unit {0}
Fits CancelCame w = Unit {0}

-- ---- lines of the thread

own_fits : (w : Waiter) → Fits (without_time w) w
own_fits Elsewhere = tt
own_fits (StandsOn c None) = refl
own_fits (StandsOn c (Some until)) = tt
own_fits SignalCame = tt
own_fits TimeCame = tt
own_fits CancelCame = tt

-- ---- lines of others

never_due : (now : Option ℤ) (c : NameId) → is_due now (StandsOn c None) ≡ false
never_due None c = refl
never_due (Some n) c = refl

never_late : (now : Option ℤ) → is_due now SignalCame ≡ false
never_late None = refl
never_late (Some n) = refl

-- A thread to which a signal came stays so.
stays_signalled : (comes wakes : Bool) → after_other SignalCame comes false wakes ≡ SignalCame
stays_signalled true wakes = refl
stays_signalled false true = refl
stays_signalled false false = refl

-- One that stands on a condition.
standing_fits : (c : NameId) (taken notified wakes : Bool) → Fits (after_other (StandsOn c None) notified false wakes) (after_other (StandsOn c None) (taken || notified) false wakes)
standing_fits c true true wakes = tt
standing_fits c true false true = tt
standing_fits c true false false = tt
standing_fits c false true wakes = tt
standing_fits c false false true = tt
standing_fits c false false false = refl

signalled_fits : (c : NameId) (notified wakes : Bool) → Fits (after_other (StandsOn c None) notified false wakes) SignalCame
signalled_fits c true wakes = tt
signalled_fits c false true = tt
signalled_fits c false false = tt

-- Nobody else is notified.
none_notified : (n : Option NameId) (w : Waiter) → ((c : NameId) → stands_on c w ≡ false) → is_notified n w ≡ false
none_notified None w h = refl
none_notified (Some c) w h = h c

stays_woken : (w : Waiter) (wakes : Bool) → woken w ≡ w → after_other w false false wakes ≡ w
stays_woken w true e = e
stays_woken w false e = refl

module _ (n : Option NameId) (now : Option ℤ) (taken wakes : Bool) where
  -- What the line makes of both.
  abbrev Both : Waiter → Waiter → Type 0
  Both v w = Fits (after_other v (is_notified n v) false wakes) (after_other w (taken || is_notified n w) (is_due now w) wakes)

  elsewhere_fits : (v w : Waiter) → ((c : NameId) → stands_on c v ≡ false) → woken v ≡ v → ((x : Waiter) → Fits v x) → Both v w
  elsewhere_fits v w apart still any =
      subst (λ z. Fits z (after_other w (taken || is_notified n w) (is_due now w) wakes))
      (sym (ap (λ b. after_other v b false wakes) (none_notified n v apart) ∙ stays_woken v wakes still)) (any _)

  signal_stays : after_other SignalCame (taken || is_notified n SignalCame) (is_due now SignalCame) wakes ≡ SignalCame
  signal_stays = ap (λ b. after_other SignalCame (taken || is_notified n SignalCame) b wakes) (never_late now) ∙ stays_signalled (taken || is_notified n SignalCame) wakes

  other_fits : (v w : Waiter) → Fits v w → Both v w
  other_fits Elsewhere w h = elsewhere_fits Elsewhere w (λ c. refl) refl (λ x. tt)
  other_fits CancelCame w h = elsewhere_fits CancelCame w (λ c. refl) refl (λ x. tt)
  other_fits TimeCame w h = absurd h
  other_fits (StandsOn c (Some until)) w h = absurd h
  other_fits (StandsOn c None) (StandsOn d None) h =
      subst (λ (x : NameId). Both (StandsOn c None) (StandsOn x None)) h
      (subst (λ b. Fits (after_other (StandsOn c None) (is_notified n (StandsOn c None)) false wakes) (after_other (StandsOn c None) (taken || is_notified n (StandsOn c None)) b wakes))
      (sym (never_due now c)) (standing_fits c taken (is_notified n (StandsOn c None)) wakes))
  other_fits (StandsOn c None) SignalCame h =
      subst (λ z. Fits (after_other (StandsOn c None) (is_notified n (StandsOn c None)) false wakes) z) (sym signal_stays) (signalled_fits c (is_notified n (StandsOn c None)) wakes)
  other_fits (StandsOn c None) Elsewhere h = absurd h
  other_fits (StandsOn c None) (StandsOn d (Some until)) h = absurd h
  other_fits (StandsOn c None) TimeCame h = absurd h
  other_fits (StandsOn c None) CancelCame h = absurd h
  other_fits SignalCame SignalCame h =
      same_fits _ _ (stays_signalled (is_notified n SignalCame) wakes) signal_stays
    where
      same_fits : (x y : Waiter) → x ≡ SignalCame → y ≡ SignalCame → Fits x y
      same_fits x y e f = subst (λ z. Fits z y) (sym e) (subst (λ z. Fits SignalCame z) (sym f) tt)
  other_fits SignalCame Elsewhere h = absurd h
  other_fits SignalCame (StandsOn d until) h = absurd h
  other_fits SignalCame TimeCame h = absurd h
  other_fits SignalCame CancelCame h = absurd h

-- ---- all lines

by_fits : (u : ℕ) (l : Marked) (own : Option What) (v w : Waiter) → Fits v w → Fits (told_by u v l.entry own) (after_line u w l own)
by_fits u l (Some own) v w h = own_fits (after_own own)
by_fits u l None v w h = other_fits (notified_in l.entry.what) (time_in l.entry.who l.entry.what) (is_taken u l.takes) (is_wakes (cancel_of u l.entry.what)) v w h

signalled_is : (v w : Waiter) → Fits v w → is_signalled v ≡ true → w ≡ SignalCame
signalled_is SignalCame SignalCame h e = refl
signalled_is SignalCame Elsewhere h e = absurd h
signalled_is SignalCame (StandsOn d until) h e = absurd h
signalled_is SignalCame TimeCame h e = absurd h
signalled_is SignalCame CancelCame h e = absurd h
signalled_is Elsewhere w h e = absurd (false≢true e)
signalled_is (StandsOn c until) w h e = absurd (false≢true e)
signalled_is TimeCame w h e = absurd (false≢true e)
signalled_is CancelCame w h e = absurd (false≢true e)

implied : (a b : Bool) → (a ≡ true → b ≡ true) → implies a b ≡ true
implied true b f = f refl
implied false b f = refl

one_passes : (u : ℕ) (v w : Waiter) (l : Marked) → Fits v w → waits_rightly u w l ≡ true → returns_from_it u v l.entry ≡ true
one_passes u v w l h p = implied (is_signalled v) _ (λ e. passes (subst (λ x. waits_rightly u x l ≡ true) (signalled_is v w h e) p))
  where
    passes : waits_rightly u SignalCame l ≡ true → (stays_pending (cancel_of u l.entry.what) && goes_on SignalCame (own_line u l.entry)) ≡ true
    passes q = (both (takes_a_waiter u SignalCame (signalled_in l.entry.what) l.takes) (stays_pending (cancel_of u l.entry.what) && goes_on SignalCame (own_line u l.entry)) q).1

all_pass : (u : ℕ) (v w : Waiter) (ls : List Marked) → Fits v w → fits (waiter_after u) (waits_rightly u) w ls ≡ true → fits (told_after u) (returns_from_it u) v (entries_of ls) ≡ true
all_pass u v w [] h p = refl
all_pass u v w (l ∷ ls) h p =
    let b = both (waits_rightly u w l) (fits (waiter_after u) (waits_rightly u) (waiter_after u w l) ls) p in
    and_both (returns_from_it u v l.entry) (fits (told_after u) (returns_from_it u) (told_after u v l.entry) (entries_of ls))
    (one_passes u v w l h b.0) (all_pass u (told_after u v l.entry) (waiter_after u w l) ls (by_fits u l (own_line u l.entry) v w h) b.1)

pub law_broadcasts : (entries : List Entry) → SignalLaw entries → (u : ℕ) → broadcasts_end_waits u entries ≡ true
law_broadcasts entries law u = subst (λ es. fits (told_after u) (returns_from_it u) Elsewhere es ≡ true) law.marked (all_pass u Elsewhere Elsewhere law.lines tt (law.waits u))

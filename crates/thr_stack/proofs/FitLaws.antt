-- The locals of calls among the values of all.
use Rattle.std.proofs.Common.{◌≡◌, ℕ, zero, suc, ◌+◌, ◌-◌, ◌*◌, ◌≤◌, ℤ, pos, List, [], ◌∷◌, ◌++◌, length, reverse, take, drop, replicate, slice_set, Option, refl, ap, sym, ◌∙◌, subst, arith, length-append, take-append-drop}
use Rattle.std.proofs.lemmas.List.{length-replicate}
use Rattle.thr_remainder.specs.Starts.{first_locals}
use Rattle.thr_stack.specs.declared.frame.Kind.{Kind}
use Rattle.thr_stack.specs.declared.frame.Kind.TheVariants as kind
use Rattle.thr_stack.specs.declared.frame.Frame.{Frame}
use Rattle.thr_stack.specs.FrameLists.{FramesView, IsNoCall, HasCalled, innermost, below, set_in}
use Rattle.thr_stack.specs.LocalLists.{LocalsView, closed, under, opened, calls_of, FitsCall, FitsAll}

-- ---- parts of lists

set_behind : (m p q : ℕ) (xs : List ℤ) (n : ℤ) → m + p ≡ q → drop m (slice_set xs q n) ≡ slice_set (drop m xs) p n
set_behind zero p q xs n e = let same : q ≡ p = omega (arith, e) in ap (λ r. slice_set xs r n) same
set_behind (suc m) p q [] n e = refl
set_behind (suc m) p zero (x ∷ xs) n e = absurd (omega (arith, e))
set_behind (suc m) p (suc q) (x ∷ xs) n e = set_behind m p q xs n (omega (arith, e))

set_before : (m p q : ℕ) (xs : List ℤ) (n : ℤ) → m + p ≡ q → take m (slice_set xs q n) ≡ take m xs
set_before zero p q xs n e = refl
set_before (suc m) p q [] n e = refl
set_before (suc m) p zero (x ∷ xs) n e = absurd (omega (arith, e))
set_before (suc m) p (suc q) (x ∷ xs) n e = ap (λ ys. x ∷ ys) (set_before m p q xs n (omega (arith, e)))

length_set : (p : ℕ) (xs : List ℤ) (n : ℤ) → length (slice_set xs p n) ≡ length xs
length_set p [] n = refl
length_set zero (x ∷ xs) n = refl
length_set (suc p) (x ∷ xs) n = ap suc (length_set p xs n)

take_front : (xs ys : List ℤ) → take (length xs) (xs ++ ys) ≡ xs
take_front [] ys = refl
take_front (x ∷ xs) ys = ap (λ zs. x ∷ zs) (take_front xs ys)

drop_front : (xs ys : List ℤ) → drop (length xs) (xs ++ ys) ≡ ys
drop_front [] ys = refl
drop_front (x ∷ xs) ys = drop_front xs ys

length_parts : (m : ℕ) (xs : List ℤ) → length (take m xs) + length (drop m xs) ≡ length xs
length_parts m xs = sym (length-append (take m xs) (drop m xs)) ∙ ap length (take-append-drop m xs)

-- ---- the values of all calls

-- The values, where those of the innermost call begin at `first`.
abbrev pub parted : List ℤ → (first most : ℕ) → LocalsView
parted values first most = record { here = drop first values; outer = take first values; most = most }

pub set_is : (values : List ℤ) (first most p q : ℕ) (m n : ℤ) (old : LocalsView) → parted values first most ≡ old → first + p ≡ q → m ≡ n → parted (slice_set values q m) first most ≡ record old { here = slice_set old.here p n }
set_is values first most p q m n old is at same =
    (λ i. record { here = set_behind first p q values m at i; outer = set_before first p q values m at i; most = most })
    ∙ (λ i. record { here = slice_set (is i).here p (same i); outer = (is i).outer; most = (is i).most })

pub open_is : (values more : List ℤ) (first most count : ℕ) (old : LocalsView) → parted values first most ≡ old → more ≡ values ++ replicate count (pos 0) → parted more (length values) most ≡ record old { here = replicate count (pos 0); outer = old.outer ++ old.here }
open_is values more first most count old is more_is =
    ap (λ ys. parted ys (length values) most) more_is
    ∙ (λ i. record { here = drop_front values (replicate count (pos 0)) i; outer = (take_front values (replicate count (pos 0)) ∙ sym (take-append-drop first values)) i; most = most })
    ∙ (λ i. record { here = replicate count (pos 0); outer = (is i).outer ++ (is i).here; most = (is i).most })

-- As many values as the view has.
pub length_is : (values : List ℤ) (first most : ℕ) (old : LocalsView) → parted values first most ≡ old → length old.outer + length old.here ≡ length values
length_is values first most old is = ap (λ (l : LocalsView). length l.outer + length l.here) (sym is) ∙ length_parts first values

-- ---- frames that are no calls

no_call_opens : (k : Kind) → IsNoCall k → (here : List ℤ) (calls : List (List ℤ)) → opened k here calls ≡ calls
no_call_opens (kind.Call place count) free here calls = absurd free
no_call_opens (kind.Try scope first) free here calls = refl
no_call_opens (kind.Catch scope caught) free here calls = refl
no_call_opens (kind.Finally scope pending) free here calls = refl
no_call_opens (kind.Once scope block routine) free here calls = refl
no_call_opens (kind.Barrier scope key routine) free here calls = refl

pub no_call_under : (k : Kind) → IsNoCall k → (l : LocalsView) → under k l ≡ l
no_call_under (kind.Call place count) free l = absurd free
no_call_under (kind.Try scope first) free l = refl
no_call_under (kind.Catch scope caught) free l = refl
no_call_under (kind.Finally scope pending) free l = refl
no_call_under (kind.Once scope block routine) free l = refl
no_call_under (kind.Barrier scope key routine) free l = refl

no_call_fits : (k : Kind) → IsNoCall k → (l : LocalsView) → FitsCall k l
no_call_fits (kind.Call place count) free l = absurd free
no_call_fits (kind.Try scope first) free l = tt
no_call_fits (kind.Catch scope caught) free l = tt
no_call_fits (kind.Finally scope pending) free l = tt
no_call_fits (kind.Once scope block routine) free l = tt
no_call_fits (kind.Barrier scope key routine) free l = tt

pub below_no_call : (k : Kind) → IsNoCall k → (calls : List (List ℤ)) → below calls k ≡ calls
below_no_call (kind.Call place count) free calls = absurd free
below_no_call (kind.Try scope first) free calls = refl
below_no_call (kind.Catch scope caught) free calls = refl
below_no_call (kind.Finally scope pending) free calls = refl
below_no_call (kind.Once scope block routine) free calls = refl
below_no_call (kind.Barrier scope key routine) free calls = refl

pub calls_push : (l : LocalsView) (f : Frame) (fs : List Frame) → IsNoCall f.kind → calls_of l (f ∷ fs) ≡ calls_of l fs
calls_push l f fs free = no_call_opens f.kind free l.here (calls_of (under f.kind l) fs) ∙ ap (λ (x : LocalsView). calls_of x fs) (no_call_under f.kind free l)

pub fits_push : (l : LocalsView) (f : Frame) (fs : List Frame) → IsNoCall f.kind → FitsAll l fs → FitsAll l (f ∷ fs)
fits_push l f fs free h = (no_call_fits f.kind free l, subst (λ (x : LocalsView). FitsAll x fs) (sym (no_call_under f.kind free l)) h)

-- ---- calls

-- The values of a call that begins, over those of the others.
abbrev pub begun : LocalsView → List ℤ → LocalsView
begun l here = record l { here = here; outer = l.outer ++ l.here }

pub closed_again : (l : LocalsView) (here : List ℤ) → closed (length l.here) (begun l here) ≡ l
closed_again l here =
    let n : length (l.outer ++ l.here) - length l.here ≡ length l.outer = omega (arith, length-append l.outer l.here) in
    let after : drop (length (l.outer ++ l.here) - length l.here) (l.outer ++ l.here) ≡ l.here = ap (λ m. drop m (l.outer ++ l.here)) n ∙ drop_front l.outer l.here in
    let before : take (length (l.outer ++ l.here) - length l.here) (l.outer ++ l.here) ≡ l.outer = ap (λ m. take m (l.outer ++ l.here)) n ∙ take_front l.outer l.here in
    λ i. record { here = after i; outer = before i; most = l.most }

module _ (l : LocalsView) (here : List ℤ) (place : Option ℕ) (back : ℕ) (fs : List Frame) where
  abbrev pub caller : Frame
  caller = record { kind = kind.Call place (length l.here); back = back }

  pub calls_call : calls_of (begun l here) (caller ∷ fs) ≡ here ∷ calls_of l fs
  calls_call = ap (λ (x : LocalsView). here ∷ calls_of x fs) (closed_again l here)

  pub fits_call : length here ≤ 16 → FitsAll l fs → FitsAll (begun l here) (caller ∷ fs)
  fits_call few h = ((few, omega (arith, length-append l.outer l.here)), subst (λ (x : LocalsView). FitsAll x fs) (sym (closed_again l here)) h)

pub below_opened : (k : Kind) (here : List ℤ) (calls : List (List ℤ)) → below (opened k here calls) k ≡ calls
below_opened (kind.Call place count) here calls = refl
below_opened (kind.Try scope first) here calls = refl
below_opened (kind.Catch scope caught) here calls = refl
below_opened (kind.Finally scope pending) here calls = refl
below_opened (kind.Once scope block routine) here calls = refl
below_opened (kind.Barrier scope key routine) here calls = refl

-- ---- room

room_by : (k : Kind) (l : LocalsView) (m : ℕ) → FitsCall k l → length (under k l).here + length (under k l).outer ≤ 16 * m → length l.here + length l.outer ≤ 16 * suc m
room_by (kind.Call place count) l m fits h = omega (arith, fits.0, h, length_parts (length l.outer - count) l.outer)
room_by (kind.Try scope first) l m fits h = omega (arith, h)
room_by (kind.Catch scope caught) l m fits h = omega (arith, h)
room_by (kind.Finally scope pending) l m fits h = omega (arith, h)
room_by (kind.Once scope block routine) l m fits h = omega (arith, h)
room_by (kind.Barrier scope key routine) l m fits h = omega (arith, h)

pub fits_room : (l : LocalsView) (fs : List Frame) → FitsAll l fs → length l.here + length l.outer ≤ 16 * length fs
fits_room l [] h = omega (arith, ap length h.0, ap length h.1)
fits_room l (f ∷ fs) h = room_by f.kind l (length fs) h.0 (fits_room (under f.kind l) fs h.1)

few_by : (k : Kind) (l : LocalsView) → FitsCall k l → length (under k l).here ≤ 16 → length l.here ≤ 16
few_by (kind.Call place count) l fits h = fits.0
few_by (kind.Try scope first) l fits h = h
few_by (kind.Catch scope caught) l fits h = h
few_by (kind.Finally scope pending) l fits h = h
few_by (kind.Once scope block routine) l fits h = h
few_by (kind.Barrier scope key routine) l fits h = h

pub fits_few : (l : LocalsView) (fs : List Frame) → FitsAll l fs → length l.here ≤ 16
fits_few l [] h = omega (arith, ap length h.0)
fits_few l (f ∷ fs) h = few_by f.kind l h.0 (fits_few (under f.kind l) fs h.1)

-- ---- the innermost call

innermost_by : (k : Kind) (l : LocalsView) (calls : List (List ℤ)) → innermost calls ≡ (under k l).here → innermost (opened k l.here calls) ≡ l.here
innermost_by (kind.Call place count) l calls h = refl
innermost_by (kind.Try scope first) l calls h = h
innermost_by (kind.Catch scope caught) l calls h = h
innermost_by (kind.Finally scope pending) l calls h = h
innermost_by (kind.Once scope block routine) l calls h = h
innermost_by (kind.Barrier scope key routine) l calls h = h

pub innermost_is : (l : LocalsView) (fs : List Frame) → FitsAll l fs → innermost (calls_of l fs) ≡ l.here
innermost_is l [] h = sym h.0
innermost_is l (f ∷ fs) h = innermost_by f.kind l (calls_of (under f.kind l) fs) (innermost_is (under f.kind l) fs h.1)

module _ (p : ℕ) (n : ℤ) where
  -- The values where one of the innermost call has changed.
  abbrev pub changed : LocalsView → LocalsView
  changed l = record l { here = slice_set l.here p n }

  calls_set_by : (k : Kind) (l : LocalsView) (fs : List Frame) → calls_of (changed l) fs ≡ set_in (calls_of l fs) p n → opened k (slice_set l.here p n) (calls_of (under k (changed l)) fs) ≡ set_in (opened k l.here (calls_of (under k l) fs)) p n
  calls_set_by (kind.Call place count) l fs h = refl
  calls_set_by (kind.Try scope first) l fs h = h
  calls_set_by (kind.Catch scope caught) l fs h = h
  calls_set_by (kind.Finally scope pending) l fs h = h
  calls_set_by (kind.Once scope block routine) l fs h = h
  calls_set_by (kind.Barrier scope key routine) l fs h = h

  pub calls_set : (l : LocalsView) (fs : List Frame) → calls_of (changed l) fs ≡ set_in (calls_of l fs) p n
  calls_set l [] = refl
  calls_set l (f ∷ fs) = calls_set_by f.kind l fs (calls_set l fs)

  fits_set_by : (k : Kind) (l : LocalsView) (fs : List Frame) → (FitsAll l fs → FitsAll (changed l) fs) → FitsCall k l × FitsAll (under k l) fs → FitsCall k (changed l) × FitsAll (under k (changed l)) fs
  fits_set_by (kind.Call place count) l fs keeps h = ((omega (arith, h.0.0, length_set p l.here n), h.0.1), h.1)
  fits_set_by (kind.Try scope first) l fs keeps h = (tt, keeps h.1)
  fits_set_by (kind.Catch scope caught) l fs keeps h = (tt, keeps h.1)
  fits_set_by (kind.Finally scope pending) l fs keeps h = (tt, keeps h.1)
  fits_set_by (kind.Once scope block routine) l fs keeps h = (tt, keeps h.1)
  fits_set_by (kind.Barrier scope key routine) l fs keeps h = (tt, keeps h.1)

  pub fits_set : (l : LocalsView) (fs : List Frame) → FitsAll l fs → FitsAll (changed l) fs
  fits_set l [] h = (ap (λ xs. slice_set xs p n) h.0, h.1)
  fits_set l (f ∷ fs) h = fits_set_by f.kind l fs (fits_set l fs) h

-- ---- frames with their locals

-- Frames in the order in which they were put there, with the values of their calls.
abbrev pub viewed : List Frame → LocalsView → (size most : ℕ) → FramesView
viewed items l size most = record { items = reverse items; calls = calls_of l (reverse items); size = size; most = most }

pub has_called : (items more : List Frame) (l new : LocalsView) (size most : ℕ) (old : FramesView) (place : Option ℕ) (back count callers : ℕ) (n : ℤ) → viewed items l size most ≡ old → callers ≡ length l.here →
    reverse more ≡ record { kind = kind.Call place callers; back = back } ∷ reverse items → new ≡ begun l (first_locals count n) → HasCalled place back count n old (viewed more new size most)
has_called items more l new size most old place back count callers n is callers_is more_is new_is = record {
  callers = callers;
  alone = λ none. sym (ap (λ (f : FramesView). f.calls) is) ∙ ap (calls_of l) (ap (λ (f : FramesView). f.items) is ∙ none);
  same = (λ i. record { items = more_is i; calls = calls_of (new_is i) (more_is i); size = size; most = most })
      ∙ (λ i. record { items = record { kind = kind.Call place callers; back = back } ∷ reverse items; calls = calls_of (begun l (first_locals count n)) (record { kind = kind.Call place (callers_is i); back = back } ∷ reverse items); size = size; most = most })
      ∙ ap (λ cs. let f : FramesView = record { items = record { kind = kind.Call place callers; back = back } ∷ reverse items; calls = cs; size = size; most = most } in f) (calls_call l (first_locals count n) place back (reverse items))
      ∙ ap (λ (f : FramesView). record f { items = record { kind = kind.Call place callers; back = back } ∷ f.items; calls = first_locals count n ∷ f.calls }) is;
}

pub fits_called : (items more : List Frame) (l new : LocalsView) (place : Option ℕ) (back count callers : ℕ) (n : ℤ) → callers ≡ length l.here → reverse more ≡ record { kind = kind.Call place callers; back = back } ∷ reverse items →
    new ≡ begun l (first_locals count n) → count ≤ 16 → FitsAll l (reverse items) → FitsAll new (reverse more)
fits_called items more l new place back count callers n callers_is more_is new_is few h =
    let f : ℕ → Frame = λ m. record { kind = kind.Call place m; back = back } in
    let first_few : length (first_locals count n) ≤ 16 = omega (arith, few, length_set 0 (replicate count (pos 0)) n, length-replicate count (pos 0)) in
    subst (λ (x : LocalsView). FitsAll x (reverse more)) (sym new_is)
    (subst (FitsAll (begun l (first_locals count n))) (sym more_is)
    (subst (λ m. FitsAll (begun l (first_locals count n)) (f m ∷ reverse items)) (sym callers_is) (fits_call l (first_locals count n) place back (reverse items) first_few h)))

pub has_set : (items : List Frame) (l new : LocalsView) (size most p : ℕ) (n : ℤ) (old : FramesView) → viewed items l size most ≡ old → new ≡ changed p n l → viewed items new size most ≡ record old { calls = set_in old.calls p n }
has_set items l new size most p n old is new_is =
    ap (λ (x : LocalsView). viewed items x size most) new_is
    ∙ ap (λ cs. let f : FramesView = record { items = reverse items; calls = cs; size = size; most = most } in f) (calls_set p n l (reverse items))
    ∙ ap (λ (f : FramesView). record f { calls = set_in f.calls p n }) is

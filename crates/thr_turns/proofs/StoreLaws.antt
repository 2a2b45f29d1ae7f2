-- Shared variables that replies and statements write fit tables by names.
use Rattle.std.proofs.Common.{Bor, ◌≡◌, ℕ, ◌-◌, ◌<◌, ◌≤◌, ℤ, true, List, [], ◌∷◌, ◌++◌, length, Option, Some, None, refl, sym, subst}
use Rattle.std.specs.Prelude.{IfSome, MatchOption}
use Rattle.thr_values.specs.declared.number.NameId.{NameId}
use Rattle.thr_values.specs.declared.reply.Reply.{Reply}
use Rattle.thr_values.specs.declared.reply.Reply.TheVariants as reply
use Rattle.thr_syntax.specs.declared.expr.Var.{Var}
use Rattle.thr_syntax.specs.declared.expr.Var.TheVariants.{Local, Shared}
use Rattle.thr_syntax.specs.declared.dce.DceCall.{DceCall}
use Rattle.thr_syntax.specs.declared.dce.DceCall.TheVariants as dce
use Rattle.thr_syntax.specs.declared.form.Form.TheVariants as form
use Rattle.thr_syntax.specs.declared.tree.Script.{Script}
use Rattle.thr_syntax.specs.Shared.{variables_of}
use Rattle.thr_text.specs.declared.object.Object.TheVariants as object
use Rattle.thr_trees.specs.Kinds.{is_name_of}
use Rattle.thr_trees.specs.Names.{variables_in_call, IsVariable, AreVariables}
use Rattle.thr_remainder.specs.Acts.{Act, Asks}
use Rattle.thr_remainder.specs.Calls.{taken, taken_by_read, stores}
use Rattle.thr_remainder.specs.Remainders.{Remainder, Spot, Place, Nowhere, AtEnd, At, place_in, act_at}
use Rattle.thr_parts.specs.Tables.{names}
use Rattle.thr_frames.specs.Replies.{stores_by, stores_at, shared_store, first_store, second_store}
use Rattle.thr_frames.specs.Stacks.{asked_by, HasNoCall, IsNextCall, IsSet}
use Rattle.thr_turns.proofs.NameLaws.{LineLaw, BelowLaw, fits}

-- The shared variable that is there fits.
abbrev pub WriteFits : Option (NameId × ℤ) → Type 0
WriteFits o = IfSome o (λ w. w.0.0 < names)

-- The shared variables among these fit.
abbrev AllFit : List (Var × ℤ) → Type 0
AllFit [] = Unit {0}
AllFit ((Local p, n) ∷ xs) = AllFit xs
AllFit ((Shared name, n) ∷ xs) = (name.0 < names) × AllFit xs

-- The variable, if it is shared, fits.
abbrev Fits : Var → Type 0
Fits (Local p) = Unit {0}
Fits (Shared name) = name.0 < names

abbrev SharedFit : Script → Type 0
SharedFit s = (name : NameId) → is_name_of s object.Shared name ≡ true → name.0 < names

var-fits : (s : Script) (locals : ℕ) → SharedFit s → (v : Var) → IsVariable s locals v → Fits v
var-fits s locals fit (Local p) h = tt
var-fits s locals fit (Shared name) h = fit name h

one-fits : (v : Var) (n : ℤ) → Fits v → AllFit ((v, n) ∷ [])
one-fits (Local p) n h = tt
one-fits (Shared name) n h = (h, tt)

two-fit : (v w : Var) (n m : ℤ) → Fits v → Fits w → AllFit ((v, n) ∷ (w, m) ∷ [])
two-fit (Local p) w n m h i = one-fits w m i
two-fit (Shared name) w n m h i = (h, one-fits w m i)

taken-fits : (v : Var) (y : Reply) → Fits v → AllFit (taken v y)
taken-fits v (reply.Value n) h = one-fits v n h
taken-fits v _ h = tt

read-fits : (v w : Var) (y : Reply) → Fits v → Fits w → AllFit (taken_by_read v w y)
read-fits v w (reply.Value n) h i = two-fit v w n _ h i
read-fits v w reply.Eof h i = two-fit v w _ _ h i
read-fits v w _ h i = tt

last-of : (s : Script) (locals : ℕ) (vs : List Var) (v : Var) → AreVariables s locals (vs ++ v ∷ []) → IsVariable s locals v
last-of s locals [] v h = h.0
last-of s locals (x ∷ vs) v h = last-of s locals vs v h.1

rest-of : (s : Script) (locals : ℕ) (vs ws : List Var) → AreVariables s locals (vs ++ ws) → AreVariables s locals ws
rest-of s locals [] ws h = h
rest-of s locals (x ∷ vs) ws h = rest-of s locals vs ws h.1

call-stores : (s : Script) (locals : ℕ) → SharedFit s → (call : DceCall) (y : Reply) → AreVariables s locals (variables_in_call call) → AllFit (stores call y)
unfolding stores
call-stores s locals fit (dce.Create v attr n e) y h = taken-fits v y (var-fits s locals fit v h.0)
call-stores s locals fit (dce.Join e v) y h = taken-fits v y (var-fits s locals fit v (last-of s locals (variables_of e) v h))
call-stores s locals fit (dce.Setcancel on v) y h = taken-fits v y (var-fits s locals fit v h.0)
call-stores s locals fit (dce.Setasynccancel on v) y h = taken-fits v y (var-fits s locals fit v h.0)
call-stores s locals fit (dce.Setprio e f v) y h =
    taken-fits v y (var-fits s locals fit v (last-of s locals (variables_of f) v (rest-of s locals (variables_of e) (variables_of f ++ v ∷ []) h)))
call-stores s locals fit (dce.Getprio e v) y h = taken-fits v y (var-fits s locals fit v (last-of s locals (variables_of e) v h))
call-stores s locals fit (dce.Setscheduler e policy f v) y h =
    taken-fits v y (var-fits s locals fit v (last-of s locals (variables_of f) v (rest-of s locals (variables_of e) (variables_of f ++ v ∷ []) h)))
call-stores s locals fit (dce.Getscheduler e v) y h = taken-fits v y (var-fits s locals fit v (last-of s locals (variables_of e) v h))
call-stores s locals fit (dce.GetExpirationNp e v) y h = taken-fits v y (var-fits s locals fit v (last-of s locals (variables_of e) v h))
call-stores s locals fit (dce.MutexTrylock n v) y h = taken-fits v y (var-fits s locals fit v h.0)
call-stores s locals fit (dce.Getspecific n v) y h = taken-fits v y (var-fits s locals fit v h.0)
call-stores s locals fit (dce.Read n v w) y h = read-fits v w y (var-fits s locals fit v h.0) (var-fits s locals fit w h.1.0)
call-stores s locals fit _ y h = tt

-- ---- what stands at a place

none-asked : (act : Act) (y : Reply) → asked_by act ≡ None → AllFit (stores_by act y)
none-asked (Asks call) y h = absurd (cc)
none-asked _ y h = tt

place-none : (p : Place) (y : Reply) → ((spot : Spot) → p ≡ At spot → asked_by (act_at spot) ≡ None) → AllFit (stores_at p y)
place-none (At h) y none = none-asked (act_at h) y (none h refl)
place-none Nowhere y none = tt
place-none (AtEnd close role outer) y none = tt

next-stores : (s : Script) (r : Remainder) (y : Reply) (call : DceCall) → LineLaw s → SharedFit s → IsNextCall s r call → AllFit (stores_at (place_in r.items) y)
next-stores s r y call line fit next =
    subst (λ (p : Place). AllFit (stores_at p y)) (sym next.here)
    (subst (λ (a : Act). AllFit (stores_by a y)) (sym next.asks) (call-stores s _ fit call y (line (next.spot.line - 1) (form.Dce call) next.stands).variables))

-- Where a call is next or none is, what its reply stores fits.
place-stores : (s : Script) (r : Remainder) (y : Reply) (o : Option (Bor DceCall)) → LineLaw s → SharedFit s → MatchOption o (HasNoCall r) (λ call. IsNextCall s r call.now) → AllFit (stores_at (place_in r.items) y)
place-stores s r y None line fit h = place-none (place_in r.items) y h
place-stores s r y (Some call) line fit h = next-stores s r y call.now line fit h

store-fits : (x : Var × ℤ) (xs : List (Var × ℤ)) → AllFit (x ∷ xs) → WriteFits (shared_store x) × AllFit xs
store-fits (Local p, n) xs h = (tt, h)
store-fits (Shared name, n) xs h = (h.0, h.1)

first-fits : (xs : List (Var × ℤ)) → AllFit xs → WriteFits (first_store xs)
first-fits [] h = tt
first-fits (x ∷ xs) h = (store-fits x xs h).0

second-fits : (xs : List (Var × ℤ)) → AllFit xs → WriteFits (second_store xs)
second-fits [] h = tt
second-fits (x ∷ xs) h = first-fits xs (store-fits x xs h).1

-- What a reply writes fits tables.
pub replies-fit : (s : Script) (r : Remainder) (y : Reply) (o : Option (Bor DceCall)) (first second : Option (NameId × ℤ)) → LineLaw s → BelowLaw s → length s.names ≤ 1010
    → MatchOption o (HasNoCall r) (λ call. IsNextCall s r call.now) → first ≡ first_store (stores_at (place_in r.items) y) → second ≡ second_store (stores_at (place_in r.items) y)
    → WriteFits first × WriteFits second
replies-fit s r y o first second line below few h e f =
    let all : AllFit (stores_at (place_in r.items) y) = place-stores s r y o line (fits s below few object.Shared) h in
    (subst WriteFits (sym e) (first-fits (stores_at (place_in r.items) y) all), subst WriteFits (sym f) (second-fits (stores_at (place_in r.items) y) all))

set-fits-one : (s : Script) (name : NameId) → LineLaw s → BelowLaw s → length s.names ≤ 1010 → IsSet s name → name.0 < names
set-fits-one s name line below few set = fits s below few object.Shared name (line set.line (form.Set (Shared name) set.e) set.stands).variables.0

-- What a statement sets fits tables.
pub set-fits : (s : Script) (o : Option (NameId × ℤ)) → LineLaw s → BelowLaw s → length s.names ≤ 1010 → IfSome o (λ w. IsSet s w.0) → WriteFits o
set-fits s None line below few h = tt
set-fits s (Some w) line below few h = set-fits-one s w.0 line below few h

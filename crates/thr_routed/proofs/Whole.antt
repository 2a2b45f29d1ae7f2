-- Over each course an unwinding takes its whole route, or it is replaced.
use Rattle.std.proofs.Common.{◌≡◌, ℕ, Bool, true, false, not, ◌&&◌, ◌||◌, List, [], ◌∷◌, ◌++◌, Option, Some, None, refl, ap, ◌∙◌}
use Rattle.std.proofs.lemmas.Bool.{false≢true}
use Rattle.std.specs.Option.{option_or, option_map}
use Rattle.thr_values.specs.declared.history.What.{What}
use Rattle.thr_syntax.specs.declared.tree.Script.{Script}
use Rattle.thr_remainder.specs.declared.unwinding.Unwinding.{Unwinding}
use Rattle.thr_remainder.specs.Remainders.{Role, Finishing}
use Rattle.thr_laws.specs.Scopes.{Open, outside}
use Rattle.thr_laws.specs.Routes.{Carried, RunsFinally, Undoes, Loses, Leaves, Carrying, carries, carried, entry_with, carried_by, route}
use Rattle.thr_laws.specs.Routes as routes
use Rattle.thr_laws.specs.Routed.{last_carried, passes_by, ends_finally, is_left_by_another, replaced_at, replaced_after}
use Rattle.thr_routed.proofs.OpenScopes.{AreOpen, Behind}
use Rattle.thr_routed.proofs.Numbers.{pending_of}

-- ---- the last line that carries an unwinding

Last : Type 0
Last = Option (Carried × List What)

-- One more line after it.
abbrev pub later : What → Carried × List What → Carried × List What
later w x = (x.0, x.1 ++ w ∷ [])

later_by : (w : What) (lines : List What) (last : Option (Carried × List What)) (o : Option Carried)
    → option_or (option_map (later w) last) (option_map (λ c. (c, lines ++ w ∷ [])) o) ≡ option_map (later w) (option_or last (option_map (λ c. (c, lines)) o))
later_by w lines None None = refl
later_by w lines None (Some c) = refl
later_by w lines (Some x) o = refl

pub last_later : (n : ℕ) (lines : List What) (w : What) → carried_by n w ≡ None → last_carried n (lines ++ w ∷ []) ≡ option_map (later w) (last_carried n lines)
last_later n [] w e = ap (λ o. option_or None (option_map (λ c. (c, [])) o)) e
last_later n (x ∷ lines) w e =
    ap (λ o. option_or o (option_map (λ c. (c, lines ++ w ∷ [])) (carried_by n x))) (last_later n lines w e) ∙ later_by w lines (last_carried n lines) (carried_by n x)

pub last_now : (n : ℕ) (lines : List What) (w : What) (c : Carried) → carried_by n w ≡ Some c → last_carried n (lines ++ w ∷ []) ≡ Some (c, [])
last_now n [] w c e = ap (λ o. option_or None (option_map (λ c. (c, [])) o)) e
last_now n (x ∷ lines) w c e = ap (λ o. option_or o (option_map (λ c. (c, lines ++ w ∷ [])) (carried_by n x))) (last_now n lines w c e)

-- ---- left by another

and_second : (a b c : Bool) → (b ≡ true → c ≡ true) → (a && b) ≡ true → (a && c) ≡ true
and_second true b c f h = f h
and_second false b c f h = h

or_second : (a b c : Bool) → (b ≡ true → c ≡ true) → (a || b) ≡ true → (a || c) ≡ true
or_second true b c f h = refl
or_second false b c f h = f h

pub left_later : (n scope : ℕ) (outer : List Open) (lines : List What) (w : What) → is_left_by_another n scope outer lines ≡ true → is_left_by_another n scope outer (lines ++ w ∷ []) ≡ true
left_later n scope outer [] w h = absurd (false≢true h)
left_later n scope outer (x ∷ lines) w h =
    or_second (passes_by n outer (carried x)) (not (ends_finally scope x) && is_left_by_another n scope outer lines) (not (ends_finally scope x) && is_left_by_another n scope outer (lines ++ w ∷ []))
    (and_second (not (ends_finally scope x)) (is_left_by_another n scope outer lines) (is_left_by_another n scope outer (lines ++ w ∷ [])) (left_later n scope outer lines w)) h

-- The FINALLY body of the scope doesn't end in these lines.
abbrev pub goes_on_in : ℕ → List What → Bool
goes_on_in scope [] = true
goes_on_in scope (w ∷ lines) = not (ends_finally scope w) && goes_on_in scope lines

or_true : (a b : Bool) → a ≡ true → (a || b) ≡ true
or_true true b e = refl
or_true false b e = absurd (false≢true e)

or_right : (a b : Bool) → b ≡ true → (a || b) ≡ true
or_right true b e = refl
or_right false b e = e

and_right : (a b c : Bool) → (b ≡ true → c ≡ true) → (a && b) ≡ true → (a && c) ≡ true
and_right true b c f h = f h
and_right false b c f h = h

pub left_now : (n scope : ℕ) (outer : List Open) (lines : List What) (w : What) → goes_on_in scope lines ≡ true → passes_by n outer (carried w) ≡ true → is_left_by_another n scope outer (lines ++ w ∷ []) ≡ true
left_now n scope outer [] w h p = or_true (passes_by n outer (carried w)) (not (ends_finally scope w) && false) p
left_now n scope outer (x ∷ lines) w h p =
    or_right (passes_by n outer (carried x)) (not (ends_finally scope x) && is_left_by_another n scope outer (lines ++ w ∷ []))
    (and_right (not (ends_finally scope x)) (goes_on_in scope lines) (is_left_by_another n scope outer (lines ++ w ∷ [])) (λ g. left_now n scope outer lines w g p) h)

goes_later : (scope : ℕ) (lines : List What) (w : What) → ends_finally scope w ≡ false → goes_on_in scope lines ≡ true → goes_on_in scope (lines ++ w ∷ []) ≡ true
goes_later scope [] w e h = ap (λ (b : Bool). not b && true) e
goes_later scope (x ∷ lines) w e h = and_right (not (ends_finally scope x)) (goes_on_in scope lines) (goes_on_in scope (lines ++ w ∷ [])) (goes_later scope lines w e) h

replaced_later_at : (n : ℕ) (scopes : List Open) (c : Carried) (lines : List What) (w : What) → replaced_at n scopes c lines ≡ true → replaced_at n scopes c (lines ++ w ∷ []) ≡ true
replaced_later_at n scopes (RunsFinally scope) lines w h = left_later n scope (outside scope scopes) lines w h
replaced_later_at n scopes (routes.Catches scope line) lines w h = h
replaced_later_at n scopes (Undoes scope) lines w h = h
replaced_later_at n scopes (Loses scope) lines w h = h
replaced_later_at n scopes (Leaves v) lines w h = h

replaced_later_by : (n : ℕ) (scopes : List Open) (w : What) (last : Option (Carried × List What)) → replaced_after n scopes last ≡ true → replaced_after n scopes (option_map (later w) last) ≡ true
replaced_later_by n scopes w None h = h
replaced_later_by n scopes w (Some x) h = replaced_later_at n scopes x.0 x.1 w h

pub replaced_later : (n : ℕ) (scopes : List Open) (lines : List What) (w : What) → carried_by n w ≡ None → replaced_after n scopes (last_carried n lines) ≡ true
    → replaced_after n scopes (last_carried n (lines ++ w ∷ [])) ≡ true
replaced_later n scopes lines w e h = ap (replaced_after n scopes) (last_later n lines w e) ∙ replaced_later_by n scopes w (last_carried n lines) h

-- The last entry of unwinding n began the FINALLY body of this scope, and that goes on.
pub record IsInFinally (n scope : ℕ) (lines : List What) : Type 0 where
  pub behind : List What
  pub last : last_carried n lines ≡ Some (RunsFinally scope, behind)
  pub going : goes_on_in scope behind ≡ true

pub finally_later : (n scope : ℕ) (lines : List What) (w : What) → carried_by n w ≡ None → ends_finally scope w ≡ false → IsInFinally n scope lines → IsInFinally n scope (lines ++ w ∷ [])
finally_later n scope lines w e f h = record {
  behind = h.behind ++ w ∷ [];
  last = last_later n lines w e ∙ ap (option_map (later w)) h.last;
  going = goes_later scope h.behind w f h.going;
}

pub finally_now : (n scope : ℕ) (lines : List What) (w : What) → carried_by n w ≡ Some (RunsFinally scope) → IsInFinally n scope (lines ++ w ∷ [])
finally_now n scope lines w e = record { behind = []; last = last_now n lines w (RunsFinally scope) e; going = refl }

-- Another unwinding passes by.
pub replaced_now : (n scope : ℕ) (scopes : List Open) (lines : List What) (w : What) → carried_by n w ≡ None → IsInFinally n scope lines → passes_by n (outside scope scopes) (carried w) ≡ true
    → replaced_after n scopes (last_carried n (lines ++ w ∷ [])) ≡ true
replaced_now n scope scopes lines w e h p =
    ap (replaced_after n scopes) (last_later n lines w e ∙ ap (option_map (later w)) h.last) ∙ left_now n scope (outside scope scopes) h.behind w h.going p

-- ---- the fate of an unwinding

-- The unwinding that is there isn't number n.
abbrev pub IsOther : ℕ → Option Unwinding → Type 0
IsOther n None = Unit {0}
IsOther n (Some u) = u.number ≡ n → ⊥

abbrev pub AreOther : ℕ → List Role → Type 0
AreOther n [] = Unit {0}
AreOther n (role ∷ roles) = IsOther n (pending_of role) × AreOther n roles

module _ (s : Script) where
  -- Unwinding n, made where these scopes were open, is pending in a role with these roles outside.
  pub record IsHeld (n : ℕ) (scopes : List Open) (lines : List What) (scope : ℕ) (u : Unwinding) (roles : List Role) : Type 0 where
    pub same : u.number ≡ n
    pub here : IsInFinally n scope lines
    pub bound : ℕ
    pub open_ : AreOpen s bound (outside scope scopes) roles
    pub wide : ℕ
    pub before : Behind s wide scopes roles
    pub others : AreOther n roles

  abbrev pub IsHeldIn : ℕ → List Open → List What → Role → List Role → Type 0
  IsHeldIn n scopes lines (Finishing scope (Some u)) roles = IsHeld n scopes lines scope u roles
  IsHeldIn n scopes lines _ roles = ⊥

  -- Unwinding n is pending in one of these roles.
  pub data Pends (n : ℕ) (scopes : List Open) (lines : List What) : List Role → Type 0 where
    holds : (role : Role) (roles : List Role) → IsHeldIn n scopes lines role roles → Pends n scopes lines (role ∷ roles)
    holds_outside : (role : Role) (roles : List Role) → IsOther n (pending_of role) → Pends n scopes lines roles → Pends n scopes lines (role ∷ roles)

  -- Another unwinding goes outward past the FINALLY body in which unwinding n was pending.
  pub record IsPassed (n : ℕ) (under : Option Unwinding) (roles : List Role) (scopes : List Open) (lines : List What) : Type 0 where
    pub u : Unwinding
    pub is_under : under ≡ Some u
    pub scope : ℕ
    pub here : IsInFinally n scope lines
    pub bound : ℕ
    pub before : Behind s bound (outside scope scopes) roles

  -- What has become of unwinding n, whose route is R and of which P is written: it is under way, or pending, or its whole route is
  -- written, or another passes it, or it was replaced.
  pub data Fate (n : ℕ) (R P : List Carried) (scopes : List Open) (lines : List What) : Option Unwinding → List Role → Type 0 where
    goes : (u : Unwinding) (roles : List Role) (bound : ℕ) → u.number ≡ n → Behind s bound scopes roles → AreOther n roles → Fate n R P scopes lines (Some u) roles
    pends : (under : Option Unwinding) (roles : List Role) → IsOther n under → Pends n scopes lines roles → Fate n R P scopes lines under roles
    is_whole_now : (under : Option Unwinding) (roles : List Role) → IsOther n under → AreOther n roles → R ≡ P → Fate n R P scopes lines under roles
    is_passed : (under : Option Unwinding) (roles : List Role) → IsOther n under → AreOther n roles → IsPassed n under roles scopes lines → Fate n R P scopes lines under roles
    is_replaced_now : (under : Option Unwinding) (roles : List Role) → IsOther n under → AreOther n roles → replaced_after n scopes (last_carried n lines) ≡ true → Fate n R P scopes lines under roles

-- Each unwinding takes its route (docs/laws.md, "Routes").
use Rattle.std.specs.Prelude.{◌≡◌, ℕ, ◌+◌, ◌==◌, Bool, true, false, not, ◌&&◌, ◌||◌, List, [], ◌∷◌, if◌then◌else◌, Option, Some, None}
use Rattle.std.specs.List.{list_any, list_all, filter_map}
use Rattle.std.specs.Option.{option_or, option_map}
use Rattle.thr_values.specs.declared.history.What.{What}
use Rattle.thr_values.specs.declared.history.What.TheVariants as what
use Rattle.thr_values.specs.declared.history.Entry.{Entry}
use Rattle.thr_values.specs.Exceptions.{cancel_e}
use Rattle.thr_syntax.specs.declared.tree.Script.{Script}
use Rattle.thr_remainder.specs.declared.unwinding.Cause.{Cause}
use Rattle.thr_remainder.specs.declared.unwinding.Cause.TheVariants.{Raised, Exit}
use Rattle.thr_remainder.specs.declared.unwinding.Unwinding.{Unwinding}
use Rattle.thr_laws.specs.Lines.{lines_of_thread, fits, is_end}
use Rattle.thr_laws.specs.Scopes.{Open, Stage, InFinally, outside, opened_after}
use Rattle.thr_laws.specs.Routes.{Carried, Catches, RunsFinally, Undoes, Loses, Leaves, is_same_entry, Carrying, carried, carried_by, route}

-- ---- unwindings that are made

-- An unwinding with this number and this cause is made (docs/laws.md, "Routes").
abbrev pub makes : ℕ → Cause → Option Unwinding
makes n cause = Some (record { number = n; cause = cause })

-- The unwinding that a line makes, if it makes one (docs/laws.md, "Routes").
abbrev pub made_by : What → Option Unwinding
made_by (what.Raise n x) = makes n (Raised x)
made_by (what.Reraise n x) = makes n (Raised x)
made_by (what.Deliver n line) = makes n (Raised cancel_e)
made_by (what.Exit n v) = makes n (Exit v)
made_by _ = None

-- An unwinding where it is made: the scopes open just before its line, and the thread's lines after it (docs/laws.md,
-- "Routes").
pub record Making : Type 0 where
  pub number : ℕ
  pub cause : Cause
  pub scopes : List Open
  pub after : List What

-- These unwindings with one more in front, where the line makes one (docs/laws.md, "Routes").
abbrev pub with_making : Option Unwinding → List Open → List What → List Making → List Making
with_making None scopes after makings = makings
with_making (Some u) scopes after makings = record { number = u.number; cause = u.cause; scopes = scopes; after = after } ∷ makings

-- The unwindings that these lines make, where these scopes are open before them.
abbrev pub makings_from : List Open → List What → List Making
makings_from scopes [] = []
makings_from scopes (w ∷ lines) = with_making (made_by w) scopes lines (makings_from (opened_after scopes w) lines)

-- The unwindings that the lines of a thread make, in their order (docs/laws.md, "Routes").
abbrev pub makings : List What → List Making
makings lines = makings_from [] lines

-- The route of an unwinding, over the scopes open just before it was made.
abbrev pub route_of : Script → Making → List Carried
route_of s m = route s m.scopes m.cause

-- ---- numbers

-- The unwindings have this number, the next one and so on.
abbrev pub are_numbered : ℕ → List Making → Bool
are_numbered n [] = true
are_numbered n (m ∷ makings) = (m.number == n) && are_numbered (n + 1) makings

-- The numbers that a thread makes are 1, 2, 3 and so on (docs/laws.md, "Routes").
abbrev pub numbers_count_up : List What → Bool
numbers_count_up lines = are_numbered 1 (makings lines)

-- These numbers with one more in front, where an unwinding is made (docs/laws.md, "Routes").
abbrev pub with_number : List ℕ → Option Unwinding → List ℕ
with_number numbers None = numbers
with_number numbers (Some u) = u.number ∷ numbers

-- The numbers that were made before the next line.
abbrev pub numbers_after : List ℕ → What → List ℕ
numbers_after numbers w = with_number numbers (made_by w)

-- The number that is carried, if one is, is among these (docs/laws.md, "Routes").
abbrev pub is_among : List ℕ → Option Carrying → Bool
is_among numbers None = true
is_among numbers (Some c) = list_any (λ n. n == c.number) numbers

-- Only numbers that were made before are carried (docs/laws.md, "Routes").
abbrev pub only_made_are_carried : List What → Bool
only_made_are_carried lines = fits numbers_after (λ numbers w. is_among numbers (carried w)) [] lines

-- ---- carried lines along the route

-- The entries stand at the head of the route.
abbrev pub is_prefix : List Carried → List Carried → Bool
is_prefix [] route = true
is_prefix (c ∷ entries) [] = false
is_prefix (c ∷ entries) (r ∷ route) = is_same_entry c r && is_prefix entries route

-- The entries that these lines carry an unwinding to.
abbrev pub entries_of : ℕ → List What → List Carried
entries_of n lines = filter_map (carried_by n) lines

-- The lines that carry an unwinding are a prefix of its route, in the route's order (docs/laws.md, "Routes").
abbrev pub keep_to_routes : Script → List What → Bool
keep_to_routes s lines = list_all (λ m. is_prefix (entries_of m.number lines) (route_of s m)) (makings lines)

-- ---- whole routes

-- The last line that carries an unwinding, by its entry, with the lines after it.
abbrev pub last_carried : ℕ → List What → Option (Carried × List What)
last_carried n [] = None
last_carried n (w ∷ lines) = option_or (last_carried n lines) (option_map (λ c. (c, lines)) (carried_by n w))

-- The entry stands at one of these scopes, or leaves the thread.
abbrev pub is_at : List Open → Carried → Bool
is_at scopes (Catches scope line) = list_any (λ o. o.scope == scope) scopes
is_at scopes (RunsFinally scope) = list_any (λ o. o.scope == scope) scopes
is_at scopes (Undoes scope) = list_any (λ o. o.scope == scope) scopes
is_at scopes (Loses scope) = list_any (λ o. o.scope == scope) scopes
is_at scopes (Leaves v) = true

-- Another unwinding than this one is carried to one of these scopes, or out of the thread.
abbrev pub passes_by : ℕ → List Open → Option Carrying → Bool
passes_by n outer None = false
passes_by n outer (Some c) = not (c.number == n) && is_at outer c.entry

-- The line is the end of this scope's FINALLY body (docs/laws.md, "Open scopes").
abbrev pub ends_finally : ℕ → What → Bool
ends_finally scope (what.Endfin other) = other == scope
ends_finally scope _ = false

-- In these lines another unwinding passes by, before the FINALLY body of the scope ends.
abbrev pub is_left_by_another : ℕ → (scope : ℕ) → List Open → List What → Bool
is_left_by_another n scope outer [] = false
is_left_by_another n scope outer (w ∷ lines) =
    passes_by n outer (carried w) || (not (ends_finally scope w) && is_left_by_another n scope outer lines)

-- The unwinding began a FINALLY body last, and another then left that body (docs/laws.md, "Routes").
abbrev pub replaced_at : ℕ → List Open → Carried → List What → Bool
replaced_at n scopes (RunsFinally scope) lines = is_left_by_another n scope (outside scope scopes) lines
replaced_at n scopes _ lines = false

-- The same of the last line that carries the unwinding, if there is one (docs/laws.md, "Routes").
abbrev pub replaced_after : ℕ → List Open → Option (Carried × List What) → Bool
replaced_after n scopes None = false
replaced_after n scopes (Some last) = replaced_at n scopes last.0 last.1

-- The unwinding was replaced: its last line began a FINALLY body, and another unwinding left that body for a scope outside it,
-- or left the thread, before the body ended (docs/laws.md, "Routes").
abbrev pub is_replaced : Making → Bool
is_replaced m = replaced_after m.number m.scopes (last_carried m.number m.after)

-- The entries are the whole route.
abbrev pub is_whole : List Carried → List Carried → Bool
is_whole entries route = is_prefix entries route && is_prefix route entries

-- An unwinding takes its whole route, or it was replaced, or the thread has no `end` line (docs/laws.md, "Routes").
abbrev pub take_whole_routes : Script → List What → Bool
take_whole_routes s lines =
    list_all (λ m. is_whole (entries_of m.number lines) (route_of s m) || is_replaced m) (makings lines) || not (list_any is_end lines)

-- ---- no line between

-- The line is `pause` (docs/journal.md, "The lines").
abbrev pub is_pause : What → Bool
is_pause what.Pause = true
is_pause _ = false

-- The entries of a route behind this one.
abbrev pub behind : Carried → List Carried → List Carried
behind c [] = []
behind c (r ∷ route) = if is_same_entry c r then route else behind c route

-- There is an entry, and it is the first of this route (docs/laws.md, "Routes").
abbrev pub is_head : List Carried → Option Carried → Bool
is_head [] entry = false
is_head (r ∷ route) None = false
is_head (r ∷ route) (Some c) = is_same_entry r c

-- The next line other than `pause`, if there is one, carries the unwinding to the head of this route.
abbrev pub comes_next : ℕ → List Carried → List What → Bool
comes_next n route [] = true
comes_next n route (w ∷ lines) = if is_pause w then comes_next n route lines else is_head route (carried_by n w)

-- The scope is in a FINALLY body that runs for this unwinding (docs/laws.md, "Open scopes").
abbrev pub runs_for : ℕ → Stage → Bool
runs_for n (InFinally m) = m == n
runs_for n _ = false

-- The scope is in its FINALLY body, which runs for this unwinding.
abbrev pub is_finally_for : ℕ → ℕ → Open → Bool
is_finally_for n scope o = (o.scope == scope) && runs_for n o.stage

-- The entry with which an unwinding is done by this line, where these scopes are open: `undone` for it, or the end of a
-- FINALLY body that ran for it.
abbrev pub goes_on_from : ℕ → List Open → What → Option Carried
goes_on_from n scopes (what.Undone scope m) = if m == n then Some (Undoes scope) else None
goes_on_from n scopes (what.Endfin scope) = if list_any (is_finally_for n scope) scopes then Some (RunsFinally scope) else None
goes_on_from n scopes _ = None

-- Where an entry is there, what is behind it in the route comes next (docs/laws.md, "Routes").
abbrev pub goes_behind : ℕ → List Carried → Option Carried → List What → Bool
goes_behind n route None lines = true
goes_behind n route (Some c) lines = comes_next n (behind c route) lines

-- Where a line is done with an entry of the route, the next entry comes next.
abbrev pub goes_on : ℕ → List Carried → List Open → List What → Bool
goes_on n route scopes [] = true
goes_on n route scopes (w ∷ lines) =
    goes_behind n route (goes_on_from n scopes w) lines && goes_on n route (opened_after scopes w) lines

-- After the line that makes an unwinding, after `undone` for it, and after the end of a FINALLY body that ran for it, the
-- next line other than `pause` is the next entry of its route (docs/laws.md, "Routes").
abbrev pub go_straight_on : Script → List What → Bool
go_straight_on s lines =
    list_all (λ m. comes_next m.number (route_of s m) m.after && goes_on m.number (route_of s m) m.scopes m.after) (makings lines)

-- ---- the law

-- Each unwinding of each thread takes its route through the open scopes (docs/laws.md, "Routes").
pub record Routed (s : Script) (entries : List Entry) : Type 0 where
  pub numbered : (t : ℕ) → numbers_count_up (lines_of_thread t entries) ≡ true
  pub made : (t : ℕ) → only_made_are_carried (lines_of_thread t entries) ≡ true
  pub kept : (t : ℕ) → keep_to_routes s (lines_of_thread t entries) ≡ true
  pub whole : (t : ℕ) → take_whole_routes s (lines_of_thread t entries) ≡ true
  pub straight : (t : ℕ) → go_straight_on s (lines_of_thread t entries) ≡ true

-- The FINALLY bodies that an unwinding begins (docs/laws.md, "What a port can rely on").
use Rattle.std.specs.Prelude.{ℕ, ◌==◌, Bool, true, false, List, [], ◌∷◌, map, if◌then◌else◌, Option, Some, None}
use Rattle.std.specs.List.{list_all}
use Rattle.thr_values.specs.declared.history.What.{What}
use Rattle.thr_laws.specs.Scopes.{Open}
use Rattle.thr_laws.specs.Routes.{Carried, RunsFinally}
use Rattle.thr_laws.specs.Routed.{Making, makings, entries_of}

-- The scope whose FINALLY body runs at an entry of a route, if one runs there.
abbrev pub final_in : Carried → Option ℕ
final_in (RunsFinally scope) = Some scope
final_in _ = None

-- These scopes with one more in front, if one is there.
abbrev pub with_final : Option ℕ → List ℕ → List ℕ
with_final None scopes = scopes
with_final (Some scope) scopes = scope ∷ scopes

-- The scopes whose FINALLY bodies run at these entries (docs/laws.md, "What a port can rely on").
abbrev pub finals_in : List Carried → List ℕ
finals_in [] = []
finals_in (c ∷ entries) = with_final (final_in c) (finals_in entries)

-- The scopes whose FINALLY bodies these lines begin for an unwinding, in their order (docs/laws.md, "What a port can rely on").
abbrev pub begun_for : ℕ → List What → List ℕ
begun_for n lines = finals_in (entries_of n lines)

-- The first numbers stand among the others in the same order, each at a place of its own.
abbrev pub is_within : List ℕ → List ℕ → Bool
is_within [] others = true
is_within (n ∷ numbers) [] = false
is_within (n ∷ numbers) (o ∷ others) = if n == o then is_within numbers others else is_within (n ∷ numbers) others

-- The numbers of open scopes, the innermost first.
abbrev pub numbers_of : List Open → List ℕ
numbers_of scopes = map (λ (o : Open). o.scope) scopes

-- The FINALLY bodies that are begun for an unwinding are of scopes that are open where it is made, inner before outer, and of each
-- once (docs/laws.md, "What a port can rely on").
abbrev pub begin_inner_first : List What → Bool
begin_inner_first lines = list_all (λ (m : Making). is_within (begun_for m.number lines) (numbers_of m.scopes)) (makings lines)

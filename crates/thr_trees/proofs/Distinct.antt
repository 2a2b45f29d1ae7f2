-- The names of a script that keeps the rules are distinct, and so are the parameter and the locals of each routine.
use Rattle.std.proofs.Common.{◌≡◌, ℕ, zero, suc, ◌<◌, Bool, true, false, List, [], ◌∷◌, ◌++◌, map, length, slice_get, Some, refl, sym, ap, subst, append_assoc, arith}
use Rattle.std.specs.Prelude.{◌&&◌, ◌||◌}
use Rattle.std.specs.List.{list_all, list_any}
use Rattle.std.specs.Str.{bytes_eq}
use Rattle.std.proofs.lemmas.List.{append-nil}
use Rattle.std.proofs.lemmas.Slice.Eq.{bytes_eq-Decides}
use Rattle.thr_values.specs.declared.number.NameId.{NameId}
use Rattle.thr_syntax.specs.declared.form.Form.{Form}
use Rattle.thr_syntax.specs.declared.form.Form.TheVariants as form
use Rattle.thr_syntax.specs.declared.tree.Item.{Item}
use Rattle.thr_syntax.specs.declared.tree.Item.TheVariants as item
use Rattle.thr_syntax.specs.declared.tree.Routine.{Routine}
use Rattle.thr_syntax.specs.declared.tree.Script.{Script}
use Rattle.thr_syntax.specs.declared.tree.Stmt.{Stmt}
use Rattle.thr_syntax.specs.Lines.{joined, body_lines, item_lines}
use Rattle.thr_syntax.specs.Spelling.{name_at}
use Rattle.thr_text.specs.Reading.{Formed, own_lines}
use Rattle.thr_text.specs.Tables.{Entry, entries_of, is_among}
use Rattle.thr_blocks.specs.Trees.{item_nests}
use Rattle.thr_resolving.specs.Resolving.{scope_of}
use Rattle.thr_resolving.specs.Scopes.{IsScope, AreDistinct}
use Rattle.thr_trees.specs.Distinct.{AllDistinct, Apart, AreOwnNames}
use Rattle.thr_trees.proofs.BodyLines.{AreInner, first_inner, inner_stays, body_inner}
use Rattle.thr_trees.proofs.KindsAgree.{formed_nest}
use Rattle.thr_trees.proofs.LineFacts.{AreFine, lines_fine}
use Rattle.thr_trees.proofs.Places.{same_place}

pub all_distinct : (names : List (List ℕ)) → AreDistinct names → AllDistinct names
all_distinct names h i j low high same = same_place names i j h low high same

-- ---- locals that are no names

among_at : (names : List (List ℕ)) (i : ℕ) → i < length names → is_among names (name_at names i) ≡ true
among_at [] i lt = absurd (omega (arith, lt))
among_at (n ∷ names) zero lt = ap (λ (b : Bool). b || is_among names n) ((bytes_eq-Decides n n).1 refl)
among_at (n ∷ names) (suc i) lt = or_true (bytes_eq (name_at names i) n) (is_among names (name_at names i)) (among_at names i (omega (arith, lt)))
  where
    or_true : (a b : Bool) → b ≡ true → (a || b) ≡ true
    or_true true b e = refl
    or_true false b e = e

none_at : (test : List ℕ → Bool) (names : List (List ℕ)) (i : ℕ) → i < length names → list_any test names ≡ false → test (name_at names i) ≡ false
none_at test [] i lt e = absurd (omega (arith, lt))
none_at test (n ∷ names) zero lt e = first (test n) (list_any test names) e
  where
    first : (a b : Bool) → (a || b) ≡ false → a ≡ false
    first true b e = absurd cc
    first false b e = refl
none_at test (n ∷ names) (suc i) lt e = none_at test names i (omega (arith, lt)) (second (test n) (list_any test names) e)
  where
    second : (a b : Bool) → (a || b) ≡ false → b ≡ false
    second true b e = absurd cc
    second false b e = e

are_apart : (names locals : List (List ℕ)) → list_any (is_among names) locals ≡ false → Apart names locals
are_apart names locals none i j low high same =
    let there : is_among names (name_at locals j) ≡ true = subst (λ (n : List ℕ). is_among names n ≡ true) same (among_at names i low) in
    let not_there : is_among names (name_at locals j) ≡ false = none_at (is_among names) locals j high none in
    absurd cc

own_names : (names locals : List (List ℕ)) → IsScope (scope_of names locals) → AreOwnNames names locals
own_names names locals h = record { distinct = all_distinct locals h.distinct_locals; apart = are_apart names locals h.apart }

-- ---- each routine

-- Below the lines of a body the locals are as they were.
passed : (entries : List Entry) (names locals : List (List ℕ)) (fs more : List Form) → AreInner fs → AreFine entries names locals (fs ++ more) → AreFine entries names locals more
passed entries names locals [] more inner h = h
passed entries names locals (f ∷ fs) more inner h =
    let p = first_inner f fs inner in
    passed entries names locals fs more p.1 (subst (λ (k : List (List ℕ)). AreFine entries names k (fs ++ more)) (inner_stays locals f p.0) h.1)

abbrev local_line : List ℕ → Form
local_line name = form.Local name

grown : (entries : List Entry) (names locals more : List (List ℕ)) (fs : List Form) → AreFine entries names locals (map local_line more ++ fs) → AreFine entries names (locals ++ more) fs
grown entries names locals [] fs h = subst (λ (k : List (List ℕ)). AreFine entries names k fs) (sym (append-nil locals)) h
grown entries names locals (name ∷ more) fs h = subst (λ (k : List (List ℕ)). AreFine entries names k fs) (append_assoc locals (name ∷ []) more) (grown entries names (locals ++ name ∷ []) more fs h.1)

-- The line that closes a routine stands below all its locals.
routine_own : (entries : List Entry) (names before : List (List ℕ)) (name : NameId) (locals : List (List ℕ)) (body : List Stmt) (rest : List Form)
    → item_nests (item.Routine (record { name = name; locals = locals; body = body })) ≡ true
    → AreFine entries names before (item_lines (item.Routine (record { name = name; locals = locals; body = body })) ++ rest) → AreOwnNames names locals × AreFine entries names locals rest
routine_own entries names before name [] body rest nests h = absurd cc
routine_own entries names before name (parameter ∷ locals) body rest nests h =
    let all : List (List ℕ) = parameter ∷ locals in
    let inside : List Form = body_lines body ++ form.End ∷ [] in
    let below = grown entries names (parameter ∷ []) locals (inside ++ rest) (subst (AreFine entries names (parameter ∷ [])) (append_assoc (map local_line locals) inside rest) h.1) in
    let end = passed entries names all (body_lines body) (form.End ∷ rest) (body_inner body) (subst (AreFine entries names all) (append_assoc (body_lines body) (form.End ∷ []) rest) below) in
    (own_names names all end.0.scope, end.1)

-- What a declaration says of its own names, and what comes after it.
abbrev OwnAt : List (List ℕ) → Item → Type 0
OwnAt names (item.Routine r) = AreOwnNames names r.locals
OwnAt names i = Unit {0}

item_own : (entries : List Entry) (names before : List (List ℕ)) (i : Item) (rest : List Form) → item_nests i ≡ true → AreFine entries names before (item_lines i ++ rest)
    → OwnAt names i × ((after : List (List ℕ)) × AreFine entries names after rest)
item_own entries names before (item.Routine r) rest nests h = let k = routine_own entries names before r.name r.locals r.body rest nests h in (k.0, (r.locals, k.1))
item_own entries names before (item.Interface i) rest nests h = (tt, (before, h.1))
item_own entries names before (item.Limit n) rest nests h = (tt, (before, h.1))
item_own entries names before (item.Shared name n) rest nests h = (tt, (before, h.1))
item_own entries names before (item.Exception name) rest nests h = (tt, (before, h.1))
item_own entries names before (item.Status name n) rest nests h = (tt, (before, h.1))
item_own entries names before (item.Mutex name) rest nests h = (tt, (before, h.1))
item_own entries names before (item.MutexAttr name) rest nests h = (tt, (before, h.1))
item_own entries names before (item.Cond name) rest nests h = (tt, (before, h.1))
item_own entries names before (item.Attr name) rest nests h = (tt, (before, h.1))
item_own entries names before (item.Key name) rest nests h = (tt, (before, h.1))
item_own entries names before (item.Once name) rest nests h = (tt, (before, h.1))
item_own entries names before (item.Pipe name n) rest nests h = (tt, (before, h.1))

both : (a b : Bool) → (a && b) ≡ true → (a ≡ true) × (b ≡ true)
both true b e = (refl, e)
both false b e = absurd cc

routine_at : (entries : List Entry) (names before : List (List ℕ)) (items : List Item) (place : ℕ) (r : Routine) → list_all item_nests items ≡ true
    → AreFine entries names before (joined (map item_lines items)) → slice_get items place ≡ Some (item.Routine r) → AreOwnNames names r.locals
routine_at entries names before [] place r nests h is = absurd cc
routine_at entries names before (i ∷ items) zero r nests h is =
    let n = both (item_nests i) (list_all item_nests items) nests in
    let same : i ≡ item.Routine r = cc in
    subst (OwnAt names) same (item_own entries names before i (joined (map item_lines items)) n.0 h).0
routine_at entries names before (i ∷ items) (suc place) r nests h is =
    let n = both (item_nests i) (list_all item_nests items) nests in
    let k = item_own entries names before i (joined (map item_lines items)) n.0 h in
    routine_at entries names k.1.0 items place r n.1 k.1.1 is

pub routines_own : (s : Script) → Formed s → (place : ℕ) (r : Routine) → slice_get s.items place ≡ Some (item.Routine r) → AreOwnNames s.names r.locals
routines_own s h place r is = routine_at (entries_of (own_lines s)) s.names [] s.items place r (formed_nest s h) (lines_fine s h) is

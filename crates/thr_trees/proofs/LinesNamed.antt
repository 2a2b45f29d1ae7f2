-- Each name in a line of a script that keeps the rules is of the kind that its place asks, and each local is one of its routine.
use Rattle.std.proofs.Common.{◌≡◌, ℕ, zero, suc, ◌+◌, ◌-◌, ◌<◌, ◌≤◌, Bool, true, false, List, [], ◌∷◌, ◌++◌, map, length, slice_get, Option, Some, None, refl, sym, ap, subst, ◌∙◌, append_assoc, arith}
use Rattle.std.specs.Prelude.{◌&&◌, nat_lt, if◌then◌else◌}
use Rattle.std.specs.List.{list_all}
use Rattle.std.proofs.lemmas.Bool.Decides.{nat_tests}
use Rattle.std.proofs.lemmas.List.{append-nil}
use Rattle.thr_values.specs.declared.number.NameId.{NameId}
use Rattle.thr_syntax.specs.declared.expr.Var.{Var}
use Rattle.thr_syntax.specs.declared.expr.Var.TheVariants as variable
use Rattle.thr_syntax.specs.declared.expr.ExcRef.{ExcRef}
use Rattle.thr_syntax.specs.declared.expr.ExcRef.TheVariants.{Named, This}
use Rattle.thr_syntax.specs.declared.form.Form.{Form}
use Rattle.thr_syntax.specs.declared.form.Form.TheVariants as form
use Rattle.thr_syntax.specs.declared.tree.Item.{Item}
use Rattle.thr_syntax.specs.declared.tree.Item.TheVariants as item
use Rattle.thr_syntax.specs.declared.tree.Script.{Script}
use Rattle.thr_syntax.specs.declared.tree.Stmt.{Stmt}
use Rattle.thr_syntax.specs.Canon.{locals_in}
use Rattle.thr_syntax.specs.Lines.{joined, body_lines, item_lines, lines_of}
use Rattle.thr_text.specs.declared.object.Object.TheVariants as object
use Rattle.thr_text.specs.Reading.{Formed, own_lines}
use Rattle.thr_text.specs.Tables.{entries_of}
use Rattle.thr_blocks.specs.Trees.{item_nests}
use Rattle.thr_reading.specs.Running.{locals_after_form}
use Rattle.thr_reading.proofs.OneScript.{tree_lines}
use Rattle.thr_trees.specs.Kinds.{is_name_of}
use Rattle.thr_remainder.specs.Standing.{StandAt}
use Rattle.thr_trees.specs.Names.{Asked, asked_if, declared_in, declared_among, named_in, variables_in, exceptions_in, AreOfKinds, IsVariable, AreVariables, IsException, AreExceptions, IsNamed, AreNamed, locals_from, locals_at}
use Rattle.thr_trees.proofs.BodyLines.{AreInner, first_inner, inner_stays, closed_inner}
use Rattle.thr_trees.proofs.Declarations.{declared_on, items_declare}
use Rattle.thr_trees.proofs.KindsAgree.{HasNames, has_names, formed_nest, known_is_named, by_place, declared_place, item_found}
use Rattle.thr_trees.proofs.LineFacts.{AreFine, lines_fine}
use Rattle.thr_trees.proofs.NamedLines.{line_known}
use Rattle.thr_trees.proofs.Places.{got_left, get_right, got_right}
use Rattle.thr_trees.proofs.SlotFacts.{AreKnown, IsKnownVariable, AreKnownVariables, IsKnownException, AreKnownExceptions}

-- ---- what is known is named

kinds_known : (s : Script) → HasNames s → (xs : List Asked) → AreKnown (entries_of (own_lines s)) s.names xs → AreOfKinds s xs
kinds_known s names [] h = tt
kinds_known s names (a ∷ xs) h = (known_is_named s names a.1 a.0 h.0, kinds_known s names xs h.1)

variable_known : (s : Script) → HasNames s → (locals : List (List ℕ)) (v : Var) → IsKnownVariable (entries_of (own_lines s)) s.names locals v → IsVariable s (length locals) v
variable_known s names locals (variable.Local place) h = h
variable_known s names locals (variable.Shared name) h = known_is_named s names object.Shared name h

variables_known : (s : Script) → HasNames s → (locals : List (List ℕ)) (vs : List Var) → AreKnownVariables (entries_of (own_lines s)) s.names locals vs → AreVariables s (length locals) vs
variables_known s names locals [] h = tt
variables_known s names locals (v ∷ vs) h = (variable_known s names locals v h.0, variables_known s names locals vs h.1)

exception_known : (s : Script) → HasNames s → (x : ExcRef) → IsKnownException (entries_of (own_lines s)) s.names x → IsException s x
exception_known s names This h = tt
exception_known s names (Named name) h = known_is_named s names object.Exception name h

exceptions_known : (s : Script) → HasNames s → (xs : List ExcRef) → AreKnownExceptions (entries_of (own_lines s)) s.names xs → AreExceptions s xs
exceptions_known s names [] h = tt
exceptions_known s names (x ∷ xs) h = (exception_known s names x h.0, exceptions_known s names xs h.1)

-- ---- what declarations declare

declared_from : (s : Script) → HasNames s → (rest : List Asked) → ((q : ℕ) (a : Asked) → slice_get rest q ≡ Some a → is_name_of s a.1 a.0 ≡ true) → AreOfKinds s rest
declared_from s names [] all = tt
declared_from s names (a ∷ rest) all = (all 0 a refl, declared_from s names rest (λ q b is. all (suc q) b is))

behind_ten : (n q : ℕ) → n ≡ 10 + q → nat_lt n 10 ≡ false
behind_ten n q e = grind (arith, nat_tests)

declared_high : (s : Script) → HasNames s → (q : ℕ) (a : Asked) → slice_get (declared_among s.items) q ≡ Some a → is_name_of s a.1 a.0 ≡ true
declared_high s names q a is =
    let place : a.0.0 ≡ 10 + q = declared_place s names q a is in
    let high : nat_lt a.0.0 10 ≡ false = behind_ten a.0.0 q place in
    ap (λ (b : Bool). by_place b s a.1 a.0) high ∙ item_found s.items q a a.0 a.1 is refl refl

pub declared_kinds : (s : Script) → Formed s → AreOfKinds s (declared_on (tree_lines s))
declared_kinds s h =
    let names = has_names s h in
    subst (AreOfKinds s) (sym (items_declare s.items (formed_nest s h))) (declared_from s names (declared_among s.items) (declared_high s names))

kinds_parts : (s : Script) (xs ys : List Asked) → AreOfKinds s (xs ++ ys) → AreOfKinds s xs × AreOfKinds s ys
kinds_parts s [] ys h = (tt, h)
kinds_parts s (x ∷ xs) ys h = let p = kinds_parts s xs ys h.1 in ((h.0, p.0), p.1)

-- ---- lines below the locals that are in force

-- The names in each line are of their kinds, and its locals are among those in force at it.
abbrev AreRunning : Script → List (List ℕ) → List Form → Type 0
AreRunning s locals [] = Unit {0}
AreRunning s locals (f ∷ fs) = IsNamed s (length (locals_after_form locals f)) f × AreRunning s (locals_after_form locals f) fs

running : (s : Script) → HasNames s → (locals : List (List ℕ)) (fs : List Form) → AreFine (entries_of (own_lines s)) s.names locals fs → AreOfKinds s (declared_on fs) → AreRunning s locals fs
running s names locals [] h d = tt
running s names locals (f ∷ fs) h d =
    let below : List (List ℕ) = locals_after_form locals f in
    let p = kinds_parts s (declared_in f) (declared_on fs) d in
    let k = line_known (entries_of (own_lines s)) s.names below f h.0 in (
      record {
        declared = p.0;
        named = kinds_known s names (named_in f) k.named;
        variables = variables_known s names below (variables_in f) k.read;
        exceptions = exceptions_known s names (exceptions_in f) k.excepted;
      },
      running s names below fs h.1 p.1,
    )

lines_running : (s : Script) → Formed s → AreRunning s [] (tree_lines s)
lines_running s h = running s (has_names s h) [] (tree_lines s) (lines_fine s h) (declared_kinds s h)

-- ---- lines with all the locals of their routine

abbrev local_line : List ℕ → Form
local_line name = form.Local name

-- Lines of a body, below all locals of the routine.
inner_named : (s : Script) (locals : List (List ℕ)) (fs more : List Form) → AreInner fs → AreRunning s locals (fs ++ more) → AreNamed s (length locals) fs × AreRunning s locals more
inner_named s locals [] more inner h = (tt, h)
inner_named s locals (f ∷ fs) more inner h =
    let p = first_inner f fs inner in
    let same : locals_after_form locals f ≡ locals = inner_stays locals f p.0 in
    let rest = inner_named s locals fs more p.1 (subst (λ (k : List (List ℕ)). AreRunning s k (fs ++ more)) same h.1) in
    ((subst (λ (k : List (List ℕ)). IsNamed s (length k) f) same h.0, rest.0), rest.1)

-- A line in which no variable stands, whatever locals there are.
no_variable : (s : Script) (m n : ℕ) (f : Form) → variables_in f ≡ [] → IsNamed s m f → IsNamed s n f
no_variable s m n f none h = record { declared = h.declared; named = h.named; variables = subst (AreVariables s n) (sym none) tt; exceptions = h.exceptions }

named_append : (s : Script) (n : ℕ) (xs ys : List Form) → AreNamed s n xs → AreNamed s n ys → AreNamed s n (xs ++ ys)
named_append s n [] ys h k = k
named_append s n (x ∷ xs) ys h k = (h.0, named_append s n xs ys h.1 k)

locals_named : (s : Script) (n : ℕ) (locals more : List (List ℕ)) (fs : List Form) → AreRunning s locals (map local_line more ++ fs) → AreNamed s n (map local_line more) × AreRunning s (locals ++ more) fs
locals_named s n locals [] fs h = (tt, subst (λ (k : List (List ℕ)). AreRunning s k fs) (sym (append-nil locals)) h)
locals_named s n locals (name ∷ more) fs h =
    let rest = locals_named s n (locals ++ name ∷ []) more fs h.1 in (
      (no_variable s (length (locals ++ name ∷ [])) n (form.Local name) refl h.0, rest.0),
      subst (λ (k : List (List ℕ)). AreRunning s k fs) (append_assoc locals (name ∷ []) more) rest.1,
    )

-- The lines of a declaration are named, and those after it below some locals.
abbrev Passes : Script → Item → Type 0
Passes s i = (before : List (List ℕ)) (more : List Form) → AreRunning s before (item_lines i ++ more) → AreNamed s (length (locals_in i)) (item_lines i) × ((after : List (List ℕ)) × AreRunning s after more)

routine_passes : (s : Script) (name : NameId) (locals : List (List ℕ)) (body : List Stmt) → item_nests (item.Routine (record { name = name; locals = locals; body = body })) ≡ true
    → Passes s (item.Routine (record { name = name; locals = locals; body = body }))
routine_passes s name [] body nests before more h = absurd cc
routine_passes s name (parameter ∷ locals) body nests before more h =
    let all : List (List ℕ) = parameter ∷ locals in
    let n : ℕ = length all in
    let inside : List Form = body_lines body ++ form.End ∷ [] in
    let head = locals_named s n (parameter ∷ []) locals (inside ++ more) (subst (AreRunning s (parameter ∷ [])) (append_assoc (map local_line locals) inside more) h.1) in
    let lines = inner_named s all inside more (closed_inner body) head.1 in
    ((no_variable s (length (parameter ∷ [])) n (form.Routine name parameter) refl h.0, named_append s n (map local_line locals) inside head.0 lines.0), (all, lines.1))

item_passes : (s : Script) (i : Item) → item_nests i ≡ true → Passes s i
item_passes s (item.Routine r) nests before more h = routine_passes s r.name r.locals r.body nests before more h
item_passes s (item.Interface i) nests before more h = ((no_variable s _ 0 (form.Interface i) refl h.0, tt), (before, h.1))
item_passes s (item.Limit n) nests before more h = ((no_variable s _ 0 (form.Limit n) refl h.0, tt), (before, h.1))
item_passes s (item.Shared name n) nests before more h = ((no_variable s _ 0 (form.Shared name n) refl h.0, tt), (before, h.1))
item_passes s (item.Exception name) nests before more h = ((no_variable s _ 0 (form.Exception name) refl h.0, tt), (before, h.1))
item_passes s (item.Status name n) nests before more h = ((no_variable s _ 0 (form.Status name n) refl h.0, tt), (before, h.1))
item_passes s (item.Mutex name) nests before more h = ((no_variable s _ 0 (form.Mutex name) refl h.0, tt), (before, h.1))
item_passes s (item.MutexAttr name) nests before more h = ((no_variable s _ 0 (form.MutexAttr name) refl h.0, tt), (before, h.1))
item_passes s (item.Cond name) nests before more h = ((no_variable s _ 0 (form.Cond name) refl h.0, tt), (before, h.1))
item_passes s (item.Attr name) nests before more h = ((no_variable s _ 0 (form.Attr name) refl h.0, tt), (before, h.1))
item_passes s (item.Key name) nests before more h = ((no_variable s _ 0 (form.Key name) refl h.0, tt), (before, h.1))
item_passes s (item.Once name) nests before more h = ((no_variable s _ 0 (form.Once name) refl h.0, tt), (before, h.1))
item_passes s (item.Pipe name n) nests before more h = ((no_variable s _ 0 (form.Pipe name n) refl h.0, tt), (before, h.1))

-- The lines of each declaration are named.
abbrev pub AllNamed : Script → List Item → Type 0
AllNamed s [] = Unit {0}
AllNamed s (i ∷ items) = AreNamed s (length (locals_in i)) (item_lines i) × AllNamed s items

both : (a b : Bool) → (a && b) ≡ true → (a ≡ true) × (b ≡ true)
both true b e = (refl, e)
both false b e = absurd cc

all_named : (s : Script) (before : List (List ℕ)) (items : List Item) → list_all item_nests items ≡ true → AreRunning s before (joined (map item_lines items)) → AllNamed s items
all_named s before [] nests h = tt
all_named s before (i ∷ items) nests h =
    let n = both (item_nests i) (list_all item_nests items) nests in
    let p = item_passes s i n.0 before (joined (map item_lines items)) h in
    (p.0, all_named s p.1.0 items n.1 p.1.1)

pub items_named : (s : Script) → Formed s → AllNamed s s.items
items_named s h = all_named s [] s.items (formed_nest s h) (lines_running s h)

pub item_named : (s : Script) (items : List Item) (j : ℕ) (i : Item) → AllNamed s items → slice_get items j ≡ Some i → AreNamed s (length (locals_in i)) (item_lines i)
item_named s [] j i h is = absurd cc
item_named s (k ∷ items) zero i h is = let same : k ≡ i = cc in subst (λ (x : Item). AreNamed s (length (locals_in x)) (item_lines x)) same h.0
item_named s (k ∷ items) (suc j) i h is = item_named s items j i h.1 is

-- ---- the line at a place

line_named : (s : Script) (n : ℕ) (fs : List Form) (k : ℕ) (f : Form) → AreNamed s n fs → slice_get fs k ≡ Some f → IsNamed s n f
line_named s n [] k f h is = absurd cc
line_named s n (x ∷ fs) zero f h is = let same : x ≡ f = cc in subst (IsNamed s n) same h.0
line_named s n (x ∷ fs) (suc k) f h is = line_named s n fs k f h.1 is

below : (k n : ℕ) → nat_lt k n ≡ true → k < n
below k n e = grind (arith, nat_tests)

past : (k n : ℕ) → nat_lt k n ≡ false → n ≤ k
past k n e = grind (arith, nat_tests)

less_by : (k n p : ℕ) → k ≡ n + p → p ≡ k - n
less_by k n p e = omega (arith, e)

abbrev locals_by : Bool → Item → List Item → ℕ → ℕ
locals_by b i items k = if b then length (locals_in i) else locals_from items (k - length (item_lines i))

-- The line stands in the first of these declarations, or in a later one.
line_by : (s : Script) (i : Item) (items : List Item) (k : ℕ) (f : Form) (b : Bool) → nat_lt k (length (item_lines i)) ≡ b → AreNamed s (length (locals_in i)) (item_lines i)
    → slice_get (item_lines i ++ joined (map item_lines items)) k ≡ Some f → ((p : ℕ) → slice_get (joined (map item_lines items)) p ≡ Some f → IsNamed s (locals_from items p) f)
    → IsNamed s (locals_from (i ∷ items) k) f
line_by s i items k f true low h is later =
    subst (λ (b : Bool). IsNamed s (locals_by b i items k) f) (sym low)
    (line_named s (length (locals_in i)) (item_lines i) k f h (got_left (item_lines i) (joined (map item_lines items)) k f (below k (length (item_lines i)) low) is))
line_by s i items k f false high h is later =
    let r = got_right (item_lines i) (joined (map item_lines items)) k f (past k (length (item_lines i)) high) is in
    let place : r.place ≡ k - length (item_lines i) = less_by k (length (item_lines i)) r.place r.is in
    subst (λ (b : Bool). IsNamed s (locals_by b i items k) f) (sym high) (subst (λ (p : ℕ). IsNamed s (locals_from items p) f) place (later r.place r.at))

line_from : (s : Script) (items : List Item) (k : ℕ) (f : Form) → AllNamed s items → slice_get (joined (map item_lines items)) k ≡ Some f → IsNamed s (locals_from items k) f
line_from s [] k f h is = absurd cc
line_from s (i ∷ items) k f h is = line_by s i items k f (nat_lt k (length (item_lines i))) refl h.0 is (λ p at. line_from s items p f h.1 at)

header_named : (s : Script) (n : ℕ) → IsNamed s n form.Header
header_named s n = record { declared = tt; named = tt; variables = tt; exceptions = tt }

pub line_is_named : (s : Script) → Formed s → (k : ℕ) (f : Form) → slice_get (lines_of s) k ≡ Some f → IsNamed s (locals_at s k) f
line_is_named s h zero f is = let same : form.Header ≡ f = cc in subst (IsNamed s 0) same (header_named s 0)
line_is_named s h (suc k) f is = line_from s s.items k f (items_named s h) is

-- The routine of a thread that is created, behind the attributes, which may be absent.
pub created_kind : (s : Script) (attr : Option NameId) (name : NameId) → AreOfKinds s (asked_if object.Attr attr ++ (name, object.Routine) ∷ []) → is_name_of s object.Routine name ≡ true
created_kind s None name h = h.0
created_kind s (Some attr) name h = h.1.0

one_less : (line n : ℕ) → line ≡ n + 1 → line - 1 ≡ n + 0
one_less line n e = omega (arith, e)

-- The first of some lines that stand at a line stands at its place.
stands_at : (text : List Form) (line : ℕ) (f : Form) (more : List Form) → StandAt text line (f ∷ more) → slice_get text (line - 1) ≡ Some f
stands_at text line f more h =
    let place : line - 1 ≡ length h.above + 0 = one_less line (length h.above) h.place in
    ap (λ (ls : List Form). slice_get ls (line - 1)) h.parts ∙ get_right h.above (f ∷ (more ++ h.below)) (line - 1) 0 f place refl

pub standing_is_named : (s : Script) → Formed s → (line : ℕ) (f : Form) (more : List Form) → StandAt (lines_of s) line (f ∷ more) → IsNamed s (locals_at s (line - 1)) f
standing_is_named s h line f more at = line_is_named s h (line - 1) f (stands_at (lines_of s) line f more at)

-- What stands in the slots of a line that keeps the rules: names of their kinds, and variables of their routine.
use Rattle.std.proofs.Common.{◌≡◌, ℕ, ℤ, ◌<◌, Bool, true, false, List, [], ◌∷◌, ◌++◌, map, length, Option, Some, None, refl, sym, ap, subst, ◌∙◌, inl, inr, append_assoc}
use Rattle.std.specs.Prelude.{◌⊎◌, ◌&&◌, ◌||◌, not, if◌then◌else◌, codes}
use Rattle.std.specs.Fmt.{signed_decimal}
use Rattle.std.specs.List.{list_any}
use Rattle.std.proofs.lemmas.List.{map-append}
use Rattle.thr_values.specs.declared.number.NameId.{NameId}
use Rattle.thr_syntax.specs.declared.expr.Var.{Var}
use Rattle.thr_syntax.specs.declared.expr.Var.TheVariants as variable
use Rattle.thr_syntax.specs.declared.expr.ExcRef.{ExcRef}
use Rattle.thr_syntax.specs.declared.expr.ExcRef.TheVariants.{Named, This}
use Rattle.thr_syntax.specs.declared.expr.Op.{Op}
use Rattle.thr_syntax.specs.declared.expr.Op.TheVariants as op
use Rattle.thr_syntax.specs.declared.expr.Expr.{Expr}
use Rattle.thr_syntax.specs.declared.expr.Expr.TheVariants as expr
use Rattle.thr_syntax.specs.Shared.{variables_step, variables_of}
use Rattle.thr_syntax.specs.Spelling.{Scope, name_at, name_of, variable_of, exception_of, operator_word, expr_step, expr_words}
use Rattle.thr_syntax.proofs.FoldLaws.{each_expr-Num, each_expr-Var, each_expr-Me, each_expr-Err, each_expr-Two, each_expr-Not, each_expr-GetStatus, each_expr-Matches}
use Rattle.thr_syntax.proofs.TreeInduction.{expr_induction}
use Rattle.thr_text.specs.declared.word.Word.{Word}
use Rattle.thr_text.specs.declared.word.Word.TheVariants.{Name, Mark}
use Rattle.thr_text.specs.declared.object.Object.{Object}
use Rattle.thr_text.specs.declared.object.Object.TheVariants as object
use Rattle.thr_text.specs.declared.head.Choice.TheVariants as choice
use Rattle.thr_text.specs.declared.head.Slot.{Slot}
use Rattle.thr_text.specs.declared.head.Slot.TheVariants as slot
use Rattle.thr_text.specs.Names.{has_name_form, is_name}
use Rattle.thr_text.specs.Lexing.{has_number_form, magnitude, word_of}
use Rattle.thr_text.specs.Slots.{is_one_of, is_a_name, binary_words, can_stand, operands_of, slots_behind, misplaced}
use Rattle.thr_text.specs.Numbers.{AreSigned, numbers_step, expr_numbers}
use Rattle.thr_text.specs.Tables.{Entry, placed, kind_in, is_among}
use Rattle.thr_text.specs.NameFaults.{Sense, Own, sense_of, sense_of_kind, is_own, is_of_kind, refers, suits, is_undeclared, is_misused}
use Rattle.thr_text.proofs.FormLaws.{binary_opens, not_opens, status_opens, match_opens}
use Rattle.thr_text.proofs.WordTables.{no_more}
use Rattle.thr_resolving.specs.declared.value.Value.{Value}
use Rattle.thr_resolving.specs.declared.value.Value.TheVariants as value
use Rattle.thr_resolving.specs.Resolving.{scope_of, variable_in}
use Rattle.thr_resolving.specs.Scopes.{IsScope}
use Rattle.thr_resolving.proofs.AgainNames.{IsKnown, known, known_word, variable_again}
use Rattle.thr_resolving.proofs.AgainPieces.{one_stands, operator_words, name_no_operator, signed_parts}
use Rattle.thr_resolving.proofs.AgainWords.{number_word}
use Rattle.thr_resolving.proofs.AgainSlots.{value_numbers, values_numbers, receiver_last}
use Rattle.thr_resolving.proofs.Parts.{words_at, words_in_slots, IsIn, AreIn}
use Rattle.thr_trees.specs.Names.{Asked, asked_if, receiver_in, exceptions_step, exceptions_of}
use Rattle.thr_trees.proofs.SameKinds.{same_is}

-- ---- names, variables and exceptions that are known

-- The name is that of an entry of this kind.
pub record IsKnownAs (entries : List Entry) (names : List (List ℕ)) (kind : Object) (id : NameId) : Type 0 where
  pub below : id.0 < length names
  pub found : kind_in entries (name_at names id.0) ≡ Some kind

abbrev pub AreKnown : List Entry → List (List ℕ) → List Asked → Type 0
AreKnown entries names [] = Unit {0}
AreKnown entries names (a ∷ more) = IsKnownAs entries names a.1 a.0 × AreKnown entries names more

abbrev pub IsKnownVariable : List Entry → List (List ℕ) → List (List ℕ) → Var → Type 0
IsKnownVariable entries names locals (variable.Local place) = place < length locals
IsKnownVariable entries names locals (variable.Shared id) = IsKnownAs entries names object.Shared id

abbrev pub AreKnownVariables : List Entry → List (List ℕ) → List (List ℕ) → List Var → Type 0
AreKnownVariables entries names locals [] = Unit {0}
AreKnownVariables entries names locals (v ∷ vs) = IsKnownVariable entries names locals v × AreKnownVariables entries names locals vs

abbrev pub IsKnownException : List Entry → List (List ℕ) → ExcRef → Type 0
IsKnownException entries names This = Unit {0}
IsKnownException entries names (Named id) = IsKnownAs entries names object.Exception id

abbrev pub AreKnownExceptions : List Entry → List (List ℕ) → List ExcRef → Type 0
AreKnownExceptions entries names [] = Unit {0}
AreKnownExceptions entries names (x ∷ xs) = IsKnownException entries names x × AreKnownExceptions entries names xs

-- ---- tests

neither : (a b : Bool) → (a || b) ≡ false → (a ≡ false) × (b ≡ false)
neither true b e = absurd cc
neither false b e = (refl, e)

both_test : (a b c : Bool) → a ≡ true → b ≡ true → ((a && b) && c) ≡ false → c ≡ false
both_test a b c e f h = rw (e, f) at h

not_false : (b : Bool) → not b ≡ false → b ≡ true
not_false true e = refl
not_false false e = absurd cc

-- ---- what a name stands for

abbrev sense_here : Bool → Option Object → Sense
sense_here own kind = if own then Own else sense_of_kind kind

kind_told : (k : Object) (own : Bool) (o : Option Object) → is_of_kind k (sense_here own o) ≡ true → o ≡ Some k
kind_told k true o h = absurd cc
kind_told k false None h = absurd cc
kind_told k false (Some l) h = ap Some (sym (same_is k l h))

shared_told : (own : Bool) (o : Option Object) → own ≡ false → (is_own (sense_here own o) || is_of_kind object.Shared (sense_here own o)) ≡ true → o ≡ Some object.Shared
shared_told true o e h = absurd cc
shared_told false None e h = absurd cc
shared_told false (Some l) e h = ap Some (sym (same_is object.Shared l h))

shared_no_local : (b : Bool) (place : ℕ) (x y : NameId) → (if b then variable.Local place else variable.Shared x) ≡ variable.Shared y → b ≡ false
shared_no_local true place x y e = absurd cc
shared_no_local false place x y e = refl

-- ---- words at their places

-- The word can stand at its place, and isn't undeclared or of another kind.
pub record Stands (entries : List Entry) (locals : List (List ℕ)) (s : Slot) (w : Word) : Type 0 where
  pub can : can_stand s w ≡ true
  pub declared : is_undeclared entries locals (s, w) ≡ false
  pub suited : is_misused entries locals (s, w) ≡ false

-- So does each of these words in these slots.
pub record Fill (entries : List Entry) (locals : List (List ℕ)) (slots : List Slot) (ws : List Word) : Type 0 where
  pub faultless : misplaced slots ws ≡ None
  pub declared : list_any (is_undeclared entries locals) (placed slots ws) ≡ false
  pub suited : list_any (is_misused entries locals) (placed slots ws) ≡ false

one_fills : (entries : List Entry) (locals : List (List ℕ)) (s : Slot) (slots : List Slot) (w : Word) (ws : List Word) → Fill entries locals (s ∷ slots) (w ∷ ws)
    → Stands entries locals s w × Fill entries locals (slots_behind s w ++ slots) ws
unfolding placed
one_fills entries locals s slots w ws h =
    let f = one_stands s slots w ws h.faultless in
    let rest = placed (slots_behind s w ++ slots) ws in
    let d = neither (is_undeclared entries locals (s, w)) (list_any (is_undeclared entries locals) rest) h.declared in
    let m = neither (is_misused entries locals (s, w)) (list_any (is_misused entries locals) rest) h.suited in
    (record { can = f.0; declared = d.0; suited = m.0 }, record { faultless = f.1; declared = d.1; suited = m.1 })

suits_told : (entries : List Entry) (locals : List (List ℕ)) (s : Slot) (text : List ℕ) → refers s ≡ true → is_name text ≡ true → is_misused entries locals (s, Name text) ≡ false
    → suits s (sense_of entries locals text) ≡ true
suits_told entries locals s text r n h = not_false (suits s (sense_of entries locals text)) (both_test (refers s) (is_name text) (not (suits s (sense_of entries locals text))) r n h)

none_opens : (w : Word) → is_one_of operator_words w ≡ false → operands_of w ≡ []
none_opens w e =
    rw (no_more binary_words operator_words refl w e, no_more (codes "not" ∷ []) operator_words refl w e, no_more (codes "exc_get_status" ∷ []) operator_words refl w e, no_more (codes "exc_matches" ∷ []) operator_words refl w e) refl

nothing_stands : (k : Object) → can_stand (slot.ObjectOr k) (Mark []) ≡ false
nothing_stands object.Routine = refl
nothing_stands _ = refl

is_binary : (o : Op) → is_one_of binary_words (word_of (operator_word o)) ≡ true
unfolding word_of has_number_form has_name_form magnitude
is_binary op.Add = refl
is_binary op.Sub = refl
is_binary _ = refl

self_opens : operands_of (word_of (codes "self")) ≡ []
unfolding word_of has_number_form has_name_form
self_opens = refl

err_opens : operands_of (word_of (codes "err")) ≡ []
unfolding word_of has_number_form has_name_form
err_opens = refl

is_not : is_one_of (codes "not" ∷ []) (word_of (codes "not")) ≡ true
unfolding word_of has_number_form has_name_form
is_not = refl

is_status : is_one_of (codes "exc_get_status" ∷ []) (word_of (codes "exc_get_status")) ≡ true
unfolding word_of has_number_form has_name_form
is_status = refl

is_match : is_one_of (codes "exc_matches" ∷ []) (word_of (codes "exc_matches")) ≡ true
unfolding word_of has_number_form has_name_form
is_match = refl

both_words : (ts us : List (List ℕ)) (rest : List Word) → map word_of (ts ++ us) ++ rest ≡ map word_of ts ++ (map word_of us ++ rest)
both_words ts us rest = ap (λ (x : List Word). x ++ rest) (map-append word_of ts us) ∙ append_assoc (map word_of ts) (map word_of us) rest

-- ---- the values in the slots

-- The names that the values in these slots hold, each with the kind of its slot.
abbrev pub names_at : Slot → Value → List Asked
names_at (slot.Object k) (value.Id id) = (id, k) ∷ []
names_at (slot.ObjectOr k) (value.Maybe o) = asked_if k o
names_at s v = []

abbrev pub variables_at : Value → List Var
variables_at (value.Variable v) = v ∷ []
variables_at (value.Receiver o) = receiver_in o
variables_at (value.Expression e) = variables_of e
variables_at v = []

abbrev pub exceptions_at : Value → List ExcRef
exceptions_at (value.Expression e) = exceptions_of e
exceptions_at v = []

abbrev pub names_in : List Slot → List Value → List Asked
names_in [] vs = []
names_in (s ∷ slots) [] = []
names_in (s ∷ slots) (v ∷ vs) = names_at s v ++ names_in slots vs

abbrev pub variables_in_all : List Value → List Var
variables_in_all [] = []
variables_in_all (v ∷ vs) = variables_at v ++ variables_in_all vs

abbrev pub exceptions_in_all : List Value → List ExcRef
exceptions_in_all [] = []
exceptions_in_all (v ∷ vs) = exceptions_at v ++ exceptions_in_all vs

-- What is known of the value in a slot, and that what comes after it fills the other slots.
record Holds (entries : List Entry) (names locals : List (List ℕ)) (s : Slot) (v : Value) (slots : List Slot) (ws : List Word) : Type 0 where
  named : AreKnown entries names (names_at s v)
  read : AreKnownVariables entries names locals (variables_at v)
  excepted : AreKnownExceptions entries names (exceptions_at v)
  more : Fill entries locals slots ws

-- What is known of all values.
pub record HoldAll (entries : List Entry) (names locals : List (List ℕ)) (slots : List Slot) (vs : List Value) : Type 0 where
  pub named : AreKnown entries names (names_in slots vs)
  pub read : AreKnownVariables entries names locals (variables_in_all vs)
  pub excepted : AreKnownExceptions entries names (exceptions_in_all vs)

-- A slot that may stay empty stands last.
last_slot : (slots : List Slot) → receiver_last (slot.Receiver ∷ slots) ≡ true → slots ≡ []
last_slot [] e = refl
last_slot (s ∷ slots) e = absurd cc

no_more_values : (vs : List Value) → AreIn [] vs → vs ≡ []
no_more_values [] h = refl
no_more_values (v ∷ vs) h = absurd h

first_and : (a b : Bool) → (a && b) ≡ true → b ≡ true
first_and true b e = e
first_and false b e = absurd cc

module _ (entries : List Entry) (names locals : List (List ℕ)) (scope : IsScope (scope_of names locals)) where
  -- The names that are in force.
  abbrev here : Scope
  here = scope_of names locals

  append_known : (xs ys : List Asked) → AreKnown entries names xs → AreKnown entries names ys → AreKnown entries names (xs ++ ys)
  append_known [] ys h k = k
  append_known (x ∷ xs) ys h k = (h.0, append_known xs ys h.1 k)

  append_variables : (xs ys : List Var) → AreKnownVariables entries names locals xs → AreKnownVariables entries names locals ys → AreKnownVariables entries names locals (xs ++ ys)
  append_variables [] ys h k = k
  append_variables (x ∷ xs) ys h k = (h.0, append_variables xs ys h.1 k)

  append_exceptions : (xs ys : List ExcRef) → AreKnownExceptions entries names xs → AreKnownExceptions entries names ys → AreKnownExceptions entries names (xs ++ ys)
  append_exceptions [] ys h k = k
  append_exceptions (x ∷ xs) ys h k = (h.0, append_exceptions xs ys h.1 k)

  -- ---- one name

  name_stands : (s : Slot) (k : Object) (id : NameId) → refers s ≡ true → ((x : Sense) → suits s x ≡ is_of_kind k x) → IsKnown names id.0 → Stands entries locals s (word_of (name_at names id.0))
      → IsKnownAs entries names k id
  name_stands s k id r same is h =
      let text : List ℕ = name_at names id.0 in
      let misused : is_misused entries locals (s, Name text) ≡ false = subst (λ (w : Word). is_misused entries locals (s, w) ≡ false) (known_word names id.0 is) h.suited in
      let suited : is_of_kind k (sense_of entries locals text) ≡ true = sym (same (sense_of entries locals text)) ∙ suits_told entries locals s text r is.name misused in
      record { below = is.below; found = kind_told k (is_among locals text) (kind_in entries text) suited }

  object_stands : (k : Object) (id : NameId) → Stands entries locals (slot.Object k) (word_of (name_of here id)) → IsKnownAs entries names k id
  object_stands k id h = name_stands (slot.Object k) k id refl (λ x. refl) (known is_a_name refl names id.0 scope.names h.can) h

  present_stands : (k : Object) (id : NameId) → Stands entries locals (slot.ObjectOr k) (word_of (name_of here id)) → IsKnownAs entries names k id
  present_stands k id h = name_stands (slot.ObjectOr k) k id refl (λ x. refl) (known (can_stand (slot.ObjectOr k)) (nothing_stands k) names id.0 scope.names h.can) h

  exception_stands : (x : ExcRef) → Stands entries locals slot.Exception (word_of (exception_of here x)) → IsKnownException entries names x
  exception_stands This h = tt
  exception_stands (Named id) h = name_stands slot.Exception object.Exception id refl (λ x. refl) (known (can_stand slot.Exception) refl names id.0 scope.names h.can) h

  variable_stands : (s : Slot) → refers s ≡ true → ((x : Sense) → suits s x ≡ (is_own x || is_of_kind object.Shared x)) → can_stand s (Mark []) ≡ false
      → (v : Var) → Stands entries locals s (word_of (variable_of here v)) → IsKnownVariable entries names locals v
  variable_stands s r same none (variable.Local place) h = (known (can_stand s) none locals place scope.locals h.can).below
  variable_stands s r same none (variable.Shared id) h =
      let is = known (can_stand s) none names id.0 scope.names h.can in
      let text : List ℕ = name_at names id.0 in
      let word : word_of text ≡ Name text = known_word names id.0 is in
      let again : variable_in here (Name text) ≡ variable.Shared id = sym (ap (variable_in here) word) ∙ (variable_again (can_stand s) none here (variable.Shared id) scope h.can).again in
      let other : is_among locals text ≡ false = shared_no_local (is_among locals text) _ _ id again in
      let misused : is_misused entries locals (s, Name text) ≡ false = subst (λ (w : Word). is_misused entries locals (s, w) ≡ false) word h.suited in
      let suited = sym (same (sense_of entries locals text)) ∙ suits_told entries locals s text r is.name misused in
      record { below = is.below; found = shared_told (is_among locals text) (kind_in entries text) other suited }

  -- ---- expressions

  -- What is known of an expression that is spelled with these texts, and that what comes after it fills the other slots.
  abbrev Tells : List (List ℕ) → List ℤ → List Var → List ExcRef → Type 0
  Tells texts numbers vars excs =
      (slots : List Slot) (rest : List Word) → AreSigned numbers → Fill entries locals (slot.Expression ∷ slots) (map word_of texts ++ rest)
      → AreKnownVariables entries names locals vars × AreKnownExceptions entries names excs × Fill entries locals slots rest

  abbrev TellsOf : Expr → Type 0
  TellsOf e = Tells (expr_words here e) (expr_numbers e) (variables_of e) (exceptions_of e)

  as_spelled : (e : Expr) (texts : List (List ℕ)) (numbers : List ℤ) (vars : List Var) (excs : List ExcRef)
      → expr_words here e ≡ texts → expr_numbers e ≡ numbers → variables_of e ≡ vars → exceptions_of e ≡ excs → Tells texts numbers vars excs → TellsOf e
  as_spelled e texts numbers vars excs w n v x h = rw (w, n, v, x) h

  -- The word of an operator opens the slots of its operands.
  opened : (w : Word) (os slots : List Slot) (ws : List Word) → operands_of w ≡ os → Fill entries locals (slot.Expression ∷ slots) (w ∷ ws) → Fill entries locals (os ++ slots) ws
  opened w os slots ws e h = subst (λ (x : List Slot). Fill entries locals (x ++ slots) ws) e (one_fills entries locals slot.Expression slots w ws h).1

  atom_tells : (text : List ℕ) (numbers : List ℤ) (vars : List Var)
      → (AreSigned numbers → Stands entries locals slot.Expression (word_of text) → (operands_of (word_of text) ≡ []) × AreKnownVariables entries names locals vars) → Tells (text ∷ []) numbers vars []
  atom_tells text numbers vars is slots rest signed h =
      let f = one_fills entries locals slot.Expression slots (word_of text) rest h in
      let a = is signed f.0 in
      (a.1, tt, opened (word_of text) [] slots rest a.0 h)

  variable_opens : (v : Var) → Stands entries locals slot.Expression (word_of (variable_of here v)) → operands_of (word_of (variable_of here v)) ≡ []
  variable_opens v h = none_opens (word_of (variable_of here v)) (name_no_operator (variable_of here v) (variable_again (can_stand slot.Expression) refl here v scope h.can).name)

  number_opens : (n : ℤ) → AreSigned (n ∷ []) → operands_of (word_of (signed_decimal n)) ≡ []
  number_opens n signed = rw (number_word n signed.0) refl

  two_tells : (o : Op) (ts us : List (List ℕ)) (ms ns : List ℤ) (vs ws : List Var) (xs ys : List ExcRef) → Tells ts ms vs xs → Tells us ns ws ys
      → Tells (operator_word o ∷ (ts ++ us)) (ms ++ ns) (vs ++ ws) (xs ++ ys)
  two_tells o ts us ms ns vs ws xs ys left right slots rest signed h =
      let w : Word = word_of (operator_word o) in
      let n = signed_parts ms ns signed in
      let f : Fill entries locals (slot.Expression ∷ slot.Expression ∷ slots) (map word_of ts ++ (map word_of us ++ rest)) =
      subst (Fill entries locals (slot.Expression ∷ slot.Expression ∷ slots)) (both_words ts us rest)
      (opened w (slot.Expression ∷ slot.Expression ∷ []) slots (map word_of (ts ++ us) ++ rest) (binary_opens w (is_binary o)) h) in
      let l = left (slot.Expression ∷ slots) (map word_of us ++ rest) n.0 f in
      let r = right slots rest n.1 l.2 in
      (append_variables vs ws l.0 r.0, append_exceptions xs ys l.1 r.1, r.2)

  not_tells : (ts : List (List ℕ)) (ms : List ℤ) (vs : List Var) (xs : List ExcRef) → Tells ts ms vs xs → Tells (codes "not" ∷ ts) ms vs xs
  not_tells ts ms vs xs more slots rest signed h =
      let w : Word = word_of (codes "not") in
      more slots rest signed (opened w (slot.Expression ∷ []) slots (map word_of ts ++ rest) (not_opens w is_not) h)

  status_tells : (x : ExcRef) → Tells (codes "exc_get_status" ∷ exception_of here x ∷ []) [] [] (x ∷ [])
  status_tells x slots rest signed h =
      let w : Word = word_of (codes "exc_get_status") in
      let v : Word = word_of (exception_of here x) in
      let f = one_fills entries locals slot.Exception slots v rest (opened w (slot.Exception ∷ []) slots (v ∷ rest) (status_opens w is_status) h) in
      (tt, (exception_stands x f.0, tt), f.1)

  match_tells : (x y : ExcRef) → Tells (codes "exc_matches" ∷ exception_of here x ∷ exception_of here y ∷ []) [] [] (x ∷ y ∷ [])
  match_tells x y slots rest signed h =
      let w : Word = word_of (codes "exc_matches") in
      let v : Word = word_of (exception_of here x) in
      let u : Word = word_of (exception_of here y) in
      let f = one_fills entries locals slot.Exception (slot.Exception ∷ slots) v (u ∷ rest) (opened w (slot.Exception ∷ slot.Exception ∷ []) slots (v ∷ u ∷ rest) (match_opens w is_match) h) in
      let g = one_fills entries locals slot.Exception slots u rest f.1 in
      (tt, (exception_stands x f.0, (exception_stands y g.0, tt)), g.1)

  expression_tells : (e : Expr) → TellsOf e
  expression_tells = expr_induction TellsOf (record {
    num = λ n. as_spelled (expr.Num n) (signed_decimal n ∷ []) (n ∷ []) [] [] (each_expr-Num (expr_step here) n) (each_expr-Num numbers_step n) (each_expr-Num variables_step n) (each_expr-Num exceptions_step n)
        (atom_tells (signed_decimal n) (n ∷ []) [] (λ signed h. (number_opens n signed, tt)));
    var = λ v. as_spelled (expr.Var v) (variable_of here v ∷ []) [] (v ∷ []) [] (each_expr-Var (expr_step here) v) (each_expr-Var numbers_step v) (each_expr-Var variables_step v) (each_expr-Var exceptions_step v)
        (atom_tells (variable_of here v) [] (v ∷ []) (λ signed h. (variable_opens v h, (variable_stands slot.Expression refl (λ x. refl) refl v h, tt))));
    me = as_spelled expr.Me (codes "self" ∷ []) [] [] [] (each_expr-Me (expr_step here)) (each_expr-Me numbers_step) (each_expr-Me variables_step) (each_expr-Me exceptions_step)
        (atom_tells (codes "self") [] [] (λ signed h. (self_opens, tt)));
    err = as_spelled expr.Err (codes "err" ∷ []) [] [] [] (each_expr-Err (expr_step here)) (each_expr-Err numbers_step) (each_expr-Err variables_step) (each_expr-Err exceptions_step)
        (atom_tells (codes "err") [] [] (λ signed h. (err_opens, tt)));
    two = λ o a b l r. as_spelled (expr.Two o a b) (operator_word o ∷ (expr_words here a ++ expr_words here b)) (expr_numbers a ++ expr_numbers b) (variables_of a ++ variables_of b) (exceptions_of a ++ exceptions_of b)
        (each_expr-Two (expr_step here) o a b) (each_expr-Two numbers_step o a b) (each_expr-Two variables_step o a b) (each_expr-Two exceptions_step o a b)
        (two_tells o (expr_words here a) (expr_words here b) (expr_numbers a) (expr_numbers b) (variables_of a) (variables_of b) (exceptions_of a) (exceptions_of b) l r);
    negation = λ a l. as_spelled (expr.Not a) (codes "not" ∷ expr_words here a) (expr_numbers a) (variables_of a) (exceptions_of a)
        (each_expr-Not (expr_step here) a) (each_expr-Not numbers_step a) (each_expr-Not variables_step a) (each_expr-Not exceptions_step a)
        (not_tells (expr_words here a) (expr_numbers a) (variables_of a) (exceptions_of a) l);
    get_status = λ x. as_spelled (expr.GetStatus x) (codes "exc_get_status" ∷ exception_of here x ∷ []) [] [] (x ∷ [])
        (each_expr-GetStatus (expr_step here) x) (each_expr-GetStatus numbers_step x) (each_expr-GetStatus variables_step x) (each_expr-GetStatus exceptions_step x) (status_tells x);
    matches = λ x y. as_spelled (expr.Matches x y) (codes "exc_matches" ∷ exception_of here x ∷ exception_of here y ∷ []) [] [] (x ∷ y ∷ [])
        (each_expr-Matches (expr_step here) x y) (each_expr-Matches numbers_step x y) (each_expr-Matches variables_step x y) (each_expr-Matches exceptions_step x y) (match_tells x y);
  })

  -- ---- one slot

  abbrev HoldsOf : Slot → Value → List Slot → List Word → Type 0
  HoldsOf s v slots ws = Holds entries names locals s v slots ws ⊎ ((s ≡ slot.Receiver) × (v ≡ value.Receiver None))

  -- One word that opens nothing.
  alone : (s : Slot) (v : Value) (text : List ℕ) (slots : List Slot) (ws : List Word) → slots_behind s (word_of text) ≡ [] → exceptions_at v ≡ []
      → (Stands entries locals s (word_of text) → AreKnown entries names (names_at s v) × AreKnownVariables entries names locals (variables_at v))
      → Fill entries locals (s ∷ slots) (word_of text ∷ ws) → HoldsOf s v slots ws
  alone s v text slots ws behind none is h =
      let f = one_fills entries locals s slots (word_of text) ws h in
      let k = is f.0 in
      inl (record { named = k.0; read = k.1; excepted = subst (AreKnownExceptions entries names) (sym none) tt; more = subst (λ (x : List Slot). Fill entries locals (x ++ slots) ws) behind f.1 })

  slot_holds : (s : Slot) (v : Value) (slots : List Slot) (ws : List Word) → IsIn s v → AreSigned (value_numbers v)
      → Fill entries locals (s ∷ slots) (map word_of (words_at here s v) ++ ws) → HoldsOf s v slots ws
  slot_holds slot.Number (value.Number n) slots ws is signed h = alone slot.Number (value.Number n) _ slots ws refl refl (λ f. (tt, tt)) h
  slot_holds (slot.Fixed choice.Interface) (value.Interface i) slots ws is signed h = alone (slot.Fixed choice.Interface) (value.Interface i) _ slots ws refl refl (λ f. (tt, tt)) h
  slot_holds (slot.Fixed choice.Policy) (value.Policy p) slots ws is signed h = alone (slot.Fixed choice.Policy) (value.Policy p) _ slots ws refl refl (λ f. (tt, tt)) h
  slot_holds (slot.Fixed choice.Inherit) (value.Inherit b) slots ws is signed h = alone (slot.Fixed choice.Inherit) (value.Inherit b) _ slots ws refl refl (λ f. (tt, tt)) h
  slot_holds (slot.Fixed choice.Cancel) (value.Cancel b) slots ws is signed h = alone (slot.Fixed choice.Cancel) (value.Cancel b) _ slots ws refl refl (λ f. (tt, tt)) h
  slot_holds (slot.Fixed choice.MutexKind) (value.Kind k) slots ws is signed h = alone (slot.Fixed choice.MutexKind) (value.Kind k) _ slots ws refl refl (λ f. (tt, tt)) h
  slot_holds (slot.Declared k) (value.Id id) slots ws is signed h = alone (slot.Declared k) (value.Id id) _ slots ws refl refl (λ f. (tt, tt)) h
  slot_holds slot.Parameter (value.Own (Some text)) slots ws is signed h = alone slot.Parameter (value.Own (Some text)) _ slots ws refl refl (λ f. (tt, tt)) h
  slot_holds slot.Local (value.Own (Some text)) slots ws is signed h = alone slot.Local (value.Own (Some text)) _ slots ws refl refl (λ f. (tt, tt)) h
  slot_holds (slot.Object k) (value.Id id) slots ws is signed h = alone (slot.Object k) (value.Id id) _ slots ws refl refl (λ f. ((object_stands k id f, tt), tt)) h
  slot_holds (slot.ObjectOr k) (value.Maybe None) slots ws is signed h = alone (slot.ObjectOr k) (value.Maybe None) _ slots ws refl refl (λ f. (tt, tt)) h
  slot_holds (slot.ObjectOr k) (value.Maybe (Some id)) slots ws is signed h = alone (slot.ObjectOr k) (value.Maybe (Some id)) _ slots ws refl refl (λ f. ((present_stands k id f, tt), tt)) h
  slot_holds slot.Variable (value.Variable v) slots ws is signed h = alone slot.Variable (value.Variable v) _ slots ws refl refl (λ f. (tt, (variable_stands slot.Variable refl (λ x. refl) refl v f, tt))) h
  slot_holds slot.Receiver (value.Receiver None) slots ws is signed h = inr (refl, refl)
  slot_holds slot.Receiver (value.Receiver (Some place)) slots ws is signed h =
      alone slot.Receiver (value.Receiver (Some place)) _ slots ws refl refl (λ f. (tt, ((known is_a_name refl locals place scope.locals f.can).below, tt))) h
  slot_holds slot.Expression (value.Expression e) slots ws is signed h =
      let t = expression_tells e slots ws signed h in
      inl (record { named = tt; read = t.0; excepted = t.1; more = t.2 })
  slot_holds _ _ slots ws is signed h = absurd is

  -- ---- all slots

  abbrev words_of_all : List Slot → List Value → List Word
  words_of_all slots vs = map word_of (words_in_slots here slots vs)

  parted : (s : Slot) (v : Value) (slots : List Slot) (vs : List Value) → Fill entries locals (s ∷ slots) (words_of_all (s ∷ slots) (v ∷ vs))
      → Fill entries locals (s ∷ slots) (map word_of (words_at here s v) ++ words_of_all slots vs)
  unfolding words_in_slots
  parted s v slots vs h = subst (Fill entries locals (s ∷ slots)) (map-append word_of (words_at here s v) (words_in_slots here slots vs)) h

  held : (s : Slot) (v : Value) (slots : List Slot) (vs : List Value) → Holds entries names locals s v slots (words_of_all slots vs) → HoldAll entries names locals slots vs
      → HoldAll entries names locals (s ∷ slots) (v ∷ vs)
  held s v slots vs h k = record {
    named = append_known (names_at s v) (names_in slots vs) h.named k.named;
    read = append_variables (variables_at v) (variables_in_all vs) h.read k.read;
    excepted = append_exceptions (exceptions_at v) (exceptions_in_all vs) h.excepted k.excepted;
  }

  empty_last : (slots : List Slot) (vs : List Value) → slots ≡ [] → vs ≡ [] → HoldAll entries names locals (slot.Receiver ∷ slots) (value.Receiver None ∷ vs)
  empty_last slots vs e f = rw (e, f) record { named = tt; read = tt; excepted = tt }

  held_empty : (s : Slot) (v : Value) (slots : List Slot) (vs : List Value) → s ≡ slot.Receiver → v ≡ value.Receiver None → receiver_last (s ∷ slots) ≡ true → AreIn slots vs
      → HoldAll entries names locals (s ∷ slots) (v ∷ vs)
  held_empty s v slots vs e f last fit =
      let none : slots ≡ [] = last_slot slots (subst (λ (x : Slot). receiver_last (x ∷ slots) ≡ true) e last) in
      rw (e, f) (empty_last slots vs none (no_more_values vs (subst (λ (x : List Slot). AreIn x vs) none fit)))

  pub all_hold : (slots : List Slot) (vs : List Value) → AreIn slots vs → receiver_last slots ≡ true → AreSigned (values_numbers vs) → Fill entries locals slots (words_of_all slots vs)
      → HoldAll entries names locals slots vs
  all_hold [] [] fit last signed h = record { named = tt; read = tt; excepted = tt }
  all_hold [] (v ∷ vs) fit last signed h = absurd fit
  all_hold (s ∷ slots) [] fit last signed h = absurd fit
  all_hold (s ∷ slots) (v ∷ vs) fit last signed h =
      let n = signed_parts (value_numbers v) (values_numbers vs) signed in
      elim (slot_holds s v slots (words_of_all slots vs) fit.0 n.0 (parted s v slots vs h)) [
        | inl k ↦ held s v slots vs k (all_hold slots vs fit.1 (first_and _ (receiver_last slots) last) n.1 k.more)
        | inr e ↦ held_empty s v slots vs e.0 e.1 last fit.1
      ]

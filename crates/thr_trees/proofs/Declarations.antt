-- What the lines of a script that keeps the rules declare, and what its declarations do.
use Rattle.std.proofs.Common.{◌≡◌, ℕ, Bool, true, false, List, [], ◌∷◌, ◌++◌, map, slice_get, Option, Some, None, refl, sym, ap, subst, ◌∙◌, append_assoc}
use Rattle.std.specs.Prelude.{◌&&◌}
use Rattle.std.specs.List.{list_all}
use Rattle.std.proofs.lemmas.List.{map-append}
use Rattle.thr_values.specs.declared.number.NameId.{NameId}
use Rattle.thr_values.specs.declared.call.CallWord.{CallWord}
use Rattle.thr_values.specs.declared.call.CallWord.TheVariants as call
use Rattle.thr_syntax.specs.declared.form.Form.{Form}
use Rattle.thr_syntax.specs.declared.form.Form.TheVariants as form
use Rattle.thr_syntax.specs.declared.tree.Item.{Item}
use Rattle.thr_syntax.specs.declared.tree.Item.TheVariants as item
use Rattle.thr_syntax.specs.declared.tree.Stmt.{Stmt}
use Rattle.thr_syntax.specs.Lines.{joined, body_lines, item_lines}
use Rattle.thr_syntax.specs.Spelling.{name_at}
use Rattle.thr_text.specs.declared.word.Word.{Word}
use Rattle.thr_text.specs.declared.word.Word.TheVariants.{Name}
use Rattle.thr_text.specs.declared.object.Object.{Object}
use Rattle.thr_text.specs.declared.object.Object.TheVariants as object
use Rattle.thr_text.specs.declared.head.Head.{Head}
use Rattle.thr_text.specs.declared.head.Head.TheVariants as head
use Rattle.thr_text.specs.declared.head.Slot.{Slot}
use Rattle.thr_text.specs.declared.head.Slot.TheVariants as slot
use Rattle.thr_text.specs.Names.{is_name}
use Rattle.thr_text.specs.Lexing.{word_of}
use Rattle.thr_text.specs.Slots.{is_a_name, call_slots, slots_of, misplaced, head_of_line, fault_after, form_fault}
use Rattle.thr_text.specs.Tables.{Entry, declarations}
use Rattle.thr_text.specs.Tables.{declared_in as declared_in_words}
use Rattle.thr_blocks.specs.Trees.{item_nests}
use Rattle.thr_naming.specs.Placing.{first_kind, entry_by, name_at_place}
use Rattle.thr_naming.proofs.LineLaws.{declared_law}
use Rattle.thr_resolving.specs.Resolving.{scope_of}
use Rattle.thr_resolving.proofs.AgainNames.{IsKnown, known, known_word}
use Rattle.thr_resolving.proofs.AgainPieces.{one_stands}
use Rattle.thr_resolving.proofs.Parts.{call_head, form_head}
use Rattle.thr_reading.specs.Running.{locals_after_form, spelled_lines}
use Rattle.thr_reading.proofs.LocalsLaws.{head_told}
use Rattle.thr_trees.specs.Kinds.{declared_by}
use Rattle.thr_trees.specs.Names.{Asked, declared_in, declared_of, declared_among}
use Rattle.thr_trees.proofs.BodyLines.{AreInner, first_inner, inner_declares, closed_inner}
use Rattle.thr_trees.proofs.LineFacts.{words_at, IsFine, AreFine}

-- The entry of a name with its kind.
abbrev pub entry_for : List (List ℕ) → Asked → Entry
entry_for names a = (name_at names a.0.0, a.1)

-- Each of these is one of the names.
abbrev pub AreAmong : List (List ℕ) → List Asked → Type 0
AreAmong names [] = Unit {0}
AreAmong names (a ∷ more) = IsKnown names a.0.0 × AreAmong names more

-- The words declare these names.
pub record Declare (names : List (List ℕ)) (ds : List Entry) (declared : List Asked) : Type 0 where
  pub among : AreAmong names declared
  pub are : ds ≡ map (entry_for names) declared

-- ---- one line

filled : (w : Word) (ws : List Word) (h : Head) → head_of_line (w ∷ ws) ≡ Some h → form_fault (w ∷ ws) ≡ None → misplaced (slots_of h) ws ≡ None
filled w ws h e fault = sym (ap (λ (o : Option Head). fault_after o ws) e) ∙ fault

one_entry : (k : Object) (w : Word) (text : List ℕ) → w ≡ Name text → entry_by (Some k) (name_at_place (Some w)) ≡ (text, k) ∷ []
one_entry k w text e = ap (λ (x : Word). entry_by (Some k) (name_at_place (Some x))) e

one_declared : (names : List (List ℕ)) (v : Word) (id : NameId) (ws : List Word) (h : Head) (k : Object) (slots : List Slot) → list_all is_name names ≡ true → slots_of h ≡ slot.Declared k ∷ slots
    → head_of_line (v ∷ word_of (name_at names id.0) ∷ ws) ≡ Some h → form_fault (v ∷ word_of (name_at names id.0) ∷ ws) ≡ None
    → Declare names (declared_in_words (v ∷ word_of (name_at names id.0) ∷ ws)) ((id, k) ∷ [])
one_declared names v id ws h k slots are is told fault =
    let w : Word = word_of (name_at names id.0) in
    let stands : misplaced (slot.Declared k ∷ slots) (w ∷ ws) ≡ None = subst (λ (ps : List Slot). misplaced ps (w ∷ ws) ≡ None) is (filled v (w ∷ ws) h told fault) in
    let here : IsKnown names id.0 = known is_a_name refl names id.0 are (one_stands (slot.Declared k) slots w ws stands).0 in
    record {
      among = (here, tt);
      are = declared_law (v ∷ w ∷ ws) h told ∙ ap (λ (ps : List Slot). entry_by (first_kind ps) (name_at_place (Some w))) is ∙ one_entry k w (name_at names id.0) (known_word names id.0 here);
    }

none_declared : (names : List (List ℕ)) (l : List Word) (h : Head) → head_of_line l ≡ Some h → first_kind (slots_of h) ≡ None → Declare names (declared_in_words l) []
none_declared names l h told none = record { among = tt; are = declared_law l h told ∙ ap (λ (o : Option Object). entry_by o (name_at_place (slice_get l 1))) none }

call_declares_none : (c : CallWord) → first_kind (call_slots c) ≡ None
unfolding call_slots
call_declares_none call.Close = refl
call_declares_none _ = refl

line_declares : (entries : List Entry) (names locals : List (List ℕ)) (f : Form) → IsFine entries names locals f → Declare names (declared_in_words (words_at names locals f)) (declared_in f)
unfolding form_head slots_of
line_declares entries names locals (form.Shared name n) h = one_declared names _ name _ head.Shared object.Shared (slot.Number ∷ []) h.scope.names refl (head_told (scope_of names locals) (form.Shared name n) h.own) h.faultless
line_declares entries names locals (form.Exception name) h = one_declared names _ name _ head.Exception object.Exception [] h.scope.names refl (head_told (scope_of names locals) (form.Exception name) h.own) h.faultless
line_declares entries names locals (form.Status name n) h = one_declared names _ name _ head.Status object.Exception (slot.Number ∷ []) h.scope.names refl (head_told (scope_of names locals) (form.Status name n) h.own) h.faultless
line_declares entries names locals (form.Mutex name) h = one_declared names _ name _ head.Mutex object.Mutex [] h.scope.names refl (head_told (scope_of names locals) (form.Mutex name) h.own) h.faultless
line_declares entries names locals (form.MutexAttr name) h = one_declared names _ name _ head.Mutexattr object.Mutexattr [] h.scope.names refl (head_told (scope_of names locals) (form.MutexAttr name) h.own) h.faultless
line_declares entries names locals (form.Cond name) h = one_declared names _ name _ head.Cond object.Cond [] h.scope.names refl (head_told (scope_of names locals) (form.Cond name) h.own) h.faultless
line_declares entries names locals (form.Attr name) h = one_declared names _ name _ head.Attr object.Attr [] h.scope.names refl (head_told (scope_of names locals) (form.Attr name) h.own) h.faultless
line_declares entries names locals (form.Key name) h = one_declared names _ name _ head.Key object.Key [] h.scope.names refl (head_told (scope_of names locals) (form.Key name) h.own) h.faultless
line_declares entries names locals (form.Once name) h = one_declared names _ name _ head.Once object.Once [] h.scope.names refl (head_told (scope_of names locals) (form.Once name) h.own) h.faultless
line_declares entries names locals (form.Pipe name n) h = one_declared names _ name _ head.Pipe object.Pipe (slot.Number ∷ []) h.scope.names refl (head_told (scope_of names locals) (form.Pipe name n) h.own) h.faultless
line_declares entries names locals (form.Routine name parameter) h =
    one_declared names _ name _ head.Routine object.Routine (slot.Parameter ∷ []) h.scope.names refl (head_told (scope_of names locals) (form.Routine name parameter) h.own) h.faultless
line_declares entries names locals (form.Dce c) h =
    none_declared names (words_at names locals (form.Dce c)) (head.Dce (call_head c)) (head_told (scope_of names locals) (form.Dce c) h.own) (call_declares_none (call_head c))
line_declares entries names locals form.Header h = absurd (h.own refl)
line_declares entries names locals f h = none_declared names (words_at names locals f) (form_head f) (head_told (scope_of names locals) f h.own) refl

-- ---- all lines

among_append : (names : List (List ℕ)) (xs ys : List Asked) → AreAmong names xs → AreAmong names ys → AreAmong names (xs ++ ys)
among_append names [] ys h k = k
among_append names (x ∷ xs) ys h k = (h.0, among_append names xs ys h.1 k)

abbrev pub declared_on : List Form → List Asked
declared_on fs = joined (map declared_in fs)

pub lines_declare : (entries : List Entry) (names locals : List (List ℕ)) (fs : List Form) → AreFine entries names locals fs
    → Declare names (declarations (map (map word_of) (spelled_lines names locals fs))) (declared_on fs)
unfolding spelled_lines declarations
lines_declare entries names locals [] h = record { among = tt; are = refl }
lines_declare entries names locals (f ∷ fs) h =
    let below : List (List ℕ) = locals_after_form locals f in
    let one = line_declares entries names below f h.0 in
    let more = lines_declare entries names below fs h.1 in
    let rest : List Entry = declarations (map (map word_of) (spelled_lines names below fs)) in
    record {
      among = among_append names (declared_in f) (declared_on fs) one.among more.among;
      are = ap (λ (es : List Entry). es ++ rest) one.are ∙ ap (λ (es : List Entry). map (entry_for names) (declared_in f) ++ es) more.are ∙ sym (map-append (entry_for names) (declared_in f) (declared_on fs));
    }

-- ---- declarations

on_append : (xs ys : List Form) → declared_on (xs ++ ys) ≡ declared_on xs ++ declared_on ys
on_append [] ys = refl
on_append (f ∷ xs) ys = ap (λ (xs : List Asked). declared_in f ++ xs) (on_append xs ys) ∙ sym (append_assoc (declared_in f) (declared_on xs) (declared_on ys))

inner_none : (fs : List Form) → AreInner fs → declared_on fs ≡ []
inner_none [] h = refl
inner_none (f ∷ fs) h =
    let p = first_inner f fs h in
    ap (λ (xs : List Asked). xs ++ declared_on fs) (inner_declares f p.0) ∙ inner_none fs p.1

locals_none : (locals : List (List ℕ)) (fs : List Form) → declared_on (map (λ (n : List ℕ). form.Local n) locals ++ fs) ≡ declared_on fs
locals_none [] fs = refl
locals_none (n ∷ locals) fs = locals_none locals fs

routine_declares : (name : NameId) (locals : List (List ℕ)) (body : List Stmt) → item_nests (item.Routine (record { name = name; locals = locals; body = body })) ≡ true
    → declared_on (item_lines (item.Routine (record { name = name; locals = locals; body = body }))) ≡ (name, object.Routine) ∷ []
routine_declares name [] body nests = absurd cc
routine_declares name (parameter ∷ locals) body nests =
    ap (λ (xs : List Asked). (let a : Asked = (name, object.Routine) in a) ∷ xs) (locals_none locals (body_lines body ++ form.End ∷ []) ∙ inner_none (body_lines body ++ form.End ∷ []) (closed_inner body))

item_declares : (i : Item) → item_nests i ≡ true → declared_on (item_lines i) ≡ declared_of (declared_by i)
item_declares (item.Routine r) nests = routine_declares r.name r.locals r.body nests
item_declares (item.Interface i) nests = refl
item_declares (item.Limit n) nests = refl
item_declares (item.Shared name n) nests = refl
item_declares (item.Exception name) nests = refl
item_declares (item.Status name n) nests = refl
item_declares (item.Mutex name) nests = refl
item_declares (item.MutexAttr name) nests = refl
item_declares (item.Cond name) nests = refl
item_declares (item.Attr name) nests = refl
item_declares (item.Key name) nests = refl
item_declares (item.Once name) nests = refl
item_declares (item.Pipe name n) nests = refl

both : (a b : Bool) → (a && b) ≡ true → (a ≡ true) × (b ≡ true)
both true b e = (refl, e)
both false b e = absurd cc

pub items_declare : (items : List Item) → list_all item_nests items ≡ true → declared_on (joined (map item_lines items)) ≡ declared_among items
items_declare [] nests = refl
items_declare (i ∷ items) nests =
    let p = both (item_nests i) (list_all item_nests items) nests in
    on_append (item_lines i) (joined (map item_lines items))
    ∙ ap (λ (xs : List Asked). xs ++ declared_on (joined (map item_lines items))) (item_declares i p.0)
    ∙ ap (λ (xs : List Asked). declared_of (declared_by i) ++ xs) (items_declare items p.1)

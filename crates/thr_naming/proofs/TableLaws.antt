-- The table of names.
use Rattle.std.proofs.Common.{arith, is_some, None, true, false, ◌≡◌, ℕ, zero, suc, position, ◌+◌, ◌<◌, ◌≤◌, cond, List, [], ◌∷◌, ◌++◌, length, map, get_or, drop, Option, Some, refl, sym, ap, ◌∙◌}
use Rattle.std.proofs.lemmas.List.{at_drop_more, at_drop_all, append-nil}
use Rattle.std.specs.Map.{lookup, keys_of}
use Rattle.thr_values.specs.declared.number.NameId.{NameId}
use Rattle.indexmap.proofs.MapLemmas.{some_index}
use Rattle.std.proofs.lemmas.Map.Entries.{length-keys_of}
use Rattle.std.specs.Option.{IfSome}
use Rattle.std.specs.Cmp.Lexicographic.{same_text}
use Rattle.std.proofs.lemmas.List.Quantifiers.{position-Some}
use Rattle.thr_syntax.specs.Spelling.{name_at}
use Rattle.std.specs.Str.{bytes_eq}
use Rattle.indexmap.proofs.CallerLemmas.{insert_entry-new}
use Rattle.thr_values.specs.Exceptions.{builtin_names}
use Rattle.thr_text.specs.declared.object.Object as kinds
use Rattle.thr_text.specs.Blocks.{Line}
use Rattle.thr_text.specs.Tables.{Entry, kind_in, is_declared, builtin_entry, declarations, declared_in}
use Rattle.thr_text.specs.NameFaults.{words_in}
use Rattle.thr_naming.specs.Judging.{with_entry, noted, table_of}

pub kind_looked_up : (es : List Entry) (name : List ℕ) → lookup (bytes_eq name) es ≡ kind_in es name
unfolding kind_in
kind_looked_up [] name = refl
kind_looked_up (e ∷ es) name = ap (λ (o : Option kinds.Object). cond (bytes_eq name e.0) (Some e.1) o) (kind_looked_up es name)

pub ruleset inserting = insert_entry-new

-- ---- more entries

pub noted_append : (table es ds : List Entry) → noted table (es ++ ds) ≡ noted (noted table es) ds
unfolding noted
noted_append table [] ds = refl
noted_append table (e ∷ es) ds = noted_append (with_entry table e) es ds

pub noted_none : (table : List Entry) → noted table [] ≡ table
unfolding noted
noted_none table = refl

pub noted_one : {X : Type 0} (f : X → Entry) (table : List Entry) (xs : List X) (i : ℕ) (d : X) → i < length xs
    → noted (with_entry table (f (get_or xs i d))) (map f (drop (i + 1) xs)) ≡ noted table (map f (drop i xs))
unfolding noted
noted_one f table xs i d lt = sym (at_drop_more (λ ys. noted table (map f ys)) xs i d lt)

pub noted_all : {X : Type 0} (f : X → Entry) (table : List Entry) (xs : List X) (i : ℕ) → length xs ≤ i → noted table (map f (drop i xs)) ≡ table
unfolding noted
noted_all f table xs i le = at_drop_all (λ ys. noted table (map f ys)) xs i le

-- ---- more lines

pub line_noted : (table : List Entry) (ls : List Line) (i : ℕ) (l : Line) → i < length ls → l ≡ get_or ls i l
    → noted (noted table (declared_in l.1)) (declarations (words_in (drop (i + 1) ls))) ≡ noted table (declarations (words_in (drop i ls)))
unfolding declarations
line_noted table ls i l lt is =
    sym (at_drop_more (λ ys. noted table (declarations (words_in ys))) ls i l lt
    ∙ ap (λ (x : Line). noted table (declarations (words_in (x ∷ drop (i + 1) ls)))) (sym is)
    ∙ noted_append table (declared_in l.1) (declarations (words_in (drop (i + 1) ls))))

pub lines_noted : (table : List Entry) (ls : List Line) (i : ℕ) → length ls ≤ i → noted table (declarations (words_in (drop i ls))) ≡ table
unfolding declarations noted
lines_noted table ls i le = at_drop_all (λ ys. noted table (declarations (words_in ys))) ls i le

pub table_more : (ds : List Entry) → noted (noted [] (map builtin_entry builtin_names ++ [])) ds ≡ noted [] (map builtin_entry builtin_names ++ ds)
table_more ds = sym (noted_append [] (map builtin_entry builtin_names) ds ∙ ap (λ (es : List Entry). noted (noted [] es) ds) (sym (append-nil (map builtin_entry builtin_names))))

pub table_of_none : table_of [] ≡ noted [] (map builtin_entry builtin_names)
unfolding declarations
table_of_none = ap (noted []) (append-nil (map builtin_entry builtin_names))

-- ---- places

name_got : (names : List (List ℕ)) (i : ℕ) → name_at names i ≡ get_or names i []
name_got [] i = refl
name_got (n ∷ ns) zero = refl
name_got (n ∷ ns) (suc i) = name_got ns i

pub name_at_place : (names : List (List ℕ)) (name : List ℕ) (i : ℕ) → position (bytes_eq name) names ≡ Some i → name_at names i ≡ name
name_at_place names name i e =
    let p = position-Some (bytes_eq name) names i [] e in
    name_got names i ∙ sym (same_text name (get_or names i []) (sym p.1))

pub id_name : (names : List (List ℕ)) (name : List ℕ) (i : ℕ) (o : Option NameId) → position (bytes_eq name) names ≡ Some i → IfSome o (λ id. id.0 ≡ i) → IfSome o (λ id. name_at names id.0 ≡ name)
id_name names name i None e h = tt
id_name names name i (Some id) e h = ap (name_at names) h ∙ name_at_place names name i e

place_tells : (es : List Entry) (name : List ℕ) → is_some (position (bytes_eq name) (keys_of es)) ≡ is_declared es name
place_tells es name = some_index (bytes_eq name) es ∙ ap is_some (kind_looked_up es name)

pub id_found : (es : List Entry) (name : List ℕ) (i : ℕ) (o : Option NameId) → position (bytes_eq name) (keys_of es) ≡ Some i → (i < 65536 → is_some o ≡ true) → length es ≤ 65536 → is_some o ≡ is_declared es name
id_found es name i o e h few =
    let p = position-Some (bytes_eq name) (keys_of es) i [] e in
    let within : i < 65536 = omega (arith, p.0, few, length-keys_of es) in
    h within ∙ ap is_some (sym e) ∙ place_tells es name

pub no_id : (es : List Entry) (name : List ℕ) → position (bytes_eq name) (keys_of es) ≡ None → false ≡ is_declared es name
no_id es name e = ap is_some (sym e) ∙ place_tells es name

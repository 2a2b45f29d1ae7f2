-- The table tells what the declarations tell.
use Rattle.std.proofs.Common.{◌≡◌, ℕ, Bool, true, false, cond, List, [], ◌∷◌, ◌++◌, Option, Some, None, refl, sym, ap, ◌∙◌, is_some, append_assoc}
use Rattle.std.specs.Prelude.{if◌then◌else◌}
use Rattle.std.specs.Str.{bytes_eq}
use Rattle.std.specs.Cmp.Lexicographic.{same_text}
use Rattle.std.proofs.lemmas.List.{append-nil}
use Rattle.thr_text.specs.declared.word.Word.{Word}
use Rattle.thr_text.specs.declared.object.Object as kinds
use Rattle.thr_text.specs.Tables.{Entry, kind_in, is_declared, entries_of}
use Rattle.thr_naming.specs.Judging.{with_entry, noted, table_of}

abbrev Kind : Type 0
Kind = Option kinds.Object

abbrev or_kind : Kind → Kind → Kind
or_kind None o = o
or_kind (Some k) o = Some k

first_kind : (b : Bool) (k : kinds.Object) (o p : Kind) → cond b (Some k) (or_kind o p) ≡ or_kind (cond b (Some k) o) p
first_kind true k o p = refl
first_kind false k o p = refl

kind_append : (es ds : List Entry) (name : List ℕ) → kind_in (es ++ ds) name ≡ or_kind (kind_in es name) (kind_in ds name)
unfolding kind_in
kind_append [] ds name = refl
kind_append (e ∷ es) ds name =
    ap (λ (o : Kind). cond (bytes_eq name e.0) (Some e.1) o) (kind_append es ds name)
    ∙ first_kind (bytes_eq name e.0) e.1 (kind_in es name) (kind_in ds name)

kept_kind : (o p : Kind) (q : Kind) → is_some o ≡ true → or_kind o p ≡ or_kind o q
kept_kind (Some k) p q h = refl
kept_kind None p q h = absurd cc

-- a name that is there already says nothing more
no_more : (es ds : List Entry) (d : Entry) (name : List ℕ) → is_declared es d.0 ≡ true → kind_in (es ++ ds) name ≡ kind_in (es ++ d ∷ ds) name
unfolding kind_in
no_more es ds d name there = by (bytes_eq name d.0) refl
  where
    by : (b : Bool) → bytes_eq name d.0 ≡ b → kind_in (es ++ ds) name ≡ kind_in (es ++ d ∷ ds) name
    by true e =
        let same : name ≡ d.0 = same_text name d.0 (sym e) in
        let has : is_some (kind_in es name) ≡ true = ap (λ (n : List ℕ). is_some (kind_in es n)) same ∙ there in
        kind_append es ds name ∙ kept_kind (kind_in es name) (kind_in ds name) (kind_in (d ∷ ds) name) has ∙ sym (kind_append es (d ∷ ds) name)
    by false e =
        kind_append es ds name
        ∙ ap (λ (b : Bool). or_kind (kind_in es name) (cond b (Some d.1) (kind_in ds name))) (sym e)
        ∙ sym (kind_append es (d ∷ ds) name)

noted_kind : (table es : List Entry) (name : List ℕ) → kind_in (noted table es) name ≡ kind_in (table ++ es) name
unfolding noted
noted_kind table [] name = ap (λ (es : List Entry). kind_in es name) (sym (append-nil table))
noted_kind table (e ∷ es) name = noted_kind (with_entry table e) es name ∙ by (is_declared table e.0) refl
  where
    by : (b : Bool) → is_declared table e.0 ≡ b → kind_in ((if b then table else table ++ e ∷ []) ++ es) name ≡ kind_in (table ++ e ∷ es) name
    by true there = no_more table es e name there
    by false new = ap (λ (ds : List Entry). kind_in ds name) (append_assoc table (e ∷ []) es)

pub table_kind : (lines : List (List Word)) (name : List ℕ) → kind_in (table_of lines) name ≡ kind_in (entries_of lines) name
table_kind lines name = noted_kind [] (entries_of lines) name

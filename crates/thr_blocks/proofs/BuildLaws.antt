-- What is built has the lines that it was built from, and lines that nest are built whole.
use Rattle.std.proofs.Common.{◌≡◌, List, [], ◌∷◌, ◌++◌, map, fold, Option, Some, None, true, refl, arith, sym, ap, subst, ◌∙◌, append_assoc}
use Rattle.std.specs.List.{filter, list_all}
use Rattle.std.proofs.lemmas.List.{append-nil}
use Rattle.std.proofs.lemmas.List.Elements.{filter-append}
use Rattle.thr_syntax.specs.declared.form.Form.{Form}
use Rattle.thr_syntax.specs.declared.tree.Stmt.{Stmt}
use Rattle.thr_text.specs.declared.block.Block.{Block}
use Rattle.thr_text.specs.Blocks.{form_shape, Nest}
use Rattle.thr_blocks.specs.declared.frame.Frame.{Frame}
use Rattle.thr_blocks.specs.declared.frame.OpenRoutine.{OpenRoutine}
use Rattle.thr_blocks.specs.Build.{Building, put, built, is_own}
use Rattle.thr_blocks.proofs.Flat.{items_lines, open_lines, half_lines, open_blocks, blocks_of, IsNamed}
use Rattle.thr_blocks.proofs.PutLaws.{Puts, puts}

pub record Keeps (h : Building) (forms : List Form) (new : Building) : Type 0 where
  pub lines : half_lines new ≡ half_lines h ++ filter is_own forms
  pub blocks : blocks_of new.1 ≡ []

pub keeps : (forms : List Form) (h : Building) → IsNamed h.1 → Nest (blocks_of h.1) (map form_shape forms) → Keeps h forms (fold put h forms)
keeps [] h q n = record { lines = sym (append-nil (half_lines h)); blocks = n }
keeps (f ∷ forms) h q n =
    let p : Puts h (put h f) f = puts h.0 h.1 f q n.0 in
    let rest : Keeps (put h f) forms (fold put (put h f) forms) = keeps forms (put h f) p.named (subst (λ (bs : List Block). Nest bs (map form_shape forms)) (sym p.blocks) n.1) in
    record {
      lines = rest.lines ∙ ap (λ (zs : List Form). zs ++ filter is_own forms) p.lines ∙ append_assoc (half_lines h) (filter is_own (f ∷ [])) (filter is_own forms)
          ∙ ap (λ (zs : List Form). half_lines h ++ zs) (sym (filter-append is_own (f ∷ []) forms));
      blocks = rest.blocks;
    }

some_open : (body : List Stmt) (fs : List Frame) → open_blocks body fs ≡ [] → ⊥
some_open body [] e = cc
some_open body (f ∷ fs) e = cc

none_open : (o : Option OpenRoutine) → blocks_of o ≡ [] → open_lines o ≡ []
none_open None e = refl
none_open (Some r) e = absurd (some_open r.body r.frames e)

pub kept_lines : (forms : List Form) → Nest [] (map form_shape forms) → items_lines (built forms).0 ≡ filter is_own forms
kept_lines forms n =
    let k : Keeps ([], None) forms (built forms) = keeps forms ([], None) tt n in
    sym (append-nil (items_lines (built forms).0)) ∙ ap (λ (zs : List Form). items_lines (built forms).0 ++ zs) (sym (none_open (built forms).1 k.blocks)) ∙ k.lines

pub all_own : (forms : List Form) → list_all is_own forms ≡ true → filter is_own forms ≡ forms
all_own [] e = refl
all_own (f ∷ forms) e = grind (arith, all_own forms)

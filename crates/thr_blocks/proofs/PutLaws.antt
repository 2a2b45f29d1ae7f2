-- A line that has its place is one line more of what is built, and the blocks are those below it.
use Rattle.std.proofs.Common.{◌≡◌, ℕ, List, [], ◌∷◌, ◌++◌, Option, Some, None, refl, sym, ap, ◌∙◌, append_assoc}
use Rattle.std.specs.List.{filter}
use Rattle.std.proofs.lemmas.List.{append-nil, map-append}
use Rattle.thr_values.specs.declared.number.NameId.{NameId}
use Rattle.thr_syntax.specs.declared.form.Form.{Form}
use Rattle.thr_syntax.specs.declared.form.Form.TheVariants as form
use Rattle.thr_syntax.specs.declared.tree.Stmt.{Stmt}
use Rattle.thr_syntax.specs.declared.tree.Stmt.TheVariants as stmt
use Rattle.thr_syntax.specs.declared.tree.Item.{Item}
use Rattle.thr_syntax.specs.declared.tree.Item.TheVariants as item
use Rattle.thr_syntax.specs.Lines.{stmt_step, clause_step, stmt_lines, body_lines, head_lines, item_lines}
use Rattle.thr_syntax.proofs.FoldLaws.{each_stmt-Set, each_stmt-Say, each_stmt-Raise, each_stmt-Reraise, each_stmt-Call, each_stmt-Return, each_stmt-Exit, each_stmt-Dce}
use Rattle.thr_text.specs.declared.block.Block.{Block}
use Rattle.thr_text.specs.declared.block.Shape.TheVariants.{Declares, OpensRoutine, DeclaresLocal}
use Rattle.thr_text.specs.Blocks.{form_shape, begun, blocks_below, nesting_faults}
use Rattle.thr_blocks.specs.declared.frame.Opener.{Opener}
use Rattle.thr_blocks.specs.declared.frame.Opener.TheVariants as opener
use Rattle.thr_blocks.specs.declared.frame.Part.{Part}
use Rattle.thr_blocks.specs.declared.frame.Part.TheVariants as part
use Rattle.thr_blocks.specs.declared.frame.Frame.{Frame}
use Rattle.thr_blocks.specs.declared.frame.OpenRoutine.{OpenRoutine}
use Rattle.thr_blocks.specs.Build.{Building, with_parts, closed, whole, block_closed, next_part, next_part_begun, with_stmt, with_block, put_outside, put_inside, put_at, is_own, HasParameter}
use Rattle.thr_blocks.proofs.Flat.{opener_lines, closer, items_lines, half_lines, half_with, block_of, outer_blocks, routine_block, open_blocks, blocks_of, IsNamed, joined_push, half_push, closed_lines, clause_after}

abbrev pub HasPlace : List Block → Form → Type 0
HasPlace bs f = nesting_faults bs (form_shape f) ≡ []

pub record Puts (old new : Building) (f : Form) : Type 0 where
  pub lines : half_lines new ≡ half_lines old ++ filter is_own (f ∷ [])
  pub blocks : blocks_of new.1 ≡ blocks_below (blocks_of old.1) (form_shape f)
  pub named : IsNamed new.1

-- ---- outside every routine

item_put : (done : List Item) (i : Item) (f : Form) → item_lines i ≡ f ∷ [] → items_lines (done ++ i ∷ []) ++ [] ≡ (items_lines done ++ []) ++ f ∷ []
item_put done i f e =
    append-nil (items_lines (done ++ i ∷ [])) ∙ joined_push item_lines done i ∙ ap (λ (zs : List Form). items_lines done ++ zs) e ∙ ap (λ (zs : List Form). zs ++ f ∷ []) (sym (append-nil (items_lines done)))

outside : (done : List Item) (f : Form) → HasPlace [] f → Puts (done, None) (put_outside done f) f
unfolding form_shape put_outside blocks_below
outside done form.Header h = record { lines = sym (append-nil (items_lines done ++ [])); blocks = refl; named = tt }
outside done (form.Interface i) h = record { lines = item_put done (item.Interface i) (form.Interface i) refl; blocks = refl; named = tt }
outside done (form.Limit n) h = record { lines = item_put done (item.Limit n) (form.Limit n) refl; blocks = refl; named = tt }
outside done (form.Shared name n) h = record { lines = item_put done (item.Shared name n) (form.Shared name n) refl; blocks = refl; named = tt }
outside done (form.Exception name) h = record { lines = item_put done (item.Exception name) (form.Exception name) refl; blocks = refl; named = tt }
outside done (form.Status name n) h = record { lines = item_put done (item.Status name n) (form.Status name n) refl; blocks = refl; named = tt }
outside done (form.Mutex name) h = record { lines = item_put done (item.Mutex name) (form.Mutex name) refl; blocks = refl; named = tt }
outside done (form.MutexAttr name) h = record { lines = item_put done (item.MutexAttr name) (form.MutexAttr name) refl; blocks = refl; named = tt }
outside done (form.Cond name) h = record { lines = item_put done (item.Cond name) (form.Cond name) refl; blocks = refl; named = tt }
outside done (form.Attr name) h = record { lines = item_put done (item.Attr name) (form.Attr name) refl; blocks = refl; named = tt }
outside done (form.Key name) h = record { lines = item_put done (item.Key name) (form.Key name) refl; blocks = refl; named = tt }
outside done (form.Once name) h = record { lines = item_put done (item.Once name) (form.Once name) refl; blocks = refl; named = tt }
outside done (form.Pipe name n) h = record { lines = item_put done (item.Pipe name n) (form.Pipe name n) refl; blocks = refl; named = tt }
outside done (form.Routine name parameter) h = record { lines = ap (λ (zs : List Form). zs ++ form.Routine name parameter ∷ []) (sym (append-nil (items_lines done))); blocks = refl; named = tt }
outside done (form.Local name) h = absurd cc
outside done (form.Set v e) h = absurd cc
outside done (form.Say e) h = absurd cc
outside done (form.If e) h = absurd cc
outside done form.Else h = absurd cc
outside done (form.While e) h = absurd cc
outside done form.Try h = absurd cc
outside done (form.Catch x) h = absurd cc
outside done form.CatchAll h = absurd cc
outside done form.Finally h = absurd cc
outside done form.Endtry h = absurd cc
outside done (form.Raise x) h = absurd cc
outside done form.Reraise h = absurd cc
outside done (form.Call name e v) h = absurd cc
outside done (form.Return e) h = absurd cc
outside done (form.Exit e) h = absurd cc
outside done (form.Dce call) h = absurd cc
outside done form.End h = absurd cc

-- ---- blocks in a routine

pushed : (body : List Stmt) (s : Stmt) (fs : List Frame) → open_blocks (body ++ s ∷ []) fs ≡ outer_blocks fs
pushed [] s [] = refl
pushed (t ∷ body) s [] = refl
pushed body s (f ∷ fs) = refl

begun_inner : (o : Opener) (bs : List Block) → begun (block_of o ∷ bs) ≡ block_of o ∷ bs
begun_inner (opener.If e) bs = refl
begun_inner (opener.Else e first) bs = refl
begun_inner (opener.While e) bs = refl
begun_inner opener.Try bs = refl
begun_inner (opener.Catch first clauses None) bs = refl
begun_inner (opener.Catch first clauses (Some x)) bs = refl
begun_inner (opener.Finally first) bs = refl

begun_open : (body : List Stmt) (fs : List Frame) → begun (open_blocks body fs) ≡ outer_blocks fs
begun_open [] [] = refl
begun_open (s ∷ body) [] = refl
begun_open body (f ∷ fs) = begun_inner f.opener (outer_blocks fs)

no_declaration : (body : List Stmt) (fs : List Frame) → nesting_faults (open_blocks body fs) Declares ≡ [] → ⊥
no_declaration body [] h = cc
no_declaration body (f ∷ fs) h = cc

no_routine : (body : List Stmt) (fs : List Frame) → nesting_faults (open_blocks body fs) OpensRoutine ≡ [] → ⊥
no_routine body [] h = cc
no_routine body (f ∷ fs) h = cc

-- ---- statements and blocks that begin

stmt_put : (done : List Item) (r : OpenRoutine) (s : Stmt) (f : Form) → HasParameter r.locals → stmt_lines s ≡ f ∷ [] → filter is_own (f ∷ []) ≡ f ∷ []
    → blocks_below (blocks_of (Some r)) (form_shape f) ≡ begun (blocks_of (Some r)) → Puts (done, Some r) (done, Some (with_stmt r s)) f
stmt_put done r s f p e own below = record {
  lines = ap (half_with done r r.frames) (joined_push stmt_lines r.body s ∙ ap (λ (zs : List Form). body_lines r.body ++ zs) e)
      ∙ half_push done r r.frames (body_lines r.body) (f ∷ []) ∙ ap (λ (zs : List Form). half_with done r r.frames (body_lines r.body) ++ zs) (sym own);
  blocks = pushed r.body s r.frames ∙ sym (begun_open r.body r.frames) ∙ sym below;
  named = p;
}

block_put : (done : List Item) (r : OpenRoutine) (o : Opener) (f : Form) → HasParameter r.locals → opener_lines o ≡ f ∷ [] → filter is_own (f ∷ []) ≡ f ∷ []
    → blocks_below (blocks_of (Some r)) (form_shape f) ≡ block_of o ∷ begun (blocks_of (Some r)) → Puts (done, Some r) (done, Some (with_block r o)) f
block_put done r o f p e own below = record {
  lines = ap (λ (zs : List Form). half_with done r r.frames (body_lines r.body ++ zs)) (append-nil (opener_lines o) ∙ e)
      ∙ half_push done r r.frames (body_lines r.body) (f ∷ []) ∙ ap (λ (zs : List Form). half_with done r r.frames (body_lines r.body) ++ zs) (sym own);
  blocks = ap (λ (bs : List Block). block_of o ∷ bs) (sym (begun_open r.body r.frames)) ∙ sym below;
  named = p;
}

-- ---- the next part of a block

record Turns (p : Part) (o : Opener) (body : List Stmt) (f : Form) (bs : List Block) : Type 0 where
  lines : opener_lines (next_part p o body) ≡ (opener_lines o ++ body_lines body) ++ f ∷ []
  blocks : block_of (next_part p o body) ∷ bs ≡ blocks_below (block_of o ∷ bs) (form_shape f)

turns_else : (o : Opener) (body : List Stmt) (bs : List Block) → HasPlace (block_of o ∷ bs) form.Else → Turns part.Else o body form.Else bs
unfolding form_shape blocks_below
turns_else (opener.If e) body bs h = record { lines = refl; blocks = refl }
turns_else (opener.Else e first) body bs h = absurd cc
turns_else (opener.While e) body bs h = absurd cc
turns_else opener.Try body bs h = absurd cc
turns_else (opener.Catch first clauses None) body bs h = absurd cc
turns_else (opener.Catch first clauses (Some x)) body bs h = absurd cc
turns_else (opener.Finally first) body bs h = absurd cc

turns_catch : (x : NameId) (o : Opener) (body : List Stmt) (bs : List Block) → HasPlace (block_of o ∷ bs) (form.Catch x) → Turns (part.Catch (Some x)) o body (form.Catch x) bs
unfolding form_shape blocks_below
turns_catch x (opener.If e) body bs h = absurd cc
turns_catch x (opener.Else e first) body bs h = absurd cc
turns_catch x (opener.While e) body bs h = absurd cc
turns_catch x opener.Try body bs h = record { lines = refl; blocks = refl }
turns_catch x (opener.Catch first clauses None) body bs h = absurd cc
turns_catch x (opener.Catch first clauses (Some y)) body bs h = record { lines = clause_after first clauses (Some y) (Some x) body; blocks = refl }
turns_catch x (opener.Finally first) body bs h = absurd cc

turns_catch_all : (o : Opener) (body : List Stmt) (bs : List Block) → HasPlace (block_of o ∷ bs) form.CatchAll → Turns (part.Catch None) o body form.CatchAll bs
unfolding form_shape blocks_below
turns_catch_all (opener.If e) body bs h = absurd cc
turns_catch_all (opener.Else e first) body bs h = absurd cc
turns_catch_all (opener.While e) body bs h = absurd cc
turns_catch_all opener.Try body bs h = record { lines = refl; blocks = refl }
turns_catch_all (opener.Catch first clauses None) body bs h = absurd cc
turns_catch_all (opener.Catch first clauses (Some y)) body bs h = record { lines = clause_after first clauses (Some y) None body; blocks = refl }
turns_catch_all (opener.Finally first) body bs h = absurd cc

turns_finally : (o : Opener) (body : List Stmt) (bs : List Block) → HasPlace (block_of o ∷ bs) form.Finally → Turns part.Finally o body form.Finally bs
unfolding form_shape blocks_below
turns_finally (opener.If e) body bs h = absurd cc
turns_finally (opener.Else e first) body bs h = absurd cc
turns_finally (opener.While e) body bs h = absurd cc
turns_finally opener.Try body bs h = record { lines = refl; blocks = refl }
turns_finally (opener.Catch first clauses None) body bs h = absurd cc
turns_finally (opener.Catch first clauses (Some y)) body bs h = absurd cc
turns_finally (opener.Finally first) body bs h = absurd cc

-- No part of the routine itself begins.
abbrev IsPart : Form → Type 0
IsPart f = (body : List Stmt) → HasPlace (routine_block body ∷ []) f → ⊥

else_is_part : IsPart form.Else
unfolding form_shape
else_is_part [] h = cc
else_is_part (s ∷ body) h = cc

catch_is_part : (x : NameId) → IsPart (form.Catch x)
unfolding form_shape
catch_is_part x [] h = cc
catch_is_part x (s ∷ body) h = cc

catch_all_is_part : IsPart form.CatchAll
unfolding form_shape
catch_all_is_part [] h = cc
catch_all_is_part (s ∷ body) h = cc

finally_is_part : IsPart form.Finally
unfolding form_shape
finally_is_part [] h = cc
finally_is_part (s ∷ body) h = cc

turn_put : (done : List Item) (r : OpenRoutine) (p : Part) (f : Form) (fs : List Frame) → HasParameter r.locals → filter is_own (f ∷ []) ≡ f ∷ [] → IsPart f
    → ((o : Opener) (bs : List Block) → HasPlace (block_of o ∷ bs) f → Turns p o r.body f bs) → HasPlace (open_blocks r.body fs) f
    → Puts (done, Some (with_parts r r.locals r.body fs)) (done, Some (next_part_begun p r fs)) f
turn_put done r p f [] q own is_part turns h = absurd (is_part r.body h)
turn_put done r p f (g ∷ fs) q own is_part turns h =
    let t : Turns p g.opener r.body f (outer_blocks fs) = turns g.opener (outer_blocks fs) h in
    record {
      lines = ap (λ (zs : List Form). half_with done r fs (body_lines g.outer ++ zs)) (append-nil (opener_lines (next_part p g.opener r.body)) ∙ t.lines)
          ∙ ap (half_with done r fs) (sym (append_assoc (body_lines g.outer) (opener_lines g.opener ++ body_lines r.body) (f ∷ [])))
          ∙ half_push done r fs (body_lines g.outer ++ (opener_lines g.opener ++ body_lines r.body)) (f ∷ [])
          ∙ ap (λ (zs : List Form). half_with done r (g ∷ fs) (body_lines r.body) ++ zs) (sym own);
      blocks = t.blocks;
      named = q;
    }

-- ---- the end of a block, and of the routine

closes : (o : Opener) (bs : List Block) → HasPlace (block_of o ∷ bs) form.End → closer o ≡ form.End
unfolding form_shape
closes (opener.If e) bs h = refl
closes (opener.Else e first) bs h = refl
closes (opener.While e) bs h = refl
closes opener.Try bs h = absurd cc
closes (opener.Catch first clauses None) bs h = absurd cc
closes (opener.Catch first clauses (Some x)) bs h = absurd cc
closes (opener.Finally first) bs h = absurd cc

closes_try : (o : Opener) (bs : List Block) → HasPlace (block_of o ∷ bs) form.Endtry → closer o ≡ form.Endtry
unfolding form_shape
closes_try (opener.If e) bs h = absurd cc
closes_try (opener.Else e first) bs h = absurd cc
closes_try (opener.While e) bs h = absurd cc
closes_try opener.Try bs h = refl
closes_try (opener.Catch first clauses None) bs h = refl
closes_try (opener.Catch first clauses (Some x)) bs h = refl
closes_try (opener.Finally first) bs h = refl

inner_put : (done : List Item) (r : OpenRoutine) (g : Frame) (fs : List Frame) (f : Form) → HasParameter r.locals → filter is_own (f ∷ []) ≡ f ∷ [] → closer g.opener ≡ f
    → blocks_below (outer_blocks (g ∷ fs)) (form_shape f) ≡ outer_blocks fs → Puts (done, Some (with_parts r r.locals r.body (g ∷ fs))) (block_closed done r (g ∷ fs)) f
inner_put done r g fs f q own is below = record {
  lines = ap (half_with done r fs) (joined_push stmt_lines g.outer (closed g.opener r.body)
      ∙ ap (λ (zs : List Form). body_lines g.outer ++ zs) (closed_lines g.opener r.body ∙ ap (λ (x : Form). opener_lines g.opener ++ (body_lines r.body ++ x ∷ [])) is ∙ sym (append_assoc (opener_lines g.opener) (body_lines r.body) (f ∷ [])))
      ∙ sym (append_assoc (body_lines g.outer) (opener_lines g.opener ++ body_lines r.body) (f ∷ [])))
      ∙ half_push done r fs (body_lines g.outer ++ (opener_lines g.opener ++ body_lines r.body)) (f ∷ [])
      ∙ ap (λ (zs : List Form). half_with done r (g ∷ fs) (body_lines r.body) ++ zs) (sym own);
  blocks = pushed g.outer (closed g.opener r.body) fs ∙ sym below;
  named = q;
}

no_try : (body : List Stmt) → HasPlace (routine_block body ∷ []) form.Endtry → ⊥
unfolding form_shape
no_try [] h = cc
no_try (s ∷ body) h = cc

endtry_put : (done : List Item) (r : OpenRoutine) (fs : List Frame) → HasParameter r.locals → HasPlace (open_blocks r.body fs) form.Endtry
    → Puts (done, Some (with_parts r r.locals r.body fs)) (block_closed done r fs) form.Endtry
unfolding form_shape blocks_below
endtry_put done r [] q h = absurd (no_try r.body h)
endtry_put done r (g ∷ fs) q h = inner_put done r g fs form.Endtry q refl (closes_try g.opener (outer_blocks fs) h) refl

end_put : (done : List Item) (r : OpenRoutine) (fs : List Frame) → HasParameter r.locals → HasPlace (open_blocks r.body fs) form.End
    → Puts (done, Some (with_parts r r.locals r.body fs)) (block_closed done r fs) form.End
unfolding form_shape blocks_below
end_put done r [] q h = record {
  lines = append-nil (items_lines (done ++ whole r ∷ [])) ∙ joined_push item_lines done (whole r)
      ∙ half_push done r [] (body_lines r.body) (form.End ∷ []);
  blocks = refl;
  named = tt;
}
end_put done r (g ∷ fs) q h = inner_put done r g fs form.End q refl (closes g.opener (outer_blocks fs) h) refl

-- ---- locals

local_head : (name : NameId) (locals : List (List ℕ)) (local : List ℕ) → HasParameter locals → head_lines name (locals ++ local ∷ []) ≡ head_lines name locals ++ form.Local local ∷ []
local_head name [] local q = absurd q
local_head name (parameter ∷ locals) local q = ap (λ (zs : List Form). form.Routine name parameter ∷ zs) (map-append (λ (n : List ℕ). form.Local n) locals (local ∷ []))

named_more : (locals : List (List ℕ)) (local : List ℕ) → HasParameter locals → HasParameter (locals ++ local ∷ [])
named_more [] local q = tt
named_more (parameter ∷ locals) local q = tt

no_inner_local : (o : Opener) (bs : List Block) → nesting_faults (block_of o ∷ bs) DeclaresLocal ≡ [] → ⊥
no_inner_local (opener.If e) bs h = cc
no_inner_local (opener.Else e first) bs h = cc
no_inner_local (opener.While e) bs h = cc
no_inner_local opener.Try bs h = cc
no_inner_local (opener.Catch first clauses None) bs h = cc
no_inner_local (opener.Catch first clauses (Some x)) bs h = cc
no_inner_local (opener.Finally first) bs h = cc

local_put : (done : List Item) (r : OpenRoutine) (local : List ℕ) (body : List Stmt) (fs : List Frame) → HasParameter r.locals → HasPlace (open_blocks body fs) (form.Local local)
    → Puts (done, Some (with_parts r r.locals body fs)) (done, Some (with_parts r (r.locals ++ local ∷ []) body fs)) (form.Local local)
unfolding form_shape blocks_below
local_put done r local [] [] q h = record {
  lines = ap (λ (zs : List Form). items_lines done ++ zs) (append-nil (head_lines r.name (r.locals ++ local ∷ [])) ∙ local_head r.name r.locals local q ∙ ap (λ (zs : List Form). zs ++ form.Local local ∷ []) (sym (append-nil (head_lines r.name r.locals))))
      ∙ sym (append_assoc (items_lines done) (head_lines r.name r.locals ++ []) (form.Local local ∷ []));
  blocks = refl;
  named = named_more r.locals local q;
}
local_put done r local (s ∷ body) [] q h = absurd cc
local_put done r local body (g ∷ fs) q h = absurd (no_inner_local g.opener (outer_blocks fs) h)

-- ---- in a routine

inside : (done : List Item) (r : OpenRoutine) (f : Form) → HasParameter r.locals → HasPlace (blocks_of (Some r)) f → Puts (done, Some r) (put_inside done r f) f
unfolding form_shape put_inside blocks_below
inside done r form.Header q h = absurd (no_declaration r.body r.frames h)
inside done r (form.Interface i) q h = absurd (no_declaration r.body r.frames h)
inside done r (form.Limit n) q h = absurd (no_declaration r.body r.frames h)
inside done r (form.Shared name n) q h = absurd (no_declaration r.body r.frames h)
inside done r (form.Exception name) q h = absurd (no_declaration r.body r.frames h)
inside done r (form.Status name n) q h = absurd (no_declaration r.body r.frames h)
inside done r (form.Mutex name) q h = absurd (no_declaration r.body r.frames h)
inside done r (form.MutexAttr name) q h = absurd (no_declaration r.body r.frames h)
inside done r (form.Cond name) q h = absurd (no_declaration r.body r.frames h)
inside done r (form.Attr name) q h = absurd (no_declaration r.body r.frames h)
inside done r (form.Key name) q h = absurd (no_declaration r.body r.frames h)
inside done r (form.Once name) q h = absurd (no_declaration r.body r.frames h)
inside done r (form.Pipe name n) q h = absurd (no_declaration r.body r.frames h)
inside done r (form.Routine name parameter) q h = absurd (no_routine r.body r.frames h)
inside done r (form.Local name) q h = local_put done r name r.body r.frames q h
inside done r (form.Set v e) q h = stmt_put done r (stmt.Set v e) (form.Set v e) q (each_stmt-Set stmt_step clause_step v e) refl refl
inside done r (form.Say e) q h = stmt_put done r (stmt.Say e) (form.Say e) q (each_stmt-Say stmt_step clause_step e) refl refl
inside done r (form.If e) q h = block_put done r (opener.If e) (form.If e) q refl refl refl
inside done r form.Else q h = turn_put done r part.Else form.Else r.frames q refl else_is_part (λ o bs k. turns_else o r.body bs k) h
inside done r (form.While e) q h = block_put done r (opener.While e) (form.While e) q refl refl refl
inside done r form.Try q h = block_put done r opener.Try form.Try q refl refl refl
inside done r (form.Catch x) q h = turn_put done r (part.Catch (Some x)) (form.Catch x) r.frames q refl (catch_is_part x) (λ o bs k. turns_catch x o r.body bs k) h
inside done r form.CatchAll q h = turn_put done r (part.Catch None) form.CatchAll r.frames q refl catch_all_is_part (λ o bs k. turns_catch_all o r.body bs k) h
inside done r form.Finally q h = turn_put done r part.Finally form.Finally r.frames q refl finally_is_part (λ o bs k. turns_finally o r.body bs k) h
inside done r form.Endtry q h = endtry_put done r r.frames q h
inside done r (form.Raise x) q h = stmt_put done r (stmt.Raise x) (form.Raise x) q (each_stmt-Raise stmt_step clause_step x) refl refl
inside done r form.Reraise q h = stmt_put done r stmt.Reraise form.Reraise q (each_stmt-Reraise stmt_step clause_step) refl refl
inside done r (form.Call name e v) q h = stmt_put done r (stmt.Call name e v) (form.Call name e v) q (each_stmt-Call stmt_step clause_step name e v) refl refl
inside done r (form.Return e) q h = stmt_put done r (stmt.Return e) (form.Return e) q (each_stmt-Return stmt_step clause_step e) refl refl
inside done r (form.Exit e) q h = stmt_put done r (stmt.Exit e) (form.Exit e) q (each_stmt-Exit stmt_step clause_step e) refl refl
inside done r (form.Dce call) q h = stmt_put done r (stmt.Dce call) (form.Dce call) q (each_stmt-Dce stmt_step clause_step call) refl refl
inside done r form.End q h = end_put done r r.frames q h

pub puts : (done : List Item) (o : Option OpenRoutine) (f : Form) → IsNamed o → HasPlace (blocks_of o) f → Puts (done, o) (put_at done o f) f
puts done None f q h = outside done f h
puts done (Some r) f q h = inside done r f q h

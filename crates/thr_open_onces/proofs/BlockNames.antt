-- In every history of a script that keeps the rules the once blocks whose routines run fit tables by names.
use Rattle.std.proofs.Common.{◌≡◌, ℕ, zero, suc, ◌≤◌, ◌<◌, true, List, ◌∷◌, length, Some, arith, refl, sym, subst}
use Rattle.std.specs.Prelude.{IfSome}
use Rattle.thr_values.specs.declared.number.NameId.{NameId}
use Rattle.thr_values.specs.declared.number.Tid.{Tid}
use Rattle.thr_syntax.specs.declared.dce.DceCall.{DceCall}
use Rattle.thr_syntax.specs.declared.dce.DceCall.TheVariants as dce
use Rattle.thr_syntax.specs.declared.form.Form.{Form}
use Rattle.thr_syntax.specs.declared.form.Form.TheVariants as form
use Rattle.thr_syntax.specs.declared.tree.Script.{Script}
use Rattle.thr_syntax.specs.Lines.{lines_of}
use Rattle.thr_text.specs.declared.object.Object.TheVariants as object
use Rattle.thr_text.specs.Reading.{Formed}
use Rattle.thr_remainder.specs.Remainders.{Item, Remainder, place_in}
use Rattle.thr_remainder.specs.Runs.{run_of, most_steps}
use Rattle.thr_remainder.proofs.StepsKept.{IsNextCall, IsKeptBySteps}
use Rattle.thr_parts.specs.Tables.{names}
use Rattle.thr_parts.specs.Cancels.{mode_at}
use Rattle.thr_laws.specs.CallsOnce.{form_at}
use Rattle.thr_model.specs.States.{remainder_of, setting_of}
use Rattle.thr_model.specs.Histories.{Execution, History}
use Rattle.thr_model.proofs.RemaindersKept.{IsKeptByTurns, remainder_has, history_has}
use Rattle.thr_answers.specs.Standing.{AreItems, StandsIn}
use Rattle.thr_answers.proofs.CallLines.{stands_as}
use Rattle.thr_answers.proofs.StepsStand.{IsSpot, IsPlace, place_stands, fresh_stands, quiet_keeps, shared_keeps, outward_keeps, replied_keeps, once_keeps, destructor_keeps}
use Rattle.thr_trees.specs.Kinds.{is_name_of}
use Rattle.thr_trees.specs.Names.{named_in, named_in_call, AreOfKinds, IsNamed, locals_at}
use Rattle.thr_trees.proofs.KindsAgree.{HasNames, has_names, named_is_known}
use Rattle.thr_trees.proofs.LinesNamed.{line_is_named}
use Rattle.thr_open_onces.specs.Blocks.{block_of}
use Rattle.thr_open_onces.proofs.BlocksKept.{AreFit, quiet_fits, shared_fits, outward_fits, replied_fits, once_fits}
use Rattle.thr_open_onces.proofs.RunsFit.{run_fits}

-- ---- the block of a call

at_line : (s : Script) → Formed s → (line : ℕ) (f : Form) → form_at s line ≡ Some f → AreOfKinds s (named_in f)
at_line s h zero f e = absurd (cc)
at_line s h (suc n) f e = let x : IsNamed s (locals_at s n) f = line_is_named s h n f e in x.named

-- The names of a call that is next are of the kinds that their places ask.
next_named : (s : Script) → Formed s → (r : Remainder) (call : DceCall) → StandsIn s r → IsNextCall r call → AreOfKinds s (named_in_call call)
next_named s h r call k i =
    let here : IsPlace (lines_of s) (place_in r.items) = place_stands (lines_of s) r.items k.items in
    let spot : IsSpot (lines_of s) i.spot = subst (IsPlace (lines_of s)) i.here here in
    at_line s h i.spot.line (form.Dce call) (stands_as s i.spot.line i.spot.stmt i.spot.rest call spot.here i.asks)

-- And a name of a once block is one of few.
block_fits : (s : Script) → Formed s → (block : NameId) → is_name_of s object.Once block ≡ true → block.0 < names
block_fits s h block e =
    let all : HasNames s = has_names s h in
    let few : length s.names ≤ 1010 = all.few in
    let below : block.0 < length s.names = (named_is_known s all object.Once block e).below in omega (arith, few, below)

-- So the block of a call that is next is one of them.
next_fits : (s : Script) → Formed s → (block routine : NameId) (r : Remainder) → StandsIn s r → IsNextCall r (dce.Once block routine) → block.0 < names
next_fits s h block routine r k i = block_fits s h block (next_named s h r (dce.Once block routine) k i).0

-- ---- what is left in a thread

-- What is left stands at its lines, and where the script keeps the rules the once blocks whose routines run fit tables by names.
record HasBlocks (s : Script) (r : Remainder) : Type 0 where
  stands : StandsIn s r
  blocks : Formed s → AreFit r.items

undone_has : (s : Script) (i : Item) (outer : List Item) (r to : Remainder) → r.items ≡ i ∷ outer → to.items ≡ outer → HasBlocks s r → HasBlocks s to
undone_has s i outer r to e f h =
    let items : AreItems (lines_of s) (i ∷ outer) = subst (AreItems (lines_of s)) e h.stands.items in
    record {
      stands = record { items = subst (AreItems (lines_of s)) (sym f) items.2 };
      blocks = λ formed. (let fit : AreFit (i ∷ outer) = subst AreFit e (h.blocks formed) in subst AreFit (sym f) fit.1);
    }

blocks_by_steps : IsKeptBySteps HasBlocks
blocks_by_steps = record {
  begins = λ s routine n. record { stands = fresh_stands s routine n; blocks = λ formed. (tt, tt) };
  steps = λ g r h. record { stands = quiet_keeps g r h.stands; blocks = λ formed. quiet_fits g r (h.blocks formed) };
  shares = λ g shared r h. record { stands = shared_keeps g shared r h.stands; blocks = λ formed. shared_fits g shared r (h.blocks formed) };
  goes = λ g u r e h. record { stands = outward_keeps g u r h.stands; blocks = λ formed. outward_fits g u r (h.blocks formed) };
  undoes = λ g scope block routine left u outer r e h. undone_has g.script _ outer r _ e refl h;
  replies = λ g y r h. record { stands = replied_keeps g y r h.stands; blocks = λ formed. replied_fits g y r (h.blocks formed) };
  runs = λ g block routine r after asks h more. record {
    stands = once_keeps g block routine after more.stands;
    blocks = λ formed. once_fits g block routine after (next_fits g.script formed block routine r h.stands asks) (more.blocks formed);
  };
  destroys = λ g key routine n r h. record { stands = destructor_keeps g key routine n r h.stands; blocks = λ formed. (tt, (tt, h.blocks formed)) };
  raises = λ s x r h. record { stands = record { items = h.stands.items }; blocks = λ formed. h.blocks formed };
  delivers = λ s r h. record { stands = record { items = h.stands.items }; blocks = λ formed. h.blocks formed };
}

blocks_by_turns : IsKeptByTurns HasBlocks
blocks_by_turns = record { kept = blocks_by_steps; nothing = λ s. record { stands = record { items = tt }; blocks = λ formed. tt } }

-- In every history the once block that ends the quiet part of a turn fits tables by names.
pub history_blocks : {s : Script} {n : ℕ} {x : Execution} → Formed s → History s n x → (t : Tid)
    → IfSome (block_of (run_of most_steps (setting_of s x.state t) (mode_at x.state.threads t) (remainder_of x.state t)).halt) (λ o. o.0 < names)
history_blocks {s} {n} {x} formed h t =
    let left : HasBlocks s (remainder_of x.state t) = remainder_has HasBlocks blocks_by_turns s x.state t (history_has HasBlocks blocks_by_turns h) in
    run_fits most_steps (setting_of s x.state t) (mode_at x.state.threads t) (remainder_of x.state t) (left.blocks formed)

-- Steps of a turn, from the moves of the thread and from what the service did.
use Rattle.std.proofs.Common.{◌≡◌, ℤ, List, ◌++◌, map, append_assoc, refl, sym, ap, ◌∙◌}
use Rattle.thr_values.specs.declared.number.Tid.{Tid}
use Rattle.thr_values.specs.declared.history.Entry.{Entry}
use Rattle.thr_syntax.specs.declared.tree.Script.{Script}
use Rattle.thr_remainder.specs.Remainders.{Remainder, Move}
use Rattle.thr_parts.specs.Tables.{Table, put}
use Rattle.thr_model.specs.States.{State}
use Rattle.thr_model.specs.Turns.{Made, thread_line, moved, after_entries}
use Rattle.thr_services.specs.Views.{ServicesView, state_with}
use Rattle.thr_frames.specs.Stacks.{StackView, remainder_of}
use Rattle.thr_turns.specs.declared.workings.Left.{Left}
use Rattle.thr_turns.specs.declared.workings.Left.TheVariants.{Goes}
use Rattle.thr_turns.specs.Steps.{HasMoved, StepsTo}

same-made : (v : ServicesView) (shared : Table ℤ) (rs : Table Remainder) (t : Tid) (r r' : Remainder) (ls : List Entry) → r ≡ r'
    → (let m : Made = record { state = state_with v (put rs t.0 r) shared; lines = ls } in m) ≡ record { state = state_with v (put rs t.0 r') shared; lines = ls }
same-made v shared rs t r r' ls e = rw e refl

-- A move of the thread after a change of the state.
pub step-moved : (s : Script) (t : Tid) (v v' : ServicesView) (shared shared' : Table ℤ) (k k' : StackView) (before after : List Entry) (word : State → Made) (changed : Table Remainder → State) (move : Move)
    → ((rs : Table Remainder) → word (state_with v rs shared) ≡ moved (changed rs) t move) → ((rs : Table Remainder) → changed rs ≡ state_with v' rs shared')
    → HasMoved s t move k k' before after → StepsTo s t v v' shared shared' k k' before after Goes word
step-moved s t v v' shared shared' k k' before after word changed move is change m = record {
  lines = map (thread_line t) move.lines;
  written = m.written;
  made = λ rs. is rs ∙ ap (λ (st : State). moved st t move) (change rs) ∙ same-made v' shared' rs t move.to (remainder_of s k') (map (thread_line t) move.lines) (sym m.to);
  setting = m.setting;
  stack = m.stack;
  begun = tt;
  over = tt;
}

-- Lines that were written before a step are its first ones.
pub step-after : (s : Script) (t : Tid) (v v' : ServicesView) (shared shared' : Table ℤ) (k k' : StackView) (before mid after : List Entry) (es : List Entry) (left : Left) (word : State → Made)
    → mid ≡ before ++ es → StepsTo s t v v' shared shared' k k' mid after left word → StepsTo s t v v' shared shared' k k' before after left (λ st. after_entries es (word st))
step-after s t v v' shared shared' k k' before mid after es left word begins h = record {
  lines = es ++ h.lines;
  written = h.written ∙ ap (λ (xs : List Entry). xs ++ h.lines) begins ∙ append_assoc before es h.lines;
  made = λ rs. ap (after_entries es) (h.made rs);
  setting = h.setting;
  stack = h.stack;
  begun = h.begun;
  over = h.over;
}

-- The same step of the machine under another name.
pub as-step : (s : Script) (t : Tid) (v v' : ServicesView) (shared shared' : Table ℤ) (k k' : StackView) (before after : List Entry) (left : Left) (word other : State → Made)
    → ((rs : Table Remainder) → other (state_with v rs shared) ≡ word (state_with v rs shared)) → StepsTo s t v v' shared shared' k k' before after left word
    → StepsTo s t v v' shared shared' k k' before after left other
as-step s t v v' shared shared' k k' before after left word other same h = record {
  lines = h.lines;
  written = h.written;
  made = λ rs. same rs ∙ h.made rs;
  setting = h.setting;
  stack = h.stack;
  begun = h.begun;
  over = h.over;
}

-- What ends the quiet part of a turn, as steps of the turn.
use Rattle.std.proofs.Common.{◌≡◌, ◌+◌, ◌-◌, ℤ, List, [], ◌∷◌, ◌++◌, refl, sym, ap, ◌∙◌, Option, Some, None}
use Rattle.thr_values.specs.declared.number.NameId.{NameId}
use Rattle.thr_values.specs.declared.number.Tid.{Tid}
use Rattle.thr_values.specs.declared.history.What.{What}
use Rattle.thr_values.specs.declared.history.What.TheVariants as what
use Rattle.thr_values.specs.declared.history.Entry.{Entry}
use Rattle.thr_values.specs.declared.reply.Reply.TheVariants as reply
use Rattle.thr_syntax.specs.declared.tree.Script.{Script}
use Rattle.thr_remainder.specs.Remainders.{Remainder, Setting, Move}
use Rattle.thr_remainder.specs.Starts.{delivered, begins_destructor}
use Rattle.thr_remainder.specs.Steps.{written}
use Rattle.thr_remainder.specs.Next.{Next, EndsOnce, UndoesOnce, next}
use Rattle.thr_parts.specs.declared.row.RowId.TheVariants as row
use Rattle.thr_parts.specs.Tables.{Table, cut}
use Rattle.thr_parts.specs.Moves.{free_row}
use Rattle.thr_parts.specs.Cancels.{deliver}
use Rattle.thr_parts.specs.Keys.{Onces, DestructorCall, NextDestructor, with_keys, keys_called, first_call, next_destructor}
use Rattle.thr_parts.specs.OnceBlocks as once
use Rattle.thr_model.specs.States.{State, rank_of}
use Rattle.thr_model.specs.Turns.{Made, thread_line, freed, thread_ended, handed_on, delivery_made, completion_made, end_made, ending_made}
use Rattle.thr_services.specs.Views.{ServicesView, state_with}
use Rattle.thr_frames.specs.Stacks.{StackView, remainder_of, setting_of, IsStack, HasNoFrame}
use Rattle.thr_turns.specs.declared.workings.Left.TheVariants.{Goes, Ended}
use Rattle.thr_turns.specs.Steps.{HasMoved, StepsTo}
use Rattle.thr_turns.proofs.StepLaws.{step-moved}

-- ---- deliveries

pub delivery-step : (s : Script) (t : Tid) (v v' : ServicesView) (shared : Table ℤ) (k k' : StackView) (before after : List Entry)
    → ((rs : Table Remainder) (values : Table ℤ) → (let st : State = record (state_with v rs values) { threads = deliver v.threads t } in st) ≡ state_with v' rs values)
    → HasMoved s t (delivered (remainder_of s k)) k k' before after → StepsTo s t v v' shared shared k k' before after Goes (λ st. delivery_made st t (remainder_of s k))
delivery-step s t v v' shared k k' before after change m =
    step-moved s t v v' shared shared k k' before after _ (λ rs. record (state_with v rs shared) { threads = deliver v.threads t }) (delivered (remainder_of s k)) (λ rs. refl) (λ rs. change rs shared) m

-- ---- once blocks

-- A once block that was done, or undone, with the step by which its thread leaves it.
abbrev block-at : Next → NameId → NameId
block-at (EndsOnce block move) other = block
block-at (UndoesOnce block move) other = block
block-at _ other = other

abbrev move-at : Next → Move → Move
move-at (EndsOnce block move) other = move
move-at (UndoesOnce block move) other = move
move-at _ other = other

ends-block : (n : Next) (a b : NameId) (m o : Move) → n ≡ EndsOnce a m → n ≡ EndsOnce b o → a ≡ b
ends-block n a b m o e f = ap (λ (x : Next). block-at x a) (sym e ∙ f)

ends-move : (n : Next) (a b : NameId) (m o : Move) → n ≡ EndsOnce a m → n ≡ EndsOnce b o → m ≡ o
ends-move n a b m o e f = ap (λ (x : Next). move-at x m) (sym e ∙ f)

-- What became of a block that is done.
abbrev completed : State → NameId → State
completed st block = freed (record st { onces = once.done st.onces block }) reply.Done (free_row (rank_of st) st.rows (row.Once block))

-- What became of a block that was undone.
abbrev undone : State → NameId → State
undone st block = handed_on st (once.undone st.onces st.rows block) (once.undone st.onces st.rows block).runner

pub completion-step : (s : Script) (t : Tid) (v v' : ServicesView) (shared : Table ℤ) (k k' : StackView) (before after : List Entry) (block : NameId) (move : Move)
    → ((rs : Table Remainder) (values : Table ℤ) → completed (state_with v rs values) block ≡ state_with v' rs values)
    → next (setting_of s k) (remainder_of s k) ≡ EndsOnce block move → HasMoved s t move k k' before after
    → (known : NameId) (other : Move) → next (setting_of s k) (remainder_of s k) ≡ EndsOnce known other
    → StepsTo s t v v' shared shared k k' before after Goes (λ st. completion_made st t known other)
completion-step s t v v' shared k k' before after block move change is m known other same =
    let n : Next = next (setting_of s k) (remainder_of s k) in
    rw (ends-block n known block other move same is, ends-move n known block other move same is)
    (step-moved s t v v' shared shared k k' before after (λ st. completion_made st t block move) (λ rs. completed (state_with v rs shared) block) move (λ rs. refl) (λ rs. change rs shared) m)

-- ---- ends of threads

-- The next destructor that is there, or none.
pub destructor-step : (s : Script) (t : Tid) (v v' : ServicesView) (shared : Table ℤ) (k k' : StackView) (before after : List Entry) (call : DestructorCall)
    → ((rs : Table Remainder) (values : Table ℤ) → (let st : State = record (state_with v rs values) { onces = (next_destructor v.onces.state t).onces } in st) ≡ state_with v' rs values)
    → Some call ≡ (next_destructor v.onces.state t).call → HasMoved s t (begins_destructor (setting_of s k) call.0 call.1 call.2 (remainder_of s k)) k k' before after
    → StepsTo s t v v' shared shared k k' before after Goes (λ st. ending_made st t (setting_of s k) (remainder_of s k))
destructor-step s t v v' shared k k' before after call change is m =
    let g = setting_of s k in
    let r = remainder_of s k in
    let o : NextDestructor = next_destructor v.onces.state t in
    step-moved s t v v' shared shared k k' before after _ (λ rs. record (state_with v rs shared) { onces = o.onces }) (begins_destructor g call.0 call.1 call.2 r)
    (λ rs. ap (end_made (state_with v rs shared) t g r o) (sym is)) (λ rs. change rs shared) m

none-called : (os : Onces) (t : Tid) (o : Option DestructorCall) → o ≡ None → with_keys os (keys_called os.keys t o) ≡ os
none-called os t None e = refl
none-called os t (Some c) e = absurd (cc)

onces-same : (os : Onces) (t : Tid) → None ≡ (next_destructor os t).call → (next_destructor os t).onces ≡ os
onces-same os t e = none-called os t (first_call t os.keys) (sym e)

-- What becomes of a thread that ends.
abbrev ended-state : State → Tid → ℤ → State
ended-state st t n = thread_ended st t n (free_row (rank_of st) st.rows (row.Join t))

same-service : (v v1 : ServicesView) (t : Tid) → ((rs : Table Remainder) (values : Table ℤ) → (let st : State = record (state_with v rs values) { onces = (next_destructor v.onces.state t).onces } in st) ≡ state_with v1 rs values)
    → None ≡ (next_destructor v.onces.state t).call → (rs : Table Remainder) (values : Table ℤ) → state_with v rs values ≡ state_with v1 rs values
same-service v v1 t change none rs values =
    ap (λ (os : Onces). let st : State = record (state_with v rs values) { onces = os } in st) (sym (onces-same v.onces.state t none)) ∙ change rs values

end-made-is : (st : State) (t : Tid) (g : Setting) (r : Remainder) (o : NextDestructor) (value : ℤ) → value ≡ r.value
    → end_made st t g r o None ≡ record { state = ended-state st t value; lines = thread_line t (what.End value) ∷ [] }
end-made-is st t g r o value e = rw e refl

pub end-step : (s : Script) (t : Tid) (v v1 v' : ServicesView) (shared : Table ℤ) (k k' : StackView) (before after : List Entry) (value seen : ℤ)
    → ((rs : Table Remainder) (values : Table ℤ) → (let st : State = record (state_with v rs values) { onces = (next_destructor v.onces.state t).onces } in st) ≡ state_with v1 rs values)
    → None ≡ (next_destructor v.onces.state t).call
    → seen ≡ value → ((rs : Table Remainder) (values : Table ℤ) → ended-state (state_with v1 rs values) t seen ≡ state_with v' (cut rs t.0) values)
    → value ≡ (remainder_of s k).value → after ≡ before ++ thread_line t (what.End value) ∷ [] → HasNoFrame k' → IsStack s k' → setting_of s k' ≡ setting_of s k
    → StepsTo s t v v' shared shared k k' before after Ended (λ st. ending_made st t (setting_of s k) (remainder_of s k))
end-step s t v v1 v' shared k k' before after value seen change none back ends is wrote bare good set =
    let g = setting_of s k in
    let r = remainder_of s k in record {
      lines = thread_line t (what.End value) ∷ [];
      written = wrote;
      made = λ rs. ap (end_made (state_with v rs shared) t g r (next_destructor v.onces.state t)) (sym none)
          ∙ end-made-is (state_with v rs shared) t g r (next_destructor v.onces.state t) value is
          ∙ ap (λ (st : State). let m : Made = record { state = ended-state st t value; lines = thread_line t (what.End value) ∷ [] } in m) (same-service v v1 t change none rs shared)
          ∙ ap (λ (n : ℤ). let m : Made = record { state = ended-state (state_with v1 rs shared) t n; lines = thread_line t (what.End value) ∷ [] } in m) (sym back)
          ∙ ap (λ (st : State). let m : Made = record { state = st; lines = thread_line t (what.End value) ∷ [] } in m) (ends rs shared);
      setting = set;
      stack = good;
      begun = tt;
      over = bare;
    }

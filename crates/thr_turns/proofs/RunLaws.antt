-- The quiet part of a turn with what ends it, and what a thread owes, as steps of the turn.
use Rattle.std.proofs.Common.{◌≡◌, ◌+◌, ℤ, true, List, [], ◌∷◌, ◌++◌, refl, ap, ◌∙◌, None}
use Rattle.thr_values.specs.declared.number.NameId.{NameId}
use Rattle.thr_values.specs.declared.number.Tid.{Tid}
use Rattle.thr_values.specs.declared.history.What.TheVariants as what
use Rattle.thr_values.specs.declared.history.Entry.{Entry}
use Rattle.thr_values.specs.declared.reply.Reply.TheVariants as reply
use Rattle.thr_syntax.specs.declared.dce.DceCall.{DceCall}
use Rattle.thr_syntax.specs.declared.tree.Script.{Script}
use Rattle.thr_remainder.specs.Acts.{Act, Asks}
use Rattle.thr_remainder.specs.Remainders.{Remainder, Setting, Move, Spot, Place, Nowhere, AtEnd, At, place_in, act_at}
use Rattle.thr_remainder.specs.Replies.{replied}
use Rattle.thr_parts.specs.Tables.{Table}
use Rattle.thr_model.specs.States.{Running, with_writes}
use Rattle.thr_model.specs.Turns.{thread_line, moved, stores_of, runs_if, begun_at, begun_by, debt_made}
use Rattle.thr_services.specs.Views.{ServicesView, state_with}
use Rattle.thr_frames.specs.Stacks.{StackView, remainder_of, setting_of, asked_by, HasNoCall, IsNextCall}
use Rattle.thr_turns.specs.declared.workings.Left.TheVariants.{Goes}
use Rattle.thr_turns.specs.Steps.{HasMoved, StepsTo}
use Rattle.thr_turns.proofs.MoveLaws.{as-move}
use Rattle.thr_turns.proofs.ReplyLaws.{done-stores}
use Rattle.thr_turns.proofs.StepLaws.{step-moved, step-after}

-- ---- what a thread owed

stored-state : (v v' : ServicesView) (rs : Table Remainder) (shared shared' : Table ℤ) (ws : List (NameId × ℤ)) → v' ≡ v → shared' ≡ with_writes shared ws
    → state_with v rs (with_writes shared ws) ≡ state_with v' rs shared'
stored-state v v' rs shared shared' ws e f = rw (e, f) refl

none-by : (g : Setting) (act : Act) (m : Move) → asked_by act ≡ None → begun_by g act m ≡ m
none-by g (Asks call) m h = absurd (cc)
none-by g _ m h = refl

none-at : (g : Setting) (p : Place) (m : Move) → ((spot : Spot) → p ≡ At spot → asked_by (act_at spot) ≡ None) → begun_at g p m ≡ m
none-at g (At h) m none = none-by g (act_at h) m (none h refl)
none-at g Nowhere m none = refl
none-at g (AtEnd close role outer) m none = refl

-- Where no call is next, no routine begins.
pub none-begins : (g : Setting) (r : Remainder) (m : Move) → HasNoCall r → begun_at g (place_in r.items) m ≡ m
none-begins g r m none = none-at g (place_in r.items) m none

-- Where a call is next, it begins its routine.
pub call-begins : (s : Script) (g : Setting) (r : Remainder) (call : DceCall) (m : Move) → IsNextCall s r call → begun_at g (place_in r.items) m ≡ runs_if true g call m
call-begins s g r call m next = ap (λ (p : Place). begun_at g p m) next.here ∙ ap (λ (a : Act). begun_by g a m) next.asks

pub running-step : (s : Script) (t : Tid) (v v' : ServicesView) (shared shared' : Table ℤ) (k k' : StackView) (before mid after : List Entry) (move : Move)
    → mid ≡ before ++ thread_line t (what.Ret reply.Done) ∷ [] → v' ≡ v → shared' ≡ with_writes shared (stores_of (remainder_of s k) reply.Done)
    → begun_at (setting_of s k) (place_in (remainder_of s k).items) (replied (setting_of s k) reply.Done (remainder_of s k)) ≡ move → HasMoved s t move k k' mid after
    → StepsTo s t v v' shared shared' k k' before after Goes (λ st. debt_made st t (setting_of s k) (remainder_of s k) Running)
running-step s t v v' shared shared' k k' before mid after move wrote same stored is m =
    let g = setting_of s k in
    let r = remainder_of s k in
    let whole : Move = begun_at g (place_in r.items) (replied g reply.Done r) in
    step-after s t v v' shared shared' k k' before mid after (thread_line t (what.Ret reply.Done) ∷ []) Goes (λ st. moved st t whole) wrote
    (step-moved s t v v' shared shared' k k' mid after _ (λ rs. state_with v rs shared) whole (λ rs. refl)
    (λ rs. stored-state v v' rs shared shared' [] same (stored ∙ ap (with_writes shared) (done-stores r)))
    (as-move s t move whole k k' mid after is m))

-- What calls of the thread service are answered (docs/machine.md, "Calls").
use Rattle.std.specs.Prelude.{◌≡◌, ℤ, false, List, [], ◌∷◌, Option, Some, None}
use Rattle.thr_values.specs.declared.number.Tid.{Tid}
use Rattle.thr_values.specs.declared.number.NameId.{NameId}
use Rattle.thr_values.specs.declared.reply.Reply.{Reply}
use Rattle.thr_syntax.specs.declared.tree.Script.{Script}
use Rattle.thr_remainder.specs.Remainders.{Remainder}
use Rattle.thr_remainder.specs.Starts.{fresh}
use Rattle.thr_parts.specs.Tables.{Table, put}
use Rattle.thr_model.specs.States.{State}
use Rattle.thr_model.specs.Calls.{Gifts, Answered}
use Rattle.thr_services.specs.declared.answer.Answer.{Answer}
use Rattle.thr_services.specs.declared.answer.Numbers.{Numbers}
use Rattle.thr_services.specs.declared.answer.Numbers.TheVariants as numbers
use Rattle.thr_services.specs.Views.{ServicesView, state_with}

-- The reply alone.
abbrev pub plain : Reply → Answer
plain y = record { reply = y; runs = false; begins = None }

-- What is left to do in threads, where the thread that is there begins its routine with its argument (docs/machine.md, "Thread
-- records").
abbrev pub begun : Script → Table Remainder → Option (Tid × NameId × ℤ) → Table Remainder
begun s remainders None = remainders
begun s remainders (Some b) = put remainders b.0.0 (fresh s b.1 b.2)

-- What the service answers and gives, and what it has then, are what the machine answers by this word, whatever is left to do
-- in threads and whatever values shared variables have (docs/machine.md, "Calls").
abbrev pub Answers : ServicesView → ServicesView → Answer → Gifts → (Script → State → Answered) → Type 0
Answers old new a gifts word =
    (s : Script) (remainders : Table Remainder) (shared : Table ℤ)
    → word s (state_with old remainders shared)
    ≡ record { reply = a.reply; state = state_with new (begun s remainders a.begins) shared; gifts = gifts; runs = a.runs }

-- The values of the expressions of a call, in their order (docs/machine.md, "Calls").
abbrev pub listed : Numbers → List ℤ
listed numbers.Nothing = []
listed (numbers.One n) = n ∷ []
listed (numbers.Two n k) = n ∷ k ∷ []

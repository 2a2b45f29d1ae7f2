-- The slots that are still to be filled, as the form check keeps them.
use Rattle.std.specs.Prelude.{ℕ, List, ◌++◌, replicate}
use Rattle.thr_text.specs.declared.head.Slot.{Slot}
use Rattle.thr_text.specs.declared.head.Slot.TheVariants.{Exception, Expression}
use Rattle.thr_forms.specs.declared.form.Pending.{Pending}

-- Slots for so many exceptions, then for so many expressions, then these.
abbrev pub slots_after : ℕ → ℕ → List Slot → List Slot
slots_after exceptions expressions slots = replicate exceptions Exception ++ (replicate expressions Expression ++ slots)

abbrev pub pending : Pending → List Slot
pending p = slots_after p.exceptions p.expressions p.slots.now

-- What attribute cells hold after a change.
use Rattle.std.proofs.Common.{◌≡◌, ℕ, Bool, true, false, cond, eqb, Some, None, sym, ◌∙◌, ap, subst}
use Rattle.thr_parts.specs.declared.thread.Attr.{Attr}
use Rattle.thr_parts.specs.Tables.{Table, none, get, put, cut}
use Rattle.thr_parts.proofs.TableLaws.{get_none, get_put, get_cut}
use Rattle.thr_threads.specs.Records.{IsRight}
use Rattle.thr_threads.specs.Cells.{AreRight}

pub right_none : (cells : Table Attr) → cells ≡ none → AreRight cells
right_none cells e = λ a cell is. absurd (cc (ap (λ (m : Table Attr). get m a) e, get_none {A = Attr} a))

put_right : (cells : Table Attr) (made cell : Attr) (q : ℕ) (b : Bool) → AreRight cells → IsRight made.prio made.frames → cond b (Some made) (get cells q) ≡ Some cell
    → IsRight cell.prio cell.frames
put_right cells made cell q true h right e =
    let same : made ≡ cell = cc in subst (λ (c : Attr). IsRight c.prio c.frames) same right
put_right cells made cell q false h right e = h q cell e

pub right_put : (cells cells' : Table Attr) (a : ℕ) (made : Attr) → AreRight cells → IsRight made.prio made.frames → cells' ≡ put cells a made → AreRight cells'
right_put cells cells' a made h right e = λ q cell is.
    put_right cells made cell q (eqb a q) h right (sym (get_put cells a q made) ∙ ap (λ (m : Table Attr). get m q) (sym e) ∙ is)

cut_right : (cells : Table Attr) (cell : Attr) (q : ℕ) (b : Bool) → AreRight cells → cond b None (get cells q) ≡ Some cell → IsRight cell.prio cell.frames
cut_right cells cell q true h e = absurd (cc)
cut_right cells cell q false h e = h q cell e

pub right_cut : (cells cells' : Table Attr) (a : ℕ) → AreRight cells → cells' ≡ cut cells a → AreRight cells'
right_cut cells cells' a h e = λ q cell is.
    cut_right cells cell q (eqb a q) h (sym (get_cut cells a q) ∙ ap (λ (m : Table Attr). get m q) (sym e) ∙ is)

use Rattle.std.proofs.Common.{◌≡◌, ◌∙◌, ap, sym, subst, ℕ, true}
use Rattle.std.specs.Prelude.{IfSome}
use Rattle.std.specs.List.{filter}
use Rattle.thr_parts.specs.declared.row.Seat.{Seat}
use Rattle.thr_parts.specs.Tables.{Table, has}
use Rattle.thr_parts.specs.Rows.{Seated, place_in, best_of}
use Rattle.thr_rows.proofs.AbleLaws.{able_in, waiting_in}
use Rattle.thr_rows.proofs.BestLaws.{best_known}
use Rattle.thr_rows.proofs.seating.Seating.best.Goals as goal

abbrev best_ready : (c : goal.After-best_in) → c.best_in.result ≡ best_of (filter (λ (e : ℕ × Seat). place_in c.args.row e.1.place) c.self.inside.all)
best_ready c =
    c.best_in.ensures.best ∙ ap (λ (l : Seated). best_of (filter (λ (e : ℕ × Seat). place_in c.args.row e.1.place) l)) (c.entries.ensures.entries ∙ c.self.invariant.0)
    ∙ ap best_of (able_in c.args.row c.self.inside.all (sym c.is_ready.ensures ∙ c.if-is_ready.true))

abbrev best_waiting : (c : goal.After-best) → c.best.result ≡ best_of (filter (λ (e : ℕ × Seat). place_in c.args.row e.1.place) c.self.inside.all)
best_waiting c =
    c.best.ensures ∙ ap (λ (l : Seated). best_of (filter (λ (e : ℕ × Seat). place_in c.args.row e.1.place) l)) c.self.invariant.1
    ∙ ap best_of (waiting_in c.args.row c.self.inside.all (sym c.is_ready.ensures ∙ c.if-is_ready.false))

pub returns-then-is_ready-clause-best : goal.returns-then-is_ready-clause-best
returns-then-is_ready-clause-best c =
    best_ready c ∙ ap (λ (m : Table Seat). best_of (filter (λ (e : ℕ × Seat). place_in c.args.row e.1.place) m)) c.self.view_is

pub returns-then-is_ready-clause-known : goal.returns-then-is_ready-clause-known
returns-then-is_ready-clause-known c =
    subst (λ (m : Table Seat). IfSome c.best_in.result (λ e. has m e.0 ≡ true)) c.self.view_is
    (best_known c.self.inside.all c.args.row c.best_in.result c.len-rises.ensures.rises (best_ready c))

pub returns-clause-best : goal.returns-clause-best
returns-clause-best c =
    best_waiting c ∙ ap (λ (m : Table Seat). best_of (filter (λ (e : ℕ × Seat). place_in c.args.row e.1.place) m)) c.self.view_is

pub returns-clause-known : goal.returns-clause-known
returns-clause-known c =
    subst (λ (m : Table Seat). IfSome c.best.result (λ e. has m e.0 ≡ true)) c.self.view_is
    (best_known c.self.inside.all c.args.row c.best.result c.len-rises.ensures.rises (best_waiting c))

use Rattle.std.proofs.Common.{◌≡◌, ◌∙◌, ap, cond, true, sym, subst}
use Rattle.std.specs.Result.{is_ok}
use Rattle.std.specs.List.{insert}
use Rattle.thr_once.specs.Values.{by_place, AreOrdered}
use Rattle.thr_once.proofs.OrderLaws.{replaced_is, inserted_is, ordered_replaced, ordered_inserted}
use Rattle.thr_once.proofs.values.put.Goals as goal

pub returns-in-Ok-clause-values : goal.returns-in-Ok-clause-values
returns-in-Ok-clause-values c =
    let stands = rw c.deref.ensures.value at c.in-Ok.ensures.stands in
    replaced_is c.args.values.now.items c.in-Ok.i c.args.value stands.0 stands.2

pub returns-in-Ok-clause-ordered : goal.returns-in-Ok-clause-ordered
returns-in-Ok-clause-ordered c = ordered_replaced c.args.values.now.items c.in-Ok.i c.args.value c.requires.known c.requires.ordered (returns-in-Ok-clause-values c)

pub returns-in-Err-clause-values : goal.returns-in-Err-clause-values
returns-in-Err-clause-values c =
    let misses = rw c.deref.ensures.value at c.in-Err.ensures.misses in
    let done : is_ok c.insert.result ≡ true = c.insert.ensures.succeeds c.requires.room in
    ap by_place (c.insert.ensures.items ∙ ap (λ b. cond b (insert c.args.values.now.items c.in-Err.i c.args.value) c.args.values.now.items) done)
    ∙ inserted_is c.args.values.now.items c.in-Err.i c.args.value misses.0 misses.2

pub returns-in-Err-clause-ordered : goal.returns-in-Err-clause-ordered
returns-in-Err-clause-ordered c =
    let misses = rw c.deref.ensures.value at c.in-Err.ensures.misses in
    let done : is_ok c.insert.result ≡ true = c.insert.ensures.succeeds c.requires.room in
    subst AreOrdered (sym (c.insert.ensures.items ∙ ap (λ b. cond b (insert c.args.values.now.items c.in-Err.i c.args.value) c.args.values.now.items) done))
    (ordered_inserted c.args.values.now.items c.in-Err.i c.args.value c.requires.known c.requires.ordered (inserted_is c.args.values.now.items c.in-Err.i c.args.value misses.0 misses.2))

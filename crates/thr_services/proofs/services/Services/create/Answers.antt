use Rattle.std.proofs.Common.{◌≡◌, ℤ, None, to_z, of_z, w64, SFits, arith, refl, sym, subst}
use Rattle.std.proofs.lemmas.Int.{to_z-of_z, ints}
use Rattle.thr_parts.specs.Threads.{record_of}
use Rattle.thr_services.specs.Views.{ServicesView}
use Rattle.thr_services.specs.Cancelling.{SeatsHaveRecords}
use Rattle.thr_services.proofs.MakingLaws.{made_is_known, made_has_room}
use Rattle.thr_services.proofs.services.Services.create.Goals as goal

pub put-requires-clause-room : goal.put-requires-clause-room
put-requires-clause-room c =
    let recorded : SeatsHaveRecords c.self.inside.threads c.self.inside.rows = subst (λ (v : ServicesView). SeatsHaveRecords v.threads v.rows) (sym c.self.view_is) c.requires.recorded in
    made_has_room _ _ c.self.inside.rows c.args.t c.args.a _ _ c.create-said.ensures c.in-Some.ensures.value recorded c.len-seats.ensures.rises

pub returns-in-None-named : goal.returns-in-None-named
returns-in-None-named c =
    let fits : SFits w64 c.in-Some.n = search (arith, ints) in
    let back : to_z w64 (of_z w64 c.in-Some.n) ≡ c.in-Some.n = to_z-of_z w64 c.in-Some.n fits in
    absurd (made_is_known _ _ c.args.t c.args.a _ _ c.create-said.ensures c.in-Some.ensures.value (subst (λ (n : ℤ). record_of c.create-said.new.self n ≡ None) back (c.in-None-named.ensures.unknown refl)))

use Rattle.std.proofs.Common.{◌≡◌, true, ap, ◌∙◌, refl}
use Rattle.thr_parts.specs.declared.thread.Thread.{Thread}
use Rattle.thr_parts.specs.Tables.{Table, none, has}
use Rattle.thr_parts.specs.Rows.{most}
use Rattle.thr_tables.specs.Places.{has_place}
use Rattle.thr_threads.proofs.threads.Threads.new.Goals as goal

place_in_none : has_place (none {A = Thread}) 1 most ≡ true
unfolding none has
place_in_none = refl

pub put-requires-clause-room : goal.put-requires-clause-room
put-requires-clause-room c = ap (λ (m : Table Thread). has_place m 1 most) c.in_ok-records.ensures ∙ place_in_none

use Rattle.std.proofs.Common.{◌≡◌, ◌∙◌, arith, w64}
use Rattle.std.proofs.lemmas.Int.{to_z-of_z, ints}
use mir.Val.{SFits, to_z, of_z}
use Rattle.thr_frames.specs.Replies.{listed_stores}
use Rattle.thr_frames.proofs.ReplyLaws.{goes_past}
use Rattle.thr_frames.proofs.reply.go_past.Goals as goal

pub returns : goal.returns
returns c =
    let n = c.errno-context.result in
    let fits : SFits w64 n = search (arith, ints) in
    let back : to_z w64 (of_z w64 n) ≡ n = to_z-of_z w64 n fits in
    goes_past c.args.lines.now c.args.context.now c.args.call.now c.args.reply.now (listed_stores c.args.values) c.keep_all.new.frames (to_z w64 (of_z w64 n)) c.requires.stands c.requires.at c.requires.values c.keep_all.ensures (back ∙ c.errno-context.ensures)

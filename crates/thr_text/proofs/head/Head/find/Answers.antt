use Rattle.std.proofs.Common.{◌≡◌, ◌+◌, true, false, get_or, drop, sym, ◌∙◌, refl}
use Rattle.std.specs.Str.{bytes_eq}
use Rattle.thr_text.specs.declared.head.Head.TheVariants as heads
use Rattle.thr_text.specs.Heads.{head_in, head_word}
use Rattle.thr_text.proofs.HeadLaws.{head_step}
use Rattle.thr_text.proofs.head.Head.find.Goals as goal

pub returns-then-eq : goal.returns-then-eq
returns-then-eq c =
    let hs = c.args.heads.now in
    let i = c.loop-head.head-index in
    let at = get_or hs i heads.Interface in
    let same : bytes_eq c.args.text.now (head_word at) ≡ true = cc in
    sym (sym c.loop-head.invariant ∙ head_step hs c.args.text.now i heads.Interface c.loop-head-test.true ∙ rw same refl)

pub loop-head-preserved : goal.loop-head-preserved
loop-head-preserved c =
    let hs = c.args.heads.now in
    let i = c.loop-head.head-index in
    let at = get_or hs i heads.Interface in
    let other : bytes_eq c.args.text.now (head_word at) ≡ false = cc in
    let step : head_in (drop i hs) c.args.text.now ≡ head_in (drop (i + 1) hs) c.args.text.now = head_step hs c.args.text.now i heads.Interface c.loop-head-test.true ∙ rw other refl in
    sym step ∙ c.loop-head.invariant

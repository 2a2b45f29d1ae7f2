use Rattle.std.proofs.Common.{◌∙◌, arith, rules}
use Rattle.std.proofs.lemmas.Int.{to_z-of_z, ints}
use mir.Val.{SFits}
use mir.Syntax.{w64}
use Rattle.thr_shared.proofs.SharedLaws.{none-left, puts-more, passes-more, fits-more}
use Rattle.thr_shared.proofs.shared.SharedVariables.new.Goals as goal

pub loop-i-init : goal.loop-i-init
loop-i-init c = record { within = omega arith; put = c.in_ok-shared.ensures ∙ none-left c.args.items.now }

pub put-requires : goal.put-requires
put-requires c =
    fits-more c.args.items.now c.loop-i.i c.index-items-i.result c.in-Shared.name c.in-Shared.value c.requires c.loop-i-test.true c.loop-i.invariant.within c.index-items-i.is c.in-Shared.is

pub loop-i-preserved-in-Shared : goal.loop-i-preserved-in-Shared
loop-i-preserved-in-Shared c =
    let fits : SFits w64 c.in-Shared.value = search (arith, ints) in
    record {
      within = omega (arith, c.loop-i.invariant.within);
      put = simp to_z-of_z at c.put.ensures
          ∙ puts-more c.args.items.now c.loop-i.i c.index-items-i.result c.in-Shared.name c.in-Shared.value c.loop-i.shared c.loop-i-test.true c.loop-i.invariant.within c.index-items-i.is c.in-Shared.is c.loop-i.invariant.put;
    }

pub loop-i-preserved : goal.loop-i-preserved
loop-i-preserved c = record {
  within = omega (arith, c.loop-i.invariant.within);
  put = passes-more c.args.items.now c.loop-i.i c.index-items-i.result c.loop-i.shared c.loop-i-test.true c.loop-i.invariant.within c.index-items-i.is (λ name n is. search rules) c.loop-i.invariant.put;
}

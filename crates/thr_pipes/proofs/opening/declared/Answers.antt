use Rattle.std.proofs.Common.{◌∙◌, arith, rules}
use Rattle.thr_pipes.proofs.DeclaredLaws.{none_left, puts_more, passes_more, fits_more}
use Rattle.thr_pipes.proofs.opening.declared.Goals as goal

pub loop-i-init : goal.loop-i-init
loop-i-init c = record { within = omega arith; put = c.in_ok-pipes.ensures ∙ none_left c.args.items.now }

pub put-requires : goal.put-requires
put-requires c = record {
  known = fits_more c.args.items.now c.loop-i.i c.index-items-i.result c.in-Pipe.name c.in-Pipe.capacity c.requires c.loop-i-test.true c.loop-i.invariant.within c.index-items-i.is c.in-Pipe.is;
}

pub loop-i-preserved-in-Pipe : goal.loop-i-preserved-in-Pipe
loop-i-preserved-in-Pipe c = record {
  within = omega (arith, c.loop-i.invariant.within);
  put = c.put.ensures
      ∙ puts_more c.args.items.now c.loop-i.i c.index-items-i.result c.in-Pipe.name c.in-Pipe.capacity c.loop-i.pipes c.in_ok-pipe.pipe c.loop-i-test.true c.loop-i.invariant.within c.index-items-i.is c.in-Pipe.is
      c.in_ok-pipe.ensures c.loop-i.invariant.put;
}

pub loop-i-preserved : goal.loop-i-preserved
loop-i-preserved c = record {
  within = omega (arith, c.loop-i.invariant.within);
  put = passes_more c.args.items.now c.loop-i.i c.index-items-i.result c.loop-i.pipes c.loop-i-test.true c.loop-i.invariant.within c.index-items-i.is (λ p n is. search rules) c.loop-i.invariant.put;
}

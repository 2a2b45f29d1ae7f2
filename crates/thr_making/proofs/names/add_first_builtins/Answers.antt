use Rattle.thr_making.proofs.Workers.{five_more}
use Rattle.thr_making.proofs.names.add_first_builtins.Goals as goal

pub returns : goal.returns
returns c =
    five_more c.args.all.now c.add.new.all c.add-2.new.all c.add-3.new.all c.add-4.new.all c.add-5.new.all _ _ _ _ _ c.in_ok-add.ensures c.in_ok-add-2.ensures c.in_ok-add-3.ensures c.in_ok-add-4.ensures
    c.in_ok-add-5.ensures

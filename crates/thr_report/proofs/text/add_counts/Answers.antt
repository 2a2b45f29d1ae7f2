use Rattle.thr_report.proofs.EightLines.{eight}
use Rattle.thr_report.proofs.text.add_counts.Goals as goal

pub returns : goal.returns
returns c =
    eight c.args.out.now.items c.add_count.new.out.items c.add_count-2.new.out.items c.add_count-3.new.out.items c.add_count-4.new.out.items c.add_count-5.new.out.items
    c.add_count-6.new.out.items c.add_count-7.new.out.items c.add_count-8.new.out.items _ _ _ _ _ _ _ _ c.in_ok-add_count.ensures c.in_ok-add_count-2.ensures c.in_ok-add_count-3.ensures
    c.in_ok-add_count-4.ensures c.in_ok-add_count-5.ensures c.in_ok-add_count-6.ensures c.in_ok-add_count-7.ensures c.in_ok-add_count-8.ensures

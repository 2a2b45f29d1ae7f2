use Rattle.std.proofs.Common.{None, Some}
use Rattle.thr_rows.proofs.RememberedLaws.{canonical_seated, find_value, find_known}
use Rattle.thr_rows.proofs.remembered.find.Goals as goal

pub returns-in-None-clause-value : goal.returns-in-None-clause-value
returns-in-None-clause-value c = find_value c.args.entries.now c.args.t.0 None c.len-rises.ensures.rises c.in-None.ensures.value

pub returns-in-None-clause-known : goal.returns-in-None-clause-known
returns-in-None-clause-known c = find_known c.args.entries.now c.args.t.0 None c.len-rises.ensures.rises c.in-None.ensures.value

pub returns-in-None-clause-rises : goal.returns-in-None-clause-rises
returns-in-None-clause-rises c = canonical_seated c.args.entries.now

pub returns-in-Some-clause-value : goal.returns-in-Some-clause-value
returns-in-Some-clause-value c = find_value c.args.entries.now c.args.t.0 (Some c.in-Some.seat) c.len-rises.ensures.rises c.in-Some.ensures.value

pub returns-in-Some-clause-known : goal.returns-in-Some-clause-known
returns-in-Some-clause-known c = find_known c.args.entries.now c.args.t.0 (Some c.in-Some.seat) c.len-rises.ensures.rises c.in-Some.ensures.value

pub returns-in-Some-clause-rises : goal.returns-in-Some-clause-rises
returns-in-Some-clause-rises c = canonical_seated c.args.entries.now

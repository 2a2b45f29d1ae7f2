use Rattle.thr_asking.proofs.PartLaws.{line_is}
use Rattle.thr_asking.proofs.saying.call_line.Goals as goal

pub returns : goal.returns
returns c =
    line_is c.args.call.now c.args.ns c.first_argument.result c.second_argument.result c.said_of-said.result c.args.reply c.first_argument.ensures c.second_argument.ensures c.said_of-said.ensures

use Rattle.std.proofs.Common.{◌≡◌, ◌++◌, drop}
use Rattle.thr_text.specs.Journals.{args_words}
use Rattle.thr_grammar.specs.Printing.{spaced}
use Rattle.thr_journal.proofs.printing.call.add_arguments.Given as goal

abbrev pub invariant-loop-argument : goal.invariant-loop-argument
invariant-loop-argument l = l.out.items ++ spaced (args_words l.names l.call (drop l.argument-index l.arguments)) ≡ l.fn.out.items ++ spaced (args_words l.names l.call l.arguments)

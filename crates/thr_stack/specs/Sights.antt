-- What an expression sees of a thread.
use Rattle.std.specs.Prelude.{ℤ, pos, List, slice_get, unwrap_or}
use Rattle.thr_syntax.specs.declared.tree.Script.{Script}
use Rattle.thr_remainder.specs.Expressions.{SharedValues, Sight}
use Rattle.thr_stack.specs.declared.context.Context.{Context}
use Rattle.thr_stack.specs.FrameLists.{caught_among, innermost}

-- The values of shared variables by their places; a name past the end has 0 (docs/machine.md, "Shared statements").
abbrev pub shared_of : List ℤ → SharedValues
shared_of values name = unwrap_or (slice_get values name.0) (pos 0)

-- What an expression sees where a thread stands (docs/script.md, "Expressions").
abbrev pub seen : Script → Context → SharedValues → Sight
seen s k shared = record {
  script = s;
  me = k.me;
  locals = innermost k.frames.calls;
  caught = caught_among k.frames.items;
  err = k.err;
  shared = shared;
}

-- What contracts see of names and of the pieces of a line.
use Rattle.std.specs.Prelude.{Option}
use Rattle.std.specs.Option.{option_map}
use Rattle.std.specs.Map.{keys_of}
use Rattle.thr_syntax.specs.Spelling.{Scope}
use Rattle.thr_resolving.specs.declared.scope.Names.{Names}
use Rattle.thr_resolving.specs.declared.piece.Piece.{Piece as PieceMade}
use Rattle.thr_resolving.specs.declared.piece.Piece.TheVariants as made
use Rattle.thr_resolving.specs.Resolving.{Piece, Raw, Made, scope_of}

abbrev pub scope_seen : Names → Scope
scope_seen names = scope_of (keys_of names.table.now) names.locals.now

abbrev pub piece_seen : PieceMade → Piece
piece_seen (made.Raw w) = Raw w.now
piece_seen (made.Made e) = Made e

abbrev pub maybe_piece : Option PieceMade → Option Piece
maybe_piece o = option_map piece_seen o

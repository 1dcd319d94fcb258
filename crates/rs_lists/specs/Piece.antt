-- The pieces of a text.
use Rattle.std.specs.Prelude.{ℕ, List}
use Rattle.std.specs.List.{flat_map}
use Rattle.std.specs.Fmt.{decimal}
use Rattle.rs_time.specs.Moment.{moment_text}
use Rattle.rs_fixity.specs.HashText.{hash_text_of}
use Rattle.rs_lists.specs.declared.piece.Piece.{Piece}
use Rattle.rs_lists.specs.declared.piece.Piece.TheVariants.{Plain, Escaped, Number, At, Hash}
use Rattle.rs_lists.specs.Escape.{escape}

-- the bytes of a piece
abbrev pub piece_text : Piece → List ℕ
piece_text (Plain bytes) = bytes.now
piece_text (Escaped bytes) = escape bytes.now
piece_text (Number n) = decimal n
piece_text (At moment) = moment_text moment
piece_text (Hash digests) = hash_text_of digests

-- the bytes of pieces, one after another
abbrev pub pieces_text : List Piece → List ℕ
pieces_text pieces = flat_map piece_text pieces

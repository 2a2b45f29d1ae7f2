-- Pipes (docs/machine.md, "Pipes").
use Rattle.std.specs.Prelude.{ℕ, nat_lt, Bool, true, false, not, ◌&&◌, ◌||◌, if◌then◌else◌, is_some, is_none, ℤ, List, [], ◌∷◌, ◌++◌, length, Option, Some, None}
use Rattle.std.specs.Option.{option_and_then}
use Rattle.thr_values.specs.declared.number.Tid.{Tid}
use Rattle.thr_values.specs.declared.number.NameId.{NameId}
use Rattle.thr_values.specs.declared.reply.Reply.{Reply}
use Rattle.thr_values.specs.declared.reply.Reply.TheVariants as reply
use Rattle.thr_syntax.specs.declared.tree.Item.{Item}
use Rattle.thr_syntax.specs.declared.tree.Item.TheVariants as item
use Rattle.thr_parts.specs.declared.pipe.Writing.{Writing}
use Rattle.thr_parts.specs.declared.row.RowId.TheVariants as row
use Rattle.thr_parts.specs.Tables.{Table, none, get, at, put, put_if, cut, keep_if}
use Rattle.thr_parts.specs.Replies.{is_done, is_blocks, is_value}
use Rattle.thr_parts.specs.Rows.{Rows, best}
use Rattle.thr_parts.specs.Moves.{block_if, take_out_if}

-- A pipe: how many items it takes, whether it is open, and its items, the front first (docs/machine.md, "Pipes").
pub record Pipe : Type 0 where
  pub capacity : ℕ
  pub is_open : Bool
  pub items : List ℤ

-- The declared pipes, and of each thread that waits as a writer its pipe and its item (docs/machine.md, "Pipes").
pub record Pipes : Type 0 where
  pub pipes : Table Pipe
  pub writing : Table Writing

-- ---- the opening

-- No pipe is declared.
abbrev pub no_pipes : Pipes
no_pipes = record { pipes = none; writing = none }

-- A pipe as it is declared: open and empty.
abbrev pub new_pipe : ℕ → Pipe
new_pipe capacity = record { capacity = capacity; is_open = true; items = [] }

-- The pipes that these declarations declare.
unfoldable pub declared_pipes : List Item → Table Pipe
declared_pipes [] = none
declared_pipes (item.Pipe p capacity ∷ items) = put (declared_pipes items) p.0 (new_pipe capacity)
declared_pipes (_ ∷ items) = declared_pipes items

-- The pipes at the opening, with nobody waiting (docs/machine.md, "The opening").
abbrev pub first_pipes : List Item → Pipes
first_pipes items = record { pipes = declared_pipes items; writing = none }

-- ---- items

-- What is no pipe is as one that is closed and empty.
abbrev pub no_pipe : Pipe
no_pipe = record { capacity = 0; is_open = false; items = [] }

-- The pipe of a name.
abbrev pub pipe_at : Pipes → NameId → Pipe
pipe_at ps p = at ps.pipes p.0 no_pipe

-- The pipe with these items.
abbrev pub with_items : Pipe → List ℤ → Pipe
with_items x items = record { capacity = x.capacity; is_open = x.is_open; items = items }

-- The items behind the front.
abbrev pub behind : List ℤ → List ℤ
behind [] = []
behind (v ∷ vs) = vs

-- The item of a wait that is there.
abbrev pub item_in : Option Writing → List ℤ
item_in None = []
item_in (Some w) = w.item ∷ []

-- The item with which the thread that is there waits.
abbrev pub item_of : Pipes → Option Tid → List ℤ
item_of ps t = item_in (option_and_then (λ w. get ps.writing w.0) t)

-- The waiting writers without the thread that is there.
abbrev pub writing_without : Table Writing → Option Tid → Table Writing
writing_without writing None = writing
writing_without writing (Some t) = cut writing t.0

-- ---- read

-- A reply, pipes and rows after it, and the writer whose item entered, taken out of its row (docs/machine.md, "Pipes").
pub record ReadReply : Type 0 where
  pub reply : Reply
  pub pipes : Pipes
  pub rows : Rows
  pub relieved : Option Tid

-- What reading an empty pipe replies that is open or isn't.
abbrev pub empty_reply : Bool → Reply
empty_reply true = reply.Blocks
empty_reply false = reply.Eof

-- What reading replies, with these items in a pipe that is open or isn't (docs/machine.md, "Pipes").
abbrev pub read_reply : List ℤ → Bool → Reply
read_reply [] is_open = empty_reply is_open
read_reply (v ∷ vs) is_open = reply.Value v

-- A thread takes the front item; then the item of the best waiting writer enters (docs/machine.md, "Pipes").
abbrev pub read : Pipes → Rows → NameId → Tid → ℕ → ReadReply
read ps rs p t rank =
    let x : Pipe = pipe_at ps p in
    let said : Reply = read_reply x.items x.is_open in
    let writer : Option Tid = keep_if (is_value said) (best rs (row.Writer p)) in
    let left : Pipe = with_items x (behind x.items ++ item_of ps writer) in record {
      reply = said;
      pipes = record {
        pipes = put_if ps.pipes p.0 (keep_if (is_value said) (Some left));
        writing = writing_without ps.writing writer;
      };
      rows = take_out_if (block_if (is_blocks said) rs (row.Reader p) t rank) writer;
      relieved = writer;
    }

-- ---- write

-- A reply, pipes and rows after it, and the reader that was given the item, taken out of its row (docs/machine.md, "Pipes").
pub record WriteReply : Type 0 where
  pub reply : Reply
  pub pipes : Pipes
  pub rows : Rows
  pub reader : Option Tid

-- The pipe isn't full.
abbrev pub has_room : Pipe → Bool
has_room x = nat_lt (length x.items) x.capacity

-- What writing replies, with a waiting reader or without (docs/machine.md, "Pipes").
abbrev pub write_reply : Pipe → Option Tid → Reply
write_reply x reader =
    if not x.is_open then reply.Epipe
    else (if is_some reader || has_room x then reply.Done else reply.Blocks)

-- A thread hands an item to the best waiting reader, or else puts it into the pipe, and waits where that is full
-- (docs/machine.md, "Pipes").
abbrev pub write : Pipes → Rows → NameId → ℤ → Tid → ℕ → WriteReply
write ps rs p v t rank =
    let x : Pipe = pipe_at ps p in
    let reader : Option Tid = keep_if x.is_open (best rs (row.Reader p)) in
    let said : Reply = write_reply x reader in
    let fuller : Pipe = with_items x (x.items ++ v ∷ []) in record {
      reply = said;
      pipes = record {
        pipes = put_if ps.pipes p.0 (keep_if (is_done said && is_none reader) (Some fuller));
        writing = put_if ps.writing t.0 (keep_if (is_blocks said) (Some (record { pipe = p; item = v })));
      };
      rows = block_if (is_blocks said) (take_out_if rs reader) (row.Writer p) t rank;
      reader = reader;
    }

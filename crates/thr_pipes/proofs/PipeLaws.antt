-- One pipe among all, and after a change.
use Rattle.std.proofs.Common.{◌≡◌, Option, Some, None, sym, ◌∙◌, ap}
use Rattle.std.specs.Option.{unwrap_or}
use Rattle.thr_values.specs.declared.number.NameId.{NameId}
use Rattle.thr_parts.specs.declared.pipe.Writing.{Writing}
use Rattle.thr_parts.specs.Tables.{Table, get, put}
use Rattle.thr_parts.specs.Pipes.{Pipe, Pipes, no_pipe, pipe_at}
use Rattle.thr_parts.proofs.TableLaws.{at_get}

-- These pipes and these waiting writers.
abbrev pub of_both : Table Pipe → Table Writing → Pipes
of_both m w = record { pipes = m; writing = w }

-- What stands at a name is its pipe.
at_name : (m : Table Pipe) (w : Table Writing) (p : NameId) (o : Option Pipe) → o ≡ get m p.0 → unwrap_or o no_pipe ≡ pipe_at (of_both m w) p
at_name m w p o e = ap (λ (x : Option Pipe). unwrap_or x no_pipe) e ∙ sym (at_get m p.0 no_pipe)

pub pipe_there : (m : Table Pipe) (w : Table Writing) (ps : Pipes) (p : NameId) (x : Pipe) → of_both m w ≡ ps → Some x ≡ get m p.0 → x ≡ pipe_at ps p
pipe_there m w ps p x is e = at_name m w p (Some x) e ∙ ap (λ (qs : Pipes). pipe_at qs p) is

-- Where nothing stands there is no pipe.
pub no_pipe_there : (m : Table Pipe) (w : Table Writing) (ps : Pipes) (p : NameId) → of_both m w ≡ ps → (let o : Option Pipe = None in o) ≡ get m p.0 → no_pipe ≡ pipe_at ps p
no_pipe_there m w ps p is e = at_name m w p None e ∙ ap (λ (qs : Pipes). pipe_at qs p) is

-- A pipe that is taken, changed and put back is changed.
pub put_back : (m taken new : Table Pipe) (w : Table Writing) (ps : Pipes) (p : NameId) (x y : Pipe) (f : Pipe → Pipe) → of_both m w ≡ ps → Some x ≡ get m p.0
    → ((v : Pipe) → put taken p.0 v ≡ put m p.0 v) → y ≡ f x → new ≡ put taken p.0 y
    → of_both new w ≡ record { pipes = put ps.pipes p.0 (f (pipe_at ps p)); writing = ps.writing }
put_back m taken new w ps p x y f is there back changed put_is =
    ap (λ (t : Table Pipe). of_both t w) (put_is ∙ back y ∙ ap (put m p.0) (changed ∙ ap f (at_name m w p (Some x) there)))
    ∙ ap (λ (qs : Pipes). of_both (put qs.pipes p.0 (f (pipe_at qs p))) qs.writing) is

use Rattle.std.specs.Prelude.{not}
use Rattle.std.proofs.Common.{rules, tests, ◌≡◌, length, true, sym, ap, ◌∙◌, inl, inr}
use Rattle.std.proofs.lemmas.Iterator.Splits.{YieldsList-from_slice_split}
use Rattle.std.proofs.lemmas.Iterator.Consumers.{YieldsList-turn, YieldsList-end}
use Rattle.std.proofs.lemmas.Result.{err_from_is_err_and}
use Rattle.thr_text.specs.Lexing.{is_blank, is_something, is_too_large}
use Rattle.thr_lexer.proofs.Pieces.{any_at}
use Rattle.thr_lexer.proofs.lex.read_words.Goals as goal

pub returns-in_err-read_word-clause-fault : goal.returns-in_err-read_word-clause-fault
returns-in_err-read_word-clause-fault c =
    let t = YieldsList-turn (YieldsList-from_slice_split _ is_blank c.args.text.now (cc) (cc) (cc) (λ x r q k. search (rules, tests))) c.loop-piece.yielded _ c.loop-piece.yielded_by _ _ c.in-Some.piece c.in-Some.is c.next.ensures.steps in
    let p = err_from_is_err_and c.from_residual.result c.from_residual.ensures.1 in
    let kept : is_something c.in-Some.piece.now ≡ true = ap not (sym c.is_empty.ensures ∙ c.if-not-is_empty.true) in
    rw (p.1, p.2) (elim c.in_err-read_word.ensures.fault [
      | inl m ↦ inl m
      | inr w ↦ inr (w.0, any_at is_something is_too_large _ (length c.loop-piece.yielded) c.in-Some.piece.now t.0 t.1 kept w.1)
    ])

pub returns-clause-words : goal.returns-clause-words
returns-clause-words c =
    let t = YieldsList-end (YieldsList-from_slice_split _ is_blank c.args.text.now (cc) (cc) (cc) (λ x r q k. search (rules, tests))) c.loop-piece.yielded _ c.loop-piece.yielded_by _ _ c.in-None.is c.next.ensures.steps in
    rw (← t.0) (c.loop-piece.invariant.words, c.loop-piece.invariant.small)

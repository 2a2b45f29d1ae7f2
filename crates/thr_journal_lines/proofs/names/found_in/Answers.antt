use Rattle.std.proofs.Common.{ℕ, Option, sym, ap, ◌∙◌}
use Rattle.std.specs.Option.{option_map}
use Rattle.std.specs.Str.{bytes_eq}
use Rattle.thr_text.specs.declared.object.Object.{Object}
use Rattle.thr_journal_lines.proofs.KnownLaws.{position_keys, kind_there, no_kind}
use Rattle.thr_journal_lines.proofs.names.found_in.Goals as goal

pub returns-in_err-place-clause-place : goal.returns-in_err-place-clause-place
returns-in_err-place-clause-place c =
    ap (λ (r : Option (ℕ × Object)). option_map (λ x. x.0) r) c.from_residual.ensures ∙ c.in_err-place.ensures.place ∙ sym (position_keys (bytes_eq c.args.text.now) c.args.known.now)

pub returns-in_err-place-clause-kind : goal.returns-in_err-place-clause-kind
returns-in_err-place-clause-kind c = ap (λ (r : Option (ℕ × Object)). option_map (λ x. x.1) r) c.from_residual.ensures ∙ no_kind c.args.text.now c.args.known.now c.in_err-place.ensures.place

pub returns-clause-place : goal.returns-clause-place
returns-clause-place c = c.in_ok-place.ensures.place ∙ sym (position_keys (bytes_eq c.args.text.now) c.args.known.now)

pub returns-clause-kind : goal.returns-clause-kind
returns-clause-kind c = kind_there c.args.text.now c.args.known.now c.in_ok-place.place c.index-known-place.result c.in_ok-place.ensures.place c.in_ok-place.ensures.within

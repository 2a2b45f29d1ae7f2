use Rattle.std.proofs.Common.{◌≡◌, ◌∷◌, [], ◌++◌, ◌+◌, ℕ, ap, ◌∙◌, arith}
use Rattle.std.specs.Prelude.{slice_get, unwrap_or}
use Rattle.thr_text.specs.declared.object.Object.{Object}
use Rattle.thr_text.specs.declared.object.Object.TheVariants as object
use Rattle.thr_text.specs.Tables.{Entry}
use Rattle.thr_journal_lines.specs.Known.{entries_in}
use Rattle.thr_journal_reading.specs.Names.{with_kind}
use Rattle.thr_journal_reading.proofs.NamesLaws.{pairs_on, pairs_end}
use Rattle.thr_journal_reading.proofs.known.paired.Goals as goal

pub names-preserved : goal.names-preserved
names-preserved c =
    let l = c.names in
    record {
      place = omega (arith, l.invariant.place);
      told = pairs_on c.args.names.now c.args.kinds.now l.name-index c.name-item.result (entries_in l.known.items) (entries_in c.add_known.new.known.items) _ c.names-test.true c.name-item.is
          (c.in_ok-add_known.ensures
          ∙ ap (λ (k : Object). entries_in l.known.items ++ with_kind c.name-item.result k ∷ []) (c.kind_at.ensures ∙ ap (λ (p : ℕ). unwrap_or (slice_get c.args.kinds.now p) object.Exception) l.invariant.place))
          l.invariant.told;
    }

pub returns : goal.returns
returns c = pairs_end c.args.names.now c.args.kinds.now c.names.name-index (entries_in c.names.known.items) _ c.names-test.false c.names.invariant.told

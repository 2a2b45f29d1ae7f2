use Rattle.std.proofs.Common.{rules, ◌≡◌, true, Some, None, sym, ap, ◌∙◌, drop, List}
use Rattle.std.specs.List.{filter}
use Rattle.thr_text.specs.declared.head.Slot.{Slot}
use Rattle.thr_journals.specs.Fields.{word_as}
use Rattle.thr_journals.specs.Lines.{argument_in, arguments, takes_argument}
use Rattle.thr_journal_lines.specs.Arguments.{filled_up, first_place, in_front}
use Rattle.thr_journal_lines.specs.Known.{entries_in}
use Rattle.thr_journal_lines.proofs.ArgumentLaws.{no_others, one_argument}
use Rattle.thr_journal_lines.proofs.calls.+arguments.Goals as goal

pub returns-in_err-others : goal.returns-in_err-others
returns-in_err-others t c =
    let p = c.in-Some.place in
    let names = entries_in c.args.known.now in
    let first_is : first_place c.args.places.now ≡ Some p = search rules in
    let takes : takes_argument p ≡ true = search rules in
    let one : word_as (argument_in names p) c.args.words.now ≡ Some (c.in_ok-first.first, c.argument.new.words) = search rules in
    let rest : filled_up (arguments names (filter takes_argument (drop 1 c.args.places.now)) c.argument.new.words) ≡ None =
    ap (λ (ps : List Slot). filled_up (arguments names (filter takes_argument ps) c.argument.new.words)) (sym c.other_places-rest.ensures) ∙ c.in_err-others.ensures in
    let none : filled_up (arguments names (filter takes_argument c.args.places.now) c.args.words.now) ≡ None = no_others names c.args.places.now p c.args.words.now c.argument.new.words c.in_ok-first.first first_is takes one rest in
    search rules

pub returns : goal.returns
returns t c =
    let p = c.in-Some.place in
    let names = entries_in c.args.known.now in
    let first_is : first_place c.args.places.now ≡ Some p = search rules in
    let takes : takes_argument p ≡ true = search rules in
    let one : word_as (argument_in names p) c.args.words.now ≡ Some (c.in_ok-first.first, c.argument.new.words) = search rules in
    let rest : filled_up (arguments names (filter takes_argument (drop 1 c.args.places.now)) c.argument.new.words) ≡ Some (c.in_ok-others.others, c.arguments-2.new.words) =
    ap (λ (ps : List Slot). filled_up (arguments names (filter takes_argument ps) c.argument.new.words)) (sym c.other_places-rest.ensures) ∙ c.in_ok-others.ensures in
    let front : c.in_front.result ≡ in_front c.in_ok-first.first c.in_ok-others.others = search rules in
    rw front (one_argument names c.args.places.now p c.args.words.now c.argument.new.words c.arguments-2.new.words c.in_ok-first.first c.in_ok-others.others c.requires.places first_is takes one rest)

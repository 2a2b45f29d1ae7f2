use Rattle.std.proofs.Common.{◌≡◌, ◌≤◌, None, ap, refl, subst, sym, ◌∙◌}
use Rattle.thr_syntax.specs.declared.tree.Script.{Script}
use Rattle.thr_text.specs.Reading.{Formed}
use Rattle.thr_parts.specs.Tables.{none}
use Rattle.thr_model.specs.Histories.{limit_in}
use Rattle.thr_model.specs.States.{opening}
use Rattle.thr_stacks.specs.Stacks.{remainders_of}
use Rattle.thr_machine.specs.Books.{settings_in}
use Rattle.thr_machine.specs.Stepping.{OpensOn, HasFirst}
use Rattle.thr_machine.specs.declared.book.Book.TheInside.{Inside}
use Rattle.thr_machine.proofs.Keeping.{FollowStacks, StandOn}
use Rattle.thr_machine.proofs.OpeningLaws.{IsNew, keeps-opening, opens-so}
use Rattle.thr_machine.proofs.book.Book.new.Goals as goal

-- A book with these fields is opened on the script.
is-new : (s : Script) (a : Inside) → a.lines ≡ s → Formed s → a.limit ≡ limit_in s.items → 1 ≤ a.workers → a.workers ≤ 16 → HasFirst a.lines a.stacks → OpensOn s a.workings
    → FollowStacks a.lines → remainders_of a.lines none ≡ none → a.turns ≡ 0 → a.spare ≡ None → a.stopped ≡ None → IsNew a
is-new s a same formed limit some few first opens follow nobody turns spare going =
    let on : OpensOn a.lines a.workings = subst (λ (x : Script). OpensOn x a.workings) (sym same) opens in record {
      formed = subst Formed (sym same) formed;
      limit = limit ∙ ap (λ (x : Script). limit_in x.items) (sym same);
      some = some;
      few = few;
      first = first;
      state = opens-so a.lines a.workings a.stacks follow nobody first on;
      opens = on;
      no_turns = turns;
      no_spare = spare;
      going = going;
    }

abbrev book : goal.In_ok-stacks → Inside
book c = record {
  alloc = c.args.alloc;
  lines = c.in_ok-lines.lines;
  workings = c.in_ok-workings.workings;
  stacks = c.in_ok-stacks.stacks;
  spare = None;
  workers = c.args.workers;
  turns = 0;
  limit = c.limit_of-limit.result;
  stopped = None;
}

follow : (c : goal.In_ok-stacks) → FollowStacks c.in_ok-lines.lines
follow c =
    let law = c.remainders_change_with_stacks.ensures in record {
      put_left = law.put c.in_ok-lines.lines;
      cut_left = law.cut c.in_ok-lines.lines;
      get_left = law.get c.in_ok-lines.lines;
      has_left = law.has c.in_ok-lines.lines;
    }

new-book : (c : goal.In_ok-stacks) → IsNew (book c)
new-book c =
    is-new c.args.script (book c) c.in_ok-lines.ensures c.requires.formed (c.limit_of-limit.ensures ∙ ap limit_in c.as_slice.ensures) c.requires.some c.requires.few
    c.in_ok-stacks.ensures c.in_ok-workings.ensures (follow c) (c.remainders_change_with_stacks.ensures.none c.in_ok-lines.lines) refl refl refl

pub invariant_of-result : goal.invariant_of-result
invariant_of-result c =
    let law = c.stacks_go_on_standing.ensures in
    let on : StandOn c.in_ok-lines.lines = record { put_stands = law.put c.in_ok-lines.lines; cut_stands = law.cut c.in_ok-lines.lines } in
    keeps-opening (book c) (new-book c) on (law.none c.in_ok-lines.lines (settings_in c.in_ok-lines.lines (opening c.in_ok-lines.lines)))

pub returns : goal.returns
returns c =
    let law = c.remainders_change_with_stacks.ensures in
    let lines : Script = c.in_ok-lines.lines in
    let on : OpensOn lines c.in_ok-workings.workings = subst (λ (x : Script). OpensOn x c.in_ok-workings.workings) (sym c.in_ok-lines.ensures) c.in_ok-workings.ensures in
    let follow : FollowStacks lines = record { put_left = law.put lines; cut_left = law.cut lines; get_left = law.get lines; has_left = law.has lines } in record {
      script = c.in_ok-lines.ensures;
      workers = refl;
      state = opens-so lines c.in_ok-workings.workings c.in_ok-stacks.stacks follow (law.none lines) c.in_ok-stacks.ensures on ∙ ap opening c.in_ok-lines.ensures;
      entries = c.in_ok-workings.ensures.no_lines;
      turns = refl;
      stopped = refl;
    }

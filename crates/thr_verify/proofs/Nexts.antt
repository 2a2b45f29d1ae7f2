-- An event that a book made, and the lines of a journal from there on.
use Rattle.std.proofs.Common.{◌≡◌, ℕ, suc, ◌+◌, ◌<◌, ◌≤◌, ◌∷◌, ◌++◌, length, drop, get_or, length-append, Option, Some, None, Ok, Err, sym, ◌∙◌, ap, arith}
use Rattle.std.specs.Option.{option_and_then}
use Rattle.thr_values.specs.declared.history.Entry.{Entry}
use Rattle.thr_values.specs.declared.history.Who.{Who}
use Rattle.thr_syntax.specs.declared.journal.Journal.{Journal}
use Rattle.thr_syntax.specs.declared.tree.Script.{Script}
use Rattle.thr_text.specs.Reading.{Formed}
use Rattle.thr_model.specs.States.{State}
use Rattle.thr_model.specs.Turns.{Made}
use Rattle.thr_model.specs.Events.{made_by}
use Rattle.thr_model.specs.Histories.{stop_at}
use Rattle.thr_verdict.specs.Verdicts.{Numbered}
use Rattle.thr_verdict.specs.FirstWrong.{wrong_after, made_at, lines_after, wrong_in}
use Rattle.thr_machine.specs.Views.{BookView}
use Rattle.thr_machine.specs.Books.{RoomOnly, stop_of}
use Rattle.thr_comparing.specs.declared.wrong.Right.TheVariants as right
use Rattle.thr_comparing.specs.Wrongs.{IsOther, AllStand}
use Rattle.thr_verify.specs.Replays.{MakesNamed, IsReplayed, left_wrong, GoesOn, EndsWith}
use Rattle.thr_verify.proofs.Boundaries.{no_event, event_stands, event_differs}
use Rattle.thr_verify.proofs.Drops.{drop_at, drop_front}

-- ---- room alone

replayed_with_room : (j : Journal) (old mid : BookView) → RoomOnly old mid → IsReplayed j old → IsReplayed j mid
replayed_with_room j old mid same r = record {
  formed = r.formed;
  script = ap (λ (b : BookView). b.script) same ∙ r.script;
  workers = ap (λ (b : BookView). b.workers) same ∙ r.workers;
  going = ap (λ (b : BookView). b.stopped) same ∙ r.going;
  fits = let e : length mid.entries ≡ length old.entries = ap (λ (b : BookView). length b.entries) same in let f : length old.entries ≤ length j.entries = r.fits in omega (arith, e, f);
  few = let e : length mid.entries ≡ length old.entries = ap (λ (b : BookView). length b.entries) same in let f : length old.entries ≤ 1001160 = r.few in omega (arith, e, f);
}

left_with_room : (j : Journal) (old mid : BookView) → RoomOnly old mid → (k : ℕ) → left_wrong j old k ≡ left_wrong j mid k
left_with_room j old mid same k = ap (λ (b : BookView). left_wrong j b k) (sym same)

-- ---- an event on a book where no stop holds

module _ (j : Journal) (b new : BookView) (e : Entry) (r : IsReplayed j b) (open_ : stop_of b ≡ None) (more : length b.entries < length j.entries) (is : e ≡ get_or j.entries (length b.entries) e) where
  no_stop : stop_at j.script b.state (length b.entries) ≡ None
  no_stop = sym (ap (λ (s : Script). stop_at s b.state (length b.entries)) r.script) ∙ open_

  left : drop (length b.entries) j.entries ≡ e ∷ drop (suc (length b.entries)) j.entries
  left = drop_at j.entries (length b.entries) e more is

  as_journal : (w : Who) (o : Option Made) → made_at b.script b.workers b.state w ≡ o → made_at j.script j.workers b.state w ≡ o
  as_journal w o h = sym (λ i. made_at (r.script i) (r.workers i) b.state w) ∙ h

  pub none_made : made_at b.script b.workers b.state e.who ≡ None → (k : ℕ) → left_wrong j b (suc k) ≡ Some (wrong_after (length b.entries) None)
  none_made none k =
      ap (wrong_in (suc k) j.script j.workers j.stop (length b.entries) b.state) left
      ∙ no_event k j.script j.workers j.stop (length b.entries) b.state e (drop (suc (length b.entries)) j.entries) no_stop (as_journal e.who None none)

  module _ (m : MakesNamed b new e.who) where
    made_named : made_at j.script j.workers b.state e.who ≡ Some m.makes.made
    made_named = as_journal e.who (Some m.makes.made) (ap (option_and_then (made_by b.script b.workers b.state)) m.named ∙ m.makes.is_made)

    entries_are : new.entries ≡ b.entries ++ m.makes.made.lines
    entries_are = ap (λ (v : BookView). v.entries) m.makes.after

    lines_are : drop (length b.entries) new.entries ≡ m.makes.made.lines
    lines_are = ap (drop (length b.entries)) entries_are ∙ drop_front b.entries m.makes.made.lines

    count_is : length b.entries + length m.makes.made.lines ≡ length new.entries
    count_is = sym (ap length entries_are ∙ length-append b.entries m.makes.made.lines)

    stands : AllStand j.script.names new.entries j.entries (length b.entries)
        → lines_after j.script.names (length b.entries) m.makes.made.lines (e ∷ drop (suc (length b.entries)) j.entries) ≡ Ok (drop (length new.entries) j.entries)
    stands h = sym (λ i. lines_after j.script.names (length b.entries) (lines_are i) (left i)) ∙ h.stand

    goes_same : AllStand j.script.names new.entries j.entries (length b.entries) → (k : ℕ) → left_wrong j b (suc k) ≡ left_wrong j new k
    goes_same h k =
        ap (wrong_in (suc k) j.script j.workers j.stop (length b.entries) b.state) left
        ∙ event_stands k j.script j.workers j.stop (length b.entries) b.state e (drop (suc (length b.entries)) j.entries) (drop (length new.entries) j.entries) m.makes.made no_stop made_named (stands h)
        ∙ (λ i. wrong_in k j.script j.workers j.stop (count_is i) (sym state_is i) (drop (length new.entries) j.entries))
      where
        state_is : new.state ≡ m.makes.made.state
        state_is = ap (λ (v : BookView). v.state) m.makes.after

    few_new : length b.entries < 1000000 → length new.entries ≤ 1001160
    few_new low =
        let c : length b.entries + length m.makes.made.lines ≡ length new.entries = count_is in let f : length m.makes.made.lines ≤ 1160 = m.makes.few in omega (arith, c, f, low)

    more_new : length b.entries < length new.entries
    more_new = let c : length b.entries + length m.makes.made.lines ≡ length new.entries = count_is in let f : 0 < length m.makes.made.lines = m.makes.some in omega (arith, c, f)

    pub event_goes : length b.entries < 1000000 → AllStand j.script.names new.entries j.entries (length b.entries) → GoesOn j b new
    event_goes low h = record {
      replayed = record {
        formed = r.formed;
        script = ap (λ (v : BookView). v.script) m.makes.after ∙ r.script;
        workers = ap (λ (v : BookView). v.workers) m.makes.after ∙ r.workers;
        going = ap (λ (v : BookView). v.stopped) m.makes.after ∙ r.going;
        fits = h.fits;
        few = few_new low;
      };
      more = more_new;
      same = goes_same h;
    }

    other : (i : ℕ) (line : Entry) → IsOther j.script.names new.entries j.entries (length b.entries) i → line ≡ get_or new.entries i line
        → lines_after j.script.names (length b.entries) m.makes.made.lines (e ∷ drop (suc (length b.entries)) j.entries) ≡ Err (wrong_after i (Some (Numbered (i + 1) line)))
    other i line h at = sym (λ i'. lines_after j.script.names (length b.entries) (lines_are i') (left i')) ∙ h.first line at

    pub event_ends : length b.entries < 1000000 → (i : ℕ) (line : Entry) → IsOther j.script.names new.entries j.entries (length b.entries) i → line ≡ get_or new.entries i line
        → EndsWith j b (Some (record { place = i + 1; right = Some (right.Line line) }))
    event_ends low i line h at = record {
      wrong = λ k.
          ap (wrong_in (suc k) j.script j.workers j.stop (length b.entries) b.state) left
          ∙ event_differs k j.script j.workers j.stop (length b.entries) b.state e (drop (suc (length b.entries)) j.entries) m.makes.made (wrong_after i (Some (Numbered (i + 1) line))) no_stop made_named (other i line h at);
      placed = (
        omega arith,
        (let t : i ≤ length j.entries = h.there in omega (arith, t)),
        (let t : i < length new.entries = h.before in let f : length new.entries ≤ 1001160 = few_new low in omega (arith, t, f)),
      );
    }

-- ---- the same from a book without the room for the event

-- A book where no stop holds, and the next line of the journal.
pub record IsNext (j : Journal) (old mid : BookView) (e : Entry) : Type 0 where
  pub replayed : IsReplayed j old
  pub open_ : stop_of old ≡ None
  pub more : length old.entries < length j.entries
  pub line : e ≡ get_or j.entries (length old.entries) e
  pub room : RoomOnly old mid
  pub low : length old.entries < 1000000

-- Where no stop holds there are fewer lines than a million.
abbrev pub FewLines : Type 0
FewLines = (s : Script) (st : State) (count : ℕ) → Formed s → stop_at s st count ≡ None → count < 1000000

pub is_next : (j : Journal) (old mid : BookView) (e : Entry) → IsReplayed j old → stop_of old ≡ None → length old.entries < length j.entries → e ≡ get_or j.entries (length old.entries) e → RoomOnly old mid → FewLines → IsNext j old mid e
is_next j old mid e r open_ more line room few = record {
  replayed = r;
  open_ = open_;
  more = more;
  line = line;
  room = room;
  low = few j.script old.state (length old.entries) r.formed (sym (ap (λ (s : Script). stop_at s old.state (length old.entries)) r.script) ∙ open_);
}

module _ (j : Journal) (old mid : BookView) (e : Entry) (x : IsNext j old mid e) where
  entries_same : mid.entries ≡ old.entries
  entries_same = ap (λ (b : BookView). b.entries) x.room

  open_mid : stop_of mid ≡ None
  open_mid = ap (λ (b : BookView). stop_of b) x.room ∙ x.open_

  more_mid : length mid.entries < length j.entries
  more_mid = let e' : length mid.entries ≡ length old.entries = ap length entries_same in let f : length old.entries < length j.entries = x.more in omega (arith, e', f)

  line_mid : e ≡ get_or j.entries (length mid.entries) e
  line_mid = x.line ∙ ap (λ n. get_or j.entries n e) (sym (ap length entries_same))

  low_mid : length mid.entries < 1000000
  low_mid = let e' : length mid.entries ≡ length old.entries = ap length entries_same in let f : length old.entries < 1000000 = x.low in omega (arith, e', f)

  rep_mid : IsReplayed j mid
  rep_mid = replayed_with_room j old mid x.room x.replayed

  pub next_goes : (new : BookView) → MakesNamed mid new e.who → AllStand j.script.names new.entries j.entries (length old.entries) → GoesOn j old new
  next_goes new m h =
      let g : GoesOn j mid new = event_goes j mid new e rep_mid open_mid more_mid line_mid m low_mid (record { stand = stand_mid; fits = h.fits }) in
      record { replayed = g.replayed; more = more_old g; same = λ k. left_with_room j old mid x.room (suc k) ∙ g.same k }
    where
      stand_mid : lines_after j.script.names (length mid.entries) (drop (length mid.entries) new.entries) (drop (length mid.entries) j.entries) ≡ Ok (drop (length new.entries) j.entries)
      stand_mid = ap (λ n. lines_after j.script.names n (drop n new.entries) (drop n j.entries)) (ap length entries_same) ∙ h.stand

      more_old : GoesOn j mid new → length old.entries < length new.entries
      more_old g = let e' : length mid.entries ≡ length old.entries = ap length entries_same in let f : length mid.entries < length new.entries = g.more in omega (arith, e', f)

  pub next_ends : (new : BookView) → MakesNamed mid new e.who → (i : ℕ) (line : Entry) → IsOther j.script.names new.entries j.entries (length old.entries) i → line ≡ get_or new.entries i line
      → EndsWith j old (Some (record { place = i + 1; right = Some (right.Line line) }))
  next_ends new m i line h at =
      let g : EndsWith j mid (Some (record { place = i + 1; right = Some (right.Line line) })) =
      event_ends j mid new e rep_mid open_mid more_mid line_mid m low_mid i line
      (record { before = h.before; there = h.there; first = λ l a. ap (λ n. lines_after j.script.names n (drop n new.entries) (drop n j.entries)) (ap length entries_same) ∙ h.first l a }) at in
      record { wrong = λ k. left_with_room j old mid x.room (suc k) ∙ g.wrong k; placed = g.placed }

  pub next_none : made_at mid.script mid.workers mid.state e.who ≡ None → EndsWith j old (Some (record { place = length old.entries + 1; right = None }))
  next_none none = record {
    wrong = λ k.
        left_with_room j old mid x.room (suc k) ∙ none_made j mid mid e rep_mid open_mid more_mid line_mid none k ∙ ap (λ n. Some (wrong_after n None)) (ap length entries_same);
    placed = (
      omega arith,
      (let f : length old.entries < length j.entries = x.more in omega (arith, f)),
      (let f : length old.entries < 1000000 = x.low in omega (arith, f)),
    );
  }

-- The next event of a journal, as it is made and compared.
use Rattle.std.proofs.Common.{◌≡◌, ℕ, zero, suc, ◌+◌, ◌<◌, List, [], ◌∷◌, length, get_or, Option, Some, None, refl, sym, ◌∙◌, ap, subst, arith}
use Rattle.thr_values.specs.declared.history.Entry.{Entry}
use Rattle.thr_syntax.specs.declared.journal.Journal.{Journal}
use Rattle.thr_text.specs.Journals.{Names}
use Rattle.thr_verdict.specs.FirstWrong.{made_at}
use Rattle.thr_machine.specs.Views.{BookView}
use Rattle.thr_machine.specs.Books.{RoomOnly, stop_of}
use Rattle.thr_comparing.specs.declared.wrong.Right.TheVariants as right
use Rattle.thr_comparing.specs.Wrongs.{IsOther, Compares}
use Rattle.thr_verify.specs.Replays.{MakesNamed, IsReplayed, GoesOn, EndsWith}
use Rattle.thr_verify.proofs.Nexts.{IsNext, FewLines, is_next, next_goes, next_ends, next_none}

any_default : (xs : List Entry) (i : ℕ) (a b : Entry) → i < length xs → get_or xs i a ≡ get_or xs i b
any_default [] i a b h = absurd (omega (arith, h))
any_default (x ∷ xs) zero a b h = refl
any_default (x ∷ xs) (suc i) a b h = any_default xs i a b (omega (arith, h))

-- A book where no stop holds, with the room for an event, where the journal goes on, and the lines of both as they are read.
pub record Opens (j : Journal) (old mid : BookView) (lines entries : List Entry) : Type 0 where
  pub replayed : IsReplayed j old
  pub open_ : stop_of old ≡ None
  pub more : length old.entries < length j.entries
  pub room : RoomOnly old mid
  pub few : FewLines
  pub lines_are : lines ≡ old.entries
  pub entries_are : entries ≡ j.entries

module _ (j : Journal) (old mid : BookView) (lines entries : List Entry) (x : Opens j old mid lines entries) (d : Entry) where
  line_is : get_or entries (length lines) d ≡ get_or j.entries (length old.entries) (get_or entries (length lines) d)
  line_is =
      (λ i. get_or (x.entries_are i) (length (x.lines_are i)) d)
      ∙ any_default j.entries (length old.entries) d (get_or entries (length lines) d) x.more

  next : IsNext j old mid (get_or entries (length lines) d)
  next = is_next j old mid (get_or entries (length lines) d) x.replayed x.open_ x.more line_is x.room x.few

  -- The event isn't legal.
  pub none_here : made_at mid.script mid.workers mid.state (get_or entries (length lines) d).who ≡ None → EndsWith j old (Some (record { place = length lines + 1; right = None }))
  none_here none =
      let P : List Entry → Type 0 = λ es. EndsWith j old (Some (record { place = length es + 1; right = None })) in
      subst P (sym x.lines_are) (next_none j old mid (get_or entries (length lines) d) next none)

  module _ (new : BookView) (m : MakesNamed mid new (get_or entries (length lines) d).who) (names : Names) (made : List Entry) (names_are : names ≡ j.script.names) (made_are : made ≡ new.entries) where
    compared : (o : Option ℕ) → Compares names made entries (length lines) o → Compares j.script.names new.entries j.entries (length old.entries) o
    compared o h =
        subst (λ (ls : List Entry). Compares j.script.names new.entries j.entries (length ls) o) x.lines_are
        (subst (λ (es : List Entry). Compares j.script.names new.entries es (length lines) o) x.entries_are
        (subst (λ (ms : List Entry). Compares j.script.names ms entries (length lines) o) made_are
        (subst (λ (ns : Names). Compares ns made entries (length lines) o) names_are h)))

    -- Its lines stand in the journal.
    pub goes_here : (o : Option ℕ) → o ≡ None → Compares names made entries (length lines) o → GoesOn j old new
    goes_here o is h =
        next_goes j old mid (get_or entries (length lines) d) next new m (subst (Compares j.script.names new.entries j.entries (length old.entries)) is (compared o h))

    -- One of its lines doesn't.
    pub ends_here : (i : ℕ) (by : Entry) (o : Option ℕ) → o ≡ Some i → Compares names made entries (length lines) o → EndsWith j old (Some (record { place = i + 1; right = Some (right.Line (get_or made i by)) }))
    ends_here i by o is h =
        let other : IsOther j.script.names new.entries j.entries (length old.entries) i = subst (Compares j.script.names new.entries j.entries (length old.entries)) is (compared o h) in
        next_ends j old mid (get_or entries (length lines) d) next new m i (get_or made i by) other
        (ap (λ (ms : List Entry). get_or ms i by) made_are ∙ any_default new.entries i by (get_or made i by) other.before)

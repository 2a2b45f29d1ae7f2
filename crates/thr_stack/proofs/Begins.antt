-- Routines that run in a scope of their own.
use Rattle.std.proofs.Common.{◌≡◌, ℕ, ◌+◌, ℤ, List, [], ◌∷◌, ◌++◌, Option, Some, None, unwrap_or, refl, ap, sym, ◌∙◌, subst, arith}
use Rattle.thr_values.specs.declared.number.NameId.{NameId}
use Rattle.thr_values.specs.declared.history.What.{What}
use Rattle.thr_syntax.specs.declared.tree.Script.{Script}
use Rattle.thr_remainder.specs.Places.{nothing}
use Rattle.thr_remainder.specs.Declarations.{Entry, no_entry, entry_of, routine_of}
use Rattle.thr_remainder.specs.Remainders.{Calling}
use Rattle.thr_remainder.specs.Starts.{calling, first_locals}
use Rattle.thr_lines.specs.declared.start.Start.{Start}
use Rattle.thr_lines.specs.Layout.{line_at}
use Rattle.thr_lines.specs.AtLines.{StartsAt}
use Rattle.thr_stack.specs.declared.frame.Kind.{Kind}
use Rattle.thr_stack.specs.declared.frame.Kind.TheVariants as kind
use Rattle.thr_stack.specs.declared.context.Context.{Context}
use Rattle.thr_stack.specs.FrameLists.{FramesView, IsNoCall, below}
use Rattle.thr_stack.specs.Standing.{role_of, items_of, remainder_of, IsKind, IsGood}
use Rattle.thr_stack.specs.Statements.{IsEntered}
use Rattle.thr_stack.specs.Begins.{IsScope, Begins}
use Rattle.thr_stack.proofs.FitLaws.{below_no_call}
use Rattle.thr_stack.proofs.Sites.{good_with}

scope_kind : (s : Script) (x : Kind) → IsScope x → IsKind s x
scope_kind s (kind.Call place count) h = absurd h
scope_kind s (kind.Try scope first) h = absurd h
scope_kind s (kind.Catch scope caught) h = absurd h
scope_kind s (kind.Finally scope pending) h = absurd h
scope_kind s (kind.Once scope block routine) h = tt
scope_kind s (kind.Barrier scope key routine) h = tt

pub scope_no_call : (x : Kind) → IsScope x → IsNoCall x
scope_no_call (kind.Call place count) h = absurd h
scope_no_call (kind.Try scope first) h = tt
scope_no_call (kind.Catch scope caught) h = tt
scope_no_call (kind.Finally scope pending) h = tt
scope_no_call (kind.Once scope block routine) h = tt
scope_no_call (kind.Barrier scope key routine) h = tt

-- The line that closes a routine is that of its entry.
pub close_is : (s : Script) (name : NameId) (start : Start) (entry : Entry) → StartsAt s name start → routine_of s name ≡ Some entry → start.close.0 ≡ entry.body.close
close_is s name start entry h is =
    let e : Entry → ℕ = λ x. x.body.close in
    ap (λ (x : Start). x.close.0) h.start_is ∙ ap (λ (o : Option Entry). e (unwrap_or o no_entry)) (sym h.routine ∙ is)

module _ (s : Script) (k : Context) (good : IsGood s k) (x : Kind) (scope : IsScope x) (routine : NameId) (n : ℤ) where
  -- The frames with the scope.
  abbrev pub opened : FramesView
  opened = record k.frames { items = record { kind = x; back = k.line } ∷ k.frames.items }

  -- The context with the scope.
  abbrev pub there : FramesView → Context
  there frames = record k { frames = frames; scopes = k.scopes + 1 }

  pub begun : (new : Context) (frames : FramesView) (close : ℕ) (line : What) (before after : List What) → frames ≡ opened →
      (entered : IsEntered s routine None close n (there frames) new) → close ≡ entered.entry.body.close → after ≡ before ++ line ∷ [] → Begins s x routine n line k new before after
  begun new frames close line before after is entered closes w =
      let r = remainder_of s k in
      let entry = entered.entry in
      let first = entry.line + entry.locals in
      let callers = entered.called.callers in
      let role = role_of s k.frames.calls x in
      let calls = k.frames.calls in
      let same : below calls x ≡ calls = below_no_call x (scope_no_call x scope) calls in
      let entry_is : entry_of s routine ≡ entry = ap (λ (o : Option Entry). unwrap_or o no_entry) entered.routine in
      let new_item : record { role = Calling (first_locals entry.locals n) None; inside = (line_at s first).left } ≡ calling (entry_of s routine) n None =
      (λ i. record { role = Calling (first_locals entry.locals n) None; inside = entered.body.here i }) ∙ sym (ap (λ (e : Entry). calling e n None) entry_is) in
      let left_is : (line_at s close).left ≡ nothing (entry_of s routine).body.close =
      ap (λ l. (line_at s l).left) closes ∙ entered.body.closed ∙ sym (ap (λ (e : Entry). nothing e.body.close) entry_is) in
      let all : FramesView → FramesView = λ f. record f { items = record { kind = kind.Call None callers; back = close } ∷ f.items; calls = first_locals entry.locals n ∷ f.calls } in
      let with_all : FramesView → Context = λ f. record k { frames = f; line = first; scopes = k.scopes + 1 } in
      let made : Begins s x routine n line k (with_all (all opened)) before after = record {
        to = λ i. record r { items = new_item i ∷ record { role = role; inside = left_is i } ∷ items_of s k.line (same i) k.frames.items; scopes = k.scopes + 1 };
        lines = w;
        setting = refl;
        good = (
          (entered.body.from, omega (arith, entered.body.to, entered.body.inside)),
          tt,
          (
            (omega (arith, closes, entered.body.from, entered.body.to), omega (arith, closes, entered.body.inside)),
            scope_kind s x scope,
            good_with s k.line calls (below calls x) k.frames.items same good,
          ),
        );
      } in
      let there_is : new.frames ≡ all opened = entered.called.same ∙ ap all is in
      subst (λ (y : Context). Begins s x routine n line k y before after) (sym entered.same) (subst (λ (f : FramesView). Begins s x routine n line k (with_all f) before after) (sym there_is) made)

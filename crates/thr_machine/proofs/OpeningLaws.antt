-- What a book is opened with.
use Rattle.std.proofs.Common.{◌≡◌, ℕ, suc, ◌<◌, ◌≤◌, ℤ, pos, Bool, true, false, cond, eqb, List, [], ◌∷◌, length, refl, sym, ap, subst, ◌∙◌, arith, Option, Some, None}
use Rattle.std.specs.Prelude.{slice_get, if◌then◌else◌}
use Rattle.std.specs.Option.{is_some}
use Rattle.std.proofs.lemmas.Bool.Decides.{nat_tests}
use Rattle.thr_values.specs.declared.number.NameId.{NameId}
use Rattle.thr_syntax.specs.declared.tree.Item.{Item}
use Rattle.thr_syntax.specs.declared.tree.Item.TheVariants as item
use Rattle.thr_syntax.specs.declared.tree.Script.{Script}
use Rattle.thr_syntax.specs.Canon.{locals_in}
use Rattle.thr_syntax.specs.Lines.{item_lines}
use Rattle.thr_text.specs.declared.object.Object.{Object}
use Rattle.thr_text.specs.declared.object.Object.TheVariants as object
use Rattle.thr_trees.specs.Kinds.{is_name_of}
use Rattle.thr_trees.specs.Names.{AreNamed}
use Rattle.thr_parts.specs.Tables.{Table, none, get, has, put, names}
use Rattle.thr_parts.specs.Rows.{most}
use Rattle.thr_tables.specs.Places.{has_place}
use Rattle.thr_parts.proofs.TableLaws.{has_get, get_none, get_put}
use Rattle.thr_model.specs.Histories.{limit_in, limit_of}
use Rattle.thr_model.specs.Histories as histories
use Rattle.thr_model.specs.States.{State, opening, main_of, declared_values}
use Rattle.thr_text.specs.Reading.{Formed}
use Rattle.thr_remainder.specs.Remainders.{Remainder}
use Rattle.thr_remainder.specs.Starts.{fresh}
use Rattle.thr_services.specs.Views.{opened}
use Rattle.thr_frames.specs.Stacks.{StackView, remainder_of, setting_of}
use Rattle.thr_stacks.specs.Stacks.{remainders_of, StacksStand}
use Rattle.thr_turns.specs.declared.workings.Workings.{Workings}
use Rattle.thr_machine.specs.Books.{state_of, view_of, settings_in, IsReached, IsKept}
use Rattle.thr_machine.specs.Stepping.{HasFirst, OpensOn}
use Rattle.thr_machine.specs.declared.book.Book.TheInside.{Inside}
use Rattle.thr_machine.proofs.Keeping.{FollowStacks, StandOn, none-kept}
use Rattle.thr_shared.specs.Shared.{FitTables}
use Rattle.thr_machine.specs.Books.{main_in}
use Rattle.thr_pipes.specs.Opening as pipes

-- ---- the limit

pub limit-is : (s : Script) → limit_in s.items ≡ limit_of s
unfolding limit_of
limit-is s = refl

-- ---- names of shared variables

fits-all : (items : List Item) → ((place : ℕ) (name : NameId) (n : ℤ) → slice_get items place ≡ Some (item.Shared name n) → name.0 < names) → FitTables items
fits-all [] h = tt
fits-all (item.Shared name n ∷ items) h = (h 0 name n refl, fits-all items (λ place name n. h (suc place) name n))
fits-all (_ ∷ items) h = fits-all items (λ place name n. h (suc place) name n)

named-here : (s : Script) (name : NameId) (n : ℤ) → AreNamed s (length (locals_in (item.Shared name n))) (item_lines (item.Shared name n)) → is_name_of s object.Shared name ≡ true
named-here s name n h = h.0.declared.0

pub fits-formed : (s : Script) → ((place : ℕ) (i : Item) → slice_get s.items place ≡ Some i → AreNamed s (length (locals_in i)) (item_lines i))
    → ((kind : Object) (name : NameId) → is_name_of s kind name ≡ true → name.0 < length s.names) → length s.names ≤ 1010 → FitTables s.items
fits-formed s named below few =
    fits-all s.items (λ place name n e. below-all (length s.names) name.0 (below object.Shared name (named-here s name n (named place (item.Shared name n) e))) few)
  where
    below-all : (m k : ℕ) → k < m → m ≤ 1010 → k < 1010
    below-all m k h few = omega arith

-- ---- names of pipes

pipes-fit : (items : List Item) → ((place : ℕ) (name : NameId) (n : ℕ) → slice_get items place ≡ Some (item.Pipe name n) → name.0 < names) → pipes.FitTables items
pipes-fit [] h = tt
pipes-fit (item.Pipe name n ∷ items) h = (h 0 name n refl, pipes-fit items (λ place name n. h (suc place) name n))
pipes-fit (_ ∷ items) h = pipes-fit items (λ place name n. h (suc place) name n)

piped-here : (s : Script) (name : NameId) (n : ℕ) → AreNamed s (length (locals_in (item.Pipe name n))) (item_lines (item.Pipe name n)) → is_name_of s object.Pipe name ≡ true
piped-here s name n h = h.0.declared.0

pub pipes-formed : (s : Script) → ((place : ℕ) (i : Item) → slice_get s.items place ≡ Some i → AreNamed s (length (locals_in i)) (item_lines i))
    → ((kind : Object) (name : NameId) → is_name_of s kind name ≡ true → name.0 < length s.names) → length s.names ≤ 1010 → pipes.FitTables s.items
pipes-formed s named below few =
    pipes-fit s.items (λ place name n e. below-all (length s.names) name.0 (below object.Pipe name (piped-here s name n (named place (item.Pipe name n) e))) few)
  where
    below-all : (m k : ℕ) → k < m → m ≤ 1010 → k < 1010
    below-all m k h few = omega arith

-- ---- values

has-or : (b : Bool) (v : ℤ) (o : Option ℤ) → is_some (cond b (Some v) o) ≡ (if b then true else is_some o)
has-or true v o = refl
has-or false v o = refl

has-put : (m : Table ℤ) (k q : ℕ) (v : ℤ) → has (put m k v) q ≡ (if eqb k q then true else has m q)
has-put m k q v = has_get (put m k v) q ∙ ap is_some (get_put m k q v) ∙ has-or (eqb k q) v (get m q) ∙ ap (λ (b : Bool). if eqb k q then true else b) (sym (has_get m q))

none-past : (b : Bool) (name k : ℕ) → name < names → names ≤ k → eqb name k ≡ b → b ≡ false
none-past true name k h past e = absurd (grind (arith, nat_tests))
none-past false name k h past e = refl

pub no-value : (items : List Item) (k : ℕ) → FitTables items → names ≤ k → has (declared_values items) k ≡ false
unfolding declared_values
no-value [] k fit past = has_get none k ∙ ap is_some (get_none k)
no-value (item.Shared name n ∷ items) k fit past =
    has-put (declared_values items) name.0 k n
    ∙ ap (λ (b : Bool). if b then true else has (declared_values items) k) (none-past (eqb name.0 k) name.0 k fit.0 past refl)
    ∙ no-value items k fit.1 past
no-value (_ ∷ items) k fit past = no-value items k fit past

-- ---- the name of the main routine

pub main-is : (s : Script) → main_in s.names ≡ main_of s
unfolding main_of
main-is s = refl

-- ---- no variable

none-where : (o : Option ℤ) → is_some o ≡ false → o ≡ None
none-where None e = refl
none-where (Some n) e = absurd (cc)

pub nothing-there : (m : Table ℤ) (k : ℕ) → has m k ≡ false → get m k ≡ None
nothing-there m k h = none-where (get m k) (sym (has_get m k) ∙ h)

-- ---- the first stack

pub first-place : has_place {A = StackView} none 1 most ≡ true
unfolding none has
first-place = refl

-- Thread 1 holds 256 frames at the opening.
pub first-setting : (s : Script) (k : StackView) → setting_of s k ≡ record { script = s; me = 1; size = 256 } → setting_of s k ≡ settings_in s (opening s) 1
unfolding none get put
first-setting s k e = e

pub stand-first : (s : Script) (stacks : Table StackView) → StandOn s → StacksStand s none (settings_in s (opening s)) → HasFirst s stacks → StacksStand s stacks (settings_in s (opening s))
stand-first s stacks on nobody h =
    subst (λ (m : Table StackView). StacksStand s m (settings_in s (opening s))) (sym h.alone)
    (on.put_stands none (settings_in s (opening s)) 1 h.first nobody h.begun.stack (first-setting s h.first h.begun.setting))

left-first : (s : Script) (stacks : Table StackView) → FollowStacks s → remainders_of s none ≡ none → HasFirst s stacks → remainders_of s stacks ≡ put none 1 (fresh s (main_of s) (pos 0))
left-first s stacks f nobody h =
    ap (remainders_of s) h.alone ∙ f.put_left none 1 h.first ∙ ap (λ (m : Table Remainder). put m 1 (remainder_of s h.first)) nobody ∙ ap (put none 1) h.begun.begins

opening-is : (s : Script) (rs : Table Remainder) (shared : Table ℤ) → rs ≡ put none 1 (fresh s (main_of s) (pos 0)) → shared ≡ declared_values s.items → opened s.items rs shared ≡ opening s
opening-is s rs shared e f = ap (λ (m : Table Remainder). opened s.items m shared) e ∙ ap (opened s.items (put none 1 (fresh s (main_of s) (pos 0)))) f

-- The state at the opening.
pub opens-so : (s : Script) (w : Workings) (stacks : Table StackView) → FollowStacks s → remainders_of s none ≡ none → HasFirst s stacks → OpensOn s w → state_of s w stacks ≡ opening s
opens-so s w stacks f nobody h on = on.services (remainders_of s stacks) w.shared ∙ opening-is s (remainders_of s stacks) w.shared (left-first s stacks f nobody h) on.shared

-- A book with these fields was opened now.
pub record IsNew (a : Inside) : Type 0 where
  pub formed : Formed a.lines
  pub limit : a.limit ≡ limit_in a.lines.items
  pub some : 1 ≤ a.workers
  pub few : a.workers ≤ 16
  pub first : HasFirst a.lines a.stacks
  pub state : state_of a.lines a.workings a.stacks ≡ opening a.lines
  pub opens : OpensOn a.lines a.workings
  pub no_turns : a.turns ≡ 0
  pub no_spare : a.spare ≡ None
  pub going : a.stopped ≡ None

reached-opening : (a : Inside) → IsNew a → IsReached (view_of a)
reached-opening a h = record { events = []; history = rw (h.opens.no_lines, h.state, h.no_turns) histories.opened }

pub keeps-opening : (a : Inside) → IsNew a → StandOn a.lines → StacksStand a.lines none (settings_in a.lines (opening a.lines)) → IsKept a
keeps-opening a h on nobody = record {
  formed = h.formed;
  limit = h.limit ∙ limit-is a.lines;
  some = h.some;
  few = h.few;
  stand = subst (λ (st : State). StacksStand a.lines a.stacks (settings_in a.lines st)) (sym h.state) (stand-first a.lines a.stacks on nobody h.first);
  interface = h.opens.interface;
  spare = rw h.no_spare tt;
  reached = reached-opening a h;
  counted = omega (arith, h.no_turns);
  stopped = none-kept a.stopped _ h.going;
}

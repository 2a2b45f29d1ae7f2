-- Entries that are compared as equal are the same, and so are their lines.
use Rattle.std.proofs.Common.{◌≡◌, ℕ, List, [], ◌∷◌, Bool, true, false, refl, rules, arith, sym, ◌∙◌, ap}
use Rattle.std.specs.Prelude.{ℤ, ◌&&◌, Option}
use Rattle.thr_values.specs.declared.history.Entry.{Entry}
use Rattle.thr_values.specs.declared.history.What.{What}
use Rattle.thr_values.specs.declared.history.What.TheVariants as what
use Rattle.thr_values.specs.declared.history.Who.{Who}
use Rattle.thr_values.specs.declared.call.Arg.{Arg}
use Rattle.thr_values.specs.declared.number.Tid.{Tid}
use Rattle.thr_values.specs.declared.number.Line.{Line}
use Rattle.thr_values.specs.declared.number.NameId.{NameId}
use Rattle.thr_values.specs.declared.exception.Exc.{Exc}
use Rattle.thr_values.specs.contracts.call.ArgPartialEq.TheImpl as arg_eq
use Rattle.thr_values.specs.declared.call.CallWord.{CallWord}
use Rattle.thr_values.specs.contracts.call.CallWordPartialEq.TheImpl as word_eq
use Rattle.thr_values.specs.declared.reply.Reply.{Reply}
use Rattle.thr_values.specs.contracts.reply.ReplyPartialEq.TheImpl as reply_eq
use Rattle.std.specs.Cmp.Lexicographic.{pointwise}
use Rattle.thr_values.specs.contracts.history.EntryPartialEq.TheImpl.{ghosts}
use Rattle.thr_values.specs.contracts.history.WhatPartialEq.TheImpl as what_eq
use Rattle.thr_values.specs.contracts.history.WhoPartialEq.TheImpl as who_eq
use Rattle.thr_text.specs.Journals.{Names, numbered_line}
use Rattle.thr_verdict.specs.FirstWrong.{is_same_line}
use Rattle.std.specs.Cmp.Lexicographic.{nat_list_eq_equiv}
use Rattle.std.proofs.lemmas.Bool.Decides.{nat_tests}

same_who : (a b : Who) → who_eq.ghosts.eq a b ≡ true → a ≡ b
same_who a b h = grind (arith, nat_tests)

same_arg : (a b : Arg) → arg_eq.ghosts.eq a b ≡ true → a ≡ b
same_arg a b h = grind (arith, nat_tests)

left : (a b : Bool) → (a && b) ≡ true → a ≡ true
left true b h = refl
left false b h = h

right : (a b : Bool) → (a && b) ≡ true → b ≡ true
right true b h = h
right false b h = absurd (search (h, rules))

same_args : (xs ys : List Arg) → pointwise arg_eq.ghosts.eq xs ys ≡ true → xs ≡ ys
same_args [] [] h = refl
same_args [] (y ∷ ys) h = absurd (search rules)
same_args (x ∷ xs) [] h = absurd (search rules)
same_args (x ∷ xs) (z ∷ zs) h =
    let both : (arg_eq.ghosts.eq x z && pointwise arg_eq.ghosts.eq xs zs) ≡ true = h in
    let head : x ≡ z = same_arg x z (left _ _ both) in
    let tail : xs ≡ zs = same_args xs zs (right (arg_eq.ghosts.eq x z) _ both) in
    λ i. head i ∷ tail i

same_word : (c d : CallWord) → word_eq.ghosts.eq c d ≡ true → c ≡ d
same_word c d h = grind (arith, nat_tests)

same_reply : (r s : Reply) → reply_eq.ghosts.eq r s ≡ true → r ≡ s
same_reply r s h = grind (arith, nat_tests)

same_call : (c d : CallWord) (xs ys : List Arg) (r s : Reply) → what_eq.ghosts.eq (what.Call c xs r) (what.Call d ys s) ≡ true → what.Call c xs r ≡ what.Call d ys s
same_call c d xs ys r s h =
    let all : (word_eq.ghosts.eq c d && (pointwise arg_eq.ghosts.eq xs ys && reply_eq.ghosts.eq r s)) ≡ true = h in
    let first : c ≡ d = same_word c d (left _ _ all) in
    let second : xs ≡ ys = same_args xs ys (left _ _ (right (word_eq.ghosts.eq c d) _ all)) in
    let third : r ≡ s = same_reply r s (right (pointwise arg_eq.ghosts.eq xs ys) _ (right (word_eq.ghosts.eq c d) _ all)) in
    λ i. what.Call (first i) (second i) (third i)

call_any : (c : CallWord) (xs : List Arg) (r : Reply) (b : What) → what_eq.ghosts.eq (what.Call c xs r) b ≡ true → what.Call c xs r ≡ b
call_any c xs r (what.Call d ys s) h = same_call c d xs ys r s h
call_any c xs r b h = absurd (grind (arith, nat_tests))

ret_any : (r : Reply) (b : What) → what_eq.ghosts.eq (what.Ret r) b ≡ true → what.Ret r ≡ b
ret_any r b h = grind (arith, nat_tests)

-- ---- the other lines

run_any : (t : Tid) (b : What) → what_eq.ghosts.eq (what.Run t) b ≡ true → what.Run t ≡ b
run_any t b h = grind (arith, nat_tests)

clock_any : (n : ℤ) (b : What) → what_eq.ghosts.eq (what.Clock n) b ≡ true → what.Clock n ≡ b
clock_any n b h = grind (arith, nat_tests)

gift_any : (m : Option NameId) (b : What) → what_eq.ghosts.eq (what.Gift m) b ≡ true → what.Gift m ≡ b
gift_any m b h = grind (arith, nat_tests)

say_any : (n : ℤ) (b : What) → what_eq.ghosts.eq (what.Say n) b ≡ true → what.Say n ≡ b
say_any n b h = grind (arith, nat_tests)

set_any : (l : Line) (n : ℤ) (b : What) → what_eq.ghosts.eq (what.Set l n) b ≡ true → what.Set l n ≡ b
set_any l n b h = grind (arith, nat_tests)

if_any : (l : Line) (n : ℤ) (b : What) → what_eq.ghosts.eq (what.If l n) b ≡ true → what.If l n ≡ b
if_any l n b h = grind (arith, nat_tests)

while_any : (l : Line) (n : ℤ) (b : What) → what_eq.ghosts.eq (what.While l n) b ≡ true → what.While l n ≡ b
while_any l n b h = grind (arith, nat_tests)

callat_any : (l : Line) (n : ℤ) (b : What) → what_eq.ghosts.eq (what.CallAt l n) b ≡ true → what.CallAt l n ≡ b
callat_any l n b h = grind (arith, nat_tests)

return_any : (l : Line) (n : ℤ) (b : What) → what_eq.ghosts.eq (what.Return l n) b ≡ true → what.Return l n ≡ b
return_any l n b h = grind (arith, nat_tests)

raise_any : (u : ℕ) (x : Exc) (b : What) → what_eq.ghosts.eq (what.Raise u x) b ≡ true → what.Raise u x ≡ b
raise_any u x b h = grind (arith, nat_tests)

reraise_any : (u : ℕ) (x : Exc) (b : What) → what_eq.ghosts.eq (what.Reraise u x) b ≡ true → what.Reraise u x ≡ b
reraise_any u x b h = grind (arith, nat_tests)

deliver_any : (u : ℕ) (l : Line) (b : What) → what_eq.ghosts.eq (what.Deliver u l) b ≡ true → what.Deliver u l ≡ b
deliver_any u l b h = grind (arith, nat_tests)

exit_any : (u : ℕ) (n : ℤ) (b : What) → what_eq.ghosts.eq (what.Exit u n) b ≡ true → what.Exit u n ≡ b
exit_any u n b h = grind (arith, nat_tests)

try_any : (s : ℕ) (l : Line) (b : What) → what_eq.ghosts.eq (what.Try s l) b ≡ true → what.Try s l ≡ b
try_any s l b h = grind (arith, nat_tests)

endtry_any : (s : ℕ) (b : What) → what_eq.ghosts.eq (what.Endtry s) b ≡ true → what.Endtry s ≡ b
endtry_any s b h = grind (arith, nat_tests)

catch_any : (s : ℕ) (u : ℕ) (l : Line) (b : What) → what_eq.ghosts.eq (what.Catch s u l) b ≡ true → what.Catch s u l ≡ b
catch_any s u l b h = grind (arith, nat_tests)

endcatch_any : (s : ℕ) (b : What) → what_eq.ghosts.eq (what.Endcatch s) b ≡ true → what.Endcatch s ≡ b
endcatch_any s b h = grind (arith, nat_tests)

finally_any : (s : ℕ) (u : ℕ) (b : What) → what_eq.ghosts.eq (what.Finally s u) b ≡ true → what.Finally s u ≡ b
finally_any s u b h = grind (arith, nat_tests)

endfin_any : (s : ℕ) (b : What) → what_eq.ghosts.eq (what.Endfin s) b ≡ true → what.Endfin s ≡ b
endfin_any s b h = grind (arith, nat_tests)

once_any : (s : ℕ) (o : NameId) (b : What) → what_eq.ghosts.eq (what.Once s o) b ≡ true → what.Once s o ≡ b
once_any s o b h = grind (arith, nat_tests)

done_any : (s : ℕ) (b : What) → what_eq.ghosts.eq (what.Done s) b ≡ true → what.Done s ≡ b
done_any s b h = grind (arith, nat_tests)

undone_any : (s : ℕ) (u : ℕ) (b : What) → what_eq.ghosts.eq (what.Undone s u) b ≡ true → what.Undone s u ≡ b
undone_any s u b h = grind (arith, nat_tests)

destroy_any : (s : ℕ) (k : NameId) (n : ℤ) (b : What) → what_eq.ghosts.eq (what.Destroy s k n) b ≡ true → what.Destroy s k n ≡ b
destroy_any s k n b h = grind (arith, nat_tests)

enddes_any : (s : ℕ) (b : What) → what_eq.ghosts.eq (what.Enddes s) b ≡ true → what.Enddes s ≡ b
enddes_any s b h = grind (arith, nat_tests)

lost_any : (u : ℕ) (v : ℕ) (b : What) → what_eq.ghosts.eq (what.Lost u v) b ≡ true → what.Lost u v ≡ b
lost_any u v b h = grind (arith, nat_tests)

bottom_any : (u : ℕ) (n : ℤ) (b : What) → what_eq.ghosts.eq (what.Bottom u n) b ≡ true → what.Bottom u n ≡ b
bottom_any u n b h = grind (arith, nat_tests)

pause_any : (b : What) → what_eq.ghosts.eq what.Pause b ≡ true → what.Pause ≡ b
pause_any b h = grind (arith, nat_tests)

end_any : (n : ℤ) (b : What) → what_eq.ghosts.eq (what.End n) b ≡ true → what.End n ≡ b
end_any n b h = grind (arith, nat_tests)

same_what : (a b : What) → what_eq.ghosts.eq a b ≡ true → a ≡ b
same_what (what.Call c xs r) b h = call_any c xs r b h
same_what (what.Ret r) b h = ret_any r b h
same_what (what.Run t) b h = run_any t b h
same_what (what.Clock n) b h = clock_any n b h
same_what (what.Gift m) b h = gift_any m b h
same_what (what.Say n) b h = say_any n b h
same_what (what.Set l n) b h = set_any l n b h
same_what (what.If l n) b h = if_any l n b h
same_what (what.While l n) b h = while_any l n b h
same_what (what.CallAt l n) b h = callat_any l n b h
same_what (what.Return l n) b h = return_any l n b h
same_what (what.Raise u x) b h = raise_any u x b h
same_what (what.Reraise u x) b h = reraise_any u x b h
same_what (what.Deliver u l) b h = deliver_any u l b h
same_what (what.Exit u n) b h = exit_any u n b h
same_what (what.Try s l) b h = try_any s l b h
same_what (what.Endtry s) b h = endtry_any s b h
same_what (what.Catch s u l) b h = catch_any s u l b h
same_what (what.Endcatch s) b h = endcatch_any s b h
same_what (what.Finally s u) b h = finally_any s u b h
same_what (what.Endfin s) b h = endfin_any s b h
same_what (what.Once s o) b h = once_any s o b h
same_what (what.Done s) b h = done_any s b h
same_what (what.Undone s u) b h = undone_any s u b h
same_what (what.Destroy s k n) b h = destroy_any s k n b h
same_what (what.Enddes s) b h = enddes_any s b h
same_what (what.Lost u v) b h = lost_any u v b h
same_what (what.Bottom u n) b h = bottom_any u n b h
same_what what.Pause b h = pause_any b h
same_what (what.End n) b h = end_any n b h

same_entry : (a b : Entry) → ghosts.eq a b ≡ true → a ≡ b
same_entry a b h =
    let both : (who_eq.ghosts.eq a.who b.who && what_eq.ghosts.eq a.what b.what) ≡ true = h in
    let who : a.who ≡ b.who = same_who a.who b.who (left _ _ both) in
    let what : a.what ≡ b.what = same_what a.what b.what (right (who_eq.ghosts.eq a.who b.who) _ both) in
    λ i. record { who = who i; what = what i }

pub same_line : (names : Names) (a b : Entry) → ghosts.eq a b ≡ true → true ≡ is_same_line names a b
same_line names a b h =
    let same : a ≡ b = same_entry a b h in
    let self : true ≡ is_same_line names a a = sym (nat_list_eq_equiv.refl (numbered_line names 0 a)) in
    self ∙ ap (is_same_line names a) same

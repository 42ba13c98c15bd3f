-- `order_checks::first_place` meets its contract: the first place is the library's `position`.
use Rattle.std.specs.Prelude.{◌≡◌, ◌≤◌, ℕ, Bool, true, false, cond, List, length, eqb, ltb, Option, Some, None, refl}
use Rattle.std.specs.Option.{unwrap_or}
use Rattle.std.specs.List.{position_or_len}
use Rattle.std.proofs.Common.{sym, ap, ◌∙◌, rules, tests, arith}
use Rattle.std.proofs.lemmas.Iterator.{YieldsList-from_slice}
use Rattle.std.proofs.lemmas.Iterator.Search.{position_from_yields_List}
use Rattle.std.proofs.lemmas.List.Recursion.{is_position_or_len}
use borrow.Author.Tests.{ltb-false}
use Rattle.order.specs.Order.{first_place}
use Rattle.order.proofs.PlaceBase.{place_le}
use Rattle.order_checks.proofs.first_place.Goals as goal

position_place : (l : List ℕ) (i : ℕ) → first_place l i ≡ position_or_len (λ x. eqb x i) l
unfolding first_place
position_place l i = is_position_or_len (λ l. first_place l i) (λ x. eqb x i) refl (λ x xs. ap (cond (eqb x i) 0) (omega arith)) l

-- the answer, where the length stands for none
or_length : (p n : ℕ) → p ≤ n → unwrap_or (cond (ltb p n) (Some p) None) n ≡ p
or_length p n le = by (ltb p n) refl
  where
    by : (b : Bool) → ltb p n ≡ b → unwrap_or (cond b (Some p) None) n ≡ p
    by true e = refl
    by false e = omega (arith, ltb-false p n e)

pub returns : goal.returns
returns c =
    let args = c.args in
    let l = args.order.now in
    let test = λ (x : ℕ). eqb x args.i in
    let e = position_from_yields_List test _ _ c.position.result c.position.ensures.ran (YieldsList-from_slice l (cc)) (λ x b q k. search (rules, tests)) in
    let same = position_place l args.i in
    c.unwrap_or.ensures ∙ ap (λ (o : Option ℕ). unwrap_or o (length l)) e
    ∙ or_length (position_or_len test l) (length l) (omega (arith, same, place_le l args.i)) ∙ sym same

-- The points of a book whose front left is loops of two.
use Rattle.std.specs.Prelude.{◌≡◌, refl, List, [], ◌∷◌, ℕ, ◌<◌, ℤ, pos, nat_abs, ◌+ℤ◌, length, Float}
use Rattle.std.proofs.Common.{sym, ap, ap₂, ◌∙◌, arith}
use Rattle.std.proofs.Math.IntN.{+ℤ_idr}
use Rattle.laws.proofs.RingBase.{var, num, neg, ◌+ᵉ◌}
use Rattle.laws.proofs.Ring.{ring}
use Rattle.exact.specs.Corner.{Vector}
use Rattle.outline.specs.Outline.{Outline}
use Rattle.topology.specs.Sums.{All}
use Rattle.topology.specs.Balance.{Antisymmetric, difference}
use Rattle.front.specs.State.{State}
use Rattle.cover_turns.proofs.Turns.{turn_back}
use Rattle.books.specs.Book.{start_book, place_of, edges_sumℤ, edges_to, loop_edges}
use Rattle.books.specs.Net.{net}
use Rattle.books.proofs.NetLaws.{same_net}
use Rattle.books.specs.Points.{nths, turn_of, winding, quads_round}
use Rattle.books.specs.Holds.{LoopsHold, HoldsAfter}
use Rattle.books.proofs.Points.{in_one}
use Rattle.cover.specs.Cover.{PavedOnce}

-- ---- loops of two

two_none : (w : ℕ → ℕ → ℤ) → Antisymmetric w → (ls : List (List ℕ)) → All (λ l. length l ≡ 2) ls → edges_sumℤ w (loop_edges ls) ≡ pos 0
unfolding edges_sumℤ loop_edges edges_to
two_none w anti [] all = refl
two_none w anti ([] ∷ ls) all = absurd (let e = all.0 in omega arith)
two_none w anti ((u ∷ []) ∷ ls) all = absurd (let e = all.0 in omega arith)
two_none w anti ((u ∷ v ∷ x ∷ l) ∷ ls) all = absurd (let e = all.0 in omega arith)
two_none w anti ((u ∷ v ∷ []) ∷ ls) all = rw (two_none w anti ls all.1, anti u v) (ring (w u v ∷ []) (var 0 +ᵉ (neg (var 0) +ᵉ num 0)) (num 0) tt)

module _ (o : Outline) (size : Float) (s : State) (k : ℕ) (H : HoldsAfter o size s k) where
  none_left : (L : LoopsHold o H.book) → All (λ l. length l ≡ 2) L.loops → (n : ℕ) (p : Vector) → winding n p H.book H.book.front ≡ pos 0
  unfolding net
  none_left L two n p =
      let w = turn_of n p H.book in
      let anti : Antisymmetric w = λ u v. turn_back p (place_of (nths n) H.book u) (place_of (nths n) H.book v) in
      same_net w anti H.book.front (loop_edges L.loops) (λ u v. sym (ap₂ difference (L.edges u v) (L.edges v u))) ∙ two_none w anti L.loops two

  paved : (L : LoopsHold o H.book) → All (λ l. length l ≡ 2) L.loops → (n : ℕ) → 0 < n → (p : Vector)
      → winding n p (start_book o size) (start_book o size).front ≡ pos (quads_round n p H.book s k)
  paved L two n above p = H.points n above p ∙ (ap (λ (z : ℤ). pos (quads_round n p H.book s k) +ℤ z) (none_left L two n p) ∙ +ℤ_idr _)

  pub paved_once : PavedOnce o size s k
  paved_once =
      record { book = H.book; steps = H.steps; paved = paved; one = λ L two n above p e. in_one n p H.book s k (ap nat_abs (sym (paved L two n above p) ∙ e)) }

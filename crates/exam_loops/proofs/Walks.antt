-- What holds of the definitions of proofs/WalksBase.antt.
use Rattle.std.specs.Prelude.{List, ◌≢◌, ◌≡◌, eqb}
use Rattle.std.proofs.Math.Bool.{true, not}
use Rattle.std.proofs.Math.Logic.{⊎_elim}
use Rattle.std.proofs.Math.Path.{refl, ap}
use Rattle.std.proofs.Common.{sym, ◌∙◌, arith}
use Prim.Native.Nat.{ℕ, zero, suc, ◌<◌, ◌≤◌}
use Rattle.std.proofs.Math.Dec.{ltb}
use Rattle.std.proofs.Math.ListN.{length}
use borrow.Author.Tests.{eqb-true, not-true, not-false}
use Rattle.laws.specs.Loop.{any_none}
use Rattle.laws.specs.Tests.{both, or_cases}
use Rattle.topology.specs.Links.{off, link_of}
use Rattle.topology.specs.Walk.{walk_by}
use Rattle.front_loop_list.specs.Walked.{walk_on, link_node}
use Rattle.exam_loops.specs.Loops.{links_back, are_paired, links_sound}
use Rattle.exam_loops.proofs.WalksBase.{walk_closes}

-- ---- sound links

module _ (n : ℕ) (next prev : List ℕ) (sound : links_sound n next prev ≡ true) where
  -- the links of every node are answered
  pub sound_paired : (u : ℕ) → u < n → are_paired n next prev u ≡ true
  unfolding links_sound
  sound_paired u h =
      not-false (are_paired n next prev u) (any_none (λ v. not (are_paired n next prev v)) n (not-true _ sound) u h)

  -- the node that u is linked to is linked back to u
  pub linked_back : (u v : ℕ) → link_of n next u ≡ v → v ≢ off → link_of n prev v ≡ u
  unfolding are_paired links_back
  linked_back u v e on =
      let un = link_node n next u (λ q. on (sym e ∙ q)) in
      let half = (both (links_back n prev u (link_of n next u)) (links_back n next u (link_of n prev u)) (sound_paired u un)).0 in
      ⊎_elim (λ q. absurd (on (sym e ∙ eqb-true (link_of n next u) off q)))
      (λ q. ap (link_of n prev) (sym e) ∙ eqb-true (link_of n prev (link_of n next u)) u (both (ltb (link_of n next u) n) _ q).1)
      (or_cases (eqb (link_of n next u) off) _ half)

  -- where the node before u is below it, no loop starts at u
  pub starts_none : (u : ℕ) → n ≤ off → link_of n prev u < u → length (walk_by (link_of n next) n u u) ≡ 0
  starts_none u few low = by (length (walk_by f n u u)) refl
    where
      f : ℕ → ℕ
      f = link_of n next

      by : (m : ℕ) → length (walk_by f n u u) ≡ m → m ≡ 0
      by zero e = refl
      by (suc m) e =
          let un = link_node n next u (walk_on f n u u (omega (arith, e))) in
          let c = walk_closes f m n u u e in
          let back = linked_back c.last u c.back (λ q. omega (arith, un, few, q)) in
          absurd (omega (arith, low, back, c.above))

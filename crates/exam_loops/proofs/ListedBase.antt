-- Of a state as a run leaves it, the links are sound and the loops are those that `front_loops` lists.
use Rattle.std.specs.Prelude.{Bool, ◌&&◌, ◌||◌, List, ◌≢◌, ◌≡◌, ℕ, ◌<◌, ltb}
use Rattle.std.proofs.Math.Bool.{true, false, not}
use Rattle.std.proofs.Math.Path.{refl, ap}
use Rattle.std.proofs.Common.{sym, ◌∙◌, arith, eq-eqb, lt-ltb}
use Rattle.std.proofs.Math.Dec.{eqb}
use Rattle.std.proofs.lemmas.Bool.{eqb-false}
use Rattle.laws.specs.Loop.{any_false}
use Rattle.laws.specs.Tests.{and_both}
use Rattle.topology.specs.Links.{off, link_of, delta, delta_same, delta_is}
use Rattle.topology.specs.Front.{FrontOf}
use Rattle.topology.proofs.Front.{source, target}
use Rattle.exam_loops.specs.Loops.{links_back, are_paired, links_sound}

module _ (n : ℕ) (next prev : List ℕ) (ls : List (List ℕ)) (F : FrontOf n next prev ls) where
  abbrev f : ℕ → ℕ
  f = link_of n next

  abbrev g : ℕ → ℕ
  g = link_of n prev

  -- an edge of the front is a link, and a link back
  edge_links : (u v : ℕ) → u ≢ off → v ≢ off → delta (f u) v ≡ delta (g v) u
  edge_links u v hu hv = sym (F.loops.nexts u v hv) ∙ F.prevs u v hu

  -- a link that leads to a node which leads back is answered
  answered : (links back : List ℕ) (u : ℕ)
      → (link_of n links u ≢ off → (link_of n links u < n) × (link_of n back (link_of n links u) ≡ u)) → links_back n back u (link_of n links u) ≡ true
  unfolding links_back
  answered links back u h = by (eqb (link_of n links u) off) refl
    where
      by : (b : Bool) → eqb (link_of n links u) off ≡ b → b || (ltb (link_of n links u) n && eqb (link_of n back (link_of n links u)) u) ≡ true
      by true e = refl
      by false e =
          let v = link_of n links u in
          let p = h (eqb-false v off e) in
          and_both (ltb v n) (eqb (link_of n back v) u) (lt-ltb v n p.0) (eq-eqb (link_of n back v) u p.1)

  -- u is no mark
  node_on : (u : ℕ) → u < n → u ≢ off
  node_on u h q = omega (arith, h, q, F.loops.few)

  next_back : (u : ℕ) → u < n → links_back n prev u (f u) ≡ true
  next_back u h =
      answered next prev u (λ on.
      let itself = delta_same (f u) (f u) refl in (
        target n f ls F.loops u (f u) (omega (arith, F.loops.nexts u (f u) on, itself)),
        delta_is (g (f u)) u (omega (arith, edge_links u (f u) (node_on u h) on, itself)),
      ))

  prev_back : (v : ℕ) → v < n → links_back n next v (g v) ≡ true
  prev_back v h =
      answered prev next v (λ on.
      let itself = delta_same (g v) (g v) refl in (
        source n f ls F.loops (g v) v (omega (arith, F.prevs (g v) v on, itself)),
        delta_is (f (g v)) v (omega (arith, edge_links (g v) v on (node_on v h), itself)),
      ))

  -- the links of a front are sound
  pub front_sound : links_sound n next prev ≡ true
  unfolding links_sound are_paired
  front_sound =
      ap not (any_false (λ u. not (links_back n prev u (f u) && links_back n next u (g u))) n
      (λ u h. ap not (and_both (links_back n prev u (f u)) (links_back n next u (g u)) (next_back u h) (prev_back u h))))

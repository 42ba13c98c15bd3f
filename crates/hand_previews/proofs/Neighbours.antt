-- A front's links as answers: what one without an edge is, and what one that was taken apart tells.
use Rattle.std.specs.Prelude.{Bool, cond, List, ◌≡◌, ◌≢◌, ℕ, ◌+◌, ◌*◌, ◌<◌, ◌≤◌, eqb, length, Option, Some, None}
use Rattle.std.proofs.Math.Bool.{true, false}
use Rattle.std.proofs.Math.Path.{refl}
use Rattle.std.proofs.Common.{sym, ap, ◌∙◌}
use borrow.Author.Tests.{eqb-true, eqb-false, eq-eqb}
use Rattle.topology.specs.Links.{off, update}
use Rattle.front.specs.Neighbours.{neighbour_of, neighbour_off, neighbour_at, is_at, link_is}
use Rattle.laws.specs.Loop.{sum_up}
use Rattle.front.specs.declared.Corner.{Corner}
use Rattle.front.specs.Place.{added, corner_id}
use Rattle.hand_previews.specs.Preview.{remove_link, put_link, bare_links, moved_links, is_on}
use Rattle.hand_previews.proofs.ListLaws.{Written, written_room}

module _ (g : ℕ → ℕ) (x y u : ℕ) where
  removed_neighbour : neighbour_of (remove_link x y g u) ≡ cond (is_at (neighbour_of (g x)) y) (cond (eqb x u) None (neighbour_of (g u))) (neighbour_of (g u))
  removed_neighbour = by (eqb (g x) off) refl (eqb (g x) y) refl (eqb x u) refl
    where
      by : (z : Bool) → eqb (g x) off ≡ z → (t : Bool) → eqb (g x) y ≡ t → (v : Bool) → eqb x u ≡ v
          → neighbour_of (cond t (cond v off (g u)) (g u)) ≡ cond (is_at (neighbour_of (g x)) y) (cond v None (neighbour_of (g u))) (neighbour_of (g u))
      by true z t e true f =
          let none : neighbour_of (g u) ≡ None = neighbour_off (g u) (ap g (sym (eqb-true x u f)) ∙ eqb-true (g x) off z) in
          rw (neighbour_off (g x) (eqb-true (g x) off z)) (both t none)
        where
          both : (t : Bool) → neighbour_of (g u) ≡ None → neighbour_of (cond t off (g u)) ≡ neighbour_of (g u)
          both true n = neighbour_off off refl ∙ sym n
          both false n = refl
      by true z t e false f = rw (neighbour_off (g x) (eqb-true (g x) off z)) (same t)
        where
          same : (t : Bool) → neighbour_of (cond t (g u) (g u)) ≡ neighbour_of (g u)
          same true = refl
          same false = refl
      by false z true e true f = rw (neighbour_at (g x) (eqb-false (g x) off z), e) (neighbour_off off refl)
      by false z true e false f = rw (neighbour_at (g x) (eqb-false (g x) off z), e) refl
      by false z false e v f = rw (neighbour_at (g x) (eqb-false (g x) off z), e) refl

  -- what the code answers of the links of x and u without the edge x to y
  pub removed : {was link r : Option ℕ} → r ≡ cond (is_at was y) (cond (eqb x u) None link) link → was ≡ neighbour_of (g x) → link ≡ neighbour_of (g u)
      → r ≡ neighbour_of (remove_link x y g u)
  removed e w l = e ∙ rw (w, l) (sym removed_neighbour)

-- of x with the edge x to y
pub put_here : (g : ℕ → ℕ) (x y u : ℕ) → x ≡ u → y ≢ off → Some y ≡ neighbour_of (update g x y u)
put_here g x y u e h = rw (eq-eqb x u e) (sym (neighbour_at y h))

-- a link that was taken apart
module _ (w : ℕ) {n : Option ℕ} (e : n ≡ neighbour_of w) where
  pub no_link : n ≡ None → w ≡ off
  no_link q = sym (link_is w e q)

  pub some_link : {v : ℕ} → n ≡ Some v → (v ≡ w) × (v ≢ off)
  some_link {v} q = (link_is w e q, λ z. never (sym q ∙ (e ∙ neighbour_off w (sym (link_is w e q) ∙ z))))
    where
      never : Some v ≡ None → ⊥
      never p = cc

-- there is a place for it
pub room_here : (g : ℕ → ℕ) (m : ℕ) (before : List ℕ) {u j : ℕ} {list : List ℕ} → Written g m before u list j → u < m
    → 2 * sum_up m (is_on g) ≤ length before → {n : Option ℕ} {v : ℕ} → n ≡ neighbour_of (g u) → n ≡ Some v → 2 * (j + 1) ≤ length list
room_here g m before {u = u} w h long e q = let here = some_link (g u) e q in written_room g m before w h long here.0 here.1

-- the link of u after a quad, by the answers for its sides
pub moved : (c d : Corner) (a b n : ℕ) (g : ℕ → ℕ) (u : ℕ) {id_c id_d : ℕ} {bare at_c across r : Option ℕ} → id_c ≡ corner_id n c
    → id_d ≡ corner_id (n + added c) d → bare ≡ neighbour_of (bare_links c d a b (corner_id (n + added c) d) (corner_id n c) g u)
    → ((h : ℕ → ℕ) → bare ≡ neighbour_of (h u) → at_c ≡ neighbour_of (put_link c a id_c h u))
    → ((h : ℕ → ℕ) → at_c ≡ neighbour_of (h u) → across ≡ neighbour_of (update h id_c id_d u))
    → ((h : ℕ → ℕ) → across ≡ neighbour_of (h u) → r ≡ neighbour_of (put_link d id_d b h u))
    → r ≡ neighbour_of (moved_links c d a b (corner_id (n + added c) d) (corner_id n c) g u)
unfolding moved_links
moved c d a b n g u {id_c = id_c} {id_d = id_d} ec ed eb at_a at_id_c at_id_d =
    let bare = bare_links c d a b id_d id_c g in
    rw (← ec, ← ed) (at_id_d (update (put_link c a id_c bare) id_c id_d) (at_id_c (put_link c a id_c bare) (at_a bare (rw (← ec, ← ed) at eb))))

-- The links read so are those of the state after the quad; their count stays that of the front's edges; and a quad adds two edges at most. Assumes nothing.
use Rattle.std.specs.Prelude.{Bool, ◌≢◌, ◌≡◌, length, set}
use Rattle.std.proofs.Math.Bool.{true, false, cond}
use Rattle.std.proofs.Math.Path.{refl, subst}
use Rattle.std.proofs.Common.{sym, ap, ◌∙◌, add_assoc, add-one}
use Prim.Native.Nat.{ℕ, zero, suc, ◌+◌, ◌-◌, ◌<◌, ◌≤◌}
use native.Mathlib.Omega.{arith}
use Rattle.std.proofs.Math.Dec.{eqb}
use Rattle.std.proofs.Math.ListN.{length-set}
use borrow.Author.Tests.{eqb-true, eqb-false, eq-eqb, ne_eqb}
use Rattle.laws.specs.Loop.{sum_up}
use Rattle.laws.proofs.Sums.{sum_zero, sum_suc}
use Rattle.topology.specs.Links.{off, link_of, update, link_out, link_set, link_more}
use Rattle.front.specs.declared.Corner.{Corner}
use Rattle.front.specs.declared.Corner.TheVariants.{Reused, Fresh}
use Rattle.front.specs.State.{State, next_of, with_front, push_node, push_quad, add_front, remove_front}
use Rattle.front.proofs.MeshEdges.{quad_edged}
use Rattle.front.specs.Place.{added, id_c, id_d, push_corner, add_edges, take_off, put_on, move_front, place}
use Rattle.front.specs.Stores.{Ids}
use Rattle.hand_previews.specs.Preview.{remove_link, take_link, put_link, bare_links, moved_links, is_on}

-- ---- one link changed

pub sum_same : (f g : ℕ → ℕ) (n : ℕ) → ((i : ℕ) → i < n → f i ≡ g i) → sum_up n f ≡ sum_up n g
sum_same f g zero e = omega (arith, sum_zero f, sum_zero g)
sum_same f g (suc n) e = omega (arith, sum_suc f n, sum_suc g n, e n (omega arith), sum_same f g n (λ i h. e i (omega arith)))

on_same : (g : ℕ → ℕ) (u y : ℕ) → is_on (update g u y) u ≡ cond {A = ℕ} (eqb y off) 0 1
on_same g u y = rw (eq-eqb u u refl)

on_other : (g : ℕ → ℕ) (u y i : ℕ) → (u ≢ i) → is_on (update g u y) i ≡ is_on g i
on_other g u y i ne = rw (ne_eqb u i ne)

sum_update : (g : ℕ → ℕ) (u y n : ℕ) → u < n → sum_up n (is_on (update g u y)) + is_on g u ≡ sum_up n (is_on g) + cond (eqb y off) 0 1
sum_update g u y zero h = absurd (omega arith)
sum_update g u y (suc n) h = by (eqb u n) refl (sum_update g u y n)
  where
    by : (t : Bool) → eqb u n ≡ t
        → (u < n → sum_up n (is_on (update g u y)) + is_on g u ≡ sum_up n (is_on g) + cond (eqb y off) 0 1)
        → sum_up (suc n) (is_on (update g u y)) + is_on g u ≡ sum_up (suc n) (is_on g) + cond (eqb y off) 0 1
    by true e less =
        let q = eqb-true u n e in
        let below = sum_same (is_on (update g u y)) (is_on g) n (λ i l. on_other g u y i (omega (arith, q))) in
        omega (arith, below, sum_suc (is_on (update g u y)) n, sum_suc (is_on g) n, ap (is_on (update g u y)) (sym q) ∙ on_same g u y, ap (is_on g) q)
    by false e less =
        let ne = eqb-false u n e in
        omega (arith, less (omega arith), sum_suc (is_on (update g u y)) n, sum_suc (is_on g) n, on_other g u y n ne)

on_off : (v : ℕ) → v ≡ off → cond {A = ℕ} (eqb v off) 0 1 ≡ 0
on_off v e = rw (eq-eqb v off e)

on_on : (v : ℕ) → (v ≢ off) → cond {A = ℕ} (eqb v off) 0 1 ≡ 1
on_on v h = rw (ne_eqb v off h)

-- ---- a state and its links

-- g are the links of the n nodes of s, and as many as the front's edges counted
pub record Shows (n : ℕ) (g : ℕ → ℕ) (s : State) : Type 0 where
  pub size : s.counts.nodes ≡ n
  pub long : n ≤ length s.next
  pub links : next_of s ≡ g
  pub count : sum_up n (is_on g) ≡ s.counts.front

module _ (n : ℕ) (g : ℕ → ℕ) (s : State) (S : Shows n g s) (u v : ℕ) (h : u < n) (on : v ≢ off) where
  set_links : (y : ℕ) → link_of s.counts.nodes (set s.next u y) ≡ update g u y
  set_links y =
      link_set s.counts.nodes s.next u y (omega (arith, S.size)) (omega (arith, S.size, S.long))
      ∙ ap (λ (f : ℕ → ℕ). update f u y) S.links

  pub removed_shows : Shows n (remove_link u v g) (remove_front u v s) × ((remove_front u v s).counts.front ≤ s.counts.front)
  unfolding remove_front
  removed_shows = rw S.links (by (eqb (g u) v) refl)
    where
      by : (t : Bool) → eqb (g u) v ≡ t
          → Shows n (λ x. cond t (update g u off x) (g x)) (cond t (with_front s (set s.next u off) (set s.prev v off) (s.counts.front - 1)) s)
          × ((cond t (with_front s (set s.next u off) (set s.prev v off) (s.counts.front - 1)) s).counts.front ≤ s.counts.front)
      by true e =
          let z : g u ≡ off → ⊥ = λ q. on (sym (eqb-true (g u) v e) ∙ q) in (
            record {
              size = S.size;
              long = rw length-set S.long;
              links = set_links off;
              count = omega (arith, sum_update g u off n h, on_on (g u) z, on_off off refl, S.count);
            },
            omega arith,
          )
      by false e = (S, omega arith)

  pub added_shows : Shows n (update g u v) (add_front u v s) × ((add_front u v s).counts.front ≤ s.counts.front + 1)
  unfolding add_front
  added_shows = rw S.links (by (eqb (g u) off) refl)
    where
      by : (t : Bool) → eqb (g u) off ≡ t
          → Shows n (update g u v) (with_front s (set s.next u v) (set s.prev v u) (s.counts.front + cond t 1 0))
          × (s.counts.front + cond t 1 0 ≤ s.counts.front + 1)
      by true e = (
        record {
          size = S.size;
          long = rw length-set S.long;
          links = set_links v;
          count = omega (arith, sum_update g u v n h, on_off (g u) (eqb-true (g u) off e), on_on v on, S.count);
        },
        omega arith,
      )
      by false e = (
        record {
          size = S.size;
          long = rw length-set S.long;
          links = set_links v;
          count = omega (arith, sum_update g u v n h, on_on (g u) (eqb-false (g u) off e), on_on v on, S.count);
        },
        omega arith,
      )

  taken_shows : (c : Corner) → Shows n (take_link c u v g) (take_off c u v s) × ((take_off c u v s).counts.front ≤ s.counts.front)
  taken_shows (Reused id) = removed_shows
  taken_shows (Fresh x y) = (S, omega arith)

  put_shows : (c : Corner) → Shows n (put_link c u v g) (put_on c u v s) × ((put_on c u v s).counts.front ≤ s.counts.front + 1)
  put_shows (Reused id) = (S, omega arith)
  put_shows (Fresh x y) = added_shows

-- ---- the quad

module _ (n : ℕ) (g : ℕ → ℕ) (s : State) (S : Shows n g s) (c d : Corner) (a b id_c id_d : ℕ) (I : Ids n a b id_c id_d) (few : n ≤ off) where
  -- the edge itself comes off
  one_off : g a ≡ b → (b ≢ off) → (remove_front a b s).counts.front + 1 ≤ s.counts.front
  unfolding remove_front
  one_off there on =
      let e : eqb (next_of s a) b ≡ true = eq-eqb (next_of s a) b (ap (λ (f : ℕ → ℕ). f a) S.links ∙ there) in
      rw e (omega (arith, sum_update g a off n I.id_a, on_on (g a) (λ z. on (sym there ∙ z)), on_off off refl, S.count))

  -- the links after the quad are those computed, they are as many as the front's edges counted, and these are two more at most
  pub moved_shows : g a ≡ b
      → Shows n (moved_links c d a b id_d id_c g) (move_front c d a b id_d id_c s)
      × ((move_front c d a b id_d id_c s).counts.front ≤ s.counts.front + 2)
  unfolding move_front moved_links bare_links
  moved_shows there =
      let on_a : a ≡ off → ⊥ = λ e. omega (arith, I.id_a) in
      let on_b : b ≡ off → ⊥ = λ e. omega (arith, I.id_b) in
      let on_c : id_c ≡ off → ⊥ = λ e. omega (arith, I.id_c_lem) in
      let on_d : id_d ≡ off → ⊥ = λ e. omega (arith, I.id_d_lem) in
      let g1 = remove_link a b g in
      let g2 = take_link c id_c a g1 in
      let g3 = take_link d b id_d g2 in
      let g4 = put_link c a id_c g3 in
      let g5 = update g4 id_c id_d in
      let s1 = remove_front a b s in
      let s2 = take_off c id_c a s1 in
      let s3 = take_off d b id_d s2 in
      let s4 = put_on c a id_c s3 in
      let s5 = add_front id_c id_d s4 in
      let p1 = removed_shows n g s S a b I.id_a on_b in
      let p2 = taken_shows n g1 s1 p1.0 id_c a I.id_c_lem on_a c in
      let p3 = taken_shows n g2 s2 p2.0 b id_d I.id_b on_d d in
      let p4 = put_shows n g3 s3 p3.0 a id_c I.id_a on_c c in
      let p5 = added_shows n g4 s4 p4.0 id_c id_d I.id_c_lem on_d in
      let p6 = put_shows n g5 s5 p5.0 id_d b I.id_d_lem on_b d in
      (p6.0, omega (arith, p2.1, p3.1, p4.1, p5.1, p6.1, one_off there on_b))

-- ---- the whole placing

corner_shows : (c : Corner) (n : ℕ) (g : ℕ → ℕ) (s : State) → Shows n g s → n + added c ≤ length s.next → Shows (n + added c) g (push_corner c s)
unfolding push_node
corner_shows (Reused id) n g s S h = subst (λ (m : ℕ). Shows m g s) (plain n) S
  where
    plain : (n : ℕ) → n ≡ n + 0
    plain n = omega arith
corner_shows (Fresh x y) n g s S h =
    let m = s.counts.nodes in
    let out : g n ≡ off = ap (λ (f : ℕ → ℕ). f n) (sym S.links) ∙ link_out m s.next n (omega (arith, S.size)) in
    record {
      size = ap (λ (k : ℕ). k + 1) S.size;
      long = rw length-set h;
      links = link_more m s.next (omega (arith, S.size, h)) ∙ S.links;
      count = rw add-one (omega (arith, sum_suc (is_on g) n, on_off (g n) out, S.count));
    }

-- quads and mesh edges are none of the front's
edges_shows : (a b d c n : ℕ) (g : ℕ → ℕ) (s : State) → Shows n g s → Shows n g (add_edges a b d c s) × ((add_edges a b d c s).counts.front ≡ s.counts.front)
edges_shows a b d c n g s S =
    rw (quad_edged a b d c s).rest (record { size = S.size; long = S.long; links = S.links; count = S.count }, refl)

quad_shows : (a b d c n : ℕ) (g : ℕ → ℕ) (s : State) → Shows n g s → Shows n g (push_quad a b d c s) × ((push_quad a b d c s).counts.front ≡ s.counts.front)
unfolding push_quad
quad_shows a b d c n g s S = (record { size = S.size; long = S.long; links = S.links; count = S.count }, refl)

corner_front : (c : Corner) (s : State) → (push_corner c s).counts.front ≡ s.counts.front
unfolding push_node
corner_front (Reused id) s = refl
corner_front (Fresh x y) s = refl

corner_long : (c : Corner) (s : State) → length (push_corner c s).next ≡ length s.next
unfolding push_node
corner_long (Reused id) s = refl
corner_long (Fresh x y) s = length-set s.next s.counts.nodes off

module _ (s : State) (S : Shows s.counts.nodes (next_of s) s) (c d : Corner) (a b : ℕ) where
  abbrev most : ℕ
  most = s.counts.nodes + (added c + added d)

  -- THE PREVIEW'S FRONT: computed from the links before the quad, it is the front after it, counted as it is, and two edges longer at most
  pub placed_shows : most ≤ length s.next → most ≤ off → Ids most a b (id_c s c) (id_d s c d) → next_of s a ≡ b
      → Shows most (moved_links c d a b (id_d s c d) (id_c s c) (next_of s)) (place a b c d s)
      × ((place a b c d s).counts.front ≤ s.counts.front + 2)
  unfolding place
  placed_shows long few I there =
      let n = s.counts.nodes in
      let g = next_of s in
      let C = id_c s c in
      let D = id_d s c d in
      let s1 = push_corner c s in
      let s2 = push_corner d s1 in
      let s3 = add_edges a b D C s2 in
      let s4 = push_quad a b D C s3 in
      let p1 = corner_shows c n g s S (omega arith) in
      let p2 : Shows most g s2 =
      subst (λ (m : ℕ). Shows m g s2) (add_assoc n (added c) (added d)) (corner_shows d (n + added c) g s1 p1 (omega (arith, corner_long c s))) in
      let p3 = edges_shows a b D C most g s2 p2 in
      let p4 = quad_shows a b D C most g s3 p3.0 in
      let p5 = moved_shows most g s4 p4.0 c d a b C D I few there in
      (p5.0, omega (arith, p5.1, p4.1, p3.1, corner_front d s1, corner_front c s))

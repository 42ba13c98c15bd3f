-- What the code of a change stores is what the definitions leave, on any links and any edges. Assumes nothing.
use Rattle.std.specs.Prelude.{◌≡◌, Bool, true, false, List, ℕ, ◌+◌, ◌-◌, ◌*◌, ◌<◌, ◌≤◌, min, max, length, get_or, set}
use Rattle.std.proofs.Math.Path.{refl}
use Rattle.std.proofs.Common.{sym, ◌∙◌, ap, eq-eqb, ne_eqb}
use native.Mathlib.Omega.{arith}
use Rattle.topology.specs.Links.{off, link_of, link_read}
use Rattle.front.specs.State.{remove_front, add_front, edge_in, has_edge, push_edge, add_edge}
use Rattle.front.specs.Place.{missing, edges_added}
use Rattle.hand_mesh_changes.specs.Parts.{front_in, edges_in}

module _ (next prev : List ℕ) (n f u v : ℕ) (h : u < n) (long : n ≤ length next) where
  read : get_or next u 0 ≡ link_of n next u
  read = link_read n next u h long

  pub remove_other : (get_or next u 0 ≡ v → ⊥) → front_in next prev n f ≡ remove_front u v (front_in next prev n f)
  unfolding remove_front
  remove_other ne = rw (ne_eqb (link_of n next u) v (λ e. ne (read ∙ e))) refl

  pub remove_there : get_or next u 0 ≡ v → front_in (set next u off) (set prev v off) n (f - 1) ≡ remove_front u v (front_in next prev n f)
  unfolding remove_front
  remove_there e = rw (eq-eqb (link_of n next u) v (sym read ∙ e)) refl

  pub add_free : get_or next u 0 ≡ off → front_in (set next u v) (set prev v u) n (f + 1) ≡ add_front u v (front_in next prev n f)
  unfolding add_front
  add_free e = rw (eq-eqb (link_of n next u) off (sym read ∙ e)) refl

  pub add_over : (get_or next u 0 ≡ off → ⊥) → front_in (set next u v) (set prev v u) n f ≡ add_front u v (front_in next prev n f)
  unfolding add_front
  add_over ne =
      rw (ne_eqb (link_of n next u) off (λ e. ne (read ∙ e))) (ap (λ (k : ℕ). front_in (set next u v) (set prev v u) n k) (plain f))
    where
      plain : (f : ℕ) → f ≡ f + 0
      plain f = omega arith

-- ---- mesh edges

module _ (edges : List ℕ) (n u v : ℕ) where
  pub edge_known : edge_in edges n u v ≡ true → edges_in edges n ≡ add_edge u v (edges_in edges n)
  unfolding add_edge has_edge
  edge_known e = rw e refl

  pub edge_new : edge_in edges n u v ≡ false
      → edges_in (set (set edges (2 * n) (min u v)) (2 * n + 1) (max u v)) (n + 1) ≡ add_edge u v (edges_in edges n)
  unfolding add_edge has_edge push_edge
  edge_new e = rw e refl

-- ---- edges that are missing

module _ (edges : List ℕ) (n u v : ℕ) {found : Bool} (e : edge_in edges n u v ≡ found) where
  pub missing_none : found ≡ true → 0 ≡ missing (edges_in edges n) u v
  unfolding has_edge
  missing_none f = rw (e, f)

  pub missing_one : found ≡ false → 1 ≡ missing (edges_in edges n) u v
  unfolding has_edge
  missing_one f = rw (e, f)

module _ (edges : List ℕ) (n a b d c : ℕ) where
  pub added_are : {x y z w : ℕ} → x ≡ missing (edges_in edges n) a b → y ≡ missing (edges_in edges n) b d → z ≡ missing (edges_in edges n) d c
      → w ≡ missing (edges_in edges n) c a → x + y + z + w ≡ edges_added (edges_in edges n) a b d c
  unfolding edges_added
  added_are p q r s = rw (p, q, r, s)

-- What holds of the definitions of specs/Laws.antt.
use Prim.Native.Nat.{ℕ, ◌*◌, ◌≤◌}
use Rattle.std.specs.Prelude.{◌≡◌, Bool, ◌&&◌, ◌||◌, List, set}
use Rattle.std.proofs.Math.Path.{refl}
use Rattle.std.proofs.Common.{get_or-set_other}
use Rattle.std.proofs.Math.Bool.{true, false, cond}
use native.Mathlib.Omega.{arith}
use Rattle.std.proofs.Math.Dec.{eqb}
use Rattle.std.proofs.lemmas.Bool.{eqb-false}
use Rattle.laws.proofs.Sums.{sum_most}
use Rattle.laws.specs.Tests.{neither, both}
use Rattle.front_lent_mesh.specs.declared.QuadIds.{QuadIds}
use Rattle.front_lent_mesh.specs.Mesh.{Mesh, quad_of}
use Rattle.exam_thresholds.specs.Figures.{no_threshold, threshold_at, stands, is_complete, once_only, quad_total}
use Rattle.exam_thresholds.specs.Figures.{count_at, sum_at, sum_afresh, names}
use Rattle.exam_thresholds.specs.Laws.{stands_means, AllStand}

-- ---- a change at one node

module _ (t : List ℕ) (id v : ℕ) where
  -- at another node the list reads the same
  pub other_same : (x : ℕ) → eqb x id ≡ false → threshold_at (set t id v) x ≡ threshold_at t x
  other_same x e = get_or-set_other t id x v no_threshold (eqb-false x id e)

  -- none of the four is id
  pub four_same : (q : QuadIds) → names q id ≡ false
      → (threshold_at (set t id v) q.a ≡ threshold_at t q.a) × (threshold_at (set t id v) q.b ≡ threshold_at t q.b)
      × (threshold_at (set t id v) q.d ≡ threshold_at t q.d) × (threshold_at (set t id v) q.c ≡ threshold_at t q.c)
  unfolding names
  four_same q e =
      let p = neither (eqb q.a id) (eqb q.b id || (eqb q.d id || eqb q.c id)) e in
      let r = neither (eqb q.b id) (eqb q.d id || eqb q.c id) p.1 in
      let s = neither (eqb q.d id) (eqb q.c id) r.1 in
      (other_same q.a p.0, other_same q.b r.0, other_same q.d s.0, other_same q.c s.1)

  pub complete_same : (n : ℕ) (q : QuadIds) → names q id ≡ false → is_complete n (set t id v) q ≡ is_complete n t q
  unfolding is_complete stands
  complete_same n q e = let p = four_same q e in rw (p.0, p.1, p.2, p.3)

  quad_total_same : (q : QuadIds) → names q id ≡ false → quad_total (set t id v) q ≡ quad_total t q
  unfolding quad_total
  quad_total_same q e = let p = four_same q e in rw (p.0, p.1, p.2, p.3)

  pub count_at_same : (m : Mesh) (k : ℕ) → names (quad_of m k) id ≡ false → count_at m t k ≡ count_at m (set t id v) k
  unfolding count_at
  count_at_same m k e = rw (complete_same m.nodes (quad_of m k) e)

  pub sum_at_same : (m : Mesh) (k : ℕ) → names (quad_of m k) id ≡ false → sum_at m t k ≡ sum_at m (set t id v) k
  unfolding sum_at
  sum_at_same m k e = rw (complete_same m.nodes (quad_of m k) e, quad_total_same (quad_of m k) e)

-- ---- how large

pub complete_means : (n : ℕ) (t : List ℕ) (q : QuadIds) → is_complete n t q ≡ true → AllStand n t q
unfolding is_complete
complete_means n t q e =
    let p = both (stands n t q.a) (stands n t q.b && (stands n t q.d && stands n t q.c)) e in
    let r = both (stands n t q.b) (stands n t q.d && stands n t q.c) p.1 in
    let s = both (stands n t q.d) (stands n t q.c) r.1 in
    record {
      a = stands_means n t q.a p.0;
      b = stands_means n t q.b r.0;
      d = stands_means n t q.d s.0;
      c = stands_means n t q.c s.1;
    }

once_most : (r : Bool) (x b : ℕ) → x ≤ b → once_only r x ≤ b
once_most true x b h = omega arith
once_most false x b h = h

total_most : (t : List ℕ) (q : QuadIds) (b : ℕ)
    → threshold_at t q.a ≤ b → threshold_at t q.b ≤ b → threshold_at t q.d ≤ b → threshold_at t q.c ≤ b → quad_total t q ≤ 4 * b
unfolding quad_total
total_most t q b ha hb hd hc =
    omega (
      arith,
      once_most (eqb q.b q.a) (threshold_at t q.b) b hb,
      once_most (eqb q.d q.a || eqb q.d q.b) (threshold_at t q.d) b hd,
      once_most (eqb q.c q.a || (eqb q.c q.b || eqb q.c q.d)) (threshold_at t q.c) b hc,
    )

pub quad_total_most : (n : ℕ) (t : List ℕ) (q : QuadIds) → is_complete n t q ≡ true → quad_total t q ≤ 2000
quad_total_most n t q e =
    let w = complete_means n t q e in total_most t q 500 w.a.1 w.b.1 w.d.1 w.c.1

pub sum_at_most : (m : Mesh) (t : List ℕ) (k : ℕ) → sum_at m t k ≤ 2000
unfolding sum_at
sum_at_most m t k = by (is_complete m.nodes t (quad_of m k)) refl
  where
    by : (b : Bool) → is_complete m.nodes t (quad_of m k) ≡ b → cond b (quad_total t (quad_of m k)) 0 ≤ 2000
    by true e = quad_total_most m.nodes t (quad_of m k) e
    by false e = omega arith

pub sum_afresh_small : (m : Mesh) (t : List ℕ) → m.quads ≤ 250000 → sum_afresh m t ≤ 500000000
unfolding sum_afresh
sum_afresh_small m t h = omega (arith, sum_most m.quads 2000 (sum_at m t) (sum_at_most m t))

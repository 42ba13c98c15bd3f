-- What the code's loops and branches go by.
use Rattle.std.specs.Prelude.{◌≡◌, ℕ, ◌+◌, ◌*◌, ◌<◌, ◌≤◌, Bool, true, false, cond, List}
use Rattle.std.proofs.Math.Path.{refl, ap}
use Rattle.std.proofs.Common.{sym, ◌∙◌, add-one, arith}
use Rattle.std.proofs.Math.Nat.{le_antisymm}
use Rattle.laws.specs.Loop.{sum_up}
use Rattle.laws.proofs.Sums.{sum_zero, sum_suc}
use Rattle.outline.specs.declared.Refusal.{Refusal}
use Rattle.outline.specs.Queries.{answer_by}
use Rattle.outline.specs.Refusals.{refusal_number}
use Rattle.outline.proofs.RefusalLaws.{answer_refused}
use Rattle.outline.proofs.Refused.{refusal_some}
use Rattle.front_lent_mesh.specs.declared.QuadIds.{QuadIds}
use Rattle.front_lent_mesh.specs.Mesh.{Mesh, quad_of}
use Rattle.exam_thresholds.specs.Figures.{is_complete, quad_total, count_at, sum_at, names, share_at, share_of}
use Rattle.exam_thresholds.specs.Laws.{share_at_most, count_at_most}
use Rattle.exam_thresholds.proofs.Laws.{sum_at_most, quad_total_most}

-- ---- a refusal is what is answered

pub refusal_answered : {A : Type 0} (f : ℕ → A) (a : A) (r : Refusal) → answer_by f a (refusal_number r) ≡ f (refusal_number r)
refusal_answered f a r = sym (sym (answer_refused f a (refusal_number r) (refusal_some r)))

-- ---- the scan

-- what a quad adds to the shares of id
unfoldable pub count_share : ℕ → List ℕ → QuadIds → ℕ → ℕ
count_share n t q id = cond (names q id) (cond (is_complete n t q) 1 0) 0

unfoldable pub sum_share : ℕ → List ℕ → QuadIds → ℕ → ℕ
sum_share n t q id = cond (names q id) (cond (is_complete n t q) (quad_total t q) 0) 0

pub share_small : (n : ℕ) (t : List ℕ) (q : QuadIds) (id : ℕ) → (count_share n t q id ≤ 1) × (sum_share n t q id ≤ 2000)
unfolding count_share sum_share
share_small n t q id = by (names q id) (is_complete n t q) refl
  where
    by : (a b : Bool) → is_complete n t q ≡ b → (cond a (cond b 1 0) 0 ≤ 1) × (cond a (cond b (quad_total t q) 0) 0 ≤ 2000)
    by true true e = (omega arith, quad_total_most n t q e)
    by true false e = (omega arith, omega arith)
    by false b e = (omega arith, omega arith)

module _ (m : Mesh) (t : List ℕ) (id : ℕ) where
  count_share_lem : (k : ℕ) → count_share m.nodes t (quad_of m k) id ≡ share_at m id (count_at m t) k
  unfolding count_share share_at count_at
  count_share_lem k = refl

  sum_share_lem : (k : ℕ) → sum_share m.nodes t (quad_of m k) id ≡ share_at m id (sum_at m t) k
  unfolding sum_share share_at sum_at
  sum_share_lem k = refl

  -- the invariant of `node_share`
  pub record Scanned (k count sum : ℕ) : Type 0 where
    pub within : k ≤ m.quads
    pub counts : count ≡ sum_up k (share_at m id (count_at m t))
    pub sums : sum ≡ sum_up k (share_at m id (sum_at m t))
    pub few : count ≤ k
    pub small : sum ≤ 2000 * k

  pub scanned_start : Scanned 0 0 0
  scanned_start =
      record {
        within = omega arith;
        counts = sym (sum_zero (share_at m id (count_at m t)));
        sums = sym (sum_zero (share_at m id (sum_at m t)));
        few = omega arith;
        small = omega arith;
      }

  pub scanned_next : (k count sum x y : ℕ) (q : QuadIds) → Scanned k count sum → k < m.quads → q ≡ quad_of m k
      → x ≡ count_share m.nodes t q id → y ≡ sum_share m.nodes t q id → Scanned (k + 1) (count + x) (sum + y)
  scanned_next k count sum x y q s h e ex ey =
      let f = share_at m id (count_at m t) in
      let l = share_at m id (sum_at m t) in
      let px : x ≡ f k = ex ∙ ap (λ (p : QuadIds). count_share m.nodes t p id) e ∙ count_share_lem k in
      let py : y ≡ l k = ey ∙ ap (λ (p : QuadIds). sum_share m.nodes t p id) e ∙ sum_share_lem k in
      record {
        within = omega arith;
        counts = rw (add-one, sum_suc f k) (omega (arith, s.counts, px));
        sums = rw (add-one, sum_suc l k) (omega (arith, s.sums, py));
        few = omega (arith, s.few, px, share_at_most m id (count_at m t) k, count_at_most m t k);
        small = omega (arith, s.small, py, share_at_most m id (sum_at m t) k, sum_at_most m t k);
      }

  pub scanned_end : (k count sum : ℕ) → Scanned k count sum → m.quads ≤ k
      → (count ≡ share_of m id (count_at m t)) × (sum ≡ share_of m id (sum_at m t))
  unfolding share_of
  scanned_end k count sum s h =
      let e : k ≡ m.quads = le_antisymm s.within h in
      (s.counts ∙ ap (λ (j : ℕ). sum_up j (share_at m id (count_at m t))) e, s.sums ∙ ap (λ (j : ℕ). sum_up j (share_at m id (sum_at m t))) e)

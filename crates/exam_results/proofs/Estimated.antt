-- What may be weighed, that the estimate of four thresholds read is the list's, and by which test an estimate is refused or answered.
use Rattle.std.specs.Prelude.{◌≡◌, ℕ, ◌<◌, ◌≤◌, Bool, true, false, List, ◌≢◌, Ok, Err}
use Rattle.std.proofs.Common.{sym, arith}
use borrow.Author.Tests.{le-leb, lt-leb, lt-ltb, le-ltb}
use Rattle.outline.proofs.RefusalLaws.{answer_refused}
use Rattle.front_lent_mesh.specs.declared.QuadIds.{QuadIds}
use Rattle.front_lent_mesh.specs.Mesh.{mesh, quad_in, quad_count_of}
use Rattle.exam_thresholds.specs.Figures.{threshold_at, is_complete}
use Rattle.exam_estimates.specs.Estimate.{estimate, estimate_of, estimate_refusal, estimate_answer}
use Rattle.exam_results.specs.EstimateLaws.{Weighable, Estimable}

pub weighable : (n : ℕ) (t : List ℕ) (q : QuadIds) (u v a b d c : ℕ) → Estimable n t q u v
    → a ≡ threshold_at t q.a → b ≡ threshold_at t q.b → d ≡ threshold_at t q.d → c ≡ threshold_at t q.c → Weighable u v a b d c
weighable n t q u v a b d c e ea eb ed ec =
    record {
      u_low = e.u_low;
      v_low = e.v_low;
      a_low = omega (arith, ea, e.stand.a.1);
      b_low = omega (arith, eb, e.stand.b.1);
      d_low = omega (arith, ed, e.stand.d.1);
      c_low = omega (arith, ec, e.stand.c.1);
    }

pub estimate_of_lem : (u v : ℕ) (t : List ℕ) (q : QuadIds) (r a b d c : ℕ) → r ≡ estimate u v a b d c
    → a ≡ threshold_at t q.a → b ≡ threshold_at t q.b → d ≡ threshold_at t q.d → c ≡ threshold_at t q.c → r ≡ estimate_of u v t q
unfolding estimate_of
estimate_of_lem u v t q r a b d c e ea eb ed ec = rw (← ea, ← eb, ← ed, ← ec) e

-- ---- the refusals

module _ (nodes count m k u v : ℕ) (quads t : List ℕ) (e : m ≡ quad_count_of count quads) where
  pub estimate_no_quad : m ≤ k → 18 ≡ estimate_refusal (mesh nodes (quad_count_of count quads) quads) t k u v
  unfolding estimate_refusal
  estimate_no_quad h = rw (← e, le-leb m k h)

  module _ (q : QuadIds) (b : Bool) (here : k < m) (eq : q ≡ quad_in quads k) (eb : b ≡ is_complete nodes t q) where
    pub lacks_one : b ≡ false → 18 ≡ estimate_refusal (mesh nodes (quad_count_of count quads) quads) t k u v
    unfolding estimate_refusal
    lacks_one f = rw (← e, lt-leb m k here, ← eq, ← eb, f)

    pub first_weight : b ≡ true → 256 < u → 19 ≡ estimate_refusal (mesh nodes (quad_count_of count quads) quads) t k u v
    unfolding estimate_refusal
    first_weight f h = rw (← e, lt-leb m k here, ← eq, ← eb, f, lt-ltb 256 u h)

    pub second_weight : b ≡ true → u ≤ 256 → 256 < v → 19 ≡ estimate_refusal (mesh nodes (quad_count_of count quads) quads) t k u v
    unfolding estimate_refusal
    second_weight f hu h = rw (← e, lt-leb m k here, ← eq, ← eb, f, le-ltb 256 u hu, lt-ltb 256 v h)

    pub none_refused : b ≡ true → u ≤ 256 → v ≤ 256 → 0 ≡ estimate_refusal (mesh nodes (quad_count_of count quads) quads) t k u v
    unfolding estimate_refusal
    none_refused f hu hv = rw (← e, lt-leb m k here, ← eq, ← eb, f, le-ltb 256 u hu, le-ltb 256 v hv)

-- ---- the answer

module _ (nodes count k u v : ℕ) (quads t : List ℕ) (r : ℕ) (e : r ≡ estimate_refusal (mesh nodes (quad_count_of count quads) quads) t k u v) where
  pub answer_if_refused : (r ≢ 0) → Err r ≡ estimate_answer (mesh nodes (quad_count_of count quads) quads) t k u v
  unfolding estimate_answer
  answer_if_refused h = rw (← e) (sym (answer_refused Err (Ok (estimate_of u v t (quad_in quads k))) r h))

  pub answer_if_not : (q : QuadIds) (x : ℕ) → r ≡ 0 → q ≡ quad_in quads k → x ≡ estimate_of u v t q
      → Ok x ≡ estimate_answer (mesh nodes (quad_count_of count quads) quads) t k u v
  unfolding estimate_answer
  answer_if_not q x z eq ex = rw (← e, z, ← eq, ← ex)

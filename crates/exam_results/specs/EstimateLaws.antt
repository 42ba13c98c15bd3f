-- What the code goes by.
use Rattle.std.specs.Prelude.{◌≡◌, ℕ, ◌-◌, ◌*◌, ◌<◌, ◌≤◌, Bool, true, false, cond, not, ◌||◌, List, nat_le, nat_lt}
use Rattle.std.proofs.Math.Path.{refl}
use Rattle.std.proofs.Common.{sym, mul-le-mul, arith}
use borrow.Author.Tests.{leb-false, ltb-false, not-false}
use Rattle.laws.specs.Tests.{neither}
use Rattle.front_lent_mesh.specs.declared.QuadIds.{QuadIds}
use Rattle.front_lent_mesh.specs.Mesh.{Mesh, quad_of}
use Rattle.exam_thresholds.specs.Figures.{most_threshold, is_complete}
use Rattle.exam_thresholds.specs.Laws.{AllStand}
use Rattle.exam_thresholds.proofs.Laws.{complete_means}
use Rattle.exam_estimates.specs.Estimate.{estimate_refusal}

-- ---- no step of the sum wraps

-- what is lent to the sum: two weights and four thresholds
pub record Weighable (u v a b d c : ℕ) : Type 0 where
  pub u_low : u ≤ 256
  pub v_low : v ≤ 256
  pub a_low : a ≤ most_threshold
  pub b_low : b ≤ most_threshold
  pub d_low : d ≤ most_threshold
  pub c_low : c ≤ most_threshold

pub record TermsSmall (u v a b d c : ℕ) : Type 0 where
  pub weight_a : (256 - u) * (256 - v) ≤ 65536
  pub weight_b : u * (256 - v) ≤ 65536
  pub weight_d : u * v ≤ 65536
  pub weight_c : (256 - u) * v ≤ 65536
  pub term_a : (256 - u) * (256 - v) * a ≤ 32768000
  pub term_b : u * (256 - v) * b ≤ 32768000
  pub term_d : u * v * d ≤ 32768000
  pub term_c : (256 - u) * v * c ≤ 32768000

weight_most : (x y : ℕ) → x ≤ 256 → y ≤ 256 → x * y ≤ 65536
weight_most x y hx hy = mul-le-mul hx hy

term_most : (x y a : ℕ) → x ≤ 256 → y ≤ 256 → a ≤ 500 → x * y * a ≤ 32768000
term_most x y a hx hy ha = mul-le-mul (weight_most x y hx hy) ha

pub terms_small : (u v a b d c : ℕ) → Weighable u v a b d c → TermsSmall u v a b d c
terms_small u v a b d c l =
    let s : 256 - u ≤ 256 = omega arith in
    let t : 256 - v ≤ 256 = omega arith in
    record {
      weight_a = weight_most (256 - u) (256 - v) s t;
      weight_b = weight_most u (256 - v) l.u_low t;
      weight_d = weight_most u v l.u_low l.v_low;
      weight_c = weight_most (256 - u) v s l.v_low;
      term_a = term_most (256 - u) (256 - v) a s t l.a_low;
      term_b = term_most u (256 - v) b l.u_low t l.b_low;
      term_d = term_most u v d l.u_low l.v_low l.d_low;
      term_c = term_most (256 - u) v c s l.v_low l.c_low;
    }

-- ---- one quad

-- what is asked of a quad and two weights
pub record Estimable (n : ℕ) (t : List ℕ) (q : QuadIds) (u v : ℕ) : Type 0 where
  pub u_low : u ≤ 256
  pub v_low : v ≤ 256
  pub stand : AllStand n t q

-- ---- the answer

-- what no refusal means
pub record Answerable (m : Mesh) (t : List ℕ) (k u v : ℕ) : Type 0 where
  pub here : k < m.quads
  pub can : Estimable m.nodes t (quad_of m k) u v

pub answerable : (m : Mesh) (t : List ℕ) (k u v : ℕ) → 0 ≡ estimate_refusal m t k u v → Answerable m t k u v
unfolding estimate_refusal
answerable m t k u v e = by (nat_le m.quads k || not (is_complete m.nodes t (quad_of m k))) (nat_lt 256 u || nat_lt 256 v) refl refl (sym e)
  where
    by : (a b : Bool) → nat_le m.quads k || not (is_complete m.nodes t (quad_of m k)) ≡ a → nat_lt 256 u || nat_lt 256 v ≡ b
        → cond {A = ℕ} a 18 (cond b 19 0) ≡ 0 → Answerable m t k u v
    by true b ea eb none = absurd (omega (arith, none))
    by false true ea eb none = absurd (omega (arith, none))
    by false false ea eb none =
        let p = neither (nat_le m.quads k) (not (is_complete m.nodes t (quad_of m k))) ea in
        let w = neither (nat_lt 256 u) (nat_lt 256 v) eb in
        record {
          here = leb-false m.quads k p.0;
          can = record {
            u_low = ltb-false 256 u w.0;
            v_low = ltb-false 256 v w.1;
            stand = complete_means m.nodes t (quad_of m k) (not-false (is_complete m.nodes t (quad_of m k)) p.1);
          };
        }

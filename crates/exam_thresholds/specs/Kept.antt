-- THE FIGURES KEPT: after an exam has begun and after any list of events, refused ones among them, both figures are those worked out afresh.
use Rattle.std.specs.Prelude.{ℕ, zero, suc, ◌≡◌, refl}
use Rattle.front_lent_mesh.specs.Mesh.{Mesh}
use Rattle.exam_thresholds.specs.Figures.{no_threshold, threshold_at, count_afresh, sum_afresh}
use Rattle.exam_thresholds.specs.Figures.{Results, unless_refused, refusal_at, with_threshold, enter_answer, withdraw_answer}

-- the figures are those worked out afresh from the list
pub record Afresh (m : Mesh) (x : Results) : Type 0 where
  pub count : x.count ≡ count_afresh m x.thresholds
  pub sum : x.sum ≡ sum_afresh m x.thresholds

-- ---- a refused call changes nothing

refused_unmoved : (refusal : ℕ) (x y : Results) → ((unless_refused refusal x y).refusal ≡ 0 → ⊥) → (unless_refused refusal x y).results ≡ x
refused_unmoved zero x y h = absurd (h refl)
refused_unmoved (suc n) x y h = refl

module _ (m : Mesh) (x : Results) (id : ℕ) where
  pub enter_unmoved : (v : ℕ) → ((enter_answer m x id v).refusal ≡ 0 → ⊥) → (enter_answer m x id v).results ≡ x
  unfolding enter_answer
  enter_unmoved v h = refused_unmoved (refusal_at m.nodes x.thresholds id v 16) x (with_threshold m x id v) h

  pub withdraw_unmoved : ((withdraw_answer m x id).refusal ≡ 0 → ⊥) → (withdraw_answer m x id).results ≡ x
  unfolding withdraw_answer
  withdraw_unmoved h =
      refused_unmoved (refusal_at m.nodes x.thresholds id (threshold_at x.thresholds id) 17) x (with_threshold m x id no_threshold) h

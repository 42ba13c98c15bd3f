-- What holds of the definitions of specs/Kept.antt.
use Rattle.std.specs.Prelude.{ℕ, zero, suc, ◌≤◌, ◌<◌, ◌≡◌, refl, false, length, get_or, replicate, ltb, Float}
use mathlib.Core.List.{List, [], ◌∷◌}
use Rattle.std.proofs.Common.{arith}
use Rattle.std.proofs.Math.ListN.{set}
use Rattle.laws.specs.Loop.{sum_up}
use Rattle.laws.proofs.Sums.{sum_most}
use Rattle.laws.specs.Tests.{and_false}
use Rattle.front_lent_mesh.specs.Mesh.{Mesh, mesh_of, quad_of, quads_few}
use Rattle.exam_thresholds.specs.Figures.{no_threshold, threshold_at, stands, is_complete, count_at, sum_at, count_afresh, sum_afresh, names, share_of, moved}
use Rattle.exam_thresholds.specs.Figures.{Results, unless_refused, refusal_at, with_threshold, begin_answer, enter_answer, withdraw_answer}
use Rattle.exam_thresholds.specs.Figures.{Event, enter, withdraw, event_answer, after_events}
use Rattle.exam_thresholds.specs.Laws.{share_law, share_le, count_small, moved_is}
use Rattle.exam_thresholds.proofs.Laws.{count_at_same, sum_at_same, sum_afresh_small}
use Rattle.exam_thresholds.specs.Kept.{Afresh}

-- ---- one change

module _ (m : Mesh) (few : m.quads ≤ 250000) where
  -- of any figure that adds up f over the quads, where h is the same but at quads that name id
  figure_kept : (f h : ℕ → ℕ) (id x : ℕ) → ((k : ℕ) → names (quad_of m k) id ≡ false → f k ≡ h k)
      → sum_up m.quads f < 4294967296 → sum_up m.quads h < 4294967296 → x ≡ sum_up m.quads f
      → moved x (share_of m id f) (share_of m id h) ≡ sum_up m.quads h
  figure_kept f h id x same old new e =
      moved_is x (sum_up m.quads h) (share_of m id f) (share_of m id h) (omega (arith, e, share_law m id f h same))
      (omega (arith, e, share_le m id f)) (omega (arith, e, old)) new

  -- whatever is written at whatever place
  pub change_kept : (x : Results) (id v : ℕ) → Afresh m x → Afresh m (with_threshold m x id v)
  unfolding with_threshold count_afresh sum_afresh
  change_kept x id v a =
      let t = x.thresholds in
      let u = set t id v in
      record {
        count = figure_kept (count_at m t) (count_at m u) id x.count (count_at_same t id v m) (omega (arith, count_small m t few))
            (omega (arith, count_small m u few)) a.count;
        sum = figure_kept (sum_at m t) (sum_at m u) id x.sum (sum_at_same t id v m) (omega (arith, sum_afresh_small m t few))
            (omega (arith, sum_afresh_small m u few)) a.sum;
      }

  refused_kept : (refusal : ℕ) (x y : Results) → Afresh m x → Afresh m y → Afresh m (unless_refused refusal x y).results
  refused_kept zero x y f g = g
  refused_kept (suc n) x y f g = f

  -- KEPT: where the figures lent are those of the list lent, the figures left are those of the list left
  pub enter_kept : (x : Results) (id v : ℕ) → Afresh m x → Afresh m (enter_answer m x id v).results
  unfolding enter_answer
  enter_kept x id v f =
      refused_kept (refusal_at m.nodes x.thresholds id v 16) x (with_threshold m x id v) f (change_kept x id v f)

  pub withdraw_kept : (x : Results) (id : ℕ) → Afresh m x → Afresh m (withdraw_answer m x id).results
  unfolding withdraw_answer
  withdraw_kept x id f =
      refused_kept (refusal_at m.nodes x.thresholds id (threshold_at x.thresholds id) 17) x (with_threshold m x id no_threshold) f
      (change_kept x id no_threshold f)

  pub event_kept : (x : Results) (e : Event) → Afresh m x → Afresh m (event_answer m x e).results
  unfolding event_answer
  event_kept x (enter id v) f = enter_kept x id v f
  event_kept x (withdraw id) f = withdraw_kept x id f

  -- and so after any list of events
  pub events_kept : (es : List Event) (x : Results) → Afresh m x → Afresh m (after_events m x es)
  unfolding after_events
  events_kept [] x f = f
  events_kept (e ∷ es) x f = events_kept es (event_answer m x e).results (event_kept x e f)

-- ---- the beginning

-- none reads as none, in the list and past it
none_at : (n i : ℕ) → get_or (replicate n no_threshold) i no_threshold ≡ no_threshold
none_at zero i = refl
none_at (suc n) zero = refl
none_at (suc n) (suc i) = none_at n i

none_stands : (n k id : ℕ) → stands n (replicate k no_threshold) id ≡ false
unfolding stands
none_stands n k id = rw (none_at k id) (and_false (ltb id n))

module _ (m : Mesh) (n : ℕ) where
  begin_count_at : (k : ℕ) → count_at m (replicate n no_threshold) k ≤ 0
  unfolding count_at is_complete
  begin_count_at k = rw (none_stands m.nodes n (quad_of m k).a) (omega arith)

  begin_sum_at : (k : ℕ) → sum_at m (replicate n no_threshold) k ≤ 0
  unfolding sum_at is_complete
  begin_sum_at k = rw (none_stands m.nodes n (quad_of m k).a) (omega arith)

-- an exam begins with the figures of its list, whatever was lent
pub begin_kept : (m : Mesh) (x : Results) → Afresh m (begin_answer x).results
unfolding begin_answer count_afresh sum_afresh
begin_kept m x =
    let n = length x.thresholds in
    record {
      count = omega (arith, sum_most m.quads 0 (count_at m (replicate n no_threshold)) (begin_count_at m n));
      sum = omega (arith, sum_most m.quads 0 (sum_at m (replicate n no_threshold)) (begin_sum_at m n));
    }

-- ---- of any mesh, as it is lent

module _ (nodes : ℕ) (xs ys : List Float) (count : ℕ) (quads : List ℕ) where
  -- ALWAYS KEPT: whatever list and figures the exam began on, and after any list of events
  pub always_kept : (x : Results) (es : List Event)
      → Afresh (mesh_of nodes xs ys count quads) (after_events (mesh_of nodes xs ys count quads) (begin_answer x).results es)
  always_kept x es =
      let m = mesh_of nodes xs ys count quads in
      events_kept m (quads_few count quads) es (begin_answer x).results (begin_kept m x)

  -- 32 BITS SUFFICE: the figures of any list fit 31
  pub figures_small : (t : List ℕ)
      → (count_afresh (mesh_of nodes xs ys count quads) t ≤ 250000) × (sum_afresh (mesh_of nodes xs ys count quads) t ≤ 500000000)
  figures_small t =
      let m = mesh_of nodes xs ys count quads in (count_small m t (quads_few count quads), sum_afresh_small m t (quads_few count quads))

-- The nearest segment of an outline that isn't refused has a name, which is right: `named`, at the end. Every distance is a number below infinity, so the first
-- segment is taken; from then on what is kept is the first of the nearest so far. Assumes nothing.
use Rattle.std.specs.Prelude.{Bool, true, false, cond, ◌⊎◌, ◌≡◌, ℕ, suc, ◌+◌, ◌*◌, ◌^◌, ◌≤◌, ◌<◌, T, length}
use Rattle.std.proofs.Math.Logic.{inl, inr}
use Rattle.std.proofs.Math.Path.{refl}
use Rattle.std.proofs.Common.{subst, le_trans, le_of_eq, mul-le-mul, mul-le-mul_right, eq-or-lt_of_le, le_of_suc-le-suc, arith, leb→le}
use Rattle.std.proofs.Math.Nat.{mul-mul-mul_comm}
use Rattle.std.specs.Float.Ieee.{Float, fits, is_nan, lt, le}
use Rattle.std.specs.Float.{nan, inf, fin, binary64}
use Rattle.std.specs.Float.Ieee.Bits.{is_true}
use Rattle.std.specs.Float.Ieee.Fits.{add-fits}
use Rattle.laws.specs.Loop.{for_up_keeps}
use Rattle.numbers.specs.Float.{◌⊗◌, infinity_f}
use Rattle.exact.specs.Units.{W, unlike_self, Val, Within, widen}
use Rattle.exact.proofs.Order.{le_val, not_lt_val}
use Rattle.exact.proofs.Operations.{Moderate, mul_law, product_within, add_law_pos}
use Rattle.exact.proofs.Keeps.{sub_within}
use Rattle.exact.proofs.Root.{root_law}
use Rattle.outline.specs.declared.Point.{Point}
use Rattle.outline.specs.declared.Near.{Near}
use Rattle.outline.specs.Outline.{Outline, loop_at, points, point_at, point_after, outline_refusal, point_refusal}
use Rattle.outline.specs.Queries.{squared_distance, point_segment_distance, near, nowhere, nearer, segment_turn, nearest_in_loop, hole_turn, nearest_segment}
use Rattle.outline.specs.Accepted.{OutlineFits, PointFits, Accepted, each, point_within, loop_within}
use Rattle.outline.proofs.Accepted.{accepted}
use Rattle.outline_blocks.proofs.OrderLaws.{lt_through, lt_cut, lt_self}
use Rattle.outline_nearest.specs.Far.{moderate_bound, ModeratePoint}
use Rattle.outline_nearest.proofs.FarLaws.{EndsWithin, segment_ends, foot_lies}
use Rattle.outline_nearest.specs.Named.{segment_distance, ComesBefore, Own, Named}

-- ---- every distance is a number

-- x is finite and not below 0
abbrev Counted : Float → Type 0
Counted x = (n : ℕ) × Val x false n

square_value : {K : ℕ} {x : Float} → Moderate K → Moderate (2 * (K * K) + 1) → Within K x → (n : ℕ) × (Val (x ⊗ x) false n) × (n ≤ 2 ^ 200 * W)
square_value {K} {x} k l p =
    let r = mul_law p p k k in
    let w = product_within (K * K) r (le_trans (mul-le-mul p.small p.small) (le_of_eq (mul-mul-mul_comm K W K W))) in (
      r.size,
      subst (λ (s : Bool). Val (x ⊗ x) s r.size) (unlike_self p.sign) r.val,
      le_trans w.small (mul-le-mul_right W (leb→le (2 * (K * K) + 1) (2 ^ 200) l)),
    )

distance_counted : (p a b : Point) → ModeratePoint p → EndsWithin a b → Counted (point_segment_distance p a b)
unfolding point_segment_distance squared_distance
distance_counted p a b m e =
    let q = foot_lies p a b m e in
    let u = square_value tt tt (sub_within tt tt m.x q.x.within) in
    let v = square_value tt tt (sub_within tt tt m.y q.y.within) in
    let s = add_law_pos _ _ u.0 v.0 u.1 v.1 u.2 v.2 in
    let r = root_law _ (add-fits binary64 _ _) s.size s.val in
    (r.L, r.val)

counted_number : (x : Float) → Counted x → is_nan x ≡ false
unfolding is_nan
counted_number nan c = absurd c.1
counted_number (inf s) c = absurd c.1
counted_number (fin s m e) c = refl

below_infinity : (x : Float) → Counted x → lt x infinity_f ≡ true
unfolding lt
below_infinity nan c = absurd c.1
below_infinity (inf s) c = absurd c.1
below_infinity (fin s m e) c = refl

-- y isn't below x
le_of_counted : (x y : Float) → Counted x → Counted y → lt y x ≡ false → le x y ≡ true
le_of_counted x y c d e =
    is_true (le x y)
    ((le_val x y false false c.0 d.0 c.1 d.1).1 ((not_lt_val y x false false d.0 c.0 d.1 c.1).0 (rw e tt)))

above_not_below : (x y : Float) → T (lt x y) → lt y x ≡ false
above_not_below x y h = decide (lt y x) refl
  where
    decide : (b : Bool) → lt y x ≡ b → b ≡ false
    decide true e = absurd (subst T (lt_self x) (lt_through x y x h (rw e tt)))
    decide false e = refl

-- ---- the order of the segments

-- before the next segment: before this one, or this one
before_next : (k i m j : ℕ) → ComesBefore k i m (suc j) → ComesBefore k i m j ⊎ ((k ≡ m) × (i ≡ j))
before_next k i m j (inl h) = inl (inl h)
before_next k i m j (inr (e, h)) = elim (eq-or-lt_of_le (le_of_suc-le-suc h)) [ inl same ↦ inr (e, same) | inr less ↦ inl (inr (e, less)) ]

-- ---- the search

module _ (o : Outline) (held : OutlineFits o) (taken : Accepted o) (p : Point) (moderate : ModeratePoint p) where
  counted : (k i : ℕ) → k ≤ length o.lens → i < points (loop_at o k) → Counted (segment_distance o p k i)
  counted k i h l =
      let fit = each o (λ x. T (fits binary64 x)) held.outer held.holes k in
      distance_counted p _ _ moderate (segment_ends (loop_at o k) fit (loop_within o held taken k h) i l)

  -- n is the first of the nearest among the segments before segment j of loop m
  record Best (m j : ℕ) (n : Near) : Type 0 where
    own : Own o p n
    least : (k i : ℕ) → ComesBefore k i m j → i < points (loop_at o k) → lt (segment_distance o p k i) n.distance ≡ false
    first : (k i : ℕ) → ComesBefore k i n.loop_index n.segment_index → i < points (loop_at o k) → lt n.distance (segment_distance o p k i) ≡ true

  -- one segment more
  best_next : (k i : ℕ) → k ≤ length o.lens → i < points (loop_at o k) → (n : Near) → Best k i n → Best k (suc i) (segment_turn p (loop_at o k) k i n)
  unfolding nearer
  best_next k i h l n best = decide (lt d n.distance) refl
    where
      d : Float
      d = segment_distance o p k i

      -- how a segment before this one compares
      before : lt d n.distance ≡ true → (k' i' : ℕ) → ComesBefore k' i' k i → i' < points (loop_at o k') → T (lt d (segment_distance o p k' i'))
      before e k' i' b there =
          let number = counted_number _ (counted k' i' (up_to b) there) in
          lt_cut d n.distance (segment_distance o p k' i') number (rw e tt) (best.least k' i' b there)
        where
          up_to : ComesBefore k' i' k i → k' ≤ length o.lens
          up_to (inl less) = omega arith
          up_to (inr (same, less)) = omega arith

      decide : (t : Bool) → lt d n.distance ≡ t → Best k (suc i) (cond t (near (point_at (loop_at o k) i) (point_after (loop_at o k) i) d k i) n)
      decide true e = record {
        own = record { loop = h; segment = l; a = refl; b = refl; distance = refl };
        least = λ k' i' b there. elim (before_next k' i' k i b) [
          | inl earlier ↦ above_not_below d _ (before e k' i' earlier there)
          | inr (x, y) ↦ rw (x, y) (lt_self d)
        ];
        first = λ k' i' b there. is_true (lt d (segment_distance o p k' i')) (before e k' i' b there);
      }
      decide false e = record {
        own = best.own;
        least = λ k' i' b there. elim (before_next k' i' k i b) [ inl earlier ↦ best.least k' i' earlier there | inr (x, y) ↦ rw (x, y) e ];
        first = best.first;
      }

  -- the first segment is nearer than nowhere
  best_first : Best 0 1 (segment_turn p (loop_at o 0) 0 0 nowhere)
  unfolding nearer
  best_first = rw (below_infinity d (counted 0 0 (omega arith) some)) (record {
    own = record { loop = omega arith; segment = some; a = refl; b = refl; distance = refl };
    least = λ k i b there. elim (before_next k i 0 0 b) [ inl earlier ↦ absurd (none k i earlier) | inr (x, y) ↦ rw (x, y) (lt_self d) ];
    first = λ k i b there. absurd (none k i b);
  })
    where
      d : Float
      d = segment_distance o p 0 0

      some : 0 < points (loop_at o 0)
      some = omega (arith, taken.three 0 (omega arith))

      none : (k i : ℕ) → ComesBefore k i 0 0 → ⊥
      none k i (inl h) = omega arith
      none k i (inr (e, h)) = omega arith

  -- after a loop's last segment comes the next loop
  best_loop : (k : ℕ) (n : Near) → Best k (points (loop_at o k)) n → Best (suc k) 0 n
  best_loop k n best = record {
    own = best.own;
    least = λ k' i' b there. best.least k' i' (within k' i' b there) there;
    first = best.first;
  }
    where
      within : (k' i' : ℕ) → ComesBefore k' i' (suc k) 0 → i' < points (loop_at o k') → ComesBefore k' i' k (points (loop_at o k))
      within k' i' (inl h) there =
          elim (eq-or-lt_of_le (le_of_suc-le-suc h)) [ inl same ↦ inr (same, subst (λ (j : ℕ). i' < points (loop_at o j)) same there) | inr less ↦ inl less ]
      within k' i' (inr (e, h)) there = absurd (omega arith)

  -- nothing is asked yet, or there is a best one
  abbrev BegunLoop : ℕ → Near → Type 0
  BegunLoop i n = ((i ≡ 0) × (n ≡ nowhere)) ⊎ Best 0 i n

  best_outer : Best 1 0 (nearest_in_loop p (loop_at o 0) 0 nowhere)
  unfolding nearest_in_loop
  best_outer = best_loop 0 _ (last (for_up_keeps BegunLoop (points (loop_at o 0)) (segment_turn p (loop_at o 0) 0) nowhere (inl (refl, refl)) next))
    where
      next : (i : ℕ) (n : Near) → i < points (loop_at o 0) → BegunLoop i n → BegunLoop (suc i) (segment_turn p (loop_at o 0) 0 i n)
      next i n l (inl (x, y)) = inr (rw (x, y) best_first)
      next i n l (inr best) = inr (best_next 0 i (omega arith) l n best)

      last : {n : Near} → BegunLoop (points (loop_at o 0)) n → Best 0 (points (loop_at o 0)) n
      last (inl (x, y)) = absurd (omega (arith, taken.three 0 (omega arith)))
      last (inr best) = best

  best_hole : (k : ℕ) (n : Near) → k < length o.lens → Best (suc k) 0 n → Best (suc (suc k)) 0 (hole_turn o p k n)
  unfolding nearest_in_loop loop_at
  best_hole k n h best =
      best_loop (suc k) _
      (for_up_keeps (Best (suc k)) (points (loop_at o (suc k))) (segment_turn p (loop_at o (suc k)) (suc k)) n best
      (λ i t l b. best_next (suc k) i h l t b))

  best_all : Best (suc (length o.lens)) 0 (nearest_segment o p)
  unfolding nearest_segment loop_at
  best_all =
      for_up_keeps (λ (k : ℕ) (n : Near). Best (suc k) 0 n) (length o.lens) (hole_turn o p) (nearest_in_loop p o.outer 0 nowhere) best_outer
      (λ k n h b. best_hole k n h b)

  named_by : Named o p (nearest_segment o p)
  named_by =
      let n = nearest_segment o p in
      let best = best_all in
      let own = counted n.loop_index n.segment_index best.own.loop best.own.segment in
      record {
        own = best.own;
        least = λ k i h l. le_of_counted n.distance (segment_distance o p k i) (rw best.own.distance own) (counted k i h l)
            (best.least k i (inl (omega arith)) l);
        first = best.first;
      }

-- on an outline and a point that aren't refused, the nearest segment is named, and it is the first of the nearest
pub named : (o : Outline) (p : Point) → OutlineFits o → PointFits p → outline_refusal o ≡ 0 → point_refusal p ≡ 0 → Named o p (nearest_segment o p)
named o p f g e h =
    let w = point_within p g h in
    named_by o f (accepted o e) p (record { x = widen moderate_bound tt w.x; y = widen moderate_bound tt w.y })

-- What holds of the definitions of specs/Points.antt.
use Rattle.std.specs.Prelude.{Bool, true, false, cond, ◌≡◌, refl, [], ◌∷◌, ℕ, zero, suc, ◌+◌, ◌<◌, ℤ, pos, ◌+ℤ◌, ◌-ℤ◌, ◌*ℤ◌, ◌<ℤ◌, Float}
use Rattle.std.proofs.Common.{sym, ap, ap₂, ◌∙◌, arith, ⊎_elim, lt-ltb, true≢false, le_of_suc-le-suc, eq-or-lt_of_le}
use Rattle.std.specs.Float.Ieee.Fits.{and_l}
use Rattle.std.proofs.Math.Option.{some}
use Rattle.std.proofs.Math.IntN.{pos-+ℤ-pos}
use Rattle.std.specs.Int.Signed.{lt_z, lt_z_yes}
use Rattle.laws.specs.Loop.{for_up, sum_up}
use Rattle.laws.proofs.Sums.{sum_zero, sum_suc}
use Rattle.laws.proofs.RingBase.{var, num, ◌*ᵉ◌, ◌-ᵉ◌}
use Rattle.laws.proofs.CertificateBase.{hyp, nat, ◌⊞◌, ◌⊠◌}
use Rattle.laws.proofs.Certificate.{of-<ℤ, to-<ℤ, prove}
use Rattle.exact.specs.Units.{units}
use Rattle.exact.specs.Corner.{Vector, cross, sine_above_third, step_units}
use Rattle.outline.specs.Outline.{Outline}
use Rattle.outline_orientation.specs.Orient.{orient}
use Rattle.front.specs.State.{State}
use Rattle.cover_turns.specs.Turn.{turn, Covers}
use Rattle.cover_turns.proofs.Turns.{turn_back, quad_covers}
use Rattle.books.specs.Book.{Book, Quad, quad_at, start_book, book_after, place_of, quad_edges}
use Rattle.books.specs.Net.{net, quads_edges}
use Rattle.books.proofs.NetBase.{quad_sum_lem}
use Rattle.books.proofs.AreasBase.{FrontJoins}
use Rattle.books.specs.Points.{nths, turn_of, winding, is_round, quads_round, LeftOfAll, RightOfNone, InOne}
use Rattle.books.specs.Holds.{step_of, CornerHolds, QuadHolds}
use Rattle.books.proofs.Areas.{quads_sum, weights_balance}

-- ---- one quad

abbrev far : ℕ → Vector → Vector
far n u = record { x = pos n *ℤ u.x; y = pos n *ℤ u.y }

above_zero : (n : ℕ) → 0 < n → pos 0 <ℤ pos n
above_zero n h = lt_z_yes {a = pos 0} {b = pos n} (rw (lt-ltb 0 n h) tt)

-- n times as far, a way turns as it did: its orientation is n² times what it was
turned_far : (n : ℕ) → 0 < n → (u v w : Vector)
    → pos 0 <ℤ ((v.x -ℤ u.x) *ℤ (w.y -ℤ v.y) -ℤ (v.y -ℤ u.y) *ℤ (w.x -ℤ v.x))
    → pos 0 <ℤ orient (far n u) (far n v) (far n w)
unfolding orient cross
turned_far n above u v w h =
    to-<ℤ {a = pos 0} {b = orient (far n u) (far n v) (far n w)}
    (prove (u.x ∷ u.y ∷ v.x ∷ v.y ∷ w.x ∷ w.y ∷ pos n ∷ [])
    ((var 6 -ᵉ num 0 -ᵉ num 1) ∷ (((var 2 -ᵉ var 0) *ᵉ (var 5 -ᵉ var 3) -ᵉ (var 3 -ᵉ var 1) *ᵉ (var 4 -ᵉ var 2)) -ᵉ num 0 -ᵉ num 1) ∷ [])
    (of-<ℤ {a = pos 0} {b = pos n} (above_zero n above), (of-<ℤ h, tt)) [] tt 0
    (((var 6 *ᵉ var 2 -ᵉ var 6 *ᵉ var 0) *ᵉ (var 6 *ᵉ var 5 -ᵉ var 6 *ᵉ var 1) -ᵉ (var 6 *ᵉ var 3 -ᵉ var 6 *ᵉ var 1) *ᵉ (var 6 *ᵉ var 4 -ᵉ var 6 *ᵉ var 0)) -ᵉ num 0 -ᵉ num 1)
    (hyp 0 ⊠ hyp 0 ⊠ hyp 1 ⊞ hyp 0 ⊠ hyp 0 ⊞ nat 2 ⊠ (hyp 0 ⊠ hyp 1) ⊞ nat 2 ⊠ hyp 0 ⊞ hyp 1) tt)

-- the way from u by v to w turns left
corner_left : (n : ℕ) → 0 < n → (b : Book) (u v w : ℕ) → CornerHolds b u v w
    → pos 0 <ℤ orient (place_of (nths n) b u) (place_of (nths n) b v) (place_of (nths n) b w)
unfolding sine_above_third step_units cross
corner_left n above b u v w h =
    turned_far n above (place_of units b u) (place_of units b v) (place_of units b w)
    (lt_z_yes (and_l (lt_z (pos 0) (cross (step_of b u v) (step_of b v w))) _ h.sine))

pub quad_holds_covers : (b : Book) (q : Quad) → QuadHolds b q → (n : ℕ) → 0 < n → (p : Vector)
    → Covers (LeftOfAll n p b q) (RightOfNone n p b q) (winding n p b (quad_edges q))
unfolding quad_edges
quad_holds_covers b q h n above p =
    let left = corner_left n above b in
    let c = quad_covers p (place_of (nths n) b q.a) (place_of (nths n) b q.b) (place_of (nths n) b q.d) (place_of (nths n) b q.c)
    (left q.c q.a q.b h.at_a) (left q.a q.b q.d h.at_b) (left q.b q.d q.c h.at_d) (left q.d q.c q.a h.at_c) in
    rw (quad_sum_lem (turn_of n p b) q)
    record {
      once = c.once;
      left = λ l. c.left (l.0, l.1.0, l.1.1.0, l.1.1.1.0);
      within = λ e. let w = c.within e in (w.0, (w.1, (w.2, (w.3, tt))));
    }

-- ---- all quads

-- a winding of 0 or 1 is the number that it is
as_number : (z : ℤ) (Left Within : Type 0) → Covers Left Within z → z ≡ pos (cond (lt_z (pos 0) z) 1 0)
as_number z Left Within c = ⊎_elim (λ e. rw e refl) (λ e. rw e refl) c.once

pub quads_number : (n : ℕ) → 0 < n → (p : Vector) (b : Book) (s : State) (k : ℕ) → ((i : ℕ) → i < k → QuadHolds b (quad_at s i))
    → quads_sum (turn_of n p b) s k ≡ pos (quads_round n p b s k)
unfolding quads_round sum_up for_up
quads_number n above p b s zero hold = refl
quads_number n above p b s (suc k) hold =
    let q = quad_at s k in
    ap₂ (λ (x y : ℤ). x +ℤ y) (quads_number n above p b s k (λ i h. hold i (omega arith)))
    (as_number (winding n p b (quad_edges q)) _ _ (quad_holds_covers b q (hold k (omega arith)) n above p))
    ∙ pos-+ℤ-pos _ _

-- ---- a count of 1

-- i is the last of the numbers below n + 1, or below n
last_or_less : (i n : ℕ) {A : Type 0} → i < suc n → (i ≡ n → A) → (i < n → A) → A
last_or_less i n h last less = ⊎_elim last less (eq-or-lt_of_le (le_of_suc-le-suc h))

module _ (test : ℕ → Bool) where
  abbrev count : ℕ → ℕ
  count n = sum_up n (λ i. cond (test i) 1 0)

  count_none : (n : ℕ) → count n ≡ 0 → (i : ℕ) → i < n → test i ≡ false
  count_none zero e i h = absurd (omega arith)
  count_none (suc n) e i h = last_or_less i n h (λ same. rw same (last (test n) both)) (λ less. count_none n (omega (arith, both)) i less)
    where
      both : count n + cond (test n) 1 0 ≡ 0
      both = sym (sum_suc (λ i. cond (test i) 1 0) n) ∙ e

      last : (t : Bool) → count n + cond t 1 0 ≡ 0 → t ≡ false
      last true f = absurd (omega arith)
      last false f = refl

  -- then the test holds at one index, and at no other
  count_one : (n : ℕ) → count n ≡ 1 → (i : ℕ) × (i < n) × (test i ≡ true) × ((j : ℕ) → j < n → test j ≡ true → j ≡ i)
  count_one zero e = absurd (let f = sum_zero (λ i. cond (test i) 1 0) in omega arith)
  count_one (suc n) e = by (test n) refl (sym (sum_suc (λ i. cond (test i) 1 0) n) ∙ e) (count_one n)
    where
      by : (t : Bool) → test n ≡ t → count n + cond t 1 0 ≡ 1
          → (count n ≡ 1 → (i : ℕ) × (i < n) × (test i ≡ true) × ((j : ℕ) → j < n → test j ≡ true → j ≡ i))
          → (i : ℕ) × (i < suc n) × (test i ≡ true) × ((j : ℕ) → j < suc n → test j ≡ true → j ≡ i)
      by true here f before = (
        n,
        omega arith,
        here,
        λ j h e. last_or_less j n h (λ same. same) (λ less. absurd (true≢false (sym e ∙ count_none n (omega arith) j less))),
      )
      by false here f before =
          let r = before (omega arith) in (
            r.0,
            omega (arith, r.1),
            r.2,
            λ j h e. last_or_less j n h (λ same. absurd (true≢false (sym e ∙ (ap test same ∙ here)))) (λ less. r.3 j less e),
          )

-- a point that is in one quad by count is in one quad by name
pub in_one : (n : ℕ) (p : Vector) (b : Book) (s : State) (k : ℕ) → quads_round n p b s k ≡ 1 → InOne n p b s k
unfolding quads_round
in_one n p b s k e = let r = count_one (λ i. is_round n p b (quad_at s i)) k e in record { quad = r.0; below = r.1; here = r.2; only = r.3 }

-- ---- the balance

-- the start's front goes round a point as often as there are quads that have it, and as the front left does
pub points_balance : (o : Outline) (size : Float) (s : State) (k : ℕ) (b : Book) → book_after o size s k ≡ some b → FrontJoins (start_book o size)
    → ((u v : ℕ) → net u v (start_book o size).front ≡ net u v (quads_edges s k) +ℤ net u v b.front)
    → ((i : ℕ) → i < k → QuadHolds b (quad_at s i))
    → (n : ℕ) → 0 < n → (p : Vector)
    → winding n p (start_book o size) (start_book o size).front ≡ pos (quads_round n p b s k) +ℤ winding n p b b.front
points_balance o size s k b steps joins edges quads n above p =
    weights_balance o size s k b steps joins (nths n) edges (turn p) (turn_back p) ∙ ap (λ (z : ℤ). z +ℤ winding n p b b.front) (quads_number n above p b s k quads)

-- The laws of stretches: one is written, a node is copied into the snapshot, and what is gone over after a node. Assumes nothing.
use Rattle.std.specs.Prelude.{Bool, ◌&&◌, List, ◌≡◌, ◌≢◌, ℕ, ◌+◌, ◌*◌, ◌/◌, ◌≤◌, ◌<◌, min, max, eqb, length, get_or, set}
use Rattle.std.proofs.Math.Bool.{true, false, cond}
use Rattle.std.proofs.Math.Path.{refl}
use Rattle.std.proofs.Common.{sym, ◌∙◌}
use native.Mathlib.Omega.{arith}
use Rattle.std.proofs.Math.ListN.{length-set}
use Rattle.std.proofs.Math.Seq.{get_or-set_same, get_or-set_other}
use borrow.Author.Tests.{ltb-true, ltb-false, lt-ltb, le-ltb, eqb-true, eqb-false, eq-eqb, ne_eqb}
use Rattle.laws.specs.Tests.{both}
use Rattle.topology.specs.Links.{off}
use Rattle.paving_snapshots.specs.Stretches.{has_places, stretched, node_after, OffBoth, Stretches, SamePlaces, FewerTries}

-- ---- a stretch is written

-- what is read of m, which is l with a stretch from a up to `end`
pub record StretchWritten (l : List ℕ) (a end : ℕ) (m : List ℕ) : Type 0 where
  pub long : length m ≡ length l
  pub first : a < length l / 3 → get_or m (3 * a) 0 ≡ off
  pub second : a < length l / 3 → get_or m (3 * a + 1) 0 ≡ end
  pub others : (b : ℕ) → a ≢ b → SamePlaces l m b

module _ (l : List ℕ) (a end : ℕ) where
  abbrev within : List ℕ
  within = set (set l (3 * a) off) (3 * a + 1) end

  other : (i : ℕ) → i ≢ 3 * a → i ≢ 3 * a + 1 → get_or within i 0 ≡ get_or l i 0
  other i h k = get_or-set_other (set l (3 * a) off) (3 * a + 1) i end 0 k ∙ get_or-set_other l (3 * a) i off 0 h

  pub stretch_written : StretchWritten l a end (stretched l a end)
  unfolding stretched
  stretch_written = by (has_places l a) refl
    where
      by : (t : Bool) → has_places l a ≡ t → StretchWritten l a end (cond t within l)
      by true e =
          record {
            long = length-set (set l (3 * a) off) (3 * a + 1) end ∙ length-set l (3 * a) off;
            first = λ room. get_or-set_other (set l (3 * a) off) (3 * a + 1) (3 * a) end 0 (λ q. omega arith)
                ∙ get_or-set_same l (3 * a) off 0 (omega arith);
            second = λ room. get_or-set_same (set l (3 * a) off) (3 * a + 1) end 0 (omega (arith, length-set l (3 * a) off));
            others = λ b ne. (
              other (3 * b) (λ q. ne (omega arith)) (λ q. omega arith),
              (other (3 * b + 1) (λ q. omega arith) (λ q. ne (omega arith)), other (3 * b + 2) (λ q. omega arith) (λ q. omega arith)),
            );
          }
      by false e =
          let few = ltb-false a (length l / 3) e in
          record {
            long = refl;
            first = λ room. absurd (omega arith);
            second = λ room. absurd (omega arith);
            others = λ b ne. (refl, (refl, refl));
          }

  -- what the code does
  pub stretched_without : length l / 3 ≤ a → l ≡ stretched l a end
  unfolding stretched
  stretched_without h = rw (le-ltb a (length l / 3) h)

  pub stretched_within : a < length l / 3 → within ≡ stretched l a end
  unfolding stretched
  stretched_within h = rw (lt-ltb a (length l / 3) h)

-- no try is added
pub fewer_same : (l : List ℕ) → FewerTries l l
fewer_same l = record { long = refl; kept = λ a room on. (refl, (refl, refl)) }

pub fewer_stretched : (l m : List ℕ) (a end : ℕ) → FewerTries l m → FewerTries l (stretched m a end)
fewer_stretched l m a end F = record { long = W.long ∙ F.long; kept = λ b room on. which b room on (eqb a b) refl }
  where
    k : List ℕ
    k = stretched m a end

    W : StretchWritten m a end k
    W = stretch_written m a end

    which : (b : ℕ) → b < length l / 3 → get_or k (3 * b) 0 ≢ off → (t : Bool) → eqb a b ≡ t → SamePlaces l k b
    which b room on true e = let q = eqb-true a b e in absurd (on (rw (← q) (W.first (omega (arith, F.long)))))
    which b room on false e =
        let S = W.others b (eqb-false a b e) in
        let K = F.kept b room (λ q. on (S.0 ∙ q)) in
        (S.0 ∙ K.0, (S.1.0 ∙ K.1.0, S.1.1 ∙ K.1.1))

-- a stretch of nodes off the front may be written
pub stretches_stretched : (l : List ℕ) (n : ℕ) (next snapshot : List ℕ) (a end : ℕ) → ((i : ℕ) → a ≤ i → i < end → OffBoth n next snapshot i)
    → Stretches l n next snapshot → Stretches (stretched l a end) n next snapshot
stretches_stretched l n next snapshot a end gone S b room node none i low high = which (eqb a b) refl
  where
    W : StretchWritten l a end (stretched l a end)
    W = stretch_written l a end

    which : (t : Bool) → eqb a b ≡ t → OffBoth n next snapshot i
    which true e =
        let q = eqb-true a b e in
        let last : get_or (stretched l a end) (3 * b + 1) 0 ≡ end = rw (← q) (W.second (omega (arith, W.long))) in
        gone i (omega arith) (omega (arith, last))
    which false e =
        let P = W.others b (eqb-false a b e) in
        S b (omega (arith, W.long)) node (sym P.0 ∙ none) i low (omega (arith, P.1.0))

-- a node is copied into the snapshot
pub stretches_copied : (l : List ℕ) (n : ℕ) (next snapshot : List ℕ) (j : ℕ) → j < length snapshot → Stretches l n next snapshot
    → Stretches l n next (set snapshot j (get_or next j 0))
stretches_copied l n next snapshot j room S a h node none i low high = which (eqb j i) refl
  where
    O : OffBoth n next snapshot i
    O = S a h node none i low high

    which : (t : Bool) → eqb j i ≡ t → OffBoth n next (set snapshot j (get_or next j 0)) i
    which true e =
        let q = eqb-true j i e in
        let none : get_or next j 0 ≡ off = rw q O.1 in
        (O.0, O.1, rw (← q) (get_or-set_same snapshot j (get_or next j 0) 0 room ∙ none))
    which false e = (O.0, O.1, get_or-set_other snapshot j i (get_or next j 0) 0 (λ q. eqb-false j i e (sym q)) ∙ O.2)

-- ---- the node after

module _ (l : List ℕ) (a n : ℕ) where
  abbrev begins : Bool
  begins = has_places l a && eqb (get_or l (3 * a) 0) off

  abbrev end : ℕ
  end = get_or l (3 * a + 1) 0

  -- what the code does
  pub after_without : length l / 3 ≤ a → a + 1 ≡ node_after l a n
  unfolding node_after
  after_without h = rw (le-ltb a (length l / 3) h)

  pub after_tried : a < length l / 3 → get_or l (3 * a) 0 ≢ off → a + 1 ≡ node_after l a n
  unfolding node_after
  after_tried h on = rw (lt-ltb a (length l / 3) h, ne_eqb (get_or l (3 * a) 0) off on)

  pub after_stretch : a < length l / 3 → get_or l (3 * a) 0 ≡ off → max (a + 1) (min end n) ≡ node_after l a n
  unfolding node_after
  after_stretch h none = rw (lt-ltb a (length l / 3) h, eq-eqb (get_or l (3 * a) 0) off none)

  pub after_more : a < node_after l a n
  unfolding node_after
  after_more = by begins
    where
      by : (t : Bool) → a < cond t (max (a + 1) (min end n)) (a + 1)
      by true = omega arith
      by false = omega arith

  pub after_few : a < n → node_after l a n ≤ n
  unfolding node_after
  after_few h = by begins
    where
      by : (t : Bool) → cond t (max (a + 1) (min end n)) (a + 1) ≤ n
      by true = omega arith
      by false = omega arith

  -- what is gone over is off the front, where the list has the stretches of m nodes, n or more
  pub after_off : (m : ℕ) (next snapshot : List ℕ) → n ≤ m → Stretches l m next snapshot → a < n → (i : ℕ) → a < i → i < node_after l a n
      → OffBoth m next snapshot i
  unfolding node_after
  after_off m next snapshot more S node i low high = by begins refl high
    where
      by : (t : Bool) → begins ≡ t → i < cond t (max (a + 1) (min end n)) (a + 1) → OffBoth m next snapshot i
      by true e h =
          let p = both (has_places l a) (eqb (get_or l (3 * a) 0) off) e in
          S a (ltb-true a (length l / 3) p.0) (omega arith) (eqb-true (get_or l (3 * a) 0) off p.1) i (omega arith) (omega arith)
      by false e h = absurd (omega arith)

-- Laws of walks along links: step by step, by index, where a walk ends, and that of sound links none starts above the node before it.
use Rattle.std.specs.Prelude.{Bool, List, [], ◌∷◌, ◌++◌, ◌≢◌, ◌≡◌, eqb, get_or}
use Rattle.std.proofs.Math.Bool.{true, false}
use Rattle.std.proofs.Math.Logic.{⊎_elim}
use Rattle.std.proofs.Math.Path.{refl, ap}
use Rattle.std.proofs.Common.{sym, ◌∙◌, eq-or-lt_of_le, le_of_suc-le-suc, arith, length-append}
use Prim.Native.Nat.{ℕ, zero, suc, ◌<◌, ◌≤◌}
use Rattle.std.proofs.Math.Dec.{ltb, leb}
use Rattle.std.proofs.Math.ListN.{length}
use borrow.Author.Tests.{eqb-true, eqb-false, eq-eqb, ne_eqb, ltb-true, ltb-false, lt-ltb, le-ltb, le-leb, leb-true, leb-false}
use Rattle.laws.specs.Loop.{for_up}
use Rattle.topology.specs.Links.{off}
use Rattle.topology.specs.Walk.{walk_by, prepend}
use Rattle.topology.specs.Listing.{long_loops, add_loop}
use Rattle.front_loop_list.specs.Walked.{walk_last, walk_more, Onward}
use Rattle.exam_loops.specs.Loops.{loop_numbered}

-- ---- one step

module _ (f : ℕ → ℕ) (k z u : ℕ) where
  pub walk_under : u < z → walk_by f (suc k) z u ≡ []
  unfolding walk_by
  walk_under h = rw (lt-ltb u z h)

  pub walk_closed : z ≤ u → f u ≢ off → f u ≡ z → walk_by f (suc k) z u ≡ u ∷ []
  unfolding walk_by
  walk_closed h on e = rw (le-ltb u z h, ne_eqb (f u) off on, eq-eqb (f u) z e)

  pub walk_onward : z ≤ u → f u ≢ off → f u ≢ z → walk_by f (suc k) z u ≡ prepend u (walk_by f k z (f u))
  unfolding walk_by
  walk_onward h on other = rw (le-ltb u z h, ne_eqb (f u) off on, ne_eqb (f u) z other)

-- ---- by index

module _ (f : ℕ → ℕ) where
  -- it begins where it starts
  pub walk_first : (k z u : ℕ) → 0 < length (walk_by f k z u) → get_or (walk_by f k z u) 0 0 ≡ u
  walk_first k z u h = by (eqb (f u) z) refl
    where
      by : (b : Bool) → eqb (f u) z ≡ b → get_or (walk_by f k z u) 0 0 ≡ u
      by true e = rw (walk_last f k z u h (eqb-true (f u) z e))
      by false e = rw (walk_more f k z u h (eqb-false (f u) z e)).rest

  -- a walk of two nodes or more goes on
  onwards : (k z u : ℕ) → 1 < length (walk_by f k z u) → Onward f k z u
  onwards k z u h = by (eqb (f u) z) refl
    where
      by : (b : Bool) → eqb (f u) z ≡ b → Onward f k z u
      by true e = absurd (omega (arith, h, ap length (walk_last f k z u (omega (arith, h)) (eqb-true (f u) z e))))
      by false e = walk_more f k z u (omega (arith, h)) (eqb-false (f u) z e)

  -- along the links
  pub walk_along : (i k z u : ℕ) → suc i < length (walk_by f k z u) → f (get_or (walk_by f k z u) i 0) ≡ get_or (walk_by f k z u) (suc i) 0
  walk_along zero k z u h =
      let s = onwards k z u (omega (arith, h)) in
      rw s.rest (sym (walk_first s.most z (f u) s.some))
  walk_along (suc i) k z u h =
      let s = onwards k z u (omega (arith, h)) in
      rw s.rest (walk_along i s.most z (f u) (omega (arith, h, ap length s.rest)))

  -- ---- where a walk ends

  -- it takes no node below its start
  walk_above : (k z u : ℕ) → 0 < length (walk_by f k z u) → z ≤ u
  unfolding walk_by
  walk_above zero z u h = absurd (omega arith)
  walk_above (suc k) z u h = by (ltb u z) refl
    where
      by : (b : Bool) → ltb u z ≡ b → z ≤ u
      by true e = absurd (omega (arith, h, ap length (walk_under f k z u (ltb-true u z e))))
      by false e = ltb-false u z e

  -- z is the link of a node that isn't below it
  pub record Closing (z : ℕ) : Type 0 where
    pub last : ℕ
    pub back : f last ≡ z
    pub above : z ≤ last

  pub walk_closes : (m k z u : ℕ) → length (walk_by f k z u) ≡ suc m → Closing z
  walk_closes zero k z u h = by (eqb (f u) z) refl
    where
      by : (b : Bool) → eqb (f u) z ≡ b → Closing z
      by true e = record { last = u; back = eqb-true (f u) z e; above = walk_above k z u (omega (arith, h)) }
      by false e =
          let s = walk_more f k z u (omega (arith, h)) (eqb-false (f u) z e) in
          absurd (omega (arith, h, ap length s.rest, s.some))
  walk_closes (suc m) k z u h =
      let s = onwards k z u (omega (arith, h)) in
      walk_closes m s.most z (f u) (omega (arith, h, ap length s.rest))

-- ---- loop k of a list of loops

numbered_before : (ls : List (List ℕ)) (l : List ℕ) (k : ℕ) → k < length ls → loop_numbered (ls ++ l ∷ []) k ≡ loop_numbered ls k
unfolding loop_numbered
numbered_before [] l k h = absurd (omega arith)
numbered_before (m ∷ ls) l zero h = refl
numbered_before (m ∷ ls) l (suc k) h = numbered_before ls l k (omega arith)

pub numbered_last : (ls : List (List ℕ)) (l : List ℕ) (k : ℕ) → length ls ≡ k → loop_numbered (ls ++ l ∷ []) k ≡ l
unfolding loop_numbered
numbered_last [] l zero h = refl
numbered_last [] l (suc k) h = absurd (omega arith)
numbered_last (m ∷ ls) l zero h = absurd (omega arith)
numbered_last (m ∷ ls) l (suc k) h = numbered_last ls l k (omega arith)

pub numbered_past : (ls : List (List ℕ)) (k : ℕ) → length ls ≤ k → loop_numbered ls k ≡ []
unfolding loop_numbered
numbered_past [] k h = refl
numbered_past (m ∷ ls) zero h = absurd (omega arith)
numbered_past (m ∷ ls) (suc k) h = numbered_past ls k (omega arith)

-- ---- what is listed of one node more

module _ (L : ℕ → List ℕ) where
  pub listing_long : (u : ℕ) → 3 ≤ length (L u) → long_loops 3 (suc u) L ≡ long_loops 3 u L ++ L u ∷ []
  unfolding long_loops for_up add_loop
  listing_long u h = rw (le-leb 3 (length (L u)) h)

  pub listing_short : (u : ℕ) → length (L u) < 3 → long_loops 3 (suc u) L ≡ long_loops 3 u L
  unfolding long_loops for_up add_loop
  listing_short u h = by (leb 3 (length (L u))) refl
    where
      by : (b : Bool) → leb 3 (length (L u)) ≡ b → long_loops 3 (suc u) L ≡ long_loops 3 u L
      by true e = absurd (omega (arith, h, leb-true 3 (length (L u)) e))
      by false e = rw e

  -- a loop listed from the first u nodes keeps its number
  pub record Stays (k u n : ℕ) : Type 0 where
    pub same : loop_numbered (long_loops 3 n L) k ≡ loop_numbered (long_loops 3 u L) k
    pub there : k < length (long_loops 3 n L)

  pub listing_stays : (k u n : ℕ) → u ≤ n → k < length (long_loops 3 u L) → Stays k u n
  listing_stays k zero zero h there = record { same = refl; there = there }
  listing_stays k (suc u) zero h there = absurd (omega arith)
  listing_stays k u (suc n) h there = ⊎_elim here (λ less. more (listing_stays k u n (le_of_suc-le-suc less) there)) (eq-or-lt_of_le h)
    where
      here : u ≡ suc n → Stays k u (suc n)
      here e = record { same = ap (λ (m : ℕ). loop_numbered (long_loops 3 m L) k) (sym e); there = omega (arith, there, ap (λ (m : ℕ). length (long_loops 3 m L)) e) }

      more : Stays k u n → Stays k u (suc n)
      more s = by (leb 3 (length (L n))) refl
        where
          by : (b : Bool) → leb 3 (length (L n)) ≡ b → Stays k u (suc n)
          by true e =
              let q = listing_long n (leb-true 3 (length (L n)) e) in
              record {
                same = ap (λ (ls : List (List ℕ)). loop_numbered ls k) q ∙ (numbered_before (long_loops 3 n L) (L n) k s.there ∙ s.same);
                there = omega (arith, s.there, ap length q, length-append (long_loops 3 n L) (L n ∷ []));
              }
          by false e =
              let q = listing_short n (leb-false 3 (length (L n)) e) in
              record { same = ap (λ (ls : List (List ℕ)). loop_numbered ls k) q ∙ s.same; there = omega (arith, s.there, ap length q) }

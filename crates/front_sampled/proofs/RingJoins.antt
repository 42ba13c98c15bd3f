-- The edges of a ring as a list of changes, and the loop over the ring that adds them.
use Rattle.std.specs.Prelude.{◌≡◌, List, [], ◌∷◌, ◌++◌, length, get_or}
use Rattle.std.proofs.Math.Path.{refl, sym, ap}
use Rattle.std.proofs.Common.{◌∙◌, arith, lt-ltb, le-ltb}
use Prim.Native.Nat.{ℕ, zero, suc, ◌+◌, ◌<◌}
use Rattle.std.proofs.Math.Numerals.{add-one}
use Rattle.laws.specs.Loop.{for_up, for_up_same}
use Rattle.laws.specs.Tabulate.{tabulate, tabulate_at}
use Rattle.outline.specs.Outline.{after}
use Rattle.topology.proofs.Changes.{Change, stored}
use Rattle.topology.proofs.Laying.{joins}

-- the edges from each of a list to the next, and from the last to z
abbrev path_joins : List ℕ → ℕ → List Change
path_joins [] z = []
path_joins (u ∷ us) z = joins u us z

-- the edges of a loop
abbrev pub loop_joins : List ℕ → List Change
loop_joins [] = []
loop_joins (x ∷ xs) = joins x xs x

loop_edges_lem : (l : List ℕ) → path_joins l (get_or l 0 0) ≡ loop_joins l
loop_edges_lem [] = refl
loop_edges_lem (x ∷ xs) = refl

pub loop_joins_length : (l : List ℕ) → length (loop_joins l) ≡ length l
loop_joins_length [] = refl
loop_joins_length (x ∷ xs) = path x xs x
  where
    path : (u : ℕ) (vs : List ℕ) (z : ℕ) → length (joins u vs z) ≡ suc (length vs)
    path u [] z = refl
    path u (v ∷ vs) z = ap suc (path v vs z)

module _ {S : Type 0} (store : S → ℕ → ℕ → S) where
  path_snoc : (u : ℕ) (vs : List ℕ) (w z : ℕ) (s : S) → stored store (joins u (vs ++ w ∷ []) z) s ≡ store (stored store (joins u vs w) s) w z
  path_snoc u [] w z s = refl
  path_snoc u (v ∷ vs) w z s = path_snoc v vs w z (store s u v)

  edges_snoc : (l : List ℕ) (w z : ℕ) (s : S) → stored store (path_joins (l ++ w ∷ []) z) s ≡ store (stored store (path_joins l w) s) w z
  edges_snoc [] w z s = refl
  edges_snoc (u ∷ us) w z s = path_snoc u us w z s

  module _ (f : ℕ → ℕ) (s : S) where
    path_stored : (k : ℕ) → for_up k (λ i t. store t (f i) (f (i + 1))) s ≡ stored store (path_joins (tabulate k f) (f k)) s
    unfolding for_up tabulate
    path_stored zero = refl
    path_stored (suc k) =
        ap (λ (t : S). store t (f k) (f (k + 1))) (path_stored k) ∙ rw add-one (sym (edges_snoc (tabulate k f) (f k) (f (suc k)) s))

    ring_edges : (m : ℕ) → for_up (suc m) (λ i t. store t (f i) (f (after (suc m) i))) s ≡ stored store (path_joins (tabulate (suc m) f) (f 0)) s
    unfolding for_up tabulate
    ring_edges m =
        rw (le-ltb (m + 1) (suc m) (omega arith))
        (ap (λ (t : S). store t (f m) (f 0))
        (for_up_same m (λ i t. store t (f i) (f (after (suc m) i))) (λ i t. store t (f i) (f (i + 1))) s
        (λ i t q. rw (lt-ltb (i + 1) (suc m) (omega arith))) ∙ path_stored m)
        ∙ sym (edges_snoc (tabulate m f) (f m) (f 0) s))

    -- each of n ids is joined to the next, the last to the first
    pub ring_stored : (n : ℕ) → 0 < n → for_up n (λ i t. store t (f i) (f (after n i))) s ≡ stored store (loop_joins (tabulate n f)) s
    ring_stored zero h = absurd (omega arith)
    ring_stored (suc m) h =
        let l = tabulate (suc m) f in
        ring_edges m ∙ ap (λ (z : ℕ). stored store (path_joins l z) s) (sym (tabulate_at (suc m) f 0 0 h))
        ∙ ap (λ (cs : List Change). stored store cs s) (loop_edges_lem l)

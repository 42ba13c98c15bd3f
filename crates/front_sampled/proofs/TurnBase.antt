-- One turn of `from_boundary`: a loop of the outline is sampled, made even, and laid on the front.
use Rattle.std.specs.Prelude.{◌≡◌, Bool, true, false, cond, List, [], ◌∷◌, ◌++◌, ℕ, ◌+◌, ◌-◌, ◌≤◌, ◌%◌, eqb, length, Float}
use Rattle.std.proofs.Math.Path.{refl}
use Rattle.std.proofs.Common.{arith, length-append, eqb-true}
use Rattle.std.proofs.lemmas.Bool.{eqb-false}
use Rattle.outline.specs.declared.Point.{Point}
use Rattle.outline.specs.Outline.{Outline, loop_at}
use Rattle.front.specs.declared.Ring.{Ring}
use Rattle.front.specs.State.{State, push_node}
use Rattle.front.specs.Sampling.{sample_loop, ring_count, midpoint, split_longest, ring_in}
use Rattle.front_sampled.specs.Nodes.{Room, Pushed, push_none, push_one}
use Rattle.front_sampled.proofs.Cuts.{loop_cuts}

-- ---- the points that a turn pushes

-- the midpoint that an odd ring gets
unfoldable pub split_points : Ring → State → List Point
split_points r st = cond r.split (midpoint st.xs st.ys r ∷ []) []

-- those of the ring of loop k, which begins at node `base`
abbrev pub added_points : ℕ → ℕ → State → List Point
added_points k base st = split_points (ring_in k base st) st

-- those of turn k, where st is the state before it
unfoldable pub turn_points : Outline → Float → ℕ → State → List Point
turn_points o size k st = loop_cuts size (loop_at o k) ++ added_points k st.counts.nodes (sample_loop size (loop_at o k) st)

-- ---- laws

-- an odd number and one more, or an even number
even_up_lem : (n : ℕ) → n + cond (eqb (n % 2) 1) 1 0 ≡ n + n % 2
even_up_lem n = by (eqb (n % 2) 1) refl
  where
    by : (b : Bool) → eqb (n % 2) 1 ≡ b → n + cond b 1 0 ≡ n + n % 2
    by true e = omega (arith, eqb-true (n % 2) 1 e)
    by false e = omega (arith, eqb-false (n % 2) 1 e)

split_length : (r : Ring) (st : State) → length (split_points r st) ≡ cond r.split 1 0
unfolding split_points
split_length r st = by r.split
  where
    by : (b : Bool) → length (cond b (midpoint st.xs st.ys r ∷ []) []) ≡ cond b 1 0
    by true = refl
    by false = refl

pub split_pushed : {n : ℕ} (r : Ring) (st : State) → Room n st → st.counts.nodes + cond r.split 1 0 ≤ n
    → Pushed st (split_longest r st) (split_points r st)
unfolding split_longest split_points
split_pushed {n} r st R = by r.split
  where
    p : Point
    p = midpoint st.xs st.ys r

    by : (b : Bool) → st.counts.nodes + cond b 1 0 ≤ n → Pushed st (cond b (push_node p st) st) (cond b (p ∷ []) [])
    by true h = push_one p st R (omega arith)
    by false h = push_none st

pub split_count : (r : Ring) (st : State) (ps : List Point) → r.count ≡ length ps → r.split ≡ eqb (r.count % 2) 1
    → (length (ps ++ split_points r st) ≡ ring_count r) × (ring_count r ≡ length ps + length ps % 2)
split_count r st ps count split =
    (rw (length-append, split_length r st, count), rw (split, count) (even_up_lem (length ps)))

-- Loop k is entry k of the loops found from each node in turn.
use Rattle.std.specs.Prelude.{◌≡◌, refl, ℕ, zero, suc, ◌+◌, leb, length, Option, Some, None, MatchOption, slice_get, ⊤}
use Rattle.std.specs.Option.{option_map}
use Rattle.std.proofs.Math.Bool.{Bool, true, false, cond}
use mathlib.Core.List.{List, [], ◌∷◌, ◌++◌}
use Rattle.std.proofs.Common.{sym, ◌∙◌, ap, arith, leb-true, leb-false, append-nil, subst}
use Rattle.std.specs.List.{filter_map, range_with_len}
use Rattle.std.proofs.lemmas.List.Elements.{filter_map-append}
use Rattle.laws.specs.Loop.{for_up}
use Rattle.topology.specs.Walk.{walk_by}
use Rattle.topology.specs.Listing.{long_loops, walks}
use Rattle.exam_loop_reads.specs.declared.FoundLoop.{FoundLoop}
use Rattle.exam_loop_reads.specs.Code.{long_from, Found}
use Rattle.exam_loops.specs.Loops.{loop_numbered}
use Rattle.exam_loops.proofs.WalksBase.{listing_long, listing_short}

last : (a n j : ℕ) → a + n ≡ j → range_with_len a (suc n) ≡ range_with_len a n ++ j ∷ []
last a zero j e = let same : a ≡ j = omega arith in ap (λ (k : ℕ). k ∷ []) same
last a (suc n) j e = ap (λ (l : List ℕ). a ∷ l) (last (a + 1) n j (omega arith))

module _ (f : ℕ → ℕ) (n : ℕ) where
  -- each of the loops found is the walk beside it
  abbrev pub Listed : List FoundLoop → List (List ℕ) → Type 0
  Listed [] [] = ⊤
  Listed [] (w ∷ ws) = ⊥
  Listed (r ∷ rs) [] = ⊥
  Listed (r ∷ rs) (w ∷ ws) = (r.length ≡ length (walk_by f n r.start r.start)) × (walk_by f n r.start r.start ≡ w) × Listed rs ws

  listed_more : (rs : List FoundLoop) (ws : List (List ℕ)) (u : ℕ) → Listed rs ws
      → Listed (rs ++ record { start = u; length = length (walk_by f n u u) } ∷ []) (ws ++ walk_by f n u u ∷ [])
  listed_more [] [] u a = (refl, refl, tt)
  listed_more [] (w ∷ ws) u a = absurd a
  listed_more (r ∷ rs) [] u a = absurd a
  listed_more (r ∷ rs) (w ∷ ws) u a = (a.0, a.1, listed_more rs ws u a.2)

  listed_walks : (m : ℕ) → Listed (filter_map (long_from f n) (range_with_len 0 m)) (walks 3 m n f)
  unfolding long_loops for_up
  listed_walks zero = tt
  listed_walks (suc m) = by (leb 3 (length (walk_by f n m m))) refl (listed_walks m)
    where
      more : filter_map (long_from f n) (range_with_len 0 (suc m))
          ≡ filter_map (long_from f n) (range_with_len 0 m) ++ filter_map (long_from f n) (m ∷ [])
      more =
          ap (filter_map (long_from f n)) (last 0 m m (omega arith)) ∙ filter_map-append (long_from f n) (range_with_len 0 m) (m ∷ [])

      by : (b : Bool) → leb 3 (length (walk_by f n m m)) ≡ b → Listed (filter_map (long_from f n) (range_with_len 0 m)) (walks 3 m n f)
          → Listed (filter_map (long_from f n) (range_with_len 0 (suc m))) (walks 3 (suc m) n f)
      by true e before =
          rw (more, listing_long (λ u. walk_by f n u u) m (leb-true 3 _ e), e)
          (listed_more (filter_map (long_from f n) (range_with_len 0 m)) (walks 3 m n f) m before)
      by false e before =
          rw (more, listing_short (λ u. walk_by f n u u) m (leb-false 3 _ e), e, append-nil) before

  listed_at : (rs : List FoundLoop) (ws : List (List ℕ)) (k : ℕ) → Listed rs ws
      → MatchOption (slice_get rs k) (loop_numbered ws k ≡ [])
      (λ r. (r.length ≡ length (walk_by f n r.start r.start)) × (walk_by f n r.start r.start ≡ loop_numbered ws k))
  unfolding loop_numbered
  listed_at [] [] k a = refl
  listed_at [] (w ∷ ws) k a = absurd a
  listed_at (r ∷ rs) [] k a = absurd a
  listed_at (r ∷ rs) (w ∷ ws) zero a = (a.0, a.1)
  listed_at (r ∷ rs) (w ∷ ws) (suc k) a = listed_at rs ws k a.2

  pub nth_found : (k : ℕ) (r : Option FoundLoop) → option_map (λ (x : FoundLoop). x) r ≡ slice_get (filter_map (long_from f n) (range_with_len 0 n)) k
      → Found f n k r
  nth_found k r e = by r (subst P (sym e) (listed_at (filter_map (long_from f n) (range_with_len 0 n)) (walks 3 n n f) k (listed_walks n)))
    where
      P : Option FoundLoop → Type 0
      P o = MatchOption o (loop_numbered (walks 3 n n f) k ≡ [])
          (λ r. (r.length ≡ length (walk_by f n r.start r.start)) × (walk_by f n r.start r.start ≡ loop_numbered (walks 3 n n f) k))

      by : (o : Option FoundLoop) → P (option_map (λ (x : FoundLoop). x) o) → Found f n k o
      by None a = a
      by (Some r) a = record { long = a.0; walk = a.1 }

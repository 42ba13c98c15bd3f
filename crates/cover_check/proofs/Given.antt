-- What `sitjorbe_covers` answers gives what a host gets: where nothing is refused, the quads cover the sampled outline.
use Rattle.std.specs.Prelude.{◌≡◌, refl, Bool, true, false, not, ◌&&◌, ◌||◌, cond, List, [], ◌∷◌, ℕ, zero, suc, ◌+◌, ◌*◌, ◌/◌, ◌<◌, ◌≤◌, min, eqb, ltb, length, take, get_or, T, Float}
use Rattle.std.proofs.Common.{sym, ap, ap₂, ◌∙◌, subst, arith, true≢false, ltb-true, ltb-false, le-ltb, eqb-true}
use Rattle.std.proofs.lemmas.Bool.{not-false, eqb-false}
use Rattle.std.specs.Float.{nan, binary64}
use Rattle.std.specs.Float.Ieee.{fits, of_bits, to_bits}
use Rattle.std.specs.Float.Ieee.Bits.{of_bits-to_bits}
use Rattle.laws.specs.Tests.{both, neither}
use Rattle.numbers.specs.Float.{zero_f}
use Rattle.outline.specs.Outline.{Outline, first_of, outline_refusal}
use Rattle.outline.specs.Accepted.{AllFit, OutlineFits, first_zero}
use Rattle.outline.specs.Queries.{answer_by}
use Rattle.geometry.specs.Plane.{convex_ccw}
use Rattle.topology.specs.Sums.{All}
use Rattle.topology.specs.Links.{off}
use Rattle.field_cross.specs.Field.{drawn_refusal}
use Rattle.outline_sound.specs.Sound.{outline_sound}
use Rattle.front.specs.State.{State, most_nodes, node_in, quad_at, node_places, edge_places}
use Rattle.front.specs.Sampling.{sampled_count, sampled_refusal, front_refusal}
use Rattle.hand_mesh_check.specs.Check.{coordinate_unsound, node_unsound}
use Rattle.books.specs.Book.{Book, Edge, edge, Quad, quad_edges, start_book, follow, filled, room_for}
use Rattle.books.specs.Net.{count_edge}
use Rattle.books.specs.Holds.{QuadHolds}
use Rattle.front_sampled.proofs.StartsBase.{filled_length}
use Rattle.books_bounded.proofs.Point.{Bounded}
use Rattle.books_bounded.proofs.Corners.{CornersBounded, corners_in, quad_holds}
use Rattle.books_hold.specs.Runs.{AcceptedRun}
use Rattle.bowl.proofs.GivenLaws.{coordinate_within}
use Rattle.cover_sides.specs.Sides.{sides_of}
use Rattle.cover_check.specs.declared.CoversAnswer.{CoversAnswer}
use Rattle.cover_check.specs.declared.Room.{Room}
use Rattle.cover_check.specs.Lowest.{lowest}
use Rattle.cover_check.proofs.Lowest.{lowest_none}
use Rattle.cover_check.specs.Check.{book_of, unfit, fit_refusal, room_refusal, is_folded, side_wrong, quad_wrong, is_wrong, is_unlaid, same_bits, is_same, is_moved}
use Rattle.cover_check.specs.Check.{covers_answered, or_at, mesh_answer, lent_refusal, covers_answer}
use Rattle.cover_check.specs.Covered.{Covered, CoversGiven}
use Rattle.cover_check.proofs.Fits.{Named, named}
use Rattle.cover_check.proofs.Covering.{FrontFollows, nets, covered}
use Rattle.cover_check.proofs.Sampled.{front_follows, start_xs_fit, start_ys_fit, start_even}

-- ---- the nodes

same_float : (x y : Float) → T (fits binary64 x) → T (fits binary64 y) → same_bits x y ≡ true → x ≡ y
same_float x y f g e =
    sym (of_bits-to_bits binary64 x f) ∙ (ap (of_bits binary64) (eqb-true (to_bits binary64 x) (to_bits binary64 y) e) ∙ of_bits-to_bits binary64 y g)

-- a list that begins with another, place by place
take_same : (l m : List Float) → length m ≤ length l → ((i : ℕ) → i < length m → get_or l i nan ≡ get_or m i nan) → take (length m) l ≡ m
take_same l [] h same = refl
take_same [] (y ∷ m) h same = absurd (omega arith)
take_same (x ∷ l) (y ∷ m) h same =
    ap₂ (λ (a : Float) (k : List Float). a ∷ k) (same 0 (omega arith)) (take_same l m (omega arith) (λ i less. same (suc i) (omega arith)))

module _ (start : Book) (s : State) (unmoved : (i : ℕ) → i < length start.xs → is_moved start s i ≡ false) where
  node_same : (i : ℕ) → i < length start.xs
      → (i < s.counts.nodes) × (same_bits (get_or s.xs i nan) (get_or start.xs i nan) ≡ true) × (same_bits (get_or s.ys i nan) (get_or start.ys i nan) ≡ true)
  unfolding is_same
  node_same i h =
      let one = both (ltb i s.counts.nodes) (is_same start s i) (not-false _ (unmoved i h)) in
      let two = both (same_bits (get_or s.xs i nan) (get_or start.xs i nan)) _ one.1 in
      (ltb-true i s.counts.nodes one.0, two.0, two.1)

  -- the mesh has as many nodes
  many : length start.xs ≤ s.counts.nodes
  many = by (length start.xs) refl
    where
      by : (n : ℕ) → length start.xs ≡ n → n ≤ s.counts.nodes
      by zero e = omega arith
      by (suc n) e = let last = (node_same n (omega arith)).0 in omega arith

  pub xs_same : s.counts.nodes ≤ length s.xs → AllFit s.xs → AllFit start.xs → take (length start.xs) s.xs ≡ start.xs
  xs_same few f g = take_same s.xs start.xs (omega (arith, many)) (λ i h. same_float _ _ (f i (omega (arith, many))) (g i h) (node_same i h).1)

  pub ys_same : s.counts.nodes ≤ length s.ys → length start.ys ≡ length start.xs → AllFit s.ys → AllFit start.ys → take (length start.ys) s.ys ≡ start.ys
  ys_same few even f g =
      take_same s.ys start.ys (omega (arith, many)) (λ i h. same_float _ _ (f i (omega (arith, many))) (g i h) (node_same i (omega arith)).2)

-- ---- the quads

module _ (s : State) (keys : ℕ) (N : Named s keys) (fx : AllFit s.xs) (fy : AllFit s.ys) where
  node_bounded : (id : ℕ) → id < s.counts.nodes → Bounded (node_in s.xs s.ys id)
  unfolding node_in
  node_bounded id h =
      let near = neither (coordinate_unsound (get_or s.xs id nan)) (coordinate_unsound (get_or s.ys id nan)) (N.nodes id h) in
      let x = fx id (omega (arith, N.fits.in_xs)) in
      let y = fy id (omega (arith, N.fits.in_ys)) in
      record { fits = record { x = x; y = y }; within = record { x = coordinate_within _ x near.0; y = coordinate_within _ y near.1 } }

  corners_bounded : (k : ℕ) → k < s.counts.quads → CornersBounded (corners_in (book_of s) (quad_at s k))
  unfolding quad_at
  corners_bounded k h =
      record {
        a = node_bounded _ (N.ids (4 * k) (omega arith));
        b = node_bounded _ (N.ids (4 * k + 1) (omega arith));
        d = node_bounded _ (N.ids (4 * k + 2) (omega arith));
        c = node_bounded _ (N.ids (4 * k + 3) (omega arith));
      }

  pub quads_hold : ((i : ℕ) → i < s.counts.quads → is_folded s i ≡ false) → (i : ℕ) → i < s.counts.quads → QuadHolds (book_of s) (quad_at s i)
  quads_hold unfolded i h = quad_holds (book_of s) (quad_at s i) (corners_bounded i h) (not-false _ (unfolded i h))

  pub ids_below : s.counts.nodes ≤ off → (i : ℕ) → i < s.counts.quads → All (λ (e : Edge). e.to < off) (quad_edges (quad_at s i))
  unfolding quad_edges quad_at
  ids_below few i h =
      let a = N.ids (4 * i) (omega arith) in
      let b = N.ids (4 * i + 1) (omega arith) in
      let d = N.ids (4 * i + 2) (omega arith) in
      let c = N.ids (4 * i + 3) (omega arith) in
      (omega arith, (omega arith, (omega arith, (omega arith, tt))))

-- ---- the sides

sides_right : (start : Book) (s : State) (k : ℕ) → is_wrong start s k ≡ false
    → All (λ (e : Edge). side_wrong start (sides_of s) e ≡ false) (quad_edges (quad_at s k))
unfolding quad_wrong quad_edges
sides_right start s k e =
    let q = quad_at s k in
    let wrong = side_wrong start (sides_of s) in
    let a = neither (wrong (edge q.a q.b)) _ e in
    let b = neither (wrong (edge q.b q.d)) _ a.1 in
    let c = neither (wrong (edge q.d q.c)) (wrong (edge q.c q.a)) b.1 in
    (a.0, (b.0, (c.0, (c.1, tt))))

some_there : (n : ℕ) → eqb n 0 ≡ false → 0 < n
some_there zero e = absurd (true≢false e)
some_there (suc n) e = omega arith

-- ---- the answer, step by step

passed_at : (number n : ℕ) (test : ℕ → Bool) (rest : CoversAnswer) → (number ≡ 0 → ⊥) → (or_at number n test rest).refusal ≡ 0
    → ((i : ℕ) → i < n → test i ≡ false) × (rest.refusal ≡ 0)
passed_at number n test rest some = by (ltb (lowest n test) n) refl
  where
    by : (b : Bool) → ltb (lowest n test) n ≡ b → (cond b (covers_answered number (lowest n test) false) rest).refusal ≡ 0
        → ((i : ℕ) → i < n → test i ≡ false) × (rest.refusal ≡ 0)
    by true p e = absurd (some e)
    by false p e = (lowest_none test n (ltb-false (lowest n test) n p), e)

given_zero : (r : ℕ) (answer : CoversAnswer) → (answer_by (λ number. covers_answered number 0 false) answer r).refusal ≡ 0 → (r ≡ 0) × (answer.refusal ≡ 0)
given_zero zero answer e = (refl, e)
given_zero (suc n) answer e = absurd (let f : ◌≡◌ {A = ℕ} (suc n) 0 = e in omega arith)

-- the sampled outline has room in lists made for it
room_front : (o : Outline) (size : Float) (room : Room) → room_refusal o size room ≡ 0 → front_refusal o size (room_for (sampled_count o size)) ≡ 0
unfolding front_refusal room_for node_places edge_places
room_front o size room e =
    let n = sampled_count o size in
    let few : n ≤ min room.nodes most_nodes = by (ltb (min room.nodes most_nodes) n) refl e in
    let floats = filled_length n zero_f in
    let links = filled_length {A = ℕ} n off in
    let edges = filled_length {A = ℕ} (2 * n) 0 in
    rw (floats, links, edges, le-ltb (min (min (min (min n n) (min n n)) n) most_nodes) n (omega arith), le-ltb (2 * n / 2) n (omega arith)) refl
  where
    by : (b : Bool) → ltb (min room.nodes most_nodes) (sampled_count o size) ≡ b → ◌≡◌ {A = ℕ} (cond (b || ltb room.edges (sampled_count o size)) 10 0) 0
        → sampled_count o size ≤ min room.nodes most_nodes
    by true p e = absurd (omega arith)
    by false p e = ltb-false (min room.nodes most_nodes) (sampled_count o size) p

-- ---- the theorem

module _ (o : Outline) (size : Float) (s : State) (room : Room) (doubles : OutlineFits o) (fx : AllFit s.xs) (fy : AllFit s.ys) (few : s.counts.nodes ≤ off) where
  covered_where : (covers_answer o size s room).refusal ≡ 0 → Covered (start_book o size) (book_of s) s s.counts.quads
  unfolding covers_answer drawn_refusal
  covered_where e =
      let start = start_book o size in
      let lent = given_zero (lent_refusal o size s room) (mesh_answer o start s) e in
      let before = first_zero (first_of (drawn_refusal o size) (room_refusal o size room)) (fit_refusal s room.keys) lent.0 in
      let drawn = first_zero (drawn_refusal o size) (room_refusal o size room) before.0 in
      let A : AcceptedRun o size (room_for (sampled_count o size)) =
      record { doubles = doubles; outline = (first_zero (outline_refusal o) _ drawn.0).0; front = room_front o size room drawn.1 } in
      let N = named s room.keys (fit_is (unfit s room.keys) before.1) in
      let folded = passed_at 27 s.counts.quads (is_folded s) _ (λ z. omega arith) lent.1 in
      let wrong = passed_at 28 s.counts.quads (is_wrong start s) _ (λ z. omega arith) folded.1 in
      let unlaid = passed_at 29 (length start.xs) (is_unlaid start s) _ (λ z. omega arith) wrong.1 in
      let moved = passed_at 30 (length start.xs) (is_moved start s) (covers_answered 0 0 (outline_sound o)) (λ z. omega arith) unlaid.1 in
      let F = front_follows o size (room_for (sampled_count o size)) A in
      let figures = nets start F s s.counts.quads (ids_below s room.keys N fx fy few) (λ i h. sides_right start s i (wrong.0 i h))
      (λ u h. some_there _ (unlaid.0 u h)) in
      covered start F (book_of s) s s.counts.quads
      (xs_same start s moved.0 N.fits.in_xs fx (start_xs_fit o size (room_for (sampled_count o size)) A))
      (ys_same start s moved.0 N.fits.in_ys (start_even o size (room_for (sampled_count o size)) A) fy (start_ys_fit o size (room_for (sampled_count o size)) A))
      (quads_hold s room.keys N fx fy folded.0) figures
    where
      fit_is : (b : Bool) → ◌≡◌ {A = ℕ} (cond b 23 0) 0 → b ≡ false
      fit_is true e = absurd (omega arith)
      fit_is false e = refl

  -- WHAT A HOST GETS
  pub covers_given : (r : CoversAnswer) → r ≡ covers_answer o size s room → CoversGiven o size s room r
  covers_given r e = record { equal = e; covered = λ z. covered_where (ap (λ (a : CoversAnswer). a.refusal) (sym e) ∙ z) }

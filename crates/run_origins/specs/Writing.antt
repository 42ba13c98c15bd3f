-- How the numbers are written into a list lent: what is asked, and the laws of the two loops. A state whose books hold has what is asked, and its numbers
-- are then as they are to be answered: `booked_numberable` and `booked_answered`. So every paving has it: `advance_numberable`.
use Rattle.std.specs.Prelude.{ℕ, zero, suc, ◌+◌, ◌*◌, ◌<◌, ◌≤◌, min, ◌≡◌, Bool, true, false, cond, eqb, leb, set, Float}
use mathlib.Core.List.{List, [], ◌∷◌, ◌++◌}
use Rattle.std.proofs.Math.Path.{refl, sym, ap}
use Rattle.std.proofs.Common.{◌∙◌, add-one, length-append, eq-eqb, ne_eqb, leb-true, leb-false}
use native.Mathlib.Omega.{arith}
use Rattle.std.proofs.Math.ListN.{length, drop, replicate, length-take, length-replicate, get_or-append}
use Rattle.std.proofs.lemmas.List.{replicate-append-replicate}
use Rattle.std.proofs.Math.Seq.{sets}
use Rattle.laws.specs.Loop.{for_up, sum_up}
use Rattle.laws.specs.Overlay.{overlay, overlay_more}
use Rattle.outline.specs.Outline.{Outline, loop_at, hole_at, hole_start, hole_length, loop_start, outline_refusal}
use Rattle.outline.proofs.OutlineBase.{start_next, shaped}
use Rattle.front.specs.Sampling.{loop_count, loop_parts, loop_nodes, sampled_count}
use Rattle.front_lent_mesh.specs.declared.QuadIds.{QuadIds}
use Rattle.front_lent_mesh.specs.Mesh.{quad_in}
use Rattle.front_loop_list.specs.Walked.{sets_more}
use Rattle.front_sampled.proofs.Outlines.{outline_three}
use Rattle.front_boundary.specs.Counting.{most, even_up}
use Rattle.front_boundary.proofs.Progress.{outline_shaped, Progress, nodes_of_lem, progress_none, progress_fits, progress_next}
use Rattle.run_origins.specs.Origins.{origin_of, sampled_origins, push_origin, quad_origins, origins_after}
use Rattle.run_origins.specs.Start.{first_origins, first_length, sampled_length}

-- ---- definitions

-- how many numbers there are, where there were n and node id may be the next
abbrev pub push_count : ℕ → ℕ → ℕ
push_count id n = cond (eqb id n) (n + 1) n

-- the list lent, where n numbers are written: if id is the next node, it takes that of node a
abbrev pub push_at : ℕ → ℕ → ℕ → List ℕ → List ℕ
push_at a id n l = cond (eqb id n) (set l n (origin_of l a)) l

-- what is asked of the outline, the size, the first `count` quads of the list answered, and the places lent
pub record Numberable (o : Outline) (size : Float) (quads : List ℕ) (count places : ℕ) : Type 0 where
  pub outline : outline_refusal o ≡ 0
  pub few : sampled_count o size < 4294967296
  pub small : count ≤ 4294967296
  pub room : length (origins_after o size quads count) ≤ places
  -- each quad's first node is an earlier one
  pub old : (i : ℕ) → i < count → (quad_in quads i).a < length (origins_after o size quads i)

-- and for the numbers of the samples alone
pub record Sampleable (o : Outline) (size : Float) (places : ℕ) : Type 0 where
  pub outline : outline_refusal o ≡ 0
  pub few : sampled_count o size < 4294967296
  pub room : sampled_count o size ≤ places

-- ---- a run of one number

pub repeat_next : (before : List ℕ) {after : List ℕ} (from number i : ℕ) → after ≡ sets before from (replicate i number)
    → set after (from + i) number ≡ sets before from (replicate (i + 1) number)
repeat_next before from number i e =
    ap (λ (l : List ℕ). set l (from + i) number) e
    ∙ sets_more (replicate i number) number before from (from + i) (omega (arith, length-replicate i number))
    ∙ ap (sets before from) (replicate-append-replicate i 1 number)

pub repeat_end : (before : List ℕ) {after : List ℕ} (from number i count : ℕ) → after ≡ sets before from (replicate i number) → i ≤ count → count ≤ i
    → after ≡ sets before from (replicate count number)
repeat_end before from number i count e h q =
    let all : i ≡ count = omega arith in e ∙ ap (λ (k : ℕ). sets before from (replicate k number)) all

-- ---- the samples

-- a number fits 16 bits
module _ (o : Outline) (fine : outline_refusal o ≡ 0) where
  hole_least : (k : ℕ) → k < length o.lens → 1 ≤ hole_length o.lens k
  unfolding loop_at hole_at
  hole_least k h =
      omega (
        arith,
        outline_three o fine (suc k) (omega arith),
        length-take (2 * hole_length o.lens k) (drop (2 * hole_start o.lens k) o.holes),
      )

  starts_least : (k : ℕ) → k ≤ length o.lens → k ≤ hole_start o.lens k
  starts_least zero h = omega arith
  starts_least (suc k) h =
      omega (arith, starts_least k (omega arith), hole_least k h, start_next o.lens k, ap (hole_start o.lens) (add-one k))

  pub loops_few : length o.lens < 65536
  loops_few = let S = shaped o (outline_shaped o fine) in omega (arith, starts_least (length o.lens) (omega arith), S.sum, S.few)

-- k loops are numbered, with `nodes` nodes
pub record LoopsNumbered (o : Outline) (size : Float) (k start nodes : ℕ) (before after : List ℕ) : Type 0 where
  pub progress : Progress o size k start nodes
  pub long : length after ≡ length before
  pub same : after ≡ overlay (first_origins o size k) before

module _ (o : Outline) (size : Float) (before : List ℕ) where
  pub numbered_none : LoopsNumbered o size 0 0 0 before before
  unfolding overlay for_up
  numbered_none = record { progress = progress_none o size; long = refl; same = refl }

  module _ {k start nodes : ℕ} {after : List ℕ} {s : List Float} (W : LoopsNumbered o size k start nodes before after) (h : k ≤ length o.lens)
      (e : s ≡ loop_at o k) where
    -- the count of parts isn't stopped
    pub parts_exact : {parts : ℕ} → sampled_count o size < 4294967296 → parts ≡ min (loop_parts size s) most → parts ≡ loop_parts size s
    parts_exact few p = omega (arith, progress_fits o size W.progress h e)

    pub numbered_few : sampled_count o size < 4294967296 → nodes + even_up (loop_parts size s) < 4294967296
    numbered_few few = omega (arith, progress_fits o size W.progress h e)

    pub numbered_fits : sampled_count o size ≤ length before → nodes + even_up (loop_parts size s) ≤ length after
    numbered_fits room = omega (arith, progress_fits o size W.progress h e, W.long)

    pub numbered_next : {start' count : ℕ} {after' : List ℕ} → sampled_count o size ≤ length before → start' ≡ loop_start o.lens (k + 1)
        → count ≡ even_up (loop_parts size s) → after' ≡ sets after nodes (replicate count k) → length after' ≡ length after
        → LoopsNumbered o size (k + 1) start' (nodes + count) before after'
    unfolding for_up
    numbered_next {count = count} room a p q long =
        let first = first_origins o size k in
        let fits : nodes + length (replicate count k) ≤ length before
        = omega (arith, length-replicate count k, p, progress_fits o size W.progress h e) in
        record {
          progress = progress_next o size W.progress h e a (ap (λ (n : ℕ). nodes + n) p);
          long = long ∙ W.long;
          same =
              q ∙ ap (λ (l : List ℕ). sets l nodes (replicate count k)) W.same
              ∙ overlay_more first (replicate count k) before nodes (first_length o size k ∙ sym W.progress.count) fits
              ∙ ap (λ (n : ℕ). overlay (first ++ replicate n k) before) (p ∙ nodes_of_lem o size W.progress h e)
              ∙ ap (λ (n : ℕ). overlay (first_origins o size n) before) (sym (add-one k));
        }

  pub numbered_all : {k start nodes : ℕ} {after : List ℕ} → LoopsNumbered o size k start nodes before after → length o.lens < k
      → (nodes ≡ sampled_count o size) × (after ≡ overlay (sampled_origins o size) before)
  unfolding sampled_count sampled_origins
  numbered_all {k} W h =
      let all : k ≡ loop_count o = omega (arith, W.progress.within) in (
        W.progress.count ∙ ap (λ (n : ℕ). sum_up n (loop_nodes o size)) all,
        W.same ∙ ap (λ (n : ℕ). overlay (first_origins o size n) before) all,
      )

-- ---- a new node

pub push_length : (a id : ℕ) (l : List ℕ) → length (push_origin a id l) ≡ push_count id (length l)
unfolding push_origin
push_length a id l = by (eqb id (length l))
  where
    by : (t : Bool) → length (cond t (l ++ origin_of l a ∷ []) l) ≡ cond t (length l + 1) (length l)
    by true = length-append l (origin_of l a ∷ [])
    by false = refl

-- the next node of a list that is being written
pub push_over : (a id n : ℕ) (l s : List ℕ) → length l ≡ n → a < n → push_count id n ≤ length s
    → push_at a id n (overlay l s) ≡ overlay (push_origin a id l) s
unfolding push_origin overlay
push_over a id n l s e old room =
    by (eqb id n) room ∙ ap (λ (m : ℕ). overlay (cond (eqb id m) (l ++ origin_of l a ∷ []) l) s) (sym e)
  where
    by : (t : Bool) → cond t (n + 1) n ≤ length s
        → cond t (set (overlay l s) n (origin_of (overlay l s) a)) (overlay l s) ≡ overlay (cond t (l ++ origin_of l a ∷ []) l) s
    by true room =
        ap (λ (x : ℕ). set (overlay l s) n x) (get_or-append l (drop (length l) s) 0 a (omega arith))
        ∙ overlay_more l (origin_of l a ∷ []) s n e (omega arith)
    by false room = refl

pub push_same : (id n : ℕ) → id ≡ n → push_count id n ≡ n + 1
push_same id n e = rw (eq-eqb id n e)

pub push_other : (id n : ℕ) → (id ≡ n → ⊥) → push_count id n ≡ n
push_other id n e = rw (ne_eqb id n e)

pub push_at_same : (a id n : ℕ) (l : List ℕ) → id ≡ n → set l n (origin_of l a) ≡ push_at a id n l
push_at_same a id n l e = rw (eq-eqb id n e)

pub push_at_other : (a id n : ℕ) (l : List ℕ) → (id ≡ n → ⊥) → l ≡ push_at a id n l
push_at_other a id n l e = rw (ne_eqb id n e)

push_more : (id n : ℕ) → n ≤ push_count id n
push_more id n = by (eqb id n)
  where
    by : (t : Bool) → n ≤ cond t (n + 1) n
    by true = omega arith
    by false = omega arith

-- ---- the quads

-- the numbers of i quads are written, in a list that began with those of the samples
pub record Numbering (o : Outline) (size : Float) (quads : List ℕ) (count i nodes : ℕ) (before after : List ℕ) : Type 0 where
  pub within : i ≤ count
  pub here : nodes ≡ length (origins_after o size quads i)
  pub long : length after ≡ length before
  pub same : (s : List ℕ) → length s ≡ length before → before ≡ overlay (sampled_origins o size) s → after ≡ overlay (origins_after o size quads i) s

module _ (o : Outline) (size : Float) (quads : List ℕ) where
  quad_length : (i : ℕ) → length (origins_after o size quads (suc i))
      ≡ push_count (quad_in quads i).d (push_count (quad_in quads i).c (length (origins_after o size quads i)))
  unfolding origins_after for_up
  quad_length i =
      let q = quad_in quads i in
      let l = origins_after o size quads i in
      push_length q.a q.d (push_origin q.a q.c l) ∙ ap (push_count q.d) (push_length q.a q.c l)

  numbers_grow : (i k : ℕ) → i ≤ k → length (origins_after o size quads i) ≤ length (origins_after o size quads k)
  numbers_grow i zero h =
      let none : i ≡ 0 = omega arith in omega (arith, ap (λ (j : ℕ). length (origins_after o size quads j)) none)
  numbers_grow i (suc k) h = by (numbers_grow i k) (leb i k) refl
    where
      by : (i ≤ k → length (origins_after o size quads i) ≤ length (origins_after o size quads k)) → (t : Bool) → leb i k ≡ t
          → length (origins_after o size quads i) ≤ length (origins_after o size quads (suc k))
      by earlier true e =
          let q = quad_in quads k in
          let n = length (origins_after o size quads k) in
          omega (arith, earlier (leb-true i k e), quad_length k, push_more q.c n, push_more q.d (push_count q.c n))
      by earlier false e =
          let last : i ≡ suc k = omega (arith, leb-false i k e) in
          omega (arith, ap (λ (j : ℕ). length (origins_after o size quads j)) last)

  pub numbering_none : (count nodes : ℕ) (before : List ℕ) → nodes ≡ sampled_count o size → Numbering o size quads count 0 nodes before before
  unfolding origins_after for_up
  numbering_none count nodes before e =
      record { within = omega arith; here = e ∙ sym (sampled_length o size); long = refl; same = λ s p q. q }

  -- q is quad i
  module _ {count i nodes places : ℕ} {before after : List ℕ} {q : QuadIds} (N : Numbering o size quads count i nodes before after) (h : i < count)
      (A : Numberable o size quads count places) (e : length before ≡ places) (is : q ≡ quad_in quads i) where
    numbering_room : push_count q.d (push_count q.c nodes) ≤ length before
    numbering_room =
        omega (
          arith,
          quad_length i,
          ap (λ (r : QuadIds). push_count r.d (push_count r.c nodes)) is,
          ap (λ (n : ℕ). push_count (quad_in quads i).d (push_count (quad_in quads i).c n)) N.here,
          numbers_grow (suc i) count h,
          A.room,
        )

    -- where c is pushed, and where d is
    pub numbering_first : (q.a < nodes) × (push_count q.c nodes ≤ length after)
    numbering_first = (
      omega (arith, A.old i h, N.here, ap (λ (r : QuadIds). r.a) is),
      omega (arith, numbering_room, N.long, push_more q.d (push_count q.c nodes)),
    )

    pub numbering_second : {m : ℕ} (middle : List ℕ) → m ≡ push_count q.c nodes → length middle ≡ length after
        → (q.a < m) × (push_count q.d m ≤ length middle)
    numbering_second middle p long =
        (omega (arith, numbering_first.0, push_more q.c nodes), omega (arith, numbering_room, N.long, ap (push_count q.d) p))

    pub numbering_next : {m last : ℕ} {middle later : List ℕ} → m ≡ push_count q.c nodes → last ≡ push_count q.d m
        → middle ≡ push_at q.a q.c nodes after → later ≡ push_at q.a q.d m middle
        → length middle ≡ length after → length later ≡ length middle → Numbering o size quads count (i + 1) last before later
    unfolding origins_after for_up
    numbering_next {m} {last} {middle} {later} p r P R long longer =
        let l = origins_after o size quads i in
        let with_c = push_origin q.a q.c l in
        let first = push_length q.a q.c l ∙ ap (push_count q.c) (sym N.here) ∙ sym p in
        rw (add-one i) (record {
          within = omega arith;
          here = r ∙ ap (push_count q.d) (sym first) ∙ sym (push_length q.a q.d with_c)
              ∙ ap (λ (ids : QuadIds). length (quad_origins ids l)) is;
          long = longer ∙ long ∙ N.long;
          same = λ s same begun.
              let C = P ∙ ap (push_at q.a q.c nodes) (N.same s same begun)
              ∙ push_over q.a q.c nodes l s (sym N.here) numbering_first.0
              (omega (arith, numbering_room, push_more q.d (push_count q.c nodes))) in
              R ∙ ap (push_at q.a q.d m) C
              ∙ push_over q.a q.d m with_c s first (numbering_second middle p long).0
              (omega (arith, numbering_room, ap (push_count q.d) p))
              ∙ ap (λ (ids : QuadIds). overlay (quad_origins ids l) s) is;
        })

  pub numbering_all : {count i nodes : ℕ} {before after : List ℕ} → Numbering o size quads count i nodes before after → count ≤ i
      → (s : List ℕ) → length s ≡ length before → before ≡ overlay (sampled_origins o size) s → after ≡ overlay (origins_after o size quads count) s
  numbering_all {count} {i} N h s long e =
      let all : i ≡ count = omega (arith, N.within) in
      N.same s long e ∙ ap (λ (k : ℕ). overlay (origins_after o size quads k) s) all

  pub numberable_samples : {count places : ℕ} → Numberable o size quads count places → Sampleable o size places
  unfolding origins_after for_up
  numberable_samples {count} A =
      record {
        outline = A.outline;
        few = A.few;
        room = omega (arith, A.room, numbers_grow 0 count (omega arith), sampled_length o size);
      }

-- The turns of `list_all`: from each node in rising order a walk, which is marked, and listed where it has three ids or more.
use Rattle.std.specs.Prelude.{Bool, true, false, ◌≢◌, ◌≡◌, eqb, ltb, leb, set}
use Rattle.std.proofs.Math.Bool.{cond}
use mathlib.Core.List.{List, [], ◌∷◌, ◌++◌, map, flatten, append_assoc, append-nil}
use Rattle.std.proofs.Math.Path.{refl, sym, ap}
use Rattle.std.proofs.Common.{◌∙◌, subst, length-append, length-set, get_or-set_same, get_or-set_other, eqb-true, ltb-true, ltb-false, lt-ltb, le-ltb, le-leb}
use Prim.Native.Nat.{ℕ, zero, suc, ◌+◌, ◌-◌, ◌<◌, ◌≤◌}
use native.Mathlib.Omega.{arith}
use Rattle.std.proofs.Math.ListN.{length, get_or, length-map}
use Rattle.std.proofs.lemmas.List.Edits.{sets}
use Rattle.std.proofs.Math.Seq.{length-sets}
use Rattle.std.proofs.lemmas.Bool.{eqb-false}
use Rattle.laws.specs.Loop.{for_up, for_up_keeps, Loop, loop_start_lem, loop_next, loop_end}
use Rattle.laws.specs.Overlay.{overlay, overlay_length, overlay_more}
use Rattle.topology.specs.Sums.{total}
use Rattle.topology.specs.Links.{off, delta, delta_same, delta_other}
use Rattle.topology.specs.Front.{Loops}
use Rattle.topology.proofs.Front.{no_self}
use Rattle.topology.specs.Walk.{walk_by, count, walk_off}
use Rattle.topology.proofs.Walk.{once}
use Rattle.topology.specs.Listing.{long_loops, walks, add_loop, total_one}
use Rattle.topology.proofs.Pigeonhole.{ids_most}
use Rattle.front_loop_list.specs.declared.Listed.{Listed}
use Rattle.front_loop_list.specs.Listed.{Lists, lists, listed_of, written}
use Rattle.front_loop_list.specs.Walked.{links_in, walk_in, mark_all, mark_length, walk_on, walk_last, walk_more, walk_length_lem, entry_read, link_node}
use Rattle.front_loop_list.specs.Walked.{Walkable, Walked}
use Rattle.front_loop_list.specs.Found.{found_ids, found_number, found_more, found_reached, walk_nodes, on_loop, found_long, walk_starts, counts_some}

-- ---- definitions

-- the loop l found: marked, and listed where it has three ids or more
unfoldable pub loop_visited : List ℕ → Lists → Lists
loop_visited l s =
    let marks = mark_all l s.marks in
    let at = s.listed.ids in
    let k = s.listed.count in
    cond (leb 3 (length l))
    (lists marks (sets s.loops at l) (set s.lengths k (length l)) (listed_of (k + 1) (at + length l)))
    (lists marks s.loops s.lengths s.listed)

-- the turn of node u, from which the walk finds `walk u`
abbrev pub visit : (ℕ → List ℕ) → ℕ → Lists → Lists
visit walk u s = loop_visited (walk u) s

-- all nodes visited, from lists with nothing listed
unfoldable pub visit_all : List ℕ → List ℕ → List ℕ → List ℕ → Lists
visit_all next marks loops lengths = for_up (length next) (visit (walk_in next)) (lists marks loops lengths (listed_of 0 0))

-- what `list_from` asks of the lists so far: node u is marked where its loop was found before, and there is room for its loop
pub record Visitable (next : List ℕ) (s : Lists) (u : ℕ) : Type 0 where
  pub node : u < length next
  pub few : length next ≤ off
  pub marks_fit : length next ≤ length s.marks
  pub marked : get_or s.marks u 0 ≡ 1 → walk_in next u ≡ []
  pub fresh : get_or s.marks u 0 ≢ 1 → links_in next u ≢ off → 0 < length (walk_in next u)
  pub apart : links_in next u ≢ u
  pub ids_fit : 3 ≤ length (walk_in next u) → s.listed.ids + length (walk_in next u) ≤ length s.loops
  pub length_fits : 3 ≤ length (walk_in next u) → s.listed.count < length s.lengths

-- what `list_all` asks: links of loops, no node marked, in `lengths` a place for each loop and in each other list one for each node
pub record Startable (next marks loops lengths : List ℕ) : Type 0 where
  pub front : List (List ℕ)
  pub links : Loops (length next) (links_in next) front
  pub marks_fit : length next ≤ length marks
  pub loops_fit : length next ≤ length loops
  pub lengths_fit : length front ≤ length lengths
  pub clear : (v : ℕ) → v < length next → get_or marks v 0 ≡ 0

-- ---- the turns of `list_from`

module _ {next : List ℕ} {marks loops lengths : List ℕ} {listed : Listed} {u : ℕ}
    (v : Visitable next (lists marks loops lengths listed) u) where
  none : walk_in next u ≡ [] → lists marks loops lengths listed ≡ loop_visited (walk_in next u) (lists marks loops lengths listed)
  unfolding loop_visited mark_all
  none e = rw e

  -- the length of a loop fits a node's place
  pub visit_small : {marks₁ loops₁ : List ℕ} {end : ℕ} → Walked next marks loops u listed.ids marks₁ loops₁ end → end - listed.ids ≤ off
  visit_small d = omega (arith, d.after, walk_length_lem (links_in next) (length next) u u, v.few)

  -- off the front
  pub visit_off : get_or next u 0 ≡ off → lists marks loops lengths listed ≡ loop_visited (walk_in next u) (lists marks loops lengths listed)
  visit_off e = none (walk_off (links_in next) (length next) u u (sym (entry_read next u v.node) ∙ e))

  -- on a loop found before
  pub visit_marked : get_or marks u 0 ≡ 1 → lists marks loops lengths listed ≡ loop_visited (walk_in next u) (lists marks loops lengths listed)
  visit_marked e = none (v.marked e)

  -- the smallest id of its loop
  module _ (on : get_or next u 0 ≢ off) (unmarked : get_or marks u 0 ≢ 1) where
    visit_some : 0 < length (walk_in next u)
    visit_some = v.fresh unmarked (λ e. on (entry_read next u v.node ∙ e))

    second : (w : ℕ) × ((walk_in next u ≡ u ∷ walk_by (links_in next) w u (get_or next u 0)) × (0 < length (walk_by (links_in next) w u (get_or next u 0))))
    second =
        let s = walk_more (links_in next) (length next) u u visit_some v.apart in
        let e = sym (entry_read next u v.node) in (
          s.most,
          (
            s.rest ∙ ap (λ (x : ℕ). u ∷ walk_by (links_in next) s.most u x) e,
            subst (λ (x : ℕ). 0 < length (walk_by (links_in next) s.most u x)) e s.some,
          ),
        )

    pub visit_in : get_or next u 0 < length next
    visit_in = let s = second in link_node (length next) next (get_or next u 0) (walk_on (links_in next) s.0 u (get_or next u 0) s.1.1)

    -- a loop of two
    pub visit_two : get_or next (get_or next u 0) 0 ≡ u
        → lists (set (set marks u 1) (get_or next u 0) 1) loops lengths listed ≡ loop_visited (walk_in next u) (lists marks loops lengths listed)
    unfolding loop_visited mark_all
    visit_two e =
        let s = second in
        let w = get_or next u 0 in
        let last = walk_last (links_in next) s.0 u w s.1.1 (sym (entry_read next w visit_in) ∙ e) in
        let two : walk_in next u ≡ u ∷ w ∷ [] = s.1.0 ∙ ap (λ (l : List ℕ). u ∷ l) last in
        rw two

    -- a loop of three or more
    visit_long : get_or next (get_or next u 0) 0 ≢ u → 3 ≤ length (walk_in next u)
    visit_long other =
        let s = second in
        let w = get_or next u 0 in
        let t = walk_more (links_in next) s.0 u w s.1.1 (λ e. other (entry_read next w visit_in ∙ e)) in
        omega (arith, ap length s.1.0, ap length t.rest, t.some)

    pub visit_walk : get_or next (get_or next u 0) 0 ≢ u → Walkable next marks loops u listed.ids
    visit_walk other = record { some = visit_some; marks_fit = v.marks_fit; room = v.ids_fit (visit_long other) }

    pub visit_room : get_or next (get_or next u 0) 0 ≢ u → listed.count < length lengths
    visit_room other = v.length_fits (visit_long other)

    pub visit_listed : (marks₁ loops₁ : List ℕ) (end : ℕ) → get_or next (get_or next u 0) 0 ≢ u
        → Walked next marks loops u listed.ids marks₁ loops₁ end
        → lists marks₁ loops₁ (set lengths listed.count (end - listed.ids)) (listed_of (listed.count + 1) end)
        ≡ loop_visited (walk_in next u) (lists marks loops lengths listed)
    unfolding loop_visited
    visit_listed marks₁ loops₁ end other d =
        let long : end - listed.ids ≡ length (walk_in next u) = omega (arith, d.after) in
        rw (le-leb 3 (length (walk_in next u)) (visit_long other), long, d.marked, d.ids, d.after)

-- ---- what is listed

flatten_more : (ms : List (List ℕ)) (l : List ℕ) → flatten (ms ++ l ∷ []) ≡ flatten ms ++ l
unfolding flatten
flatten_more [] l = append-nil l
flatten_more (m ∷ ms) l = ap (λ (t : List ℕ). m ++ t) (flatten_more ms l) ∙ sym (append_assoc m (flatten ms) l)

pub flatten_length : (ms : List (List ℕ)) → length (flatten ms) ≡ total length ms
unfolding flatten total
flatten_length [] = refl
flatten_length (m ∷ ms) = omega (arith, length-append m (flatten ms), flatten_length ms)

map_more : (ms : List (List ℕ)) (l : List ℕ) → map length (ms ++ l ∷ []) ≡ map length ms ++ length l ∷ []
map_more [] l = refl
map_more (m ∷ ms) l = ap (λ (t : List ℕ). length m ∷ t) (map_more ms l)

visited_written : (l : List ℕ) (ms : List (List ℕ)) (marks loops lengths : List ℕ) → total length (add_loop 3 l ms) ≤ length loops
    → length (add_loop 3 l ms) ≤ length lengths
    → loop_visited l (written marks loops lengths ms) ≡ written (mark_all l marks) loops lengths (add_loop 3 l ms)
unfolding loop_visited written add_loop
visited_written l ms marks loops lengths = by (leb 3 (length l))
  where
    by : (b : Bool) → total length (cond b (ms ++ l ∷ []) ms) ≤ length loops → length (cond b (ms ++ l ∷ []) ms) ≤ length lengths
        → cond b
        (lists (mark_all l marks) (sets (overlay (flatten ms) loops) (length (flatten ms)) l)
        (set (overlay (map length ms) lengths) (length ms) (length l)) (listed_of (length ms + 1) (length (flatten ms) + length l)))
        (lists (mark_all l marks) (overlay (flatten ms) loops) (overlay (map length ms) lengths) (listed_of (length ms) (length (flatten ms))))
        ≡ written (mark_all l marks) loops lengths (cond b (ms ++ l ∷ []) ms)
    by true h k =
        let flat = flatten_more ms l in
        let long : length (flatten (ms ++ l ∷ [])) ≡ length (flatten ms) + length l = ap length flat ∙ length-append (flatten ms) l in
        let more : length (ms ++ l ∷ []) ≡ length ms + 1 = length-append ms (l ∷ []) in
        let ids = overlay_more (flatten ms) l loops (length (flatten ms)) refl (omega (arith, h, long, flatten_length (ms ++ l ∷ []))) in
        let each = overlay_more (map length ms) (length l ∷ []) lengths (length ms) (length-map ms length) (omega (arith, k, more)) in
        rw (long, more, flat, map_more ms l, ids, each)
    by false h k = refl

nothing : (marks loops lengths : List ℕ) → lists marks loops lengths (listed_of 0 0) ≡ written marks loops lengths []
unfolding written overlay flatten
nothing marks loops lengths = refl

-- ---- marks

mark_at : (l s : List ℕ) (v : ℕ) → ((x : ℕ) → 0 < count x l → x < length s)
    → get_or (mark_all l s) v 0 ≡ cond (ltb 0 (count v l)) 1 (get_or s v 0)
unfolding mark_all count
mark_at [] s v h = refl
mark_at (x ∷ l) s v h =
    mark_at l (set s x 1) v (λ y p. omega (arith, length-set s x 1, h y (omega (arith, p)))) ∙ by (eqb x v) refl
  where
    by : (b : Bool) → eqb x v ≡ b
        → cond (ltb 0 (count v l)) 1 (get_or (set s x 1) v 0) ≡ cond (ltb 0 (delta x v + count v l)) 1 (get_or s v 0)
    by true e =
        let same = eqb-true x v e in
        let here = h x (omega (arith, delta_same x x refl)) in
        let set_here : get_or (set s x 1) v 0 ≡ 1 = rw (← same) (get_or-set_same s x 1 0 here) in
        rw (set_here, lt-ltb 0 (delta x v + count v l) (omega (arith, delta_same x v same))) (either (ltb 0 (count v l)))
      where
        either : (b : Bool) → cond {A = ℕ} b 1 1 ≡ 1
        either true = refl
        either false = refl
    by false e =
        let other = eqb-false x v e in
        let none = delta_other x v other in
        let zero_more : delta x v + count v l ≡ count v l = omega (arith, none) in
        rw (zero_more, get_or-set_other s x v 1 0 (λ q. other (sym q)))

-- marks of a and then of b
mark_both : (a b d : ℕ) → cond (ltb 0 b) 1 (cond (ltb 0 a) 1 d) ≡ cond (ltb 0 (a + b)) 1 d
mark_both a b d = by (ltb 0 a) refl (ltb 0 b) refl
  where
    by : (p : Bool) → ltb 0 a ≡ p → (q : Bool) → ltb 0 b ≡ q → cond q 1 (cond p 1 d) ≡ cond (ltb 0 (a + b)) 1 d
    by true e true f = rw (lt-ltb 0 (a + b) (omega (arith, ltb-true 0 a e)))
    by true e false f = rw (lt-ltb 0 (a + b) (omega (arith, ltb-true 0 a e)))
    by false e true f = rw (lt-ltb 0 (a + b) (omega (arith, ltb-true 0 b f)))
    by false e false f = rw (le-ltb 0 (a + b) (omega (arith, ltb-false 0 a e, ltb-false 0 b f)))

-- the marks after the walks from the nodes below u
unfoldable pub marks_after : (ℕ → List ℕ) → ℕ → List ℕ → List ℕ
marks_after walk u marks = for_up u (λ v s. mark_all (walk v) s) marks

-- ---- all turns

module _ (n : ℕ) (f : ℕ → ℕ) (ls : List (List ℕ)) (L : Loops n f ls) (m : ℕ) (few : total length ls ≤ m)
    (marks : List ℕ) (marks_fit : n ≤ length marks) where
  abbrev walk : ℕ → List ℕ
  walk u = walk_by f m u u

  pub after_length : (u : ℕ) → length (marks_after walk u marks) ≡ length marks
  unfolding marks_after for_up
  after_length zero = refl
  after_length (suc u) = mark_length (walk u) (marks_after walk u marks) ∙ after_length u

  -- a node is marked where a walk found it
  pub after_at : (u v : ℕ) → get_or (marks_after walk u marks) v 0 ≡ cond (ltb 0 (total (count v) (walks 1 u m f))) 1 (get_or marks v 0)
  unfolding marks_after for_up long_loops total
  after_at zero v = refl
  after_at (suc u) v =
      mark_at (walk u) (marks_after walk u marks) v (λ x h. omega (arith, walk_nodes n f ls L m few x u h, after_length u))
      ∙ (
      ap (λ (d : ℕ). cond (ltb 0 (count v (walk u))) 1 d) (after_at u v)
      ∙ (
      mark_both (total (count v) (walks 1 u m f)) (count v (walk u)) (get_or marks v 0)
      ∙ ap (λ (k : ℕ). cond (ltb 0 k) 1 (get_or marks v 0)) (sym (found_more n f ls L m few v u))
      )
      )

  -- the lists after the turns of the nodes below u
  pub visits_written : (loops lengths : List ℕ) → m ≤ length loops → length ls ≤ length lengths → (u : ℕ)
      → for_up u (visit walk) (lists marks loops lengths (listed_of 0 0)) ≡ written (marks_after walk u marks) loops lengths (walks 3 u m f)
  unfolding for_up marks_after long_loops
  visits_written loops lengths loops_fit lengths_fit zero = nothing marks loops lengths
  visits_written loops lengths loops_fit lengths_fit (suc u) =
      ap (loop_visited (walk u)) (visits_written loops lengths loops_fit lengths_fit u)
      ∙ visited_written (walk u) (walks 3 u m f) (marks_after walk u marks) loops lengths
      (omega (arith, found_ids n f ls L m few 2 (suc u), loops_fit)) (omega (arith, found_number n f ls L m few 2 (suc u), lengths_fit))

-- ---- the turns of `list_all`

module _ {next marks loops lengths : List ℕ} (p : Startable next marks loops lengths) where
  few_ids : total length p.front ≤ length next
  few_ids = ids_most (length next) (links_in next) p.front p.links

  -- the lists after the turns of the nodes below u
  below_written : (u : ℕ) → for_up u (visit (walk_in next)) (lists marks loops lengths (listed_of 0 0))
      ≡ written (marks_after (walk_in next) u marks) loops lengths (walks 3 u (length next) (links_in next))
  below_written u =
      visits_written (length next) (links_in next) p.front p.links (length next) few_ids marks p.marks_fit loops lengths p.loops_fit
      p.lengths_fit u

  module _ (u : ℕ) (node : u < length next) where
    -- how often u was found before its turn
    before : ℕ
    before = total (count u) (walks 1 u (length next) (links_in next))

    mark_before : get_or (marks_after (walk_in next) u marks) u 0 ≡ cond (ltb 0 before) 1 0
    unfolding before
    mark_before =
        after_at (length next) (links_in next) p.front p.links (length next) few_ids marks p.marks_fit u u
        ∙ rw (p.clear u node)

    -- its loop is found once, before its turn or in it
    before_walk : total (count u) p.front ≡ before + count u (walk_in next u)
    unfolding before
    before_walk =
        sym (found_reached (length next) (links_in next) p.front p.links (length next) few_ids u)
        ∙ found_more (length next) (links_in next) p.front p.links (length next) few_ids u u

    -- before its turn it is marked where it was found
    was_marked : get_or (marks_after (walk_in next) u marks) u 0 ≡ 1 → walk_in next u ≡ []
    was_marked e = by before refl (walk_in next u) refl
      where
        by : (k : ℕ) → before ≡ k → (l : List ℕ) → walk_in next u ≡ l → walk_in next u ≡ []
        by k q [] s = s
        by zero q (x ∷ l) s = absurd (omega (arith, mark_before, e, ap (λ (j : ℕ). cond {A = ℕ} (ltb 0 j) 1 0) q))
        by (suc k) q (x ∷ l) s =
            let walked = walk_starts (links_in next) (length next) u u (omega (arith, ap length s)) in
            absurd (omega (arith, q, walked, before_walk, once (length next) (links_in next) p.front p.links u))

    is_fresh : get_or (marks_after (walk_in next) u marks) u 0 ≢ 1 → links_in next u ≢ off → 0 < length (walk_in next u)
    is_fresh other on = by before refl
      where
        by : (k : ℕ) → before ≡ k → 0 < length (walk_in next u)
        by zero q =
            let one = on_loop (length next) (links_in next) p.front p.links (length next) few_ids u on in
            counts_some u (walk_in next u) (omega (arith, q, before_walk, one))
        by (suc k) q = absurd (other (mark_before ∙ rw (lt-ltb 0 before (omega (arith, q)))))

    -- the lists are such that node u can be visited
    below_visitable : Visitable next (written (marks_after (walk_in next) u marks) loops lengths (walks 3 u (length next) (links_in next))) u
    unfolding written
    below_visitable =
        let n = length next in
        let f = links_in next in
        let ms = walks 3 u n f in
        let ids = found_ids n f p.front p.links n few_ids 2 in
        let number = found_number n f p.front p.links n few_ids 2 in
        record {
          node = node;
          few = p.links.few;
          marks_fit =
              omega (
                arith,
                p.marks_fit,
                after_length n f p.front p.links n few_ids marks p.marks_fit u,
              );
          marked = was_marked;
          fresh = is_fresh;
          apart = no_self n f p.front p.links u node;
          ids_fit =
              λ h. omega (
                arith,
                ids u,
                ids (suc u),
                found_long n f p.front p.links n few_ids length u h,
                flatten_length ms,
                p.loops_fit,
                overlay_length (flatten ms) loops (omega (arith, ids u, flatten_length ms, p.loops_fit)),
              );
          length_fits =
              λ h. omega (
                arith,
                number u,
                number (suc u),
                total_one ms,
                total_one (walks 3 (suc u) n f),
                found_long n f p.front p.links n few_ids (λ l. 1) u h,
                length-map ms length,
                p.lengths_fit,
                overlay_length (map length ms) lengths (omega (arith, number u, length-map ms length, p.lengths_fit)),
              );
        }

-- ---- the invariant of `list_all`: the nodes below i are visited

pub record Visiting (next : List ℕ) (a : Lists) (i : ℕ) (s : Lists) : Type 0 where
  pub turns : Loop (visit (walk_in next)) a (length next) i s

pub visiting_start : (next : List ℕ) (a : Lists) → Visiting next a 0 a
visiting_start next a = record { turns = loop_start_lem (visit (walk_in next)) a (length next) }

pub visiting_next : {next : List ℕ} {a s : Lists} {i : ℕ} (t : Lists) → Visiting next a i s → i < length next → t ≡ loop_visited (walk_in next i) s
    → Visiting next a (i + 1) t
visiting_next {next} {a} {s} {i} t l h e = subst (Visiting next a (i + 1)) (sym e) (record { turns = loop_next (visit (walk_in next)) a l.turns h })

pub visiting_end : {next marks loops lengths : List ℕ} {s : Lists} {i : ℕ} → Visiting next (lists marks loops lengths (listed_of 0 0)) i s
    → length next ≤ i → s ≡ visit_all next marks loops lengths
unfolding visit_all
visiting_end {next} {marks} {loops} {lengths} l h = loop_end (visit (walk_in next)) (lists marks loops lengths (listed_of 0 0)) l.turns h

-- the node of the next turn can be visited
pub visiting_visitable : {next marks loops lengths : List ℕ} {s : Lists} {i : ℕ} → Startable next marks loops lengths
    → Visiting next (lists marks loops lengths (listed_of 0 0)) i s → i < length next → Visitable next s i
visiting_visitable {next} {i = i} p l h =
    subst (λ (t : Lists). Visitable next t i) (sym (l.turns.same ∙ below_written p i)) (below_visitable p i h)

-- no list changes its length
pub record SameLengths (a s : Lists) : Type 0 where
  pub marks : length s.marks ≡ length a.marks
  pub loops : length s.loops ≡ length a.loops
  pub lengths : length s.lengths ≡ length a.lengths

visited_lengths : (a : Lists) (l : List ℕ) (s : Lists) → SameLengths a s → SameLengths a (loop_visited l s)
unfolding loop_visited
visited_lengths a l s k = by (leb 3 (length l))
  where
    by : (b : Bool) → SameLengths a (cond b
        (lists (mark_all l s.marks) (sets s.loops s.listed.ids l) (set s.lengths s.listed.count (length l))
        (listed_of (s.listed.count + 1) (s.listed.ids + length l)))
        (lists (mark_all l s.marks) s.loops s.lengths s.listed))
    by true =
        record {
          marks = mark_length l s.marks ∙ k.marks;
          loops = length-sets s.loops s.listed.ids l ∙ k.loops;
          lengths = length-set s.lengths s.listed.count (length l) ∙ k.lengths;
        }
    by false = record { marks = mark_length l s.marks ∙ k.marks; loops = k.loops; lengths = k.lengths }

pub visiting_lengths : {next : List ℕ} {a s : Lists} {i : ℕ} → Visiting next a i s → SameLengths a s
visiting_lengths {next} {a} {s} {i} l =
    subst (SameLengths a) (sym l.turns.same)
    (for_up_keeps (λ j t. SameLengths a t) i (visit (walk_in next)) a (record { marks = refl; loops = refl; lengths = refl })
    (λ j t h. visited_lengths a (walk_in next j) t))

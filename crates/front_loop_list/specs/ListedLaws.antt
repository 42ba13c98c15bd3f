-- `front_loops` from its parts: the marks cleared, then every node visited.
use Rattle.std.specs.Prelude.{Bool, true, false, List, ◌≡◌, eqb, ltb, get_or, take, drop, replicate, ◌++◌}
use Rattle.std.proofs.Math.Bool.{cond}
use Rattle.std.proofs.Math.Path.{refl, sym, ap, fun_ext}
use Rattle.std.proofs.Common.{◌∙◌, add-one, subst, arith, ext_get_or, get_or-take, length-take-le, eqb-true, ltb-true, ltb-false}
use Prim.Native.Nat.{ℕ, suc, zero, ◌≤◌}
use Rattle.std.proofs.Math.ListN.{length}
use Rattle.std.proofs.lemmas.Bool.{eqb-false}
use Rattle.std.proofs.lemmas.List.{length-replicate, replicate-append-replicate}
use Rattle.laws.specs.Loop.{for_up}
use Rattle.laws.specs.Overlay.{overlay, filled_length, filled_at, filled_past}
use Rattle.laws.specs.Tabulate.{tabulate}
use Rattle.topology.specs.Sums.{total, front_one, total_ext}
use Rattle.topology.specs.Links.{off, link_of, link_in_lem, link_out}
use Rattle.topology.specs.Front.{Loops}
use Rattle.topology.proofs.Front.{target}
use Rattle.topology.specs.Walk.{walk_by, count, link_count_lem}
use Rattle.topology.proofs.Walk.{nodes, cycles}
use Rattle.topology.specs.Listing.{walks, if_listed}
use Rattle.topology.proofs.Listing.{walks_list, walks_total}
use Rattle.topology.proofs.Pigeonhole.{ids_most}
use Rattle.front.specs.State.{State, next_of, node_places}
use Rattle.front.specs.Sound.{Sound}
use Rattle.front.specs.declared.Counts.{Counts}
use Rattle.paving.specs.Loops.{front_loops}
use Rattle.front_loop_list.specs.Listed.{Lists, lists, listed_of, loops_in, front_mark, written, listed_in, Listable}
use Rattle.front_loop_list.specs.Walked.{links_in}
use Rattle.front_loop_list.specs.Found.{count_turn, listed_count, on_loop}
use Rattle.front_loop_list.specs.Visits.{visit, visit_all, marks_after, after_length, after_at, visits_written, Startable}

-- the marks of the first n nodes cleared
abbrev pub cleared_marks : ℕ → List ℕ → List ℕ
cleared_marks n marks = overlay (tabulate n (λ _. 0)) marks

zeros : (n : ℕ) → tabulate {A = ℕ} n (λ _. 0) ≡ replicate n 0
unfolding tabulate
zeros zero = refl
zeros (suc n) = rw (zeros n) (replicate-append-replicate n 1 0 ∙ ap (λ (k : ℕ). replicate k 0) (add-one n))

pub marks_cleared : (n : ℕ) (marks : List ℕ) → cleared_marks n marks ≡ replicate n 0 ++ drop n marks
unfolding overlay
marks_cleared n marks = rw (zeros n, length-replicate {A = ℕ} n 0) refl

-- ---- the marks at the end

module _ (n : ℕ) (f : ℕ → ℕ) (ls : List (List ℕ)) (L : Loops n f ls) where
  few : total length ls ≤ n
  few = ids_most n f ls L

  found_all : (v : ℕ) → total (count v) (walks 1 n n f) ≡ total (count v) ls
  found_all v = walks_total n f ls L n few 0 (count v) (count_turn v) ∙ total_ext (if_listed 1 (count v)) (count v) (listed_count v) ls

  -- a node is on a loop, once, where it has a link
  front_mark_lem : (v : ℕ) → cond {A = ℕ} (ltb 0 (total (count v) ls)) 1 0 ≡ front_mark f v
  unfolding front_mark
  front_mark_lem v = by (eqb (f v) off) refl
    where
      on : (k : ℕ) → total (count v) ls ≡ k → f v ≡ off → cond {A = ℕ} (ltb 0 (total (count v) ls)) 1 0 ≡ 0
      on zero e q = rw e
      on (suc k) e q =
          absurd (omega (arith, q, L.few, target n f ls L v (f v) (omega (arith, e, link_count_lem f v ls (cycles n f ls L)))))

      by : (b : Bool) → eqb (f v) off ≡ b → cond {A = ℕ} (ltb 0 (total (count v) ls)) 1 0 ≡ cond {A = ℕ} b 0 1
      by true e = on (total (count v) ls) refl (eqb-true (f v) off e)
      by false e = rw (on_loop n f ls L n few v (eqb-false (f v) off e))

  -- what stands past the nodes is on no loop
  none_past : (v : ℕ) → n ≤ v → total (count v) ls ≡ 0
  none_past v h = by (total (count v) ls) refl
    where
      by : (k : ℕ) → total (count v) ls ≡ k → total (count v) ls ≡ 0
      by zero e = e
      by (suc k) e = absurd (omega (arith, nodes n f ls L v (omega (arith, e))))

  module _ (marks : List ℕ) (fits : n ≤ length marks) where
    clear_fits : n ≤ length (cleared_marks n marks)
    clear_fits = omega (arith, filled_length (λ _. 0) marks n fits)

    marks_end : marks_after (λ u. walk_by f n u u) n (cleared_marks n marks) ≡ overlay (tabulate n (front_mark f)) marks
    marks_end =
        ext_get_or 0 (marks_after (λ u. walk_by f n u u) n (cleared_marks n marks)) (overlay (tabulate n (front_mark f)) marks)
        (after_length n f ls L n few (cleared_marks n marks) clear_fits n ∙ (filled_length _ marks n fits ∙ sym (filled_length (front_mark f) marks n fits)))
        (λ v h. by v (ltb v n) refl)
      where
        mark : (v : ℕ) → get_or (marks_after (λ u. walk_by f n u u) n (cleared_marks n marks)) v 0
            ≡ cond (ltb 0 (total (count v) ls)) 1 (get_or (cleared_marks n marks) v 0)
        mark v =
            after_at n f ls L n few (cleared_marks n marks) clear_fits n v
            ∙ ap (λ (k : ℕ). cond (ltb 0 k) 1 (get_or (cleared_marks n marks) v 0)) (found_all v)

        by : (v : ℕ) (b : Bool) → ltb v n ≡ b
            → get_or (marks_after (λ u. walk_by f n u u) n (cleared_marks n marks)) v 0 ≡ get_or (overlay (tabulate n (front_mark f)) marks) v 0
        by v true e =
            let h = ltb-true v n e in
            mark v
            ∙ (
            ap (λ (d : ℕ). cond (ltb 0 (total (count v) ls)) 1 d) (filled_at _ marks n 0 v h)
            ∙ (front_mark_lem v ∙ sym (filled_at (front_mark f) marks n 0 v h))
            )
        by v false e =
            let h = ltb-false v n e in
            mark v ∙ (rw (none_past v h) (filled_past _ marks n 0 v h ∙ sym (filled_past (front_mark f) marks n 0 v h)))

    -- all nodes visited
    visits_end : (loops lengths : List ℕ) → n ≤ length loops → length ls ≤ length lengths
        → for_up n (visit (λ u. walk_by f n u u)) (lists (cleared_marks n marks) loops lengths (listed_of 0 0))
        ≡ written (overlay (tabulate n (front_mark f)) marks) loops lengths (walks 3 n n f)
    visits_end loops lengths loops_fit lengths_fit =
        visits_written n f ls L n few (cleared_marks n marks) clear_fits loops lengths loops_fit lengths_fit n
        ∙ ap (λ (m : List ℕ). written m loops lengths (walks 3 n n f)) marks_end

-- ---- the links of the first n nodes

links_take : (n : ℕ) (next : List ℕ) → link_of n (take n next) ≡ link_of n next
links_take n next = fun_ext (λ u. by u (ltb u n) refl)
  where
    by : (u : ℕ) (b : Bool) → ltb u n ≡ b → link_of n (take n next) u ≡ link_of n next u
    by u true e =
        let h = ltb-true u n e in
        link_in_lem n (take n next) u h ∙ (get_or-take n next u off h ∙ sym (link_in_lem n next u h))
    by u false e = let h = ltb-false u n e in link_out n (take n next) u h ∙ sym (link_out n next u h)

module _ {k : Counts} {next marks loops lengths : List ℕ} (p : Listable k next marks loops lengths) where
  same_links : links_in (take k.nodes next) ≡ link_of k.nodes next
  same_links =
      ap (λ (n : ℕ). link_of n (take k.nodes next)) (length-take-le k.nodes next p.next_fits) ∙ links_take k.nodes next

  cleared_startable : Startable (take k.nodes next) (cleared_marks k.nodes marks) loops lengths
  cleared_startable =
      let n = k.nodes in
      let long = length-take-le n next p.next_fits in
      record {
        front = p.front;
        links = subst (λ (m : ℕ). Loops m (links_in (take n next)) p.front) (sym long)
            (subst (λ (f : ℕ → ℕ). Loops n f p.front) (sym same_links) p.links);
        marks_fit = omega (arith, long, filled_length (λ _. 0) marks n p.marks_fit, p.marks_fit);
        loops_fit = omega (arith, long, p.loops_fit);
        lengths_fit = p.lengths_fit;
        clear = λ v h. filled_at _ marks n 0 v (omega (arith, long, h));
      }

  -- all nodes visited: that is what is to be listed
  visited_listed : visit_all (take k.nodes next) (cleared_marks k.nodes marks) loops lengths ≡ listed_in k next marks loops lengths
  unfolding visit_all listed_in loops_in
  visited_listed =
      let n = k.nodes in
      let f = link_of n next in
      let turn : ℕ → (ℕ → ℕ) → Lists =
      λ m g. for_up m (visit (λ u. walk_by g m u u)) (lists (cleared_marks n marks) loops lengths (listed_of 0 0)) in
      let edges : total length p.front ≤ k.front = omega (arith, p.edges, front_one p.front) in
      ap (λ (g : ℕ → ℕ). turn (length (take n next)) g) same_links
      ∙ (
      ap (λ (m : ℕ). turn m f) (length-take-le n next p.next_fits)
      ∙ (
      visits_end n f p.front p.links marks p.marks_fit loops lengths p.loops_fit p.lengths_fit
      ∙ ap (written (overlay (tabulate n (front_mark f)) marks) loops lengths)
      (walks_list n f p.front p.links n (few n f p.front p.links) 3 ∙ sym (walks_list n f p.front p.links k.front edges 3))
      )
      )

  -- after `clear_marks`, `list_all` may be called
  pub startable : (marks₁ : List ℕ) → marks₁ ≡ cleared_marks k.nodes marks → Startable (take k.nodes next) marks₁ loops lengths
  startable marks₁ e = subst (λ (m : List ℕ). Startable (take k.nodes next) m loops lengths) (sym e) cleared_startable

  -- and gives what is to be listed
  pub listed_all : (marks₁ : List ℕ) (s : Lists) → marks₁ ≡ cleared_marks k.nodes marks → s ≡ visit_all (take k.nodes next) marks₁ loops lengths
      → s ≡ listed_in k next marks loops lengths
  listed_all marks₁ s e r = r ∙ (ap (λ (m : List ℕ). visit_all (take k.nodes next) m loops lengths) e ∙ visited_listed)

-- ---- the state of a paving

-- what is listed are the loops of the definition
pub listed_front : (s : State) (marks loops lengths : List ℕ)
    → listed_in s.counts s.next marks loops lengths
    ≡ written (overlay (tabulate s.counts.nodes (front_mark (next_of s))) marks) loops lengths (front_loops s)
unfolding listed_in loops_in front_loops
listed_front s marks loops lengths = refl

-- a sound state may be listed into lists with a place for each node, and one for each loop
pub sound_listable : (n : ℕ) (s : State) (ls : List (List ℕ)) → Sound n s ls → (loops lengths : List ℕ)
    → s.counts.nodes ≤ length loops → length ls ≤ length lengths → Listable s.counts s.next s.snapshot loops lengths
unfolding node_places
sound_listable n s ls S loops lengths loops_fit lengths_fit =
    record {
      front = ls;
      links = S.front.loops;
      edges = S.edges;
      next_fits = omega (arith, S.nodes_fit);
      marks_fit = omega (arith, S.nodes_fit);
      loops_fit = loops_fit;
      lengths_fit = lengths_fit;
    }

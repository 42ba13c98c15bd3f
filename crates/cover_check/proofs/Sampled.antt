-- What `from_boundary` leaves in lent lists is the sampled outline as the book has it.
use Rattle.std.specs.Prelude.{◌≡◌, ◌≢◌, refl, Bool, true, false, cond, List, ℕ, ◌<◌, ◌≤◌, ltb, length, take, get_or, T, Float}
use Rattle.std.proofs.Common.{sym, ap, ◌∙◌, arith, ltb-true, get_or-take, length-take-le}
use Rattle.std.specs.Float.{nan, binary64}
use Rattle.std.specs.Float.Ieee.{fits}
use Rattle.outline.specs.Outline.{Outline}
use Rattle.outline.specs.Accepted.{AllFit}
use Rattle.topology.specs.Sums.{front_sum}
use Rattle.topology.specs.Links.{off, at, link_of}
use Rattle.topology.specs.Front.{Loops}
use Rattle.topology.proofs.Front.{edge_next, next_edge}
use Rattle.front.specs.State.{State, next_of, node_places, node_in}
use Rattle.front.specs.Sampling.{sampled_count, from_boundary, boundary_loops}
use Rattle.books.specs.Book.{Book, start_book, follow}
use Rattle.books.specs.Net.{count_edge}
use Rattle.books.proofs.BookBase.{count_sum, matches_nodes}
use Rattle.books_bounded.proofs.Run.{start_bounded}
use Rattle.books_hold.proofs.StagesBase.{Start}
use Rattle.books_hold.proofs.Fronts.{closes, loops_hold}
use Rattle.books_hold.specs.Runs.{AcceptedRun}
use Rattle.books_hold.proofs.Runs.{begins, start, sampled_joins}
use Rattle.cover_check.specs.Start.{StartLent}
use Rattle.cover_check.proofs.Covering.{FrontFollows}

-- the first n links, read among n nodes
same_links : (n : ℕ) (l : List ℕ) (u : ℕ) → link_of n (take n l) u ≡ link_of n l u
unfolding link_of
same_links n l u = by (ltb u n) refl
  where
    by : (b : Bool) → ltb u n ≡ b → cond b (get_or (take n l) u off) off ≡ cond b (get_or l u off) off
    by true e = get_or-take n l u off (ltb-true u n e)
    by false e = refl

module _ (o : Outline) (size : Float) (lent : State) (A : AcceptedRun o size lent) where
  abbrev t : State
  t = from_boundary o size lent

  abbrev n : ℕ
  n = t.counts.nodes

  abbrev S : Start o size t (boundary_loops o size lent)
  S = start o size lent A

  abbrev L : Loops n (next_of t) (boundary_loops o size lent)
  L = S.sound.front.loops

  long : length (start_book o size).xs ≡ n
  long = matches_nodes (sampled_count o size) t (boundary_loops o size lent) (start_book o size) S.sound S.matches

  links : (u : ℕ) → next_of t u ≡ follow (start_book o size).front u
  links = (closes (sampled_count o size) t (boundary_loops o size lent) (start_book o size) S.sound S.matches o).front

  stands : (u v : ℕ) → count_edge u v (start_book o size).front ≡ front_sum (at u v) (boundary_loops o size lent)
  stands u v = count_sum u v (start_book o size).front ∙ S.matches.sums (at u v)

  pub front_follows : FrontFollows (start_book o size)
  front_follows =
      record {
        few = omega (arith, long, L.few);
        joins = sampled_joins o size lent A;
        once = (loops_hold (sampled_count o size) t (boundary_loops o size lent) (start_book o size) S.sound S.matches o (begins o size lent A).loops).once;
        follows = λ u v h.
            sym (links u) ∙ edge_next n (next_of t) (boundary_loops o size lent) L u v (omega (arith, stands u v));
        has = λ u v ne e.
            omega (arith, stands u v, next_edge n (next_of t) (boundary_loops o size lent) L u v ne (links u ∙ e));
      }

  pub in_xs : n ≤ length t.xs
  unfolding node_places
  in_xs = omega (arith, S.sound.nodes_fit)

  pub in_ys : n ≤ length t.ys
  unfolding node_places
  in_ys = omega (arith, S.sound.nodes_fit)

  pub in_next : n ≤ length t.next
  unfolding node_places
  in_next = omega (arith, S.sound.nodes_fit)

  pub start_lent : StartLent o size (take n t.xs) (take n t.ys) (take n t.next)
  start_lent =
      let xs = length-take-le n t.xs in_xs in
      let ys = length-take-le n t.ys in_ys in
      let next = length-take-le n t.next in_next in
      record {
        first = S.matches.xs;
        second = S.matches.ys;
        each = (next ∙ sym xs, ys ∙ sym xs);
        few = omega (arith, next, L.few);
        after = λ u. ap (λ (m : ℕ). link_of m (take n t.next) u) next ∙ (same_links n t.next u ∙ links u);
      }

  -- ---- its coordinates are doubles

  node_fits : (id : ℕ) → id < n → T (fits binary64 (get_or t.xs id nan)) × T (fits binary64 (get_or t.ys id nan))
  unfolding node_in
  node_fits id h = let B = start_bounded o size A.doubles A.outline lent A.front id h in (B.fits.x, B.fits.y)

  pub start_xs_fit : AllFit (start_book o size).xs
  start_xs_fit i h =
      let e : get_or (start_book o size).xs i nan ≡ get_or t.xs i nan =
      ap (λ (l : List Float). get_or l i nan) (sym S.matches.xs) ∙ get_or-take n t.xs i nan (omega (arith, long)) in
      rw e (node_fits i (omega (arith, long))).0

  pub start_ys_fit : AllFit (start_book o size).ys
  start_ys_fit i h =
      let few = ap length (sym S.matches.ys) ∙ length-take-le n t.ys in_ys in
      let e : get_or (start_book o size).ys i nan ≡ get_or t.ys i nan =
      ap (λ (l : List Float). get_or l i nan) (sym S.matches.ys) ∙ get_or-take n t.ys i nan (omega (arith, few)) in
      rw e (node_fits i (omega (arith, few))).1

  pub start_even : length (start_book o size).ys ≡ length (start_book o size).xs
  start_even = ap length (sym S.matches.ys) ∙ (length-take-le n t.ys in_ys ∙ sym long)

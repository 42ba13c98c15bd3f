-- What a stage gives of edges and of coordinates: the figures of the edges, from which the areas follow (books' Areas); the book has the nodes where the run
-- answers them, so each quad turns left.
use Rattle.std.specs.Prelude.{ℕ, ◌<◌, List, ◌≡◌, ℤ, ◌+ℤ◌, take, get_or, Float}
use Rattle.std.proofs.Common.{sym, ◌∙◌, ap₂, arith, get_or-take}
use Rattle.std.proofs.Math.Path.{ap}
use Rattle.std.proofs.Math.ListN.{length}
use Rattle.std.proofs.Math.Seq.{length-take-le}
use Rattle.std.specs.Float.{nan}
use Rattle.outline.specs.Outline.{Outline}
use Rattle.topology.specs.Links.{at, link_of}
use Rattle.topology.proofs.Front.{source, target}
use Rattle.front.specs.State.{State, node_places, node_in, node}
use Rattle.front.specs.Sound.{Frame}
use Rattle.books.specs.Book.{Book, quad_at, start_book}
use Rattle.books.specs.Net.{net, quads_edges}
use Rattle.books.proofs.Matches.{Matches}
use Rattle.books.proofs.BookLaws.{matches_sum}
use Rattle.books.proofs.NetBase.{net_weight, net_anti}
use Rattle.books.proofs.NetLaws.{net_sum}
use Rattle.books.proofs.AreasBase.{FrontJoins}
use Rattle.books.specs.Holds.{QuadHolds}
use Rattle.books_bounded.proofs.Corners.{node_of}
use Rattle.books_hold.proofs.StagesBase.{Start, Stage}

-- ---- the nodes of a book

module _ (t final : State) (ls : List (List ℕ)) (b : Book) (F : Frame t final) (M : Matches t ls b) where
  -- a coordinate of the book is the run's
  coordinate : (all book : List Float) → take t.counts.nodes all ≡ book → (id : ℕ) → id < t.counts.nodes
      → get_or book id nan ≡ get_or all id nan
  coordinate all book e id h = ap (λ (l : List Float). get_or l id nan) (sym e) ∙ get_or-take t.counts.nodes all id nan h

  pub book_node : (id : ℕ) → id < t.counts.nodes → node_of b id ≡ node final id
  unfolding node_in
  book_node id h =
      rw (
        coordinate final.xs b.xs (F.xs.before ∙ M.xs) id h,
        coordinate final.ys b.ys (F.ys.before ∙ M.ys) id h,
      )

-- ---- figures and areas

module _ (o : Outline) (size : Float) (s : State) (ls : List (List ℕ)) (S : Start o size s ls) where
  -- the edges sampled join nodes sampled
  pub start_joins : FrontJoins (start_book o size)
  unfolding node_places
  start_joins u v h =
      let n = s.counts.nodes in
      let L = S.sound.front.loops in
      let there = rw (S.matches.sums (at u v)) at h in
      let hu = source n (link_of n s.next) ls L u v there in
      let hv = target n (link_of n s.next) ls L u v there in
      let xs = ap length (sym S.matches.xs) ∙ length-take-le n s.xs (omega (arith, S.sound.nodes_fit)) in
      let ys = ap length (sym S.matches.ys) ∙ length-take-le n s.ys (omega (arith, S.sound.nodes_fit)) in
      ((omega (arith, xs), omega (arith, ys)), (omega (arith, xs), omega (arith, ys)))

  module _ (final : State) (k : ℕ) (t : State) (Y : Stage o size s ls final k t) where
    -- the balance of the weight that counts u to v
    pub net_edges : (u v : ℕ) → net u v (start_book o size).front ≡ net u v (quads_edges final k) +ℤ net u v Y.book.front
    net_edges u v =
        let w = net_weight u v in
        let anti = net_anti u v in
        sym (net_sum u v (start_book o size).front)
        ∙ (matches_sum w anti s ls (start_book o size) S.matches
        ∙ (Y.balance w anti
        ∙ ap₂ (λ (x y : ℤ). x +ℤ y) (net_sum u v (quads_edges final k))
        (sym (matches_sum w anti t Y.loops Y.book Y.matches) ∙ net_sum u v Y.book.front)))

-- ---- corners

pub quads_turn : (o : Outline) (size : Float) (s : State) (ls : List (List ℕ)) (final : State) (k : ℕ) (t : State) (Y : Stage o size s ls final k t)
    → (i : ℕ) → i < k → QuadHolds Y.book (quad_at final i)
quads_turn o size s ls final k t Y i h =
    let q = quad_at final i in
    let A = Y.each i h in
    let at = book_node t final Y.loops Y.book Y.later Y.matches in
    A.turns Y.book q (rw (at q.a A.a, at q.b A.b, at q.d A.d, at q.c A.c))

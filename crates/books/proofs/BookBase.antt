-- Laws of books: quads that stay where they are; edges that are counted, are there and come off; steps that may fail; what a match gives: as many
-- nodes and edges, and the sum of any antisymmetric weight; and that an area is such a weight.
use Rattle.std.specs.Prelude.{ℕ, ◌+◌, ◌*◌, ◌<◌, ◌≡◌, refl, Bool, true, false, cond, ◌&&◌, ◌||◌, ℤ, neg_ℤ, ◌+ℤ◌, ◌-ℤ◌, ◌*ℤ◌, eqb, length, Float}
use mathlib.Core.List.{List, [], ◌∷◌}
use Rattle.std.proofs.Math.Path.{sym}
use Rattle.std.proofs.Common.{◌∙◌, ap, arith, length-take-le, eqb-true, eq-eqb, ne_eqb}
use Rattle.std.proofs.Math.Option.{Option, none, some}
use Rattle.std.proofs.Math.IntN.{neg_ℤ-neg_ℤ, neg_ℤ-+ℤ, +ℤ_comm, *ℤ_comm}
use Rattle.std.proofs.lemmas.Bool.{eqb-false}
use Rattle.laws.specs.Tests.{both}
use Rattle.exact.specs.Corner.{Vector, cross}
use Rattle.topology.specs.Sums.{one}
use Rattle.topology.specs.Links.{delta, at}
use Rattle.topology.specs.Balance.{Antisymmetric}
use Rattle.front.specs.State.{State, node_places}
use Rattle.front.specs.Sound.{Sound, Frame}
use Rattle.front.proofs.FrameLaws.{extends_at}
use Rattle.books.specs.Book.{Edge, edge, Book, is_edge, has, without, and_then, quad_at, area_of}
use Rattle.books.specs.Net.{count_edge}
use Rattle.books.proofs.Matches.{edges_sum, Matches}

-- ---- quads

-- a later state of the run answers the same quad
pub frame_quad : (s t : State) → Frame s t → (k : ℕ) → k < s.counts.quads → quad_at t k ≡ quad_at s k
unfolding quad_at
frame_quad s t F k h =
    let E = F.quad_list in
    rw (
      extends_at _ _ s.quads t.quads E (4 * k) 0 (omega arith),
      extends_at _ _ s.quads t.quads E (4 * k + 1) 0 (omega arith),
      extends_at _ _ s.quads t.quads E (4 * k + 2) 0 (omega arith),
      extends_at _ _ s.quads t.quads E (4 * k + 3) 0 (omega arith),
    )

-- ---- steps that may fail

-- such a step gives only books with P
abbrev pub Gives : (Book → Type 0) → Option Book → Type 0
Gives P none = Unit {0}
Gives P (some b) = P b

pub gives_then : (P Q : Book → Type 0) (f : Book → Option Book) (m : Option Book) → Gives P m → ((b : Book) → P b → Gives Q (f b)) → Gives Q (and_then m f)
gives_then P Q f none p next = tt
gives_then P Q f (some b) p next = next b p

-- ---- counts of edges

eqb_sym : (x y : ℕ) → eqb x y ≡ eqb y x
eqb_sym x y = by (eqb y x) refl
  where
    by : (t : Bool) → eqb y x ≡ t → eqb x y ≡ t
    by true e = eq-eqb x y (sym (eqb-true y x e))
    by false e = ne_eqb x y (λ q. eqb-false y x e (sym q))

-- the weight that counts u to v is 1 at that edge
at_edge : (u v : ℕ) (e : Edge) → at u v e.from e.to ≡ cond (is_edge (edge u v) e) 1 0
unfolding at delta
at_edge u v e = rw (eqb_sym e.from u, eqb_sym e.to v) (by (eqb u e.from) (eqb v e.to))
  where
    by : (s t : Bool) → cond {A = ℕ} s (cond t 1 0) 0 ≡ cond (s && t) 1 0
    by true true = refl
    by true false = refl
    by false t = refl

pub count_sum : (u v : ℕ) (es : List Edge) → count_edge u v es ≡ edges_sum (at u v) es
unfolding count_edge edges_sum
count_sum u v [] = refl
count_sum u v (e ∷ es) = omega (arith, at_edge u v e, count_sum u v es)

pub edges_length : (es : List Edge) → edges_sum one es ≡ length es
unfolding edges_sum
edges_length [] = refl
edges_length (e ∷ es) = omega (arith, edges_length es)

-- ---- edges that are there

pub has_edge_lem : (u v : ℕ) (es : List Edge) → 0 < edges_sum (at u v) es → has (edge u v) es ≡ true
unfolding has edges_sum
has_edge_lem u v [] h = absurd (omega arith)
has_edge_lem u v (e ∷ es) h = by (is_edge (edge u v) e) (rw (at_edge u v e) at h) (has_edge_lem u v es)
  where
    by : (t : Bool) → 0 < cond t 1 0 + edges_sum (at u v) es → (0 < edges_sum (at u v) es → has (edge u v) es ≡ true)
        → t || has (edge u v) es ≡ true
    by true h later = refl
    by false h later = later (omega arith)

pub has_none : (u v : ℕ) (es : List Edge) → edges_sum (at u v) es ≡ 0 → has (edge u v) es ≡ false
unfolding has edges_sum
has_none u v [] h = refl
has_none u v (e ∷ es) h = by (is_edge (edge u v) e) (rw (at_edge u v e) at h) (has_none u v es)
  where
    by : (t : Bool) → cond t 1 0 + edges_sum (at u v) es ≡ 0 → (edges_sum (at u v) es ≡ 0 → has (edge u v) es ≡ false)
        → t || has (edge u v) es ≡ false
    by true h later = absurd (omega arith)
    by false h later = later (omega arith)

pub is_edge_lem : (u v : ℕ) (e : Edge) → is_edge (edge u v) e ≡ true → (u ≡ e.from) × (v ≡ e.to)
is_edge_lem u v e h = let ends = both (eqb u e.from) _ h in (eqb-true u e.from ends.0, eqb-true v e.to ends.1)

-- an edge that is there comes off once
pub without_sum : (w : ℕ → ℕ → ℕ) (u v : ℕ) (es : List Edge) → has (edge u v) es ≡ true
    → edges_sum w (without (edge u v) es) + w u v ≡ edges_sum w es
unfolding has without edges_sum
without_sum w u v [] h = absurd (let z : ◌≡◌ {A = ℕ} 0 1 = cc in omega arith)
without_sum w u v (e ∷ es) h = by (is_edge (edge u v) e) refl h (without_sum w u v es)
  where
    by : (t : Bool) → is_edge (edge u v) e ≡ t → t || has (edge u v) es ≡ true
        → (has (edge u v) es ≡ true → edges_sum w (without (edge u v) es) + w u v ≡ edges_sum w es)
        → edges_sum w (cond t es (e ∷ without (edge u v) es)) + w u v ≡ w e.from e.to + edges_sum w es
    by true q h later = let p = is_edge_lem u v e q in rw (p.0, p.1) (omega arith)
    by false q h later = omega (arith, later h)

-- ---- a match

-- as many nodes as the state has, and as many edges
pub matches_nodes : (n : ℕ) (s : State) (ls : List (List ℕ)) (b : Book) → Sound n s ls → Matches s ls b
    → length b.xs ≡ s.counts.nodes
unfolding node_places
matches_nodes n s ls b S M = ap length (sym M.xs) ∙ length-take-le s.counts.nodes s.xs (omega (arith, S.nodes_fit))

pub matches_edges : (n : ℕ) (s : State) (ls : List (List ℕ)) (b : Book) → Sound n s ls → Matches s ls b
    → length b.front ≡ s.counts.front
matches_edges n s ls b S M = sym (edges_length b.front) ∙ (M.sums one ∙ sym S.edges)

-- ---- areas

-- what is taken off and what it is taken off change places with the sign
pub sub_flip : (m k : ℤ) → k -ℤ m ≡ neg_ℤ (m -ℤ k)
sub_flip m k = sym (neg_ℤ-+ℤ m (neg_ℤ k) ∙ (ap (λ (z : ℤ). neg_ℤ m +ℤ z) (neg_ℤ-neg_ℤ k) ∙ +ℤ_comm (neg_ℤ m) k))

pub cross_anti : (p q : Vector) → cross q p ≡ neg_ℤ (cross p q)
unfolding cross
cross_anti p q = rw (*ℤ_comm q.x p.y, *ℤ_comm q.y p.x) (sub_flip (p.x *ℤ q.y) (p.y *ℤ q.x))

pub area_anti : (measure : Float → ℤ) (b : Book) → Antisymmetric (area_of measure b)
area_anti measure b u v = cross_anti _ _

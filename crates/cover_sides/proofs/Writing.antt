-- The numbers of a mesh's sides as they are written, quad by quad.
use Rattle.std.specs.Prelude.{◌≡◌, refl, List, [], ◌∷◌, ◌++◌, ℕ, zero, suc, ◌+◌, ◌*◌, ◌<◌, ◌≤◌, map, take, length, get_or}
use Rattle.std.proofs.Common.{sym, ap, ap₂, ◌∙◌, subst, arith, add-one, append_assoc, take_all}
use Rattle.std.proofs.lemmas.List.{map-append}
use Rattle.laws.specs.Loop.{for_up}
use Rattle.topology.specs.Sums.{All}
use Rattle.front_sampled.proofs.Lists.{all_append}
use Rattle.front.specs.State.{State}
use Rattle.front_lent_mesh.specs.declared.QuadIds.{QuadIds}
use Rattle.front_lent_mesh.specs.Mesh.{quad_in}
use Rattle.books.specs.Book.{Edge, quad_at, quad_edges}
use Rattle.books.specs.Net.{quads_edges}
use Rattle.cover_sides.specs.Sides.{sides_of, quad_of, side_key}

-- four numbers, one after the other
pub four_pushed : (n : ℕ) (k0 k1 k2 k3 k4 : List ℕ) (x y z w : ℕ) → take (n + 1) k1 ≡ take n k0 ++ x ∷ [] → take (n + 1 + 1) k2 ≡ take (n + 1) k1 ++ y ∷ []
    → take (n + 2 + 1) k3 ≡ take (n + 2) k2 ++ z ∷ [] → take (n + 3 + 1) k4 ≡ take (n + 3) k3 ++ w ∷ []
    → take (n + 4) k4 ≡ take n k0 ++ x ∷ y ∷ z ∷ w ∷ []
four_pushed n k0 k1 k2 k3 k4 x y z w p q r s =
    ap (λ (i : ℕ). take i k4) four ∙ s
    ∙ ap (λ (l : List ℕ). l ++ w ∷ []) (ap (λ (i : ℕ). take i k3) three ∙ r ∙ ap (λ (l : List ℕ). l ++ z ∷ [])
    (ap (λ (i : ℕ). take i k2) two ∙ q ∙ ap (λ (l : List ℕ). l ++ y ∷ []) p))
    ∙ joined (take n k0)
  where
    four : n + 4 ≡ n + 3 + 1
    four = omega arith

    three : n + 3 ≡ n + 2 + 1
    three = omega arith

    two : n + 2 ≡ n + 1 + 1
    two = omega arith

    joined : (l : List ℕ) → (((l ++ x ∷ []) ++ y ∷ []) ++ z ∷ []) ++ w ∷ [] ≡ l ++ x ∷ y ∷ z ∷ w ∷ []
    joined [] = refl
    joined (a ∷ l) = ap (λ (m : List ℕ). a ∷ m) (joined l)

quad_same : (s : State) (k : ℕ) → quad_of (quad_in s.quads k) ≡ quad_at s k
unfolding quad_in quad_at
quad_same s k = refl

edges_next : (s : State) (k : ℕ) → quads_edges s (suc k) ≡ quads_edges s k ++ quad_edges (quad_at s k)
unfolding quads_edges for_up
edges_next s k = refl

-- the sides of one quad more
pub next_keys : (s : State) (k : ℕ) (q : QuadIds) (ks ms : List ℕ) → q ≡ quad_in s.quads k
    → take (4 * (k + 1)) ms ≡ take (4 * k) ks ++ map side_key (quad_edges (quad_of q)) → take (4 * k) ks ≡ map side_key (quads_edges s k)
    → take (4 * (k + 1)) ms ≡ map side_key (quads_edges s (k + 1))
next_keys s k q ks ms e next before =
    next
    ∙ ap₂ (λ (l m : List ℕ). l ++ m) before (ap (λ (r : QuadIds). map side_key (quad_edges (quad_of r))) e ∙ ap (λ r. map side_key (quad_edges r)) (quad_same s k))
    ∙ sym (map-append side_key (quads_edges s k) (quad_edges (quad_at s k)))
    ∙ ap (map side_key) (sym (edges_next s k) ∙ ap (quads_edges s) (sym (add-one k)))

-- ids have 32 bits
quad_fits : (s : State) (k : ℕ) → ((i : ℕ) → i < 4 * suc k → get_or s.quads i 0 < 4294967296) → All (λ (e : Edge). e.to < 4294967296) (quad_edges (quad_at s k))
unfolding quad_edges quad_at
quad_fits s k ids = (
  ids (4 * k + 1) (omega arith),
  (ids (4 * k + 2) (omega arith), (ids (4 * k + 3) (omega arith), (ids (4 * k) (omega arith), tt))),
)

pub sides_fit : (s : State) (k : ℕ) → ((i : ℕ) → i < 4 * k → get_or s.quads i 0 < 4294967296) → All (λ (e : Edge). e.to < 4294967296) (quads_edges s k)
unfolding quads_edges for_up
sides_fit s zero ids = tt
sides_fit s (suc k) ids =
    all_append _ (quads_edges s k) (quad_edges (quad_at s k)) (sides_fit s k (λ i h. ids i (omega arith))) (quad_fits s k ids)

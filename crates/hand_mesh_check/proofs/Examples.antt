-- One mesh that passes 23, and one change for each clause that refuses it; 24 on the smallest fronts. The check computes each.
use Rattle.std.specs.Prelude.{◌≡◌, refl, false, List, [], ◌∷◌, ℕ, Float}
use Rattle.std.proofs.Math.ListN.{replicate}
use Rattle.std.specs.Float.{nan, inf}
use Rattle.std.specs.Float.Ieee.{of_bits, lt, le, eq}
use Rattle.laws.specs.Loop.{for_up, any_up, sum_up}
use Rattle.numbers.specs.Float.{bits, zero_f, one_f, is_finite, abs_f}
use Rattle.topology.specs.Links.{link_of}
use Rattle.field_direction.specs.Direction.{within}
use Rattle.front.specs.State.{State, counted, node_places, quad_places, edge_places}
use Rattle.hand_mesh_check.specs.Check.{all_off, lent_state, beyond_places, ids_beyond, link_unsound, link_count, front_unsound, coordinate_unsound}
use Rattle.hand_mesh_check.specs.Check.{mesh_unsound, mesh_refusal, links_of, edge_refusal}

abbrev none : ℕ
none = 4294967295

-- two nodes, (0, 0) and (1, 0), joined both ways: the counts, x of node 0, the links, quads and edges are what is changed below
abbrev mesh : ℕ → ℕ → ℕ → ℕ → Float → List ℕ → List ℕ → List ℕ → List ℕ → State
mesh n q e f x next prev quads edges =
    lent_state (x ∷ one_f ∷ []) (zero_f ∷ zero_f ∷ []) next prev (7 ∷ 65535 ∷ []) quads edges (counted n q e f)

abbrev pair : List ℕ
pair = 1 ∷ 0 ∷ []

abbrev counts : ℕ → ℕ → ℕ → ℕ → State
counts n q e f = mesh n q e f zero_f pair pair [] []

abbrev links : List ℕ → List ℕ → State
links next prev = mesh 2 0 0 2 zero_f next prev [] []

abbrev at : Float → State
at x = mesh 2 0 0 2 x pair pair [] []

pub record Meshes : Type 0 where
  pub passes : mesh_refusal (counts 2 0 0 2) ≡ 0
  -- counts beyond the buffers
  pub nodes : mesh_refusal (counts 3 0 0 2) ≡ 23
  pub quads : mesh_refusal (counts 2 1 0 2) ≡ 23
  pub edges : mesh_refusal (counts 2 0 1 2) ≡ 23
  -- the numbers of the loops have one place: node places are those of the shortest list
  pub numbers : mesh_refusal (lent_state (zero_f ∷ one_f ∷ []) (zero_f ∷ zero_f ∷ []) pair pair (7 ∷ []) [] [] (counted 2 0 0 2)) ≡ 23
  -- ids out of range
  pub link : mesh_refusal (links (2 ∷ 0 ∷ []) pair) ≡ 23
  pub quad_sound : mesh_refusal (mesh 2 1 0 2 zero_f pair pair (0 ∷ 1 ∷ 0 ∷ 1 ∷ []) []) ≡ 0
  pub quad : mesh_refusal (mesh 2 1 0 2 zero_f pair pair (0 ∷ 1 ∷ 0 ∷ 2 ∷ []) []) ≡ 23
  pub edge_sound : mesh_refusal (mesh 2 0 1 2 zero_f pair pair [] (0 ∷ 1 ∷ [])) ≡ 0
  pub edge : mesh_refusal (mesh 2 0 1 2 zero_f pair pair [] (0 ∷ 2 ∷ [])) ≡ 23
  -- past the counts anything may stand
  pub past : mesh_refusal (mesh 2 0 0 2 zero_f pair pair (9 ∷ 9 ∷ 9 ∷ 9 ∷ []) (9 ∷ 9 ∷ [])) ≡ 0
  -- links that aren't inverse to each other
  pub back : mesh_refusal (links pair (1 ∷ 1 ∷ [])) ≡ 23
  pub no_next : mesh_refusal (links (1 ∷ none ∷ []) pair) ≡ 23
  pub no_back : mesh_refusal (links pair (1 ∷ none ∷ [])) ≡ 23
  -- a node linked to itself is
  pub itself : mesh_refusal (mesh 1 0 0 1 zero_f (0 ∷ []) (0 ∷ []) [] []) ≡ 0
  -- not as many as counted
  pub one_counted : mesh_refusal (counts 2 0 0 1) ≡ 23
  pub three_counted : mesh_refusal (counts 2 0 0 3) ≡ 23
  -- coordinates: 1,001 passes, and the float above it doesn't
  pub at_the_rim : mesh_refusal (at (bits 0x408f_4800_0000_0000)) ≡ 0
  pub past_the_rim : mesh_refusal (at (bits 0x408f_4800_0000_0001)) ≡ 23
  pub below : mesh_refusal (at (bits 0xc08f_4800_0000_0001)) ≡ 23
  pub infinite : mesh_refusal (at (inf false)) ≡ 23
  pub no_number : mesh_refusal (at nan) ≡ 23

pub meshes : Meshes
unfolding of_bits is_finite abs_f le eq lt replicate for_up any_up sum_up link_of within node_places quad_places edge_places all_off beyond_places ids_beyond
    link_unsound link_count front_unsound coordinate_unsound mesh_unsound mesh_refusal
meshes =
    record {
      passes = refl;
      nodes = refl;
      quads = refl;
      edges = refl;
      numbers = refl;
      link = refl;
      quad_sound = refl;
      quad = refl;
      edge_sound = refl;
      edge = refl;
      past = refl;
      back = refl;
      no_next = refl;
      no_back = refl;
      itself = refl;
      one_counted = refl;
      three_counted = refl;
      at_the_rim = refl;
      past_the_rim = refl;
      below = refl;
      infinite = refl;
      no_number = refl;
    }

pub record EdgeRefusals : Type 0 where
  pub there : edge_refusal (counts 2 0 0 2) 0 1 ≡ 0
  -- a node off the front has no edge, not even to the mark of none
  pub mark : edge_refusal (links_of (none ∷ []) 1) 0 none ≡ 24
  -- an edge runs one way
  pub reversed : edge_refusal (links_of (1 ∷ none ∷ []) 2) 1 0 ≡ 24
  -- no node
  pub past : edge_refusal (links_of (1 ∷ none ∷ []) 2) 2 1 ≡ 24

pub edges_refused : EdgeRefusals
unfolding link_of all_off edge_refusal
edges_refused = record { there = refl; mark = refl; reversed = refl; past = refl }

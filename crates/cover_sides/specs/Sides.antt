-- The sides of a lent mesh's quads, and as numbers. Definitions only.
use Rattle.std.specs.Prelude.{◌≡◌, cond, List, [], ◌∷◌, ℕ, ◌+◌, ◌*◌, ◌≤◌, ◌<◌, eqb, map, length, get_or}
use Rattle.front.specs.State.{State}
use Rattle.front_lent_mesh.specs.declared.QuadIds.{QuadIds}
use Rattle.books.specs.Book.{Edge, Quad}
use Rattle.books.specs.Net.{quads_edges}

-- the sides of all the quads of a mesh
abbrev pub sides_of : State → List Edge
sides_of s = quads_edges s s.counts.quads

-- a quad as its ids are read
abbrev pub quad_of : QuadIds → Quad
quad_of q = record { a = q.a; b = q.b; d = q.d; c = q.c }

-- the number of a side: two sides have the same only if they are the same, since ids have 32 bits
abbrev pub side_key : Edge → ℕ
side_key e = e.from * 4294967296 + e.to

-- how often a number stands in a list
unfoldable pub count_key : ℕ → List ℕ → ℕ
count_key x [] = 0
count_key x (y ∷ ys) = cond (eqb y x) 1 0 + count_key x ys

-- the quads' ids have 32 bits
abbrev pub SidesFit : State → Type 0
SidesFit s = (i : ℕ) → i < 4 * s.counts.quads → get_or s.quads i 0 < 4294967296

-- ids have 32 bits, and `keys` are the numbers of a mesh's sides, in rising order
pub record SidesListed (s : State) (keys : List ℕ) : Type 0 where
  pub fit : SidesFit s
  pub counts : (x : ℕ) → count_key x keys ≡ count_key x (map side_key (sides_of s))
  pub up : (i j : ℕ) → i ≤ j → j < length keys → get_or keys i 0 ≤ get_or keys j 0

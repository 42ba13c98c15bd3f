-- Hand stepping: the front after a quad, read from the front before it, and what a preview answers and writes. Definitions only.
use Rattle.std.specs.Prelude.{cond, List, Result, Ok, Err, ◌≡◌, ℕ, ◌+◌, ◌*◌, ◌/◌, leb, ltb, eqb, length, set, Float, Option, Some, None}
use Rattle.laws.specs.Loop.{for_up}
use Rattle.topology.specs.Links.{off, update, link_of}
use Rattle.outline.specs.Outline.{Outline, first_of}
use Rattle.field_direction.specs.Record.{FieldRecord}
use Rattle.front.specs.declared.Corner.{Corner}
use Rattle.front.specs.declared.Corner.TheVariants.{Reused, Fresh}
use Rattle.front.specs.State.{State, next_of}
use Rattle.front.specs.Place.{added, corner_id, is_full}
use Rattle.front.specs.Stores.{Ids}
use Rattle.front.specs.declared.FarCorners.{FarCorners}
use Rattle.paving.specs.Attempt.{try_edge}
use Rattle.paving.specs.Advance.{most_quads}
use Rattle.hand_mesh_check.specs.Check.{mesh_refusal, edge_refusal}
use Rattle.hand_steps.specs.declared.StepOutcome.{StepOutcome}
use Rattle.hand_steps.specs.declared.StepOutcome.TheVariants.{Placed, None as NoQuad, Full, Cap}
use Rattle.hand_steps.specs.Hand.{place_on}
use Rattle.hand_previews.specs.declared.Foreseen.{Foreseen}
use Rattle.hand_previews.specs.declared.View.{View}

-- ---- the list of front edges, by their first node

-- a list of edges, two numbers an edge, and how many there are
pub record EdgeList : Type 0 where
  pub list : List ℕ
  pub count : ℕ

abbrev pub edge_list : List ℕ → ℕ → EdgeList
edge_list l n = record { list = l; count = n }

-- the edge from u is written in the next two places, where there is one
abbrev pub edge_turn : (ℕ → ℕ) → ℕ → EdgeList → EdgeList
edge_turn g u w =
    cond (eqb (g u) off) w (edge_list (set (set w.list (2 * w.count) u) (2 * w.count + 1) (g u)) (w.count + 1))

-- the edges from the first n nodes
unfoldable pub front_listed : ℕ → (ℕ → ℕ) → List ℕ → EdgeList
front_listed n g l = for_up n (edge_turn g) (edge_list l 0)

-- ---- what would become of the edge a to b, and the quad that would be placed: none at the cap, and none that is full

abbrev pub foresight : StepOutcome → Option FarCorners → Foreseen
foresight w q = record { outcome = w; quad = q }

abbrev pub foreseen : ℕ → ℕ → Option FarCorners → State → Foreseen
foreseen a b None s = foresight NoQuad None
foreseen a b (Some q) s = cond (is_full s a b q.c q.d) (foresight Full None) (foresight Placed (Some q))

unfoldable pub foreseen_on : Outline → Float → FieldRecord → ℕ → ℕ → State → Foreseen
foreseen_on o size field a b s = cond (leb most_quads s.counts.quads) (foresight Cap None) (foreseen a b (try_edge o size field s a b) s)

-- ---- THE PREVIEW: a view of the mesh after a placing in a copy

-- 23 of the mesh, 23 of a list with fewer places than the front's edges and two more, then 24
unfoldable pub preview_refusal : State → ℕ → ℕ → ℕ → ℕ
preview_refusal s places a b = first_of (mesh_refusal s) (first_of (cond (ltb places (s.counts.front + 2)) 23 0) (edge_refusal s a b))

-- what the placing answers, its quad, and how many front edges it leaves
abbrev pub view_on : Outline → Float → FieldRecord → ℕ → ℕ → State → View
view_on o size field a b s =
    let h = place_on o size field a b s in
    record { outcome = h.outcome; quad = (foreseen_on o size field a b s).quad; front = h.state.counts.front }

-- what a preview answers; an edge takes two numbers of the list
unfoldable pub preview_answer : Outline → Float → FieldRecord → ℕ → ℕ → State → List ℕ → Result View ℕ
preview_answer o size field a b s list =
    let refusal = preview_refusal s (length list / 2) a b in
    cond (eqb refusal 0) (Ok (view_on o size field a b s)) (Err refusal)

-- the list after it: the front edges that the placing leaves, u then v, by their first node; places past them, and a refused preview's, keep their contents
unfoldable pub preview_list : Outline → Float → FieldRecord → ℕ → ℕ → State → List ℕ → List ℕ
preview_list o size field a b s list =
    let t = (place_on o size field a b s).state in
    cond (eqb (preview_refusal s (length list / 2) a b) 0) (front_listed t.counts.nodes (next_of t) list).list list

-- what `preview` ensures: of the edge a to b in s it answers r, and leaves the list as `after`
pub record PreviewTaken (o : Outline) (size : Float) (field : FieldRecord) (a b : ℕ) (s : State) (before : List ℕ) (r : Result View ℕ) (after : List ℕ)
    : Type 0 where
  pub answer : r ≡ preview_answer o size field a b s before
  pub list : after ≡ preview_list o size field a b s before

-- ---- how the code reads the links after a quad: by the changes of `move_front`

-- u to v comes off, where it is there
abbrev pub remove_link : ℕ → ℕ → (ℕ → ℕ) → ℕ → ℕ
remove_link u v g x = cond (eqb (g u) v) (update g u off x) (g x)

abbrev pub take_link : Corner → ℕ → ℕ → (ℕ → ℕ) → ℕ → ℕ
take_link (Reused id) u v g x = remove_link u v g x
take_link (Fresh _ _) u v g x = g x

abbrev pub put_link : Corner → ℕ → ℕ → (ℕ → ℕ) → ℕ → ℕ
put_link (Reused id) u v g x = g x
put_link (Fresh _ _) u v g x = update g u v x

-- the sides of the quad that are on the front come off
unfoldable pub bare_links : Corner → Corner → ℕ → ℕ → ℕ → ℕ → (ℕ → ℕ) → ℕ → ℕ
bare_links c d a b id_d id_c g = take_link d b id_d (take_link c id_c a (remove_link a b g))

unfoldable pub moved_links : Corner → Corner → ℕ → ℕ → ℕ → ℕ → (ℕ → ℕ) → ℕ → ℕ
moved_links c d a b id_d id_c g = put_link d id_d b (update (put_link c a id_c (bare_links c d a b id_d id_c g)) id_c id_d)

-- node u has a link
abbrev pub is_on : (ℕ → ℕ) → ℕ → ℕ
is_on g u = cond (eqb (g u) off) 0 1

-- the links, and how many nodes there are, once the quad is placed
abbrev pub shown_links : Option FarCorners → ℕ → ℕ → ℕ → (ℕ → ℕ) → ℕ → ℕ
shown_links None a b n g x = g x
shown_links (Some q) a b n g x = moved_links q.c q.d a b (corner_id (n + added q.c) q.d) (corner_id n q.c) g x

abbrev pub shown_nodes : Option FarCorners → ℕ → ℕ
shown_nodes None n = n
shown_nodes (Some q) n = n + (added q.c + added q.d)

-- the quad's ids are those of nodes
abbrev pub QuadKnown : FarCorners → ℕ → ℕ → ℕ → Type 0
QuadKnown q n a b = Ids (n + (added q.c + added q.d)) a b (corner_id n q.c) (corner_id (n + added q.c) q.d)

-- the links as the code reads them, before the quad and after it
abbrev pub links_before : ℕ → List ℕ → ℕ → ℕ
links_before n next = link_of n next

abbrev pub links_after : Option FarCorners → ℕ → ℕ → ℕ → List ℕ → ℕ → ℕ
links_after q a b n next = shown_links q a b n (links_before n next)

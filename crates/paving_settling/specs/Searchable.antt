-- What the pools of a paving have filed and the list of tries remembers, and that a placing keeps it.
use Rattle.std.specs.Prelude.{Bool, true, false, List, ◌≡◌, refl, ℕ, ◌+◌, ◌*◌, ◌/◌, ◌<◌, ◌≤◌, ltb, length, get_or, Float, Ok, Err}
use Rattle.std.proofs.Common.{sym, ◌∙◌, ap, subst, arith, ltb-true, ltb-false}
use Rattle.index_pools.specs.Pool.{cleared_pool, Indexed}
use Rattle.index_key_rects.specs.Rects.{node_rect}
use Rattle.index_pools.specs.FileLaws.{indexed_same, indexed_none}
use Rattle.outline.specs.declared.Point.{Point}
use Rattle.outline.specs.Outline.{Outline}
use Rattle.field_direction.specs.declared.Grid.{Grid}
use Rattle.field_direction.specs.Record.{FieldRecord}
use Rattle.front.specs.declared.Corner.{Corner}
use Rattle.front.specs.declared.Counts.{Counts}
use Rattle.front.specs.declared.Full.{Full}
use Rattle.topology.specs.Links.{off, link_read}
use Rattle.front.specs.State.{State, next_of, edge_from, edge_to}
use Rattle.front.specs.Place.{place}
use Rattle.front.specs.Stores.{PlacesQuad}
use Rattle.front.specs.Sound.{Frame}
use Rattle.front.proofs.FrameLaws.{extends_at, frame_node}
use Rattle.front.specs.Ready.{Joined, Ready}
use Rattle.front.proofs.KnownLaws.{placed_full, placed_done}
use Rattle.paving.specs.declared.Scratch.{Scratch}
use Rattle.paving.specs.declared.Surroundings.{Surroundings}
use Rattle.paving.specs.Lent.{outline_in, field_in}
use Rattle.paving_indexed.specs.Rects.{node_rects, edge_rects, NodesFiled, EdgesFiled}
use Rattle.paving_attempts.specs.Seen.{seen_edges}
use Rattle.paving_retries.specs.Vain.{forgotten, Remembers}
use Rattle.paving_snapshots.specs.Stretches.{OffBoth, Stretches, FewerTries}
use Rattle.paving_snapshots.proofs.OffLaws.{off_stays}
use Rattle.paving_retries.proofs.VainBase.{Forgets, forgets}
use Rattle.paving_retries.proofs.VainLaws.{forgotten_remembers, remembers_later, remembers_same, remembers_fewer}
use Rattle.paving_retries.specs.Untried.{seen_mesh}
use Rattle.paving_settling.specs.Paveable.{Paveable, held, later_placed}

-- ---- definitions

-- the nodes and edges counted are filed
pub record Searchable (size : Float) (xs ys : List Float) (edges : List ℕ) (counts : Counts) (node_pool edge_pool : List ℕ) : Type 0 where
  pub nodes_filed : Indexed node_pool (node_rects size xs ys) counts.nodes
  pub edges_filed : Indexed edge_pool (edge_rects size xs ys edges) counts.edges

abbrev pub SearchableIn : Float → State → List ℕ → List ℕ → Type 0
SearchableIn size s node_pool edge_pool = Searchable size s.xs s.ys s.edges s.counts node_pool edge_pool

-- those that t counts and s doesn't can be filed
pub record Addable (size : Float) (s t : State) (node_pool edge_pool : List ℕ) : Type 0 where
  pub nodes : NodesFiled node_pool size t.xs t.ys s.counts.nodes t.counts.nodes
  pub edges : EdgesFiled edge_pool size t.xs t.ys t.edges s.counts.edges t.counts.edges

-- and what the list has of an edge was tried in vain, and of a stretch is off the front
pub record Helped (o : Outline) (size : Float) (field : FieldRecord) (xs ys : List Float) (next snapshot edges : List ℕ) (counts : Counts)
    (node_pool edge_pool tried : List ℕ) : Type 0 where
  pub search : Searchable size xs ys edges counts node_pool edge_pool
  pub remembers : Remembers o size field tried (seen_edges xs ys edges counts)
  pub stretches : Stretches tried counts.nodes next snapshot

abbrev pub HelpedIn : Surroundings → State → Scratch → Type 0
HelpedIn a s t =
    Helped (outline_in a) a.size (field_in a) s.xs s.ys s.next s.snapshot s.edges s.counts t.node_pool.now t.edge_pool.now t.tried.now

-- ---- what was there is filed where it was

module _ (size : Float) (s t : State) (F : Frame s t) where
  node_kept : (id : ℕ) → id < s.counts.nodes → node_rects size s.xs s.ys id ≡ node_rects size t.xs t.ys id
  node_kept id h = ap (λ (p : Point). node_rect size p) (sym (frame_node s t F id h))

  edge_kept : Joined s.counts.nodes s → (k : ℕ) → k < s.counts.edges
      → edge_rects size s.xs s.ys s.edges k ≡ edge_rects size t.xs t.ys t.edges k
  edge_kept joined k h =
      let ends = joined k h in
      let from : get_or t.edges (2 * k) 0 ≡ edge_from s k = extends_at _ _ s.edges t.edges F.edge_list (2 * k) 0 (omega arith) in
      let to : get_or t.edges (2 * k + 1) 0 ≡ edge_to s k = extends_at _ _ s.edges t.edges F.edge_list (2 * k + 1) 0 (omega arith) in
      rw (from, to, frame_node s t F (edge_from s k) (omega (arith, ends.0, ends.1)), frame_node s t F (edge_to s k) ends.1) refl

  pub addable : Joined s.counts.nodes s → 2 * t.counts.edges ≤ length t.edges → {node_pool edge_pool : List ℕ}
      → SearchableIn size s node_pool edge_pool → Addable size s t node_pool edge_pool
  addable joined fit {node_pool} {edge_pool} S =
      record {
        nodes = record { more = F.nodes; filed = indexed_same node_pool _ _ _ node_kept S.nodes_filed };
        edges = record { more = F.edges; lent = fit; filed = indexed_same edge_pool _ _ _ (edge_kept joined) S.edges_filed };
      }

-- ---- stretches

-- a later state has the stretches, where what was off the front stays off it and no stretch begins at a new node
stretches_later : (l : List ℕ) (s t : State) → s.counts.nodes ≤ t.counts.nodes → s.counts.nodes ≤ length s.next → t.counts.nodes ≤ length t.next
    → ((i : ℕ) → i < s.counts.nodes → next_of s i ≡ off → next_of t i ≡ off) → Stretches l s.counts.nodes s.next s.snapshot
    → Stretches (forgotten s.counts.nodes t.counts.nodes l) t.counts.nodes t.next s.snapshot
stretches_later l s t more fit_s fit_t stays S a room node none i low high = by (ltb a N) refl
  where
    N : ℕ
    N = s.counts.nodes

    G : Forgets N t.counts.nodes l (forgotten N t.counts.nodes l)
    G = forgets N l t.counts.nodes

    had : a < length l / 3
    had = omega (arith, G.long)

    by : (b : Bool) → ltb a N ≡ b → OffBoth t.counts.nodes t.next s.snapshot i
    by true e =
        let old = ltb-true a N e in
        let K = G.kept a old in
        let O = S a had old (sym K.0 ∙ none) i low (omega (arith, K.1.0)) in
        let less = O.0 in
        let gone = stays i less (sym (link_read N s.next i less fit_s) ∙ O.1) in
        (omega arith, link_read t.counts.nodes t.next i (omega arith) fit_t ∙ gone, O.2)
    by false e = absurd (omega (arith, (G.none a (ltb-false a N e) node had).1))

-- ---- a placing

module _ (o : Outline) (g : Grid) (values : List Float) (size : Float) (s : State) (P : Paveable g values s)
    (a b : ℕ) (c d : Corner) (R : Ready s a b c d) {node_pool edge_pool : List ℕ} (S : SearchableIn size s node_pool edge_pool) where
  module _ {u : Unit {0}} (t : State) (D : PlacesQuad a b c d s (Ok u) t) where
    -- what it adds can be filed
    pub placed_adds : Addable size s t node_pool edge_pool
    placed_adds =
        let f = placed_done a b c d s t u D in
        let L = later_placed g values s P a b c d R.choice f.0 in
        subst (λ (t : State). Addable size s t node_pool edge_pool) (sym f.1)
        (addable size s (place a b c d s) L.frame P.known.joined (held g values (place a b c d s) L.paveable).edges S)

  module _ (field : FieldRecord) (tried : List ℕ) (M : Remembers o size field tried (seen_mesh s))
      (T : Stretches tried s.counts.nodes s.next s.snapshot) where
    -- where it is full, nothing changes
    pub full_helped : (e : Full) (t : State) → PlacesQuad a b c d s (Err e) t
        → Helped o size field t.xs t.ys t.next t.snapshot t.edges t.counts node_pool edge_pool tried
    full_helped e t Q =
        let f = placed_full a b c d s t e Q in
        subst (λ (t : State). Helped o size field t.xs t.ys t.next t.snapshot t.edges t.counts node_pool edge_pool tried) (sym f.1)
        (record { search = S; remembers = M; stretches = T })

    done_remembers : (u : Unit {0}) (t : State) → PlacesQuad a b c d s (Ok u) t
        → Remembers o size field (forgotten s.counts.nodes t.counts.nodes tried) (seen_mesh t)
    done_remembers u t D =
        let f = placed_done a b c d s t u D in
        let L = later_placed g values s P a b c d R.choice f.0 in
        let u = place a b c d s in
        let l = forgotten s.counts.nodes u.counts.nodes tried in
        let few = (held g values u L.paveable).few in
        subst (λ (t : State). Remembers o size field (forgotten s.counts.nodes t.counts.nodes tried) (seen_mesh t)) (sym f.1)
        (remembers_same o size field l u (seen_mesh u) refl refl refl refl
        (remembers_later o size field tried s u L.frame few (remembers_same o size field tried (seen_mesh s) s refl refl refl refl M)))

    done_stretches : (u : Unit {0}) (t : State) → PlacesQuad a b c d s (Ok u) t
        → Stretches (forgotten s.counts.nodes t.counts.nodes tried) t.counts.nodes t.next s.snapshot
    done_stretches u t D =
        let f = placed_done a b c d s t u D in
        let L = later_placed g values s P a b c d R.choice f.0 in
        let u = place a b c d s in
        subst (λ (t : State). Stretches (forgotten s.counts.nodes t.counts.nodes tried) t.counts.nodes t.next s.snapshot) (sym f.1)
        (stretches_later tried s u L.frame.nodes (held g values s P).next (held g values u L.paveable).next
        (off_stays P.sampled s P.loops a b c d P.sound R.choice f.0) T)

    -- where it is done, new nodes and edges are filed, and nothing was tried from the nodes
    pub done_helped : (u : Unit {0}) (t : State) → PlacesQuad a b c d s (Ok u) t → {node_pool₁ edge_pool₁ tried₁ : List ℕ}
        → Searchable size t.xs t.ys t.edges t.counts node_pool₁ edge_pool₁ → tried₁ ≡ forgotten s.counts.nodes t.counts.nodes tried
        → Helped o size field t.xs t.ys t.next s.snapshot t.edges t.counts node_pool₁ edge_pool₁ tried₁
    done_helped u t D found left =
        record {
          search = found;
          remembers = rw left (done_remembers u t D);
          stretches = rw left (done_stretches u t D);
        }

-- ---- the start

-- of an emptied pool everything is still to be filed
pub all_addable : (size : Float) (xs ys : List Float) (edges : List ℕ) (k : Counts) → 2 * k.edges ≤ length edges
    → (node_pool₀ edge_pool₀ : List ℕ) {node_pool edge_pool : List ℕ} → node_pool ≡ cleared_pool node_pool₀ → edge_pool ≡ cleared_pool edge_pool₀
    → NodesFiled node_pool size xs ys 0 k.nodes × EdgesFiled edge_pool size xs ys edges 0 k.edges
all_addable size xs ys edges k fit node_pool₀ edge_pool₀ en ee = (
  record { more = omega arith; filed = rw en (indexed_none node_pool₀ (node_rects size xs ys)) },
  record { more = omega arith; lent = fit; filed = rw ee (indexed_none edge_pool₀ (edge_rects size xs ys edges)) },
)

-- at first nothing is remembered
pub all_forgotten : (o : Outline) (size : Float) (field : FieldRecord) (xs ys : List Float) (next snapshot edges : List ℕ) (k : Counts)
    {node_pool edge_pool : List ℕ} → Searchable size xs ys edges k node_pool edge_pool → (l : List ℕ) {tried : List ℕ} → tried ≡ forgotten 0 k.nodes l
    → Helped o size field xs ys next snapshot edges k node_pool edge_pool tried
all_forgotten o size field xs ys next snapshot edges k found l e =
    rw e
    (record {
      search = found;
      remembers = forgotten_remembers o size field l (seen_edges xs ys edges k);
      stretches = λ a room node none i low high.
          let G = forgets 0 l k.nodes in
          absurd (omega (arith, (G.none a (omega arith) node (omega (arith, G.long))).1));
    })

-- the snapshot is taken
pub helped_taken : (o : Outline) (size : Float) (field : FieldRecord) (xs ys : List Float) (next snapshot edges : List ℕ) (k : Counts)
    (node_pool edge_pool tried : List ℕ) → Helped o size field xs ys next snapshot edges k node_pool edge_pool tried
    → {snapshot₁ tried₁ : List ℕ} → Stretches tried₁ k.nodes next snapshot₁ → FewerTries tried tried₁
    → Helped o size field xs ys next snapshot₁ edges k node_pool edge_pool tried₁
helped_taken o size field xs ys next snapshot edges k node_pool edge_pool tried H {tried₁ = tried₁} S F =
    record { search = H.search; remembers = remembers_fewer o size field tried tried₁ (seen_edges xs ys edges k) F H.remembers; stretches = S }

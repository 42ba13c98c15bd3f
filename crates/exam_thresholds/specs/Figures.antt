-- Thresholds at the nodes of a mesh, in tenths of a decibel, and the two figures kept of them: how many quads have all four, and the sum of the
-- thresholds of those quads. Definitions only.
use Rattle.std.specs.Prelude.{Bool, ◌&&◌, ◌||◌, cond, List, [], ◌∷◌, ℕ, ◌+◌, ◌-◌, ◌%◌, length, get_or, set, replicate, eqb, ltb, leb}
use Rattle.laws.specs.Loop.{sum_up}
use Rattle.outline.specs.Queries.{answer_by}
use Rattle.front_lent_mesh.specs.declared.QuadIds.{QuadIds}
use Rattle.front_lent_mesh.specs.Mesh.{Mesh, quad_of}

-- ---- thresholds

-- the greatest; anything above it means none
abbrev pub most_threshold : ℕ
most_threshold = 500

-- none, as it is written
abbrev pub no_threshold : ℕ
no_threshold = 65535

-- what the list has at id; past the list none
abbrev pub threshold_at : List ℕ → ℕ → ℕ
threshold_at t id = get_or t id no_threshold

-- a threshold stands at id, of n nodes
unfoldable pub stands : ℕ → List ℕ → ℕ → Bool
stands n t id = ltb id n && leb (threshold_at t id) most_threshold

-- the quad has all four
unfoldable pub is_complete : ℕ → List ℕ → QuadIds → Bool
is_complete n t q = stands n t q.a && (stands n t q.b && (stands n t q.d && stands n t q.c))

-- x, or 0 where its node was counted already
abbrev pub once_only : Bool → ℕ → ℕ
once_only repeated x = cond repeated 0 x

-- the thresholds of the quad's nodes, each node counted once
unfoldable pub quad_total : List ℕ → QuadIds → ℕ
quad_total t q =
    threshold_at t q.a + once_only (eqb q.b q.a) (threshold_at t q.b)
    + once_only (eqb q.d q.a || eqb q.d q.b) (threshold_at t q.d)
    + once_only (eqb q.c q.a || (eqb q.c q.b || eqb q.c q.d)) (threshold_at t q.c)

-- ---- the figures worked out afresh

-- what quad k adds to the count, and to the sum
unfoldable pub count_at : Mesh → List ℕ → ℕ → ℕ
count_at m t k = cond (is_complete m.nodes t (quad_of m k)) 1 0

unfoldable pub sum_at : Mesh → List ℕ → ℕ → ℕ
sum_at m t k = cond (is_complete m.nodes t (quad_of m k)) (quad_total t (quad_of m k)) 0

-- how many quads have all four
unfoldable pub count_afresh : Mesh → List ℕ → ℕ
count_afresh m t = sum_up m.quads (count_at m t)

-- the sum of all thresholds of those quads
unfoldable pub sum_afresh : Mesh → List ℕ → ℕ
sum_afresh m t = sum_up m.quads (sum_at m t)

-- ---- the figures moved

-- the quad names id
unfoldable pub names : QuadIds → ℕ → Bool
names q id = eqb q.a id || (eqb q.b id || (eqb q.d id || eqb q.c id))

-- f of quad k where it names id
unfoldable pub share_at : Mesh → ℕ → (ℕ → ℕ) → ℕ → ℕ
share_at m id f k = cond (names (quad_of m k) id) (f k) 0

-- f over the quads that name id
unfoldable pub share_of : Mesh → ℕ → (ℕ → ℕ) → ℕ
share_of m id f = sum_up m.quads (share_at m id f)

-- a figure moved by what was lost and won, as 32 bits have it
unfoldable pub moved : ℕ → ℕ → ℕ → ℕ
moved x lost won = (x + (4294967296 - lost) + won) % 4294967296

-- ---- what a call takes and leaves

-- the list of thresholds and the two figures
pub record Results : Type 0 where
  pub thresholds : List ℕ
  pub count : ℕ
  pub sum : ℕ

abbrev pub results : List ℕ → ℕ → ℕ → Results
results t count sum = record { thresholds = t; count = count; sum = sum }

-- the refusal, 0 for none, and the results as left
pub record Outcome : Type 0 where
  pub refusal : ℕ
  pub results : Results

abbrev pub outcome : ℕ → Results → Outcome
outcome refusal x = record { refusal = refusal; results = x }

-- x where the call is refused, else y
abbrev pub unless_refused : ℕ → Results → Results → Outcome
unless_refused refusal x y = answer_by (λ number. outcome number x) (outcome 0 y) refusal

-- ---- the three calls

-- id is no node, or past the list
unfoldable pub is_missing : ℕ → List ℕ → ℕ → Bool
is_missing n t id = leb n id || leb (length t) id

-- 15 where the node is missing, then `number` where v is no threshold
unfoldable pub refusal_at : ℕ → List ℕ → ℕ → ℕ → ℕ → ℕ
refusal_at n t id v number = cond (is_missing n t id) 15 (cond (ltb most_threshold v) number 0)

-- v written at id, and the figures moved by what the quads that name id had before and have after
unfoldable pub with_threshold : Mesh → Results → ℕ → ℕ → Results
with_threshold m x id v =
    let t = x.thresholds in
    let u = set t id v in
    results u (moved x.count (share_of m id (count_at m t)) (share_of m id (count_at m u)))
    (moved x.sum (share_of m id (sum_at m t)) (share_of m id (sum_at m u)))

-- an exam begins: none in every place, and both figures 0
unfoldable pub begin_answer : Results → Outcome
begin_answer x = outcome 0 (results (replicate (length x.thresholds) no_threshold) 0 0)

-- a threshold of v arrives at node id
unfoldable pub enter_answer : Mesh → Results → ℕ → ℕ → Outcome
enter_answer m x id v = unless_refused (refusal_at m.nodes x.thresholds id v 16) x (with_threshold m x id v)

-- the threshold at node id is withdrawn
unfoldable pub withdraw_answer : Mesh → Results → ℕ → Outcome
withdraw_answer m x id =
    unless_refused (refusal_at m.nodes x.thresholds id (threshold_at x.thresholds id) 17) x (with_threshold m x id no_threshold)

-- ---- what happens during an exam

pub data Event : Type 0 where
  enter : ℕ → ℕ → Event
  withdraw : ℕ → Event

unfoldable pub event_answer : Mesh → Results → Event → Outcome
event_answer m x (enter id v) = enter_answer m x id v
event_answer m x (withdraw id) = withdraw_answer m x id

-- what is left after a list of events, each on what the one before it left
unfoldable pub after_events : Mesh → Results → List Event → Results
after_events m x [] = x
after_events m x (e ∷ es) = after_events m (event_answer m x e).results es

-- The sampled outline as it stands in lent scratch, and the ids of quads. Statements only.
use Rattle.std.specs.Prelude.{◌≡◌, List, ℕ, ◌*◌, ◌<◌, ◌≤◌, length, take, get_or, Float}
use Rattle.outline.specs.Outline.{Outline}
use Rattle.topology.specs.Links.{off, link_of}
use Rattle.front.specs.declared.Paving.{Paving}
use Rattle.front.specs.State.{State}
use Rattle.books.specs.Book.{start_book, follow}

-- the lists are the nodes of the sampled outline, and the node after each
pub record StartLent (o : Outline) (size : Float) (xs ys : List Float) (next : List ℕ) : Type 0 where
  pub first : xs ≡ (start_book o size).xs
  pub second : ys ≡ (start_book o size).ys
  pub each : (length next ≡ length xs) × (length ys ≡ length xs)
  pub few : length next ≤ off
  pub after : (u : ℕ) → link_of (length next) next u ≡ follow (start_book o size).front u

-- a paving's first nodes are those of the sampled outline
pub record SampledIn (o : Outline) (size : Float) (p : Paving) : Type 0 where
  pub in_xs : p.counts.nodes ≤ length p.xs.now
  pub in_ys : p.counts.nodes ≤ length p.ys.now
  pub in_next : p.counts.nodes ≤ length p.next.now
  pub lent : StartLent o size (take p.counts.nodes p.xs.now) (take p.counts.nodes p.ys.now) (take p.counts.nodes p.next.now)

-- the quads' ids are nodes, and there are at most 250,000 quads
pub record QuadsNamed (s : State) : Type 0 where
  pub few : s.counts.quads ≤ 250000
  pub ids : (i : ℕ) → i < 4 * s.counts.quads → get_or s.quads i 0 < off

-- That a run has no fewer places than another.
use Rattle.std.specs.Prelude.{◌≤◌}
use Rattle.front.specs.State.{State, node_places, quad_places, edge_places}

-- ---- definitions

-- t has no fewer places than s
pub record NoFewer (s t : State) : Type 0 where
  pub nodes : node_places s ≤ node_places t
  pub quads : quad_places s ≤ quad_places t
  pub edges : edge_places s ≤ edge_places t

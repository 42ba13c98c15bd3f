-- How many places a run needs: what refusals 9 and 10 count. Definitions only.
use Rattle.std.specs.Prelude.{◌||◌, cond, ◌≡◌, ℕ, ◌≤◌, ltb, Float}
use Rattle.outline.specs.declared.Settings.{Settings}
use Rattle.outline.specs.Outline.{Outline}
use Rattle.outline.specs.Queries.{answer_by}
use Rattle.field_direction.specs.Record.{grid_nodes, most_field_nodes, FieldLists}
use Rattle.field_cross.specs.Grid.{bounds, grid_of, sweeps_refusal}
use Rattle.field_cross.specs.Field.{field_places, drawn_refusal, field_refusal}
use Rattle.front.specs.State.{State, most_nodes, node_places, edge_places}
use Rattle.front.specs.Sampling.{sampled_count, front_refusal}
use Rattle.run_whole.specs.Run.{run_refusal}
use Rattle.run_places.specs.declared.PlacesAnswer.{PlacesAnswer}

abbrev pub places_answered : ℕ → ℕ → ℕ → PlacesAnswer
places_answered refusal field_nodes sampled_nodes = record { refusal = refusal; field_nodes = field_nodes; sampled_nodes = sampled_nodes }

-- refused; or the nodes of the field's grid, once h has grown, and the nodes of the sampled outline
unfoldable pub places_answer : Outline → Float → PlacesAnswer
places_answer o size =
    answer_by (λ number. places_answered number 0 0) (places_answered 0 (grid_nodes (grid_of (bounds o) size)) (sampled_count o size)) (drawn_refusal o size)

-- WHAT A HOST GETS of an outline and a size, where `r` is answered
pub record PlacesGiven (o : Outline) (size : Float) (r : PlacesAnswer) : Type 0 where
  -- it is the definition's
  pub equal : r ≡ places_answer o size
  -- what is refused here a run refuses with the same number, whatever is lent and asked for
  pub refused : (r.refusal ≡ 0 → ⊥) → (set : Settings) (f : FieldLists) (s : State) → set.size ≡ size → run_refusal o set f s ≡ r.refusal
  -- otherwise a field is refused exactly where fewer places are lent than answered, and with 9
  pub field : r.refusal ≡ 0 → (n : ℕ) (f : FieldLists) → sweeps_refusal n ≡ 0
      → field_refusal o size n f ≡ cond (ltb (field_places f) r.field_nodes) 9 0
  -- and the sampled outline exactly where fewer node places or edge places are, and with 10
  pub front : r.refusal ≡ 0 → (s : State)
      → front_refusal o size s ≡ cond (ltb (node_places s) r.sampled_nodes || ltb (edge_places s) r.sampled_nodes) 10 0
  -- so with as many places as answered no run is refused
  pub enough : r.refusal ≡ 0 → (set : Settings) (f : FieldLists) (s : State) → set.size ≡ size → sweeps_refusal set.sweeps ≡ 0
      → r.field_nodes ≤ field_places f → r.sampled_nodes ≤ node_places s → r.sampled_nodes ≤ edge_places s → run_refusal o set f s ≡ 0
  -- and so many can be lent: a field has at most 250,000 nodes, and the nodes sampled are no more than can be numbered
  pub few : (r.field_nodes ≤ most_field_nodes) × (r.sampled_nodes ≤ most_nodes)

-- A field writes only the places of its nodes: past them both lists keep their contents. Assumes nothing.
use Rattle.std.specs.Prelude.{◌≡◌, Bool, cond, List, ℕ, ◌+◌, ◌*◌, ◌<◌, eqb, get_or, set, drop, Float}
use Rattle.std.proofs.Math.Path.{refl}
use Rattle.std.proofs.Common.{◌∙◌, mul_comm, arith}
use Rattle.std.proofs.Math.Bool.{true, false}
use Rattle.std.proofs.Math.Seq.{drop-set-lt}
use Rattle.laws.specs.Loop.{Turn, go, out, onwards, answer, for_up, for_up_keeps, run}
use Rattle.outline.specs.declared.Point.{Point}
use Rattle.outline.specs.Outline.{Outline}
use Rattle.field_direction.specs.declared.Grid.{Grid}
use Rattle.field_direction.specs.Record.{grid_nodes, FieldLists, node_at}
use Rattle.field_direction.specs.Cells.{row_in}
use Rattle.field_sweeps.specs.Sweeps.{SweptField, swept, set_value, relaxed, sweep_node, sweep_row, sweep, sweep_turn, sweeps}
use Rattle.field_cross.specs.Grid.{bounds, grid_of}
use Rattle.field_cross.specs.Seeds.{seed_node, seed_row, seeded}
use Rattle.field_cross.specs.Field.{field_of}

-- ---- what a node's visit keeps of the values, every number of sweeps keeps

module _ (P : List Float → Type 0) (g : Grid) (marks : List ℕ)
    (visit : (j i : ℕ) (s : SweptField) → i < g.nx → j < g.ny → P s.values → P (sweep_node g marks j i s).values) where
  sweep_keeps : (values : List Float) → P values → P (sweep g marks values).values
  unfolding sweep sweep_row
  sweep_keeps values p =
      for_up_keeps (λ (j : ℕ) (s : SweptField). P s.values) g.ny (sweep_row g marks) (swept values true) p
      (λ j s l p. for_up_keeps (λ (i : ℕ) (s : SweptField). P s.values) g.nx (sweep_node g marks j) s p (λ i s h p. visit j i s h l p))

  abbrev SweepHeld : Turn (List Float) (List Float) → Type 0
  SweepHeld (go values) = P values
  SweepHeld (out values) = P values

  pub sweeps_keep : (n : ℕ) (values : List Float) → P values → P (sweeps n g marks values)
  unfolding sweeps run
  sweeps_keep n values p =
      last (for_up n (onwards (sweep_turn g marks)) (go values))
      (for_up_keeps (λ (k : ℕ) (t : Turn (List Float) (List Float)). SweepHeld t) n (onwards (sweep_turn g marks)) (go values) p keeps)
    where
      after : (s : SweptField) (quiet : Bool) → P s.values → SweepHeld (cond quiet (out s.values) (go s.values))
      after s true p = p
      after s false p = p

      keeps : (k : ℕ) (t : Turn (List Float) (List Float)) → k < n → SweepHeld t → SweepHeld (onwards (sweep_turn g marks) k t)
      keeps k (go v) h p = after (sweep g marks v) (sweep g marks v).quiet (sweep_keeps v p)
      keeps k (out v) h p = p

      last : (t : Turn (List Float) (List Float)) → SweepHeld t → P (answer (λ (v : List Float). v) t)
      last (go v) p = p
      last (out v) p = p

-- ---- the places past the nodes

-- the places past the grid's nodes are those of the lists lent
abbrev pub ValuesPast : Grid → List Float → List Float → Type 0
ValuesPast g before now = drop (2 * grid_nodes g) now ≡ drop (2 * grid_nodes g) before

pub record Past (g : Grid) (before now : FieldLists) : Type 0 where
  pub values : ValuesPast g before.values now.values
  pub marks : drop (grid_nodes g) now.marks ≡ drop (grid_nodes g) before.marks

module _ (g : Grid) where
  -- a node's number is below the number of nodes
  node_below : (i j : ℕ) → i < g.nx → j < g.ny → node_at g i j < grid_nodes g
  node_below i j h l = let r = row_in j g.ny g.nx l in let e = mul_comm g.nx g.ny in omega arith

  value_past : (before now : List Float) (id : ℕ) (v : Point) → id < grid_nodes g → ValuesPast g before now
      → ValuesPast g before (set_value now id v)
  unfolding set_value
  value_past before now id v h p =
      drop-set-lt (2 * grid_nodes g) (set now (2 * id) v.x) (2 * id + 1) v.y (omega arith)
      ∙ drop-set-lt (2 * grid_nodes g) now (2 * id) v.x (omega arith) ∙ p

  -- ---- seeds

  seeded_past : (o : Outline) (f : FieldLists) → Past g f (seeded o g f)
  unfolding seeded seed_row seed_node
  seeded_past o f =
      for_up_keeps (λ (j : ℕ) (s : FieldLists). Past g f s) g.ny (seed_row o g) f (record { values = refl; marks = refl })
      (λ j s l p. for_up_keeps (λ (i : ℕ) (s : FieldLists). Past g f s) g.nx (seed_node o g j) s p
      (λ i s h p. record {
        values = value_past f.values s.values (node_at g i j) _ (node_below i j h l) p.values;
        marks = drop-set-lt (grid_nodes g) s.marks (node_at g i j) _ (node_below i j h l) ∙ p.marks;
      }))

  -- ---- sweeps

  visit_past : (marks : List ℕ) (before : List Float) (j i : ℕ) (s : SweptField) → i < g.nx → j < g.ny → ValuesPast g before s.values
      → ValuesPast g before (sweep_node g marks j i s).values
  unfolding sweep_node relaxed
  visit_past marks before j i s h l p = pick (eqb (get_or marks (node_at g i j) 0) 0)
    where
      pick : (b : Bool) → ValuesPast g before (cond b (relaxed g j i s) s).values
      pick true = value_past before s.values (node_at g i j) _ (node_below i j h l) p
      pick false = p

pub field_past : (o : Outline) (size : Float) (n : ℕ) (f : FieldLists) → Past (grid_of (bounds o) size) f (field_of o size n f).lists
unfolding field_of
field_past o size n f =
    let g = grid_of (bounds o) size in
    let s = seeded_past g o f in
    record {
      values = sweeps_keep (ValuesPast g f.values) g (seeded o g f).marks (visit_past g (seeded o g f).marks f.values) n
          (seeded o g f).values s.values;
      marks = s.marks;
    }

-- `cover_sides::write_keys` meets its contract: `next_keys`.
use Rattle.std.proofs.Common.{◌≡◌, ◌*◌, ap, sym, ◌∙◌, refl, ℕ, List, take, take_all, map, length, arith}
use Rattle.laws.specs.Loop.{for_up}
use Rattle.front.specs.Lent.{mesh_state}
use Rattle.books.specs.Net.{quads_edges}
use Rattle.cover_sides.specs.Sides.{side_key}
use Rattle.cover_sides.proofs.Writing.{next_keys}
use Rattle.cover_sides.proofs.write_keys.Goals as goal

pub loop-k-init : goal.loop-k-init
unfolding quads_edges for_up
loop-k-init c = (refl, refl)

pub loop-k-preserved : goal.loop-k-preserved
loop-k-preserved c = (
  c.push_quad.ensures.long ∙ c.loop-k.invariant.0,
  next_keys (mesh_state c.args.mesh.now) c.loop-k.k _ _ _ c.quad_at.ensures c.push_quad.ensures.next c.loop-k.invariant.1,
)

pub returns : goal.returns
returns c =
    let last : c.loop-k.k ≡ c.args.mesh.now.counts.quads = omega arith in
    sym (take_all (4 * c.loop-k.k) c.loop-k.keys (omega (arith, c.loop-k.invariant.0, c.requires)))
    ∙ c.loop-k.invariant.1
    ∙ ap (λ (k : ℕ). map side_key (quads_edges (mesh_state c.args.mesh.now) k)) last

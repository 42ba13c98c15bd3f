-- What a mesh that 23 lets pass gives the code.
use Rattle.std.specs.Prelude.{◌≡◌, refl, Bool, true, false, not, ◌||◌, cond, List, ℕ, ◌*◌, ◌/◌, ◌<◌, ◌≤◌, min, eqb, ltb, length, get_or, Float}
use Rattle.std.proofs.Common.{sym, ap, ◌∙◌, arith, ltb-false, leb-false}
use Rattle.std.proofs.Math.Nat.{mul-div-le}
use Rattle.laws.specs.Loop.{any_up, any_none}
use Rattle.laws.specs.Tests.{neither}
use Rattle.topology.specs.Links.{off}
use Rattle.front.specs.State.{State}
use Rattle.hand_mesh_check.specs.Check.{beyond_nodes, node_unsound}
use Rattle.cover_check.specs.Check.{misfits, unfit}
use Rattle.cover_check.specs.Start.{QuadsNamed}

-- the counts fit the lists
pub record Fits (s : State) (keys : ℕ) : Type 0 where
  pub in_xs : s.counts.nodes ≤ length s.xs
  pub in_ys : s.counts.nodes ≤ length s.ys
  pub in_quads : 4 * s.counts.quads ≤ length s.quads
  pub in_keys : 4 * s.counts.quads ≤ keys
  pub few : s.counts.quads ≤ 250000

pub fits : (s : State) (keys : ℕ) → misfits s keys ≡ false → Fits s keys
unfolding misfits
fits s keys e =
    let a = neither (ltb (length s.xs) s.counts.nodes) _ e in
    let b = neither (ltb (length s.ys) s.counts.nodes) _ a.1 in
    let c = neither (ltb (min (length s.quads / 4) 250000) s.counts.quads) (ltb (keys / 4) s.counts.quads) b.1 in
    let quads = ltb-false (min (length s.quads / 4) 250000) s.counts.quads c.0 in
    let keyed = ltb-false (keys / 4) s.counts.quads c.1 in
    record {
      in_xs = ltb-false (length s.xs) s.counts.nodes a.0;
      in_ys = ltb-false (length s.ys) s.counts.nodes b.0;
      in_quads = omega (arith, quads, mul-div-le (length s.quads) 4);
      in_keys = omega (arith, keyed, mul-div-le keys 4);
      few = omega (arith, quads);
    }

-- and ids are nodes
pub record Named (s : State) (keys : ℕ) : Type 0 where
  pub fits : Fits s keys
  pub ids : (i : ℕ) → i < 4 * s.counts.quads → get_or s.quads i 0 < s.counts.nodes
  pub nodes : (i : ℕ) → i < s.counts.nodes → node_unsound s.xs s.ys i ≡ false

pub named : (s : State) (keys : ℕ) → unfit s keys ≡ false → Named s keys
unfolding unfit
named s keys e =
    let a = neither (misfits s keys) _ e in
    let b = neither (any_up (4 * s.counts.quads) (beyond_nodes s.counts.nodes s.quads)) (any_up s.counts.nodes (node_unsound s.xs s.ys)) a.1 in
    record {
      fits = fits s keys a.0;
      ids = λ i h. leb-false s.counts.nodes (get_or s.quads i 0) (any_none (beyond_nodes s.counts.nodes s.quads) (4 * s.counts.quads) b.0 i h);
      nodes = any_none (node_unsound s.xs s.ys) s.counts.nodes b.1;
    }

pub quads_named : (s : State) (keys : ℕ) → Named s keys → s.counts.nodes ≤ off → QuadsNamed s
quads_named s keys N few = record { few = N.fits.few; ids = λ i h. let l = N.ids i h in omega arith }

-- `Start::has` meets its contract: a node past the sampled outline's has no edge.
use Rattle.std.proofs.Common.{◌≡◌, sym, ap, ◌∙◌, ℕ, length, eqb, arith, le-ltb, ne_eqb}
use Rattle.topology.specs.Links.{off, link_read, link_out}
use Rattle.cover_check.proofs.Start.has.Goals as goal

pub returns-then-u-self : goal.returns-then-u-self
returns-then-u-self c =
    let S = c.args.self.now.sampled in
    let next = c.args.self.now.next.now in
    ap (λ (w : ℕ). eqb w c.args.v) (link_read (length next) next c.args.u c.if-u-self.true (omega arith) ∙ S.after c.args.u)

pub returns-else-u-self : goal.returns-else-u-self
returns-else-u-self c =
    let S = c.args.self.now.sampled in
    let next = c.args.self.now.next.now in
    le-ltb c.args.u (length next) c.if-u-self.false
    ∙ sym (ap (λ (w : ℕ). eqb w c.args.v) (sym (S.after c.args.u) ∙ link_out (length next) next c.args.u c.if-u-self.false) ∙ ne_eqb off c.args.v (λ e. omega (arith, c.requires)))

-- `hand_previews::LinksAfter::link` meets its contract.
use Rattle.std.specs.Prelude.{Option, ◌≤◌}
use Rattle.std.proofs.Common.{subst}
use Rattle.front.specs.declared.FarCorners.{FarCorners}
use Rattle.hand_previews.specs.Preview.{shown_nodes}
use Rattle.hand_previews.proofs.LinksAfter.link.Goals as goal

pub link_after-requires : goal.link_after-requires
link_after-requires c =
    let v = c.args.self.now in (
      subst (λ (q : Option FarCorners). shown_nodes q v.nodes ≤ 4294967294) c.in-Some.is v.fit.2,
      v.known c.in-Some.quad c.in-Some.is,
    )

-- `outline_orientation::Difference::sign` meets its contract: the loop's invariant is `LimbsCompared`. Assumes nothing.
use Rattle.std.proofs.Common.{length, refl, arith}
use Rattle.std.proofs.lemmas.List.{length_push}
use Rattle.std.proofs.lemmas.Slice.Zip.{zip_turn, zip_end}
use Rattle.outline_orientation.specs.Limbs.{compared_start, compared_next, compared_end}
use Rattle.outline_orientation.proofs.Limbs.{decided_then}
use Rattle.outline_orientation.proofs.Difference.sign.Goals as goal

pub loop-p-init : goal.loop-p-init
loop-p-init c = compared_start _ _

pub overflow_add-p : goal.overflow_add-p
overflow_add-p c =
    let at = c.loop-p in
    let t = zip_turn c.args.self.now.plus c.args.self.now.minus at.yielded _ at.p-iterator c.next.new.self _ (cc) (cc) at.yielded_by _ c.in-Some.is c.next.ensures.steps in
    omega (arith, c.requires.0 (length at.yielded), at.invariant.small_p, t.2 0)

pub overflow_add-n : goal.overflow_add-n
overflow_add-n c =
    let at = c.loop-p in
    let t = zip_turn c.args.self.now.plus c.args.self.now.minus at.yielded _ at.p-iterator c.next.new.self _ (cc) (cc) at.yielded_by _ c.in-Some.is c.next.ensures.steps in
    omega (arith, c.requires.1 (length at.yielded), at.invariant.small_n, t.3 0)

pub loop-p-preserved : goal.loop-p-preserved
loop-p-preserved c =
    let at = c.loop-p in
    let t = zip_turn c.args.self.now.plus c.args.self.now.minus at.yielded _ at.p-iterator c.next.new.self _ (cc) (cc) at.yielded_by _ c.in-Some.is c.next.ensures.steps in
    rw (length_push at.yielded (c.in-Some.field-0-0, c.in-Some.field-0-1), c.then-below.ensures, c.cmp.ensures, decided_then, t.2 0, t.3 0)
    (compared_next _ _ _ _ at.carried_p at.carried_n _ _ at.invariant t.0 (omega arith) c.requires.0 c.requires.1 refl refl)

pub returns : goal.returns
returns c =
    let at = c.loop-p in
    let t = zip_end c.args.self.now.plus c.args.self.now.minus at.yielded _ at.p-iterator c.next.new.self _ (cc) (cc) at.yielded_by c.in-None.is c.next.ensures.steps in
    rw (c.then.ensures, c.cmp-2.ensures, decided_then) (compared_end _ _ _ _ at.carried_p at.carried_n at.invariant (omega (arith, t)) (omega arith))

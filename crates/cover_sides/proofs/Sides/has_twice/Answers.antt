-- `Sides::has_twice` meets its contract: `twice_after`, `twice_before`, `twice_none` and `twice_err`.
use Rattle.std.proofs.Common.{◌≡◌, sym, ◌∙◌, ap, ℕ, ltb, Ok, Err, subst, arith, le-ltb}
use Rattle.std.proofs.lemmas.List.Sorted.{searched}
use Rattle.front.specs.Lent.{mesh_state}
use Rattle.cover_sides.proofs.Searching.{Searched, twice_after, twice_as_before, twice_none, twice_err}
use Rattle.cover_sides.proofs.Sides.has_twice.Goals as goal
use Rattle.cover_sides.proofs.Sides.has_twice.Goals.{After-binary_search}

-- what the search found
search_is : (c : After-binary_search) → Searched c.args.self.now.keys.now c.key-x.result c.binary_search.result
search_is c = searched _ _ _ c.binary_search.ensures.position c.args.self.now.listed.up

pub returns-then-is_at : goal.returns-then-is_at
returns-then-is_at c =
    let f = subst (Searched c.args.self.now.keys.now c.key-x.result) c.in-Ok.is (search_is (goal.at.returns-then-is_at c).After-binary_search) in
    c.if-is_at.true
    ∙ twice_after (mesh_state c.args.self.now.mesh.now) _ c.args.self.now.listed _ _ c.ranges.v.fits _ c.key-x.ensures _ f.0 f.1 (sym c.is_at.ensures ∙ c.if-is_at.true)

pub returns-then-i-gt0 : goal.returns-then-i-gt0
returns-then-i-gt0 c =
    let f = subst (Searched c.args.self.now.keys.now c.key-x.result) c.in-Ok.is (search_is (goal.at.returns-then-i-gt0 c).After-binary_search) in
    c.is_at-then-i-gt0.ensures
    ∙ twice_as_before (mesh_state c.args.self.now.mesh.now) _ c.args.self.now.listed _ _ c.ranges.v.fits _ c.key-x.ensures _ f.0 f.1 (sym c.is_at.ensures ∙ c.if-is_at.false)
    c.if-i-gt0.true

pub returns-else-i-gt0 : goal.returns-else-i-gt0
returns-else-i-gt0 c =
    let f = subst (Searched c.args.self.now.keys.now c.key-x.result) c.in-Ok.is (search_is (goal.at.returns-else-i-gt0 c).After-binary_search) in
    le-ltb 0 c.in-Ok.i c.if-i-gt0.false
    ∙ twice_none (mesh_state c.args.self.now.mesh.now) _ c.args.self.now.listed _ _ c.ranges.v.fits _ c.key-x.ensures _ f.0 f.1 (sym c.is_at.ensures ∙ c.if-is_at.false)
    (λ above. absurd (omega (arith, c.if-i-gt0.false)))

pub returns-in-Err : goal.returns-in-Err
returns-in-Err c =
    let f = subst (Searched c.args.self.now.keys.now c.key-x.result) c.in-Err.is (search_is (goal.at.returns-in-Err c).After-binary_search) in
    twice_err (mesh_state c.args.self.now.mesh.now) _ c.args.self.now.listed _ _ c.ranges.v.fits _ c.key-x.ensures _ f.1 f.2

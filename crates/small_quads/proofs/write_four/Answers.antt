-- `small_quads::write_four` meets its contract: the part written is `sets`. Assumes nothing.
use Rattle.std.proofs.Common.{◌≡◌, ℕ, ◌+◌, ◌-◌, ◌++◌, List, drop, take, sym, ap, ◌∙◌, append_assoc, drop-drop, arith}
use Rattle.std.proofs.lemmas.List.Edits.{sets-eq}
use Rattle.small_quads_lattice.specs.Fours.{points_of}
use Rattle.small_quads.proofs.write_four.Goals as goal

rest : (n : ℕ) (l : List ℕ) → drop (n + 4) l ≡ drop (n + 4 - n) (drop n l)
rest n l = let k : n + 4 - n ≡ 4 = omega arith in rw (k, drop-drop)

pub returns : goal.returns
returns c =
    let n = c.args.n in
    let l = c.args.list.now in
    rw (c.copy_from_slice.ensures.after, c.points_of.ensures)
    (sym (sets-eq (points_of c.args.k) l n c.requires ∙ append_assoc (take n l) (points_of c.args.k) _ ∙ ap (λ (z : List ℕ). take n l ++ (points_of c.args.k ++ z)) (rest n l)))

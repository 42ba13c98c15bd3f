-- Exact books and origins of the program's meshes: the exact books hold of every mesh that is printed (`books_printed`), and the numbers of its nodes, which aren't
-- printed, never mix (`origins_printed`). Assumes nothing.
use Rattle.std.specs.Prelude.{◌≡◌, refl, List, ℕ, zero, suc, ◌+◌, ◌*◌, T, get_or, take, drop, Float, Err, IfOk}
use Rattle.std.proofs.Common.{sym, subst, arith, length-take, length-drop, get_or-take, get_or-drop}
use Rattle.std.specs.Float.{nan, binary64}
use Rattle.std.specs.Float.Ieee.{fits}
use Rattle.std.specs.Float.Ieee.Bits.{of_bits-fits}
use Rattle.laws.specs.Tabulate.{tabulate, tabulate_length, tabulate_at}
use Rattle.outline.specs.declared.Settings.{Settings}
use Rattle.outline.specs.Outline.{Outline}
use Rattle.outline.specs.Accepted.{AllFit, OutlineFits}
use Rattle.run.specs.Run.{Lent, Ran, ran, accepted_run, refusal_of, run_answer, PavesBooks, PavesOrigins, Paves}
use Rattle.run.proofs.Laws.{paves_accepted, paves_refused}
use Rattle.file_outline.specs.File.{coordinate_at, file_points, request_of, outline_of}
use Rattle.file_listing.specs.Program.{program_lent}

-- ---- a file's coordinates are doubles, whatever its bytes

take_fits : (n : ℕ) (l : List Float) → AllFit l → AllFit (take n l)
take_fits n l h i lt =
    let len = length-take n l in
    subst (λ (x : Float). T (fits binary64 x)) (sym (get_or-take n l i nan (omega (arith, len)))) (h i (omega (arith, len)))

drop_fits : (n : ℕ) (l : List Float) → AllFit l → AllFit (drop n l)
drop_fits n l h i lt =
    let len = length-drop n l in
    subst (λ (x : Float). T (fits binary64 x)) (sym (get_or-drop n l i nan)) (h (n + i) (omega (arith, len)))

coordinate_fits : (file : List ℕ) (c : ℕ) → T (fits binary64 (coordinate_at file c))
unfolding coordinate_at
coordinate_fits file c = of_bits-fits binary64 _

outline_fits : (file : List ℕ) → OutlineFits (outline_of (request_of file))
unfolding request_of outline_of
outline_fits file = record { outer = take_fits outer (request_of file).coordinates all; holes = drop_fits outer (request_of file).coordinates all }
  where
    outer : ℕ
    outer = 2 * get_or (request_of file).lengths 0 0

    n : ℕ
    n = 2 * file_points file

    all : AllFit (tabulate n (coordinate_at file))
    all i lt =
        subst (λ (x : Float). T (fits binary64 x)) (sym (tabulate_at n (coordinate_at file) i nan (omega (arith, tabulate_length n (coordinate_at file)))))
        (coordinate_fits file i)

-- ---- the books

-- of every run of doubles
ran_paves : (o : Outline) (set : Settings) (l : Lent) → OutlineFits o → let r = run_answer o set l in Paves o set l r.answer r.lists
ran_paves o set l doubles = go (refusal_of o set l) refl
  where
    same : {r : Ran} → Paves o set l r.answer r.lists → let r = run_answer o set l in Paves o set l r.answer r.lists
    same p = subst (λ (w : Ran). Paves o set l w.answer w.lists) p.equal p

    go : (n : ℕ) → refusal_of o set l ≡ n → let r = run_answer o set l in Paves o set l r.answer r.lists
    go zero e =
        let r = accepted_run o set l in
        same (paves_accepted o set l e doubles r.answer r.lists refl)
    go (suc n) e = same {r = ran (Err (suc n)) l} (paves_refused o set l (suc n) (sym e) (λ z. absurd (omega arith)))

-- of what the program prints where it refuses nothing
pub books_printed : (file : List ℕ)
    → let q = request_of file in
    let r = run_answer (outline_of q) q.settings program_lent in
    IfOk r.answer (λ p. PavesBooks (outline_of q) q.settings p r.lists)
books_printed file = (ran_paves _ _ program_lent (outline_fits file)).books

pub origins_printed : (file : List ℕ)
    → let q = request_of file in
    let r = run_answer (outline_of q) q.settings program_lent in
    IfOk r.answer (λ p. PavesOrigins (outline_of q) q.settings program_lent.origins p r.lists)
origins_printed file = (ran_paves _ _ program_lent (outline_fits file)).origins

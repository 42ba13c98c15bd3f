-- `run::pave` meets its contract: refused, with nothing written; or run. Assumes nothing.
use Rattle.std.specs.Prelude.{◌≡◌, Err}
use Rattle.std.proofs.Common.{sym, arith}
use Rattle.std.proofs.lemmas.Grind.{common_steps}
use Rattle.outline.specs.Outline.{outline_of}
use Rattle.outline.proofs.Refused.{refusal_some}
use Rattle.run.specs.Lent.{lent_in}
use Rattle.run.proofs.Laws.{paves_accepted, paves_refused}
use Rattle.run.proofs.pave.Goals as goal

pub returns-in_err-check_places-clause-paves : goal.returns-in_err-check_places-clause-paves
returns-in_err-check_places-clause-paves c =
    let refusal = c.in_err-check_places.field-0.0 in
    let passed_on : c.from_residual.result ≡ Err refusal = grind (arith, common_steps) in
    let number = c.in_err-check_places.ensures in
    rw passed_on
    (paves_refused (outline_of c.args.domain) c.args.settings (lent_in c.args.lists.now) _ number (refusal_some refusal))

pub returns-clause-paves : goal.returns-clause-paves
returns-clause-paves c =
    paves_accepted (outline_of c.args.domain) c.args.settings (lent_in c.args.lists.now) (sym c.in_ok-check_places.ensures)
    (record { outer = λ i h. c.args.domain.doubles.outer i; holes = λ i h. c.args.domain.doubles.holes i }) _ _ c.pave_in.ensures.runs

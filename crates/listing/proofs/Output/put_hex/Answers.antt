use Rattle.std.specs.Prelude.{◌≡◌}
use Rattle.std.proofs.Common.{sym, ◌∙◌, ap}
use Rattle.std.proofs.lemmas.Result.{IfOk-at_ok}
use Rattle.hex.specs.Hex.{encode_lower}
use Rattle.listing.proofs.Digits.{hex_is}
use Rattle.listing.proofs.Puts.{put_as}
use Rattle.listing.proofs.Output.put_hex.Goals as goal

pub returns : goal.returns
returns c =
    let written = IfOk-at_ok (λ _. c.encode_to_slice.new.output ≡ encode_lower c.to_be_bytes.result) c.unwrap.ensures c.encode_to_slice.ensures.written in
    put_as (sym (written ∙ ap encode_lower c.to_be_bytes.ensures ∙ hex_is c.args.bits)) c.put_all.ensures

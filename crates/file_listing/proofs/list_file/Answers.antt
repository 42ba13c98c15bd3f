-- `file_listing::list_file` meets its contract: refused as the file is, or what was read listed. Assumes nothing.
use Rattle.std.proofs.Common.{refl, sym, ap, ◌∙◌}
use Rattle.outline.specs.Refusals.{numbered}
use Rattle.listing.specs.Listing.{refused_listing}
use Rattle.file_listing.specs.Laws.{RequestHeld}
use Rattle.file_listing.proofs.Laws.{given_as, read_held, read_listed, refused_as, refused_listed}
use Rattle.file_listing.proofs.list_file.Goals as goal
use Rattle.file_listing.proofs.list_file.Goals.{In-Ok}

-- what was read lies within the lists
held : (c : In-Ok) → RequestHeld c.read_file.new.points c.read_file.new.lens c.in-Ok.head
held c = read_held _ _ _ c.read_file.ensures refl refl (ap numbered c.in-Ok.is)

pub slice_bounds-list_request-end : goal.slice_bounds-list_request-end
slice_bounds-list_request-end c = sym (held (goal.at.slice_bounds-list_request-end c).In-Ok).point_places

pub slice_bounds-list_request-end-in-Ok : goal.slice_bounds-list_request-end-in-Ok
slice_bounds-list_request-end-in-Ok c = sym (held (goal.at.slice_bounds-list_request-end-in-Ok c).In-Ok).lens_places

pub list_request-requires : goal.list_request-requires
list_request-requires c = held (goal.at.list_request-requires c).In-Ok

pub returns-in-Ok : goal.returns-in-Ok
returns-in-Ok c = given_as (read_listed _ _ _ c.read_file.ensures refl refl (ap numbered c.in-Ok.is)) c.list_request.ensures

pub returns-in-Err : goal.returns-in-Err
returns-in-Err c =
    given_as (ap refused_listing c.from.ensures ∙ refused_as _ _ _ c.read_file.ensures refl refl _ (ap numbered c.in-Err.is))
    (refused_listed _ c.write_refused.ensures)

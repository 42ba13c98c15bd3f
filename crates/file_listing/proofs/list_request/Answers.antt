-- `file_listing::list_request` meets its contract: the parts of the list of points are an outline's.
use Rattle.file_listing.proofs.Slices.{take_doubles, drop_doubles}
use Rattle.file_listing.proofs.list_request.Goals as goal

pub invariant_of-domain : goal.invariant_of-domain
invariant_of-domain c =
    record {
      doubles = record {
        outer = take_doubles _ _ c.type_inv.points;
        holes = take_doubles _ _ (drop_doubles _ _ c.type_inv.points);
      };
    }

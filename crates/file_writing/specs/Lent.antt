-- A request as it is lent.
use Rattle.file_outline.specs.File.{Request, request}
use Rattle.file_writing.specs.declared.LentRequest.{LentRequest}

abbrev pub request_lent : LentRequest → Request
request_lent r = request r.settings r.points.now r.lens.now

-- `file_writing::LentRequest::write_file` meets its contract: refused, too short, or what the calls ensure makes it up.
use Rattle.file_writing.proofs.WriteLaws.{write_refused_lem, is_fileable, few_coordinates, write_short, blocks_room, write_whole}
use Rattle.file_writing.proofs.RoundTrip.{head_wide}
use Rattle.file_writing.proofs.Bytes.{first_block_put}
use Rattle.file_writing.specs.Lent.{request_lent}
use Rattle.std.proofs.Common.{arith, ap, ◌∙◌, not, length, length-take}
use Rattle.file_writing.proofs.LentRequest.write_file.Goals as goal

pub returns-then-not-can_file-clause-written : goal.returns-then-not-can_file-clause-written
returns-then-not-can_file-clause-written c =
    write_refused_lem (request_lent c.args.self) _ c.can_file.ensures (ap not c.if-not-can_file.true)

pub file_length-n-requires : goal.file_length-n-requires
file_length-n-requires c =
    few_coordinates (request_lent c.args.self) c.args.file.now c.can_file.ensures (ap not c.if-not-can_file.false)

pub returns-then-file-n-clause-written : goal.returns-then-file-n-clause-written
returns-then-file-n-clause-written c =
    write_short (request_lent c.args.self) c.args.file.now c.can_file.ensures
    (ap not c.if-not-can_file.false)
    c.file_length-n.ensures c.if-file-n.true

pub slice_bounds-copy_from_slice-end-2 : goal.slice_bounds-copy_from_slice-end-2
slice_bounds-copy_from_slice-end-2 c = omega (arith, length-take 512 c.args.file.now, c.file_length-n.ensures, c.if-file-n.false)

pub head_block-requires : goal.head_block-requires
head_block-requires c =
    (is_fileable (request_lent c.args.self) c.args.file.now c.can_file.ensures (ap not c.if-not-can_file.false)).few

pub copy_from_slice-requires : goal.copy_from_slice-requires
copy_from_slice-requires c =
    let fit = is_fileable (request_lent c.args.self) c.args.file.now c.can_file.ensures (ap not c.if-not-can_file.false) in
    omega (arith, length-take 512 c.args.file.now, ap length c.head_block.ensures, head_wide (request_lent c.args.self) fit, c.file_length-n.ensures, c.if-file-n.false)

pub write_blocks-requires : goal.write_blocks-requires
write_blocks-requires c =
    let fit = is_fileable (request_lent c.args.self) c.args.file.now c.can_file.ensures (ap not c.if-not-can_file.false) in
    let head = first_block_put c.args.file.now (c.copy_from_slice.ensures.after ∙ c.head_block.ensures)
    (head_wide (request_lent c.args.self) fit) (omega (arith, c.file_length-n.ensures, c.if-file-n.false)) in
    let room = blocks_room (request_lent c.args.self) c.args.file.now c.can_file.ensures
    (ap not c.if-not-can_file.false)
    c.file_length-n.ensures c.if-file-n.false head in
    (room.0, omega (arith, fit.adds), room.1)

pub returns-clause-written : goal.returns-clause-written
returns-clause-written c =
    let fit = is_fileable (request_lent c.args.self) c.args.file.now c.can_file.ensures (ap not c.if-not-can_file.false) in
    let head = first_block_put c.args.file.now (c.copy_from_slice.ensures.after ∙ c.head_block.ensures)
    (head_wide (request_lent c.args.self) fit) (omega (arith, c.file_length-n.ensures, c.if-file-n.false)) in
    write_whole (request_lent c.args.self) c.args.file.now c.can_file.ensures
    (ap not c.if-not-can_file.false)
    c.file_length-n.ensures c.if-file-n.false
    head c.write_blocks.ensures

use Rattle.std.proofs.Common.{arith}
use Rattle.aif_image.specs.Checks.{HasSizes, Sized}
use Rattle.sdt_listing.proofs.images.list_aif.Goals as goal

pub push_code-requires-clause-header : goal.push_code-requires-clause-header
push_code-requires-clause-header c =
    let ro = c.requires.reads.ro in let sizes : HasSizes c.args.bytes.now = c.requires.reads.checked Sized in omega arith

pub push_code-requires-clause-within : goal.push_code-requires-clause-within
push_code-requires-clause-within c =
    let ro = c.requires.reads.ro in let sizes : HasSizes c.args.bytes.now = c.requires.reads.checked Sized in omega arith

pub push_data-requires-clause-within : goal.push_data-requires-clause-within
push_data-requires-clause-within c =
    let ro = c.requires.reads.ro in
    let rw = c.requires.reads.rw in
    let sizes : HasSizes c.args.bytes.now = c.requires.reads.checked Sized in omega arith

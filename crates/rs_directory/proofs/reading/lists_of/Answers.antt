-- Every list is read from its own part of the bytes.
use Rattle.std.proofs.Common.{arith}
use Rattle.rs_directory.proofs.Entries.{three_read}
use Rattle.rs_directory.proofs.reading.lists_of.Goals as goal

pub returns : goal.returns
returns c =
    let x = c.in_ok-refs_of.ensures in
    let y = c.in_ok-refs_of-2.ensures in
    let z = c.in_ok-refs_of-3.ensures in
    three_read c.args.counts c.args.entries.now _ _ _ _ _ _ _ _ _ _
    (record { catalogue = omega arith; changes = omega arith; published = omega arith }) c.requires
    c.split_at.ensures.front c.split_at.ensures.back c.split_at-2.ensures.front c.split_at-2.ensures.back
    x.lawful x.found.1 x.found.2 y.lawful y.found.1 y.found.2 z.lawful z.found.1 z.found.2

use Rattle.wire.specs.Bytes.{straight}
use Rattle.wire.proofs.Positions.{length-bytes}
use Rattle.blocks.proofs.Padding.{range-bytes, padded_copy}
use Rattle.blocks.proofs.framing.padded.Goals as goal

pub returns : goal.returns
returns c =
    let a = c.args in
    let e = range-bytes a.s.now _ a.p a.n c.requires.0 c.copy_from_slice.ensures.after in
    rw e (padded_copy _ a.n 32 (length-bytes a.s.now (straight a.p) a.n) c.requires.1)

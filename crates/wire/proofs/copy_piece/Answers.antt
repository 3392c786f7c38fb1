use Rattle.wire.proofs.Positions.{copied_by_way}
use Rattle.wire.proofs.copy_piece.Goals as goal

pub returns : goal.returns
returns c =
    rw (c.copy_bytes-2.ensures, c.copy_bytes.ensures) (rw (copied_by_way _ _ _ _ c.requires.n_bound))

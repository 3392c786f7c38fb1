use native.Mathlib.Omega.{arith}
use lib.ListN.{length-replicate}
use Rattle.tables.proofs.Entries.{fresh-table}
use Rattle.tables.proofs.fresh.Goals as goal

pub returns : goal.returns
returns c = record { size = simp length-replicate (omega arith); sent = fresh-table 0 (omega arith); held = fresh-table 1568 (omega arith) }
